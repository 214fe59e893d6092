-- What a sweep leaves, of any rows of objects and any frames: an object is in use afterwards exactly if it was and is reached (`sweep-left`, `sweep-keeps`), and
-- is then the same; the answer is how many fewer are in use (`sweep-freed`); a second sweep frees none (`sweep-again`, `sweep-rests`); where there is no frame, none is left (`sweep-none`).
use Rattle.std.specs.Prelude.{◌≡◌, Bool, ◌⊎◌, eqb}
use Rattle.std.proofs.Math.Path.{refl}
use Rattle.std.proofs.Common.{sym, ap, ◌∙◌, inl, inr}
use Rattle.std.proofs.Math.Bool.{true, false}
use Rattle.std.proofs.lemmas.Bool.{false≢true}
use Rattle.std.proofs.Math.Option.{Option, none, some, none-ne-some, some-injective}
use mathlib.Core.List.{List, [], ◌∷◌, ◌++◌, map, Memᴰ}
use Prim.Native.Nat.{ℕ, zero, suc, ◌+◌, ◌≤◌}
use native.Mathlib.Omega.{arith}
use Rattle.std.proofs.Math.ListN.{get_elem?}
use Rattle.definition.specs.Chains.{Edge, Chain, stay, hop, has}
use Rattle.definition.specs.Instructions.{pick}
use Rattle.definition.specs.Machine.{Object, ObjectRow, free, owned, Objects, object_held, existing, in_use, made_by, Frame}
use Rattle.definition.specs.Sweeping.{named, roots, links_from, links, Reached, reached, swept_from, freed_from}
use Rattle.laws.specs.Chains.{numbers, has-member, member-has, reached-chain, chain-reached}
use Rattle.laws.specs.Objects.{existing-tail, existing-none}

-- The search finds what is reached

pub found-reached : (os : Objects) (fs : List Frame) (o : ℕ) → has eqb o (reached os fs) ≡ true → Reached os fs o
unfolding reached
found-reached os fs o h =
    let c = reached-chain numbers (links os) (roots fs) o h in
    record { root = c.0; is_root = has-member numbers c.0 (roots fs) c.1; chain = c.2 }

pub reached-found : (os : Objects) (fs : List Frame) (o : ℕ) → Reached os fs o → has eqb o (reached os fs) ≡ true
unfolding reached
reached-found os fs o r = chain-reached numbers (links os) (roots fs) r.root o (member-has numbers r.root (roots fs) r.is_root) r.chain

-- Links go from an object that exists to those that its values name

pub member-left : {A : Type 0} {x : A} (xs ys : List A) → Memᴰ x xs → Memᴰ x (xs ++ ys)
member-left {A = A} [] ys never = elim never [ ]
member-left (y ∷ xs) ys (mathlib.Core.List.Memᴰ.head e) = mathlib.Core.List.Memᴰ.head e
member-left (y ∷ xs) ys (mathlib.Core.List.Memᴰ.tail m) = mathlib.Core.List.Memᴰ.tail (member-left xs ys m)

pub member_right : {A : Type 0} {x : A} (xs ys : List A) → Memᴰ x ys → Memᴰ x (xs ++ ys)
member_right [] ys m = m
member_right (y ∷ xs) ys m = mathlib.Core.List.Memᴰ.tail (member_right xs ys m)

pub member-either : {A : Type 0} {x : A} (xs ys : List A) → Memᴰ x (xs ++ ys) → Memᴰ x xs ⊎ Memᴰ x ys
member-either [] ys m = inr m
member-either (y ∷ xs) ys (mathlib.Core.List.Memᴰ.head e) = inl (mathlib.Core.List.Memᴰ.head e)
member-either (y ∷ xs) ys (mathlib.Core.List.Memᴰ.tail m) = elim (member-either xs ys m) [ inl a ↦ inl (mathlib.Core.List.Memᴰ.tail a) | inr b ↦ inr b ]

-- The roots of both tasks

more-behind : (os ps qs : List ℕ) (o : ℕ) → (Memᴰ o ps → Memᴰ o qs) → Memᴰ o (os ++ ps) → Memᴰ o (os ++ qs)
more-behind [] ps qs o k m = k m
more-behind (x ∷ os) ps qs o k (mathlib.Core.List.Memᴰ.head e) = mathlib.Core.List.Memᴰ.head e
more-behind (x ∷ os) ps qs o k (mathlib.Core.List.Memᴰ.tail m) = mathlib.Core.List.Memᴰ.tail (more-behind os ps qs o k m)

pub roots-left : (qs rs : List Frame) (o : ℕ) → Memᴰ o (roots qs) → Memᴰ o (roots (qs ++ rs))
unfolding roots
roots-left [] rs o m = absurd (mathlib.Core.List.Memᴰ.not-nil m)
roots-left (f ∷ qs) rs o m = more-behind (named f.operands) _ _ o (more-behind (named f.locals) _ _ o (roots-left qs rs o)) m

pub roots-right : (qs rs : List Frame) (o : ℕ) → Memᴰ o (roots rs) → Memᴰ o (roots (qs ++ rs))
unfolding roots
roots-right [] rs o m = m
roots-right (f ∷ qs) rs o m = member_right (named f.operands) _ (member_right (named f.locals) _ (roots-right qs rs o m))

abbrev link : ℕ → ℕ → Edge ℕ
link o p = record { from = o; to = p }

own-link : (o p : ℕ) (ps : List ℕ) → Memᴰ p ps → Memᴰ (link o p) (map (link o) ps)
own-link o p [] never = elim never [ ]
own-link o p (q ∷ ps) (mathlib.Core.List.Memᴰ.head e) = mathlib.Core.List.Memᴰ.head (ap (link o) e)
own-link o p (q ∷ ps) (mathlib.Core.List.Memᴰ.tail m) = mathlib.Core.List.Memᴰ.tail (own-link o p ps m)

link-own : (i o p : ℕ) (ps : List ℕ) → Memᴰ (link o p) (map (link i) ps) → (o ≡ i) × Memᴰ p ps
link-own i o p [] m = absurd (mathlib.Core.List.Memᴰ.not-nil m)
link-own i o p (q ∷ ps) (mathlib.Core.List.Memᴰ.head e) = (ap (λ (z : Edge ℕ). z.from) e, mathlib.Core.List.Memᴰ.head (ap (λ (z : Edge ℕ). z.to) e))
link-own i o p (q ∷ ps) (mathlib.Core.List.Memᴰ.tail m) = let h = link-own i o p ps m in (h.0, mathlib.Core.List.Memᴰ.tail h.1)

links-to : (i : ℕ) (os : Objects) (o : ℕ) (x : Object) (p : ℕ) → existing os o ≡ some x → Memᴰ p (named x.values) → Memᴰ (link (i + o) p) (links_from i os)
unfolding links_from
links-to i [] o x p e m = absurd (none-ne-some x (sym (existing-none o) ∙ e))
links-to i (free ∷ os) zero x p e m = absurd (none-ne-some x (unfold existing object_held in e))
links-to i (free ∷ os) (suc o) x p e m = let z : i + suc o ≡ suc i + o = omega arith in rw z (links-to (suc i) os o x p (sym (existing-tail free os o) ∙ e) m)
links-to i (owned k y ∷ os) zero x p e m =
    let z : i + 0 ≡ i = omega arith in
    let q : y ≡ x = some-injective y x (unfold existing object_held in e) in
    rw z (member-left (map (link i) (named y.values)) (links_from (suc i) os) (own-link i p (named y.values) (rw q m)))
links-to i (owned k y ∷ os) (suc o) x p e m =
    let z : i + suc o ≡ suc i + o = omega arith in
    rw z (member_right (map (link i) (named y.values)) (links_from (suc i) os) (links-to (suc i) os o x p (sym (existing-tail (owned k y) os o) ∙ e) m))

-- an object o, counted from i, with a value that names p
pub record Links (i : ℕ) (os : Objects) (o p : ℕ) : Type 0 where
  pub place : ℕ
  pub is_place : o ≡ i + place
  pub object : Object
  pub is_object : existing os place ≡ some object
  pub names : Memᴰ p (named object.values)

links-later : (i : ℕ) (y : ObjectRow) (os : Objects) (o p : ℕ) → Links (suc i) os o p → Links i (y ∷ os) o p
links-later i y os o p l = record {
  place = suc l.place;
  is_place = omega (arith, l.is_place);
  object = l.object;
  is_object = existing-tail y os l.place ∙ l.is_object;
  names = l.names;
}

links-from : (i : ℕ) (os : Objects) (o p : ℕ) → Memᴰ (link o p) (links_from i os) → Links i os o p
unfolding links_from
links-from i [] o p m = absurd (mathlib.Core.List.Memᴰ.not-nil m)
links-from i (free ∷ os) o p m = links-later i free os o p (links-from (suc i) os o p m)
links-from i (owned k x ∷ os) o p m = go (member-either (map (link i) (named x.values)) (links_from (suc i) os) m) (λ n. links-from (suc i) os o p n)
  where
    go : Memᴰ (link o p) (map (link i) (named x.values)) ⊎ Memᴰ (link o p) (links_from (suc i) os) → (Memᴰ (link o p) (links_from (suc i) os) → Links (suc i) os o p)
        → Links i (owned k x ∷ os) o p
    go (inl a) f =
        let h = link-own i o p (named x.values) a in
        record { place = 0; is_place = h.0 ∙ omega arith; object = x; is_object = unfold existing object_held in refl; names = h.1 }
    go (inr b) f = links-later i (owned k x) os o p (f b)

-- a link, as the machine reads it
pub link-names : (os : Objects) (o p : ℕ) → Memᴰ (link o p) (links os) → (x : Object) × (existing os o ≡ some x) × Memᴰ p (named x.values)
link-names os o p m =
    let l = links-from 0 os o p m in
    let e : o ≡ l.place = omega (arith, l.is_place) in
    (l.object, ap (existing os) e ∙ l.is_object, l.names)

pub names-link : (os : Objects) (o : ℕ) (x : Object) (p : ℕ) → existing os o ≡ some x → Memᴰ p (named x.values) → Memᴰ (link o p) (links os)
names-link os o x p e m = let z : 0 + o ≡ o = omega arith in rw z at (links-to 0 os o x p e m)

-- Rows swept, by any list of those that stay

swept-from : (R : List ℕ) (i : ℕ) (os : Objects) (o : ℕ) → existing (swept_from R i os) o ≡ pick (has eqb (i + o) R) (existing os o) none
unfolding swept_from
swept-from R i [] o = go (has eqb (i + o) R)
  where
    go : (u : Bool) → existing [] o ≡ pick u (existing [] o) none
    go true = unfold pick in refl
    go false = unfold pick in existing-none o
swept-from R i (x ∷ os) zero = let z : i + 0 ≡ i = omega arith in rw z (go (has eqb i R))
  where
    go : (u : Bool) → existing (pick u x free ∷ swept_from R (suc i) os) 0 ≡ pick u (existing (x ∷ os) 0) none
    go true = unfold pick existing in refl
    go false = unfold pick existing object_held in refl
swept-from R i (x ∷ os) (suc o) =
    let z : i + suc o ≡ suc i + o = omega arith in
    rw z (existing-tail _ (swept_from R (suc i) os) o ∙ (swept-from R (suc i) os o ∙ ap (λ (y : Option Object). pick (has eqb (suc i + o) R) y none) (sym (existing-tail x os o))))

pub swept-is : (R : List ℕ) (os : Objects) (o : ℕ) → existing (swept_from R 0 os) o ≡ pick (has eqb o R) (existing os o) none
swept-is R os o = let z : 0 + o ≡ o = omega arith in rw z at (swept-from R 0 os o)

-- row by row: as it was, or free
row_from : (R : List ℕ) (i : ℕ) (os : Objects) (o : ℕ) (x : ObjectRow) → get_elem? os o ≡ some x → get_elem? (swept_from R i os) o ≡ some (pick (has eqb (i + o) R) x free)
unfolding swept_from
row_from R i [] o x e = absurd (none-ne-some x e)
row_from R i (y ∷ os) zero x e = let z : i + 0 ≡ i = omega arith in rw (z, some-injective y x e) refl
row_from R i (y ∷ os) (suc o) x e = let z : i + suc o ≡ suc i + o = omega arith in rw z (row_from R (suc i) os o x e)

pub swept-row : (R : List ℕ) (os : Objects) (o : ℕ) (x : ObjectRow) → get_elem? os o ≡ some x → get_elem? (swept_from R 0 os) o ≡ some (pick (has eqb o R) x free)
swept-row R os o x e = let z : 0 + o ≡ o = omega arith in rw z at (row_from R 0 os o x e)

free-either : (u : Bool) → pick u free free ≡ free
unfolding pick
free-either true = refl
free-either false = refl

-- as many as are freed are no longer in use
pub swept-freed : (R : List ℕ) (i : ℕ) (os : Objects) → in_use os ≡ in_use (swept_from R i os) + freed_from R i os
unfolding swept_from freed_from in_use
swept-freed R i [] = refl
swept-freed R i (free ∷ os) = rw (free-either (has eqb i R)) (swept-freed R (suc i) os)
swept-freed R i (owned k x ∷ os) = go (has eqb i R) (swept-freed R (suc i) os)
  where
    go : (u : Bool) → in_use os ≡ in_use (swept_from R (suc i) os) + freed_from R (suc i) os
        → suc (in_use os) ≡ in_use (pick u (owned k x) free ∷ swept_from R (suc i) os)
        + (elim u as (λ _. ℕ) [ true ↦ freed_from R (suc i) os | false ↦ suc (freed_from R (suc i) os) ])
    go true e = unfold pick in omega arith
    go false e = unfold pick in omega arith

-- where none is freed, the rows are as they were
pub none-freed : (R : List ℕ) (i : ℕ) (os : Objects) → freed_from R i os ≡ 0 → swept_from R i os ≡ os
unfolding swept_from freed_from pick
none-freed R i [] h = refl
none-freed R i (free ∷ os) h = let r : swept_from R (suc i) os ≡ os = none-freed R (suc i) os h in λ j. free-either (has eqb i R) j ∷ r j
none-freed R i (owned k x ∷ os) h = go (has eqb i R) h (none-freed R (suc i) os)
  where
    go : (u : Bool) → ◌≡◌ {A = ℕ} (elim u as (λ _. ℕ) [ true ↦ freed_from R (suc i) os | false ↦ suc (freed_from R (suc i) os) ]) 0 → (freed_from R (suc i) os ≡ 0 → swept_from R (suc i) os ≡ os)
        → ◌≡◌ {A = Objects} (pick u (owned k x) free ∷ swept_from R (suc i) os) (owned k x ∷ os)
    go true e f = let r : swept_from R (suc i) os ≡ os = f e in λ j. owned k x ∷ r j
    go false e f = absurd (omega arith)

-- What a sweep leaves

module _ (os : Objects) (fs : List Frame) where
  abbrev pub swept : Objects
  swept = swept_from (reached os fs) 0 os

  abbrev pub freed : ℕ
  freed = freed_from (reached os fs) 0 os

  -- an object that is reached is still there: its number, its class and every field
  pub sweep-keeps : (o : ℕ) (x : Object) → existing os o ≡ some x → Reached os fs o → existing swept o ≡ some x
  unfolding pick
  sweep-keeps o x e r = swept-is (reached os fs) os o ∙ rw (reached-found os fs o r) e

  -- an object that is there afterwards was there, and is reached
  pub sweep-left : (o : ℕ) (x : Object) → existing swept o ≡ some x → (existing os o ≡ some x) × Reached os fs o
  sweep-left o x e = go (has eqb o (reached os fs)) refl (sym (swept-is (reached os fs) os o) ∙ e)
    where
      go : (u : Bool) → has eqb o (reached os fs) ≡ u → pick u (existing os o) none ≡ some x → (existing os o ≡ some x) × Reached os fs o
      go true h q = (unfold pick in q, found-reached os fs o h)
      go false h q = absurd (none-ne-some x (unfold pick in q))

  -- as many are freed as it answers
  pub sweep-freed : in_use os ≡ in_use swept + freed
  sweep-freed = swept-freed (reached os fs) 0 os

  -- What was reached is still reached: a chain's objects are all reached, so their links are still there

  chain-stays : (a b : ℕ) → Chain (links os) a b → Memᴰ a (roots fs) → Chain (links swept) a b
  chain-stays a b (stay e) m = stay e
  chain-stays a b (hop {b = c} h l) m =
      let n = link-names os c b l in
      hop (chain-stays a c h m) (names-link swept c n.0 b (sweep-keeps c n.0 n.1 (record { root = a; is_root = m; chain = h })) n.2)

  still-reached : (o : ℕ) → Reached os fs o → Reached swept fs o
  still-reached o r = record { root = r.root; is_root = r.is_root; chain = chain-stays r.root o r.chain r.is_root }

-- A list that has every object in use frees none

kept-all : (R : List ℕ) (i : ℕ) (os : Objects) → ((o : ℕ) (x : Object) → existing os o ≡ some x → has eqb (i + o) R ≡ true) → swept_from R i os ≡ os
unfolding swept_from
kept-all R i [] h = refl
kept-all R i (x ∷ os) h =
    let later : swept_from R (suc i) os ≡ os = kept-all R (suc i) os (λ o y e. (let z : i + suc o ≡ suc i + o = omega arith in rw z at (h (suc o) y (existing-tail x os o ∙ e)))) in
    let now : pick (has eqb i R) x free ≡ x = first x (has eqb i R) refl (λ y e. (let z : i + 0 ≡ i = omega arith in rw z at (h 0 y e))) in
    λ j. now j ∷ later j
  where
    first : (x : ObjectRow) (u : Bool) → has eqb i R ≡ u → ((y : Object) → existing (x ∷ os) 0 ≡ some y → has eqb i R ≡ true) → pick u x free ≡ x
    first free true e f = unfold pick in refl
    first free false e f = unfold pick in refl
    first (owned k y) true e f = unfold pick in refl
    first (owned k y) false e f = absurd (false≢true (sym e ∙ f y (unfold existing object_held in refl)))

-- a second sweep changes nothing, and so frees none
pub sweep-again : (os : Objects) (fs : List Frame) → swept (swept os fs) fs ≡ swept os fs
sweep-again os fs = kept-all (reached (swept os fs) fs) 0 (swept os fs) (λ o x e.
    (let z : 0 + o ≡ o = omega arith in rw z (reached-found (swept os fs) fs o (still-reached os fs o (sweep-left os fs o x e).1))))

pub sweep-rests : (os : Objects) (fs : List Frame) → freed (swept os fs) fs ≡ 0
sweep-rests os fs = let e : in_use (swept (swept os fs) fs) ≡ in_use (swept os fs) = ap in_use (sweep-again os fs) in omega (arith, e, sweep-freed (swept os fs) fs)

-- where there is no frame, no object is left
pub sweep-none : (os : Objects) (o : ℕ) → existing (swept os []) o ≡ none
sweep-none os o = swept-is (reached os []) os o ∙ go (has eqb o (reached os [])) refl
  where
    go : (u : Bool) → has eqb o (reached os []) ≡ u → pick u (existing os o) none ≡ none
    go true h =
        let r = found-reached os [] o h in
        let m : Memᴰ r.root [] = unfold roots in r.is_root in
        absurd (mathlib.Core.List.Memᴰ.not-nil m)
    go false h = unfold pick in refl

-- a sweep leaves no task more than it had
pub swept-made : (k : ℕ) (R : List ℕ) (o : ℕ) (os : Objects) → made_by k (swept_from R o os) ≤ made_by k os
unfolding swept_from made_by
swept-made k R o [] = omega arith
swept-made k R o (x ∷ os) = row x (has eqb o R) (swept-made k R (suc o) os)
  where
    row : (x : ObjectRow) (b : Bool) → made_by k (swept_from R (suc o) os) ≤ made_by k os → made_by k (pick b x free ∷ swept_from R (suc o) os) ≤ made_by k (x ∷ os)
    row free true l = unfold pick in l
    row free false l = unfold pick in l
    row (owned j y) true l = unfold pick in counted (eqb j k) l
      where
        counted : (b : Bool) → made_by k (swept_from R (suc o) os) ≤ made_by k os
            → (elim b as (λ _. ℕ) [ true ↦ suc (made_by k (swept_from R (suc o) os)) | false ↦ made_by k (swept_from R (suc o) os) ]) ≤ (elim b as (λ _. ℕ) [ true ↦ suc (made_by k os) | false ↦ made_by k os ])
        counted true l = omega arith
        counted false l = l
    row (owned j y) false l = unfold pick in counted (eqb j k) l
      where
        counted : (b : Bool) → made_by k (swept_from R (suc o) os) ≤ made_by k os → made_by k (swept_from R (suc o) os) ≤ (elim b as (λ _. ℕ) [ true ↦ suc (made_by k os) | false ↦ made_by k os ])
        counted true l = omega arith
        counted false l = l
