-- Which numbers answer a row: of a store that isn't broken exactly those below the number of its rows; and every number that a try lists answers one of the
-- store as it would be after the load, of a record one that is stored.
use mathlib.Core.Path.{◌≡◌, refl, sym, ap, subst, ◌∙◌}
use mathlib.Core.Bool.{Bool, true, false, false≢true}
use mathlib.Core.Option.{Option, none, some, some-injective}
use mathlib.Core.List.Memᴰ
use mathlib.Core.List.{List, [], ◌∷◌, map, Memᴰ}
use mathlib.Core.Logic.{◌⊎◌, inl, inr}
use Prim.Native.Nat.{ℕ, suc, ◌+◌, ◌<◌}
use native.Mathlib.Omega.{arith}
use lib.ListN.{length}
use lib.Dec.{eqb}
use borrow.Author.Tests.{eq-eqb, eqb-true}
use Rattle.definition.specs.Lists.{is_some}
use Rattle.definition.specs.Requests.{Request, at}
use Rattle.definition.specs.Loading.{with_entry}
use Rattle.definition.specs.Constraints.{Tie, Subtype, World}
use Rattle.definition.specs.Tables.{Tables, RowNumbers, world_of, view}
use Rattle.definition.specs.Broken.{broken, numbered}
use Rattle.definition.specs.Calls.{Load, load_record, numbered_on}
use Rattle.definition.specs.Reasons.{Link, link, tie_links, subtype_links, links, Upward, Breaks}
use Rattle.layout.specs.InTurn.{in-turn-words}
use Rattle.layout.specs.NumberedRows.{none-numbered-on}
use Rattle.layout.specs.Unbroken.{broken-false}
use Rattle.unbroken.specs.Tried.{Lists}
use Rattle.definition.specs.Listing.{Row, tie_row, subtype_row, row_numbered, row_of}

-- a number that one of the rows has answers that row, and no other number does
found_first : (xs : List Row) (ns : List ℕ) → length xs ≡ length ns → (k : ℕ) → Memᴰ k ns → is_some (row_numbered xs ns k) ≡ true
unfolding row_numbered is_some
found_first [] [] e k m = absurd (Memᴰ.not-nil m)
found_first [] (n ∷ ns) e k m = absurd (omega (arith, e))
found_first (x ∷ xs) [] e k m = absurd (omega (arith, e))
found_first (x ∷ xs) (n ∷ ns) e k m = go (eqb n k) refl (Memᴰ.cases_cons m) (λ r. found_first xs ns (omega (arith, e)) k r)
  where
    go : (b : Bool) → eqb n k ≡ b → (k ≡ n) ⊎ Memᴰ k ns → (Memᴰ k ns → is_some (row_numbered xs ns k) ≡ true)
        → is_some {A = Row} (elim b as (λ _. Option Row) [ true ↦ some x | false ↦ row_numbered xs ns k ]) ≡ true
    go true q c ih = refl
    go false q (inl z) ih = absurd (false≢true (sym q ∙ eq-eqb n k (sym z)))
    go false q (inr r) ih = ih r

found-only : (xs : List Row) (ns : List ℕ) (k : ℕ) → is_some (row_numbered xs ns k) ≡ true → Memᴰ k ns
unfolding row_numbered is_some
found-only [] ns k h = absurd (false≢true h)
found-only (x ∷ xs) [] k h = absurd (false≢true h)
found-only (x ∷ xs) (n ∷ ns) k h = go (eqb n k) refl h (λ r. found-only xs ns k r)
  where
    go : (b : Bool) → eqb n k ≡ b → is_some {A = Row} (elim b as (λ _. Option Row) [ true ↦ some x | false ↦ row_numbered xs ns k ]) ≡ true
        → (is_some (row_numbered xs ns k) ≡ true → Memᴰ k ns) → Memᴰ k (n ∷ ns)
    go true q e ih = Memᴰ.head (sym (eqb-true n k q))
    go false q e ih = Memᴰ.tail (ih e)

module _ (ts : List Tie) (ss : List Subtype) (m : RowNumbers) (k : ℕ) where
  abbrev tied : Option Row
  tied = row_numbered (map tie_row ts) m.ties k

  abbrev below : Option Row
  below = row_numbered (map subtype_row ss) m.subtypes k

  pub either-there : (is_some tied ≡ true) ⊎ (is_some below ≡ true) → is_some (row_of ts ss m k) ≡ true
  unfolding row_of is_some
  either-there c = go tied below c
    where
      go : (a b : Option Row) → (is_some a ≡ true) ⊎ (is_some b ≡ true) → is_some {A = Row} (elim a as (λ _. Option Row) [ some x ↦ some x | none ↦ b ]) ≡ true
      go (some x) b c = refl
      go none b (inl h) = absurd (false≢true h)
      go none b (inr h) = h

  pub there-either : is_some (row_of ts ss m k) ≡ true → (is_some tied ≡ true) ⊎ (is_some below ≡ true)
  unfolding row_of is_some
  there-either h = go tied below h
    where
      go : (a b : Option Row) → is_some {A = Row} (elim a as (λ _. Option Row) [ some x ↦ some x | none ↦ b ]) ≡ true → (is_some a ≡ true) ⊎ (is_some b ≡ true)
      go (some x) b h = inl refl
      go none b h = inr h

pub length-map : {A B : Type 0} (f : A → B) (xs : List A) → length (map f xs) ≡ length xs
length-map f [] = refl
length-map f (x ∷ xs) = ap suc (length-map f xs)

-- Of rows whose numbers are in turn, exactly those below their count answer
module _ (ts : List Tie) (ss : List Subtype) (m : RowNumbers) (h : numbered m ≡ true) (a : length ts ≡ length m.ties) (b : length ss ≡ length m.subtypes) (k : ℕ) where
  pub number-there : k < length ts + length ss → is_some (row_of ts ss m k) ≡ true
  number-there l = either-there ts ss m k (go ((in-turn-words m h).each k (omega arith) (omega (arith, a, b))))
    where
      go : Memᴰ k m.ties ⊎ Memᴰ k m.subtypes → (is_some (tied ts ss m k) ≡ true) ⊎ (is_some (below ts ss m k) ≡ true)
      go (inl x) = inl (found_first (map tie_row ts) m.ties (length-map tie_row ts ∙ a) k x)
      go (inr x) = inr (found_first (map subtype_row ss) m.subtypes (length-map subtype_row ss ∙ b) k x)

  pub there-number : is_some (row_of ts ss m k) ≡ true → k < length ts + length ss
  there-number e = go (there-either ts ss m k e)
    where
      go : (is_some (tied ts ss m k) ≡ true) ⊎ (is_some (below ts ss m k) ≡ true) → k < length ts + length ss
      go (inl x) = omega (arith, ((in-turn-words m h).within k (inl (found-only (map tie_row ts) m.ties k x))).1, a, b)
      go (inr x) = omega (arith, ((in-turn-words m h).within k (inr (found-only (map subtype_row ss) m.subtypes k x))).1, a, b)

-- Of a store that isn't broken: a row for every number below the count of its constraints, and for no other
module _ (t : Tables) (h : broken t ≡ false) (k : ℕ) where
  abbrev stored : Option Row
  stored = row_of (view t).ties (view t).subtypes (view t).numbers k

  pub stored_there : k < length (view t).ties + length (view t).subtypes → is_some stored ≡ true
  stored_there =
      let n = (broken-false t h).1.numbers in
      number-there (view t).ties (view t).subtypes (view t).numbers n.turn (sym n.ties) (sym n.subtypes) k

  pub there-stored : is_some stored ≡ true → k < length (view t).ties + length (view t).subtypes
  there-stored =
      let n = (broken-false t h).1.numbers in
      there-number (view t).ties (view t).subtypes (view t).numbers n.turn (sym n.ties) (sym n.subtypes) k

-- Links are of rows

-- of a number that is the first's, or has a row among the others
first-or : (x : Row) (xs : List Row) (n : ℕ) (ns : List ℕ) (k : ℕ) → (k ≡ n) ⊎ (is_some (row_numbered xs ns k) ≡ true) → is_some (row_numbered (x ∷ xs) (n ∷ ns) k) ≡ true
unfolding row_numbered is_some
first-or x xs n ns k c = go (eqb n k) refl c
  where
    go : (b : Bool) → eqb n k ≡ b → (k ≡ n) ⊎ (is_some (row_numbered xs ns k) ≡ true)
        → is_some {A = Row} (elim b as (λ _. Option Row) [ true ↦ some x | false ↦ row_numbered xs ns k ]) ≡ true
    go true q c = refl
    go false q (inl z) = absurd (false≢true (sym q ∙ eq-eqb n k (sym z)))
    go false q (inr r) = r

tie-link : (ts : List Tie) (ns : List ℕ) (l : Link) → Memᴰ l (tie_links ts ns) → is_some (row_numbered (map tie_row ts) ns l.row) ≡ true
unfolding tie_links
tie-link [] ns l m = absurd (Memᴰ.not-nil m)
tie-link (t ∷ ts) [] l m = absurd (Memᴰ.not-nil m)
tie-link (t ∷ ts) (n ∷ ns) l m = first-or (tie_row t) (map tie_row ts) n ns l.row (elim (Memᴰ.cases_cons m) [
  | inl z ↦ inl (ap (λ (x : Link). x.row) z)
  | inr r ↦ elim (Memᴰ.cases_cons r) [ inl z ↦ inl (ap (λ (x : Link). x.row) z) | inr q ↦ inr (tie-link ts ns l q) ]
])

subtype-link : (ss : List Subtype) (ns : List ℕ) (l : Link) → Memᴰ l (subtype_links ss ns) → is_some (row_numbered (map subtype_row ss) ns l.row) ≡ true
unfolding subtype_links
subtype-link [] ns l m = absurd (Memᴰ.not-nil m)
subtype-link (s ∷ ss) [] l m = absurd (Memᴰ.not-nil m)
subtype-link (s ∷ ss) (n ∷ ns) l m = first-or (subtype_row s) (map subtype_row ss) n ns l.row (elim (Memᴰ.cases_cons m) [
  | inl z ↦ inl (ap (λ (x : Link). x.row) z)
  | inr r ↦ inr (subtype-link ss ns l r)
])

module _ (w : World) (m : RowNumbers) where
  link_row : (l : Link) → Memᴰ l (links w m) → is_some (row_of w.ties w.subtypes m l.row) ≡ true
  link_row l x = either-there w.ties w.subtypes m l.row (elim (Memᴰ.append_cases (tie_links w.ties m.ties) x) [
    | inl a ↦ inl (tie-link w.ties m.ties l a)
    | inr a ↦ inr (subtype-link w.subtypes m.subtypes l a)
  ])

  chain-rows : (a : Request) (qs : List Request) (ns : List ℕ) (b : Request) → Upward (links w m) a qs ns b → (k : ℕ) → Memᴰ k ns → is_some (row_of w.ties w.subtypes m k) ≡ true
  chain-rows a [] [] b u k x = absurd (Memᴰ.not-nil x)
  chain-rows a [] (n ∷ ns) b u k x = absurd u
  chain-rows a (q ∷ qs) [] b u k x = absurd u
  chain-rows a (q ∷ qs) (n ∷ ns) b u k x = elim (Memᴰ.cases_cons x) [
    | inl z ↦ subst (λ (i : ℕ). is_some (row_of w.ties w.subtypes m i) ≡ true) (sym z) (link_row (link n a q) u.0)
    | inr r ↦ chain-rows q qs ns b u.1 k r
  ]

  pub breaks-rows : (ns : List ℕ) → Breaks w m ns → (k : ℕ) → Memᴰ k ns → is_some (row_of w.ties w.subtypes m k) ≡ true
  breaks-rows ns h = chain-rows h.first h.through ns h.last h.upward

-- Every number that a try lists answers a row of the store as it would be after the load
module _ (c : Load) (out : List ℕ) (t : Tables) (h : Lists c out t) where
  pub listed-answers : (k : ℕ) → Memᴰ k h.reasoned.chain
      → is_some (row_of h.reasoned.world.ties h.reasoned.world.subtypes (numbered_on h.reasoned.world.ties h.reasoned.world.subtypes (view t)) k) ≡ true
  listed-answers = breaks-rows h.reasoned.world (numbered_on h.reasoned.world.ties h.reasoned.world.subtypes (view t)) h.reasoned.chain h.reasoned.breaks

-- and of a record a stored one, since it posts none
pub record-answers : (l n c : ℕ) (out : List ℕ) (t : Tables) (h : Lists (load_record l n c) out t) (k : ℕ) → Memᴰ k h.reasoned.chain
    → is_some (row_of (view t).ties (view t).subtypes (view t).numbers k) ≡ true
record-answers l n c out t h k x =
    let e : with_entry (world_of (view t)) (at l n) c ≡ h.reasoned.world = some-injective _ _ h.reasoned.left in
    subst (λ (m : RowNumbers). is_some (row_of (view t).ties (view t).subtypes m k) ≡ true) (none-numbered-on (view t))
    (subst (λ (w : World). is_some (row_of w.ties w.subtypes (numbered_on w.ties w.subtypes (view t)) k) ≡ true) (sym e) (listed-answers (load_record l n c) out t h k x))
