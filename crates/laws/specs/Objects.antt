-- Objects by number. The number that is taken is unused and the lowest, and none is left exactly if 256 are in use; an object made or changed leaves every other
-- as it was.
use Rattle.std.specs.Prelude.{◌≡◌, Bool, true, false, [], ◌∷◌, ◌⊎◌, ℕ, zero, suc, ◌+◌, ◌<◌, ◌≤◌, length, set, eqb}
use Rattle.std.proofs.Math.Path.{refl, ap}
use Rattle.std.proofs.Common.{sym, ◌∙◌, inl, inr, arith, leb-true, leb-false, le-leb}
use Rattle.std.proofs.Math.Option.{Option, none, some, some-injective, none-ne-some}
use Rattle.std.proofs.Math.Nat.{suc_inj}
use Rattle.std.proofs.Math.ListN.{get_elem?}
use Rattle.definition.specs.Machine.{Object, ObjectRow, free, owned, Objects, object_held, existing, Exists, in_use, unused, made, made_by, roomless, share_used, rewritten, changed}

-- The first row, and the rows behind it

pub existing-tail : (x : ObjectRow) (os : Objects) (o : ℕ) → existing (x ∷ os) (suc o) ≡ existing os o
unfolding existing
existing-tail x os o = refl

pub existing-head : (x : ObjectRow) (os : Objects) → existing (x ∷ os) 0 ≡ object_held x
unfolding existing
existing-head x os = refl

pub existing-none : (o : ℕ) → existing [] o ≡ none
unfolding existing
existing-none o = refl

-- an owned row's object exists
pub existing-owned : (os : Objects) (o k : ℕ) (x : Object) → get_elem? os o ≡ some (owned k x) → existing os o ≡ some x
unfolding existing object_held
existing-owned os o k x e = rw (e, existing) refl

-- a number that is used lies among the rows
pub exists_lt : (os : Objects) (o : ℕ) → Exists os o → o < length os
exists_lt [] o h = absurd (none-ne-some h.0 (sym (existing-none o) ∙ h.1))
exists_lt (x ∷ os) zero h = omega arith
exists_lt (x ∷ os) (suc o) h = let l = exists_lt os o (h.0, sym (existing-tail x os o) ∙ h.1) in omega arith

-- The number that is taken: unused, and every lower one is in use

pub unused-free : (os : Objects) → existing os (unused os) ≡ none
unfolding unused existing object_held
unused-free [] = refl
unused-free (free ∷ os) = refl
unused-free (owned k x ∷ os) = unused-free os

pub unused-lowest : (os : Objects) (o : ℕ) → o < unused os → Exists os o
unfolding unused
unused-lowest [] o l = absurd (omega arith)
unused-lowest (free ∷ os) o l = absurd (omega arith)
unused-lowest (owned k x ∷ os) zero l = (x, unfold existing object_held in refl)
unused-lowest (owned k x ∷ os) (suc o) l = let h = unused-lowest os o (omega arith) in (h.0, existing-tail (owned k x) os o ∙ h.1)

-- Room: as many numbers are in use as there are, or one is unused

pub in-use-few : (os : Objects) → in_use os ≤ length os
unfolding in_use
in-use-few [] = omega arith
in-use-few (free ∷ os) = let h = in-use-few os in omega arith
in-use-few (owned k x ∷ os) = let h = in-use-few os in omega arith

unused-in-use : (os : Objects) → unused os ≤ in_use os
unfolding unused in_use
unused-in-use [] = omega arith
unused-in-use (free ∷ os) = omega arith
unused-in-use (owned k x ∷ os) = let h = unused-in-use os in omega arith

in-use-all : (os : Objects) → in_use os ≡ length os → unused os ≡ length os
unfolding unused in_use
in-use-all [] e = refl
in-use-all (free ∷ os) e = absurd (omega (arith, in-use-few os))
in-use-all (owned k x ∷ os) e = ap suc (in-use-all os (suc_inj e))

-- 'full' for objects: exactly if 256 are in use
pub full-in-use : (k : ℕ) (os : Objects) → length os ≤ 256 → roomless k os ≡ true → in_use os ≡ 256
unfolding roomless
full-in-use k os l h = omega (arith, leb-true 256 (unused os) h, unused-in-use os, in-use-few os)

pub in-use-full : (k : ℕ) (os : Objects) → length os ≤ 256 → in_use os ≡ 256 → roomless k os ≡ true
unfolding roomless
in-use-full k os l e =
    let n : in_use os ≡ length os = omega (arith, in-use-few os) in
    le-leb 256 (unused os) (omega (arith, in-use-all os n))

-- Whose they are: each is the quote's or the report's, and where the quote has no room, 64 or more are its own

abbrev pub Tasked : Objects → Type 0
Tasked [] = Unit {0}
Tasked (free ∷ os) = Tasked os
Tasked (owned k x ∷ os) = (k < 2) × Tasked os

pub made-by-both : (os : Objects) → Tasked os → made_by 0 os + made_by 1 os ≡ in_use os
unfolding made_by in_use
made-by-both [] h = refl
made-by-both (free ∷ os) h = made-by-both os h
made-by-both (owned zero x ∷ os) h = let e = made-by-both os h.1 in omega arith
made-by-both (owned (suc zero) x ∷ os) h = let e = made-by-both os h.1 in omega arith
made-by-both (owned (suc (suc k)) x ∷ os) h = let l = h.0 in absurd (omega arith)

pub quote-roomless : (os : Objects) → Tasked os → made_by 1 os ≤ 192 → roomless 0 os ≡ true → 64 ≤ made_by 0 os
unfolding roomless
quote-roomless os h l r = omega (arith, made-by-both os h, unused-in-use os, leb-true 256 (unused os) r, l)

-- an object made is counted, one that is changed as before
pub made_more : (j k : ℕ) (x : Object) (os : Objects) → made_by j (made k x os) ≤ suc (made_by j os)
unfolding made made_by
made_more j k x [] = one (eqb k j)
  where
    one : (b : Bool) → (elim b as (λ _. ℕ) [ true ↦ 1 | false ↦ 0 ]) ≤ 1
    one true = omega arith
    one false = omega arith
made_more j k x (free ∷ os) = one (eqb k j)
  where
    one : (b : Bool) → (elim b as (λ _. ℕ) [ true ↦ suc (made_by j os) | false ↦ made_by j os ]) ≤ suc (made_by j os)
    one true = omega arith
    one false = omega arith
made_more j k x (owned i y ∷ os) = one (eqb i j) (made_more j k x os)
  where
    one : (b : Bool) → made_by j (made k x os) ≤ suc (made_by j os)
        → (elim b as (λ _. ℕ) [ true ↦ suc (made_by j (made k x os)) | false ↦ made_by j (made k x os) ]) ≤ suc (elim b as (λ _. ℕ) [ true ↦ suc (made_by j os) | false ↦ made_by j os ])
    one true l = omega arith
    one false l = l

pub made_other : (x : Object) (os : Objects) → made_by 1 (made 0 x os) ≡ made_by 1 os
unfolding made made_by
made_other x [] = refl
made_other x (free ∷ os) = refl
made_other x (owned i y ∷ os) = λ t. elim (eqb i 1) as (λ _. ℕ) [ true ↦ suc (made_other x os t) | false ↦ made_other x os t ]

-- a task with room in its share, or the quote, makes no more than 192 the report's
pub share-made : (k : ℕ) (x : Object) (os : Objects) → k < 2 → share_used k os ≡ false → made_by 1 os ≤ 192 → made_by 1 (made k x os) ≤ 192
unfolding share_used
share-made zero x os l s h = rw (made_other x os) h
share-made (suc zero) x os l s h = omega (arith, made_more 1 1 x os, leb-false 192 (made_by 1 os) s)
share-made (suc (suc k)) x os l s h = absurd (omega arith)

-- An object made: it is there under its number, and every other number means what it meant

pub made-there : (k : ℕ) (x : Object) (os : Objects) → existing (made k x os) (unused os) ≡ some x
unfolding made unused existing object_held
made-there k x [] = refl
made-there k x (free ∷ os) = refl
made-there k x (owned j y ∷ os) = made-there k x os

pub made-keeps : (k : ℕ) (x : Object) (os : Objects) (o : ℕ) (b : Object) → existing os o ≡ some b → existing (made k x os) o ≡ some b
unfolding made
made-keeps k x [] o b e = absurd (none-ne-some b (sym (existing-none o) ∙ e))
made-keeps k x (free ∷ os) zero b e = absurd (none-ne-some b (unfold existing object_held in e))
made-keeps k x (free ∷ os) (suc o) b e = existing-tail (owned k x) os o ∙ (sym (existing-tail free os o) ∙ e)
made-keeps k x (owned j y ∷ os) zero b e = existing-head (owned j y) (made k x os) ∙ (sym (existing-head (owned j y) os) ∙ e)
made-keeps k x (owned j y ∷ os) (suc o) b e =
    existing-tail (owned j y) (made k x os) o ∙ made-keeps k x os o b (sym (existing-tail (owned j y) os o) ∙ e)

pub made-from : (k : ℕ) (x : Object) (os : Objects) (o : ℕ) (b : Object) → existing (made k x os) o ≡ some b → (existing os o ≡ some b) ⊎ ((o ≡ unused os) × (x ≡ b))
unfolding made unused existing object_held
made-from k x [] zero b e = inr (refl, some-injective x b e)
made-from k x [] (suc o) b e = absurd (none-ne-some b e)
made-from k x (free ∷ os) zero b e = inr (refl, some-injective x b e)
made-from k x (free ∷ os) (suc o) b e = inl e
made-from k x (owned j y ∷ os) zero b e = inl e
made-from k x (owned j y ∷ os) (suc o) b e = elim (made-from k x os o b e) [ inl h ↦ inl h | inr h ↦ inr (ap suc h.0, h.1) ]

pub made-exists : (k : ℕ) (x : Object) (os : Objects) (o : ℕ) → Exists os o → Exists (made k x os) o
made-exists k x os o h = (h.0, made-keeps k x os o h.0 h.1)

-- An object changed: where it exists it becomes the new one, and every other number means what it meant

pub changed-tail : (y : ObjectRow) (os : Objects) (o : ℕ) (x : Object) → changed (y ∷ os) (suc o) x ≡ y ∷ changed os o x
unfolding changed
changed-tail y os o x = go (get_elem? os o)
  where
    go : (r : Option ObjectRow) → (elim r as (λ _. Objects) [ none ↦ y ∷ os | some z ↦ y ∷ set os o (rewritten x z) ])
        ≡ y ∷ (elim r as (λ _. Objects) [ none ↦ os | some z ↦ set os o (rewritten x z) ])
    go none = refl
    go (some z) = refl

changed-next : (y : ObjectRow) (os : Objects) (o : ℕ) (x : Object) (p : ℕ) → existing (changed (y ∷ os) (suc o) x) (suc p) ≡ existing (changed os o x) p
changed-next y os o x p = ap (λ (z : Objects). existing z (suc p)) (changed-tail y os o x) ∙ existing-tail y (changed os o x) p

changed-first : (y : ObjectRow) (os : Objects) (o : ℕ) (x : Object) → existing (changed (y ∷ os) (suc o) x) 0 ≡ existing (y ∷ os) 0
changed-first y os o x = ap (λ (z : Objects). existing z 0) (changed-tail y os o x) ∙ (existing-head y (changed os o x) ∙ sym (existing-head y os))

-- a row behind the one that is changed
changed-behind : (y : ObjectRow) (os : Objects) (x : Object) (p : ℕ) → existing (changed (y ∷ os) 0 x) (suc p) ≡ existing (y ∷ os) (suc p)
unfolding changed existing
changed-behind y os x p = refl

pub changed-there : (os : Objects) (o : ℕ) (b x : Object) → existing os o ≡ some b → existing (changed os o x) o ≡ some x
changed-there [] o b x e = absurd (none-ne-some b (sym (existing-none o) ∙ e))
changed-there (free ∷ os) zero b x e = absurd (none-ne-some b (unfold existing object_held in e))
changed-there (owned k y ∷ os) zero b x e = unfold changed existing rewritten object_held in refl
changed-there (y ∷ os) (suc o) b x e = changed-next y os o x o ∙ changed-there os o b x (sym (existing-tail y os o) ∙ e)

-- to what it was: nothing changes
pub changed-same : (os : Objects) (o : ℕ) (x : Object) → existing os o ≡ some x → changed os o x ≡ os
changed-same [] o x e = unfold changed in refl
changed-same (free ∷ os) zero x e = absurd (none-ne-some x (unfold existing object_held in e))
changed-same (owned k y ∷ os) zero x e =
    unfold changed rewritten in ap (λ (z : Object). owned k z ∷ os) (sym (some-injective y x (unfold existing object_held in e)))
changed-same (y ∷ os) (suc o) x e = changed-tail y os o x ∙ ap (λ (z : Objects). y ∷ z) (changed-same os o x (sym (existing-tail y os o) ∙ e))

pub changed-keeps : (os : Objects) (o : ℕ) (x : Object) (p : ℕ) (b : Object) → existing os p ≡ some b
    → (existing (changed os o x) p ≡ some b) ⊎ ((p ≡ o) × (existing (changed os o x) p ≡ some x))
changed-keeps [] o x p b e = absurd (none-ne-some b (sym (existing-none p) ∙ e))
changed-keeps (y ∷ os) zero x zero b e = inr (refl, changed-there (y ∷ os) 0 b x e)
changed-keeps (y ∷ os) zero x (suc p) b e = inl (changed-behind y os x p ∙ e)
changed-keeps (y ∷ os) (suc o) x zero b e = inl (changed-first y os o x ∙ e)
changed-keeps (y ∷ os) (suc o) x (suc p) b e = elim (changed-keeps os o x p b (sym (existing-tail y os p) ∙ e)) [
  | inl h ↦ inl (changed-next y os o x p ∙ h)
  | inr h ↦ inr (ap suc h.0, changed-next y os o x p ∙ h.1)
]

pub changed-from : (os : Objects) (o : ℕ) (x : Object) (p : ℕ) (b : Object) → existing (changed os o x) p ≡ some b
    → (existing os p ≡ some b) ⊎ ((p ≡ o) × (x ≡ b) × Exists os o)
changed-from [] o x p b e = inl (unfold changed in e)
changed-from (free ∷ os) zero x zero b e = absurd (none-ne-some b (unfold changed existing rewritten object_held in e))
changed-from (owned k y ∷ os) zero x zero b e =
    inr (refl, some-injective x b (unfold changed existing rewritten object_held in e), (y, unfold existing object_held in refl))
changed-from (y ∷ os) zero x (suc p) b e = inl (sym (changed-behind y os x p) ∙ e)
changed-from (y ∷ os) (suc o) x zero b e = inl (sym (changed-first y os o x) ∙ e)
changed-from (y ∷ os) (suc o) x (suc p) b e = elim (changed-from os o x p b (sym (changed-next y os o x p) ∙ e)) [
  | inl h ↦ inl (existing-tail y os p ∙ h)
  | inr h ↦ inr (ap suc h.0, h.1, (h.2.0, existing-tail y os o ∙ h.2.1))
]

pub changed-exists : (os : Objects) (o : ℕ) (x : Object) (p : ℕ) → Exists os p → Exists (changed os o x) p
changed-exists os o x p h = elim (changed-keeps os o x p h.0 h.1) [ inl e ↦ (h.0, e) | inr e ↦ (x, e.1) ]

-- Numbers and classes last

-- each object of the earlier rows is there in the later ones, by its number and of its class
abbrev pub Numbered : Objects → Objects → Type 0
Numbered os qs = (o : ℕ) (b : Object) → existing os o ≡ some b → (d : Object) × (existing qs o ≡ some d) × (d.class ≡ b.class)

pub numbered-same : (os : Objects) → Numbered os os
numbered-same os o b h = (b, h, refl)

pub numbered-join : (os ps qs : Objects) → Numbered os ps → Numbered ps qs → Numbered os qs
numbered-join os ps qs y z o b h = let c = y o b h in let d = z o c.0 c.1 in (d.0, d.1, d.2 ∙ c.2)

pub numbered-exists : (os qs : Objects) → Numbered os qs → (o : ℕ) → Exists os o → Exists qs o
numbered-exists os qs n o h = let d = n o h.0 h.1 in (d.0, d.1)

pub numbered-changed : (os : Objects) (o : ℕ) (b x : Object) → existing os o ≡ some b → x.class ≡ b.class → Numbered os (changed os o x)
numbered-changed os o b x h s p y e = elim (changed-keeps os o x p y e) [
  | inl g ↦ (y, g, refl)
  | inr g ↦ (x, g.1, s ∙ ap (λ (z : Object). z.class) (some-injective b y (sym h ∙ (sym (ap (existing os) g.0) ∙ e))))
]

pub numbered-made : (k : ℕ) (x : Object) (os : Objects) → Numbered os (made k x os)
numbered-made k x os o b e = (b, made-keeps k x os o b e, refl)

-- the same of whose they are
pub changed-made : (k : ℕ) (os : Objects) (o : ℕ) (x : Object) → made_by k (changed os o x) ≡ made_by k os
unfolding changed rewritten made_by
changed-made k [] o x = refl
changed-made k (free ∷ os) zero x = refl
changed-made k (owned j y ∷ os) zero x = refl
changed-made k (free ∷ os) (suc o) x = rw (changed-tail free os o x) (changed-made k os o x)
changed-made k (owned j y ∷ os) (suc o) x =
    rw (changed-tail (owned j y) os o x) (λ t. elim (eqb j k) as (λ _. ℕ) [ true ↦ suc (changed-made k os o x t) | false ↦ changed-made k os o x t ])
