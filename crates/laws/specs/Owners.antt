-- Whose objects are. An object is the task's that made it: a change, another object made and a sweep that it outlives leave it so (`maker-made`, `maker-swept`).
-- Where rows keep their owners each task has as many objects as before, and the lowest number unused is the same.
use Rattle.std.specs.Prelude.{◌≡◌, Bool, true, ◌≢◌, ◌⊎◌, ℕ, zero, suc, ◌<◌, get_or, eqb}
use Rattle.std.proofs.Math.Path.{refl, ap}
use Rattle.std.proofs.Common.{sym, ◌∙◌, inl, inr, arith, eq-eqb, ne_eqb}
use Rattle.std.proofs.Math.Bool.{false}
use Rattle.std.proofs.Math.Option.{Option, none, some, none-ne-some}
use mathlib.Core.List.{List, [], ◌∷◌}
use Rattle.std.proofs.Math.Dec.{eqb-suc-suc}
use Rattle.definition.specs.Chains.{has}
use Rattle.definition.specs.Instructions.{pick}
use Rattle.definition.specs.Machine.{Object, ObjectRow, free, owned, Objects, object_held, existing, Exists, made_by, unused, made, rewritten, changed}
use Rattle.definition.specs.Sweeping.{swept_from}
use Rattle.definition.specs.Tables.{owner_of}
use Rattle.laws.specs.Objects.{existing-tail, changed-tail, made_other}

-- the owner of each row: 0 of a free one, else 1 and the task
unfoldable pub owners : Objects → List ℕ
owners [] = []
owners (x ∷ os) = owner_of x ∷ owners os

abbrev pub task_in : ℕ → Option ℕ
task_in zero = none
task_in (suc k) = some k

-- the task that made object o, none if there is no such object
unfoldable pub maker_of : Objects → ℕ → Option ℕ
maker_of os o = task_in (get_or (owners os) o 0)

-- Read off the owners

-- how many rows have that owner, and the first that has none
count_of : ℕ → List ℕ → ℕ
count_of w [] = 0
count_of w (x ∷ xs) = elim (eqb x w) [ true ↦ suc (count_of w xs) | false ↦ count_of w xs ]

first_free : List ℕ → ℕ
first_free [] = 0
first_free (zero ∷ xs) = 0
first_free (suc k ∷ xs) = suc (first_free xs)

made-count : (k : ℕ) (os : Objects) → made_by k os ≡ count_of (suc k) (owners os)
unfolding made_by owners owner_of count_of
made-count k [] = refl
made-count k (free ∷ os) =
    let n = count_of (suc k) (owners os) in
    made-count k os ∙ sym (ap (λ (b : Bool). elim b as (λ _. ℕ) [ true ↦ suc n | false ↦ n ]) (ne_eqb 0 (suc k) (λ e. omega arith)))
made-count k (owned j x ∷ os) =
    let n = count_of (suc k) (owners os) in
    (λ t. elim (eqb j k) as (λ _. ℕ) [ true ↦ suc (made-count k os t) | false ↦ made-count k os t ])
    ∙ sym (ap (λ (b : Bool). elim b as (λ _. ℕ) [ true ↦ suc n | false ↦ n ]) (eqb-suc-suc j k))

unused-first : (os : Objects) → unused os ≡ first_free (owners os)
unfolding unused owners owner_of first_free
unused-first [] = refl
unused-first (free ∷ os) = refl
unused-first (owned j x ∷ os) = ap (λ (n : ℕ). suc n) (unused-first os)

module _ (os qs : Objects) (same : owners qs ≡ owners os) where
  pub owners-made : (k : ℕ) → made_by k qs ≡ made_by k os
  owners-made k = made-count k qs ∙ (ap (count_of (suc k)) same ∙ sym (made-count k os))

  pub owners-unused : unused qs ≡ unused os
  owners-unused = unused-first qs ∙ (ap first_free same ∙ sym (unused-first os))

  pub owners-maker : (o : ℕ) → maker_of qs o ≡ maker_of os o
  unfolding maker_of
  owners-maker o = ap (λ (ws : List ℕ). task_in (get_or ws o 0)) same

-- an object that is changed keeps its row's owner
pub owners-changed : (os : Objects) (o : ℕ) (x : Object) → owners (changed os o x) ≡ owners os
unfolding owners owner_of changed rewritten
owners-changed [] o x = refl
owners-changed (free ∷ os) zero x = refl
owners-changed (owned k y ∷ os) zero x = refl
owners-changed (y ∷ os) (suc o) x = rw (changed-tail y os o x) (ap (λ (ws : List ℕ). owner_of y ∷ ws) (owners-changed os o x))

-- One object more

pub maker-made : (k : ℕ) (x : Object) (os : Objects) (o j : ℕ) → maker_of os o ≡ some j → maker_of (made k x os) o ≡ some j
unfolding maker_of owners owner_of made
maker-made k x [] o j h = absurd (none-ne-some j h)
maker-made k x (free ∷ os) zero j h = absurd (none-ne-some j h)
maker-made k x (free ∷ os) (suc o) j h = h
maker-made k x (owned i y ∷ os) zero j h = h
maker-made k x (owned i y ∷ os) (suc o) j h = maker-made k x os o j h

pub made_counted : (k : ℕ) (x : Object) (os : Objects) → made_by k (made k x os) ≡ suc (made_by k os)
unfolding made made_by
made_counted k x [] = ap (λ (b : Bool). elim b as (λ _. ℕ) [ true ↦ 1 | false ↦ 0 ]) (eq-eqb k k refl)
made_counted k x (free ∷ os) = ap (λ (b : Bool). elim b as (λ _. ℕ) [ true ↦ suc (made_by k os) | false ↦ made_by k os ]) (eq-eqb k k refl)
made_counted k x (owned i y ∷ os) = one (eqb i k) (made_counted k x os)
  where
    one : (b : Bool) → made_by k (made k x os) ≡ suc (made_by k os)
        → (elim b as (λ _. ℕ) [ true ↦ suc (made_by k (made k x os)) | false ↦ made_by k (made k x os) ]) ≡ suc (elim b as (λ _. ℕ) [ true ↦ suc (made_by k os) | false ↦ made_by k os ])
    one true e = ap (λ (n : ℕ). suc n) e
    one false e = e

pub unused-more : (k : ℕ) (x : Object) (os : Objects) → unused os < unused (made k x os)
unfolding made unused
unused-more k x [] = omega arith
unused-more k x (free ∷ os) = omega arith
unused-more k x (owned i y ∷ os) = omega (arith, unused-more k x os)

-- What task k leaves of the objects os: every row its owner, or one object more, its own

abbrev pub Leaves : ℕ → Objects → Objects → Type 0
Leaves k os qs = (owners qs ≡ owners os) ⊎ ((x : Object) × (qs ≡ made k x os))

pub leaves-maker : (k : ℕ) (os qs : Objects) → Leaves k os qs → (o j : ℕ) → maker_of os o ≡ some j → maker_of qs o ≡ some j
leaves-maker k os qs (inl e) o j h = owners-maker os qs e o ∙ h
leaves-maker k os qs (inr m) o j h = rw m.1 (maker-made k m.0 os o j h)

-- the report has one more just if a number was taken, and not by the quote
module _ (k : ℕ) (os qs : Objects) (two : k < 2) (h : Leaves k os qs) where
  pub leaves-still : unused qs ≡ unused os → made_by 1 qs ≡ made_by 1 os
  leaves-still e = elim h [ inl s ↦ owners-made os qs s 1 | inr m ↦ absurd (omega (arith, e, ap unused m.1, unused-more k m.0 os)) ]

  pub leaves-quote : k ≡ 0 → made_by 1 qs ≡ made_by 1 os
  leaves-quote e = elim h [ inl s ↦ owners-made os qs s 1 | inr m ↦ rw (m.1, e) (made_other m.0 os) ]

  pub leaves-report : k ≢ 0 → unused qs ≢ unused os → made_by 1 qs ≡ suc (made_by 1 os)
  leaves-report e n = elim h [ inl s ↦ absurd (n (owners-unused os qs s)) | inr m ↦ (let one : k ≡ 1 = first k e two in rw (m.1, one) (made_counted 1 m.0 os)) ]
    where
      first : (k : ℕ) → k ≢ 0 → k < 2 → k ≡ 1
      first zero e l = absurd (e refl)
      first (suc k) e l = omega arith

-- An object that exists has its maker, and one that a sweep leaves the same

pub maker-exists : (os : Objects) (o j : ℕ) → maker_of os o ≡ some j → Exists os o
unfolding maker_of owners owner_of existing object_held
maker-exists [] o j h = absurd (none-ne-some j h)
maker-exists (free ∷ os) zero j h = absurd (none-ne-some j h)
maker-exists (owned i y ∷ os) zero j h = (y, refl)
maker-exists (x ∷ os) (suc o) j h = let e = maker-exists os o j h in (e.0, existing-tail x os o ∙ e.1)

pub maker-swept : (R : List ℕ) (i : ℕ) (os : Objects) (o : ℕ) → Exists (swept_from R i os) o → maker_of (swept_from R i os) o ≡ maker_of os o
unfolding maker_of owners owner_of swept_from
maker-swept R i [] o h = refl
maker-swept R i (x ∷ os) zero h = first (has eqb i R) x h
  where
    first : (u : Bool) (x : ObjectRow) → Exists (pick u x free ∷ swept_from R (suc i) os) 0 → task_in (owner_of (pick u x free)) ≡ task_in (owner_of x)
    first true x e = unfold pick in refl
    first false x e = absurd (none-ne-some e.0 (unfold existing object_held pick in e.1))
maker-swept R i (x ∷ os) (suc o) h = maker-swept R (suc i) os o (h.0, sym (existing-tail _ (swept_from R (suc i) os) o) ∙ h.1)
