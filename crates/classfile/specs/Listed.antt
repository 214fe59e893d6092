-- The types of a list of arguments, at their places: the list that they make, and when none of them is 0.
use Rattle.std.specs.Prelude.{◌≡◌, Bool, length}
use Rattle.std.proofs.Math.Path.{refl, ap}
use Rattle.std.proofs.Common.{◌∙◌}
use Rattle.std.proofs.Math.Bool.{true, false}
use Rattle.std.proofs.lemmas.Bool.{false≢true}
use Rattle.std.proofs.Math.Option.{some}
use mathlib.Core.List.{List, ◌∷◌}
use Prim.Native.Nat.{ℕ, zero, suc, ◌+◌, ◌*◌, ◌≤◌}
use native.Mathlib.Omega.{arith}
use Rattle.std.proofs.Math.Dec.{leb}
use borrow.Author.Tests.{leb-true, le-leb}
use Rattle.definition.specs.Lists.{all, rows}
use Rattle.definition.specs.Classes.{types_of, arguments_of}
use Rattle.definition.specs.Instructions.{short_at, shorts_at}
use Rattle.cells.specs.Listed.{or_no_arguments, list_at, fits, list-few}
use Rattle.classfile.specs.Lists.{Each, each_more, each-rest}
use Rattle.classfile.specs.Reading.{type_at}

module _ (bs : List ℕ) (p : ℕ) where
  shorts-from : (n i : ℕ) → shorts_at bs (p + 2 * i) n ≡ rows (type_at bs p) n i
  unfolding shorts_at rows type_at
  shorts-from zero i = refl
  shorts-from (suc n) i =
      let next : p + 2 * i + 2 ≡ p + 2 * suc i = omega arith in
      ap (λ (ts : List ℕ). short_at bs (p + 2 * i) ∷ ts) (ap (λ q. shorts_at bs q n) next ∙ shorts-from n (suc i))

  shorts-rows : (n : ℕ) → shorts_at bs p n ≡ rows (type_at bs p) n 0
  shorts-rows n = let first : p ≡ p + 2 * 0 = omega arith in ap (λ q. shorts_at bs q n) first ∙ shorts-from n 0

  counted : (n i : ℕ) → length (rows (type_at bs p) n i) ≡ n
  unfolding rows
  counted zero i = refl
  counted (suc n) i = ap suc (counted n (suc i))

  module _ (n : ℕ) (few : n ≤ 4) where
    reads-list : list_at bs p n ≡ or_no_arguments (arguments_of (rows (type_at bs p) n 0))
    reads-list = list-few bs p n few ∙ ap (λ (ts : List ℕ). or_no_arguments (arguments_of ts)) (shorts-rows n)

    pub list-some : arguments_of (rows (type_at bs p) n 0) ≡ some (list_at bs p n)
    list-some = rw reads-list (fits (rows (type_at bs p) n 0) (omega (arith, counted n 0, few))).0

    pub types-list : types_of (list_at bs p n) ≡ rows (type_at bs p) n 0
    types-list = rw reads-list (fits (rows (type_at bs p) n 0) (omega (arith, counted n 0, few))).1

  -- none of n types from type i on is 0
  pub set-types : (n i : ℕ) → Each (λ j. 1 ≤ type_at bs p j) n i → all (leb 1) (rows (type_at bs p) n i) ≡ true
  unfolding all rows
  set-types zero i h = refl
  set-types (suc n) i h = let q = each-rest (λ j. 1 ≤ type_at bs p j) n i h in rw (all, le-leb 1 (type_at bs p i) q.0) (set-types n (suc i) q.1)

  pub types-set : (n i : ℕ) → all (leb 1) (rows (type_at bs p) n i) ≡ true → Each (λ j. 1 ≤ type_at bs p j) n i
  unfolding all rows
  types-set zero i h = λ j l m. absurd (omega arith)
  types-set (suc n) i h = go (leb 1 (type_at bs p i)) refl h (types-set n (suc i))
    where
      go : (t : Bool) → leb 1 (type_at bs p i) ≡ t → (elim t as (λ _. Bool) [ true ↦ all (leb 1) (rows (type_at bs p) n (suc i)) | false ↦ false ]) ≡ true
          → (all (leb 1) (rows (type_at bs p) n (suc i)) ≡ true → Each (λ j. 1 ≤ type_at bs p j) n (suc i)) → Each (λ j. 1 ≤ type_at bs p j) (suc n) i
      go true e q f = each_more (λ j. 1 ≤ type_at bs p j) n i (leb-true 1 (type_at bs p i) e) (f q)
      go false e q f = absurd (false≢true q)
