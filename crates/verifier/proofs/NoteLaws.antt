-- Notes that are there: a row alone, a row among others, and what posting then leaves.
use mathlib.Core.Path.{◌≡◌, refl, sym, ap, ◌∙◌}
use mathlib.Core.Bool.{Bool, true, false}
use mathlib.Core.Logic.{⊎_elim}
use mathlib.Core.List.{List, [], ◌∷◌}
use Prim.Native.Nat.{ℕ, zero, suc, ◌+◌, ◌*◌, ◌<◌, ◌≤◌}
use native.Mathlib.Omega.{arith}
use lib.ListN.{get_or, take, drop}
use lib.Seq.{get_or-take, get_or-drop}
use lib.Dec.{leb}
use borrow.Author.Tests.{leb-true, leb-false}
use Rattle.classfile.specs.Lists.{le-or-lt}
use Rattle.definition.specs.Lists.{any, rows, write_rows}
use Rattle.definition.specs.Constraints.{Subtype}
use Rattle.definition.specs.Loading.{subtype_is, new_subtypes}
use Rattle.definition.specs.Tables.{subtype_at}
use Rattle.definition.specs.Verifier.{Note}
use Rattle.rows.specs.Posting.{new_subtypes_in, subtypes_after, noted, post_note}
use Rattle.rows.specs.Laws.{post-room, post-over}

-- a table's part of one row has that row
module _ (f : Subtype → Bool) (t : List ℕ) (i s n : ℕ) (e : s ≡ i * 3) (k : n ≡ 3) where
  cell : (j : ℕ) → j < 3 → get_or (take n (drop s t)) j 0 ≡ get_or t (s + j) 0
  cell j h = get_or-take n (drop s t) j 0 (omega arith) ∙ get_or-drop s t j 0

  row_same : subtype_at (take n (drop s t)) 0 ≡ subtype_at t i
  unfolding subtype_at
  row_same =
      let z : s + 0 ≡ i * 3 = omega arith in
      let a : s + 1 ≡ i * 3 + 1 = omega arith in
      let b : s + 2 ≡ i * 3 + 2 = omega arith in
      rw (cell 0 (omega arith), cell 1 (omega arith), cell 2 (omega arith), z, a, b) refl

  pub row-alone : any f (rows (subtype_at (take n (drop s t))) 1 0) ≡ f (subtype_at t i)
  unfolding any rows
  row-alone = go (f (subtype_at (take n (drop s t)) 0)) ∙ ap f row_same
    where
      go : (b : Bool) → (elim b as (λ _. Bool) [ true ↦ true | false ↦ false ]) ≡ b
      go true = refl
      go false = refl

any-from : {A : Type 0} (f : A → Bool) (g : ℕ → A) (k j i : ℕ) → j ≤ i → i < j + k → f (g i) ≡ true → any f (rows g k j) ≡ true
unfolding any rows
any-from f g zero j i h l e = absurd (omega arith)
any-from f g (suc k) j i h l e = ⊎_elim here (λ m. later (f (g j)) (any-from f g k (suc j) i (omega arith) (omega arith) e)) (le-or-lt i j)
  where
    later : (b : Bool) → any f (rows g k (suc j)) ≡ true → (elim b as (λ _. Bool) [ true ↦ true | false ↦ any f (rows g k (suc j)) ]) ≡ true
    later true q = refl
    later false q = q

    here : i ≤ j → (elim (f (g j)) as (λ _. Bool) [ true ↦ true | false ↦ any f (rows g k (suc j)) ]) ≡ true
    here m = let z : j ≡ i = omega arith in rw (z, e) refl

-- a row that has it is one of them
pub any_at : {A : Type 0} (f : A → Bool) (g : ℕ → A) (n i : ℕ) → i < n → f (g i) ≡ true → any f (rows g n 0) ≡ true
any_at f g n i h e = any-from f g n 0 i (omega arith) (omega arith) e

-- a note that is there is not posted again
module _ (l : ℕ) (n : Note) (t : List ℕ) (c : ℕ) (e : any (subtype_is l n) (rows (subtype_at t) c 0) ≡ true) where
  nothing-new : new_subtypes_in t c l (n ∷ []) ≡ []
  unfolding new_subtypes_in new_subtypes
  nothing-new = rw (new_subtypes, e) refl

  pub post-there : noted t c ≡ post_note l n (noted t c)
  unfolding subtypes_after write_rows
  post-there = go (leb c 256) refl
    where
      go : (b : Bool) → leb c 256 ≡ b → noted t c ≡ post_note l n (noted t c)
      go true h = let z : c + 0 ≡ c = omega arith in sym (post-room l n t c (leb-true c 256 h) ∙ rw (nothing-new, z) refl)
      go false h = sym (post-over l n t c (leb-false c 256 h))
