-- What a host is told of a row of constraints: 8 a tie, by its two loaders and the name; 9 a subtype constraint, by its loader, the lower name and the higher.
use Rattle.std.specs.Prelude as code
use Rattle.std.specs.Prelude.{◌≡◌, Ok, Err, List, [], ◌∷◌, ℕ, set}
use Rattle.std.proofs.Math.Path.{refl}
use Rattle.std.proofs.Common.{subst}
use Rattle.definition.specs.Lists.{write_rows}
use Rattle.definition.specs.declared.Reply.TheVariants.{Denied}
use Rattle.definition.specs.declared.Refusal.{Refusal}
use Rattle.definition.specs.Answers.{Result, refused, ok, number, number_of}
use Rattle.listing.specs.declared.Constraint.{Constraint}
use Rattle.listing.specs.declared.Constraint.TheVariants.{Tied, Below}
use Rattle.definition.specs.Listing.{Row, tie_row, subtype_row}
use Rattle.listing.specs.Answers.{listed_of}
use Rattle.host.specs.Answers.{answer_cells, Reported}

unfoldable pub row_cells : Result Row → List ℕ
row_cells (refused w) = answer_cells 0 (Denied w)
row_cells (ok (tie_row t)) = 8 ∷ 0 ∷ t.one ∷ t.two ∷ t.name ∷ 0 ∷ []
row_cells (ok (subtype_row s)) = 9 ∷ 0 ∷ s.loader ∷ s.low ∷ s.high ∷ 0 ∷ []

unfoldable pub row_number : Result Row → ℕ
row_number (refused w) = number w
row_number (ok x) = 0

-- the answer table before and after, and the number returned
pub record RowTold (x : Result Row) (before after : List ℕ) (r : ℕ) : Type 0 where
  pub answer : after ≡ write_rows set (row_cells x) 0 before
  pub number : r ≡ row_number x

-- Laws, by what the code's answer is

module _ (x : code.Result Constraint Refusal) (before after : List ℕ) where
  pub told-denied : (w : Refusal) (r : ℕ) → x ≡ Err w → Reported 0 (Denied w) before after r → RowTold (listed_of x) before after r
  unfolding row_cells row_number number_of
  told-denied w r e h = rw e (record { answer = h.answer; number = h.number })

  pub told-tied : (l m n : ℕ) → x ≡ Ok (Tied l m n) → after ≡ write_rows set (8 ∷ 0 ∷ l ∷ m ∷ n ∷ 0 ∷ []) 0 before → RowTold (listed_of x) before after 0
  unfolding row_cells row_number
  told-tied l m n e h = rw e (record { answer = h; number = refl })

  pub told_below : (l a b : ℕ) → x ≡ Ok (Below l a b) → after ≡ write_rows set (9 ∷ 0 ∷ l ∷ a ∷ b ∷ 0 ∷ []) 0 before → RowTold (listed_of x) before after 0
  unfolding row_cells row_number
  told_below l a b e h = rw e (record { answer = h; number = refl })

  pub told_same : (y : Result Row) (r : ℕ) → listed_of x ≡ y → RowTold (listed_of x) before after r → RowTold y before after r
  told_same y r e h = subst (λ (z : Result Row). RowTold z before after r) e h
