-- A part to the end is all that is left, and behind the last cell that is nothing.
use mathlib.Core.Path.{◌≡◌, refl, sym, ap, ◌∙◌}
use mathlib.Core.List.{List}
use mathlib.Core.Bool.{Bool, true, false}
use Prim.Native.Nat.{ℕ, ◌-◌, min}
use lib.Dec.{leb}
use borrow.Author.Tests.{leb-true, leb-false}
use native.Mathlib.Omega.{arith}
use lib.ListN.{length, take, drop, length-drop, drop_of_length-le}
use lib.Seq.{take-length}
use Rattle.loading.proofs.lending.stored_groups.Goals as goal

rest : (l : List ℕ) (n : ℕ) → take (length l - n) (drop n l) ≡ drop n l
rest l n = ap (λ (k : ℕ). take k (drop n l)) (sym (length-drop n l)) ∙ take-length (drop n l)

front : (l : List ℕ) (n m : ℕ) → m ≡ min n (length l) → drop m l ≡ drop n l
front l n m e = go (leb n (length l)) refl
  where
    go : (b : Bool) → leb n (length l) ≡ b → drop m l ≡ drop n l
    go true p = let h = leb-true _ _ p in let z : m ≡ n = omega (arith, e) in rw z refl
    go false p = let h = leb-false _ _ p in drop_of_length-le l {i = m} (omega (arith, e)) ∙ sym (drop_of_length-le l {i = n} (omega arith))

pub returns : goal.returns
returns c = rest c.args.counts.now c.min.result ∙ front c.args.counts.now 937 c.min.result c.min.ensures
