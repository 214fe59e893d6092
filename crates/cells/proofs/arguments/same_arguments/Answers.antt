-- Before types i are compared, the comparison of those from i on says what the whole comparison says.
use mathlib.Core.Path.{◌≡◌, refl, sym, ap, ◌∙◌}
use mathlib.Core.Bool.{Bool, true, false}
use mathlib.Core.List.{List, [], ◌∷◌}
use Prim.Native.Nat.{ℕ, suc, ◌+◌, ◌≤◌, ◌<◌}
use native.Mathlib.Omega.{arith}
use native.Mathlib.Numerals.{add-one}
use lib.ListN.{length, get_or, drop, drop_of_length-le}
use lib.Seq.{drop-cons}
use lib.Dec.{eqb}
use borrow.Author.Tests.{eq-eqb, ne_eqb}
use Rattle.definition.specs.Lists.{same_list}
use Rattle.definition.specs.Classes.{types_of}
use Rattle.cells.proofs.arguments.same_arguments.Goals as goal

module _ (xs ys : List ℕ) (i : ℕ) where
  module _ (h : i < length xs) (k : i < length ys) where
    alike-here : get_or xs i 0 ≡ get_or ys i 0 → same_list (drop i xs) (drop i ys) ≡ same_list (drop (i + 1) xs) (drop (i + 1) ys)
    unfolding same_list
    alike-here e = rw (drop-cons xs i 0 h, drop-cons ys i 0 k, same_list, eq-eqb _ _ e, add-one) refl

    other-here : (get_or xs i 0 ≡ get_or ys i 0 → ⊥) → same_list (drop i xs) (drop i ys) ≡ false
    unfolding same_list
    other-here e = rw (drop-cons xs i 0 h, drop-cons ys i 0 k, same_list, ne_eqb _ _ e) refl

  none_left : length xs ≤ i → length ys ≤ i → same_list (drop i xs) (drop i ys) ≡ true
  unfolding same_list
  none_left h k = rw (drop_of_length-le xs h, drop_of_length-le ys k) refl

-- lists of different lengths differ
other_length : (xs ys : List ℕ) → (length ys ≡ length xs → ⊥) → same_list xs ys ≡ false
unfolding same_list
other_length [] [] h = absurd (h refl)
other_length [] (y ∷ ys) h = refl
other_length (x ∷ xs) [] h = refl
other_length (x ∷ xs) (y ∷ ys) h = go (eqb x y) (other_length xs ys (λ e. h (ap suc e)))
  where
    go : (t : Bool) → same_list xs ys ≡ false → (elim t as (λ _. Bool) [ true ↦ same_list xs ys | false ↦ false ]) ≡ false
    go true e = e
    go false e = refl

pub returns-then-argument_count-n : goal.returns-then-argument_count-n
returns-then-argument_count-n c =
    let one = c.argument_count-n.ensures in
    let two = c.argument_count.ensures in
    sym (other_length _ _ (λ e. c.if-argument_count-n.true (two ∙ e ∙ sym one)))

pub loop-i-init : goal.loop-i-init
loop-i-init c = refl

pub returns-then-argument_at : goal.returns-then-argument_at
returns-then-argument_at c =
    let a = c.args in
    let one = c.argument_count-n.ensures in
    let two = c.argument_count.ensures in
    let same = c.if-argument_count-n.false in
    let l = c.loop-i-test.true in
    sym (other-here (types_of a.a) (types_of a.b) c.loop-i.i (omega (arith, l, one)) (omega (arith, l, one, two, same))
    (λ e. c.if-argument_at.true (c.argument_at.ensures ∙ e ∙ sym c.argument_at-in-loop-i.ensures))) ∙ c.loop-i.invariant

pub loop-i-preserved : goal.loop-i-preserved
loop-i-preserved c =
    let a = c.args in
    let one = c.argument_count-n.ensures in
    let two = c.argument_count.ensures in
    let same = c.if-argument_count-n.false in
    let l = c.loop-i-test.true in
    sym (alike-here (types_of a.a) (types_of a.b) c.loop-i.i (omega (arith, l, one)) (omega (arith, l, one, two, same))
    (sym c.argument_at.ensures ∙ c.if-argument_at.false ∙ c.argument_at-in-loop-i.ensures)) ∙ c.loop-i.invariant

pub returns : goal.returns
returns c =
    let a = c.args in
    let one = c.argument_count-n.ensures in
    let two = c.argument_count.ensures in
    let same = c.if-argument_count-n.false in
    let l = c.loop-i-test.false in
    sym (none_left (types_of a.a) (types_of a.b) c.loop-i.i (omega (arith, l, one)) (omega (arith, l, one, two, same))) ∙ c.loop-i.invariant
