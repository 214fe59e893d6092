-- A name or type that is 0 is answered at once; before argument i is tested, the test of the arguments from i on says what the test of all says.
use mathlib.Core.Path.{◌≡◌, refl, sym, ◌∙◌}
use mathlib.Core.Bool.{true, false}
use mathlib.Core.List.{List}
use Prim.Native.Nat.{ℕ, ◌+◌, ◌≤◌, ◌<◌}
use native.Mathlib.Omega.{arith}
use native.Mathlib.Numerals.{add-one}
use lib.ListN.{length, get_or, drop, drop_of_length-le}
use lib.Seq.{drop-cons}
use lib.Dec.{leb}
use borrow.Author.Tests.{le-leb, lt-leb}
use Rattle.definition.specs.Lists.{all}
use Rattle.definition.specs.Classes.{types_of, is_named}
use Rattle.classfile.proofs.signatures.is_named.Goals as goal

module _ (xs : List ℕ) (i : ℕ) where
  all_more : i < length xs → leb 1 (get_or xs i 0) ≡ true → all (leb 1) (drop i xs) ≡ all (leb 1) (drop (i + 1) xs)
  unfolding all
  all_more h e = rw (drop-cons xs i 0 h, all, e, add-one) refl

  all-not : i < length xs → leb 1 (get_or xs i 0) ≡ false → all (leb 1) (drop i xs) ≡ false
  unfolding all
  all-not h e = rw (drop-cons xs i 0 h, all, e) refl

  all_end : length xs ≤ i → all (leb 1) (drop i xs) ≡ true
  unfolding all
  all_end h = rw (drop_of_length-le xs h) refl

pub returns-then-s-lt1 : goal.returns-then-s-lt1
unfolding is_named
returns-then-s-lt1 c = rw (lt-leb _ _ c.if-s-lt1.true)

pub returns-then-argument_at-lt1 : goal.returns-then-argument_at-lt1
unfolding is_named
returns-then-argument_at-lt1 c =
    let l = c.loop-i-test.true in
    let n = c.argument_count-i-end.ensures in
    let zero = lt-leb _ _ (rw c.argument_at.ensures at c.if-argument_at-lt1.true) in
    rw (le-leb _ _ c.if-s-lt1.false, ← c.loop-i.invariant, all-not (types_of c.args.s.arguments) c.loop-i.i (omega (arith, l, n)) zero)

pub loop-i-preserved : goal.loop-i-preserved
loop-i-preserved c =
    let l = c.loop-i-test.true in
    let n = c.argument_count-i-end.ensures in
    let set = le-leb _ _ (rw c.argument_at.ensures at c.if-argument_at-lt1.false) in
    sym (all_more (types_of c.args.s.arguments) c.loop-i.i (omega (arith, l, n)) set) ∙ c.loop-i.invariant

pub returns : goal.returns
unfolding is_named
returns c =
    let l = c.loop-i-test.false in
    let n = c.argument_count-i-end.ensures in
    rw (le-leb _ _ c.if-s-lt1.false, ← c.loop-i.invariant, all_end (types_of c.args.s.arguments) c.loop-i.i (omega (arith, l, n)))
