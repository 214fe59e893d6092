-- Before method j is tested, its place is known, and the test of the methods from j on says what the test of all says.
use mathlib.Core.Path.{◌≡◌, sym, ◌∙◌}
use native.Mathlib.Omega.{arith}
use Rattle.classfile.specs.Lists.{every_more, every-not, every-end, every_first, every-fails, every-last}
use Rattle.classfile.proofs.Laws.{placed-next}
use Rattle.classfile.specs.Reading.{method_count}
use Rattle.classfile.specs.Rules.{whole_method_in, whole_methods}
use Rattle.classfile.proofs.rules.are_methods_whole.Goals as goal

pub returns-then-not-is_whole_method : goal.returns-then-not-is_whole_method
unfolding whole_methods whole_method_in
returns-then-not-is_whole_method c =
    let at = c.loop-j in
    let broken = sym c.is_whole_method.ensures ∙ c.if-not-is_whole_method.true in
    sym (every-fails _ _ (sym at.invariant.whole ∙ every-not _ _ _ c.loop-j-test.true (rw (← at.invariant.at.place) broken)))

pub loop-j-preserved : goal.loop-j-preserved
unfolding whole_method_in
loop-j-preserved c =
    let at = c.loop-j in
    let whole = sym c.is_whole_method.ensures ∙ c.if-not-is_whole_method.false in record {
      at = placed-next _ _ _ _ c.loop-j.invariant.at c.next_place-place.ensures.0 c.next_place-place.ensures.1;
      whole = sym (every_more _ _ _ c.loop-j-test.true (rw (← at.invariant.at.place) whole)) ∙ at.invariant.whole;
    }

pub returns : goal.returns
unfolding whole_methods
returns c =
    let at = c.loop-j in
    let count = c.method_count-j-end.ensures in
    let last : at.j ≡ method_count c.args.bytes.now = omega arith in
    rw (at.invariant.at.place, last)
    (sym (every_first _ _ (sym at.invariant.whole ∙ every-end _ _ _ c.loop-j-test.false) ∙ every-last _))
