-- Before method j is compared with the later ones, its place is known, and two of the methods from j on are alike exactly if two of all are.
use mathlib.Core.Path.{sym, ap, ◌∙◌}
use Rattle.definition.specs.Lists.{doubled}
use Rattle.definition.specs.File.{same_method}
use Rattle.layout.specs.Places.{rows_start}
use Rattle.classfile.specs.Lists.{doubled-row, doubled-more, doubled-end}
use Rattle.classfile.proofs.Laws.{placed-next}
use Rattle.classfile.specs.Reading.{quick_methods}
use Rattle.classfile.proofs.rules.is_method_doubled.Goals as goal

pub loop-j-init : goal.loop-j-init
unfolding quick_methods
loop-j-init c = record {
  at = c.first_place-place.ensures;
  twice = rw c.method_count-j-end.ensures (ap (doubled same_method) (rows_start _ _));
}

pub returns-then-is_repeated : goal.returns-then-is_repeated
returns-then-is_repeated c =
    let count = c.method_count-j-end.ensures in
    let later = sym c.is_repeated.ensures ∙ c.if-is_repeated.true in
    sym (doubled-row _ _ _ _ c.loop-j-test.true (rw count later)) ∙ c.loop-j.invariant.twice

pub loop-j-preserved : goal.loop-j-preserved
loop-j-preserved c =
    let count = c.method_count-j-end.ensures in
    let never = sym c.is_repeated.ensures ∙ c.if-is_repeated.false in record {
      at = placed-next _ _ _ _ c.loop-j.invariant.at c.next_place-place.ensures.0 c.next_place-place.ensures.1;
      twice = sym (doubled-more _ _ _ _ c.loop-j-test.true (rw count never)) ∙ c.loop-j.invariant.twice;
    }

pub returns : goal.returns
returns c = sym (doubled-end _ _ _ _ c.loop-j-test.false) ∙ c.loop-j.invariant.twice
