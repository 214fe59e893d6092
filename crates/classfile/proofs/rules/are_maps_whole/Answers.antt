-- Before map i is tested, its place and the least offset it may have are known, and the test of the maps from i on says what the test of all says.
use mathlib.Core.Path.{sym, ap, ◌∙◌}
use mathlib.Core.List.{[]}
use native.Mathlib.Omega.{arith}
use borrow.Author.Tests.{le-leb, lt-leb}
use Rattle.definition.specs.Lists.{every}
use Rattle.layout.specs.Places.{rows_start}
use Rattle.layout.specs.Tests.{true-every}
use Rattle.classfile.proofs.Laws.{map_next, least-next}
use Rattle.classfile.specs.Lists.{every_more, every-not, every-end, every_first, every-fails}
use Rattle.classfile.specs.Reading.{map_place}
use Rattle.classfile.specs.Rules.{least_offset, whole_map_in, whole_maps}
use Rattle.classfile.proofs.rules.are_maps_whole.Goals as goal

pub returns-then-maps-lt1 : goal.returns-then-maps-lt1
unfolding whole_maps
returns-then-maps-lt1 c = sym (every-fails _ _ (lt-leb _ _ c.if-maps-lt1.true))

pub loop-i-init : goal.loop-i-init
unfolding map_place least_offset
loop-i-init c = record {
  at = omega arith;
  below = omega arith;
  least = omega arith;
  whole = rw c.map_count-i-end.ensures (ap every (rows_start _ _));
}

pub returns-then-not-is_whole_map : goal.returns-then-not-is_whole_map
unfolding whole_maps whole_map_in
returns-then-not-is_whole_map c =
    let at = c.loop-i in
    let broken = sym c.is_whole_map.ensures ∙ c.if-not-is_whole_map.true in
    let one = le-leb _ _ c.if-maps-lt1.false in
    sym
    (every_first _ _ one
    ∙ every-fails _ _ (sym at.invariant.whole ∙ every-not _ _ _ c.loop-i-test.true (rw (← at.invariant.at, ← at.invariant.least) broken)))

pub loop-i-preserved : goal.loop-i-preserved
unfolding whole_map_in
loop-i-preserved c =
    let at = c.loop-i in
    let whole = sym c.is_whole_map.ensures ∙ c.if-not-is_whole_map.false in record {
      at = map_next _ _ _ _ at.invariant.at c.map_size-place.ensures.0;
      below = omega arith;
      least = least-next _ _ _ _ at.invariant.at (c.from-low.ensures ∙ c.map_offset.ensures);
      whole = sym (every_more _ _ _ c.loop-i-test.true (rw (← at.invariant.at, ← at.invariant.least) whole)) ∙ at.invariant.whole;
    }

pub returns : goal.returns
unfolding whole_maps
returns c =
    let at = c.loop-i in
    let one = le-leb _ _ c.if-maps-lt1.false in
    sym (every_first _ _ one ∙ every_first _ _ (sym at.invariant.whole ∙ every-end _ _ _ c.loop-i-test.false) ∙ true-every [] tt)
