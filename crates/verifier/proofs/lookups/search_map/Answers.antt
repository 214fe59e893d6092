-- Before map i is looked at, its place is known, and the maps from i on have the map that all have.
use mathlib.Core.Path.{sym, ◌∙◌}
use native.Mathlib.Omega.{arith}
use Rattle.classfile.specs.Reading.{map_of, map_place}
use Rattle.verifier.specs.Lookups.{map_found}
use Rattle.verifier.proofs.LookupLaws.{map_next, found-start, found_here, found-later, found-never}
use Rattle.verifier.proofs.lookups.search_map.Goals as goal

pub loop-i-init : goal.loop-i-init
unfolding map_place
loop-i-init c = record { at = omega arith; low = omega arith; rest = found-start _ _ _ c.map_count-i-end.ensures }

pub returns-then-from-q : goal.returns-then-from-q
unfolding map_of
returns-then-from-q c =
    let at = c.loop-i in
    let same = rw (c.from.ensures, c.map_offset.ensures) at c.if-from-q.true in
    found_here _ _ _ _ _ at.invariant.at c.loop-i-test.true same ∙ at.invariant.rest

pub loop-i-preserved : goal.loop-i-preserved
unfolding map_of
loop-i-preserved c =
    let at = c.loop-i in
    let other = rw (c.from.ensures, c.map_offset.ensures) at c.if-from-q.false in record {
      at = map_next _ _ _ _ at.invariant.at c.map_size-place.ensures.0;
      low = omega arith;
      rest = sym (found-later _ _ _ _ _ at.invariant.at c.loop-i-test.true other) ∙ at.invariant.rest;
    }

pub returns : goal.returns
unfolding map_found
returns c = sym (found-never _ _ _ _ c.loop-i-test.false) ∙ c.loop-i.invariant.rest
