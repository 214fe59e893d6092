-- Before map i is looked at, its place is known, and the table has the maps before it.
use mathlib.Core.Path.{sym, ◌∙◌}
use native.Mathlib.Omega.{arith}
use Rattle.classfile.specs.Reading.{map_of, map_place}
use Rattle.verifier.proofs.LookupLaws.{map_next, indexed-none, indexed-more, indexed-all}
use Rattle.verifier.proofs.lookups.index_maps.Goals as goal

pub loop-i-init : goal.loop-i-init
unfolding map_place
loop-i-init c = record { some = omega arith; at = omega arith; low = omega arith; indexed = indexed-none _ 512 }

pub loop-i-preserved : goal.loop-i-preserved
unfolding map_of
loop-i-preserved c =
    let at = c.loop-i in
    let put = c.put_place.ensures in
    let there = sym (c.from-q.ensures ∙ c.map_offset.ensures) in record {
      some = omega arith;
      at = map_next _ _ _ _ at.invariant.at c.map_size-place.ensures.0;
      low = omega arith;
      indexed = rw put (indexed-more _ at.places _ _ _ at.invariant.at at.invariant.some there at.invariant.indexed);
    }

pub returns : goal.returns
returns c =
    let at = c.loop-i in
    indexed-all _ _ _ _ c.map_count-i-end.ensures (omega arith) c.loop-i-test.false at.invariant.indexed
