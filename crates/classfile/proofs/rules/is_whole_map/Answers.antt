-- Each part of the test that fails is answered at once; the parts that passed before it are known.
use mathlib.Core.Path.{◌≡◌, sym, ◌∙◌}
use mathlib.Core.Bool.{true}
use lib.ListN.{length}
use lib.Dec.{leb}
use borrow.Author.Tests.{le-leb, lt-leb}
use Rattle.definition.specs.Instructions.{short_at}
use Rattle.classfile.specs.Lists.{every_first, every-fails, every-last}
use Rattle.classfile.specs.Reading.{map_depth, map_end}
use Rattle.classfile.specs.Rules.{whole_map}
use Rattle.classfile.proofs.rules.is_whole_map.Goals as goal

pub returns-then-from-low : goal.returns-then-from-low
unfolding whole_map
returns-then-from-low c = sym (every-fails _ _ (lt-leb _ _ (rw (c.from.ensures, c.map_offset.ensures) at c.if-from-low.true)))

pub returns-then-from-gt-OPERAND_LIMIT : goal.returns-then-from-gt-OPERAND_LIMIT
unfolding whole_map
returns-then-from-gt-OPERAND_LIMIT c =
    let many = lt-leb _ _ (rw (c.from-2.ensures, c.map_depth.ensures) at c.if-from-gt-OPERAND_LIMIT.true) in
    sym (every_first _ _ ((let it : leb c.args.low (short_at c.args.maps.now c.args.place) ≡ true = le-leb _ _ (rw (c.from.ensures, c.map_offset.ensures) at c.if-from-low.false) in it)) ∙ every-fails _ _ many)

pub returns-then-maps-place : goal.returns-then-maps-place
unfolding whole_map map_end
returns-then-maps-place c =
    let past = lt-leb _ _ (rw (c.map_size.ensures.0) at c.if-maps-place.true) in
    sym (every_first _ _ ((let it : leb c.args.low (short_at c.args.maps.now c.args.place) ≡ true = le-leb _ _ (rw (c.from.ensures, c.map_offset.ensures) at c.if-from-low.false) in it)) ∙ every_first _ _ ((let it : leb (map_depth c.args.maps.now c.args.place) 16 ≡ true = le-leb _ _ (rw (c.from-2.ensures, c.map_depth.ensures) at c.if-from-gt-OPERAND_LIMIT.false) in it)) ∙ every-fails _ _ past)

pub returns : goal.returns
unfolding whole_map map_end
returns c =
    rw c.are_operands_set.ensures
    (sym (every_first _ _ ((let it : leb c.args.low (short_at c.args.maps.now c.args.place) ≡ true = le-leb _ _ (rw (c.from.ensures, c.map_offset.ensures) at c.if-from-low.false) in it)) ∙ every_first _ _ ((let it : leb (map_depth c.args.maps.now c.args.place) 16 ≡ true = le-leb _ _ (rw (c.from-2.ensures, c.map_depth.ensures) at c.if-from-gt-OPERAND_LIMIT.false) in it)) ∙ every_first _ _ ((let it : leb (map_end c.args.maps.now c.args.place) (length c.args.maps.now) ≡ true = le-leb _ _ (rw (c.map_size.ensures.0) at c.if-maps-place.false) in it)) ∙ every-last _))
