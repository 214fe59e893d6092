-- Version 1 has no maps; from version 2 on they begin where the code ends, or where the bytes end before that.
use Prim.Native.Nat.{◌+◌}
use Rattle.definition.specs.Instructions.{pick}
use borrow.Author.Tests.{le-leb, lt-leb}
use Rattle.classfile.proofs.Laws.{clipped-rest, nothing_left}
use Rattle.classfile.specs.Reading.{code_place, code_length, code_end, map_bytes}
use Rattle.classfile.proofs.maps.method_maps.Goals as goal

pub returns-then-version-lt-VERSION_TWO : goal.returns-then-version-lt-VERSION_TWO
unfolding map_bytes pick
returns-then-version-lt-VERSION_TWO c =
    let low = lt-leb _ _ (rw c.version.ensures at c.if-version-lt-VERSION_TWO.true) in
    rw low (nothing_left c.args.bytes.now)

pub returns : goal.returns
unfolding map_bytes pick code_end
returns c =
    let bytes = c.args.bytes.now in
    let place = c.args.place in
    let high = le-leb _ _ (rw c.version.ensures at c.if-version-lt-VERSION_TWO.false) in
    rw (high, c.min.ensures, c.from.ensures, c.code_length.ensures, c.code_place.ensures.0)
    (clipped-rest bytes (code_place bytes place + code_length bytes place))
