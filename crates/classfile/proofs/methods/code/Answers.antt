-- Both ends of the part are clipped where the bytes end.
use Rattle.classfile.proofs.Laws.{clipped}
use Rattle.classfile.specs.Reading.{code_at, code_place, code_length}
use Rattle.classfile.proofs.methods.code.Goals as goal

pub returns : goal.returns
unfolding code_at
returns c =
    let bytes = c.args.bytes.now in
    let place = c.args.place in
    rw (c.min-end.ensures, c.min-start.ensures, c.from.ensures, c.code_length.ensures, c.code_place.ensures.0)
    (clipped bytes (code_place bytes place) (code_length bytes place))
