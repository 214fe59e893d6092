-- A record has its arguments and six bytes before its code, the last two of them the code's length, and its maps after it.
use mathlib.Core.Path.{◌≡◌, ap, ◌∙◌}
use Prim.Native.Nat.{◌+◌, ◌-◌}
use native.Mathlib.Omega.{arith}
use Rattle.definition.specs.Instructions.{short_at}
use Rattle.classfile.specs.Reading.{arguments_size, result_place, code_length, code_place, code_end, next_place}
use Rattle.classfile.proofs.methods.next_later.Goals as goal

pub returns : goal.returns
unfolding next_place code_end code_place result_place code_length
returns c =
    let a = c.args in
    let bytes = a.bytes.now in
    let start : c.args.place + 6 + c.from.result - 2 ≡ a.place + 2 + arguments_size bytes a.place + 2 = omega (arith, c.from.ensures, c.arguments_size.ensures.0) in
    let l : c.short_at-length.result ≡ code_length bytes a.place = c.short_at-length.ensures ∙ ap (short_at bytes) start in
    (omega (arith, l), omega (arith, l))
