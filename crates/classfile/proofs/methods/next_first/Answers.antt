-- Eight bytes before the code, the last two of them its length, and no maps after it.
use mathlib.Core.Path.{◌≡◌}
use Prim.Native.Nat.{◌+◌}
use native.Mathlib.Omega.{arith}
use Rattle.definition.specs.Instructions.{short_at}
use Rattle.classfile.proofs.Laws.{next-first}
use Rattle.classfile.proofs.methods.next_first.Goals as goal

pub returns : goal.returns
returns c =
    let bytes = c.args.bytes.now in
    let l : c.short_at.result ≡ short_at bytes (c.args.place + 6) = c.short_at.ensures in
    let n = next-first bytes c.args.place c.requires.0 in
    (omega (arith, l, n, c.from.ensures), omega arith)
