-- One type before version 3, a list from there on.
use mathlib.Core.Path.{◌≡◌, refl}
use Prim.Native.Nat.{◌+◌}
use native.Mathlib.Omega.{arith}
use borrow.Author.Tests.{le-leb, lt-leb}
use Rattle.definition.specs.Instructions.{pick}
use Rattle.classfile.specs.Reading.{arguments_at}
use Rattle.classfile.proofs.signatures.method_arguments.Goals as goal

pub returns-then-version-lt-VERSION_THREE : goal.returns-then-version-lt-VERSION_THREE
unfolding arguments_at pick
returns-then-version-lt-VERSION_THREE c =
    let low = lt-leb _ _ (rw c.version.ensures at c.if-version-lt-VERSION_THREE.true) in
    rw (low, pick, ← c.short_at.ensures) refl

pub returns : goal.returns
unfolding arguments_at pick
returns c =
    let high = le-leb _ _ (rw c.version.ensures at c.if-version-lt-VERSION_THREE.false) in
    let same : c.args.place + 2 + 1 ≡ c.args.place + 3 = omega arith in
    rw (high, pick) (rw (same, c.argument_number.ensures) at c.arguments_at.ensures)
