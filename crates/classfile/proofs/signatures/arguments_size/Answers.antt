-- One type before version 3, a count and as many types from there on.
use mathlib.Core.Path.{refl}
use native.Mathlib.Omega.{arith}
use borrow.Author.Tests.{le-leb, lt-leb}
use Rattle.definition.specs.Instructions.{pick}
use Rattle.classfile.specs.Reading.{arguments_size}
use Rattle.classfile.proofs.signatures.arguments_size.Goals as goal

pub returns-then-version-lt-VERSION_THREE : goal.returns-then-version-lt-VERSION_THREE
unfolding arguments_size pick
returns-then-version-lt-VERSION_THREE c =
    let low = lt-leb _ _ (rw c.version.ensures at c.if-version-lt-VERSION_THREE.true) in
    rw (low, pick) (refl, omega arith)

pub returns : goal.returns
unfolding arguments_size pick
returns c =
    let high = le-leb _ _ (rw c.version.ensures at c.if-version-lt-VERSION_THREE.false) in
    rw (high, pick, ← c.argument_number.ensures) (omega arith, omega arith)
