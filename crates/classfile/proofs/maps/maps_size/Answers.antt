-- Version 1 has no maps.
use mathlib.Core.Path.{refl}
use native.Mathlib.Omega.{arith}
use Rattle.definition.specs.Instructions.{pick}
use borrow.Author.Tests.{le-leb, lt-leb}
use Rattle.classfile.specs.Reading.{maps_size}
use Rattle.classfile.proofs.maps.maps_size.Goals as goal

pub returns-then-version-lt-VERSION_TWO : goal.returns-then-version-lt-VERSION_TWO
unfolding maps_size pick
returns-then-version-lt-VERSION_TWO c =
    let low = lt-leb _ _ (rw c.version.ensures at c.if-version-lt-VERSION_TWO.true) in
    rw low (refl, omega arith)

pub returns : goal.returns
unfolding maps_size pick
returns c =
    let high = le-leb _ _ (rw c.version.ensures at c.if-version-lt-VERSION_TWO.false) in
    rw (high, ← c.method_maps.ensures) c.maps_end.ensures
