-- The part is there if it ends within the bytes.
use Prim.Native.Nat.{◌+◌, ◌-◌}
use mathlib.Core.Path.{◌≡◌, sym}
use native.Mathlib.Omega.{arith}
use Rattle.classfile.specs.Searches.{part-there, part-past}
use Rattle.classfile.proofs.methods.part.Goals as goal

pub returns-then-end-kept : goal.returns-then-end-kept
returns-then-end-kept c =
    let given = c.args in
    let size : given.start + given.size - given.start ≡ given.size = omega arith in
    let there = rw (c.from-from.ensures, c.from.ensures) at c.if-end-kept.true in
    rw (c.from-from.ensures, c.from.ensures, size) (sym (part-there _ _ _ there))

pub returns-else-end-kept : goal.returns-else-end-kept
returns-else-end-kept c = sym (part-past _ _ _ (rw (c.from-from.ensures, c.from.ensures) at c.if-end-kept.false))
