-- The part is there if it ends within the bytes.
use Rattle.classfile.specs.Searches.{part-there, part-past}
use Prim.Native.Nat.{ℕ, ◌+◌, ◌-◌}
use native.Mathlib.Omega.{arith}
use mathlib.Core.Path.{◌≡◌, sym}
use Rattle.searching.proofs.offers.file_of.Goals as goal

size : (a b : ℕ) → a + b - a ≡ b
size a b = omega arith

pub returns-then-end-files : goal.returns-then-end-files
returns-then-end-files c = rw (c.at-start.ensures, c.at.ensures, size _ _) (sym (part-there _ _ _ (rw (c.at-start.ensures, c.at.ensures) at c.if-end-files.true)))

pub returns-else-end-files : goal.returns-else-end-files
returns-else-end-files c = sym (part-past _ _ _ (rw (c.at-start.ensures, c.at.ensures) at c.if-end-files.false))
