-- The part is there if it ends within the bytes.
use Prim.Native.Nat.{ℕ, ◌+◌, ◌-◌}
use mathlib.Core.Path.{◌≡◌, sym}
use native.Mathlib.Omega.{arith}
use Rattle.classfile.specs.Searches.{part-there, part-past}
use Rattle.driver.specs.Encoded.{cell_in, file_in}
use Rattle.driver.proofs.file_of.Goals as goal

size : (a b : ℕ) → a + b - a ≡ b
size a b = omega arith

pub returns-then-end-files : goal.returns-then-end-files
unfolding cell_in file_in
returns-then-end-files c =
    rw (size _ _) (sym (part-there _ _ _ c.if-end-files.true))

pub returns-else-end-files : goal.returns-else-end-files
unfolding cell_in file_in
returns-else-end-files c =
    sym (part-past _ _ _ c.if-end-files.false)
