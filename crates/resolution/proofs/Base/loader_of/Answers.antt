-- The first cell of the class's row, if there is such a class.
use Rattle.std.proofs.Math.Path.{ap, sym}
use Rattle.std.proofs.Common.{◌∙◌}
use Prim.Native.Nat.{ℕ}
use native.Mathlib.Omega.{arith}
use Rattle.std.proofs.Math.ListN.{get_or}
use Rattle.definition.specs.Tables.{class_row_at}
use Rattle.resolution.specs.Quick.{loader_in}
use Rattle.resolution.proofs.Base.loader_of.Goals as goal

pub returns-then-is_class : goal.returns-then-is_class
unfolding loader_in class_row_at
returns-then-is_class c = rw (sym c.is_class.ensures ∙ c.if-is_class.true, loader_in) (c.row_cell.ensures ∙ ap (λ (i : ℕ). get_or c.args.self.now.classes.now i 0) (omega arith))

pub returns-else-is_class : goal.returns-else-is_class
unfolding loader_in
returns-else-is_class c = rw (sym c.is_class.ensures ∙ c.if-is_class.false, loader_in)
