-- The cache is asked for the row of the superclass's name under the class's loader.
use Rattle.std.proofs.Math.Path.{ap, sym}
use Rattle.std.proofs.Common.{◌∙◌}
use Prim.Native.Nat.{ℕ}
use native.Mathlib.Omega.{arith}
use Rattle.std.proofs.Math.ListN.{get_or}
use borrow.Author.Tests.{ltb-false, ltb-true}
use Rattle.definition.specs.Tables.{class_row_at}
use Rattle.classfile.specs.Reading.{super_name}
use Rattle.resolution.specs.Quick.{quick_base, row-past, row-there}
use Rattle.resolution.proofs.Base.super_row.Goals as goal

pub returns-then-not-is_class : goal.returns-then-not-is_class
returns-then-not-is_class c = c.at.ensures ∙ sym (row-past _ _ _ _ _ (ltb-false _ _ (sym c.is_class.ensures ∙ c.if-not-is_class.true)))

pub returns : goal.returns
unfolding class_row_at quick_base
returns c =
    c.row_of.ensures ∙ sym (row-there _ _ _ _ _ (ltb-true _ _ (sym c.is_class.ensures ∙ c.if-not-is_class.false)) _ _ (c.row_cell.ensures ∙ ap (λ (i : ℕ). get_or c.args.self.now.classes.now i 0) (omega arith)) (c.super_name-name.ensures ∙ ap super_name c.file_of.ensures))
