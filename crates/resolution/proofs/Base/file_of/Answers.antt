-- The part of the kept bytes that the class's row names, if there is such a class.
use Rattle.std.proofs.Math.Path.{sym}
use Rattle.std.proofs.Common.{◌∙◌}
use borrow.Author.Tests.{ltb-false, ltb-true}
use Rattle.definition.specs.Tables.{class_row_at}
use Rattle.resolution.specs.Quick.{file-past, file-there}
use Rattle.resolution.proofs.Base.file_of.Goals as goal

pub returns-then-is_class : goal.returns-then-is_class
unfolding class_row_at
returns-then-is_class c = c.part.ensures ∙ rw (c.row_cell.ensures, c.row_cell-then-is_class.ensures) (sym (file-there _ _ _ _ (ltb-true _ _ (sym c.is_class.ensures ∙ c.if-is_class.true))))

pub returns-else-is_class : goal.returns-else-is_class
returns-else-is_class c = sym (file-past _ _ _ _ (ltb-false _ _ (sym c.is_class.ensures ∙ c.if-is_class.false)))
