-- No name where there is no class, 2 for a class without a file, else the name in the file.
use Rattle.std.proofs.Math.Path.{sym}
use Rattle.std.proofs.Common.{◌∙◌}
use borrow.Author.Tests.{ltb-false, ltb-true}
use Rattle.definition.specs.Tables.{class_row_at}
use Rattle.resolution.specs.Lookups.{name-file, name-object, name-past}
use Rattle.resolution.proofs.Base.name_of.Goals as goal

pub returns-then-not-is_class : goal.returns-then-not-is_class
returns-then-not-is_class c = sym (name-past _ _ _ _ (ltb-false _ _ (sym c.is_class.ensures ∙ c.if-not-is_class.true)))

pub returns-then-row_cell-eq0 : goal.returns-then-row_cell-eq0
unfolding class_row_at
returns-then-row_cell-eq0 c = sym (name-object _ _ _ _ (ltb-true _ _ (sym c.is_class.ensures ∙ c.if-not-is_class.false)) (sym c.row_cell.ensures ∙ c.if-row_cell-eq0.true))

pub returns : goal.returns
unfolding class_row_at
returns c = c.class_name.ensures ∙ rw c.file_of.ensures (sym (name-file _ _ _ _ (ltb-true _ _ (sym c.is_class.ensures ∙ c.if-not-is_class.false)) (λ e. c.if-row_cell-eq0.false (c.row_cell.ensures ∙ e))))
