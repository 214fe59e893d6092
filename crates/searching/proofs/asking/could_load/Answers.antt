-- By the row's kind, the define or the record.
use Rattle.resolution.specs.Quick.{quick_base}
use mathlib.Core.Path.{sym, ◌∙◌}
use Rattle.searching.specs.Could.{could_at}
use Rattle.searching.proofs.Asked.{could-file, could-name}
use Rattle.searching.proofs.asking.could_load.Goals as goal

pub returns-then-at-eq1 : goal.returns-then-at-eq1
unfolding could_at quick_base
returns-then-at-eq1 c = could-file _ _ _ _ _ _ _ _ _ (sym c.at.ensures ∙ c.if-at-eq1.true) _ c.at-then-at-eq1.ensures _ c.file_of.ensures _ c.could_define.ensures

pub returns : goal.returns
unfolding could_at
returns c = could-name _ _ _ _ _ _ _ _ _ (λ e. c.if-at-eq1.false (c.at.ensures ∙ e)) _ c.at-2.ensures _ c.name_of-own.ensures _ c.from.ensures _ c.at-3.ensures
