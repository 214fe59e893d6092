-- By the row's kind, the define or the record.
use mathlib.Core.Path.{sym, ◌∙◌}
use Rattle.searching.proofs.Steps.{load-define, load-record}
use Rattle.searching.specs.Offered.{load_at}
use Rattle.searching.proofs.trying.load_one.Goals as goal

pub returns-then-at-eq1 : goal.returns-then-at-eq1
unfolding load_at
returns-then-at-eq1 c = load-define _ _ _ _ _ _ _ _ _ c.is_taken.ensures (sym c.at.ensures ∙ c.if-at-eq1.true) _ c.at-loader.ensures _ c.file_of.ensures c.define.ensures

pub returns : goal.returns
unfolding load_at
returns c = load-record _ _ _ _ _ _ _ _ _ c.is_taken-2.ensures (λ e. c.if-at-eq1.false (c.at.ensures ∙ e)) _ _ _ c.at-loader.ensures c.at-2.ensures c.at-3.ensures c.«record».ensures
