-- By the loader, then by the name of the file or of the row.
use Rattle.searching.specs.Offered.{load_at, is_for_at}
use Rattle.searching.proofs.Reading.{for-other, for-define, for-record}
use mathlib.Core.Path.{sym, ◌∙◌}
use Rattle.searching.proofs.offers.is_for.Goals as goal

pub returns-then-at-loader : goal.returns-then-at-loader
unfolding is_for_at load_at
returns-then-at-loader c = sym (for-other _ _ _ _ _ _ _ (λ e. c.if-at-loader.true (c.at.ensures ∙ e)))

pub returns-then-at-eq-DEFINE : goal.returns-then-at-eq-DEFINE
unfolding is_for_at load_at
returns-then-at-eq-DEFINE c = rw (c.class_name.ensures, c.file_of.ensures) (sym (for-define _ _ _ _ _ _ _ (sym c.at.ensures ∙ c.if-at-loader.false) (sym c.at-2.ensures ∙ c.if-at-eq-DEFINE.true)))

pub returns : goal.returns
unfolding is_for_at load_at
returns c = rw (c.from.ensures, c.at-3.ensures) (sym (for-record _ _ _ _ _ _ _ (sym c.at.ensures ∙ c.if-at-loader.false) (λ e. c.if-at-eq-DEFINE.false (c.at-2.ensures ∙ e))))
