-- 'Broken' comes first, then n's limits.
use Rattle.std.proofs.Common.{refl, sym, ◌∙◌}
use Rattle.execution.specs.Runs.{run-broken, run_none, run-many}
use Rattle.execution.proofs.runs.allowed.Goals as goal

pub returns-then-is_broken : goal.returns-then-is_broken
returns-then-is_broken c = run-broken _ _ (sym c.is_broken.ensures ∙ c.if-is_broken.true)

pub returns-then-n-eq0 : goal.returns-then-n-eq0
returns-then-n-eq0 c = run_none _ _ (sym c.is_broken.ensures ∙ c.if-is_broken.false) c.if-n-eq0.true

pub returns-then-n-gt-RUN_LIMIT : goal.returns-then-n-gt-RUN_LIMIT
returns-then-n-gt-RUN_LIMIT c = run-many _ _ (sym c.is_broken.ensures ∙ c.if-is_broken.false) c.if-n-gt-RUN_LIMIT.true

pub returns : goal.returns
returns c = (sym c.is_broken.ensures ∙ c.if-is_broken.false, c.if-n-eq0.false, c.if-n-gt-RUN_LIMIT.false, refl)
