-- 'Broken' comes first, then what is decided on the classes and the cache.
use Rattle.std.proofs.Common.{sym, ◌∙◌}
use Rattle.execution.specs.Starts.{start-broken, opens}
use Rattle.execution.proofs.starting.decide_start.Goals as goal

pub returns-then-is_broken : goal.returns-then-is_broken
returns-then-is_broken c = λ v. start-broken _ _ _ _ v _ (sym c.is_broken.ensures ∙ c.if-is_broken.true)

pub returns : goal.returns
returns c = opens _ (sym c.is_broken.ensures ∙ c.if-is_broken.false) _ _ _ _ _ c.decide.ensures
