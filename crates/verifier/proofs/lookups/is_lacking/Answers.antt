-- The point itself first, then the target.
use mathlib.Core.Path.{sym, ◌∙◌}
use Rattle.verifier.specs.Lookups.{lacking}
use Rattle.verifier.proofs.lookups.is_lacking.Goals as goal

pub returns-then-is_wanting : goal.returns-then-is_wanting
unfolding lacking
returns-then-is_wanting c = rw (sym c.is_wanting.ensures ∙ c.if-is_wanting.true) c.if-is_wanting.true

pub returns-else-is_wanting : goal.returns-else-is_wanting
unfolding lacking
returns-else-is_wanting c = rw (sym c.is_wanting.ensures ∙ c.if-is_wanting.false) c.is_target_bare.ensures
