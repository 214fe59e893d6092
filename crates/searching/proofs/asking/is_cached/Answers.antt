-- By what the cache has.
use mathlib.Core.Path.{ap, ◌∙◌}
use Rattle.std.specs.Option as code
use Rattle.resolution.specs.Quick.{optional-is}
use Rattle.searching.proofs.asking.is_cached.Goals as goal

pub returns : goal.returns
returns c = c.is_some.ensures ∙ (ap code.is_some c.find.ensures ∙ optional-is _)
