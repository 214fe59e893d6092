-- The table has the points that it reaches.
use mathlib.Core.Path.{◌∙◌}
use Rattle.verifier.specs.Lookups.{Indexed}
use Rattle.verifier.proofs.lookups.find_map.Goals as goal

pub returns-then-q-places : goal.returns-then-q-places
unfolding Indexed
returns-then-q-places c = c.placed.ensures _ ∙ c.requires _ c.if-q-places.true
