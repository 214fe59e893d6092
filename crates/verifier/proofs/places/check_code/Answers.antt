-- Each check by its own function.
use Rattle.verifier.specs.Stops.{check_point}
use Rattle.verifier.proofs.places.check_code.Goals as goal

pub returns-in-Maps : goal.returns-in-Maps
unfolding check_point
returns-in-Maps c = rw c.in-Maps.is c.lack_of.ensures
