-- By its cases.
use mathlib.Core.Path.{refl}
use Rattle.searching.specs.Found.{count_in}
use Rattle.searching.proofs.searches.count_in.Goals as goal

pub returns-in-Some : goal.returns-in-Some
unfolding count_in
returns-in-Some c = rw c.in-Some.is refl

pub returns-in-None : goal.returns-in-None
unfolding count_in
returns-in-None c = rw c.in-None.is refl
