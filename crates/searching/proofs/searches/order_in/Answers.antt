-- By its cases.
use mathlib.Core.Path.{refl}
use Rattle.searching.specs.Found.{order_in}
use Rattle.searching.proofs.searches.order_in.Goals as goal

pub returns-in-Some : goal.returns-in-Some
unfolding order_in
returns-in-Some c = rw c.in-Some.is refl

pub returns-in-None : goal.returns-in-None
unfolding order_in
returns-in-None c = rw c.in-None.is refl
