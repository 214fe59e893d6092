-- By its cases.
use Rattle.std.proofs.Common.{refl}
use Rattle.definition.specs.Checks.{agreed}
use Rattle.constraints.proofs.agreement.agreed.Goals as goal

pub returns-in-Agreed : goal.returns-in-Agreed
unfolding agreed
returns-in-Agreed c = rw c.in-Agreed.is refl

pub returns-in_default : goal.returns-in_default
unfolding agreed
returns-in_default c = rw c.in_default.is refl
