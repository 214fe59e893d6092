-- Each instruction goes on, but for a goto and a return.
use Rattle.definition.specs.Verifier.{goes_on}
use Rattle.verifier.proofs.LookupLaws.{goes-else}
use Rattle.verifier.proofs.lookups.goes_on.Goals as goal

pub returns-in-Return : goal.returns-in-Return
unfolding goes_on
returns-in-Return c = rw c.in-Return.is

pub returns-in_default : goal.returns-in_default
returns-in_default c = goes-else _ c.in_default.not-Return c.in_default.not-Branch
