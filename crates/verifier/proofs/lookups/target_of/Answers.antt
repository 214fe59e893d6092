-- A branch has a target.
use Rattle.definition.specs.Verifier.{target}
use Rattle.verifier.proofs.LookupLaws.{targets-else}
use Rattle.verifier.proofs.lookups.target_of.Goals as goal

pub returns-in-Branch : goal.returns-in-Branch
unfolding target
returns-in-Branch c = rw c.in-Branch.is

pub returns-in_default : goal.returns-in_default
returns-in_default c = targets-else _ c.in_default.not-Branch
