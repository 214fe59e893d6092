-- Whether there is a map.
use Rattle.verifier.proofs.LookupLaws.{bare}
use Rattle.verifier.proofs.lookups.is_bare.Goals as goal

pub returns : goal.returns
returns c = bare _ _ _ c.find_map.ensures _ c.is_none.ensures
