-- The maps are looked up by a table, which is left out where there are none.
use Rattle.verifier.proofs.LookupLaws.{indexed-nowhere}
use Rattle.verifier.proofs.places.check_method.Goals as goal

pub check_code-requires : goal.check_code-requires
check_code-requires c = indexed-nowhere _
