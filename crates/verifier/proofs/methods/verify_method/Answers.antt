-- The maps are looked up by a table, which is left out where there are none.
use Rattle.verifier.proofs.LookupLaws.{indexed-nowhere}
use Rattle.verifier.proofs.methods.verify_method.Goals as goal

pub verify_code-requires : goal.verify_code-requires
verify_code-requires c = indexed-nowhere _
