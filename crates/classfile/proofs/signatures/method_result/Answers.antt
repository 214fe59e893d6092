-- The result type stands at its place.
use Rattle.classfile.specs.Reading.{quick_signature, method_at}
use Rattle.classfile.proofs.signatures.method_result.Goals as goal

pub returns : goal.returns
unfolding method_at quick_signature
returns c = rw (← c.result_place.ensures.0) c.short_at.ensures
