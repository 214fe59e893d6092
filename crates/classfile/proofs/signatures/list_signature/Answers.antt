-- The name, the arguments and the result type, each as it was read.
use Rattle.classfile.specs.Reading.{quick_signature, method_at}
use Rattle.classfile.proofs.signatures.list_signature.Goals as goal

pub returns : goal.returns
unfolding method_at quick_signature
returns c = rw (c.method_name.ensures, c.method_arguments.ensures, c.method_result.ensures)
