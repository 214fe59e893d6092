-- The result type stands behind the name and the arguments.
use native.Mathlib.Omega.{arith}
use Rattle.classfile.specs.Reading.{result_place}
use Rattle.classfile.proofs.signatures.result_place.Goals as goal

pub returns : goal.returns
unfolding result_place
returns c = (omega arith, omega arith)
