-- The code begins behind the result type and the code length.
use native.Mathlib.Omega.{arith}
use Rattle.classfile.specs.Reading.{code_place}
use Rattle.classfile.proofs.methods.code_place.Goals as goal

pub returns : goal.returns
unfolding code_place
returns c = (omega arith, omega arith)
