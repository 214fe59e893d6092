-- The methods begin after the fields and the byte with the method count.
use native.Mathlib.Omega.{arith}
use Rattle.classfile.specs.Reading.{field_place, method_place}
use Rattle.classfile.proofs.methods.first_place.Goals as goal

pub returns : goal.returns
unfolding method_place field_place
returns c = record { place = omega arith; low = omega arith }
