-- A field has four bytes, and the first begins at place 8.
use native.Mathlib.Omega.{arith}
use Rattle.classfile.specs.Reading.{field_place}
use Rattle.classfile.proofs.fields.field_place.Goals as goal

pub returns : goal.returns
unfolding field_place
returns c = omega arith
