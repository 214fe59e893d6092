-- The quotient and the remainder are those of the definition.
use mathlib.Core.Path.{refl}
use native.Mathlib.Omega.{arith}
use Rattle.constraints.specs.Nodes.{bucket_of}
use Rattle.constraints.proofs.numbering.bucket.Goals as goal

pub returns : goal.returns
unfolding bucket_of
returns c = (refl, omega arith)
