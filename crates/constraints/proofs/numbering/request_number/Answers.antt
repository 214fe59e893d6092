-- A loader times 65,536 and a name below it are read back as the request's loader and name.
use native.Mathlib.Omega.{arith}
use Rattle.constraints.proofs.Filling.{number-at}
use Rattle.constraints.proofs.numbering.request_number.Goals as goal

pub returns : goal.returns
returns c = number-at _ _ _ _ c.from.ensures c.from-2.ensures (omega arith)
