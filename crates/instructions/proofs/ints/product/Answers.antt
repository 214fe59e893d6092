-- The product of the bits doesn't pass 64 bits; its lowest 32 are those of the ints' product.
use Rattle.std.proofs.Common.{sym}
use native.Mathlib.Omega.{arith}
use Rattle.laws.specs.Ints.{product-bits}
use Rattle.instructions.proofs.ints.product.Goals as goal

pub returns : goal.returns
returns c =
    let x = c.args.x in
    let y = c.args.y in
    sym (product-bits x y (omega arith) (omega arith))
