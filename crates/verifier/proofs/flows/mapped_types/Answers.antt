-- The operands and the locals are the map's.
use native.Mathlib.Omega.{arith}
use Rattle.verifier.specs.Types.{types_of}
use Rattle.verifier.proofs.FlowLaws.{operands-mapped}
use Rattle.verifier.proofs.flows.mapped_types.Goals as goal

pub returns : goal.returns
unfolding types_of
returns c = rw (c.from-depth.ensures, c.map_depth-n.ensures, c.mapped_locals-locals.ensures, operands-mapped c.mapped_operands-operands.result c.args.maps.now c.args.place (λ j h. c.mapped_operands-operands.ensures j (omega (arith, h, c.map_depth-n.ensures))))
