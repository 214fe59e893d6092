-- Before operand i is set, those below it are the map's.
use Prim.Native.Nat.{ℕ}
use mathlib.Core.Path.{ap, ◌∙◌}
use lib.ListN.{length-set}
use native.Mathlib.Omega.{arith}
use Rattle.definition.specs.Verifier.{type_of_name}
use Rattle.classfile.specs.Reading.{type_at}
use Rattle.verifier.proofs.FlowLaws.{operand-set}
use Rattle.verifier.proofs.flows.mapped_operands.Goals as goal

pub loop-i-preserved : goal.loop-i-preserved
loop-i-preserved c =
    let full = c.loop-i.invariant.full in record {
      full = length-set c.loop-i.operands c.from.result c.type_of_name.result ∙ full;
      set = operand-set c.loop-i.operands c.loop-i.i c.from.result c.type_of_name.result (λ (j : ℕ). type_of_name (type_at _ _ j)) c.from.ensures
          (omega (arith, full, c.requires, c.loop-i-test.true)) (c.type_of_name.ensures.0 ∙ ap type_of_name c.map_operand.ensures) c.loop-i.invariant.set;
    }
