use Prim.Native.Nat.{ℕ, ◌+◌, ◌<◌}
use mathlib.Core.Path.{◌≡◌}
use lib.ListN.{length}
use Rattle.definition.specs.Verifier.{type_of_name}
use Rattle.classfile.specs.Reading.{type_at}
use Rattle.verifier.specs.Types.{operand_at}
use Rattle.verifier.proofs.flows.mapped_operands.Given as goal

abbrev pub invariant-loop-i : goal.invariant-loop-i
invariant-loop-i l = record {
  full : length l.operands ≡ 16;
  set : (j : ℕ) → j < l.i → operand_at l.operands j ≡ type_of_name (type_at l.maps (l.place + 19) j);
}
