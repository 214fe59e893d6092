-- The answer of decoding: an instruction with its size, or nothing readable. A call is read by the place of its argument types and their count.
use Rattle.std.specs.Prelude as P
use Rattle.std.proofs.Math.Option.{Option, none, some}
use Rattle.std.specs.Prelude.{List, ℕ, ◌+◌, ◌*◌, eqb, leb}
use Rattle.definition.specs.declared.Condition.TheVariants.{Always, IfZero, IfLess}
use Rattle.definition.specs.declared.Operator.TheVariants.{Multiply, Divide}
use Rattle.definition.specs.declared.Opcode.{Opcode}
use Rattle.definition.specs.declared.Opcode.TheVariants.{OpArithmetic, OpBranch, OpUnknown}
use Rattle.definition.specs.declared.Instruction.{Instruction}
use Rattle.definition.specs.declared.Instruction.TheVariants.{Invokevirtual}
use Rattle.definition.specs.Numbers.{argument_limit}
use Rattle.definition.specs.Maybe.{◌>>=◌, need}
use Rattle.definition.specs.Classes.{arguments_of, signature}
use Rattle.definition.specs.Instructions.{pick, short_at, shorts_at, Decoded}
use Rattle.verifier.specs.declared.decoding.Reading.{Reading}

-- imul, idiv and the branches, by their opcode bytes, from version 2 on
unfoldable pub later_of : ℕ → ℕ → Opcode
later_of version b =
    pick (leb 2 version)
    (pick (eqb b 0x68) (OpArithmetic Multiply) (pick (eqb b 0x6C) (OpArithmetic Divide)
    (pick (eqb b 0x99) (OpBranch IfZero) (pick (eqb b 0xA1) (OpBranch IfLess) (pick (eqb b 0xA7) (OpBranch Always) OpUnknown))))) OpUnknown

-- a call with n argument types inline from that place on, the class's and the method's name at place i, and the result behind the types; none where n is
-- above 4. Both forms of invokevirtual are such calls: `call-inline` and `call-list` of the laws
unfoldable pub call_at : List ℕ → ℕ → ℕ → ℕ → Option Instruction
call_at s i place n =
    need (leb n argument_limit) >>= λ _. arguments_of (shorts_at s place n) >>= λ a.
    some (Invokevirtual (short_at s i) (signature (short_at s (i + 2)) a (short_at s (place + 2 * n))))

unfoldable pub reading_of : Option Decoded → P.Option Reading
reading_of none = P.None
reading_of (some d) = P.Some (record { instruction = d.instruction; size = d.size })

-- and back
unfoldable pub decoded_of : P.Option Reading → Option Decoded
decoded_of P.None = none
decoded_of (P.Some r) = some (record { instruction = r.instruction; size = r.size })
