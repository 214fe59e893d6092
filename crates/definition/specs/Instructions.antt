-- Instructions: one decision over opcode bytes; inline length and decoding go by what it says.
use Rattle.std.specs.Prelude.{Bool, true, false, List, [], ◌∷◌, ℕ, zero, suc, ◌+◌, ◌*◌, length, get_or, eqb, leb, ltb}
use Rattle.std.proofs.Math.Option.{Option, none, some}
use Rattle.definition.specs.Numbers.{version_two, version_three, argument_limit, byte_range}
use Rattle.definition.specs.Maybe.{◌>>=◌, need}
pub use Rattle.definition.specs.declared.Kind.{Kind}
pub use Rattle.definition.specs.declared.Kind.TheVariants.{IntKind, ReferenceKind}
pub use Rattle.definition.specs.declared.Operator.{Operator}
pub use Rattle.definition.specs.declared.Operator.TheVariants.{Add, Subtract, Multiply, Divide}
pub use Rattle.definition.specs.declared.Condition.{Condition}
pub use Rattle.definition.specs.declared.Condition.TheVariants.{Always, IfZero, IfLess}
use Rattle.definition.specs.Classes.{OneArgument, arguments_of, Signature, signature}
pub use Rattle.definition.specs.declared.Opcode.{Opcode}
pub use Rattle.definition.specs.declared.Opcode.TheVariants.{OpAconstNull, OpSipush, OpLoad, OpStore, OpPop, OpDup, OpArithmetic, OpGetfield, OpPutfield, OpInvokevirtual, OpInvokevirtualList, OpNew, OpReturn, OpBranch, OpUnknown}
pub use Rattle.definition.specs.declared.Instruction.{Instruction}
pub use Rattle.definition.specs.declared.Instruction.TheVariants.{AconstNull, Sipush, Load, Store, Pop, Dup, Arithmetic, Getfield, Putfield, Invokevirtual, New, Return, Branch}

-- The decision over opcode bytes, by the version of the class's file: imul, idiv and branches are there from version 2 on, lists of
-- arguments from version 3 on

unfoldable pub pick : {A : Type 0} → Bool → A → A → A
pick true a b = a
pick false a b = b

unfoldable pub opcode_of : ℕ → ℕ → Opcode
opcode_of version b =
    pick (eqb b 0x01) OpAconstNull (pick (eqb b 0x11) OpSipush
    (pick (eqb b 0x15) (OpLoad IntKind) (pick (eqb b 0x19) (OpLoad ReferenceKind) (pick (eqb b 0x36) (OpStore IntKind) (pick (eqb b 0x3A) (OpStore ReferenceKind)
    (pick (eqb b 0x57) OpPop (pick (eqb b 0x59) OpDup (pick (eqb b 0x60) (OpArithmetic Add) (pick (eqb b 0x64) (OpArithmetic Subtract)
    (pick (eqb b 0xB4) OpGetfield (pick (eqb b 0xB5) OpPutfield (pick (eqb b 0xB6) (pick (leb version_three version) OpInvokevirtualList OpInvokevirtual) (pick (eqb b 0xBB) OpNew
    (pick (eqb b 0xAC) (OpReturn IntKind) (pick (eqb b 0xB0) (OpReturn ReferenceKind)
    (pick (leb version_two version)
    (pick (eqb b 0x68) (OpArithmetic Multiply) (pick (eqb b 0x6C) (OpArithmetic Divide)
    (pick (eqb b 0x99) (OpBranch IfZero) (pick (eqb b 0xA1) (OpBranch IfLess) (pick (eqb b 0xA7) (OpBranch Always) OpUnknown))))) OpUnknown))))))))))))))))

-- how many bytes follow inline, from place i on; a list's types as many as its count says
unfoldable pub inline_length : List ℕ → ℕ → Opcode → ℕ
inline_length s i OpAconstNull = 0
inline_length s i OpSipush = 2
inline_length s i (OpLoad k) = 1
inline_length s i (OpStore k) = 1
inline_length s i OpPop = 0
inline_length s i OpDup = 0
inline_length s i (OpArithmetic o) = 0
inline_length s i OpGetfield = 6
inline_length s i OpPutfield = 6
inline_length s i OpInvokevirtual = 8
inline_length s i OpInvokevirtualList = 7 + 2 * get_or s (i + 4) 0
inline_length s i OpNew = 2
inline_length s i (OpReturn k) = 0
inline_length s i (OpBranch c) = 2
inline_length s i OpUnknown = 0

-- 16 bits inline at place i
unfoldable pub short_at : List ℕ → ℕ → ℕ
short_at s i = get_or s i 0 * byte_range + get_or s (i + 1) 0

-- a signature inline at place i: name, argument, result; the list is of one
abbrev pub signature_at : List ℕ → ℕ → Signature
signature_at s i = signature (short_at s i) (OneArgument (short_at s (i + 2))) (short_at s (i + 4))

-- n types inline at place i
unfoldable pub shorts_at : List ℕ → ℕ → ℕ → List ℕ
shorts_at s i zero = []
shorts_at s i (suc n) = short_at s i ∷ shorts_at s (i + 2) n

-- a signature inline at place i with its list of n: name, a byte with the count, n types, result; none where n is above 4
unfoldable pub list_signature_at : List ℕ → ℕ → ℕ → Option Signature
list_signature_at s i n = need (leb n argument_limit) >>= λ _. arguments_of (shorts_at s (i + 3) n) >>= λ a. some (signature (short_at s i) a (short_at s (i + 3 + 2 * n)))

-- signed 16 bits as 32
unfoldable pub extend : ℕ → ℕ
extend n = elim (ltb n 32768) [ true ↦ n | false ↦ n + 4294901760 ]

-- the instruction whose inline bytes begin at place i; a count above 4 is as an unknown opcode
unfoldable pub instruction_of : List ℕ → ℕ → Opcode → Option Instruction
instruction_of s i OpAconstNull = some AconstNull
instruction_of s i OpSipush = some (Sipush (extend (short_at s i)))
instruction_of s i (OpLoad k) = some (Load k (get_or s i 0))
instruction_of s i (OpStore k) = some (Store k (get_or s i 0))
instruction_of s i OpPop = some Pop
instruction_of s i OpDup = some Dup
instruction_of s i (OpArithmetic o) = some (Arithmetic o)
instruction_of s i OpGetfield = some (Getfield (short_at s i) (short_at s (i + 2)) (short_at s (i + 4)))
instruction_of s i OpPutfield = some (Putfield (short_at s i) (short_at s (i + 2)) (short_at s (i + 4)))
instruction_of s i OpInvokevirtual = some (Invokevirtual (short_at s i) (signature_at s (i + 2)))
instruction_of s i OpInvokevirtualList = list_signature_at s (i + 2) (get_or s (i + 4) 0) >>= λ m. some (Invokevirtual (short_at s i) m)
instruction_of s i OpNew = some (New (short_at s i))
instruction_of s i (OpReturn k) = some (Return k)
instruction_of s i (OpBranch c) = some (Branch c (short_at s i))
instruction_of s i OpUnknown = none

-- an instruction, and its size in bytes
pub record Decoded : Type 0 where
  pub instruction : Instruction
  pub size : ℕ

unfoldable pub sized_as : ℕ → Option Instruction → Option Decoded
sized_as n none = none
sized_as n (some i) = some (record { instruction = i; size = n })

-- the instruction at point p of code of that version; none past the end, for an unknown opcode, for a count of arguments above 4, or if the end cuts its
-- inline bytes off
unfoldable pub decode : ℕ → List ℕ → ℕ → Option Decoded
decode version code p =
    let o = opcode_of version (get_or code p 0) in
    let n = suc (inline_length code (p + 1) o) in
    elim (leb (p + n) (length code)) [ true ↦ sized_as n (instruction_of code (p + 1) o) | false ↦ none ]
