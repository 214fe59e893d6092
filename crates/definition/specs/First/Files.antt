-- The first document's files and opcodes: of version 1 alone, whose methods have one argument and no maps, and without imul, idiv, branches and calls with a list.
use Rattle.std.specs.Prelude.{Bool, true, false, not, ◌&&◌, List, [], ◌∷◌, ℕ, zero, suc, ◌+◌, length, take, drop, get_or, eqb, leb}
use Rattle.std.proofs.Math.Option.{Option, none, some}
use Rattle.definition.specs.declared.Kind.TheVariants.{IntKind, ReferenceKind}
use Rattle.definition.specs.declared.Operator.TheVariants.{Add, Subtract}
use Rattle.definition.specs.declared.Signature.{Signature}
use Rattle.definition.specs.declared.Opcode.{Opcode}
use Rattle.definition.specs.declared.Opcode.TheVariants.{OpAconstNull, OpSipush, OpLoad, OpStore, OpPop, OpDup, OpArithmetic, OpGetfield, OpPutfield, OpInvokevirtual, OpInvokevirtualList, OpNew, OpReturn, OpBranch, OpUnknown}
use Rattle.definition.specs.Numbers.{name_object, version_one, file_limit, code_limit}
use Rattle.definition.specs.Lists.{doubled}
use Rattle.definition.specs.Maybe.{◌>>=◌, need}
use Rattle.definition.specs.Classes.{Method}
use Rattle.definition.specs.File.{File, Got, byte, short, name, count, fields_in, ends, same_field}
use Rattle.definition.specs.Instructions.{pick, instruction_of, Decoded, sized_as}
use Rattle.definition.specs.First.Signatures.{first_signature, first_alike}

-- name, argument type, result type
unfoldable pub first_signature_in : List ℕ → Option (Got Signature)
first_signature_in bs = name 1 bs >>= λ n. name 1 n.more >>= λ a. name 1 a.more >>= λ r. some (record { value = first_signature n.value a.value r.value; more = r.more })

-- for each method its signature, code length (1 to 512), code
unfoldable pub first_methods_in : ℕ → List ℕ → Option (Got (List Method))
first_methods_in zero bs = some (record { value = []; more = bs })
first_methods_in (suc k) bs =
    first_signature_in bs >>= λ s. short s.more >>= λ l.
    need (leb 1 l.value && leb l.value code_limit && leb l.value (length l.more)) >>= λ _.
    first_methods_in k (drop l.value l.more) >>= λ ms.
    some (record { value = record { signature = s.value; code = take l.value l.more; maps = [] } ∷ ms.value; more = ms.more })

-- two methods alike in name and both types
unfoldable pub first_same_method : Method → Method → Bool
first_same_method m n = first_alike m.signature n

-- version 1, the length of all that follows it, both class names, fields, methods, nothing after, at most 4,096 bytes, none doubled
unfoldable pub first_read_file : List ℕ → Option File
first_read_file bs =
    need (leb (length bs) file_limit) >>= λ _. byte bs >>= λ v. need (eqb v.value version_one) >>= λ _.
    short v.more >>= λ n. need (eqb n.value (length n.more)) >>= λ _.
    name name_object n.more >>= λ c. name name_object c.more >>= λ s.
    count s.more >>= λ k. fields_in k.value k.more >>= λ fs.
    count fs.more >>= λ j. first_methods_in j.value j.more >>= λ ms. need (ends ms.more) >>= λ _.
    need (not (doubled same_field fs.value)) >>= λ _. need (not (doubled first_same_method ms.value)) >>= λ _.
    some (record { version = v.value; name = c.value; super = s.value; fields = fs.value; methods = ms.value })

-- The decision over opcode bytes
unfoldable pub first_opcode_of : ℕ → Opcode
first_opcode_of b =
    pick (eqb b 0x01) OpAconstNull (pick (eqb b 0x11) OpSipush
    (pick (eqb b 0x15) (OpLoad IntKind) (pick (eqb b 0x19) (OpLoad ReferenceKind) (pick (eqb b 0x36) (OpStore IntKind) (pick (eqb b 0x3A) (OpStore ReferenceKind)
    (pick (eqb b 0x57) OpPop (pick (eqb b 0x59) OpDup (pick (eqb b 0x60) (OpArithmetic Add) (pick (eqb b 0x64) (OpArithmetic Subtract)
    (pick (eqb b 0xB4) OpGetfield (pick (eqb b 0xB5) OpPutfield (pick (eqb b 0xB6) OpInvokevirtual (pick (eqb b 0xBB) OpNew
    (pick (eqb b 0xAC) (OpReturn IntKind) (pick (eqb b 0xB0) (OpReturn ReferenceKind) OpUnknown)))))))))))))))

-- how many bytes follow inline; no byte is read as a branch or as a call with a list
unfoldable pub first_inline_length : Opcode → ℕ
first_inline_length OpAconstNull = 0
first_inline_length OpSipush = 2
first_inline_length (OpLoad k) = 1
first_inline_length (OpStore k) = 1
first_inline_length OpPop = 0
first_inline_length OpDup = 0
first_inline_length (OpArithmetic o) = 0
first_inline_length OpGetfield = 6
first_inline_length OpPutfield = 6
first_inline_length OpInvokevirtual = 8
first_inline_length OpInvokevirtualList = 0
first_inline_length OpNew = 2
first_inline_length (OpReturn k) = 0
first_inline_length (OpBranch c) = 2
first_inline_length OpUnknown = 0

-- the instruction at point p; none past the end, for an unknown opcode, or if the end cuts its inline bytes off
unfoldable pub first_decode : List ℕ → ℕ → Option Decoded
first_decode code p =
    let o = first_opcode_of (get_or code p 0) in
    elim (leb (p + suc (first_inline_length o)) (length code)) [ true ↦ sized_as (suc (first_inline_length o)) (instruction_of code (p + 1) o) | false ↦ none ]
