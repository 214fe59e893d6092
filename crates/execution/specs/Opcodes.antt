-- Opcodes by small numbers, and the table of the numbers of all bytes: the one decision over opcode bytes, written out.
use Rattle.std.specs.Prelude.{◌≡◌, refl, List, ℕ, ◌+◌, ◌-◌, ◌<◌, ◌≤◌, ◌%◌, eqb, ltb, length, get_or, take, drop}
use Rattle.std.proofs.Common.{sym, ap, ◌∙◌, arith, get_or-take, get_or-drop, le-leb, lt-ltb, le-ltb}
use Rattle.std.proofs.lemmas.Bool.{lt-leb}
use Rattle.definition.specs.Lists.{rows}
use Rattle.definition.specs.declared.Opcode.{Opcode}
use Rattle.definition.specs.declared.Opcode.TheVariants.{OpAconstNull, OpSipush, OpLoad, OpStore, OpPop, OpDup, OpArithmetic, OpBranch, OpGetfield, OpPutfield, OpInvokevirtual, OpInvokevirtualList, OpNew, OpReturn, OpUnknown}
use Rattle.definition.specs.declared.Kind.TheVariants.{IntKind, ReferenceKind}
use Rattle.definition.specs.declared.Operator.TheVariants.{Add, Subtract, Multiply, Divide}
use Rattle.definition.specs.declared.Condition.TheVariants.{Always, IfZero, IfLess}
use Rattle.definition.specs.Instructions.{pick, opcode_of}
use Rattle.layout.specs.Places.{rows-length, rows-get_d}

-- an opcode's number; those that touch their frame alone come first
abbrev pub numbered : Opcode → ℕ
numbered OpAconstNull = 1
numbered OpSipush = 2
numbered (OpLoad IntKind) = 3
numbered (OpLoad ReferenceKind) = 4
numbered (OpStore IntKind) = 5
numbered (OpStore ReferenceKind) = 6
numbered OpPop = 7
numbered OpDup = 8
numbered (OpArithmetic Add) = 9
numbered (OpArithmetic Subtract) = 10
numbered (OpArithmetic Multiply) = 11
numbered (OpArithmetic Divide) = 12
numbered (OpBranch IfZero) = 13
numbered (OpBranch IfLess) = 14
numbered (OpBranch Always) = 15
numbered OpGetfield = 16
numbered OpPutfield = 17
numbered OpInvokevirtual = 18
numbered OpInvokevirtualList = 19
numbered OpNew = 20
numbered (OpReturn IntKind) = 21
numbered (OpReturn ReferenceKind) = 22
numbered OpUnknown = 0

-- the opcode of a number
unfoldable pub opcode_numbered : ℕ → Opcode
opcode_numbered n =
    pick (eqb n 1) OpAconstNull (
    pick (eqb n 2) OpSipush (
    pick (eqb n 3) (OpLoad IntKind) (
    pick (eqb n 4) (OpLoad ReferenceKind) (
    pick (eqb n 5) (OpStore IntKind) (
    pick (eqb n 6) (OpStore ReferenceKind) (
    pick (eqb n 7) OpPop (
    pick (eqb n 8) OpDup (
    pick (eqb n 9) (OpArithmetic Add) (
    pick (eqb n 10) (OpArithmetic Subtract) (
    pick (eqb n 11) (OpArithmetic Multiply) (
    pick (eqb n 12) (OpArithmetic Divide) (
    pick (eqb n 13) (OpBranch IfZero) (
    pick (eqb n 14) (OpBranch IfLess) (
    pick (eqb n 15) (OpBranch Always) (
    pick (eqb n 16) OpGetfield (
    pick (eqb n 17) OpPutfield (
    pick (eqb n 18) OpInvokevirtual (
    pick (eqb n 19) OpInvokevirtualList (
    pick (eqb n 20) OpNew (
    pick (eqb n 21) (OpReturn IntKind) (
    pick (eqb n 22) (OpReturn ReferenceKind) OpUnknown)))))))))))))))))))))

back : (o : Opcode) → opcode_numbered (numbered o) ≡ o
unfolding opcode_numbered pick
back OpAconstNull = refl
back OpSipush = refl
back (OpLoad IntKind) = refl
back (OpLoad ReferenceKind) = refl
back (OpStore IntKind) = refl
back (OpStore ReferenceKind) = refl
back OpPop = refl
back OpDup = refl
back (OpArithmetic Add) = refl
back (OpArithmetic Subtract) = refl
back (OpArithmetic Multiply) = refl
back (OpArithmetic Divide) = refl
back (OpBranch IfZero) = refl
back (OpBranch IfLess) = refl
back (OpBranch Always) = refl
back OpGetfield = refl
back OpPutfield = refl
back OpInvokevirtual = refl
back OpInvokevirtualList = refl
back OpNew = refl
back (OpReturn IntKind) = refl
back (OpReturn ReferenceKind) = refl
back OpUnknown = refl

-- The table: the numbers of the bytes of version 1, of version 2, and of those above

unfoldable pub version_at : ℕ → ℕ
version_at i = pick (ltb i 256) 1 (pick (ltb i 512) 2 3)

unfoldable pub number_at : ℕ → ℕ
number_at i = numbered (opcode_of (version_at i) (i % 256))

unfoldable pub numbers : List ℕ
numbers = rows number_at 768 0

-- xs are the numbers of the bytes of version v
pub record Numbers (v : ℕ) (xs : List ℕ) : Type 0 where
  pub right : (b : ℕ) → b < 256 → opcode_numbered (get_or xs b 0) ≡ opcode_of v b

-- the part of the table that begins at an entry is that of a version
part_right : (first v : ℕ) → first ≤ 512 → ((b : ℕ) → b < 256 → opcode_of (version_at (first + b)) ((first + b) % 256) ≡ opcode_of v b) → Numbers v (take 256 (drop first numbers))
unfolding numbers number_at
part_right first v l h = record {
  right = λ b m.
      let e : 0 + (first + b) ≡ first + b = omega arith in
      let z : get_or (take 256 (drop first numbers)) b 0 ≡ number_at (first + b) =
      get_or-take 256 (drop first numbers) b 0 m ∙ (get_or-drop first numbers b 0 ∙ (rows-get_d number_at 768 0 (first + b) 0 (omega arith) ∙ ap number_at e)) in
      ap opcode_numbered z ∙ (back (opcode_of (version_at (first + b)) ((first + b) % 256)) ∙ h b m);
}

pub numbers-one : (v : ℕ) → v < 2 → Numbers v (take 256 (drop 0 numbers))
unfolding version_at pick opcode_of
numbers-one v l = part_right 0 v (omega arith) (λ b m.
    let z : (0 + b) % 256 ≡ b = omega arith in
    rw (lt-ltb (0 + b) 256 (omega arith), z, lt-leb 2 v l, lt-leb 3 v (omega arith)))

pub numbers-two : (v : ℕ) → 2 ≤ v → v < 3 → Numbers v (take 256 (drop 256 numbers))
unfolding version_at pick
numbers-two v h l = part_right 256 v (omega arith) (λ b m.
    let z : (256 + b) % 256 ≡ b = omega arith in
    let w : 2 ≡ v = omega arith in
    rw (le-ltb (256 + b) 256 (omega arith), lt-ltb (256 + b) 512 (omega arith), z) (ap (λ (y : ℕ). opcode_of y b) w))

pub numbers_more : (v : ℕ) → 3 ≤ v → Numbers v (take 256 (drop 512 numbers))
unfolding version_at pick opcode_of
numbers_more v h = part_right 512 v (omega arith) (λ b m.
    let z : (512 + b) % 256 ≡ b = omega arith in
    rw (le-ltb (512 + b) 256 (omega arith), le-ltb (512 + b) 512 (omega arith), z, le-leb 2 v (omega arith), le-leb 3 v h))

-- the number that a byte of the code has there
pub numbered-at : (v : ℕ) (xs code : List ℕ) (p a b i n : ℕ) → a ≡ p → b ≡ get_or code a 0 → b < 256 → i ≡ b → n ≡ get_or xs i 0 → Numbers v xs → opcode_of v (get_or code p 0) ≡ opcode_numbered n
numbered-at v xs code p a b i n e f l g q h =
    ap (opcode_of v) (sym (f ∙ ap (λ (z : ℕ). get_or code z 0) e)) ∙ sym (ap opcode_numbered (q ∙ ap (λ (z : ℕ). get_or xs z 0) g) ∙ h.right b l)

-- the part of the table as it is lent
pub numbers-lent : (v first : ℕ) (xs : List ℕ) → xs ≡ numbers → Numbers v (take 256 (drop first numbers)) → Numbers v (take (first + 256 - first) (drop first xs))
numbers-lent v first xs e h = let z : first + 256 - first ≡ 256 = omega arith in rw (e, z) h

pub numbers-length : length numbers ≡ 768
unfolding numbers
numbers-length = rows-length number_at 768 0
