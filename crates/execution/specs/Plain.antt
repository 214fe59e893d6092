-- An instruction that touches its frame alone, done on the frame's row.
use Rattle.std.specs.Prelude.{◌≡◌, refl, Bool, List, length, set, leb}
use Rattle.std.proofs.Math.Path.{sym, ap}
use Rattle.std.proofs.Common.{◌∙◌, arith, get_or-set_same, le-leb}
use Rattle.std.proofs.Math.Bool.{true, false}
use Rattle.std.proofs.lemmas.Bool.{false≢true}
use Rattle.std.proofs.Math.Option.{Option, none, some}
use Prim.Native.Nat.{ℕ, suc, ◌+◌, ◌*◌, ◌<◌, ◌≤◌}
use Rattle.std.proofs.Math.ListN.{get_or, length-set}
use Rattle.std.proofs.Math.Seq.{get_or-set_other}
use Rattle.definition.specs.Lists.{rows, stack}
use Rattle.definition.specs.Constraints.{World}
use Rattle.definition.specs.declared.Instruction.{Instruction}
use Rattle.definition.specs.declared.Instruction.TheVariants.{AconstNull, Sipush, Load, Store, Pop, Dup, Arithmetic, Branch}
use Rattle.definition.specs.declared.Kind.{Kind}
use Rattle.definition.specs.declared.Opcode.{Opcode}
use Rattle.definition.specs.declared.Opcode.TheVariants.{OpAconstNull, OpSipush, OpLoad, OpStore, OpPop, OpDup, OpArithmetic, OpBranch}
use Rattle.definition.specs.declared.Condition.{Condition}
use Rattle.definition.specs.declared.Operator.{Operator}
use Rattle.definition.specs.Instructions.{short_at, extend, Decoded, opcode_of, inline_length, instruction_of, sized_as, decode}
use Rattle.definition.specs.Machine.{Value, Objects, Frame, execute}
use Rattle.definition.specs.Tables.{value_of, kind_of, bits_of, operand_at, put_operand, put_value, local_at, put_local, frame_of}
use Rattle.layout.specs.Cells.{moved}
use Rattle.layout.specs.Places.{rows-cong, stack-cong}
use Rattle.instructions.specs.declared.Plan.{Plan}
use Rattle.instructions.specs.declared.Plan.TheVariants.{Refuse, Keep, Jump, Above, Local, Give, Finish, Field, Enter, Make}
use Rattle.instructions.specs.Plans.{decoded, meaning, FrameOnly}
use Rattle.std.specs.Prelude as Rust
use Rattle.std.specs.Prelude.{MatchOption}
use Rattle.execution.specs.declared.walking.Moved.{Moved}
use Rattle.execution.specs.RowCells.{IsRow, operand_row, local-row}

-- p is a point of the code, which is short enough
abbrev pub Inside : List ℕ → ℕ → Type 0
Inside code p = (p < length code) × (length code ≤ 65535)

-- the plan is right for instruction i of a frame with d operands in the row R, wherever the row lies
abbrev pub Only : List ℕ → ℕ → Instruction → Plan → Type 0
Only R d i p = (F : List ℕ) (b : ℕ) → IsRow F b R → FrameOnly F b d i p

-- what a plan leaves of the row, where the frame goes on at point n unless the plan jumps: point q, e operands, the row G
abbrev pub Wrote : List ℕ → ℕ → Plan → ℕ → ℕ → List ℕ → Type 0
Wrote R n (Refuse r) q e G = ⊥
Wrote R n (Keep d) q e G = (d ≤ 16) × (q ≡ n) × (e ≡ d) × (G ≡ moved R 0 n d)
Wrote R n (Jump d x) q e G = (d ≤ 16) × (q ≡ x) × (e ≡ d) × (G ≡ moved R 0 x d)
Wrote R n (Above d v) q e G = (d < 16) × (q ≡ n) × (e ≡ d + 1) × (G ≡ put_operand 0 (moved R 0 n (d + 1)) d (value_of v.kind v.bits))
Wrote R n (Local d j v) q e G = (d ≤ 16) × (q ≡ n) × (e ≡ d) × (G ≡ put_local 0 (moved R 0 n d) j (value_of v.kind v.bits))
Wrote R n (Give v) q e G = ⊥
Wrote R n (Finish v) q e G = ⊥
Wrote R n (Field d o j v) q e G = ⊥
Wrote R n (Enter d x) q e G = ⊥
Wrote R n (Make d c o) q e G = ⊥

-- what a function answers that carries a plan out on the row, or leaves it
abbrev pub Putting : List ℕ → ℕ → Plan → Rust.Option Moved → List ℕ → Type 0
Putting R n x m G = MatchOption m (G ≡ R) (λ s. Wrote R n x s.point s.depth G)

-- One instruction at point p, of a frame with d operands in the row R, leaves the row G with point q and e operands
pub record Step (v : ℕ) (code R : List ℕ) (p d q e : ℕ) (G : List ℕ) : Type 0 where
  pub instruction : Instruction
  pub size : ℕ
  pub plan : Plan
  pub reads : decode v code p ≡ some (decoded instruction size)
  pub only : Only R d instruction plan
  pub wrote : Wrote R (p + size) plan q e G

-- what a function answers that does it or not
abbrev pub Stepping : ℕ → List ℕ → List ℕ → ℕ → ℕ → Rust.Option Moved → List ℕ → Type 0
Stepping v code R p d m G = MatchOption m (G ≡ R) (λ s. Step v code R p d s.point s.depth G)

-- the same, where the opcode at point p is o
abbrev pub Does : Opcode → List ℕ → List ℕ → ℕ → ℕ → Rust.Option Moved → List ℕ → Type 0
Does o code R p d m G = (v : ℕ) → opcode_of v (get_or code p 0) ≡ o → Stepping v code R p d m G

-- and whatever the code
abbrev pub DoesAnywhere : Opcode → List ℕ → ℕ → ℕ → Rust.Option Moved → List ℕ → Type 0
DoesAnywhere o R p d m G = (code : List ℕ) → p < length code → Does o code R p d m G

-- A plan that is right for the frame in the row is right for it wherever the row lies

module _ (F : List ℕ) (b : ℕ) (R : List ℕ) (h : IsRow F b R) where
  class-row : get_or F b 0 ≡ get_or R 0 0
  class-row = let e : b + 0 ≡ b = omega arith in sym (h 0 (omega arith) ∙ ap (λ (z : ℕ). get_or F z 0) e)

  method-row : get_or F (b + 1) 0 ≡ get_or R (0 + 1) 0
  method-row = sym (h 1 (omega arith))

  operands-row : (d : ℕ) → d ≤ 16 → stack (operand_at F b) d ≡ stack (operand_at R 0) d
  operands-row d l = stack-cong (operand_at F b) (operand_at R 0) d (λ i m. sym (operand_row F b R h i (omega arith)))

  locals-row : rows (local_at F b) 8 0 ≡ rows (local_at R 0) 8 0
  locals-row = rows-cong (local_at F b) (local_at R 0) 8 0 (λ j l m. sym (local-row F b R h j (omega arith)))

  frame_row : (p d : ℕ) → d ≤ 16 → frame_of F b p d ≡ frame_of R 0 p d
  unfolding frame_of
  frame_row p d l = rw (class-row, method-row, operands-row d l, locals-row)

  module _ (task : ℕ) (w : World) (os : Objects) (fs : List Frame) (a : ℕ) where
    meaning-row : (n : ℕ) (x : Plan) (q e : ℕ) (G : List ℕ) → Wrote R n x q e G → meaning task w os fs F b a x ≡ meaning task w os fs R 0 a x
    unfolding meaning
    meaning-row n (Refuse r) q e G w = absurd w
    meaning-row n (Keep d) q e G w = rw (frame_row a d w.0)
    meaning-row n (Jump d x) q e G w = rw (frame_row x d w.0)
    meaning-row n (Above d v) q e G w = rw (class-row, method-row, operands-row d (omega (arith, w.0)), locals-row)
    meaning-row n (Local d j v) q e G w = rw (class-row, method-row, operands-row d w.0, locals-row)
    meaning-row n (Give v) q e G w = absurd w
    meaning-row n (Finish v) q e G w = absurd w
    meaning-row n (Field d o j v) q e G w = absurd w
    meaning-row n (Enter d x) q e G w = absurd w
    meaning-row n (Make d c o) q e G w = absurd w

  only_row : (d : ℕ) (i : Instruction) (x : Plan) → d ≤ 16 → FrameOnly R 0 d i x → (n q e : ℕ) (G : List ℕ) → Wrote R n x q e G → FrameOnly F b d i x
  only_row d i x l f n q e G w = record {
    says = λ task w' os fs k p s.
        meaning-row task w' os fs (p + s) n x q e G w
        ∙ (f.says task w' os fs k p s ∙ ap (λ (g : Frame). execute task w' os g fs k (decoded i s) i) (sym (frame_row p d l)));
    fits = f.fits;
  }

-- an instruction that was read, decided on and carried out in the row; the decision names the row's first cell b and its e operands
pub stepping : (v : ℕ) (code R : List ℕ) (p d : ℕ) (m : Rust.Option Moved) (G : List ℕ) → d ≤ 16 → (i : Instruction) (n : ℕ) (x : Plan) (b e : ℕ) → decode v code p ≡ some (decoded i n)
    → (b ≡ 0) × (e ≡ d) → FrameOnly R b e i x → Putting R (p + n) x m G → Stepping v code R p d m G
stepping v code R p d Rust.None G l i n x b e r q f w = w
stepping v code R p d (Rust.Some m) G l i n x b e r q f w = record {
  instruction = i;
  size = n;
  plan = x;
  reads = r;
  only = λ F a h. only_row F a R h d i x l (rw (q.0, q.1) at f) (p + n) m.point m.depth G w;
  wrote = w;
}

-- Decoding, by the opcode

module _ (v : ℕ) (code : List ℕ) (p : ℕ) where
  pub decode-as : (o : Opcode) → opcode_of v (get_or code p 0) ≡ o → p + suc (inline_length code (p + 1) o) ≤ length code
      → decode v code p ≡ sized_as (suc (inline_length code (p + 1) o)) (instruction_of code (p + 1) o)
  unfolding decode
  decode-as o e l = ap body e ∙ chosen (leb (p + suc (inline_length code (p + 1) o)) (length code)) (le-leb _ _ l)
    where
      body : Opcode → Option Decoded
      body o =
          elim (leb (p + suc (inline_length code (p + 1) o)) (length code)) as (λ _. Option Decoded) [
            | true ↦ sized_as (suc (inline_length code (p + 1) o)) (instruction_of code (p + 1) o)
            | false ↦ none
          ]

      chosen : (u : Bool) → u ≡ true
          → (elim u as (λ _. Option Decoded) [ true ↦ sized_as (suc (inline_length code (p + 1) o)) (instruction_of code (p + 1) o) | false ↦ none ])
          ≡ sized_as (suc (inline_length code (p + 1) o)) (instruction_of code (p + 1) o)
      chosen true h = refl
      chosen false h = absurd (false≢true h)

  module _ (l : p + 1 ≤ length code) where
    pub decode-null : opcode_of v (get_or code p 0) ≡ OpAconstNull → decode v code p ≡ some (decoded AconstNull 1)
    unfolding inline_length instruction_of sized_as
    decode-null e = decode-as OpAconstNull e l

    pub decode-pop : opcode_of v (get_or code p 0) ≡ OpPop → decode v code p ≡ some (decoded Pop 1)
    unfolding inline_length instruction_of sized_as
    decode-pop e = decode-as OpPop e l

    pub decode-dup : opcode_of v (get_or code p 0) ≡ OpDup → decode v code p ≡ some (decoded Dup 1)
    unfolding inline_length instruction_of sized_as
    decode-dup e = decode-as OpDup e l

    pub decode-arithmetic : (o : Operator) → opcode_of v (get_or code p 0) ≡ OpArithmetic o → decode v code p ≡ some (decoded (Arithmetic o) 1)
    unfolding inline_length instruction_of sized_as
    decode-arithmetic o e = decode-as (OpArithmetic o) e l

  pub decode-load : (k : Kind) (j : ℕ) → p + 2 ≤ length code → j ≡ get_or code (p + 1) 0 → opcode_of v (get_or code p 0) ≡ OpLoad k → decode v code p ≡ some (decoded (Load k j) 2)
  unfolding inline_length instruction_of sized_as
  decode-load k j l q e = rw q (decode-as (OpLoad k) e l)

  pub decode-store : (k : Kind) (j : ℕ) → p + 2 ≤ length code → j ≡ get_or code (p + 1) 0 → opcode_of v (get_or code p 0) ≡ OpStore k → decode v code p ≡ some (decoded (Store k j) 2)
  unfolding inline_length instruction_of sized_as
  decode-store k j l q e = rw q (decode-as (OpStore k) e l)

  pub decode-sipush : (n : ℕ) → p + 3 ≤ length code → n ≡ extend (short_at code (p + 1)) → opcode_of v (get_or code p 0) ≡ OpSipush → decode v code p ≡ some (decoded (Sipush n) 3)
  unfolding inline_length instruction_of sized_as
  decode-sipush n l q e = rw q (decode-as OpSipush e l)

  pub decode-branch : (c : Condition) (a : ℕ) → p + 3 ≤ length code → a ≡ short_at code (p + 1) → opcode_of v (get_or code p 0) ≡ OpBranch c → decode v code p ≡ some (decoded (Branch c a) 3)
  unfolding inline_length instruction_of sized_as
  decode-branch c a l q e = rw q (decode-as (OpBranch c) e l)

-- What is written: point and operand count stand in their cells, class and method stay, and there are few operands

pub record Cells (R : List ℕ) (q e : ℕ) (G : List ℕ) : Type 0 where
  pub point : q ≡ get_or G 2 0
  pub depth : e ≡ get_or G 3 0
  pub class : get_or G 0 0 ≡ get_or R 0 0
  pub method : get_or G 1 0 ≡ get_or R 1 0
  pub size : length G ≡ length R

module _ (R : List ℕ) (long : length R ≡ 52) where
  moved-cells : (q e : ℕ) → Cells R q e (moved R 0 q e)
  moved-cells q e = record {
    point = sym (get_or-set_other (set R 2 q) 3 2 e 0 (λ z. omega arith) ∙ get_or-set_same R 2 q 0 (omega arith));
    depth = sym (get_or-set_same (set R 2 q) 3 e 0 (omega (arith, length-set R 2 q)));
    class = get_or-set_other (set R 2 q) 3 0 e 0 (λ z. omega arith) ∙ get_or-set_other R 2 0 q 0 (λ z. omega arith);
    method = get_or-set_other (set R 2 q) 3 1 e 0 (λ z. omega arith) ∙ get_or-set_other R 2 1 q 0 (λ z. omega arith);
    size = length-set (set R 2 q) 3 e ∙ length-set R 2 q;
  }

  -- a value written behind the head
  value-cells : (q e i : ℕ) (x : Value) (S : List ℕ) → 3 < i → Cells R q e S → Cells R q e (put_value S i x)
  unfolding put_value
  value-cells q e i x S l c = record {
    point = c.point ∙ sym (low 2 (omega arith));
    depth = c.depth ∙ sym (low 3 (omega arith));
    class = low 0 (omega arith) ∙ c.class;
    method = low 1 (omega arith) ∙ c.method;
    size = length-set (set S i (kind_of x)) (i + 1) (bits_of x) ∙ (length-set S i (kind_of x) ∙ c.size);
  }
    where
      low : (j : ℕ) → j < 4 → get_or (put_value S i x) j 0 ≡ get_or S j 0
      low j h = get_or-set_other (set S i (kind_of x)) (i + 1) j (bits_of x) 0 (λ z. omega arith) ∙ get_or-set_other S i j (kind_of x) 0 (λ z. omega arith)

  pub wrote-cells : (n : ℕ) (x : Plan) (q e : ℕ) (G : List ℕ) → Wrote R n x q e G → Cells R q e G
  unfolding put_operand put_local
  wrote-cells n (Refuse r) q e G w = absurd w
  wrote-cells n (Keep d) q e G w = rw (w.1, w.2, w.3) (moved-cells n d)
  wrote-cells n (Jump d x) q e G w = rw (w.1, w.2, w.3) (moved-cells x d)
  wrote-cells n (Above d v) q e G w = rw (w.1, w.2, w.3) (value-cells n (d + 1) (0 + (20 + 2 * d)) (value_of v.kind v.bits) (moved R 0 n (d + 1)) (omega arith) (moved-cells n (d + 1)))
  wrote-cells n (Local d j v) q e G w = rw (w.1, w.2, w.3) (value-cells n d (0 + (4 + 2 * j)) (value_of v.kind v.bits) (moved R 0 n d) (omega arith) (moved-cells n d))
  wrote-cells n (Give v) q e G w = absurd w
  wrote-cells n (Finish v) q e G w = absurd w
  wrote-cells n (Field d o j v) q e G w = absurd w
  wrote-cells n (Enter d x) q e G w = absurd w
  wrote-cells n (Make d c o) q e G w = absurd w

pub wrote-few : (R : List ℕ) (n : ℕ) (x : Plan) (q e : ℕ) (G : List ℕ) → Wrote R n x q e G → e ≤ 16
wrote-few R n (Refuse r) q e G w = absurd w
wrote-few R n (Keep d) q e G w = omega (arith, w.0, w.2)
wrote-few R n (Jump d x) q e G w = omega (arith, w.0, w.2)
wrote-few R n (Above d v) q e G w = omega (arith, w.0, w.2)
wrote-few R n (Local d j v) q e G w = omega (arith, w.0, w.2)
wrote-few R n (Give v) q e G w = absurd w
wrote-few R n (Finish v) q e G w = absurd w
wrote-few R n (Field d o j v) q e G w = absurd w
wrote-few R n (Enter d x) q e G w = absurd w
wrote-few R n (Make d c o) q e G w = absurd w

-- where the walk is: at point p, with d operands
abbrev pub At : List ℕ → ℕ → ℕ → Type 0
At R p d = (p ≡ get_or R 2 0) × (d ≡ get_or R 3 0) × (d ≤ 16) × (length R ≡ 52)
