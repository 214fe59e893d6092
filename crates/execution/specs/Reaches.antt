-- An instruction that touches its frame alone, or a field of an object whose slot is remembered, done on the frame's row and the objects; and a walk of such instructions.
use Rattle.std.specs.Prelude.{◌≡◌, refl, true, false, List, ◌≢◌, ℕ, zero, suc, ◌+◌, ◌-◌, ◌*◌, ◌<◌, ◌≤◌, length, get_or}
use Rattle.std.proofs.Common.{◌∙◌, add-one}
use Rattle.std.proofs.Math.Option.{some}
use native.Mathlib.Omega.{arith}
use Rattle.definition.specs.declared.Instruction.TheVariants.{Getfield, Putfield}
use Rattle.definition.specs.declared.Opcode.{Opcode}
use Rattle.definition.specs.declared.Opcode.TheVariants.{OpGetfield, OpPutfield}
use Rattle.definition.specs.Instructions.{short_at, opcode_of, inline_length, instruction_of, sized_as, decode}
use Rattle.definition.specs.Tables.{value_of, operand_at, field_at, put_field}
use Rattle.frames.specs.declared.Cell.{Cell}
use Rattle.frames.specs.Unused.{is_used}
use Rattle.instructions.specs.declared.Plan.TheVariants.{Above, Keep}
use Rattle.instructions.specs.Plans.{decoded}
use Rattle.instructions.specs.Operands.{is_kind}
use Rattle.execution.specs.Memory.{recalled}
use Rattle.std.specs.Prelude as Rust
use Rattle.std.specs.Prelude.{MatchOption}
use Rattle.execution.specs.declared.walking.Moved.{Moved}
use Rattle.execution.specs.Opcodes.{opcode_numbered, Numbers, numbered-at}
use Rattle.execution.specs.Plain as plain
use Rattle.execution.specs.Plain.{Wrote, Putting, Cells, At, wrote-cells, wrote-few, decode-as}

abbrev cell : ℕ → ℕ → Cell
cell k b = record { kind = k; bits = b }

-- the receiver in cells of a kind and bits is an object in use; of the place p of method `key`, for its class, slot j is remembered
pub record Known (T A N O : List ℕ) (key p kind bits j : ℕ) : Type 0 where
  pub is : kind ≡ 3
  pub made : is_used N bits ≡ true
  pub place : p < 512
  pub class : get_or O (bits * 33) 0 < 64
  pub fact : Rust.Some j ≡ recalled T A key p (get_or O (bits * 33) 0)
  pub low : j < 16

-- getfield: the row G with point q and e operands
pub record Got (T A N : List ℕ) (key v : ℕ) (code R O : List ℕ) (p d q e : ℕ) (G : List ℕ) : Type 0 where
  pub object : Cell
  pub slot : ℕ
  pub value : Cell
  pub reads : decode v code p ≡ some (decoded (Getfield (short_at code (p + 1)) (short_at code (p + 3)) (short_at code (p + 5))) 7)
  pub some-d : d ≢ 0
  pub few : d ≤ 16
  pub top : value_of object.kind object.bits ≡ operand_at R 0 (d - 1)
  pub known : Known T A N O key p object.kind object.bits slot
  pub field : value_of value.kind value.bits ≡ field_at O object.bits slot
  pub wrote : Wrote R (p + 7) (Above (d - 1) value) q e G

-- putfield: the row G and the objects P
pub record Put (T A N : List ℕ) (key v : ℕ) (code R O : List ℕ) (p d q e : ℕ) (G P : List ℕ) : Type 0 where
  pub object : Cell
  pub slot : ℕ
  pub value : Cell
  pub reads : decode v code p ≡ some (decoded (Putfield (short_at code (p + 1)) (short_at code (p + 3)) (short_at code (p + 5))) 7)
  pub two : 2 ≤ d
  pub few : d ≤ 16
  pub last : value_of value.kind value.bits ≡ operand_at R 0 (d - 1)
  pub kind : is_kind (short_at code (p + 5)) value.kind value.bits ≡ true
  pub top : value_of object.kind object.bits ≡ operand_at R 0 (d - 1 - 1)
  pub known : Known T A N O key p object.kind object.bits slot
  pub wrote : Wrote R (p + 7) (Keep (d - 1 - 1)) q e G
  pub left : P ≡ put_field object.bits O slot (value_of value.kind value.bits)

-- One instruction leaves the row G, with point q and e operands, and the objects P
pub data Step (T A N : List ℕ) (key v : ℕ) (code R O : List ℕ) (p d q e : ℕ) (G P : List ℕ) : Type 0 where
  within : plain.Step v code R p d q e G → P ≡ O → Step T A N key v code R O p d q e G P
  got : Got T A N key v code R O p d q e G → P ≡ O → Step T A N key v code R O p d q e G P
  wrote : Put T A N key v code R O p d q e G P → Step T A N key v code R O p d q e G P

-- what a function answers that does it or not
abbrev pub Stepping : List ℕ → List ℕ → List ℕ → ℕ → ℕ → List ℕ → List ℕ → List ℕ → ℕ → ℕ → Rust.Option Moved → List ℕ → List ℕ → Type 0
Stepping T A N key v code R O p d m G P = MatchOption m ((G ≡ R) × (P ≡ O)) (λ s. Step T A N key v code R O p d s.point s.depth G P)

-- the same, where the opcode at point p is o
abbrev pub Does : Opcode → List ℕ → List ℕ → List ℕ → ℕ → List ℕ → List ℕ → List ℕ → ℕ → ℕ → Rust.Option Moved → List ℕ → List ℕ → Type 0
Does o T A N key code R O p d m G P = (v : ℕ) → opcode_of v (get_or code p 0) ≡ o → Stepping T A N key v code R O p d m G P

-- Decoding

module _ (v : ℕ) (code : List ℕ) (p : ℕ) (fit : p + 7 ≤ length code) where
  decode-getfield : opcode_of v (get_or code p 0) ≡ OpGetfield → decode v code p ≡ some (decoded (Getfield (short_at code (p + 1)) (short_at code (p + 3)) (short_at code (p + 5))) 7)
  unfolding inline_length instruction_of sized_as
  decode-getfield e =
      let x : p + 1 + 2 ≡ p + 3 = omega arith in
      let y : p + 1 + 4 ≡ p + 5 = omega arith in
      rw (← x, ← y) (decode-as v code p OpGetfield e fit)

  decode-putfield : opcode_of v (get_or code p 0) ≡ OpPutfield → decode v code p ≡ some (decoded (Putfield (short_at code (p + 1)) (short_at code (p + 3)) (short_at code (p + 5))) 7)
  unfolding inline_length instruction_of sized_as
  decode-putfield e =
      let x : p + 1 + 2 ≡ p + 3 = omega arith in
      let y : p + 1 + 4 ≡ p + 5 = omega arith in
      rw (← x, ← y) (decode-as v code p OpPutfield e fit)

-- What each function answers

module _ (T A N : List ℕ) (key : ℕ) (code R O : List ℕ) (p d : ℕ) where
  pub plainly : (m : Rust.Option Moved) (o : Opcode) (G : List ℕ) → plain.Does o code R p d m G → Does o T A N key code R O p d m G O
  plainly Rust.None o G s v f = (s v f, refl)
  plainly (Rust.Some m) o G s v f = within (s v f) refl

  module _ (G : List ℕ) (few : d ≤ 16) (fit : p + 7 ≤ length code) (j x y w z : ℕ) where
    pub did-get : (m : Rust.Option Moved) → d ≢ 0 → value_of x y ≡ operand_at R 0 (d - 1) → Known T A N O key p x y j → value_of w z ≡ field_at O y j
        → Putting R (p + 7) (Above (d - 1) (cell w z)) m G → Does OpGetfield T A N key code R O p d m G O
    did-get Rust.None s t k f g v e = (g, refl)
    did-get (Rust.Some m) s t k f g v e =
        got (record { object = cell x y; slot = j; value = cell w z; reads = decode-getfield v code p fit e; some-d = s; few = few; top = t; known = k; field = f; wrote = g }) refl

    pub did-put : (m : Moved) (P : List ℕ) → 2 ≤ d → value_of w z ≡ operand_at R 0 (d - 1) → is_kind (short_at code (p + 5)) w z ≡ true
        → value_of x y ≡ operand_at R 0 (d - 1 - 1) → Known T A N O key p x y j
        → Putting R (p + 7) (Keep (d - 1 - 1)) (Rust.Some m) G → P ≡ put_field y O j (value_of w z) → Does OpPutfield T A N key code R O p d (Rust.Some m) G P
    did-put m P s l i t k g f v e = wrote (record {
      object = cell x y;
      slot = j;
      value = cell w z;
      reads = decode-putfield v code p fit e;
      two = s;
      few = few;
      last = l;
      kind = i;
      top = t;
      known = k;
      wrote = g;
      left = f;
    })

-- What is written: point and operand count stand in their cells, class and method stay, and there are few operands
pub step-cells : (T A N : List ℕ) (key v : ℕ) (code R O : List ℕ) (p d q e : ℕ) (G P : List ℕ) → length R ≡ 52 → Step T A N key v code R O p d q e G P → Cells R q e G × (e ≤ 16)
step-cells T A N key v code R O p d q e G P l (within s _) = (wrote-cells R l (p + s.size) s.plan q e G s.wrote, wrote-few R (p + s.size) s.plan q e G s.wrote)
step-cells T A N key v code R O p d q e G P l (got s _) = (wrote-cells R l (p + 7) (Above (d - 1) s.value) q e G s.wrote, wrote-few R (p + 7) (Above (d - 1) s.value) q e G s.wrote)
step-cells T A N key v code R O p d q e G P l (wrote s) = (wrote-cells R l (p + 7) (Keep (d - 1 - 1)) q e G s.wrote, wrote-few R (p + 7) (Keep (d - 1 - 1)) q e G s.wrote)

-- A walk: k instructions, one after another

unfoldable pub Walked : List ℕ → List ℕ → List ℕ → ℕ → ℕ → List ℕ → List ℕ → List ℕ → ℕ → List ℕ → List ℕ → Type 0
Walked T A N key v code R O zero G P = (G ≡ R) × (P ≡ O)
Walked T A N key v code R O (suc k) G P =
    (S : List ℕ) × (Q : List ℕ) × Walked T A N key v code R O k S Q × Step T A N key v code S Q (get_or S 2 0) (get_or S 3 0) (get_or G 2 0) (get_or G 3 0) G P

pub here : (T A N : List ℕ) (key v : ℕ) (code R O : List ℕ) → Walked T A N key v code R O 0 R O
unfolding Walked
here T A N key v code R O = (refl, refl)

-- one instruction more
walk-on : (T A N : List ℕ) (key v : ℕ) (code R O S Q G P : List ℕ) (k p d : ℕ) (m : Moved) → Walked T A N key v code R O k S Q → At S p d
    → Step T A N key v code S Q p d m.point m.depth G P → Walked T A N key v code R O (k + 1) G P × At G m.point m.depth
unfolding Walked
walk-on T A N key v code R O S Q G P k p d m w a s =
    let z : Cells S m.point m.depth G × (m.depth ≤ 16) = step-cells T A N key v code S Q p d m.point m.depth G P a.3 s in
    let c : Cells S m.point m.depth G = z.0 in
    (rw (add-one k) (S, Q, w, rw (a.0, a.1, c.point, c.depth) at s), (c.point, c.depth, z.1, c.size ∙ a.3))

-- the same for every version that the numbers xs are of, of which there is one; the opcode's number is n, off the byte b at point p
module _ (T A N : List ℕ) (key : ℕ) (code R O S Q G P xs : List ℕ) (k p d : ℕ) (w : (v : ℕ) → Numbers v xs → Walked T A N key v code R O k S Q) (n : ℕ) (m : Rust.Option Moved)
    (does : Does (opcode_numbered n) T A N key code S Q p d m G P) (a b i : ℕ) (e : a ≡ p) (f : b ≡ get_or code a 0) (l : b < 256) (g : i ≡ b) (q : n ≡ get_or xs i 0) where
  stepped : (v : ℕ) → Numbers v xs → Stepping T A N key v code S Q p d m G P
  stepped v h = does v (numbered-at v xs code p a b i n e f l g q h)

  pub walk_more : (s : Moved) → m ≡ Rust.Some s → (v : ℕ) × Numbers v xs → At S p d → ((v : ℕ) → Numbers v xs → Walked T A N key v code R O (k + 1) G P) × At G s.point s.depth
  walk_more s is z t = (
    λ v h. (walk-on T A N key v code R O S Q G P k p d s (w v h) t (rw is at (stepped v h))).0,
    (walk-on T A N key z.0 code R O S Q G P k p d s (w z.0 z.1) t (rw is at (stepped z.0 z.1))).1,
  )

  pub walk-stops : m ≡ Rust.None → (v : ℕ) → Numbers v xs → Walked T A N key v code R O k G P
  walk-stops is v h = let z = rw is at (stepped v h) in rw (z.0, z.1) (w v h)
