-- What a step is going to do, as a plan of numbers, and what a plan means in rows. A plan speaks of the frame of a task whose row begins at cell b and goes
-- on at point q, unless the plan jumps; fs are the frames below it. An instruction's function answers a plan whose meaning is what the machine does.
use Rattle.std.specs.Prelude.{◌≡◌, ℕ, suc, ◌+◌, ◌-◌, ◌<◌, ◌≤◌, Bool, true, false, List, [], ◌∷◌, slice_index, slice_set, refl}
use Rattle.std.proofs.Math.Option.{none, some}
use Rattle.definition.specs.Lists.{rows, stack}
use Rattle.definition.specs.Classes.{Base, Class}
use Rattle.definition.specs.Constraints.{World}
use Rattle.definition.specs.declared.Instruction.{Instruction}
use Rattle.definition.specs.Instructions.{pick, Decoded}
use Rattle.definition.specs.declared.Refusal.TheVariants.{Word}
use Rattle.definition.specs.Answers.{Result, refused, ok, ◌>>=◌, take?}
use Rattle.definition.specs.Machine.{Value, int_value, object_value, Objects, Frame, existing, made, changed, new_object, entry_frame, Progress, give, execute}
use Rattle.definition.specs.Tables.{Tables, value_of, operand_at, local_at, frame_of, frame_base, frame_in, size_of, used_fields, object_at}
use Rattle.layout.specs.Cells.{frame_with, with_field}
use Rattle.frames.specs.Unused.{is_used, unused_from}
pub use Rattle.instructions.specs.declared.Plan.{Plan}
pub use Rattle.instructions.specs.declared.Plan.TheVariants.{Refuse, Keep, Jump, Above, Local, Give, Finish, Field, Enter, Make}

abbrev pub decoded : Instruction → ℕ → Decoded
decoded i n = record { instruction = i; size = n }

-- the frame with d of its operands and a value above them
abbrev pub with_above : List ℕ → ℕ → ℕ → ℕ → Value → Frame
with_above F b q d v = frame_with F b q (v ∷ stack (operand_at F b) d) (rows (local_at F b) 8 0)

-- the frame with d of its operands and a local set
abbrev pub with_local : List ℕ → ℕ → ℕ → ℕ → ℕ → Value → Frame
with_local F b q d j v = frame_with F b q (stack (operand_at F b) d) (slice_set (rows (local_at F b) 8 0) j v)

module _ (task : ℕ) (w : World) (os : Objects) (fs : List Frame) (F : List ℕ) (b q : ℕ) where
  abbrev leaves : Objects → List Frame → Result Progress
  leaves xs gs = ok (record { world = w; objects = xs; frames = gs; result = none })

  unfoldable pub meaning : Plan → Result Progress
  meaning (Refuse r) = refused r
  meaning (Keep d) = leaves os (frame_of F b q d ∷ fs)
  meaning (Jump d p) = leaves os (frame_of F b p d ∷ fs)
  meaning (Above d v) = leaves os (with_above F b q d (value_of v.kind v.bits) ∷ fs)
  meaning (Local d j v) = leaves os (with_local F b q d j (value_of v.kind v.bits) ∷ fs)
  meaning (Give v) = give fs w os (value_of v.kind v.bits)
  meaning (Finish v) = ok (record { world = w; objects = os; frames = []; result = some v })
  meaning (Field d o j v) = take? (existing os o) (Word 14) >>= λ x. leaves (changed os o (with_field x j (value_of v.kind v.bits))) (frame_of F b q d ∷ fs)
  meaning (Enter d e) = leaves os (entry_frame e.class e.method e.object (rows (operand_at F b) e.count (d + 1)) ∷ frame_of F b q d ∷ fs)
  meaning (Make d c o) = leaves (made task (new_object w.base c) os) (with_above F b q d (object_value o) ∷ fs)

-- What becomes of a computed int: it stands above d operands, unless the operator refuses
unfoldable pub computed : ℕ → Result ℕ → Plan
computed d (refused w) = Refuse w
computed d (ok n) = Above d (record { kind = 1; bits = n })

pub computed-means : (task : ℕ) (w : World) (os : Objects) (fs : List Frame) (F : List ℕ) (b q d : ℕ) (r : Result ℕ)
    → meaning task w os fs F b q (computed d r) ≡ (r >>= λ n. ok (record { world = w; objects = os; frames = with_above F b q d (int_value n) ∷ fs; result = none }))
unfolding meaning computed value_of pick ◌>>=◌
computed-means task w os fs F b q d (refused x) = refl
computed-means task w os fs F b q d (ok n) = refl

-- What becomes of a branch that leaves d operands, by whether it jumps
unfoldable pub jumped : Bool → ℕ → ℕ → Plan
jumped true d p = Jump d p
jumped false d p = Keep d

pub jumped-means : (task : ℕ) (w : World) (os : Objects) (fs : List Frame) (F : List ℕ) (b q d p : ℕ) (u : Bool)
    → meaning task w os fs F b q (jumped u d p) ≡ ok (record { world = w; objects = os; frames = frame_of F b (pick u p q) d ∷ fs; result = none })
unfolding meaning jumped pick
jumped-means task w os fs F b q d p true = refl
jumped-means task w os fs F b q d p false = refl

-- What carrying a plan out asks, where task k of the tables has m frames below its top frame and B gives the classes' fields: operands, locals,
-- fields, frames and objects that it writes have room, arguments that it passes stand among the operands, an object that it changes exists, and one that it
-- makes gets the lowest number unused
abbrev pub Fit : Base → Tables → ℕ → ℕ → Plan → Type 0
Fit B t k m (Refuse r) = Unit {0}
Fit B t k m (Keep d) = Unit {0}
Fit B t k m (Jump d p) = Unit {0}
Fit B t k m (Above d v) = d < 16
Fit B t k m (Local d j v) = j < 8
Fit B t k m (Give v) = (0 < m) × (slice_index t.frames (frame_base k (m - 1) + 3) < 16)
Fit B t k m (Finish v) = m ≡ 0
Fit B t k m (Field d o j v) = (is_used t.counts o ≡ true) × (j < used_fields B (object_at B t.objects o).class)
Fit B t k m (Enter d e) = (suc m < 32) × (e.count ≤ 4) × (d + e.count < 16)
Fit B t k m (Make d c o) = (d < 16) × (o ≡ unused_from t.counts 0) × (o < 256) × (size_of B c ≤ 16)

pub computed_fits : (B : Base) (t : Tables) (k m d : ℕ) (r : Result ℕ) → d < 16 → Fit B t k m (computed d r)
unfolding computed
computed_fits B t k m d (refused w) h = tt
computed_fits B t k m d (ok n) h = h

pub jumped-fits : (B : Base) (t : Tables) (k m d p : ℕ) (u : Bool) → Fit B t k m (jumped u d p)
unfolding jumped
jumped-fits B t k m d p true = tt
jumped-fits B t k m d p false = tt

-- The plan r is right for the instruction i of a frame with d operands, whatever task, world, objects, frames below, class, point and size there are

pub record FrameOnly (F : List ℕ) (b d : ℕ) (i : Instruction) (r : Plan) : Type 0 where
  pub says : (task : ℕ) (w : World) (os : Objects) (fs : List Frame) (k : Class) (p n : ℕ)
      → meaning task w os fs F b (p + n) r ≡ execute task w os (frame_of F b p d) fs k (decoded i n) i
  pub fits : d ≤ 16 → (B : Base) (t : Tables) (k m : ℕ) → Fit B t k m r

-- and of a return, where the frames below are the m lowest of task k

pub record Returning (F : List ℕ) (k m b d : ℕ) (i : Instruction) (r : Plan) : Type 0 where
  pub says : (w : World) (os : Objects) (c : Class) (p n : ℕ)
      → meaning k w os (stack (frame_in F k) m) F b (p + n) r ≡ execute k w os (frame_of F b p d) (stack (frame_in F k) m) c (decoded i n) i
  pub fits : (B : Base) (t : Tables) → t.frames ≡ F → Fit B t k m r
