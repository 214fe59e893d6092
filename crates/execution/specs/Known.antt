-- getfield and putfield whose slot is remembered for the receiver's class: the decision on them, off the row and the object's cells alone.
use Rattle.std.specs.Prelude.{◌≡◌, true, List, [], ◌∷◌, ◌≢◌, ℕ, ◌+◌, ◌-◌, ◌*◌, ◌≤◌, get_or}
use Rattle.std.proofs.Math.Path.{sym, ap}
use Rattle.std.proofs.Common.{◌∙◌, append-nil}
use Rattle.std.proofs.Math.Option.{some}
use native.Mathlib.Omega.{arith}
use Rattle.std.proofs.Math.ListN.{get_elem?}
use Rattle.definition.specs.Lists.{stack}
use Rattle.definition.specs.Classes.{Base, Class}
use Rattle.definition.specs.Constraints.{World, posted}
use Rattle.definition.specs.declared.Instruction.TheVariants.{Getfield, Putfield}
use Rattle.definition.specs.Answers.{◌>>=◌, take?}
use Rattle.definition.specs.Machine.{Value, object_value, execute}
use Rattle.definition.specs.Tables.{Tables, tables, tie_at, value_of, operand_at, field_at, used_fields, object_at, frame_of, frame_in, objects_of}
use Rattle.layout.specs.Places.{rows_at, rows-length, stack_top}
use Rattle.frames.specs.declared.Cell.{Cell}
use Rattle.frames.specs.Unused.{is_used, used-there}
use Rattle.instructions.specs.declared.Plan.TheVariants.{Above, Field}
use Rattle.instructions.specs.Plans.{decoded, meaning}
use Rattle.instructions.specs.Operands.{positive, is_kind, kind-is}
use Rattle.resolution.specs.Quick.{quick_base}
use Rattle.access.specs.Accesses.{world_in}
use Rattle.std.specs.Prelude as Rust
use Rattle.posting.specs.Postings.{to_post}
use Rattle.execution.specs.Decisions.{Acted}
use Rattle.execution.specs.Remembered.{getfield-known, putfield-known}
use Rattle.execution.specs.Facts.{Slot}

module _ (N L K E I S O F : List ℕ) where
  abbrev B : Base
  B = quick_base N L K E

  abbrev T : Tables
  T = tables N L K E I S O F

  posted-none : posted (world_in B T) [] ≡ world_in B T
  posted-none = λ i. record { base = B; ties = append-nil (world_in B T).ties i; subtypes = (world_in B T).subtypes }

  module _ (k m b d loader c n t r j : ℕ) (low : get_or N 3 0 ≤ 256) (h : Slot N L K E I loader c n t r j)
      (some-d : d ≢ 0) (o : ℕ) (top : object_value o ≡ operand_at F b (d - 1)) (made : is_used N o ≡ true) (class : get_or O (o * 33) 0 ≡ r) (v : Cell) (value : value_of v.kind v.bits ≡ field_at O o j) where
    held : get_elem? (object_at B O o).values j ≡ some (value_of v.kind v.bits)
    unfolding object_at
    held = let e : 0 + j ≡ j = omega arith in rw (class, rows_at (field_at O o) (used_fields B r) 0 j h.used, e, value)

    pub acted-get : Acted N L K E I S O F k m b d loader (Getfield c n t) Rust.None (Above (d - 1) v)
    unfolding to_post meaning frame_of object_at
    acted-get = record { says = says; ties = omega arith; quiet = tt; fits = λ few. omega (arith, positive d some-d) }
      where
        says : (a : Class) (y s : ℕ) → a.loader ≡ loader
            → meaning k (posted (world_in B T) []) (objects_of B T) (stack (frame_in F k) m) F b (y + s) (Above (d - 1) v)
            ≡ execute k (world_in B T) (objects_of B T) (frame_of F b y d) (stack (frame_in F k) m) a (decoded (Getfield c n t) s) (Getfield c n t)
        says a y s e =
            ap (λ (w : World). meaning k w (objects_of B T) (stack (frame_in F k) m) F b (y + s) (Above (d - 1) v)) posted-none
            ∙ sym (getfield-known k (world_in B T) (objects_of B T) (frame_of F b y d) (stack (frame_in F k) m) a (decoded (Getfield c n t) s)
            (omega (arith, rows-length (tie_at I) (get_or N 3 0) 0)) c n t r j (rw e h.fact) o (stack (operand_at F b) (d - 1)) (object_at B O o) (used-there B T o made) class
            (rw top (stack_top (operand_at F b) d (positive d some-d))) (value_of v.kind v.bits) held)

  -- putfield whose field is remembered for its receiver's class
  module _ (k m b d loader c n t r j : ℕ) (low : get_or N 3 0 ≤ 256) (h : Slot N L K E I loader c n t r j)
      (two : 2 ≤ d) (o : ℕ) (v : Cell) (last : value_of v.kind v.bits ≡ operand_at F b (d - 1)) (kind : is_kind t v.kind v.bits ≡ true)
      (top : object_value o ≡ operand_at F b (d - 1 - 1)) (made : is_used N o ≡ true) (class : get_or O (o * 33) 0 ≡ r) where
    operands : stack (operand_at F b) d ≡ value_of v.kind v.bits ∷ (object_value o ∷ stack (operand_at F b) (d - 1 - 1))
    operands =
        rw (last, top)
        (stack_top (operand_at F b) d (omega arith) ∙ ap (λ (l : List Value). operand_at F b (d - 1) ∷ l) (stack_top (operand_at F b) (d - 1) (omega arith)))

    pub acted-put : Acted N L K E I S O F k m b d loader (Putfield c n t) Rust.None (Field (d - 1 - 1) o j v)
    unfolding to_post meaning frame_of object_at take? ◌>>=◌
    acted-put = record { says = says; ties = omega arith; quiet = tt; fits = λ few. (made, rw class h.used) }
      where
        says : (a : Class) (y s : ℕ) → a.loader ≡ loader
            → meaning k (posted (world_in B T) []) (objects_of B T) (stack (frame_in F k) m) F b (y + s) (Field (d - 1 - 1) o j v)
            ≡ execute k (world_in B T) (objects_of B T) (frame_of F b y d) (stack (frame_in F k) m) a (decoded (Putfield c n t) s) (Putfield c n t)
        says a y s e =
            ap (λ (w : World). meaning k w (objects_of B T) (stack (frame_in F k) m) F b (y + s) (Field (d - 1 - 1) o j v)) posted-none
            ∙ (rw (used-there B T o made)
            (sym (putfield-known k (world_in B T) (objects_of B T) (frame_of F b y d) (stack (frame_in F k) m) a (decoded (Putfield c n t) s)
            (omega (arith, rows-length (tie_at I) (get_or N 3 0) 0)) c n t r j (rw e h.fact) o (stack (operand_at F b) (d - 1 - 1)) (object_at B O o) (used-there B T o made) class
            (value_of v.kind v.bits) operands (kind-is v.kind v.bits t kind))))
