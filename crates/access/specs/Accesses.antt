-- What the answers of getfield, putfield and invokevirtual mean. A class, field or method was looked up under the frame class's loader and is missing,
-- or it was found: then ties are posted between the loader of the class that declares it and the frame class's, and a plan says the rest.
use Rattle.std.specs.Prelude.{◌≡◌, Bool, true, List, ◌∷◌, ℕ, suc, ◌+◌, ◌≤◌, length, set, ltb}
use Rattle.std.proofs.Math.Option.{Option, none, some}
use Rattle.std.proofs.Math.ListN.{get_elem?}
use Rattle.definition.specs.declared.Signature.{Signature}
use Rattle.definition.specs.Lists.{index_of}
use Rattle.definition.specs.Superclasses.{below}
use Rattle.definition.specs.Classes.{Base, Class, argument_types, super_of, slots, slot_is, selected}
use Rattle.definition.specs.Constraints.{Tie, World, new_ties, post}
use Rattle.definition.specs.declared.Instruction.{Instruction}
use Rattle.definition.specs.Instructions.{Decoded}
use Rattle.definition.specs.declared.Refusal.TheVariants.{Word}
use Rattle.definition.specs.Answers.{Result, refused, ok, ◌>>=◌, take?}
use Rattle.definition.specs.Machine.{Objects, Frame, changed, pop!, pop_all!, kind!, kinds!, object!, entry_frame, past, Progress, execute}
use Rattle.definition.specs.Tables.{Tables, tables, value_of, object_at, frame_of, ties_of, subtypes_of, objects_of}
use Rattle.frames.specs.Unused.{is_used}
use Rattle.instructions.specs.Plans.{decoded, meaning, Fit}
use Rattle.resolution.specs.Quick.{quick_base}
use Rattle.access.specs.Declarers.{declaring_loader}
use Rattle.std.specs.Prelude as Rust
use Rattle.definition.specs.declared.Refusal.{Refusal}
use Rattle.instructions.specs.declared.Plan.{Plan}
use Rattle.access.specs.declared.Access.{Access}

-- an answer: what was looked up is missing, or it was found
abbrev pub Answered : Type 0
Answered = Rust.Result Access Refusal

abbrev pub resolved : ℕ → Plan → Answered
resolved one p = Rust.Ok (record { loader = one; plan = p })

-- the classes that B gives, with the tables' constraints
abbrev pub world_in : Base → Tables → World
world_in B t = record { base = B; ties = ties_of t; subtypes = subtypes_of t }

-- the ties of an access between two loaders: on a field's type, or on each of a signature's types in turn
abbrev pub ties_on : List Tie → ℕ → ℕ → List ℕ → List Tie
ties_on ts one two types = new_ties ts one two types

module _ (task : ℕ) (w : World) (os : Objects) (fs : List Frame) (F : List ℕ) (b q : ℕ) where
  -- an answer's meaning, where ties on those types are posted between the loader of the class that was found and `two`
  unfoldable pub accessed : Bool → ℕ → List ℕ → Answered → Result Progress
  accessed room two types (Rust.Err r) = refused r
  accessed room two types (Rust.Ok a) = post w room (ties_on w.ties a.loader two types) >>= λ w'. meaning task w' os fs F b q a.plan

-- a plan that was found has room
abbrev pub AccessFits : Base → Tables → ℕ → ℕ → Answered → Type 0
AccessFits B t k m (Rust.Err r) = Unit {0}
AccessFits B t k m (Rust.Ok a) = Fit B t k m a.plan

-- the loader that an answer names beside its plan
abbrev pub named : Answered → Option ℕ
named (Rust.Err r) = none
named (Rust.Ok a) = some a.loader

-- The answer r is right for the instruction i of a frame with d operands and a class of that loader, whatever constraints, task, frames below, class, point
-- and size there are: N L K E O F are the counts, classes, kept bytes, cache, objects and frames
pub record Accessing (N L K E O F : List ℕ) (b d loader : ℕ) (room : List Frame → Bool) (types : List ℕ) (i : Instruction) (r : Answered) : Type 0 where
  pub says : (I S : List ℕ) (task : ℕ) (fs : List Frame) (k : Class) (p n : ℕ) → k.loader ≡ loader
      → (let B = quick_base N L K E in let t = tables N L K E I S O F in
      accessed task (world_in B t) (objects_of B t) fs F b (p + n) (room fs) loader types r
      ≡ execute task (world_in B t) (objects_of B t) (frame_of F b p d) fs k (decoded i n) i)
  pub fits : d ≤ 16 → (I S : List ℕ) (k : ℕ) (fs : List Frame) → room fs ≡ true → AccessFits (quick_base N L K E) (tables N L K E I S O F) k (length fs) r
  pub declared : named r ≡ declaring_loader (quick_base N L K E) loader i

abbrev pub always : List Frame → Bool
always fs = true

-- one frame more is within the limit
abbrev pub frame_room : List Frame → Bool
frame_room fs = ltb (suc (length fs)) 32

-- What is left of an instruction once its ties are posted, in the world w

module _ (B : Base) (os : Objects) (f : Frame) (fs : List Frame) (i : Decoded) (e : ℕ) where
  -- getfield of field n of type t, which class s declares
  unfoldable pub read_field : ℕ → ℕ → ℕ → World → Result Progress
  read_field s n t w =
      pop! f.operands >>= λ p. object! B os e p.top >>= λ o.
      take? (index_of (slot_is s n t) (slots B s)) (Word 14) >>= λ j.
      take? (get_elem? o.object.values j) (Word 14) >>= λ v.
      ok (record { world = w; objects = os; frames = past f i (v ∷ p.more) f.locals ∷ fs; result = none })

  unfoldable pub write_field : ℕ → ℕ → ℕ → World → Result Progress
  write_field s n t w =
      pop! f.operands >>= λ p. pop! p.more >>= λ q. kind! t p.top >>= λ _. object! B os e q.top >>= λ o.
      take? (index_of (slot_is s n t) (slots B s)) (Word 14) >>= λ j.
      ok (record {
        world = w;
        objects = changed os o.number (record { class = o.object.class; values = set o.object.values j p.top });
        frames = past f i q.more f.locals ∷ fs;
        result = none;
      })

  -- invokevirtual of signature s
  unfoldable pub call_method : Signature → World → Result Progress
  call_method s w =
      pop_all! (length (argument_types s)) f.operands >>= λ p. pop! p.more >>= λ q. kinds! (argument_types s) p.all >>= λ _. object! B os e q.top >>= λ o.
      take? (selected B s o.object.class) (Word 14) >>= λ m.
      ok (record { world = w; objects = os; frames = entry_frame m.class m.place o.number p.all ∷ past f i q.more f.locals ∷ fs; result = none })

-- The receiver: cells of a kind and bits are an object, of class e or below it, or a refusal says what they are not

abbrev pub Received : Base → Tables → ℕ → ℕ → ℕ → Rust.Result ℕ Refusal → Type 0
Received B t e kind bits (Rust.Err r) = object! B (objects_of B t) e (value_of kind bits) ≡ refused r
Received B t e kind bits (Rust.Ok o) =
    (object! B (objects_of B t) e (value_of kind bits) ≡ ok (record { number = o; object = object_at B t.objects o }))
    × (is_used t.counts o ≡ true)
    × (below (super_of B) (object_at B t.objects o).class e ≡ true)
