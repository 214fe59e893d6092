-- The machine on rows: values, objects, frames, and one instruction.
use Rattle.std.specs.Prelude.{◌≡◌, Bool, true, false, not, ◌&&◌, List, [], ◌∷◌, map, ℕ, zero, suc, ◌+◌, ◌-◌, ◌%◌, length, set, eqb, leb, ltb, ◌*ℤ◌}
use Rattle.std.proofs.Math.Option.{Option, none, some}
use Rattle.std.proofs.Math.ListN.{get_elem?}
use Rattle.std.specs.Int.Signed.{quot_z}
use Rattle.definition.specs.Numbers.{word_absent, word_full, word_null, word_stuck, word_divisor, word_share, name_int, object_limit, share_limit, frame_limit, operand_limit, local_count, int_range}
use Rattle.definition.specs.Lists.{index_of, filled}
use Rattle.definition.specs.Requests.{at}
use Rattle.definition.specs.Superclasses.{nearest, below}
use Rattle.definition.specs.Classes.{Base, Class, Method, argument_types, find, super_of, loader_of, Slot, slots, slot_is, has_field, selected}
use Rattle.definition.specs.Constraints.{World, new_tie, signature_ties, post}
use Rattle.definition.specs.Instructions.{Kind, IntKind, ReferenceKind, Operator, Add, Subtract, Multiply, Divide, Instruction, AconstNull, Sipush, Load, Store, Pop, Dup, Arithmetic, Getfield, Putfield, Invokevirtual, New, Return, Condition, Always, IfZero, IfLess, Branch, Decoded, decode, pick}
use Rattle.definition.specs.Verifier.{pop, pop_all}
use Rattle.definition.specs.Answers.{signed, int_bits, less, Word, wanted, Result, refused, ok, ◌>>=◌, need, take?}

-- an empty local, an int's 32 bits, null, an object's number, or a pair of cells that docs/STORE.md doesn't list
pub data Value : Type 0 where
  empty_value : Value
  int_value : ℕ → Value
  null_value : Value
  object_value : ℕ → Value
  unlisted_value : ℕ → ℕ → Value

-- its class, and a value for each of the class's slots
pub record Object : Type 0 where
  pub class : ℕ
  pub values : List Value

-- the class that declares the method and owns the frame, the method's place in it, the point; operands, the last pushed first; 8 locals.
-- A frame that waits for a call stands at the next point.
pub record Frame : Type 0 where
  pub class : ℕ
  pub method : ℕ
  pub point : ℕ
  pub operands : List Value
  pub locals : List Value

-- The rows of objects by number. A row is free, or holds an object with the task that made it.

pub data ObjectRow : Type 0 where
  free : ObjectRow
  owned : ℕ → Object → ObjectRow

abbrev pub Objects : Type 0
Objects = List ObjectRow

unfoldable pub object_held : ObjectRow → Option Object
object_held free = none
object_held (owned k x) = some x

-- an object exists from its making until its row is emptied
unfoldable pub existing : Objects → ℕ → Option Object
existing os o = elim (get_elem? os o) [ none ↦ none | some x ↦ object_held x ]

abbrev pub Exists : Objects → ℕ → Type 0
Exists os o = (x : Object) × (existing os o ≡ some x)

-- how many objects exist
unfoldable pub in_use : Objects → ℕ
in_use [] = 0
in_use (free ∷ os) = in_use os
in_use (owned k x ∷ os) = suc (in_use os)

-- how many of them task k made: those that count as its own, whoever names them, until a sweep frees them
unfoldable pub made_by : ℕ → Objects → ℕ
made_by k [] = 0
made_by k (free ∷ os) = made_by k os
made_by k (owned j x ∷ os) = elim (eqb j k) [ true ↦ suc (made_by k os) | false ↦ made_by k os ]

-- the lowest number unused
unfoldable pub unused : Objects → ℕ
unused [] = 0
unused (free ∷ os) = 0
unused (owned k x ∷ os) = suc (unused os)

-- an object made by task k takes that number: the first free row, or the next
unfoldable pub made : ℕ → Object → Objects → Objects
made k x [] = owned k x ∷ []
made k x (free ∷ os) = owned k x ∷ os
made k x (owned j y ∷ os) = owned j y ∷ made k x os

-- task k may make no object: 256 are in use
unfoldable pub roomless : ℕ → Objects → Bool
roomless k os = leb object_limit (unused os)

-- task k has used its share: of the report 192 objects exist. The quote has no share.
unfoldable pub share_used : ℕ → Objects → Bool
share_used zero os = false
share_used (suc k) os = leb share_limit (made_by (suc k) os)

-- object o becomes x, of the same task
unfoldable pub rewritten : Object → ObjectRow → ObjectRow
rewritten x free = free
rewritten x (owned k y) = owned k x

unfoldable pub changed : Objects → ℕ → Object → Objects
changed os o x = elim (get_elem? os o) [ none ↦ os | some y ↦ set os o (rewritten x y) ]

-- Fields begin as 0 or null; local 0 holds this and the locals from 1 on the arguments in their order, the rest begin empty

unfoldable pub initial_value : Slot → Value
initial_value s = elim (eqb s.type name_int) [ true ↦ int_value 0 | false ↦ null_value ]

unfoldable pub new_object : Base → ℕ → Object
new_object w c = record { class = c; values = map initial_value (slots w c) }

abbrev pub entry_frame : ℕ → ℕ → ℕ → List Value → Frame
entry_frame c j o vs = record { class = c; method = j; point = 0; operands = []; locals = filled local_count empty_value (object_value o ∷ vs) }

-- Operands and locals, refused 14 if missing or of the wrong kind

unfoldable pub pop! : List Value → Result (record { top : Value; more : List Value })
pop! vs = take? (pop vs) (Word word_stuck)

-- what n pops take, in the order in which it was pushed
unfoldable pub pop_all! : ℕ → List Value → Result (record { all : List Value; more : List Value })
pop_all! n vs = take? (pop_all n vs) (Word word_stuck)

unfoldable pub int! : Value → Result ℕ
int! empty_value = refused (Word word_stuck)
int! (int_value n) = ok n
int! null_value = refused (Word word_stuck)
int! (object_value o) = refused (Word word_stuck)
int! (unlisted_value k b) = refused (Word word_stuck)

-- null or an object
unfoldable pub reference! : Value → Result Value
reference! empty_value = refused (Word word_stuck)
reference! (int_value n) = refused (Word word_stuck)
reference! null_value = ok null_value
reference! (object_value o) = ok (object_value o)
reference! (unlisted_value k b) = refused (Word word_stuck)

unfoldable pub of_kind! : Kind → Value → Result (Unit {0})
of_kind! IntKind v = int! v >>= λ _. ok tt
of_kind! ReferenceKind v = reference! v >>= λ _. ok tt

-- an int for int, a reference for a class name
unfoldable pub kind! : ℕ → Value → Result (Unit {0})
kind! t v = elim (eqb t name_int) [ true ↦ of_kind! IntKind v | false ↦ of_kind! ReferenceKind v ]

-- each value is of its own type's kind
unfoldable pub kinds! : List ℕ → List Value → Result (Unit {0})
kinds! [] [] = ok tt
kinds! [] (v ∷ vs) = refused (Word word_stuck)
kinds! (t ∷ ts) [] = refused (Word word_stuck)
kinds! (t ∷ ts) (v ∷ vs) = kind! t v >>= λ _. kinds! ts vs

-- The 32 bits that an operator makes of the lower operand a and the upper operand b, or its refusal. All wrap. imul and idiv go by signed ints, idiv toward zero (`quot_z`),
-- so that the least int divided by −1 wraps to itself; a divisor 0 is refused 17.
unfoldable pub compute : Operator → ℕ → ℕ → Result ℕ
compute Add a b = ok ((a + b) % int_range)
compute Subtract a b = ok ((a + int_range - b) % int_range)
compute Multiply a b = ok (int_bits (signed a *ℤ signed b))
compute Divide a b = need (not (eqb b 0)) (Word word_divisor) >>= λ _. ok (int_bits (quot_z (signed a) (signed b)))

-- Whether a branch jumps, and the operands that it leaves
unfoldable pub jumps : Condition → List Value → Result (record { taken : Bool; more : List Value })
jumps Always vs = ok (record { taken = true; more = vs })
jumps IfZero vs = pop! vs >>= λ p. int! p.top >>= λ n. ok (record { taken = eqb n 0; more = p.more })
jumps IfLess vs =
    pop! vs >>= λ p. pop! p.more >>= λ q. int! p.top >>= λ b. int! q.top >>= λ a. ok (record { taken = less (signed a) (signed b); more = q.more })

-- room for one operand more
unfoldable pub room! : List Value → Result (Unit {0})
room! vs = need (ltb (length vs) operand_limit) (Word word_full)

-- the receiver: an object whose class is e or below it; 14, then 11 for null
unfoldable pub object! : Base → Objects → ℕ → Value → Result (record { number : ℕ; object : Object })
object! w os e empty_value = refused (Word word_stuck)
object! w os e (int_value n) = refused (Word word_stuck)
object! w os e null_value = refused (Word word_null)
object! w os e (object_value o) =
    take? (existing os o) (Word word_stuck) >>= λ k. need (below (super_of w) k.class e) (Word word_stuck) >>= λ _. ok (record { number = o; object = k })
object! w os e (unlisted_value k b) = refused (Word word_stuck)

-- What a step leaves: constraints, objects, the task's frames, and a first frame's result

pub record Progress : Type 0 where
  pub world : World
  pub objects : Objects
  pub frames : List Frame
  pub result : Option ℕ

-- the instruction at the frame's point, with the frame's class and method; 14 if it can't be read
pub record Now : Type 0 where
  pub the_class : Class
  pub method : Method
  pub at : Decoded

unfoldable pub now : World → Frame → Result Now
now w f =
    take? (get_elem? w.base.classes f.class) (Word word_stuck) >>= λ k. take? (get_elem? k.methods f.method) (Word word_stuck) >>= λ m.
    take? (decode k.version m.code f.point) (Word word_stuck) >>= λ i. ok (record { the_class = k; method = m; at = i })

-- the frame at another point, with new operands and locals; past its instruction
abbrev pub moved : Frame → ℕ → List Value → List Value → Frame
moved f p o l = record { class = f.class; method = f.method; point = p; operands = o; locals = l }

abbrev pub past : Frame → Decoded → List Value → List Value → Frame
past f i o l = moved f (f.point + i.size) o l

-- the frame below, if there is one, has room for a result
unfoldable pub under! : List Frame → Result (Unit {0})
under! [] = ok tt
under! (g ∷ gs) = room! g.operands

-- a value given back to the frame below; a first frame's must be an int
unfoldable pub give : List Frame → World → Objects → Value → Result Progress
give [] w os v = int! v >>= λ n. ok (record { world = w; objects = os; frames = []; result = some n })
give (g ∷ gs) w os v = ok (record {
  world = w;
  objects = os;
  frames = record { class = g.class; method = g.method; point = g.point; operands = v ∷ g.operands; locals = g.locals } ∷ gs;
  result = none;
})

-- An instruction of frame f, of class k, above the frames fs of its task. A call's receiver is the lowest of its operands, its arguments follow in their order. A field is that of the class that resolution finds, d, at its place among d's fields, whatever the object's own class declares.
-- Refusals in order: 5 7 18 10 9, then 14, then 11 and 17, which no instruction can both meet.
module _ (task : ℕ) (w : World) (os : Objects) (f : Frame) (fs : List Frame) (k : Class) (i : Decoded) where
  -- nothing but the frame changes
  abbrev pub on : List Value → List Value → Result Progress
  on o l = ok (record { world = w; objects = os; frames = past f i o l ∷ fs; result = none })

  unfoldable pub execute : Instruction → Result Progress
  execute AconstNull = room! f.operands >>= λ _. on (null_value ∷ f.operands) f.locals
  execute (Sipush n) = room! f.operands >>= λ _. on (int_value n ∷ f.operands) f.locals
  execute (Load kind j) =
      room! f.operands >>= λ _. take? (get_elem? f.locals j) (Word word_stuck) >>= λ v. of_kind! kind v >>= λ _. on (v ∷ f.operands) f.locals
  execute (Store kind j) =
      pop! f.operands >>= λ p. of_kind! kind p.top >>= λ _. take? (get_elem? f.locals j) (Word word_stuck) >>= λ _. on p.more (set f.locals j p.top)
  execute Pop = pop! f.operands >>= λ p. on p.more f.locals
  execute Dup = room! f.operands >>= λ _. pop! f.operands >>= λ p. on (p.top ∷ p.top ∷ p.more) f.locals
  execute (Arithmetic o) =
      pop! f.operands >>= λ p. pop! p.more >>= λ q. int! p.top >>= λ b. int! q.top >>= λ a. compute o a b >>= λ n.
      on (int_value n ∷ q.more) f.locals
  execute (Getfield c n t) =
      take? (find w.base.cache (at k.loader c)) (wanted (at k.loader c)) >>= λ e.
      take? (nearest (super_of w.base) (has_field w.base n t) e) (Word word_absent) >>= λ d.
      post w true (new_tie w.ties (loader_of w.base d) k.loader t) >>= λ w'.
      pop! f.operands >>= λ p. object! w.base os e p.top >>= λ o.
      take? (index_of (slot_is d n t) (slots w.base d)) (Word word_stuck) >>= λ j.
      take? (get_elem? o.object.values j) (Word word_stuck) >>= λ v.
      ok (record { world = w'; objects = os; frames = past f i (v ∷ p.more) f.locals ∷ fs; result = none })
  execute (Putfield c n t) =
      take? (find w.base.cache (at k.loader c)) (wanted (at k.loader c)) >>= λ e.
      take? (nearest (super_of w.base) (has_field w.base n t) e) (Word word_absent) >>= λ d.
      post w true (new_tie w.ties (loader_of w.base d) k.loader t) >>= λ w'.
      pop! f.operands >>= λ p. pop! p.more >>= λ q. kind! t p.top >>= λ _. object! w.base os e q.top >>= λ o.
      take? (index_of (slot_is d n t) (slots w.base d)) (Word word_stuck) >>= λ j.
      ok (record {
        world = w';
        objects = changed os o.number (record { class = o.object.class; values = set o.object.values j p.top });
        frames = past f i q.more f.locals ∷ fs;
        result = none;
      })
  execute (Invokevirtual c s) =
      take? (find w.base.cache (at k.loader c)) (wanted (at k.loader c)) >>= λ e.
      take? (selected w.base s e) (Word word_absent) >>= λ d.
      post w (ltb (suc (length fs)) frame_limit) (signature_ties w.ties (loader_of w.base d.class) k.loader s) >>= λ w'.
      pop_all! (length (argument_types s)) f.operands >>= λ p. pop! p.more >>= λ q. kinds! (argument_types s) p.all >>= λ _. object! w.base os e q.top >>= λ o.
      take? (selected w.base s o.object.class) (Word word_stuck) >>= λ m.
      ok (record { world = w'; objects = os; frames = entry_frame m.class m.place o.number p.all ∷ past f i q.more f.locals ∷ fs; result = none })
  execute (New c) =
      take? (find w.base.cache (at k.loader c)) (wanted (at k.loader c)) >>= λ e.
      need (not (share_used task os)) (Word word_share) >>= λ _.
      need (not (roomless task os) && ltb (length f.operands) operand_limit) (Word word_full) >>= λ _.
      ok (record {
        world = w;
        objects = made task (new_object w.base e) os;
        frames = past f i (object_value (unused os) ∷ f.operands) f.locals ∷ fs;
        result = none;
      })
  execute (Branch c p) =
      jumps c f.operands >>= λ j.
      ok (record { world = w; objects = os; frames = moved f (pick j.taken p (f.point + i.size)) j.more f.locals ∷ fs; result = none })
  execute (Return kind) = under! fs >>= λ _. pop! f.operands >>= λ p. of_kind! kind p.top >>= λ _. give fs w os p.top

-- one instruction of the frame f, above the frames fs of its task
unfoldable pub step : ℕ → World → Objects → Frame → List Frame → Result Progress
step task w os f fs = now w f >>= λ n. execute task w os f fs n.the_class n.at n.at.instruction
