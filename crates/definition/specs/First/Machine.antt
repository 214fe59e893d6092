-- The first document's machine on rows: objects, and one instruction. Where a later paper changed nothing its definitions are today's; where one changed a
-- definition, the old text stands in this folder with what stands on it. Since paper 1 a row of objects may be free, and each object has an owner: here an object
-- is the next row of a list, for good. Since paper 2 there are branches, since paper 4 imul and idiv: here none is read. Since paper 7 a call has a list of arguments: here it has one, which is popped, then the
-- receiver, and the frame that is entered has it in local 1; a call with another list, which no code of version 1 has (`decode-one`, crate first), is refused.
use Rattle.std.specs.Prelude.{true, ◌&&◌, List, [], ◌∷◌, ◌++◌, ℕ, suc, ◌+◌, ◌-◌, ◌%◌, length, set, leb, ltb}
use Rattle.std.proofs.Math.Option.{Option, none, some}
use Rattle.std.proofs.Math.ListN.{get_elem?}
use Rattle.definition.specs.declared.Refusal.TheVariants.{Word}
use Rattle.definition.specs.declared.Operator.{Operator}
use Rattle.definition.specs.declared.Operator.TheVariants.{Add, Subtract, Multiply, Divide}
use Rattle.definition.specs.declared.Instruction.{Instruction}
use Rattle.definition.specs.declared.Instruction.TheVariants.{AconstNull, Sipush, Load, Store, Pop, Dup, Arithmetic, Getfield, Putfield, Invokevirtual, New, Return, Branch}
use Rattle.definition.specs.Numbers.{word_unknown, word_absent, word_full, word_null, word_busy, word_stuck, name_object, loader_limit, object_limit, frame_limit, operand_limit, int_range}
use Rattle.definition.specs.Lists.{index_of}
use Rattle.definition.specs.Requests.{at}
use Rattle.definition.specs.Superclasses.{nearest, below}
use Rattle.definition.specs.Classes.{Base, Class, find, super_of, loader_of, slots, slot_is, has_field}
use Rattle.definition.specs.Constraints.{World, new_tie, post}
use Rattle.definition.specs.Instructions.{Decoded}
use Rattle.definition.specs.Machine.{Value, empty_value, int_value, null_value, object_value, unlisted_value, Object, Frame, new_object, pop!, int!, of_kind!, kind!, room!, under!, Now, past}
use Rattle.definition.specs.First.Signatures.{first_argument, first_selected, first_start_signature, first_signature_ties}
use Rattle.definition.specs.First.Files.{first_decode}
use Rattle.definition.specs.Answers.{wanted, Result, refused, ok, ◌>>=◌, need, take?}

-- an object exists from its making until its row is emptied
unfoldable pub first_existing : List Object → ℕ → Option Object
first_existing os o = get_elem? os o

-- local 0 holds this and local 1 the argument, the rest begin empty

abbrev pub first_empty_locals : List Value
first_empty_locals = empty_value ∷ empty_value ∷ empty_value ∷ empty_value ∷ empty_value ∷ empty_value ∷ []

abbrev pub first_entry_frame : ℕ → ℕ → ℕ → Value → Frame
first_entry_frame c j o v = record { class = c; method = j; point = 0; operands = []; locals = object_value o ∷ v ∷ first_empty_locals }

-- the receiver: an object whose class is e or below it; 14, then 11 for null
unfoldable pub first_object! : Base → List Object → ℕ → Value → Result (record { number : ℕ; object : Object })
first_object! w os e empty_value = refused (Word word_stuck)
first_object! w os e (int_value n) = refused (Word word_stuck)
first_object! w os e null_value = refused (Word word_null)
first_object! w os e (object_value o) =
    take? (first_existing os o) (Word word_stuck) >>= λ k. need (below (super_of w) k.class e) (Word word_stuck) >>= λ _. ok (record { number = o; object = k })
first_object! w os e (unlisted_value k b) = refused (Word word_stuck)

-- the 32 bits that an operator makes of the lower operand a and the upper operand b; both wrap
unfoldable pub first_compute : Operator → ℕ → ℕ → Result ℕ
first_compute Add a b = ok ((a + b) % int_range)
first_compute Subtract a b = ok ((a + int_range - b) % int_range)
first_compute Multiply a b = refused (Word word_stuck)
first_compute Divide a b = refused (Word word_stuck)

-- What a step leaves: constraints, objects, the task's frames, and a first frame's result

pub record FirstProgress : Type 0 where
  pub world : World
  pub objects : List Object
  pub frames : List Frame
  pub result : Option ℕ

-- the instruction at the frame's point, with the frame's class and method; 14 if it can't be read
unfoldable pub first_now : World → Frame → Result Now
first_now w f =
    take? (get_elem? w.base.classes f.class) (Word word_stuck) >>= λ k. take? (get_elem? k.methods f.method) (Word word_stuck) >>= λ m.
    take? (first_decode m.code f.point) (Word word_stuck) >>= λ i. ok (record { the_class = k; method = m; at = i })

-- a value given back to the frame below; a first frame's must be an int
unfoldable pub first_give : List Frame → World → List Object → Value → Result FirstProgress
first_give [] w os v = int! v >>= λ n. ok (record { world = w; objects = os; frames = []; result = some n })
first_give (g ∷ gs) w os v = ok (record {
  world = w;
  objects = os;
  frames = record { class = g.class; method = g.method; point = g.point; operands = v ∷ g.operands; locals = g.locals } ∷ gs;
  result = none;
})

-- An instruction of frame f, above fs, of class k. Refusals in order: 5 7 10 9, then 14, then 11.
module _ (w : World) (os : List Object) (f : Frame) (fs : List Frame) (k : Class) (i : Decoded) where
  -- nothing but the frame changes
  abbrev pub first_on : List Value → List Value → Result FirstProgress
  first_on o l = ok (record { world = w; objects = os; frames = past f i o l ∷ fs; result = none })

  unfoldable pub first_execute : Instruction → Result FirstProgress
  first_execute AconstNull = room! f.operands >>= λ _. first_on (null_value ∷ f.operands) f.locals
  first_execute (Sipush n) = room! f.operands >>= λ _. first_on (int_value n ∷ f.operands) f.locals
  first_execute (Load kind j) =
      room! f.operands >>= λ _. take? (get_elem? f.locals j) (Word word_stuck) >>= λ v. of_kind! kind v >>= λ _. first_on (v ∷ f.operands) f.locals
  first_execute (Store kind j) =
      pop! f.operands >>= λ p. of_kind! kind p.top >>= λ _. take? (get_elem? f.locals j) (Word word_stuck) >>= λ _. first_on p.more (set f.locals j p.top)
  first_execute Pop = pop! f.operands >>= λ p. first_on p.more f.locals
  first_execute Dup = room! f.operands >>= λ _. pop! f.operands >>= λ p. first_on (p.top ∷ p.top ∷ p.more) f.locals
  first_execute (Arithmetic o) =
      pop! f.operands >>= λ p. pop! p.more >>= λ q. int! p.top >>= λ b. int! q.top >>= λ a. first_compute o a b >>= λ n.
      first_on (int_value n ∷ q.more) f.locals
  first_execute (Getfield c n t) =
      take? (find w.base.cache (at k.loader c)) (wanted (at k.loader c)) >>= λ e.
      take? (nearest (super_of w.base) (has_field w.base n t) e) (Word word_absent) >>= λ d.
      post w true (new_tie w.ties (loader_of w.base d) k.loader t) >>= λ w'.
      pop! f.operands >>= λ p. first_object! w.base os e p.top >>= λ o.
      take? (index_of (slot_is d n t) (slots w.base d)) (Word word_stuck) >>= λ j.
      take? (get_elem? o.object.values j) (Word word_stuck) >>= λ v.
      ok (record { world = w'; objects = os; frames = past f i (v ∷ p.more) f.locals ∷ fs; result = none })
  first_execute (Putfield c n t) =
      take? (find w.base.cache (at k.loader c)) (wanted (at k.loader c)) >>= λ e.
      take? (nearest (super_of w.base) (has_field w.base n t) e) (Word word_absent) >>= λ d.
      post w true (new_tie w.ties (loader_of w.base d) k.loader t) >>= λ w'.
      pop! f.operands >>= λ p. pop! p.more >>= λ q. kind! t p.top >>= λ _. first_object! w.base os e q.top >>= λ o.
      take? (index_of (slot_is d n t) (slots w.base d)) (Word word_stuck) >>= λ j.
      ok (record {
        world = w';
        objects = set os o.number (record { class = o.object.class; values = set o.object.values j p.top });
        frames = past f i q.more f.locals ∷ fs;
        result = none;
      })
  first_execute (Invokevirtual c s) = first_argument s (refused (Word word_stuck)) (λ a.
      take? (find w.base.cache (at k.loader c)) (wanted (at k.loader c)) >>= λ e.
      take? (first_selected w.base s e) (Word word_absent) >>= λ d.
      post w (ltb (suc (length fs)) frame_limit) (first_signature_ties w.ties (loader_of w.base d.class) k.loader s) >>= λ w'.
      pop! f.operands >>= λ p. pop! p.more >>= λ q. kind! a p.top >>= λ _. first_object! w.base os e q.top >>= λ o.
      take? (first_selected w.base s o.object.class) (Word word_stuck) >>= λ m.
      ok (record { world = w'; objects = os; frames = first_entry_frame m.class m.place o.number p.top ∷ past f i q.more f.locals ∷ fs; result = none }))
  first_execute (New c) =
      take? (find w.base.cache (at k.loader c)) (wanted (at k.loader c)) >>= λ e.
      need (ltb (length os) object_limit && ltb (length f.operands) operand_limit) (Word word_full) >>= λ _.
      ok (record { world = w; objects = os ++ (new_object w.base e ∷ []); frames = past f i (object_value (length os) ∷ f.operands) f.locals ∷ fs; result = none })
  first_execute (Branch c p) = refused (Word word_stuck)
  first_execute (Return kind) = under! fs >>= λ _. pop! f.operands >>= λ p. of_kind! kind p.top >>= λ _. first_give fs w os p.top

-- one instruction of the frame f, above the frames fs of its task
unfoldable pub first_step : World → List Object → Frame → List Frame → Result FirstProgress
first_step w os f fs = first_now w f >>= λ n. first_execute w os f fs n.the_class n.at n.at.instruction

-- start: a new object and a first frame in the method selected for (m, int, int). Refusals: 3 12 5 7 10
unfoldable pub first_started : ℕ → ℕ → ℕ → ℕ → World → List Object → List Frame → Result FirstProgress
first_started l n m v w os fs =
    need (ltb l loader_limit && leb name_object n && leb 1 m) (Word word_unknown) >>= λ _.
    need (leb (length fs) 0) (Word word_busy) >>= λ _.
    take? (find w.base.cache (at l n)) (wanted (at l n)) >>= λ c.
    take? (first_selected w.base (first_start_signature m) c) (Word word_absent) >>= λ s.
    need (ltb (length os) object_limit) (Word word_full) >>= λ _.
    ok (record { world = w; objects = os ++ (new_object w.base c ∷ []); frames = first_entry_frame s.class s.place (length os) (int_value v) ∷ []; result = none })
