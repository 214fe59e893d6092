-- The words of refusal: for each call, each of its words with what the paper says the word is given for, in the paper's order.
use Rattle.std.specs.Prelude.{◌≡◌, refl, Bool, true, false, not, ◌&&◌, ◌||◌, List, [], ◌∷◌, ◌++◌, map, ℕ, suc, ◌+◌, length, eqb, leb, ltb}
use Rattle.std.proofs.Math.Option.{Option, none, some}
use Rattle.std.proofs.Math.ListN.{get_elem?}
use Rattle.definition.specs.declared.Kind.{Kind}
use Rattle.definition.specs.declared.Kind.TheVariants.{IntKind, ReferenceKind}
use Rattle.definition.specs.declared.Signature.{Signature}
use Rattle.definition.specs.declared.Instruction.{Instruction}
use Rattle.definition.specs.declared.Operator.{Operator}
use Rattle.definition.specs.declared.Operator.TheVariants.{Add, Subtract, Multiply, Divide}
use Rattle.definition.specs.declared.Condition.{Condition}
use Rattle.definition.specs.declared.Condition.TheVariants.{Always, IfZero, IfLess}
use Rattle.definition.specs.declared.Instruction.TheVariants.{AconstNull, Sipush, Load, Store, Pop, Dup, Arithmetic, Getfield, Putfield, Invokevirtual, New, Return, Branch}
use Rattle.definition.specs.Lists.{every, any, is_some, is_none}
use Rattle.definition.specs.Maybe.{◌>>=◌}
use Rattle.definition.specs.Requests.{at}
use Rattle.definition.specs.Superclasses.{nearest, below}
use Rattle.definition.specs.Classes.{argument_types, Class, find, super_of, loader_of, slots, has_field, Selected, selected, start_signature}
use Rattle.definition.specs.Constraints.{Tie, World, agrees, new_tie, signature_ties, agrees_after}
use Rattle.definition.specs.Instructions.{decode}
use Rattle.definition.specs.Verifier.{Note, notes_of, unmapped}
use Rattle.definition.specs.Machine.{Value, empty_value, int_value, null_value, object_value, unlisted_value, Objects, Frame, Now, existing, roomless, share_used}
use Rattle.definition.specs.Loading.{new_subtypes, override_ties, with_class, with_entry}
use Rattle.definition.specs.File.{File, read_file, class_of}
use Rattle.definition.specs.Tables.{Tables, shaped, Rows, frames_in, world_of, view}
use Rattle.definition.specs.Broken.{broken}
use Rattle.definition.specs.Calls.{Call, call_boot, call_step, call_run, refusals_of, RowCall, row_define, row_record, row_start, row_drop, row_sweep, row_try, row_take_back, Load as Offer, load_define, load_record, call_rows, load_refusals, row_refusals, turn}
use Rattle.laws.specs.Refusals.{running}

-- a word by its number, and whether it applies
pub record Cause : Type 0 where
  pub word : ℕ
  pub applies : Bool

abbrev pub cause : ℕ → Bool → Cause
cause n b = record { word = n; applies = b }

-- the word of the first that applies, 0 if none does
unfoldable pub first : List Cause → ℕ
first [] = 0
first (c ∷ cs) = elim c.applies [ true ↦ c.word | false ↦ first cs ]

-- there is one, and it passes
abbrev pub is_some_and : {A : Type 0} → Option A → (A → Bool) → Bool
is_some_and none test = false
is_some_and (some a) test = test a

-- define: 3 2 15 6 4 5 10 9, of the file that the bytes are read as, the superclass p and the verifier's notes

module _ (r : Rows) (l : ℕ) (f : File) where
  -- a limit would be passed
  unfoldable pub define_passes : List ℕ → ℕ → List Note → Bool
  define_passes bs p ns = not (every
      (leb (length r.kept + length bs) 16384
      ∷ ltb (length (world_of r).base.classes) 64
      ∷ ltb (length r.cache) 256
      ∷ leb (length (r.ties ++ override_ties (world_of r).base l p r.ties f.methods)) 256
      ∷ leb (length (r.subtypes ++ new_subtypes r.subtypes l ns)) 256
      ∷ leb (length (slots (world_of r).base p) + length f.fields) 16
      ∷ []))

  -- the new store wouldn't agree
  unfoldable pub define_clashes : ℕ → List Note → Bool
  define_clashes p ns = not (agrees (with_class (world_of r) (class_of l f) (override_ties (world_of r).base l p r.ties f.methods) (new_subtypes r.subtypes l ns)))

unfoldable pub define_causes : ℕ → List ℕ → Rows → List Cause
define_causes l bs r =
    let file = read_file bs in
    let super = file >>= λ f. find r.cache (at l f.super) in
    let notes = file >>= λ f. notes_of (class_of l f) f.methods in
    cause 3 (not (ltb l 16))
    ∷ cause 2 (is_none file)
    ∷ cause 15 (is_some_and file (λ f. any (unmapped (class_of l f)) f.methods))
    ∷ cause 6 (is_some_and file (λ f. is_none (notes_of (class_of l f) f.methods)))
    ∷ cause 4 (is_some_and file (λ f. not (is_none (find r.cache (at l f.name)))))
    ∷ cause 5 (is_some_and file (λ f. is_none (find r.cache (at l f.super))))
    ∷ cause 10 (is_some_and file (λ f. is_some_and super (λ p. is_some_and notes (define_passes r l f bs p))))
    ∷ cause 9 (is_some_and file (λ f. is_some_and super (λ p. is_some_and notes (define_clashes r l f p))))
    ∷ []

-- record: 3 13 4 10 9
unfoldable pub record_causes : ℕ → ℕ → ℕ → Rows → List Cause
record_causes l n c r =
    let class = get_elem? (world_of r).base.classes c in
    let cached = find r.cache (at l n) in
    cause 3 (not (ltb l 16 && leb 2 n) || is_none class)
    ∷ cause 13 (is_some_and class (λ k. not (eqb k.name n)))
    ∷ cause 4 (is_some_and cached (λ d. not (eqb d c)))
    ∷ cause 10 (is_none cached && not (ltb (length r.cache) 256))
    ∷ cause 9 (is_none cached && not (agrees (with_entry (world_of r) (at l n) c)))
    ∷ []

-- start: 3 12 5 7 18 10
unfoldable pub start_causes : ℕ → ℕ → ℕ → ℕ → Rows → List Cause
start_causes k l n m r =
    let cached = find r.cache (at l n) in
    cause 3 (not (ltb k 2) || not (ltb l 16 && leb 2 n && leb 1 m))
    ∷ cause 12 (not (leb (length (frames_in k r)) 0))
    ∷ cause 5 (is_none cached)
    ∷ cause 7 (is_some_and cached (λ c. is_none (selected (world_of r).base (start_signature m) c)))
    ∷ cause 18 (share_used k r.objects)
    ∷ cause 10 (roomless k r.objects)
    ∷ []

-- step: unreadable 14, 5 7 18 10 9, other 14, 11, 17

abbrev pub an_int : Value → Bool
an_int empty_value = false
an_int (int_value n) = true
an_int null_value = false
an_int (object_value o) = false
an_int (unlisted_value k b) = false

abbrev pub a_zero : Value → Bool
a_zero empty_value = false
a_zero (int_value n) = eqb n 0
a_zero null_value = false
a_zero (object_value o) = false
a_zero (unlisted_value k b) = false

abbrev pub a_null : Value → Bool
a_null empty_value = false
a_null (int_value n) = false
a_null null_value = true
a_null (object_value o) = false
a_null (unlisted_value k b) = false

abbrev pub a_reference : Value → Bool
a_reference empty_value = false
a_reference (int_value n) = false
a_reference null_value = true
a_reference (object_value o) = true
a_reference (unlisted_value k b) = false

abbrev pub a_value_of : Kind → Value → Bool
a_value_of IntKind v = an_int v
a_value_of ReferenceKind v = a_reference v

-- an int for int, a reference for a class name
unfoldable pub of_kind : ℕ → Value → Bool
of_kind t v = elim (eqb t 1) [ true ↦ an_int v | false ↦ a_reference v ]

abbrev pub is_empty : {A : Type 0} → List A → Bool
is_empty [] = true
is_empty (x ∷ xs) = false

-- what can be read at the frame's point
unfoldable pub reading : World → Frame → Option Now
reading w f =
    get_elem? w.base.classes f.class >>= λ k. get_elem? k.methods f.method >>= λ m.
    decode k.version m.code f.point >>= λ i. some (record { the_class = k; method = m; at = i })

-- no room for one operand more, and none in the frame below for a result
unfoldable pub no_room : List Value → Bool
no_room vs = not (ltb (length vs) 16)

abbrev pub no_room_below : List Frame → Bool
no_room_below [] = false
no_room_below (g ∷ gs) = no_room g.operands

module _ (w : World) (os : Objects) where
  -- null, or an object whose class is e or below it
  abbrev pub receives : ℕ → Value → Bool
  receives e empty_value = false
  receives e (int_value n) = false
  receives e null_value = true
  receives e (object_value o) = is_some_and (existing os o) (λ b. below (super_of w.base) b.class e)
  receives e (unlisted_value α β) = false

  -- null, or an object from whose class a method is selected
  abbrev pub selects : Signature → Value → Bool
  selects s empty_value = false
  selects s (int_value m) = false
  selects s null_value = true
  selects s (object_value o) = is_some_and (existing os o) (λ b. is_some (selected w.base s b.class))
  selects s (unlisted_value α β) = false

-- of an instruction that names no class
abbrev pub plainly : Bool → Bool → List Cause
plainly full stuck = cause 5 false ∷ cause 7 false ∷ cause 18 false ∷ cause 10 full ∷ cause 9 false ∷ cause 14 stuck ∷ cause 11 false ∷ cause 17 false ∷ []

module _ (w : World) (k : Class) where
  -- what class c means under the loader of k
  abbrev pub named : ℕ → Option ℕ
  named c = find w.base.cache (at k.loader c)

  -- the nearest class upward that passes
  abbrev pub upward : (ℕ → Bool) → ℕ → Option ℕ
  upward test e = nearest (super_of w.base) test e

  -- the ties that a field of type t posts, where class d declares it, and that a method of signature s does
  abbrev pub field_ties : ℕ → ℕ → List Tie
  field_ties t d = new_tie w.ties (loader_of w.base d) k.loader t

  abbrev pub method_ties : Signature → Selected → List Tie
  method_ties s m = signature_ties w.ties (loader_of w.base m.class) k.loader s

  -- of an instruction that names class c, which means e, and looks upward for a member d
  unfoldable pub accessing : {A : Type 0} → Option ℕ → (ℕ → Option A) → (A → List Tie) → Bool → (ℕ → Bool) → Bool → List Cause
  accessing means looks ties room fits null =
      let declares = means >>= looks in
      cause 5 (is_none means)
      ∷ cause 7 (is_some_and means (λ e. is_none (looks e)))
      ∷ cause 18 false
      ∷ cause 10 (is_some_and declares (λ d. not (leb (length (w.ties ++ ties d)) 256 && room)))
      ∷ cause 9 (is_some_and declares (λ d. not (agrees_after w (ties d))))
      ∷ cause 14 (is_some_and means (λ e. not (fits e)))
      ∷ cause 11 null
      ∷ cause 17 false
      ∷ []

-- an instruction of the frame f above the frames fs of its task, in class k; operands are counted from the last pushed
module _ (task : ℕ) (w : World) (os : Objects) (f : Frame) (fs : List Frame) (k : Class) where
  abbrev pub operand : ℕ → Option Value
  operand n = get_elem? f.operands n

  abbrev pub local : ℕ → Option Value
  local n = get_elem? f.locals n

  -- the operands that a branch needs are ints
  unfoldable pub branches : Condition → Bool
  branches Always = true
  branches IfZero = is_some_and (operand 0) an_int
  branches IfLess = is_some_and (operand 0) an_int && is_some_and (operand 1) an_int

  -- it divides, and its divisor, the upper operand, is 0
  unfoldable pub zero_divisor : Operator → Bool
  zero_divisor Add = false
  zero_divisor Subtract = false
  zero_divisor Multiply = false
  zero_divisor Divide = is_some_and (operand 0) a_zero

  -- a call's arguments are there, each of its own type's kind: the last stands on top, so that one which n others follow is operand n
  unfoldable pub arguments_fit : List ℕ → Bool
  arguments_fit [] = true
  arguments_fit (t ∷ ts) = is_some_and (operand (length ts)) (of_kind t) && arguments_fit ts

  unfoldable pub instruction_causes : Instruction → List Cause
  instruction_causes AconstNull = plainly (no_room f.operands) false
  instruction_causes (Sipush n) = plainly (no_room f.operands) false
  instruction_causes (Load kind j) = plainly (no_room f.operands) (not (is_some_and (local j) (a_value_of kind)))
  instruction_causes (Store kind j) = plainly false (not (is_some_and (operand 0) (a_value_of kind) && is_some (local j)))
  instruction_causes Pop = plainly false (is_none (operand 0))
  instruction_causes Dup = plainly (no_room f.operands) (is_none (operand 0))
  instruction_causes (Arithmetic o) =
      cause 5 false
      ∷ cause 7 false
      ∷ cause 18 false
      ∷ cause 10 false
      ∷ cause 9 false
      ∷ cause 14 (not (is_some_and (operand 0) an_int && is_some_and (operand 1) an_int))
      ∷ cause 11 false
      ∷ cause 17 (zero_divisor o)
      ∷ []
  instruction_causes (Getfield c n t) =
      accessing w k (named w k c) (upward w k (has_field w.base n t)) (field_ties w k t) true
      (λ e. is_some_and (operand 0) (receives w os e)) (is_some_and (operand 0) a_null)
  instruction_causes (Putfield c n t) =
      accessing w k (named w k c) (upward w k (has_field w.base n t)) (field_ties w k t) true
      (λ e. is_some_and (operand 0) (of_kind t) && is_some_and (operand 1) (receives w os e)) (is_some_and (operand 1) a_null)
  instruction_causes (Invokevirtual c s) =
      accessing w k (named w k c) (selected w.base s) (method_ties w k s) (ltb (suc (length fs)) 32)
      (λ e. arguments_fit (argument_types s) && is_some_and (operand (length (argument_types s))) (λ v. receives w os e v && selects w os s v))
      (is_some_and (operand (length (argument_types s))) a_null)
  instruction_causes (New c) =
      cause 5 (is_none (named w k c)) ∷ cause 7 false ∷ cause 18 (share_used task os) ∷ cause 10 (not (not (roomless task os) && ltb (length f.operands) 16)) ∷ cause 9 false ∷ cause 14 false ∷ cause 11 false ∷ cause 17 false ∷ []
  instruction_causes (Branch c p) = plainly false (not (branches c))
  instruction_causes (Return kind) =
      plainly (no_room_below fs) (not (is_some_and (operand 0) (a_value_of kind) && (not (is_empty fs) || is_some_and (operand 0) an_int)))

-- of an idle step, and of what can't be read, nothing more applies
abbrev pub nothing : List Cause
nothing = cause 5 false ∷ cause 7 false ∷ cause 18 false ∷ cause 10 false ∷ cause 9 false ∷ cause 14 false ∷ cause 11 false ∷ cause 17 false ∷ []

abbrev pub read_causes : ℕ → World → Objects → Frame → List Frame → Option Now → List Cause
read_causes task w os f fs none = cause 14 true ∷ nothing
read_causes task w os f fs (some n) = cause 14 false ∷ instruction_causes task w os f fs n.the_class n.at.instruction

abbrev pub frame_causes : ℕ → World → Objects → List Frame → List Cause
frame_causes task w os [] = cause 14 false ∷ nothing
frame_causes task w os (f ∷ fs) = read_causes task w os f fs (reading w f)

-- Every call; 1 before all else

abbrev pub load_causes : Offer → Rows → List Cause
load_causes (load_define l bs) r = define_causes l bs r
load_causes (load_record l n c) r = record_causes l n c r

-- one more, straight after the first
abbrev pub secondly : Cause → List Cause → List Cause
secondly x [] = x ∷ []
secondly x (c ∷ cs) = c ∷ x ∷ cs

-- a tried load's are the load's, with 'short list' straight after 'unknown', the load's first: the list has fewer than 512 numbers
unfoldable pub row_causes : RowCall → Rows → List Cause
row_causes (row_define l bs) r = load_causes (load_define l bs) r
row_causes (row_record l n c) r = load_causes (load_record l n c) r
row_causes (row_start k l n m v) r = start_causes k l n m r
row_causes (row_drop k) r = cause 3 (not (ltb k 2)) ∷ []
row_causes row_sweep r = []
row_causes (row_try c n) r = secondly (cause 16 (ltb n 512)) (load_causes c r)
row_causes row_take_back r = cause 19 (is_empty r.trace) ∷ []

unfoldable pub causes : Call → Tables → List Cause
causes call_boot t = cause 1 (not (shaped t)) ∷ []
causes (call_rows c) t = cause 1 (broken t) ∷ row_causes c (view t)
causes call_step t = cause 1 (broken t) ∷ frame_causes (turn (view t)) (world_of (view t)) (view t).objects (running (view t).quote (view t).report)
causes (call_run n) t = cause 1 (broken t) ∷ cause 3 (not (leb 1 n && leb n 65535)) ∷ []

-- The paper's order: that of `refusals_of`, but for a step, where 14 stands twice

unfoldable pub order : Call → List ℕ
order call_boot = refusals_of call_boot
order (call_rows c) = refusals_of (call_rows c)
order call_step = 1 ∷ 14 ∷ 5 ∷ 7 ∷ 18 ∷ 10 ∷ 9 ∷ 14 ∷ 11 ∷ 17 ∷ []
order (call_run n) = refusals_of (call_run n)

-- their words
abbrev pub words : List Cause → List ℕ
words cs = map (λ c. c.word) cs

instruction-order : (task : ℕ) (w : World) (os : Objects) (f : Frame) (fs : List Frame) (k : Class) (i : Instruction) → words (instruction_causes task w os f fs k i) ≡ 5 ∷ 7 ∷ 18 ∷ 10 ∷ 9 ∷ 14 ∷ 11 ∷ 17 ∷ []
unfolding instruction_causes accessing
instruction-order task w os f fs k AconstNull = refl
instruction-order task w os f fs k (Sipush n) = refl
instruction-order task w os f fs k (Load kind j) = refl
instruction-order task w os f fs k (Store kind j) = refl
instruction-order task w os f fs k Pop = refl
instruction-order task w os f fs k Dup = refl
instruction-order task w os f fs k (Arithmetic o) = refl
instruction-order task w os f fs k (Getfield c n t) = refl
instruction-order task w os f fs k (Putfield c n t) = refl
instruction-order task w os f fs k (Invokevirtual c s) = refl
instruction-order task w os f fs k (New c) = refl
instruction-order task w os f fs k (Branch c p) = refl
instruction-order task w os f fs k (Return kind) = refl

frame-order : (task : ℕ) (w : World) (os : Objects) (fs : List Frame) → words (frame_causes task w os fs) ≡ 14 ∷ 5 ∷ 7 ∷ 18 ∷ 10 ∷ 9 ∷ 14 ∷ 11 ∷ 17 ∷ []
frame-order task w os [] = refl
frame-order task w os (f ∷ fs) = go (reading w f)
  where
    go : (o : Option Now) → words (read_causes task w os f fs o) ≡ 14 ∷ 5 ∷ 7 ∷ 18 ∷ 10 ∷ 9 ∷ 14 ∷ 11 ∷ 17 ∷ []
    go none = refl
    go (some n) = rw (instruction-order task w os f fs n.the_class n.at.instruction) refl

rows-order : (c : RowCall) (r : Rows) → words (row_causes c r) ≡ row_refusals c
unfolding row_causes row_refusals load_refusals define_causes record_causes start_causes
rows-order (row_define l bs) r = refl
rows-order (row_record l n c) r = refl
rows-order (row_start k l n m v) r = refl
rows-order (row_drop k) r = refl
rows-order row_sweep r = refl
rows-order (row_try (load_define l bs) n) r = refl
rows-order (row_try (load_record l x c) n) r = refl
rows-order row_take_back r = refl

-- the words that `causes` lists stand in the paper's order
pub in-order : (c : Call) (t : Tables) → words (causes c t) ≡ order c
unfolding causes order refusals_of
in-order call_boot t = refl
in-order (call_rows c) t = rw (rows-order c (view t)) refl
in-order call_step t = rw (frame-order (turn (view t)) (world_of (view t)) (view t).objects (running (view t).quote (view t).report)) refl
in-order (call_run n) t = refl
