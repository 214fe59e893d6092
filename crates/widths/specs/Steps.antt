-- A step leaves ints of 32 bits, ties on names of 16 bits, and methods and points that fit their cells.
use Rattle.std.specs.Prelude.{Bool, true, false, ◌||◌, ℕ, zero, suc, ◌+◌, ◌-◌, ◌<◌, length, eqb}
use Rattle.std.proofs.Math.Option.{Option, none, some}
use mathlib.Core.List.{List, [], ◌∷◌, ◌++◌}
use Rattle.std.proofs.Common.{mod-lt, arith}
use Rattle.std.proofs.Math.ListN.{get_elem?, set}
use Rattle.definition.specs.declared.Operator.{Operator}
use Rattle.definition.specs.declared.Operator.TheVariants.{Add, Subtract, Multiply, Divide}
use Rattle.definition.specs.declared.Signature.{Signature}
use Rattle.definition.specs.declared.Instruction.{Instruction}
use Rattle.definition.specs.declared.Condition.{Condition}
use Rattle.definition.specs.declared.Condition.TheVariants.{Always, IfZero, IfLess}
use Rattle.definition.specs.declared.Instruction.TheVariants.{AconstNull, Sipush, Load, Store, Pop, Dup, Arithmetic, Getfield, Putfield, Invokevirtual, New, Return, Branch}
use Rattle.definition.specs.declared.Refusal.{Refusal}
use Rattle.definition.specs.declared.Refusal.TheVariants.{Word}
use Rattle.definition.specs.Answers.{Result, refused, ok, ◌>>=◌, take?}
use Rattle.definition.specs.Lists.{any, index_of}
use Rattle.definition.specs.Classes.{Base, Class, argument_types, slots, loader_of, methods_of, alike, Selected, selected, signature_types}
use Rattle.definition.specs.Constraints.{Tie, World, tie_is, new_tie, post, new_ties, signature_ties}
use Rattle.definition.specs.Instructions.{Decoded, pick}
use Rattle.definition.specs.Verifier.{pop, pop_all}
use Rattle.definition.specs.Machine.{Value, empty_value, int_value, null_value, object_value, unlisted_value, Object, Frame, existing, initial_value, new_object, entry_frame, pop!, pop_all!, compute, jumps, object!, Progress, Now, now, past, give, execute, step, ObjectRow, free, owned, Objects, object_held, unused, made, rewritten, changed}
use Rattle.laws.specs.Arguments.{PoppedAll}
use Rattle.laws.specs.Wrapped.{Ok, then}
use Rattle.laws.specs.Ints.{bits_below}
use Rattle.layout.specs.Tests.{All, all_both, all-filled}
use Rattle.unbroken.specs.Steps.{all_set}
use Rattle.widths.specs.Below.{all_map}
use Rattle.widths.specs.Fits.{IntFits, TieFits, ObjectFits, FrameFits, ObjectRowFits}
use Rattle.widths.specs.Files.{Read, read-nth, InstructionFits, DecodedFits, decode-fits, MethodFits, ClassFits, methods-of-fit, SignatureFits, read_past, read-on}

-- Answers in sequence: what holds of an accepted value

pub then-on : {A B : Type 0} (P : A → Type 0) (Q : B → Type 0) (o : Result A) (f : A → Result B) → Ok o P → ((a : A) → P a → Ok (f a) Q) → Ok (o >>= f) Q
unfolding ◌>>=◌
then-on P Q (refused w) f h k = tt
then-on P Q (ok a) f h k = k a h

pub take-read : {A : Type 0} (P : A → Type 0) (o : Option A) (w : Refusal) → Read o P → Ok (take? o w) P
unfolding take?
take-read P none w h = tt
take-read P (some a) w h = h

-- Operands

abbrev Popped : record { top : Value; more : List Value } → Type 0
Popped p = IntFits p.top × All IntFits p.more

pop-fits : (vs : List Value) → All IntFits vs → Ok (pop! vs) Popped
unfolding pop! pop take?
pop-fits [] h = tt
pop-fits (v ∷ vs) h = (h.0, h.1)

-- the arguments of a call
abbrev PoppedValues : PoppedAll Value → Type 0
PoppedValues p = All IntFits p.all × All IntFits p.more

values-read : (n : ℕ) (vs : List Value) → All IntFits vs → Read (pop_all n vs) PoppedValues
unfolding pop_all
values-read zero vs h = (tt, h)
values-read (suc n) vs h = read-on Popped PoppedValues _ _ (popped vs h) (λ p hp. read-on PoppedValues PoppedValues _ _ (values-read n p.more hp.1) (λ q hq.
    (all_both IntFits q.all (p.top ∷ []) hq.0 (hp.0, tt), hq.1)))
  where
    popped : (vs : List Value) → All IntFits vs → Read (pop vs) Popped
    popped [] h = unfold pop in tt
    popped (v ∷ vs) h = unfold pop in (h.0, h.1)

values-fit : (n : ℕ) (vs : List Value) → All IntFits vs → Ok (pop_all! n vs) PoppedValues
unfolding pop_all!
values-fit n vs h = take-read PoppedValues (pop_all n vs) (Word 14) (values-read n vs h)

-- Operators

compute-fits : (o : Operator) (a b : ℕ) → Ok (compute o a b) (λ n. n < 4294967296)
unfolding compute
compute-fits Add a b = mod-lt (a + b) (omega arith)
compute-fits Subtract a b = mod-lt (a + 4294967296 - b) (omega arith)
compute-fits Multiply a b = bits_below _
compute-fits Divide a b = then (λ n. n < 4294967296) _ _ (λ _ _. bits_below _)

-- Branches

jumps-fit : (c : Condition) (vs : List Value) → All IntFits vs → Ok (jumps c vs) (λ j. All IntFits j.more)
unfolding jumps
jumps-fit Always vs h = h
jumps-fit IfZero vs h = then-on Popped (λ j. All IntFits j.more) _ _ (pop-fits vs h) (λ p hp. then (λ j. All IntFits j.more) _ _ (λ _ _. hp.1))
jumps-fit IfLess vs h =
    then-on Popped (λ j. All IntFits j.more) _ _ (pop-fits vs h) (λ p hp. then-on Popped (λ j. All IntFits j.more) _ _ (pop-fits p.more hp.1) (λ q hq.
    then (λ j. All IntFits j.more) _ _ (λ _ _. then (λ j. All IntFits j.more) _ _ (λ _ _. hq.1))))

picked : (b : Bool) (p q n : ℕ) → p < n → q < n → pick b p q < n
unfolding pick
picked true p q n x y = x
picked false p q n x y = y

-- Objects

existing-fits : (os : Objects) (o : ℕ) → All ObjectRowFits os → Read (existing os o) ObjectFits
unfolding existing
existing-fits os o h = go (get_elem? os o) (read-nth ObjectRowFits os o h)
  where
    held : (x : ObjectRow) → ObjectRowFits x → Read (object_held x) ObjectFits
    held free f = unfold object_held in tt
    held (owned k x) f = unfold object_held in f

    go : (y : Option ObjectRow) → Read y ObjectRowFits → Read (elim y as (λ _. Option Object) [ none ↦ none | some x ↦ object_held x ]) ObjectFits
    go none f = tt
    go (some x) f = held x f

pub made-fits : (k : ℕ) (x : Object) (os : Objects) → ObjectFits x → All ObjectRowFits os → All ObjectRowFits (made k x os)
unfolding made
made-fits k x [] f h = (f, tt)
made-fits k x (free ∷ os) f h = (f, h.1)
made-fits k x (owned j y ∷ os) f h = (h.0, made-fits k x os f h.1)

changed-fits : (os : Objects) (o : ℕ) (x : Object) → ObjectFits x → All ObjectRowFits os → All ObjectRowFits (changed os o x)
unfolding changed
changed-fits os o x f h = go (get_elem? os o)
  where
    put : (y : ObjectRow) → ObjectRowFits (rewritten x y)
    put free = unfold rewritten in tt
    put (owned k y) = unfold rewritten in f

    go : (y : Option ObjectRow) → All ObjectRowFits (elim y as (λ _. Objects) [ none ↦ os | some z ↦ set os o (rewritten x z) ])
    go none = h
    go (some z) = all_set ObjectRowFits os h o (rewritten x z) (put z)

object-fits : (b : Base) (os : Objects) (e : ℕ) (v : Value) → All ObjectRowFits os → Ok (object! b os e v) (λ o. ObjectFits o.object)
unfolding object!
object-fits b os e empty_value h = tt
object-fits b os e (int_value n) h = tt
object-fits b os e null_value h = tt
object-fits b os e (object_value o) h =
    then-on ObjectFits Q _ _ (take-read ObjectFits (existing os o) _ (existing-fits os o h)) (λ k f. then Q _ _ (λ _ _. f))
  where
    Q : record { number : ℕ; object : Object } → Type 0
    Q o = ObjectFits o.object
object-fits b os e (unlisted_value k x) h = tt

-- fields begin as 0 or null
pub new-fits : (b : Base) (c : ℕ) → ObjectFits (new_object b c)
unfolding new_object initial_value
new-fits b c = all_map IntFits initial_value (λ s. begun (eqb s.type 1)) (slots b c)
  where
    begun : (u : Bool) → IntFits (elim u as (λ _. Value) [ true ↦ int_value 0 | false ↦ null_value ])
    begun true = omega arith
    begun false = tt

-- Ties

pub new-tie-fits : (ts : List Tie) (l m n : ℕ) → n < 65536 → All TieFits (new_tie ts l m n)
unfolding new_tie
new-tie-fits ts l m n h = go (eqb l m || eqb n 1 || any (tie_is l m n) ts)
  where
    go : (z : Bool) → All TieFits (elim z as (λ _. List Tie) [ true ↦ [] | false ↦ record { one = l; two = m; name = n } ∷ [] ])
    go true = tt
    go false = (h, tt)

pub new-ties-fit : (ts : List Tie) (l m : ℕ) (ns : List ℕ) → All (λ n. n < 65536) ns → All TieFits (new_ties ts l m ns)
unfolding new_ties
new-ties-fit ts l m [] h = tt
new-ties-fit ts l m (n ∷ ns) h = all_both TieFits (new_tie ts l m n) _ (new-tie-fits ts l m n h.0) (new-ties-fit (ts ++ new_tie ts l m n) l m ns h.1)

pub signature-ties-fit : (ts : List Tie) (l m : ℕ) (s : Signature) → SignatureFits s → All TieFits (signature_ties ts l m s)
unfolding signature_ties
signature-ties-fit ts l m s h = new-ties-fit ts l m (signature_types s) h

abbrev Tied : World → Type 0
Tied w = All TieFits w.ties

post-fits : (w : World) (room : Bool) (us : List Tie) → Tied w → All TieFits us → Ok (post w room us) Tied
unfolding post
post-fits w room us h k = then Tied _ _ (λ _ _. then Tied _ _ (λ _ _. all_both TieFits w.ties us h k))

-- Methods

index-lt : {A : Type 0} (f : A → Bool) (xs : List A) → Read (index_of f xs) (λ j. j < length xs)
unfolding index_of
index-lt f [] = tt
index-lt f (x ∷ xs) = go (f x) (index_of f xs) (index-lt f xs)
  where
    go : (b : Bool) (o : Option ℕ) → Read o (λ j. j < length xs)
        → Read (elim b as (λ _. Option ℕ) [ true ↦ some 0 | false ↦ elim o as (λ _. Option ℕ) [ none ↦ none | some i ↦ some (suc i) ] ]) (λ j. j < suc (length xs))
    go true o h = omega arith
    go false none h = tt
    go false (some i) h = omega arith

-- a selected method's place is one of a class's methods
abbrev pub PlaceFits : Selected → Type 0
PlaceFits m = m.place < 4294967296

pub selected-fits : (b : Base) → All ClassFits b.classes → (s : Signature) (c : ℕ) → Read (selected b s c) PlaceFits
unfolding selected
selected-fits b h s c = read_past PlaceFits _ _ (λ d. read-on (λ j. j < length (methods_of b d)) PlaceFits _ _ (index-lt (alike s) (methods_of b d)) (λ j x. omega (arith, (methods-of-fit b h d).many)))

-- a method's first frame
pub entered-fits : (s j o : ℕ) (vs : List Value) → j < 4294967296 → All IntFits vs → FrameFits (entry_frame s j o vs)
entered-fits s j o vs l h = record { method = l; point = omega arith; operands = tt; locals = all-filled IntFits 8 empty_value (object_value o ∷ vs) tt (tt, h) }

-- What a step leaves

pub record ProgressFits (o : Progress) : Type 0 where
  pub ties : All TieFits o.world.ties
  pub objects : All ObjectRowFits o.objects
  pub frames : All FrameFits o.frames

module _ (task : ℕ) (w : World) (os : Objects) (classes : All ClassFits w.base.classes) (ties : All TieFits w.ties) (objects : All ObjectRowFits os) where
  give-fits : (fs : List Frame) (v : Value) → All FrameFits fs → IntFits v → Ok (give fs w os v) ProgressFits
  unfolding give
  give-fits [] v h k = then ProgressFits _ _ (λ _ _. record { ties = ties; objects = objects; frames = tt })
  give-fits (g ∷ gs) v h k = record {
    ties = ties;
    objects = objects;
    frames = (record { method = h.0.method; point = h.0.point; operands = (k, h.0.operands); locals = h.0.locals }, h.1);
  }

  module _ (f : Frame) (fs : List Frame) (k : Class) (i : Decoded) (top : FrameFits f) (rest : All FrameFits fs) (point : f.point + i.size < 4294967296) where
    moved : (o l : List Value) → All IntFits o → All IntFits l → FrameFits (past f i o l)
    moved o l a b = record { method = top.method; point = point; operands = a; locals = b }

    -- nothing but the frame changes
    frame-only : (o l : List Value) → All IntFits o → All IntFits l → ProgressFits (record { world = w; objects = os; frames = past f i o l ∷ fs; result = none })
    frame-only o l a b = record { ties = ties; objects = objects; frames = (moved o l a b, rest) }

    abbrev Q : Progress → Type 0
    Q = ProgressFits

    pushed : (v : Value) → IntFits v → Q (record { world = w; objects = os; frames = past f i (v ∷ f.operands) f.locals ∷ fs; result = none })
    pushed v h = frame-only (v ∷ f.operands) f.locals (h, top.operands) top.locals

    abbrev Held : record { number : ℕ; object : Object } → Type 0
    Held o = ObjectFits o.object

    local : (j : ℕ) → Ok (take? (get_elem? f.locals j) (Word 14)) IntFits
    local j = take-read IntFits (get_elem? f.locals j) (Word 14) (read-nth IntFits f.locals j top.locals)

    stored : (j : ℕ) (p : record { top : Value; more : List Value }) → Popped p
        → Q (record { world = w; objects = os; frames = past f i p.more (set f.locals j p.top) ∷ fs; result = none })
    stored j p h = frame-only p.more (set f.locals j p.top) h.1 (all_set IntFits f.locals top.locals j p.top h.0)

    -- two operands popped, whatever follows
    two-popped : (g : (p q : record { top : Value; more : List Value }) → Result Progress)
        → ((p q : record { top : Value; more : List Value }) → Popped p → Popped q → Ok (g p q) Q)
        → Ok (pop! f.operands >>= λ p. pop! p.more >>= λ q. g p q) Q
    two-popped g n =
        then-on Popped Q _ _ (pop-fits f.operands top.operands) (λ p hp. then-on Popped Q _ (g p) (pop-fits p.more hp.1) (λ q hq. n p q hp hq))

    execute-fits : (j : Instruction) → InstructionFits j → Ok (execute task w os f fs k i j) Q
    unfolding execute
    execute-fits AconstNull x = then Q _ _ (λ _ _. pushed null_value tt)
    execute-fits (Sipush n) x = then Q _ _ (λ _ _. pushed (int_value n) x)
    execute-fits (Load kind j) x = then Q _ _ (λ _ _. then-on IntFits Q _ _ (local j) (λ v h. then Q _ _ (λ _ _. pushed v h)))
    execute-fits (Store kind j) x = then-on Popped Q _ _ (pop-fits f.operands top.operands) (λ p h. then Q _ _ (λ _ _. then Q _ _ (λ _ _. stored j p h)))
    execute-fits Pop x = then-on Popped Q _ _ (pop-fits f.operands top.operands) (λ p h. frame-only p.more f.locals h.1 top.locals)
    execute-fits Dup x = then Q _ _ (λ _ _. then-on Popped Q _ _ (pop-fits f.operands top.operands) (λ p h.
        frame-only (p.top ∷ p.top ∷ p.more) f.locals (h.0, h) top.locals))
    execute-fits (Arithmetic o) x = two-popped _ (λ p q hp hq. then Q _ _ (λ b _. then Q _ _ (λ a _. then-on (λ n. n < 4294967296) Q _ _ (compute-fits o a b) (λ n l.
        frame-only (int_value n ∷ q.more) f.locals (l, hq.1) top.locals))))
    execute-fits (Getfield c n t) x = then Q _ _ (λ e _. then Q _ _ (λ d _.
        then-on Tied Q _ _ (post-fits w _ _ ties (new-tie-fits w.ties (loader_of w.base d) k.loader t x.1)) (λ v tied.
        then-on Popped Q _ _ (pop-fits f.operands top.operands) (λ p hp.
        then-on Held Q _ _ (object-fits w.base os e p.top objects) (λ o held. then Q _ _ (λ j _.
        then-on IntFits Q _ _ (take-read IntFits (get_elem? o.object.values j) _ (read-nth IntFits o.object.values j held)) (λ z hz.
        record { ties = tied; objects = objects; frames = (moved (z ∷ p.more) f.locals (hz, hp.1) top.locals, rest) })))))))
    execute-fits (Putfield c n t) x = then Q _ _ (λ e _. then Q _ _ (λ d _.
        then-on Tied Q _ _ (post-fits w _ _ ties (new-tie-fits w.ties (loader_of w.base d) k.loader t x.1)) (λ v tied.
        two-popped _ (λ p q hp hq. then Q _ _ (λ _ _.
        then-on Held Q _ _ (object-fits w.base os e q.top objects) (λ o held. then Q _ _ (λ j _.
        record {
          ties = tied;
          objects = changed-fits os o.number (record { class = o.object.class; values = set o.object.values j p.top }) (all_set IntFits o.object.values held j p.top hp.0) objects;
          frames = (moved q.more f.locals hq.1 top.locals, rest);
        })))))))
    execute-fits (Invokevirtual c s) x = then Q _ _ (λ e _. then Q _ _ (λ d _.
        then-on Tied Q _ _ (post-fits w _ _ ties (signature-ties-fit w.ties (loader_of w.base d.class) k.loader s x.1)) (λ v tied.
        then-on PoppedValues Q _ _ (values-fit (length (argument_types s)) f.operands top.operands) (λ p hp. then-on Popped Q _ _ (pop-fits p.more hp.1) (λ q hq. then Q _ _ (λ _ _. then Q _ _ (λ o _.
        then-on PlaceFits Q _ _ (take-read PlaceFits _ _ (selected-fits w.base classes s o.object.class)) (λ m l.
        record {
          ties = tied;
          objects = objects;
          frames = (entered-fits m.class m.place o.number p.all l hp.0, (moved q.more f.locals hq.1 top.locals, rest));
        }))))))))
    execute-fits (New c) x = then Q _ _ (λ e _. then Q _ _ (λ _ _. then Q _ _ (λ _ _.
        record {
          ties = ties;
          objects = made-fits task (new_object w.base e) os (new-fits w.base e) objects;
          frames = (moved (object_value (unused os) ∷ f.operands) f.locals (tt, top.operands) top.locals, rest);
        })))
    execute-fits (Branch c p) x = then-on (λ j. All IntFits j.more) Q _ _ (jumps-fit c f.operands top.operands) (λ j h. record {
      ties = ties;
      objects = objects;
      frames = (record { method = top.method; point = picked j.taken p (f.point + i.size) 4294967296 (omega arith) point; operands = h; locals = top.locals }, rest);
    })
    execute-fits (Return kind) x = then Q _ _ (λ _ _. then-on Popped Q _ _ (pop-fits f.operands top.operands) (λ p h.
        then Q _ _ (λ _ _. give-fits fs p.top rest h.0)))

  record NowFits (f : Frame) (n : Now) : Type 0 where
    instruction : InstructionFits n.at.instruction
    point : f.point + n.at.size < 4294967296

  now-fits : (f : Frame) → Ok (now w f) (NowFits f)
  unfolding now
  now-fits f =
      then-on ClassFits (NowFits f) _ _ (take-read ClassFits _ _ (read-nth ClassFits w.base.classes f.class classes)) (λ k hk.
      then-on MethodFits (NowFits f) _ _ (take-read MethodFits _ _ (read-nth MethodFits k.methods f.method hk.methods.each)) (λ m hm.
      let D : Decoded → Type 0 = DecodedFits m.code hm.code f.point in
      then-on D (NowFits f) _ _ (take-read D _ _ (decode-fits m.code hm.code k.version f.point)) (λ i hi.
      record { instruction = hi.instruction; point = omega (arith, hi.inside, hm.short) })))

  pub step_fits : (f : Frame) (fs : List Frame) → FrameFits f → All FrameFits fs → Ok (step task w os f fs) ProgressFits
  unfolding step
  step_fits f fs top rest =
      then-on (NowFits f) ProgressFits _ _ (now-fits f) (λ n h. execute-fits f fs n.the_class n.at top rest h.point n.at.instruction h.instruction)
