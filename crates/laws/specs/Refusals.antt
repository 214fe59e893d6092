-- Every refusal of a call on rows is due: its word is one of those that the paper lists for the call, and a request that it wants is the one that the
-- call needs, which isn't cached.
use Rattle.std.specs.Prelude.{◌≡◌, Bool, not, ◌&&◌, ℕ, suc, length, eqb, ltb}
use Rattle.std.proofs.Math.Path.{refl}
use Rattle.std.proofs.Math.Bool.{true, false}
use Rattle.std.proofs.Math.Option.{Option, none, some}
use mathlib.Core.List.{List, [], ◌∷◌}
use Rattle.definition.specs.declared.Refusal.{Refusal}
use Rattle.definition.specs.declared.Refusal.TheVariants.{Wanted, Word}
use Rattle.definition.specs.declared.Reply.{Reply}
use Rattle.definition.specs.declared.Kind.{Kind}
use Rattle.definition.specs.declared.Kind.TheVariants.{IntKind, ReferenceKind}
use Rattle.definition.specs.declared.Operator.{Operator}
use Rattle.definition.specs.declared.Operator.TheVariants.{Add, Subtract, Multiply, Divide}
use Rattle.definition.specs.declared.Instruction.{Instruction}
use Rattle.definition.specs.declared.Condition.{Condition}
use Rattle.definition.specs.declared.Condition.TheVariants.{Always, IfZero, IfLess}
use Rattle.definition.specs.declared.Instruction.TheVariants.{AconstNull, Sipush, Load, Store, Pop, Dup, Arithmetic, Getfield, Putfield, Invokevirtual, New, Return, Branch}
use Rattle.definition.specs.Lists.{any}
use Rattle.definition.specs.Requests.{at}
use Rattle.definition.specs.Answers.{number, wanted, Result, refused, ok, ◌>>=◌, need, take?}
use Rattle.definition.specs.Classes.{Base, Class, argument_types, find}
use Rattle.definition.specs.Constraints.{Tie, World, agrees, post}
use Rattle.definition.specs.File.{File, read_file}
use Rattle.definition.specs.Instructions.{Decoded}
use Rattle.definition.specs.Machine.{Value, empty_value, int_value, null_value, object_value, unlisted_value, Object, Objects, Frame, Now, pop!, pop_all!, int!, reference!, of_kind!, kind!, kinds!, compute, jumps, room!, object!, now, under!, give, execute, step}
use Rattle.definition.specs.Loading.{define, recorded, started, with_entry}
use Rattle.definition.specs.Tables.{Level, Rows, world_of}
pub use Rattle.definition.specs.Calls.{load_call}
use Rattle.definition.specs.Calls.{Given, step_refusals, load_refusals, refusals_of, Call, call_boot, call_define, call_record, call_start, call_try, call_step, call_run, call_drop, Load as Offer, load_define, load_record, load_rows, tried_with, try_rows, define_rows, record_rows, start_rows, drop_rows, sweep_rows, taken_back, call_take_back, step_task, step_on, step_rows, RowCall, row_define, row_record, row_start, row_drop, row_sweep, row_try, row_take_back, on_row_call, call_rows, row_refusals}

-- what holds of the refusal, if it is one
abbrev pub Refuses : {A : Type 0} → (Refusal → Type 0) → Result A → Type 0
Refuses P (refused w) = P w
Refuses P (ok a) = Unit {0}

-- the class that an instruction names
abbrev pub class_in : Instruction → Option ℕ
class_in AconstNull = none
class_in (Sipush n) = none
class_in (Load kind j) = none
class_in (Store kind j) = none
class_in Pop = none
class_in Dup = none
class_in (Arithmetic o) = none
class_in (Getfield c n t) = some c
class_in (Putfield c n t) = some c
class_in (Invokevirtual c s) = some c
class_in (New c) = some c
class_in (Branch c p) = none
class_in (Return kind) = none

module _ (P : Refusal → Type 0) where
  pub on-bind : {A B : Type 0} (o : Result A) (f : A → Result B) → Refuses P o → ((a : A) → o ≡ ok a → Refuses P (f a)) → Refuses P (o >>= f)
  unfolding ◌>>=◌
  on-bind (refused w) f h k = h
  on-bind (ok a) f h k = k a refl

  on-need : {B : Type 0} (t : Bool) (w : Refusal) (f : Unit {0} → Result B) → P w → ((u : Unit {0}) → Refuses P (f u)) → Refuses P (need t w >>= f)
  unfolding ◌>>=◌ need
  on-need true w f h k = k tt
  on-need false w f h k = h

  pub on_test : {B : Type 0} (t : Bool) (w : Refusal) (f : Unit {0} → Result B) → (t ≡ false → P w) → (t ≡ true → Refuses P (f tt)) → Refuses P (need t w >>= f)
  unfolding ◌>>=◌ need
  on_test true w f h k = k refl
  on_test false w f h k = h refl

  pub on-take : {A B : Type 0} (o : Option A) (w : Refusal) (f : A → Result B) → (o ≡ none → P w) → ((a : A) → o ≡ some a → Refuses P (f a)) → Refuses P (take? o w >>= f)
  unfolding ◌>>=◌ take?
  on-take none w f h k = h refl
  on-take (some a) w f h k = k a refl

-- One instruction: 14, 10, 9, 7, 11, 17, or 5 with the class that it names, which isn't cached

module _ (P : Refusal → Type 0) (stuck : P (Word 14)) (full : P (Word 10)) (clash : P (Word 9)) (absent : P (Word 7)) (null : P (Word 11)) (divisor : P (Word 17)) (share : P (Word 18)) where
  int-refuses : (v : Value) → Refuses P (int! v)
  unfolding int!
  int-refuses empty_value = stuck
  int-refuses (int_value n) = tt
  int-refuses null_value = stuck
  int-refuses (object_value o) = stuck
  int-refuses (unlisted_value k b) = stuck

  reference-refuses : (v : Value) → Refuses P (reference! v)
  unfolding reference!
  reference-refuses empty_value = stuck
  reference-refuses (int_value n) = stuck
  reference-refuses null_value = tt
  reference-refuses (object_value o) = tt
  reference-refuses (unlisted_value k b) = stuck

  of-kind-refuses : (kind : Kind) (v : Value) → Refuses P (of_kind! kind v)
  unfolding of_kind!
  of-kind-refuses IntKind v = on-bind P (int! v) _ (int-refuses v) (λ _ _. tt)
  of-kind-refuses ReferenceKind v = on-bind P (reference! v) _ (reference-refuses v) (λ _ _. tt)

  kind-refuses : (t : ℕ) (v : Value) → Refuses P (kind! t v)
  unfolding kind!
  kind-refuses t v = go (eqb t 1)
    where
      go : (b : Bool) → Refuses {A = Unit {0}} P (elim b as (λ _. Result (Unit {0})) [ true ↦ of_kind! IntKind v | false ↦ of_kind! ReferenceKind v ])
      go true = of-kind-refuses IntKind v
      go false = of-kind-refuses ReferenceKind v

  kinds-refuses : (ts : List ℕ) (vs : List Value) → Refuses P (kinds! ts vs)
  unfolding kinds!
  kinds-refuses [] [] = tt
  kinds-refuses [] (v ∷ vs) = stuck
  kinds-refuses (t ∷ ts) [] = stuck
  kinds-refuses (t ∷ ts) (v ∷ vs) = on-bind P (kind! t v) _ (kind-refuses t v) (λ _ _. kinds-refuses ts vs)

  compute-refuses : (o : Operator) (a b : ℕ) → Refuses P (compute o a b)
  unfolding compute
  compute-refuses Add a b = tt
  compute-refuses Subtract a b = tt
  compute-refuses Multiply a b = tt
  compute-refuses Divide a b = on-need P _ _ _ divisor (λ _. tt)

  object-refuses : (w : Base) (os : Objects) (e : ℕ) (v : Value) → Refuses P (object! w os e v)
  unfolding object!
  object-refuses w os e empty_value = stuck
  object-refuses w os e (int_value n) = stuck
  object-refuses w os e null_value = null
  object-refuses w os e (object_value o) = on-take P _ _ _ (λ _. stuck) (λ _ _. on-need P _ _ _ stuck (λ _. tt))
  object-refuses w os e (unlisted_value k b) = stuck

  give-refuses : (fs : List Frame) (w : World) (os : Objects) (v : Value) → Refuses P (give fs w os v)
  unfolding give
  give-refuses [] w os v = on-bind P (int! v) _ (int-refuses v) (λ _ _. tt)
  give-refuses (g ∷ gs) w os v = tt

  -- in sequence
  room : {B : Type 0} (vs : List Value) (f : Unit {0} → Result B) → ((u : Unit {0}) → Refuses P (f u)) → Refuses P (room! vs >>= f)
  unfolding room!
  room vs f k = on-need P _ _ f full k

  under : {B : Type 0} (fs : List Frame) (f : Unit {0} → Result B) → ((u : Unit {0}) → Refuses P (f u)) → Refuses P (under! fs >>= f)
  unfolding under! ◌>>=◌
  under [] f k = k tt
  under (g ∷ gs) f k = room g.operands f k

  popped : {B : Type 0} (vs : List Value) (f : record { top : Value; more : List Value } → Result B) → ((p : record { top : Value; more : List Value }) → Refuses P (f p)) → Refuses P (pop! vs >>= f)
  unfolding pop!
  popped vs f k = on-take P _ (Word 14) f (λ _. stuck) (λ p _. k p)

  all-popped : {B : Type 0} (n : ℕ) (vs : List Value) (f : record { all : List Value; more : List Value } → Result B) → ((p : record { all : List Value; more : List Value }) → Refuses P (f p)) → Refuses P (pop_all! n vs >>= f)
  unfolding pop_all!
  all-popped n vs f k = on-take P _ (Word 14) f (λ _. stuck) (λ p _. k p)

  local : {A B : Type 0} (o : Option A) (f : A → Result B) → ((a : A) → Refuses P (f a)) → Refuses P (take? o (Word 14) >>= f)
  local o f k = on-take P o (Word 14) f (λ _. stuck) (λ a _. k a)

  int : {B : Type 0} (v : Value) (f : ℕ → Result B) → ((n : ℕ) → Refuses P (f n)) → Refuses P (int! v >>= f)
  int v f k = on-bind P (int! v) f (int-refuses v) (λ n _. k n)

  of-kind : {B : Type 0} (kind : Kind) (v : Value) (f : Unit {0} → Result B) → ((u : Unit {0}) → Refuses P (f u)) → Refuses P (of_kind! kind v >>= f)
  of-kind kind v f k = on-bind P (of_kind! kind v) f (of-kind-refuses kind v) (λ u _. k u)

  posting : {B : Type 0} (w : World) (t : Bool) (us : List Tie) (f : World → Result B) → ((v : World) → Refuses P (f v)) → Refuses P (post w t us >>= f)
  unfolding post
  posting w t us f k = on-bind P _ f (on-need P _ _ _ full (λ _. on-need P _ _ _ clash (λ _. tt))) (λ v _. k v)

  jumps-refuses : (c : Condition) (vs : List Value) → Refuses P (jumps c vs)
  unfolding jumps
  jumps-refuses Always vs = tt
  jumps-refuses IfZero vs = popped vs _ (λ p. int p.top _ (λ _. tt))
  jumps-refuses IfLess vs = popped vs _ (λ p. popped p.more _ (λ q. int p.top _ (λ b. int q.top _ (λ a. tt))))

  receiver : {B : Type 0} (w : Base) (os : Objects) (e : ℕ) (v : Value) (f : record { number : ℕ; object : Object } → Result B) → ((o : record { number : ℕ; object : Object }) → Refuses P (f o)) → Refuses P (object! w os e v >>= f)
  receiver w os e v f k = on-bind P (object! w os e v) f (object-refuses w os e v) (λ o _. k o)

  module _ (task : ℕ) (w : World) (os : Objects) (f : Frame) (fs : List Frame) (k : Class) (i : Decoded) where
    pub execute-refuses : (j : Instruction) → ((c : ℕ) → class_in j ≡ some c → find w.base.cache (at k.loader c) ≡ none → P (wanted (at k.loader c))) → Refuses P (execute task w os f fs k i j)
    unfolding execute
    execute-refuses AconstNull h = room _ _ (λ _. tt)
    execute-refuses (Sipush n) h = room _ _ (λ _. tt)
    execute-refuses (Load kind j) h = room _ _ (λ _. local _ _ (λ v. of-kind kind v _ (λ _. tt)))
    execute-refuses (Store kind j) h = popped _ _ (λ p. of-kind kind p.top _ (λ _. local _ _ (λ _. tt)))
    execute-refuses Pop h = popped _ _ (λ _. tt)
    execute-refuses Dup h = room _ _ (λ _. popped _ _ (λ _. tt))
    execute-refuses (Arithmetic o) h = popped _ _ (λ p. popped _ _ (λ q. int p.top _ (λ b. int q.top _ (λ a.
        on-bind P (compute o a b) _ (compute-refuses o a b) (λ _ _. tt)))))
    execute-refuses (Getfield c n t) h =
        on-take P _ _ _ (h c refl) (λ e _. on-take P _ _ _ (λ _. absent) (λ d _. posting w true _ _ (λ _. popped _ _ (λ p. receiver w.base os e p.top _ (λ _.
        local _ _ (λ _. local _ _ (λ _. tt)))))))
    execute-refuses (Putfield c n t) h =
        on-take P _ _ _ (h c refl) (λ e _. on-take P _ _ _ (λ _. absent) (λ d _. posting w true _ _ (λ _. popped _ _ (λ p. popped _ _ (λ q.
        on-bind P (kind! t p.top) _ (kind-refuses t p.top) (λ _ _. receiver w.base os e q.top _ (λ _. local _ _ (λ _. tt))))))))
    execute-refuses (Invokevirtual c s) h =
        on-take P _ _ _ (h c refl) (λ e _. on-take P _ _ _ (λ _. absent) (λ d _. posting w (ltb (suc (length fs)) 32) _ _ (λ _. all-popped _ _ _ (λ p. popped _ _ (λ q.
        on-bind P (kinds! (argument_types s) p.all) _ (kinds-refuses (argument_types s) p.all) (λ _ _. receiver w.base os e q.top _ (λ _. local _ _ (λ _. tt))))))))
    execute-refuses (New c) h = on-take P _ _ _ (h c refl) (λ e _. on-need P _ _ _ share (λ _. on-need P _ _ _ full (λ _. tt)))
    execute-refuses (Branch c p) h = on-bind P (jumps c f.operands) _ (jumps-refuses c f.operands) (λ _ _. tt)
    execute-refuses (Return kind) h = under fs _ (λ _. popped _ _ (λ p. of-kind kind p.top _ (λ _. give-refuses fs w os p.top)))

  -- what the frame whose turn it is needs: at its point an instruction that names class c
  pub step-refuses : (task : ℕ) (w : World) (os : Objects) (f : Frame) (fs : List Frame)
      → ((n : Now) (c : ℕ) → now w f ≡ ok n → class_in n.at.instruction ≡ some c → find w.base.cache (at n.the_class.loader c) ≡ none → P (wanted (at n.the_class.loader c)))
      → Refuses P (step task w os f fs)
  unfolding step now
  step-refuses task w os f fs h =
      on-bind P (now w f) _ (local _ _ (λ _. local _ _ (λ _. local _ _ (λ _. tt))))
      (λ n e. execute-refuses task w os f fs n.the_class n.at n.at.instruction (λ c. h n c e))

-- The calls

-- the frames of the task whose turn it is
abbrev pub running : List Frame → List Frame → List Frame
running [] gs = gs
running (f ∷ fs) gs = f ∷ fs

-- the instruction whose turn it is names class n, and stands in a class of loader l
pub record StepNeeds (r : Rows) (l n : ℕ) : Type 0 where
  pub frame : Frame
  pub others : List Frame
  pub turn : running r.quote r.report ≡ frame ∷ others
  pub reads : Now
  pub is_now : now (world_of r) frame ≡ ok reads
  pub names : class_in reads.at.instruction ≡ some n
  pub loader : reads.the_class.loader ≡ l

-- the one request that a call needs: a definition its superclass, tried or not, a start its class, a step the class that its instruction names

abbrev pub LoadNeeds : Offer → ℕ → ℕ → Type 0
LoadNeeds (load_define k bs) l n = (f : File) × (read_file bs ≡ some f) × (l ≡ k) × (n ≡ f.super)
LoadNeeds (load_record k x c) l n = ⊥

abbrev pub RowNeeds : RowCall → Rows → ℕ → ℕ → Type 0
RowNeeds (row_define k bs) r l n = LoadNeeds (load_define k bs) l n
RowNeeds (row_record k x c) r l n = LoadNeeds (load_record k x c) l n
RowNeeds (row_start j k x m v) r l n = (l ≡ k) × (n ≡ x)
RowNeeds (row_drop j) r l n = ⊥
RowNeeds row_sweep r l n = ⊥
RowNeeds (row_try c k) r l n = LoadNeeds c l n
RowNeeds row_take_back r l n = ⊥

abbrev pub Needs : Call → Rows → ℕ → ℕ → Type 0
Needs call_boot r l n = ⊥
Needs (call_rows c) r l n = RowNeeds c r l n
Needs call_step r l n = StepNeeds r l n
Needs (call_run k) r l n = ⊥

abbrev pub Due : Call → Rows → Refusal → Type 0
Due c r (Wanted l n) = (any (eqb 5) (refusals_of c) ≡ true) × Needs c r l n × (find r.cache (at l n) ≡ none)
Due c r (Word n) = any (eqb n) (refusals_of c) ≡ true

pub due-listed : (c : Call) (r : Rows) (w : Refusal) → Due c r w → any (eqb (number w)) (refusals_of c) ≡ true
unfolding number
due-listed c r (Wanted l n) d = d.0
due-listed c r (Word n) d = d

pub step-due : (r : Rows) → Refuses (Due call_step r) (step_rows r)
unfolding step_rows refusals_of step_refusals any
step-due r = go r.quote r.report (λ f fs e. e)
  where
    P : Refusal → Type 0
    P = Due call_step r

    task : (k : ℕ) (f : Frame) (fs : List Frame) → running r.quote r.report ≡ f ∷ fs → Refuses P (step_task k (world_of r) f fs r)
    task k f fs q = unfold step_task in on-bind P (step k (world_of r) r.objects f fs) _
        (step-refuses P refl refl refl refl refl refl refl k (world_of r) r.objects f fs (λ n c e i m. (refl, record { frame = f; others = fs; turn = q; reads = n; is_now = e; names = i; loader = refl }, m))) (λ _ _. tt)

    go : (q p : List Frame) → ((f : Frame) (fs : List Frame) → running q p ≡ f ∷ fs → running r.quote r.report ≡ f ∷ fs) → Refuses P (step_on q p (world_of r) r)
    go (f ∷ fs) p s = unfold step_on in task 0 f fs (s f fs refl)
    go [] (f ∷ fs) s = unfold step_on in task 1 f fs (s f fs refl)
    go [] [] s = unfold step_on in tt

define-due : (l : ℕ) (bs : List ℕ) (r : Rows) → Refuses (Due (call_define l bs) r) (define_rows l bs r)
unfolding define_rows define refusals_of row_refusals load_refusals any
define-due l bs r =
    let P : Refusal → Type 0 = Due (call_define l bs) r in
    on-need P _ _ _ refl (λ _. on-take P _ _ _ (λ _. refl) (λ f e. on-bind P _ _
    (on-need P _ _ _ refl (λ _. on-take P _ _ _ (λ _. refl) (λ _ _. on-need P _ _ _ refl (λ _. on-take P _ _ _ (λ m. (refl, (f, e, refl, refl), m)) (λ _ _.
    on-need P _ _ _ refl (λ _. on-need P _ _ _ refl (λ _. tt))))))) (λ _ _. tt)))

record-due : (l n c : ℕ) (r : Rows) → Refuses (Due (call_record l n c) r) (record_rows l n c r)
unfolding record_rows recorded refusals_of row_refusals load_refusals any
record-due l n c r =
    on-bind P _ _ (on-need P _ _ _ refl (λ _. on-take P _ _ _ (λ _. refl) (λ _ _. on-need P _ _ _ refl (λ _. go (find r.cache (at l n)))))) (λ _ _. tt)
  where
    P : Refusal → Type 0
    P = Due (call_record l n c) r

    go : (o : Option ℕ) → Refuses {A = World} P (elim o as (λ _. Result World) [
      | some d ↦ need (eqb d c) (Word 4) >>= λ _. ok (world_of r)
      | none ↦ need (ltb (length r.cache) 256) (Word 10) >>= λ _. need (agrees (with_entry (world_of r) (at l n) c)) (Word 9) >>= λ _. ok (with_entry (world_of r) (at l n) c)
    ])
    go none = on-need P _ _ _ refl (λ _. on-need P _ _ _ refl (λ _. tt))
    go (some d) = on-need P _ _ _ refl (λ _. tt)

start-due : (k l n m v : ℕ) (r : Rows) → Refuses (Due (call_start k l n m v) r) (start_rows k l n m v r)
unfolding start_rows started refusals_of row_refusals any
start-due k l n m v r =
    let P : Refusal → Type 0 = Due (call_start k l n m v) r in
    on-need P _ _ _ refl (λ _. on-bind P _ _
    (on-need P _ _ _ refl (λ _. on-need P _ _ _ refl (λ _. on-take P _ _ _ (λ e. (refl, (refl, refl), e)) (λ _ _.
    on-take P _ _ _ (λ _. refl) (λ _ _. on-need P _ _ _ refl (λ _. on-need P _ _ _ refl (λ _. tt))))))) (λ _ _. tt))

drop-due : (k : ℕ) (r : Rows) → Refuses (Due (call_drop k) r) (drop_rows k r)
unfolding drop_rows refusals_of row_refusals any
drop-due k r = on-need (Due (call_drop k) r) _ _ _ refl (λ _. tt)

back-due : (ls : List Level) (r : Rows) → Refuses (Due call_take_back r) (taken_back ls r)
unfolding taken_back refusals_of row_refusals any
back-due [] r = refl
back-due (l ∷ ls) r = tt

-- A tried load's are the load's, and 16

-- the load itself
pub load-rows : (c : Offer) → on_row_call (load_call c) ≡ load_rows c
load-rows (load_define l bs) = refl
load-rows (load_record l n c) = refl

-- what a call on rows gives, with the rows as they were
abbrev pub unmoved : Rows → Result (Given Reply) → Result (Given Reply)
unmoved r (refused w) = refused w
unmoved r (ok g) = ok (record { answer = g.answer; rows = r })

-- a try gives what the load does, with the rows as they were, or 16
pub try-either : (P : Result (Given Reply) → Type 0) (c : Offer) (n : ℕ) (r : Rows) → P (refused (Word 16)) → P (unmoved r (load_rows c r)) → P (try_rows c n r)
unfolding try_rows tried_with
try-either P c n r short h = go (load_rows c r) h
  where
    by : (b : Bool) (o : Result (Given Reply)) → P o → P (elim b as (λ _. Result (Given Reply)) [ true ↦ refused (Word 16) | false ↦ o ])
    by true o h = short
    by false o h = h

    go : (o : Result (Given Reply)) → P (unmoved r o) → P (tried_with n r o)
    go (ok g) h = by (ltb n 512) (unmoved r (ok g)) h
    go (refused w) h = by (ltb n 512 && not (eqb (number w) 3)) (refused w) h

-- a word of the load's is one of the try's
any-further : (n : ℕ) (ws : List ℕ) → any (eqb n) (1 ∷ 3 ∷ ws) ≡ true → any (eqb n) (1 ∷ 3 ∷ 16 ∷ ws) ≡ true
unfolding any
any-further n ws h = go (eqb n 1) (eqb n 3) (eqb n 16) h
  where
    go : (a b c : Bool) → ◌≡◌ {A = Bool} (elim a as (λ _. Bool) [ true ↦ true | false ↦ elim b as (λ _. Bool) [ true ↦ true | false ↦ any (eqb n) ws ] ]) true
        → ◌≡◌ {A = Bool} (elim a as (λ _. Bool) [ true ↦ true | false ↦ elim b as (λ _. Bool) [ true ↦ true | false ↦ elim c as (λ _. Bool) [ true ↦ true | false ↦ any (eqb n) ws ] ] ]) true
    go true b c h = refl
    go false true c h = refl
    go false false true h = refl
    go false false false h = h

due-tried : (c : Offer) (n : ℕ) (r : Rows) (w : Refusal) → Due (call_rows (load_call c)) r w → Due (call_try c n) r w
unfolding refusals_of row_refusals
due-tried (load_define l bs) n r (Wanted k m) d = (any-further 5 _ d.0, d.1, d.2)
due-tried (load_record l x c) n r (Wanted k m) d = absurd d.1
due-tried (load_define l bs) n r (Word m) d = any-further m _ d
due-tried (load_record l x c) n r (Word m) d = any-further m _ d

load-due : (c : Offer) (r : Rows) → Refuses (Due (call_rows (load_call c)) r) (load_rows c r)
load-due (load_define l bs) r = define-due l bs r
load-due (load_record l n c) r = record-due l n c r

try-due : (c : Offer) (n : ℕ) (r : Rows) → Refuses (Due (call_try c n) r) (try_rows c n r)
unfolding refusals_of row_refusals any
try-due c n r = try-either (Refuses (Due (call_try c n) r)) c n r refl (go (load_rows c r) (load-due c r))
  where
    go : (o : Result (Given Reply)) → Refuses (Due (call_rows (load_call c)) r) o → Refuses (Due (call_try c n) r) (unmoved r o)
    go (refused w) h = due-tried c n r w h
    go (ok g) h = tt

pub rows-due : (c : RowCall) (r : Rows) → Refuses (Due (call_rows c) r) (on_row_call c r)
rows-due (row_define l bs) r = define-due l bs r
rows-due (row_record l n c) r = record-due l n c r
rows-due (row_start k l n m v) r = start-due k l n m v r
rows-due (row_drop k) r = drop-due k r
rows-due row_sweep r = unfold sweep_rows in tt
rows-due (row_try c n) r = try-due c n r
rows-due row_take_back r = back-due r.trace r
