-- A step keeps counts, numbers and kinds within what a store allows.
use Rattle.std.specs.Prelude.{◌≡◌, refl, Bool, true, not, ◌||◌, ℕ, zero, suc, ◌+◌, ◌≤◌, ◌<◌, length, eqb, leb, ltb}
use Rattle.std.proofs.Math.Path.{sym}
use Rattle.std.proofs.Common.{ap, ◌∙◌, arith}
use Rattle.std.proofs.Math.Bool.{false}
use Rattle.std.proofs.Math.Option.{Option, none, some, none-ne-some, some-injective}
use mathlib.Core.List.{List, [], ◌∷◌, ◌++◌, map, append-nil}
use Rattle.std.proofs.Math.ListN.{get_elem?, set, length-set}
use Rattle.std.proofs.lemmas.List.{length-map}
use borrow.Author.Tests.{leb-true, leb-false, ltb-true, ltb-false, not-true}
use Rattle.definition.specs.declared.Signature.{Signature}
use Rattle.definition.specs.Answers.{Result, ok, refused, take?}
use Rattle.definition.specs.Classes.{Base, Class, Slot, find, super_of, loader_of, slots, Selected, selected, signature_types}
use Rattle.definition.specs.Constraints.{Tie, World, new_tie, post, posted, tie_is, new_ties, signature_ties}
use Rattle.definition.specs.Instructions.{Decoded, pick}
use Rattle.definition.specs.Lists.{any}
use Rattle.definition.specs.Maybe as Maybe
use Rattle.definition.specs.Superclasses.{below}
use Rattle.definition.specs.Machine.{Frame, Now, Object, ObjectRow, free, owned, Objects, object_held, Exists, unused, made, roomless, rewritten, changed, Progress, Value, entry_frame, execute, give, initial_value, int!, int_value, jumps, new_object, now, null_value, object!, object_value, of_kind!, past, pop!, pop_all!, reference!, room!, step, under!, empty_value, unlisted_value, existing, made_by}
use Rattle.definition.specs.Requests.{Request, at}
use Rattle.definition.specs.Verifier.{pop, pop_all}
use Rattle.definition.specs.declared.Kind.{Kind}
use Rattle.definition.specs.declared.Kind.TheVariants.{IntKind, ReferenceKind}
use Rattle.definition.specs.declared.Instruction.{Instruction}
use Rattle.definition.specs.declared.Condition.{Condition}
use Rattle.definition.specs.declared.Condition.TheVariants.{Always, IfZero, IfLess}
use Rattle.definition.specs.declared.Instruction.TheVariants.{AconstNull, Arithmetic, Branch, Dup, Getfield, Invokevirtual, Load, New, Pop, Putfield, Return, Sipush, Store}
use Rattle.definition.specs.declared.Refusal.{Refusal}
use Rattle.laws.specs.Arguments.{PoppedAll, filled-length}
use Rattle.laws.specs.Options.{bind-some}
use Rattle.laws.specs.Growth.{nth-lt}
use Rattle.laws.specs.Objects.{existing-none, existing-tail, made-there, made-exists, changed-exists, share-made, changed-made}
use Rattle.laws.specs.Results.{bind_ok, need-ok, ok-inj, take-ok}
use Rattle.laws.specs.Stable.{Rooted}
use Rattle.laws.specs.Tests.{and-true}
use Rattle.layout.specs.Tests.{All, all_both, all_more, all-filled}
use Rattle.layout.specs.OwnedRows.{rows_with, made-count, changed-length}
use Rattle.layout.specs.Whole.{Between, Framed, Local, ObjectSound, RowSound, ValueSound}
use Rattle.laws.specs.Wrapped.{Ok, then}
use Rattle.laws.specs.Members.{selected-at}

-- what holds of a value, if there is one
never : {A : Type 0} {B : Type 0} (w : Refusal) (a : A) → Path (Result A) (refused w) (ok a) → B
never w a e = absurd (let z : ◌≡◌ {A = ℕ} 0 1 = cc in omega arith)

-- Values

value-local : (X : ℕ → Type 0) (v : Value) → ValueSound X v → Local X v
value-local X empty_value h = tt
value-local X (unlisted_value α β) h = absurd h
value-local X (int_value n) h = tt
value-local X null_value h = tt
value-local X (object_value o) h = h

grow-value : (X Y : ℕ → Type 0) → ((o : ℕ) → X o → Y o) → (v : Value) → ValueSound X v → ValueSound Y v
grow-value X Y l empty_value h = h
grow-value X Y l (unlisted_value α β) h = h
grow-value X Y l (int_value n) h = h
grow-value X Y l null_value h = h
grow-value X Y l (object_value o) h = l o h

grow-local : (X Y : ℕ → Type 0) → ((o : ℕ) → X o → Y o) → (v : Value) → Local X v → Local Y v
grow-local X Y l empty_value h = h
grow-local X Y l (unlisted_value α β) h = h
grow-local X Y l (int_value n) h = h
grow-local X Y l null_value h = h
grow-local X Y l (object_value o) h = l o h

int-value : (X : ℕ → Type 0) (v : Value) (n : ℕ) → int! v ≡ ok n → ValueSound X v
unfolding int!
int-value X empty_value n e = never _ _ e
int-value X (unlisted_value α β) n e = never _ _ e
int-value X (int_value x) n e = tt
int-value X null_value n e = tt
int-value X (object_value o) n e = never _ _ e

ref_value : (X : ℕ → Type 0) (v x : Value) → reference! v ≡ ok x → Local X v → ValueSound X v
unfolding reference!
ref_value X empty_value x e h = never _ _ e
ref_value X (unlisted_value α β) x e h = never _ _ e
ref_value X (int_value n) x e h = tt
ref_value X null_value x e h = tt
ref_value X (object_value o) x e h = h

kind-value : (kind : Kind) (X : ℕ → Type 0) (v : Value) (u : Unit {0}) → of_kind! kind v ≡ ok u → Local X v → ValueSound X v
unfolding of_kind!
kind-value IntKind X v u e h = let a = bind_ok _ _ e in int-value X v a.0 a.1
kind-value ReferenceKind X v u e h = let a = bind_ok _ _ e in ref_value X v a.0 a.1 h

pub all-nth : {A : Type 0} (P : A → Type 0) (xs : List A) → All P xs → (i : ℕ) (x : A) → get_elem? xs i ≡ some x → P x
all-nth P [] h i x e = absurd (none-ne-some x e)
all-nth P (y ∷ xs) h zero x e = rw (some-injective y x e) at h.0
all-nth P (y ∷ xs) h (suc i) x e = all-nth P xs h.1 i x e

pub all_set : {A : Type 0} (P : A → Type 0) (xs : List A) → All P xs → (i : ℕ) (y : A) → P y → All P (set xs i y)
all_set P [] h i y p = tt
all_set P (x ∷ xs) h zero y p = (p, h.1)
all_set P (x ∷ xs) h (suc i) y p = (h.0, all_set P xs h.1 i y p)

record Popped (X : ℕ → Type 0) (vs : List Value) (p : record { top : Value; more : List Value }) : Type 0 where
  top : ValueSound X p.top
  more : All (ValueSound X) p.more
  less : suc (length p.more) ≡ length vs

pop-all : (X : ℕ → Type 0) (vs : List Value) (p : record { top : Value; more : List Value }) → All (ValueSound X) vs → pop! vs ≡ ok p → Popped X vs p
unfolding pop! pop take?
pop-all X [] p h e = never _ _ e
pop-all X (v ∷ vs) p h e = rw (sym (ok-inj e)) (record { top = h.0; more = h.1; less = refl })

-- the arguments of a call, and what is left
record PoppedArguments (X : ℕ → Type 0) (vs : List Value) (p : PoppedAll Value) : Type 0 where
  all : All (ValueSound X) p.all
  more : All (ValueSound X) p.more
  less : length p.more ≤ length vs

pops_all : (X : ℕ → Type 0) (n : ℕ) (vs : List Value) (p : PoppedAll Value) → All (ValueSound X) vs → pop_all n vs ≡ some p → PoppedArguments X vs p
unfolding pop_all pop Maybe.◌>>=◌
pops_all X zero vs p h e = rw (sym (some-injective _ _ e)) (record { all = tt; more = h; less = omega arith })
pops_all X (suc n) [] p h e = absurd (none-ne-some p e)
pops_all X (suc n) (v ∷ vs) p h e =
    let b = bind-some _ _ e in
    let i = pops_all X n vs b.0 h.1 b.1 in
    rw (sym (some-injective _ _ b.2)) (record { all = all_both (ValueSound X) b.0.all (v ∷ []) i.all (h.0, tt); more = i.more; less = omega (arith, i.less) })

arguments-all : (X : ℕ → Type 0) (n : ℕ) (vs : List Value) (p : PoppedAll Value) → All (ValueSound X) vs → pop_all! n vs ≡ ok p → PoppedArguments X vs p
unfolding pop_all!
arguments-all X n vs p h e = pops_all X n vs p h (take-ok _ _ e)

-- A branch leaves operands that were there, fewer unless it is a goto, which jumps

jumps-left : (X : ℕ → Type 0) (c : Condition) (vs : List Value) (j : record { taken : Bool; more : List Value }) → All (ValueSound X) vs → jumps c vs ≡ ok j
    → All (ValueSound X) j.more × (length j.more ≤ length vs)
unfolding jumps
jumps-left X Always vs j h e = rw (sym (ok-inj e)) (h, omega arith)
jumps-left X IfZero vs j h e =
    let a = bind_ok _ _ e in
    let b = bind_ok _ _ a.2 in
    let p = pop-all X vs a.0 h a.1 in
    rw (sym (ok-inj b.2)) (p.more, omega (arith, p.less))
jumps-left X IfLess vs j h e =
    let a = bind_ok _ _ e in
    let b = bind_ok _ _ a.2 in
    let c = bind_ok _ _ b.2 in
    let d = bind_ok _ _ c.2 in
    let p = pop-all X vs a.0 h a.1 in
    let q = pop-all X a.0.more b.0 p.more b.1 in
    rw (sym (ok-inj d.2)) (q.more, omega (arith, p.less, q.less))

pub pop-is : (vs : List Value) (p : record { top : Value; more : List Value }) → pop! vs ≡ ok p → vs ≡ p.top ∷ p.more
unfolding pop! pop take?
pop-is [] p e = never _ _ e
pop-is (v ∷ vs) p e = rw (sym (ok-inj e)) refl

pop-less : (vs : List Value) (p : record { top : Value; more : List Value }) → pop! vs ≡ ok p → suc (length p.more) ≡ length vs
pop-less vs p e = ap length (sym (pop-is vs p e))

pub jumps-same : (c : Condition) (vs : List Value) (j : record { taken : Bool; more : List Value }) → jumps c vs ≡ ok j → length j.more ≡ length vs → (c ≡ Always) × (j.taken ≡ true)
unfolding jumps
jumps-same Always vs j e q = rw (sym (ok-inj e)) (refl, refl)
jumps-same IfZero vs j e q =
    let a = bind_ok _ _ e in
    let b = bind_ok _ _ a.2 in
    let z : length a.0.more ≡ length vs = ap (λ (x : record { taken : Bool; more : List Value }). length x.more) (ok-inj b.2) ∙ q in
    absurd (omega (arith, pop-less vs a.0 a.1, z))
jumps-same IfLess vs j e q =
    let a = bind_ok _ _ e in
    let b = bind_ok _ _ a.2 in
    let c = bind_ok _ _ b.2 in
    let d = bind_ok _ _ c.2 in
    let z : length b.0.more ≡ length vs = ap (λ (x : record { taken : Bool; more : List Value }). length x.more) (ok-inj d.2) ∙ q in
    absurd (omega (arith, pop-less vs a.0 a.1, pop-less a.0.more b.0 b.1, z))

-- a receiver: an object that exists, of a class that is e or below it
pub receiver-is : (b : Base) (os : Objects) (e : ℕ) (v : Value) (p : record { number : ℕ; object : Object }) → object! b os e v ≡ ok p
    → (v ≡ object_value p.number) × (existing os p.number ≡ some p.object) × (below (super_of b) p.object.class e ≡ true)
unfolding object!
receiver-is b os e empty_value p h = never _ _ h
receiver-is b os e (unlisted_value α β) p h = never _ _ h
receiver-is b os e (int_value n) p h = never _ _ h
receiver-is b os e null_value p h = never _ _ h
receiver-is b os e (object_value o) p h =
    let x = bind_ok _ _ h in
    let y = bind_ok _ _ x.2 in
    rw (sym (ok-inj y.2)) (refl, take-ok _ _ x.1, need-ok _ _ y.1)

pub object-is : (b : Base) (os : Objects) (e : ℕ) (v : Value) (p : record { number : ℕ; object : Object }) → object! b os e v ≡ ok p → existing os p.number ≡ some p.object
object-is b os e v p h = (receiver-is b os e v p h).1

-- Ties

pub loader-small : (b : Base) → ((c : ℕ) (k : Class) → get_elem? b.classes c ≡ some k → k.loader < 16) → (c : ℕ) → loader_of b c < 16
unfolding loader_of
loader-small b h c = go (get_elem? b.classes c) refl
  where
    go : (o : Option Class) → get_elem? b.classes c ≡ o → (elim o as (λ _. ℕ) [ none ↦ 0 | some k ↦ k.loader ]) < 16
    go none e = omega arith
    go (some k) e = h c k e

pub new-between : (ts : List Tie) (l m n : ℕ) → l < 16 → m < 16 → All Between (new_tie ts l m n)
unfolding new_tie
new-between ts l m n a b = go (eqb l m || eqb n 1 || any (tie_is l m n) ts)
  where
    go : (z : Bool) → All Between (elim z as (λ _. List Tie) [ true ↦ [] | false ↦ record { one = l; two = m; name = n } ∷ [] ])
    go true = tt
    go false = (record { one = a; two = b }, tt)

pub news-between : (ts : List Tie) (l m : ℕ) (ns : List ℕ) → l < 16 → m < 16 → All Between (new_ties ts l m ns)
unfolding new_ties
news-between ts l m [] a b = tt
news-between ts l m (n ∷ ns) a b = all_both Between (new_tie ts l m n) _ (new-between ts l m n a b) (news-between (ts ++ new_tie ts l m n) l m ns a b)

post_is : (w : World) (room : Bool) (us : List Tie) (v : World) → post w room us ≡ ok v → (posted w us ≡ v) × (length (w.ties ++ us) ≤ 256) × (room ≡ true)
unfolding post
post_is w room us v e =
    let a = bind_ok _ _ e in
    let b = bind_ok _ _ a.2 in
    let c = and-true (leb (length (w.ties ++ us)) 256) room (need-ok _ _ a.1) in
    (ok-inj b.2, leb-true (length (w.ties ++ us)) 256 c.0, c.1)

pub room-lt : (vs : List Value) (u : Unit {0}) → room! vs ≡ ok u → length vs < 16
unfolding room!
room-lt vs u e = ltb-true (length vs) 16 (need-ok _ _ e)

-- What a world, its objects and a task's frames are, and what they become

pub record Ready (w : World) (n : ℕ) (os : Objects) : Type 0 where
  pub number : length w.base.classes ≡ n
  pub rooted : Rooted w.base
  pub loaders : (c : ℕ) (k : Class) → get_elem? w.base.classes c ≡ some k → k.loader < 16
  pub ties : length w.ties ≤ 256
  pub between : All Between w.ties
  pub objects : length os ≤ 256
  pub each : All (RowSound w.base n (Exists os)) os
  pub share : made_by 1 os ≤ 192

pub record Moved (w : World) (n : ℕ) (os : Objects) (o : Progress) : Type 0 where
  pub base : o.world.base ≡ w.base
  pub subtypes : o.world.subtypes ≡ w.subtypes
  pub ties : length o.world.ties ≤ 256
  pub fresh : List Tie
  pub behind : o.world.ties ≡ w.ties ++ fresh
  pub between : All Between o.world.ties
  pub more : (p : ℕ) → Exists os p → Exists o.objects p
  pub objects : length o.objects ≤ 256
  pub each : All (RowSound w.base n (Exists o.objects)) o.objects
  pub share : made_by 1 o.objects ≤ 192
  pub many : length o.frames ≤ 32
  pub frames : All (Framed n (Exists o.objects)) o.frames

pub grow-object : (b : Base) (n : ℕ) (X Y : ℕ → Type 0) → ((o : ℕ) → X o → Y o) → (o : Object) → ObjectSound b n X o → ObjectSound b n Y o
grow-object b n X Y l o h = record { class = h.class; size = h.size; values = all_more (grow-value X Y l) o.values h.values }

pub grow-row : (b : Base) (n : ℕ) (X Y : ℕ → Type 0) → ((o : ℕ) → X o → Y o) → (x : ObjectRow) → RowSound b n X x → RowSound b n Y x
grow-row b n X Y l free h = tt
grow-row b n X Y l (owned k o) h = (h.0, grow-object b n X Y l o h.1)

pub grow-frame : (n : ℕ) (X Y : ℕ → Type 0) → ((o : ℕ) → X o → Y o) → (f : Frame) → Framed n X f → Framed n Y f
grow-frame n X Y l f h = record { class = h.class; depth = h.depth; operands = all_more (grow-value X Y l) f.operands h.operands; eight = h.eight; locals = all_more (grow-local X Y l) f.locals h.locals }

zeros : (X : ℕ → Type 0) (ss : List Slot) → All (ValueSound X) (map initial_value ss)
unfolding initial_value
zeros X [] = tt
zeros X (s ∷ ss) = (go (eqb s.type 1), zeros X ss)
  where
    go : (t : Bool) → ValueSound X (elim t as (λ _. Value) [ true ↦ int_value 0 | false ↦ null_value ])
    go true = tt
    go false = tt

pub fresh-object : (b : Base) (n : ℕ) (X : ℕ → Type 0) (c : ℕ) → c < n → ObjectSound b n X (new_object b c)
unfolding new_object
fresh-object b n X c l = record { class = l; size = length-map (slots b c) initial_value; values = zeros X (slots b c) }

-- Rows of objects: one that exists, one made, one changed

pub object-at : (b : Base) (n : ℕ) (X : ℕ → Type 0) (os : Objects) → All (RowSound b n X) os → (o : ℕ) (x : Object) → existing os o ≡ some x → ObjectSound b n X x
object-at b n X [] h o x e = absurd (none-ne-some x (sym (existing-none o) ∙ e))
object-at b n X (free ∷ os) h zero x e = absurd (none-ne-some x (unfold existing object_held in e))
object-at b n X (owned k y ∷ os) h zero x e = let q : y ≡ x = some-injective y x (unfold existing object_held in e) in rw q at h.0.1
object-at b n X (y ∷ os) h (suc o) x e = object-at b n X os h.1 o x (sym (existing-tail y os o) ∙ e)

all_made : (b : Base) (n : ℕ) (X : ℕ → Type 0) (k : ℕ) (x : Object) (os : Objects) → k < 2 → ObjectSound b n X x → All (RowSound b n X) os → All (RowSound b n X) (made k x os)
unfolding made
all_made b n X k x [] l s h = ((l, s), tt)
all_made b n X k x (free ∷ os) l s h = ((l, s), h.1)
all_made b n X k x (owned j y ∷ os) l s h = (h.0, all_made b n X k x os l s h.1)

all_changed : (b : Base) (n : ℕ) (X : ℕ → Type 0) (os : Objects) (o : ℕ) (x : Object) → ObjectSound b n X x → All (RowSound b n X) os → All (RowSound b n X) (changed os o x)
unfolding changed
all_changed b n X os o x s h = go (get_elem? os o) refl
  where
    put : (y : ObjectRow) → RowSound b n X y → RowSound b n X (rewritten x y)
    put free p = unfold rewritten in tt
    put (owned k y) p = unfold rewritten in (p.0, s)

    go : (y : Option ObjectRow) → get_elem? os o ≡ y → All (RowSound b n X) (elim y as (λ _. Objects) [ none ↦ os | some z ↦ set os o (rewritten x z) ])
    go none e = h
    go (some z) e = all_set (RowSound b n X) os h o (rewritten x z) (put z (all-nth (RowSound b n X) os h o z e))

-- one object more
pub made-objects : (b : Base) (n k : ℕ) (os : Objects) (c : ℕ) → k < 2 → c < n → All (RowSound b n (Exists os)) os
    → All (RowSound b n (Exists (made k (new_object b c) os))) (made k (new_object b c) os)
made-objects b n k os c t l h =
    let x = new_object b c in
    all_made b n (Exists (made k x os)) k x os t (fresh-object b n _ c l)
    (all_more (grow-row b n (Exists os) (Exists (made k x os)) (made-exists k x os)) os h)

-- within the limit, where there is room
pub made-few : (k : ℕ) (x : Object) (os : Objects) → length os ≤ 256 → not (roomless k os) ≡ true → length (made k x os) ≤ 256
unfolding roomless rows_with
made-few k x os l h = rw (made-count k x os (length os) refl) (go (ltb (unused os) (length os)) refl)
  where
    few : unused os < 256
    few = leb-false 256 (unused os) (not-true (leb 256 (unused os)) h)

    go : (u : Bool) → ltb (unused os) (length os) ≡ u → pick u (length os) (length os + 1) ≤ 256
    go true e = unfold pick in l
    go false e = unfold pick in omega (arith, few, ltb-false (unused os) (length os) e)

pub entered_frame : (n : ℕ) (X : ℕ → Type 0) (s j o : ℕ) (vs : List Value) → s < n → X o → All (Local X) vs → Framed n X (entry_frame s j o vs)
entered_frame n X s j o vs a b c = record { class = a; depth = omega arith; operands = tt; eight = filled-length 8 empty_value (object_value o ∷ vs); locals = all-filled (Local X) 8 empty_value (object_value o ∷ vs) tt (b, c) }

module _ (w : World) (n : ℕ) (os : Objects) (rd : Ready w n os) where
  pub class-found : (r : Request) (c : ℕ) → find w.base.cache r ≡ some c → c < n
  class-found r c e = let k = rd.rooted.real r c e in omega (arith, nth-lt w.base.classes c k.0 k.1, rd.number)

  pub class-selected : (s : Signature) (c : ℕ) (m : Selected) → selected w.base s c ≡ some m → m.class < n
  class-selected s c m e =
      let a = (selected-at w.base s c m e).there in
      omega (arith, nth-lt w.base.classes m.class a.the_class a.is_class, rd.number)

  module _ (task : ℕ) (two : task < 2) (f : Frame) (fs : List Frame) (k : Class) (i : Decoded) (kl : k.loader < 16) (fr : Framed n (Exists os) f) (frs : All (Framed n (Exists os)) fs) (fl : length fs ≤ 31) where
    abbrev M : ℕ → Type 0
    M = Exists os

    abbrev Q : Progress → Type 0
    Q o = Moved w n os o

    framed : (o l : List Value) → length o ≤ 16 → All (ValueSound M) o → length l ≡ 8 → All (Local M) l → Framed n M (past f i o l)
    framed o l a b c d = record { class = fr.class; depth = a; operands = b; eight = c; locals = d }

    -- nothing but frames changes
    stays : (gs : List Frame) (x : Option ℕ) → length gs ≤ 32 → All (Framed n M) gs → Moved w n os (record { world = w; objects = os; frames = gs; result = x })
    stays gs x a b = record { base = refl; subtypes = refl; ties = rd.ties; fresh = []; behind = sym (append-nil w.ties); between = rd.between; more = λ _ h. h; objects = rd.objects; each = rd.each; share = rd.share; many = a; frames = b }

    keeps : (o : List Value) → length o ≤ 16 → All (ValueSound M) o → Moved w n os (record { world = w; objects = os; frames = past f i o f.locals ∷ fs; result = none })
    keeps o a b = stays _ _ (omega arith) (framed o f.locals a b fr.eight fr.locals, frs)

    stores : (o : List Value) (j : ℕ) (v : Value) → length o ≤ 16 → All (ValueSound M) o → ValueSound M v → Moved w n os (record { world = w; objects = os; frames = past f i o (set f.locals j v) ∷ fs; result = none })
    stores o j v a b c = stays _ _ (omega arith) (framed o (set f.locals j v) a b (length-set f.locals j v ∙ fr.eight) (all_set (Local M) f.locals fr.locals j v (value-local M v c)), frs)

    -- ties are posted
    tied : (room : Bool) (us : List Tie) (v : World) (qs : Objects) (gs : List Frame) → post w room us ≡ ok v → All Between us → ((o : ℕ) → M o → Exists qs o) → length qs ≤ 256 → All (RowSound w.base n (Exists qs)) qs → made_by 1 qs ≤ 192
        → (room ≡ true → length gs ≤ 32) → All (Framed n (Exists qs)) gs → Moved w n os (record { world = v; objects = qs; frames = gs; result = none })
    tied room us v qs gs e a b c d x g h =
        let p = post_is w room us v e in
        rw (sym p.0) (record { base = refl; subtypes = refl; ties = p.1; fresh = us; behind = refl; between = all_both Between w.ties us rd.between a; more = b; objects = c; each = d; share = x; many = g p.2; frames = h })

    between : (d t : ℕ) → All Between (new_tie w.ties (loader_of w.base d) k.loader t)
    between d t = new-between _ _ _ t (loader-small w.base rd.loaders d) kl

    betweens : (d : ℕ) (s : Signature) → All Between (signature_ties w.ties (loader_of w.base d) k.loader s)
    unfolding signature_ties
    betweens d s = news-between _ _ _ (signature_types s) (loader-small w.base rd.loaders d) kl

    given : (more : List Value) (v : Value) (gs : List Frame) → All (Framed n M) gs → length gs ≤ 31 → (u : Unit {0}) → under! gs ≡ ok u → ValueSound M v → Ok (give gs w os v) Q
    unfolding give under!
    given more v [] a l u e h = then Q _ _ (λ _ _. stays [] _ (omega arith) tt)
    given more v (g ∷ gs) a l u e h = stays _ _ (omega arith)
        (record { class = a.0.class; depth = room-lt g.operands u e; operands = (h, a.0.operands); eight = a.0.eight; locals = a.0.locals }, a.1)

    each-kept : (j : Instruction) → Ok (execute task w os f fs k i j) Q
    unfolding execute
    each-kept AconstNull = then Q _ _ (λ u e. keeps (null_value ∷ f.operands) (room-lt f.operands u e) (tt, fr.operands))
    each-kept (Sipush x) = then Q _ _ (λ u e. keeps (int_value x ∷ f.operands) (room-lt f.operands u e) (tt, fr.operands))
    each-kept (Load kind j) = then Q _ _ (λ u e. then Q _ _ (λ v ev. then Q _ _ (λ x ex.
        keeps (v ∷ f.operands) (room-lt f.operands u e) (kind-value kind M v x ex (all-nth (Local M) f.locals fr.locals j v (take-ok _ _ ev)), fr.operands))))
    each-kept (Store kind j) = then Q _ _ (λ p ep. then Q _ _ (λ _ _. then Q _ _ (λ _ _. let q = pop-all M f.operands p fr.operands ep in stores p.more j p.top (omega (arith, q.less, fr.depth)) q.more q.top)))
    each-kept Pop = then Q _ _ (λ p ep. let q = pop-all M f.operands p fr.operands ep in keeps p.more (omega (arith, q.less, fr.depth)) q.more)
    each-kept Dup = then Q _ _ (λ u e. then Q _ _ (λ p ep. let q = pop-all M f.operands p fr.operands ep in keeps (p.top ∷ p.top ∷ p.more) (omega (arith, q.less, room-lt f.operands u e)) (q.top, (q.top, q.more))))
    each-kept (Arithmetic o) = then Q _ _ (λ p ep. then Q _ _ (λ q eq. then Q _ _ (λ _ _. then Q _ _ (λ _ _. then Q _ _ (λ m _.
        let x = pop-all M f.operands p fr.operands ep in let y = pop-all M p.more q x.more eq in keeps (int_value m ∷ q.more) (omega (arith, x.less, y.less, fr.depth)) (tt, y.more))))))
    each-kept (Getfield c x t) = then Q _ _ (λ e _. then Q _ _ (λ d _. then Q _ _ (λ v pv. then Q _ _ (λ p ep. then Q _ _ (λ o eo. then Q _ _ (λ j _. then Q _ _ (λ z ez.
        let q = pop-all M f.operands p fr.operands ep in
        let b = object-at w.base n M os rd.each o.number o.object (object-is w.base os e p.top o eo) in
        tied _ _ v os _ pv (between d t) (λ _ h. h) rd.objects rd.each rd.share (λ _. omega arith)
        (framed (z ∷ p.more) f.locals (omega (arith, q.less, fr.depth)) (all-nth (ValueSound M) o.object.values b.values j z (take-ok _ _ ez), q.more) fr.eight fr.locals, frs))))))))
    each-kept (Putfield c x t) = then Q _ _ (λ e _. then Q _ _ (λ d _. then Q _ _ (λ v pv. then Q _ _ (λ p ep. then Q _ _ (λ q eq. then Q _ _ (λ _ _. then Q _ _ (λ o eo. then Q _ _ (λ j _.
        let y = pop-all M f.operands p fr.operands ep in
        let z = pop-all M p.more q y.more eq in
        let b = object-at w.base n M os rd.each o.number o.object (object-is w.base os e q.top o eo) in
        let new : Object = record { class = o.object.class; values = set o.object.values j p.top } in
        let qs : Objects = changed os o.number new in
        let more : (p : ℕ) → M p → Exists qs p = changed-exists os o.number new in
        let sound : ObjectSound w.base n M new = record { class = b.class; size = length-set o.object.values j p.top ∙ b.size; values = all_set (ValueSound M) o.object.values b.values j p.top y.top } in
        tied _ _ v qs _ pv (between d t) more (omega (arith, changed-length os o.number new, rd.objects))
        (all_more (grow-row w.base n M (Exists qs) more) qs (all_changed w.base n M os o.number new sound rd.each))
        (omega (arith, changed-made 1 os o.number new, rd.share))
        (λ _. omega arith)
        (all_more (grow-frame n M (Exists qs) more) (past f i q.more f.locals ∷ fs) (framed q.more f.locals (omega (arith, y.less, z.less, fr.depth)) z.more fr.eight fr.locals, frs))))))))))
    each-kept (Invokevirtual c s) = then Q _ _ (λ e _. then Q _ _ (λ d _. then Q _ _ (λ v pv. then Q _ _ (λ p ep. then Q _ _ (λ q eq. then Q _ _ (λ _ _. then Q _ _ (λ o eo. then Q _ _ (λ m em.
        let y = arguments-all M _ f.operands p fr.operands ep in
        let z = pop-all M p.more q y.more eq in
        let h : M o.number = (o.object, object-is w.base os e q.top o eo) in
        tied _ _ v os _ pv (betweens d.class s) (λ _ h. h) rd.objects rd.each rd.share (λ h. omega (arith, ltb-true (suc (length fs)) 32 h)) (
          entered_frame n M m.class m.place o.number p.all (class-selected s _ m (take-ok _ _ em)) h (all_more (value-local M) p.all y.all),
          (framed q.more f.locals (omega (arith, y.less, z.less, fr.depth)) z.more fr.eight fr.locals, frs),
        )))))))))
    each-kept (New c) = then Q _ _ (λ e fe. then Q _ _ (λ _ sh. then Q _ _ (λ _ h.
        let a = and-true (not (roomless task os)) (ltb (length f.operands) 16) (need-ok _ _ h) in
        let x : Object = new_object w.base e in
        let qs : Objects = made task x os in
        let g : (p : ℕ) → M p → Exists qs p = made-exists task x os in
        record {
          base = refl;
          subtypes = refl;
          ties = rd.ties;
          fresh = [];
          behind = sym (append-nil w.ties);
          between = rd.between;
          more = g;
          objects = made-few task x os rd.objects a.0;
          each = made-objects w.base n task os e two (class-found (at k.loader c) e (take-ok _ _ fe)) rd.each;
          share = share-made task x os two (not-true _ (need-ok _ _ sh)) rd.share;
          many = omega arith;
          frames = (
            record { class = fr.class; depth = ltb-true (length f.operands) 16 a.1; operands = ((x, made-there task x os), all_more (grow-value M (Exists qs) g) f.operands fr.operands); eight = fr.eight; locals = all_more (grow-local M (Exists qs) g) f.locals fr.locals },
            all_more (grow-frame n M (Exists qs) g) fs frs,
          );
        })))
    each-kept (Branch c p) = then Q _ _ (λ j e.
        let l = jumps-left M c f.operands j fr.operands e in
        stays _ _ (omega arith) (record { class = fr.class; depth = omega (arith, l.1, fr.depth); operands = l.0; eight = fr.eight; locals = fr.locals }, frs))
    each-kept (Return kind) = then Q _ _ (λ u eu. then Q _ _ (λ p ep. then Q _ _ (λ _ _. let q = pop-all M f.operands p fr.operands ep in given p.more p.top fs frs fl u eu q.top)))

  pub step-moves : (task : ℕ) → task < 2 → (f : Frame) (fs : List Frame) → All (Framed n (Exists os)) (f ∷ fs) → length (f ∷ fs) ≤ 32 → Ok (step task w os f fs) (Moved w n os)
  unfolding step now
  step-moves task two f fs h l = then (Moved w n os) _ _ (λ z ez. each-kept task two f fs z.the_class z.at (own z ez) h.0 h.1 (omega arith) z.at.instruction)
    where
      own : (z : Now) → now w f ≡ ok z → z.the_class.loader < 16
      own z e =
          let a = bind_ok _ _ e in
          let b = bind_ok _ _ a.2 in
          let c = bind_ok _ _ b.2 in
          rw (sym (ap (λ (y : Now). y.the_class.loader) (ok-inj c.2))) (rd.loaders f.class a.0 (take-ok _ _ a.1))
