-- What a step finds on the operands and behind a receiver, where values conform to their types.
use Rattle.std.specs.Prelude.{◌≡◌, refl, Bool, true, false, List, [], ◌∷◌, ℕ, eqb}
use Rattle.std.proofs.Common.{ap, arith}
use Rattle.std.proofs.Math.Option.{Option, some, none-ne-some, some-injective}
use Rattle.std.proofs.Math.ListN.{get_elem?}
use Rattle.definition.specs.Answers.{Result, ◌>>=◌, ok, take?}
use Rattle.definition.specs.Classes.{find, has_field, loader_of, slots, super_of}
use Rattle.definition.specs.Constraints.{Agrees, Tie, World, post, posted}
use Rattle.definition.specs.Machine.{Object, Value, compute, int!, int_value, kind!, kinds!, null_value, object!, object_value, of_kind!, pop!, pop_all!, reference!, room!, empty_value, unlisted_value, existing, Objects}
use Rattle.definition.specs.Requests.{at}
use Rattle.definition.specs.Superclasses.{Below}
use Rattle.definition.specs.declared.Kind.{Kind}
use Rattle.definition.specs.declared.Kind.TheVariants.{IntKind, ReferenceKind}
use Rattle.definition.specs.declared.Operator.{Operator}
use Rattle.definition.specs.declared.Operator.TheVariants.{Add, Subtract, Multiply, Divide}
use Rattle.definition.specs.Verifier.{Flow, Note, VerifierType, flow, meet_int, meet_kind, pop, pop_all, type_class, type_int, type_null, type_of_name}
use Rattle.laws.specs.Arguments.{PoppedAll, each-popped}
use Rattle.laws.specs.Agreement.{super-falls}
use Rattle.laws.specs.Options.{bind-some, each_at}
use Rattle.laws.specs.Results.{Wp, not-word, wp-bind, wp-need, wp-sure, wp-there}
use Rattle.laws.specs.Upward.{true_below}
use Rattle.safety.specs.Conform.{fits_below}
use Rattle.safety.specs.Places.{agrees-after, of-int}
use Rattle.safety.specs.Valid.{Conforms, ObjectSound}
use Rattle.definition.specs.Maybe as Maybe
use Rattle.definition.specs.Lists.{Each}
use Rattle.laws.specs.Members.{FieldPlace, field-place}

-- Operands against their types

abbrev pub Popped : Type 0
Popped = record { top : Value; more : List Value }

pub each-pop : (R : VerifierType → Value → Type 0) (ts : List VerifierType) (vs : List Value) (t : VerifierType) (us : List VerifierType) → pop ts ≡ some (record { top = t; more = us }) → Each R ts vs
    → (q : Popped) × (pop! vs ≡ ok q) × R t q.top × Each R us q.more
unfolding pop pop! take?
each-pop R [] vs t us e h = absurd (none-ne-some _ e)
each-pop R (x ∷ xs) [] t us e h = absurd h
each-pop R (x ∷ xs) (v ∷ vs) t us e h =
    let z = some-injective _ _ e in
    (record { top = v; more = vs }, refl, rw (ap (λ (p : record { top : VerifierType; more : List VerifierType }). p.top) z) at h.0, rw (ap (λ (p : record { top : VerifierType; more : List VerifierType }). p.more) z) at h.1)

pub int_of : (w : World) (os : Objects) (l : ℕ) (t : VerifierType) (v : Value) {ns : List Note} → meet_int t ≡ some ns → Conforms w os l t v → (n : ℕ) × (int! v ≡ ok n) × Conforms w os l type_int v
unfolding meet_int int!
int_of w os l type_int empty_value e h = absurd h
int_of w os l type_int (unlisted_value α β) e h = absurd h
int_of w os l type_int (int_value n) e h = (n, refl, tt)
int_of w os l type_int null_value e h = absurd h
int_of w os l type_int (object_value o) e h = absurd h
int_of w os l type_null v {ns} e h = absurd (none-ne-some ns e)
int_of w os l (type_class a) v {ns} e h = absurd (none-ne-some ns e)

pub of-kind : (w : World) (os : Objects) (l : ℕ) (kind : Kind) (t : VerifierType) (v : Value) {u : Unit {0}} → meet_kind kind t ≡ some u → Conforms w os l t v → of_kind! kind v ≡ ok tt
unfolding meet_kind of_kind! int! reference! ◌>>=◌
of-kind w os l IntKind type_int empty_value e h = absurd h
of-kind w os l IntKind type_int (unlisted_value α β) e h = absurd h
of-kind w os l IntKind type_int (int_value n) e h = refl
of-kind w os l IntKind type_int null_value e h = absurd h
of-kind w os l IntKind type_int (object_value o) e h = absurd h
of-kind w os l IntKind type_null v {u} e h = absurd (none-ne-some u e)
of-kind w os l IntKind (type_class a) v {u} e h = absurd (none-ne-some u e)
of-kind w os l ReferenceKind type_int v {u} e h = absurd (none-ne-some u e)
of-kind w os l ReferenceKind type_null empty_value e h = absurd h
of-kind w os l ReferenceKind type_null (unlisted_value α β) e h = absurd h
of-kind w os l ReferenceKind type_null (int_value n) e h = absurd h
of-kind w os l ReferenceKind type_null null_value e h = refl
of-kind w os l ReferenceKind type_null (object_value o) e h = absurd h
of-kind w os l ReferenceKind (type_class a) empty_value e h = absurd h
of-kind w os l ReferenceKind (type_class a) (unlisted_value α β) e h = absurd h
of-kind w os l ReferenceKind (type_class a) (int_value n) e h = absurd h
of-kind w os l ReferenceKind (type_class a) null_value e h = refl
of-kind w os l ReferenceKind (type_class a) (object_value o) e h = refl

pub flow-is : (o : List VerifierType) (l : List (Option VerifierType)) (n : List Note) (fl : Flow) → flow o l n ≡ some fl → ◌≡◌ {A = Flow} (record { types = record { operands = o; locals = l }; notes = n }) fl
flow-is o l n fl h = some-injective _ _ (bind-some _ _ h).2

pub as_int : (w : World) (os : Objects) (l r : ℕ) (v : Value) → r ≡ 1 → Conforms w os l type_int v → Conforms w os l (type_of_name r) v
as_int w os l r v e h = rw (e, of-int) h

pub kind-of : (w : World) (os : Objects) (l t : ℕ) (v : Value) → Conforms w os l (type_of_name t) v → kind! t v ≡ ok tt
unfolding kind! type_of_name meet_kind
kind-of w os l t v h = go (eqb t 1) h
  where
    go : (z : Bool) → Conforms w os l (elim z as (λ _. VerifierType) [ true ↦ type_int | false ↦ type_class t ]) v
        → (elim z as (λ _. Result (Unit {0})) [ true ↦ of_kind! IntKind v | false ↦ of_kind! ReferenceKind v ]) ≡ ok tt
    go true h = of-kind w os l IntKind type_int v {u = tt} refl h
    go false h = of-kind w os l ReferenceKind (type_class t) v {u = tt} refl h

-- arguments, each of its own type's kind
pub kinds-of : (w : World) (os : Objects) (l : ℕ) (ts : List ℕ) (vs : List Value) → Each (λ t v. Conforms w os l (type_of_name t) v) ts vs → kinds! ts vs ≡ ok tt
unfolding kinds! ◌>>=◌
kinds-of w os l [] [] h = refl
kinds-of w os l [] (v ∷ vs) h = absurd h
kinds-of w os l (t ∷ ts) [] h = absurd h
kinds-of w os l (t ∷ ts) (v ∷ vs) h = rw (kind-of w os l t v h.0) (kinds-of w os l ts vs h.1)

-- as many are popped of the values as of their types
pub all-popped : (R : VerifierType → Value → Type 0) (n : ℕ) (ts : List VerifierType) (vs : List Value) (p : PoppedAll VerifierType) → pop_all n ts ≡ some p → Each R ts vs
    → (q : PoppedAll Value) × (pop_all! n vs ≡ ok q) × Each R p.all q.all × Each R p.more q.more
unfolding pop_all! take?
all-popped R n ts vs p e h = let a = each-popped R n ts vs h p e in (a.popped, rw a.is refl, a.all, a.more)

-- an operator isn't stuck
pub wp-compute : {B : Type 0} (Q : B → Type 0) (o : Operator) (a b : ℕ) (f : ℕ → Result B) → ((n : ℕ) → Wp (f n) Q) → Wp (compute o a b >>= f) Q
unfolding compute
wp-compute Q o a b f h = wp-bind Q (compute o a b) f (go o)
  where
    go : (o : Operator) → Wp (compute o a b) (λ n. Wp (f n) Q)
    go Add = h _
    go Subtract = h _
    go Multiply = h _
    go Divide = wp-need (λ n. Wp (f n) Q) _ _ _ (not-word 17 (omega arith)) (λ _. h _)

pub wp-room : {B : Type 0} (Q : B → Type 0) (vs : List Value) (f : Unit {0} → Result B) → Wp (f tt) Q → Wp (room! vs >>= f) Q
unfolding room!
wp-room Q vs f h = wp-need Q _ _ _ (not-word 10 (omega arith)) (λ _. h)

-- Posting ties

pub wp-post : (w : World) (room : Bool) (us : List Tie) (Q : World → Type 0) → Agrees w → (Agrees (posted w us) → Q (posted w us)) → Wp (post w room us) Q
unfolding post
wp-post w room us Q g h = wp-need Q _ _ _ (not-word 10 (omega arith)) (λ _. wp-need Q _ _ _ (not-word 9 (omega arith)) (λ e. h (agrees-after w us g e)))

-- the object behind a receiver
pub wp-object : (w : World) (os : Objects) (l c e : ℕ) (v : Value) (Q : record { number : ℕ; object : Object } → Type 0) → Agrees w → find w.base.cache (at l c) ≡ some e → Conforms w os l (type_class c) v
    → ((o : ℕ) (b : Object) → existing os o ≡ some b → Below (super_of w.base) b.class e → v ≡ object_value o → Q (record { number = o; object = b })) → Wp (object! w.base os e v) Q
unfolding object!
wp-object w os l c e empty_value Q g f h q = absurd h
wp-object w os l c e (unlisted_value α β) Q g f h q = absurd h
wp-object w os l c e (int_value n) Q g f h q = absurd h
wp-object w os l c e null_value Q g f h q = not-word 11 (omega arith)
wp-object w os l c e (object_value o) Q g f h q =
    let b = fits_below g h.fits f in
    wp-there Q _ _ _ h.there (wp-sure Q _ _ _ (true_below (super_of w.base) (super-falls w.base) h.object.class e b) (q o h.object h.there b refl))

-- the field that class d declares, in an object of a class below d
pub record FieldAt (w : World) (os : Objects) (b : Object) (d n t : ℕ) : Type 0 where
  pub field : FieldPlace w.base b.class d n t
  pub value : Value
  pub there : get_elem? b.values field.place ≡ some value
  pub conforms : Conforms w os (loader_of w.base d) (type_of_name t) value

pub field_at : (w : World) (os : Objects) (b : Object) (d n t : ℕ) → has_field w.base n t d ≡ true → Below (super_of w.base) b.class d → ObjectSound w os b → FieldAt w os b d n t
field_at w os b d n t h bl ob =
    let p = field-place w.base b.class d n t h bl in
    let x = each_at (λ s v. Conforms w os (loader_of w.base s.owner) (type_of_name s.type) v) (slots w.base b.class) b.values ob.filled p.place p.slot p.is_slot in
    record { field = p; value = x.0; there = x.1; conforms = rw (p.owner, p.type) at x.2 }
