-- The verifier's notes are between names of 16 bits: every type that it gives comes from the class's name, a method's types, an inline
-- name or a map.
use Rattle.std.specs.Prelude.{◌≡◌, refl, Bool, true, false, ℕ, zero, suc, ◌+◌, ◌<◌, length, set, eqb}
use Rattle.std.proofs.Math.Option.{Option, none, some, none-ne-some, some-injective}
use mathlib.Core.List.{List, [], ◌∷◌, ◌++◌, map, reverse, reverse_aux}
use Rattle.definition.specs.declared.Kind.{Kind}
use Rattle.definition.specs.declared.Instruction.{Instruction}
use Rattle.definition.specs.declared.Condition.TheVariants.{Always, IfZero, IfLess}
use Rattle.definition.specs.declared.Instruction.TheVariants.{AconstNull, Sipush, Load, Store, Pop, Dup, Arithmetic, Getfield, Putfield, Invokevirtual, New, Return, Branch}
use Rattle.definition.specs.Maybe.{◌>>=◌}
use Rattle.definition.specs.Classes.{Class, Map, Method, argument_types}
use Rattle.definition.specs.Instructions.{decode}
use Rattle.definition.specs.Verifier.{VerifierType, type_int, type_null, type_class, Note, TypeState, Flow, type_of_name, entry_types, meet_class, meet_int, meets, pop, pop_all, flow, effect, returns, map_at, local_type, map_types, meet_local, meet_all, meet_map, notes_of_method, notes_of}
use Rattle.laws.specs.Arguments.{PoppedAll}
use Rattle.laws.specs.Walk.{notes-have}
use Rattle.layout.specs.Tests.{All, all_both, all-parts, all-filled}
use Rattle.unbroken.specs.Steps.{all_set}
use Rattle.widths.specs.Files.{Read, read-on, read_past, read-need, read-nth, InstructionFits, DecodedFits, decode-fits, MapFits, MethodFits}

-- a class name has 16 bits
abbrev TypeFits : VerifierType → Type 0
TypeFits type_int = Unit {0}
TypeFits type_null = Unit {0}
TypeFits (type_class a) = a < 65536

abbrev LocalFits : Option VerifierType → Type 0
LocalFits o = Read o TypeFits

pub record NoteFits (n : Note) : Type 0 where
  pub low : n.low < 65536
  pub high : n.high < 65536

record StateFits (s : TypeState) : Type 0 where
  operands : All TypeFits s.operands
  locals : All LocalFits s.locals

record FlowFits (f : Flow) : Type 0 where
  types : StateFits f.types
  notes : All NoteFits f.notes

name-type : (n : ℕ) → n < 65536 → TypeFits (type_of_name n)
unfolding type_of_name
name-type n l = go (eqb n 1)
  where
    go : (b : Bool) → TypeFits (elim b as (λ _. VerifierType) [ true ↦ type_int | false ↦ type_class n ])
    go true = tt
    go false = l

class-met : (b : ℕ) (t : VerifierType) → b < 65536 → TypeFits t → Read (meet_class b t) (All NoteFits)
unfolding meet_class
class-met b type_int l h = tt
class-met b type_null l h = tt
class-met b (type_class a) l h = go (eqb a b)
  where
    go : (e : Bool) → Read (elim e as (λ _. Option (List Note)) [ true ↦ some [] | false ↦ some (record { low = a; high = b } ∷ []) ]) (All NoteFits)
    go true = tt
    go false = (record { low = h; high = l }, tt)

int-met : (t : VerifierType) → Read (meet_int t) (All NoteFits)
unfolding meet_int
int-met type_int = tt
int-met type_null = tt
int-met (type_class a) = tt

met : (t : VerifierType) (b : ℕ) → b < 65536 → TypeFits t → Read (meets t b) (All NoteFits)
unfolding meets
met t b l h = go (eqb b 1)
  where
    go : (e : Bool) → Read (elim e as (λ _. Option (List Note)) [ true ↦ meet_int t | false ↦ meet_class b t ]) (All NoteFits)
    go true = int-met t
    go false = class-met b t l h

abbrev Popped : record { top : VerifierType; more : List VerifierType } → Type 0
Popped p = TypeFits p.top × All TypeFits p.more

popped : (ts : List VerifierType) → All TypeFits ts → Read (pop ts) Popped
unfolding pop
popped [] h = tt
popped (t ∷ ts) h = (h.0, h.1)

abbrev PoppedTypes : PoppedAll VerifierType → Type 0
PoppedTypes p = All TypeFits p.all × All TypeFits p.more

-- the arguments of a call
all-popped : (n : ℕ) (ts : List VerifierType) → All TypeFits ts → Read (pop_all n ts) PoppedTypes
unfolding pop_all
all-popped zero ts h = (tt, h)
all-popped (suc n) ts h = read-on Popped PoppedTypes _ _ (popped ts h) (λ p hp. read-on PoppedTypes PoppedTypes _ _ (all-popped n p.more hp.1) (λ q hq.
    (all_both TypeFits q.all (p.top ∷ []) hq.0 (hp.0, tt), hq.1)))

types-met : (ts : List VerifierType) (ns : List ℕ) → All TypeFits ts → All (λ n. n < 65536) ns → Read (meet_all meets ts ns) (All NoteFits)
unfolding meet_all
types-met [] [] h l = tt
types-met [] (n ∷ ns) h l = tt
types-met (t ∷ ts) [] h l = tt
types-met (t ∷ ts) (n ∷ ns) h l = read-on (All NoteFits) (All NoteFits) _ _ (met t n l.0 h.0) (λ a ha. read-on (All NoteFits) (All NoteFits) _ _ (types-met ts ns h.1 l.1) (λ b hb. all_both NoteFits a b ha hb))

flows : (o : List VerifierType) (l : List (Option VerifierType)) (n : List Note) → All TypeFits o → All LocalFits l → All NoteFits n → Read (flow o l n) FlowFits
flows o l n a b c = read-need FlowFits _ _ (λ _. record { types = record { operands = a; locals = b }; notes = c })

module _ (s : TypeState) (h : StateFits s) where
  effect-fits : (i : Instruction) → InstructionFits i → Read (effect i s) FlowFits
  unfolding effect
  effect-fits AconstNull f = flows (type_null ∷ s.operands) s.locals [] (tt, h.operands) h.locals tt
  effect-fits (Sipush n) f = flows (type_int ∷ s.operands) s.locals [] (tt, h.operands) h.locals tt
  effect-fits (Load kind i) f =
      read-on LocalFits FlowFits _ _ (read-nth LocalFits s.locals i h.locals) (λ x hx. read-on TypeFits FlowFits x _ hx (λ t ht. read_past FlowFits _ _ (λ _.
      flows (t ∷ s.operands) s.locals [] (ht, h.operands) h.locals tt)))
  effect-fits (Store kind i) f = read-on Popped FlowFits _ _ (popped s.operands h.operands) (λ p hp. read_past FlowFits _ _ (λ _. read_past FlowFits _ _ (λ _.
      flows p.more (set s.locals i (some p.top)) [] hp.1 (all_set LocalFits s.locals h.locals i (some p.top) hp.0) tt)))
  effect-fits Pop f = read-on Popped FlowFits _ _ (popped s.operands h.operands) (λ p hp. flows p.more s.locals [] hp.1 h.locals tt)
  effect-fits Dup f = read-on Popped FlowFits _ _ (popped s.operands h.operands) (λ p hp. flows (p.top ∷ p.top ∷ p.more) s.locals [] (hp.0, hp) h.locals tt)
  effect-fits (Arithmetic o) f = read-on Popped FlowFits _ _ (popped s.operands h.operands) (λ p hp. read-on Popped FlowFits _ _ (popped p.more hp.1) (λ q hq.
      read_past FlowFits _ _ (λ _. read_past FlowFits _ _ (λ _. flows (type_int ∷ q.more) s.locals [] (tt, hq.1) h.locals tt))))
  effect-fits (Getfield c n t) f = read-need FlowFits _ _ (λ _. read-on Popped FlowFits _ _ (popped s.operands h.operands) (λ p hp.
      read-on (All NoteFits) FlowFits _ _ (class-met c p.top f.0 hp.0) (λ a ha. flows (type_of_name t ∷ p.more) s.locals a (name-type t f.1, hp.1) h.locals ha)))
  effect-fits (Putfield c n t) f = read-need FlowFits _ _ (λ _.
      read-on Popped FlowFits _ _ (popped s.operands h.operands) (λ p hp. read-on Popped FlowFits _ _ (popped p.more hp.1) (λ q hq.
      read-on (All NoteFits) FlowFits _ _ (class-met c q.top f.0 hq.0) (λ a ha. read-on (All NoteFits) FlowFits _ _ (met p.top t f.1 hp.0) (λ b hb.
      flows q.more s.locals (a ++ b) hq.1 h.locals (all_both NoteFits a b ha hb))))))
  effect-fits (Invokevirtual c m) f = read-need FlowFits _ _ (λ _.
      let g = all-parts (λ n. n < 65536) (argument_types m) (m.result ∷ []) f.1 in
      read-on PoppedTypes FlowFits _ _ (all-popped (length (argument_types m)) s.operands h.operands) (λ p hp. read-on Popped FlowFits _ _ (popped p.more hp.1) (λ q hq.
      read-on (All NoteFits) FlowFits _ _ (class-met c q.top f.0 hq.0) (λ a ha. read-on (All NoteFits) FlowFits _ _ (types-met p.all (argument_types m) hp.0 g.0) (λ b hb.
      flows (type_of_name m.result ∷ q.more) s.locals (a ++ b) (name-type m.result g.1.0, hq.1) h.locals (all_both NoteFits a b ha hb))))))
  effect-fits (New c) f = read-need FlowFits _ _ (λ _. flows (type_class c ∷ s.operands) s.locals [] (f, h.operands) h.locals tt)
  effect-fits (Branch Always p) f = flows s.operands s.locals [] h.operands h.locals tt
  effect-fits (Branch IfZero p) f = read-on Popped FlowFits _ _ (popped s.operands h.operands) (λ p hp. read_past FlowFits _ _ (λ _. flows p.more s.locals [] hp.1 h.locals tt))
  effect-fits (Branch IfLess p) f = read-on Popped FlowFits _ _ (popped s.operands h.operands) (λ p hp. read-on Popped FlowFits _ _ (popped p.more hp.1) (λ q hq.
      read_past FlowFits _ _ (λ _. read_past FlowFits _ _ (λ _. flows q.more s.locals [] hq.1 h.locals tt))))
  effect-fits (Return kind) f = tt

  returns-fit : (kind : Kind) (r : ℕ) → r < 65536 → Read (returns kind r s) (All NoteFits)
  unfolding returns
  returns-fit kind r l =
      read_past (All NoteFits) _ _ (λ _. read-on Popped (All NoteFits) _ _ (popped s.operands h.operands) (λ p hp. met p.top r l hp.0))

-- Maps

all-reverse : {A : Type 0} (P : A → Type 0) (xs : List A) → All P xs → All P (reverse xs)
all-reverse {A} P xs h = go xs [] h tt
  where
    go : (xs ys : List A) → All P xs → All P ys → All P (reverse_aux xs ys)
    go [] ys h k = k
    go (x ∷ xs) ys h k = go xs (x ∷ ys) h.1 (h.0, k)

all-mapped : {A B : Type 0} (P : A → Type 0) (Q : B → Type 0) (f : A → B) → ((x : A) → P x → Q (f x)) → (xs : List A) → All P xs → All Q (map f xs)
all-mapped P Q f k [] h = tt
all-mapped P Q f k (x ∷ xs) h = (k x h.0, all-mapped P Q f k xs h.1)

entry-fits : (k : Class) (m : Method) → k.name < 65536 → MethodFits m → StateFits (entry_types k m)
entry-fits k m l h =
    let ts = argument_types m.signature in
    let g = all-parts (λ n. n < 65536) ts (m.signature.result ∷ []) h.types in
    record {
      operands = tt;
      locals = all-filled LocalFits 8 none (some (type_class k.name) ∷ map (λ n. some (type_of_name n)) ts) tt (l, all-mapped (λ n. n < 65536) LocalFits (λ n. some (type_of_name n)) name-type ts g.0);
    }

local-type : (n : ℕ) → n < 65536 → LocalFits (local_type n)
unfolding local_type
local-type n l = go (eqb n 0)
  where
    go : (b : Bool) → LocalFits (elim b as (λ _. Option VerifierType) [ true ↦ none | false ↦ some (type_of_name n) ])
    go true = tt
    go false = name-type n l

map-types-fit : (m : Map) → MapFits m → StateFits (map_types m)
map-types-fit m h = record {
  operands = all-reverse TypeFits (map type_of_name m.operands) (all-mapped (λ n. n < 65536) TypeFits type_of_name name-type m.operands h.operands);
  locals = all-mapped (λ n. n < 65536) LocalFits local_type local-type m.locals h.locals;
}

local-met : (t : Option VerifierType) (n : ℕ) → n < 65536 → LocalFits t → Read (meet_local t n) (All NoteFits)
unfolding meet_local
local-met t n l h = go (eqb n 0)
  where
    go : (b : Bool) → Read (elim b as (λ _. Option (List Note)) [ true ↦ some [] | false ↦ t >>= λ u. meets u n ]) (All NoteFits)
    go true = tt
    go false = read-on TypeFits (All NoteFits) t _ h (λ u x. met u n l x)

all-met : {A : Type 0} (P : A → Type 0) (f : A → ℕ → Option (List Note)) → ((x : A) (n : ℕ) → n < 65536 → P x → Read (f x n) (All NoteFits))
    → (xs : List A) (ns : List ℕ) → All P xs → All (λ n. n < 65536) ns → Read (meet_all f xs ns) (All NoteFits)
unfolding meet_all
all-met P f k [] [] h l = tt
all-met P f k [] (n ∷ ns) h l = tt
all-met P f k (x ∷ xs) [] h l = tt
all-met P f k (x ∷ xs) (n ∷ ns) h l =
    read-on (All NoteFits) (All NoteFits) _ _ (k x n l.0 h.0) (λ a ha.
    read-on (All NoteFits) (All NoteFits) _ _ (all-met P f k xs ns h.1 l.1) (λ b hb. all_both NoteFits a b ha hb))

map-met : (s : TypeState) (m : Map) → StateFits s → MapFits m → Read (meet_map s m) (All NoteFits)
unfolding meet_map
map-met s m h l =
    read-on (All NoteFits) (All NoteFits) _ _ (all-met LocalFits meet_local local-met s.locals m.locals h.locals l.locals) (λ a ha.
    read-on (All NoteFits) (All NoteFits) _ _ (all-met TypeFits meets met (reverse s.operands) m.operands (all-reverse TypeFits s.operands h.operands) l.operands) (λ b hb.
    all_both NoteFits a b ha hb))

map-at-fits : (ms : List Map) → All MapFits ms → (p : ℕ) → Read (map_at ms p) MapFits
unfolding map_at
map-at-fits [] h p = tt
map-at-fits (m ∷ ms) h p = go (eqb m.offset p) (map-at-fits ms h.1 p)
  where
    go : (b : Bool) → Read (map_at ms p) MapFits → Read (elim b as (λ _. Option Map) [ true ↦ some m | false ↦ map_at ms p ]) MapFits
    go true x = h.0
    go false x = x

-- a reading that has a value
read_some : {A : Type 0} (P : A → Type 0) (o : Option A) (a : A) → Read o P → o ≡ some a → P a
read_some P none a h e = absurd (none-ne-some a e)
read_some P (some b) a h e = rw (some-injective b a e) at h

some_read : {A : Type 0} (P : A → Type 0) (o : Option A) → ((a : A) → o ≡ some a → P a) → Read o P
some_read P none h = tt
some_read P (some a) h = h a refl

method-notes-fit : (k : Class) (m : Method) → k.name < 65536 → MethodFits m → Read (notes_of_method k m) (All NoteFits)
method-notes-fit k m l h = some_read (All NoteFits) (notes_of_method k m) (λ ns v. notes-have k m ns v StateFits (All NoteFits) tt (λ a b x y. all_both NoteFits a b x y)
    (λ p i s f r hs e.
    let x = read_some (DecodedFits m.code h.code p) (decode k.version m.code p) i (decode-fits m.code h.code k.version p) r in
    let y = read_some FlowFits (effect i.instruction s) f (effect-fits s hs i.instruction x.instruction) e in
    (y.types, y.notes))
    (λ kind s a hs e. read_some (All NoteFits) (returns kind m.signature.result s) a (returns-fit s hs kind m.signature.result (all-parts (λ n. n < 65536) (argument_types m.signature) (m.signature.result ∷ []) h.types).1.0) e)
    (λ p x e. map-types-fit x (at_map p x e))
    (λ p x s a e hs d. read_some (All NoteFits) (meet_map s x) a (map-met s x hs (at_map p x e)) d) (entry-fits k m l h))
  where
    at_map : (p : ℕ) (x : Map) → map_at m.maps p ≡ some x → MapFits x
    at_map p x e = read_some MapFits (map_at m.maps p) x (map-at-fits m.maps h.maps p) e

pub notes-fit : (k : Class) → k.name < 65536 → (ms : List Method) → All MethodFits ms → Read (notes_of k ms) (All NoteFits)
unfolding notes_of
notes-fit k l [] h = tt
notes-fit k l (m ∷ ms) h =
    read-on (All NoteFits) (All NoteFits) _ _ (method-notes-fit k m l h.0) (λ ns hn.
    read-on (All NoteFits) (All NoteFits) _ _ (notes-fit k l ms h.1) (λ rs hr. all_both NoteFits ns rs hn hr))
