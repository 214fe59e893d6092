-- The verifier: a type for each operand and local at each point, the effect of each instruction on them, and the notes 'a below b'. One walk over the code, in which
-- each point has an expected state, the map's where there is one; version 1 is the same walk without maps.
use Rattle.std.specs.Prelude.{Bool, true, false, not, ◌&&◌, ◌||◌, List, [], ◌∷◌, ◌++◌, map, reverse, ℕ, zero, suc, ◌+◌, length, set, eqb, leb, ltb}
use Rattle.std.proofs.Math.Option.{Option, none, some}
use Rattle.std.proofs.Math.ListN.{get_elem?}
use Rattle.definition.specs.Numbers.{name_int, name_object, operand_limit, local_count, version_two}
use Rattle.definition.specs.Lists.{any, is_none, to_list, filled}
use Rattle.definition.specs.Maybe.{◌>>=◌, need}
use Rattle.definition.specs.Classes.{Class, Map, Method, argument_types, is_named}
use Rattle.definition.specs.Instructions.{Kind, IntKind, ReferenceKind, Instruction, AconstNull, Sipush, Load, Store, Pop, Dup, Arithmetic, Getfield, Putfield, Invokevirtual, New, Return, Branch, Always, IfZero, IfLess, decode}

-- int, null, or a class name
pub data VerifierType : Type 0 where
  type_int type_null : VerifierType
  type_class : ℕ → VerifierType

-- the requirement 'low below high'
pub record Note : Type 0 where
  pub low : ℕ
  pub high : ℕ

-- types at a point: the operands', the last pushed first, and the locals'; `none` is unset
pub record TypeState : Type 0 where
  pub operands : List VerifierType
  pub locals : List (Option VerifierType)

-- what an instruction leaves, and the notes it makes
pub record Flow : Type 0 where
  pub types : TypeState
  pub notes : List Note

-- the type that a name stands for
unfoldable pub type_of_name : ℕ → VerifierType
type_of_name n = elim (eqb n name_int) [ true ↦ type_int | false ↦ type_class n ]

-- point 0: local 0 the class's own name, the locals from 1 on the argument types in their order, the rest unset
abbrev pub entry_types : Class → Method → TypeState
entry_types k m = record { operands = []; locals = filled local_count none (some (type_class k.name) ∷ map (λ n. some (type_of_name n)) (argument_types m.signature)) }

-- The notes under which a type stands where class b, int, or name b is demanded

unfoldable pub meet_class : ℕ → VerifierType → Option (List Note)
meet_class b type_int = none
meet_class b type_null = some []
meet_class b (type_class a) = elim (eqb a b) [ true ↦ some [] | false ↦ some (record { low = a; high = b } ∷ []) ]

unfoldable pub meet_int : VerifierType → Option (List Note)
meet_int type_int = some []
meet_int type_null = none
meet_int (type_class a) = none

unfoldable pub meets : VerifierType → ℕ → Option (List Note)
meets t b = elim (eqb b name_int) [ true ↦ meet_int t | false ↦ meet_class b t ]

-- int where an int is demanded; null or a class name where a reference is
unfoldable pub meet_kind : Kind → VerifierType → Option (Unit {0})
meet_kind IntKind type_int = some tt
meet_kind IntKind type_null = none
meet_kind IntKind (type_class a) = none
meet_kind ReferenceKind type_int = none
meet_kind ReferenceKind type_null = some tt
meet_kind ReferenceKind (type_class a) = some tt

unfoldable pub pop : {A : Type 0} → List A → Option (record { top : A; more : List A })
pop [] = none
pop (x ∷ xs) = some (record { top = x; more = xs })

-- what n pops take, in the order in which it was pushed: the last argument stands on top
unfoldable pub pop_all : {A : Type 0} → ℕ → List A → Option (record { all : List A; more : List A })
pop_all zero xs = some (record { all = []; more = xs })
pop_all (suc n) xs = pop xs >>= λ p. pop_all n p.more >>= λ q. some (record { all = q.all ++ (p.top ∷ []); more = q.more })

-- each in turn meets its own of the list: the notes in their order, and none where one doesn't, or the list is longer or shorter
unfoldable pub meet_all : {A : Type 0} → (A → ℕ → Option (List Note)) → List A → List ℕ → Option (List Note)
meet_all f [] [] = some []
meet_all f [] (n ∷ ns) = none
meet_all f (x ∷ xs) [] = none
meet_all f (x ∷ xs) (n ∷ ns) = f x n >>= λ a. meet_all f xs ns >>= λ b. some (a ++ b)

-- at most 16 operands
abbrev pub flow : List VerifierType → List (Option VerifierType) → List Note → Option Flow
flow o l n = need (leb (length o) operand_limit) >>= λ _. some (record { types = record { operands = o; locals = l }; notes = n })

-- the effect of an instruction that is no return; notes on the receiver before those on the value, or on the arguments in their order
unfoldable pub effect : Instruction → TypeState → Option Flow
effect AconstNull s = flow (type_null ∷ s.operands) s.locals []
effect (Sipush n) s = flow (type_int ∷ s.operands) s.locals []
effect (Load kind i) s = get_elem? s.locals i >>= λ x. x >>= λ t. meet_kind kind t >>= λ _. flow (t ∷ s.operands) s.locals []
effect (Store kind i) s =
    pop s.operands >>= λ p. meet_kind kind p.top >>= λ _. get_elem? s.locals i >>= λ _. flow p.more (set s.locals i (some p.top)) []
effect Pop s = pop s.operands >>= λ p. flow p.more s.locals []
effect Dup s = pop s.operands >>= λ p. flow (p.top ∷ p.top ∷ p.more) s.locals []
effect (Arithmetic o) s =
    pop s.operands >>= λ p. pop p.more >>= λ q. meet_int p.top >>= λ _. meet_int q.top >>= λ _. flow (type_int ∷ q.more) s.locals []
effect (Getfield c f t) s =
    need (leb name_object c && leb 1 f && leb 1 t) >>= λ _. pop s.operands >>= λ p. meet_class c p.top >>= λ a. flow (type_of_name t ∷ p.more) s.locals a
effect (Putfield c f t) s =
    need (leb name_object c && leb 1 f && leb 1 t) >>= λ _. pop s.operands >>= λ p. pop p.more >>= λ q.
    meet_class c q.top >>= λ a. meets p.top t >>= λ b. flow q.more s.locals (a ++ b)
effect (Invokevirtual c m) s =
    need (leb name_object c && is_named m) >>= λ _. pop_all (length (argument_types m)) s.operands >>= λ p. pop p.more >>= λ q.
    meet_class c q.top >>= λ a. meet_all meets p.all (argument_types m) >>= λ b. flow (type_of_name m.result ∷ q.more) s.locals (a ++ b)
effect (New c) s = need (leb name_object c) >>= λ _. flow (type_class c ∷ s.operands) s.locals []
effect (Branch Always p) s = flow s.operands s.locals []
effect (Branch IfZero p) s = pop s.operands >>= λ p. meet_int p.top >>= λ _. flow p.more s.locals []
effect (Branch IfLess p) s =
    pop s.operands >>= λ p. pop p.more >>= λ q. meet_int p.top >>= λ _. meet_int q.top >>= λ _. flow q.more s.locals []
effect (Return kind) s = none

-- the kind that a return gives back; no other instruction has one
unfoldable pub return_kind : Instruction → Option Kind
return_kind AconstNull = none
return_kind (Sipush n) = none
return_kind (Load kind i) = none
return_kind (Store kind i) = none
return_kind Pop = none
return_kind Dup = none
return_kind (Arithmetic o) = none
return_kind (Getfield c f t) = none
return_kind (Putfield c f t) = none
return_kind (Invokevirtual c m) = none
return_kind (New c) = none
return_kind (Branch c p) = none
return_kind (Return kind) = some kind

-- the notes of a return, where it fits the result type r: in its kind, and in the value that it gives back
unfoldable pub returns : Kind → ℕ → TypeState → Option (List Note)
returns kind r s = meet_kind kind (type_of_name r) >>= λ _. pop s.operands >>= λ p. meets p.top r

-- Where an instruction goes on: to its target, and to the next point, but for a goto and a return

unfoldable pub target : Instruction → Option ℕ
target (Branch c p) = some p
target AconstNull = none
target (Sipush n) = none
target (Load kind i) = none
target (Store kind i) = none
target Pop = none
target Dup = none
target (Arithmetic o) = none
target (Getfield c f t) = none
target (Putfield c f t) = none
target (Invokevirtual c m) = none
target (New c) = none
target (Return kind) = none

unfoldable pub goes_on : Instruction → Bool
goes_on (Branch Always p) = false
goes_on (Branch IfZero p) = true
goes_on (Branch IfLess p) = true
goes_on (Return kind) = false
goes_on AconstNull = true
goes_on (Sipush n) = true
goes_on (Load kind i) = true
goes_on (Store kind i) = true
goes_on Pop = true
goes_on Dup = true
goes_on (Arithmetic o) = true
goes_on (Getfield c f t) = true
goes_on (Putfield c f t) = true
goes_on (Invokevirtual c m) = true
goes_on (New c) = true

-- Maps: the one at a point, its types, and the notes under which types flow into it, locals first, then operands from the lowest, as many as it has

unfoldable pub map_at : List Map → ℕ → Option Map
map_at [] p = none
map_at (m ∷ ms) p = elim (eqb m.offset p) [ true ↦ some m | false ↦ map_at ms p ]

unfoldable pub local_type : ℕ → Option VerifierType
local_type n = elim (eqb n 0) [ true ↦ none | false ↦ some (type_of_name n) ]

abbrev pub map_types : Map → TypeState
map_types m = record { operands = reverse (map type_of_name m.operands); locals = map local_type m.locals }

-- a local may become unset; what is unset meets nothing else
unfoldable pub meet_local : Option VerifierType → ℕ → Option (List Note)
meet_local t n = elim (eqb n 0) [ true ↦ some [] | false ↦ t >>= λ u. meets u n ]

unfoldable pub meet_map : TypeState → Map → Option (List Note)
meet_map s m = meet_all meet_local s.locals m.locals >>= λ a. meet_all meets (reverse s.operands) m.operands >>= λ b. some (a ++ b)

-- Where the walk goes after an instruction, with the notes that it makes: its own, then those of the flow into its target, then those into the next point

pub data Onward : Type 0 where
  finished : Onward
  onto : ℕ → TypeState → Onward

pub record Turn : Type 0 where
  pub notes : List Note
  pub next : Onward

module _ (version : ℕ) (code : List ℕ) (maps : List Map) (result : ℕ) where
  -- the types s flow into point p: the types there are the map's, if there is one
  unfoldable pub flow_into : ℕ → TypeState → Option Flow
  flow_into p s = elim (map_at maps p) [
    | none ↦ some (record { types = s; notes = [] })
    | some m ↦ meet_map s m >>= λ ns. some (record { types = map_types m; notes = ns })
  ]

  -- the notes of the flow into a target, which has a map
  unfoldable pub flow_to_target : Option ℕ → TypeState → Option (List Note)
  flow_to_target none s = some []
  flow_to_target (some p) s = map_at maps p >>= λ m. meet_map s m

  -- nothing flows into point p: the code ends there, or the types are the map's
  unfoldable pub start_at : ℕ → Option Onward
  start_at p = elim (eqb p (length code)) [ true ↦ some finished | false ↦ map_at maps p >>= λ m. some (onto p (map_types m)) ]

  unfoldable pub after : Instruction → ℕ → Flow → Option Turn
  after i p f =
      flow_to_target (target i) f.types >>= λ ts. elim (goes_on i) [
        | true ↦ flow_into p f.types >>= λ g. some (record { notes = f.notes ++ (ts ++ g.notes); next = onto p g.types })
        | false ↦ start_at p >>= λ o. some (record { notes = f.notes ++ ts; next = o })
      ]

  -- the instruction at point p, where the types are s
  unfoldable pub turn : ℕ → TypeState → Option Turn
  turn p s = decode version code p >>= λ i. elim (return_kind i.instruction) [
    | some kind ↦ returns kind result s >>= λ ns. start_at (p + i.size) >>= λ o. some (record { notes = ns; next = o })
    | none ↦ effect i.instruction s >>= λ f. after i.instruction (p + i.size) f
  ]

  -- the maps behind point p, where those of the list lie at p or behind it; none where one lies before it, in an instruction
  unfoldable pub maps_past : ℕ → List Map → Option (List Map)
  maps_past p [] = some []
  maps_past p (m ∷ ms) = elim (eqb m.offset p) [ true ↦ some ms | false ↦ need (ltb p m.offset) >>= λ _. some (m ∷ ms) ]

  -- the notes of the code from point p on, where the types are s, and the maps left lie at p or behind it: each at an instruction's start.
  -- Each instruction has a byte or more, so that as many steps as bytes are enough.
  unfoldable pub verify : ℕ → ℕ → List Map → TypeState → Option (List Note)
  verify zero p left s = none
  verify (suc k) p left s = maps_past p left >>= λ more. turn p s >>= λ t. elim t.next [
    | finished ↦ need (leb (length more) 0) >>= λ _. some t.notes
    | onto q u ↦ verify k q more u >>= λ ns. some (t.notes ++ ns)
  ]

  -- the types at the point q
  unfoldable pub types_at : ℕ → ℕ → List Map → TypeState → ℕ → Option TypeState
  types_at zero p left s q = none
  types_at (suc k) p left s q = maps_past p left >>= λ more. elim (eqb p q) [
    | true ↦ some s
    | false ↦ turn p s >>= λ t. elim t.next [ finished ↦ none | onto r u ↦ types_at k r more u q ]
  ]

  -- Word 15: a target, or an instruction after a goto or return, without a map, before the first instruction that can't be read; `wants` says that
  -- point p follows a goto or return
  unfoldable pub unmapped_from : ℕ → ℕ → Bool → Bool
  unmapped_from zero p wants = false
  unmapped_from (suc k) p wants = elim (decode version code p) [
    | none ↦ false
    | some i ↦ (wants && is_none (map_at maps p)) || any (λ q. is_none (map_at maps q)) (to_list (target i.instruction)) || unmapped_from k (p + i.size) (not (goes_on i.instruction))
  ]

-- What is said of a method: its notes, those of the flow from entry first; the types at a point; and whether it is unmapped, from version 2 on

unfoldable pub notes_of_method : Class → Method → Option (List Note)
notes_of_method k m =
    flow_into k.version m.code m.maps m.signature.result 0 (entry_types k m) >>= λ f.
    verify k.version m.code m.maps m.signature.result (length m.code) 0 m.maps f.types >>= λ ns. some (f.notes ++ ns)

unfoldable pub types_in : Class → Method → ℕ → Option TypeState
types_in k m q =
    flow_into k.version m.code m.maps m.signature.result 0 (entry_types k m) >>= λ f.
    types_at k.version m.code m.maps m.signature.result (length m.code) 0 m.maps f.types q

unfoldable pub unmapped : Class → Method → Bool
unmapped k m = leb version_two k.version && unmapped_from k.version m.code m.maps m.signature.result (length m.code) 0 false

-- notes in order of method, then point
unfoldable pub notes_of : Class → List Method → Option (List Note)
notes_of k [] = some []
notes_of k (m ∷ ms) = notes_of_method k m >>= λ ns. notes_of k ms >>= λ rs. some (ns ++ rs)
