-- The walk over a method's code as the code takes it: the notes it makes before it ends, and whether it accepts. A rejection keeps the notes that came
-- before it, since they are posted already.
use Rattle.std.specs.Prelude.{Bool, true, false, ◌&&◌, List, [], ◌∷◌, ◌++◌, reverse, ℕ, zero, suc, ◌+◌, ◌-◌, length, eqb, leb}
use Rattle.std.proofs.Math.Option.{Option, none, some}
use Rattle.definition.specs.Numbers.{operand_limit}
use Rattle.definition.specs.declared.Signature.{Signature}
use Rattle.definition.specs.declared.Instruction.{Instruction}
use Rattle.definition.specs.Instructions.{Decoded, decode, pick}
use Rattle.definition.specs.Lists.{rows}
use Rattle.definition.specs.declared.Arguments.{Arguments}
use Rattle.definition.specs.Classes.{types_of as names_of, Map, Method}
use Rattle.definition.specs.Verifier.{Note, TypeState, Flow, map_at, map_types, meet_local, meets, target, goes_on, maps_past}
use Rattle.classfile.specs.Reading.{map_count, map_numbered, file_version, class_name, quick_methods}
use Rattle.std.specs.Prelude as P
use Rattle.rows.specs.Posting.{Noted, noted, post_notes}
use Rattle.verifier.specs.declared.notes.Posted.{Posted}
use Rattle.verifier.specs.declared.notes.Rejected.{Rejected}
use Rattle.verifier.specs.Types.{entry_of}
use Rattle.verifier.specs.Effects.{meet_value, leaves}

-- Notes, and whether all demands are met

pub record Trace : Type 0 where
  pub notes : List Note
  pub accepts : Bool

abbrev pub refusing : Trace
refusing = record { notes = []; accepts = false }

abbrev pub accepting : Trace
accepting = record { notes = []; accepts = true }

unfoldable pub after : List Note → Trace → Trace
after ns t = record { notes = ns ++ t.notes; accepts = t.accepts }

-- one and then the other; a rejection ends it
unfoldable pub followed : Trace → Trace → Trace
followed w v = pick w.accepts (after w.notes v) w

-- Types that flow into a map: each against the map's

unfoldable pub meet_each : {A : Type 0} → (A → ℕ → Option (List Note)) → List A → List ℕ → Trace
meet_each f [] [] = accepting
meet_each f [] (n ∷ ns) = refusing
meet_each f (x ∷ xs) [] = refusing
meet_each f (x ∷ xs) (n ∷ ns) = elim (f x n) [ none ↦ refusing | some a ↦ after a (meet_each f xs ns) ]

-- k places from place i on, each by what it makes
unfoldable pub meet_from : (ℕ → Option (List Note)) → ℕ → ℕ → Trace
meet_from f zero i = accepting
meet_from f (suc k) i = elim (f i) [ none ↦ refusing | some a ↦ after a (meet_from f k (suc i)) ]

-- the values above the receiver at place d, one after another
unfoldable pub values_trace : List ℕ → ℕ → Arguments → Trace
values_trace o d a = meet_from (meet_value o d a) (length (names_of a)) 0

-- a map that could be met: at most 16 operands, as every file that reads has
unfoldable pub fits : Map → Bool
fits m = leb (length m.operands) operand_limit

-- as many operands as the map has, then locals, then operands from the lowest
unfoldable pub meet_trace : TypeState → Map → Trace
meet_trace s m =
    pick (fits m && eqb (length s.operands) (length m.operands))
    (followed (meet_each meet_local s.locals m.locals) (meet_each meets (reverse s.operands) m.operands)) refusing

-- One turn: an instruction's notes, and where the walk goes: nowhere, to the code's end, or to a point with its types

pub data Onward : Type 0 where
  refused accepted : Onward
  onto : ℕ → TypeState → Onward

pub record Turned : Type 0 where
  pub notes : List Note
  pub next : Onward

abbrev pub bound : Onward → Turned
bound o = record { notes = []; next = o }

-- after demands: a rejection goes nowhere
unfoldable pub once : Trace → Turned → Turned
once w t = pick w.accepts (record { notes = w.notes ++ t.notes; next = t.next }) (record { notes = w.notes; next = refused })

unfoldable pub onward : {A : Type 0} → Onward → A → A → (ℕ → TypeState → A) → A
onward refused a b k = a
onward accepted a b k = b
onward (onto q s) a b k = k q s

-- n is the length of the code
module _ (n : ℕ) (maps : List Map) where
  -- the flow into a target, which has a map
  unfoldable pub target_trace : Option ℕ → TypeState → Trace
  target_trace none s = accepting
  target_trace (some q) s = elim (map_at maps q) [ none ↦ refusing | some m ↦ meet_trace s m ]

  -- the flow into the next point
  unfoldable pub into_turn : ℕ → TypeState → Turned
  into_turn q s = elim (map_at maps q) [ none ↦ bound (onto q s) | some m ↦ once (meet_trace s m) (bound (onto q (map_types m))) ]

  -- nothing flows into the next point: the code ends there, or the types are the map's
  unfoldable pub start_turn : ℕ → Turned
  start_turn q = pick (eqb q n) (bound accepted) (elim (map_at maps q) [
    | none ↦ bound refused
    | some m ↦ pick (fits m) (bound (onto q (map_types m))) (bound refused)
  ])

  unfoldable pub next_turn : Bool → ℕ → TypeState → Turned
  next_turn true q s = into_turn q s
  next_turn false q s = start_turn q

  -- an instruction that ends at q and leaves the types s: the flow into its target, then that into the next point
  unfoldable pub flowing : Instruction → ℕ → TypeState → Turned
  flowing i q s = once (target_trace (target i) s) (next_turn (goes_on i) q s)

  -- its own notes come first
  unfoldable pub turned_to : Instruction → ℕ → Option Flow → Turned
  turned_to i q none = bound refused
  turned_to i q (some f) = once (record { notes = f.notes; accepts = true }) (flowing i q f.types)

module _ (version : ℕ) (code : List ℕ) (maps : List Map) (result : ℕ) where
  unfoldable pub turned_by : ℕ → TypeState → Option Decoded → Turned
  turned_by p s none = bound refused
  turned_by p s (some i) = turned_to (length code) maps i.instruction (p + i.size) (leaves i.instruction result s)

  -- the instruction at point p, where the types are s
  unfoldable pub turned : ℕ → TypeState → Turned
  turned p s = turned_by p s (decode version code p)

  -- where the walk goes from a turn; `more` are the maps behind the point
  unfoldable pub proceed : Turned → List Map → (ℕ → List Map → TypeState → Trace) → Trace
  proceed t more k = after t.notes (onward t.next refusing (pick (leb (length more) 0) accepting refusing) (λ q u. k q more u))

  -- from point p on, where the types are s, and the maps left lie at p or behind it
  unfoldable pub trace : ℕ → ℕ → List Map → TypeState → Trace
  trace zero p left s = refusing
  trace (suc k) p left s = elim (maps_past version code maps result p left) [ none ↦ refusing | some more ↦ proceed (turned p s) more (trace k) ]

  -- the whole: the flow from entry first
  unfoldable pub whole_trace : TypeState → Trace
  whole_trace s = proceed (into_turn (length code) maps 0 s) maps (trace (length code))

-- The maps left from map i on, off the bytes of the maps
unfoldable pub left_from : List ℕ → ℕ → List Map
left_from ms i = rows (map_numbered ms) (map_count ms - i) i

-- the notes, where they are accepted
unfoldable pub granted : Bool → List Note → Option (List Note)
granted true ns = some ns
granted false ns = none

unfoldable pub accepted_notes : Trace → Option (List Note)
accepted_notes t = granted t.accepts t.notes

-- What verifying answers and leaves of a table of subtype constraints: whether it accepts, and the rows with its notes posted

pub record Verification : Type 0 where
  pub accepts : Bool
  pub rows : Noted

abbrev pub verification : Bool → Noted → Verification
verification a k = record { accepts = a; rows = k }

-- what the code answers: how many rows of the table there are, and, of a flow into a map, the row at which the next one's notes are looked for first
abbrev pub answered : P.Result ℕ Rejected → List ℕ → Verification
answered (P.Ok n) xs = verification true (noted xs n)
answered (P.Err r) xs = verification false (noted xs r.count)

abbrev pub flowed : P.Result Posted Rejected → List ℕ → Verification
flowed (P.Ok p) xs = verification true (noted xs p.count)
flowed (P.Err r) xs = verification false (noted xs r.count)

-- the notes posted under a loader, behind the rows k
unfoldable pub posting : ℕ → Trace → Noted → Verification
posting loader w k = verification w.accepts (post_notes loader w.notes k)

pub record Turning : Type 0 where
  pub next : Onward
  pub rows : Noted

abbrev pub turning : Onward → Noted → Turning
turning o k = record { next = o; rows = k }

unfoldable pub taking : ℕ → Turned → Noted → Turning
taking loader t k = turning t.next (post_notes loader t.notes k)

-- Methods and classes

-- the walk over a method of the class of that version and name, with the bytes of its code and maps
unfoldable pub method_trace : ℕ → ℕ → Signature → List ℕ → List Map → Trace
method_trace version own s code maps = whole_trace version code maps s.result (entry_of own s)

unfoldable pub trace_of : ℕ → ℕ → Method → Trace
trace_of version own m = method_trace version own m.signature m.code m.maps

-- a class's methods in order: the first that is rejected ends the walk
unfoldable pub methods_trace : ℕ → ℕ → List Method → Trace
methods_trace version own [] = accepting
methods_trace version own (m ∷ ms) = followed (trace_of version own m) (methods_trace version own ms)

-- the methods of a class file, by the quick reading
unfoldable pub class_trace : List ℕ → Trace
class_trace bs = methods_trace (file_version bs) (class_name bs) (quick_methods bs)
