-- The verifier says of a method what the code's walk says: the walk's notes where it accepts, and nothing where it rejects, as long as no map has more than 16
-- operands.
use mathlib.Core.Path.{◌≡◌, refl, sym, ap, ◌∙◌}
use mathlib.Core.Bool.{Bool, true, false}
use mathlib.Core.Option.{Option, none, some}
use mathlib.Core.List.{List, ◌++◌, append-nil}
use Prim.Native.Nat.{ℕ, zero, suc, ◌≤◌}
use lib.ListN.{length}
use lib.Dec.{leb}
use Rattle.definition.specs.Instructions.{pick}
use Rattle.definition.specs.Maybe.{◌>>=◌, need}
use Rattle.definition.specs.Classes.{Class, Map, Method}
use Rattle.definition.specs.Verifier.{Note, TypeState, Flow, finished, onto as goes_onto, map_at, flow_into, turn, maps_past, verify, entry_types, notes_of_method}
use Rattle.verifier.specs.Types.{entry_of}
use Rattle.verifier.specs.Trace.{Trace, after, refusing, accepting, Onward, refused, accepted, onto, Turned, onward, into_turn, turned, proceed, trace, whole_trace, granted, accepted_notes, method_trace}
use Rattle.verifier.proofs.MeetLaws.{granted-after}
use Rattle.verifier.proofs.SayingLaws.{said, turn_said, flown, into-says, turn-says}

module _ (version : ℕ) (code : List ℕ) (maps : List Map) (result : ℕ) (few : (p : ℕ) (m : Map) → map_at maps p ≡ some m → length m.operands ≤ 16) where
  -- from a turn on
  proceed-says : (t : Turned) (more : List Map) (rest : ℕ → List Map → TypeState → Option (List Note)) (walk : ℕ → List Map → TypeState → Trace)
      → ((q : ℕ) (u : TypeState) → rest q more u ≡ accepted_notes (walk q more u))
      → (turn_said t >>= λ u. elim u.next [
        | finished ↦ need (leb (length more) 0) >>= λ _. some u.notes
        | goes_onto q x ↦ rest q more x >>= λ ns. some (u.notes ++ ns)
      ]) ≡ accepted_notes (proceed version code maps result t more walk)
  unfolding proceed turn_said said onward after accepted_notes granted need pick ◌>>=◌
  proceed-says t more rest walk same = go t.next (leb (length more) 0)
    where
      ns : List Note
      ns = t.notes

      go : (o : Onward) (b : Bool)
          → (said ns o >>= λ u. elim u.next [ finished ↦ need b >>= λ _. some u.notes | goes_onto q x ↦ rest q more x >>= λ rs. some (u.notes ++ rs) ])
          ≡ accepted_notes (after ns (onward o refusing (pick b accepting refusing) (λ q u. walk q more u)))
      go refused b = refl
      go accepted true = ap some (sym (append-nil ns))
      go accepted false = refl
      go (onto q x) b = rw (same q x) (sym (granted-after ns (walk q more x)))

  -- from a point on, where the steps after it say the same
  step-says : (k p : ℕ) (s : TypeState) (o : Option (List Map))
      → ((q : ℕ) (left : List Map) (u : TypeState) → verify version code maps result k q left u ≡ accepted_notes (trace version code maps result k q left u))
      → (o >>= λ more. turn version code maps result p s >>= λ t. elim t.next [
        | finished ↦ need (leb (length more) 0) >>= λ _. some t.notes
        | goes_onto q u ↦ verify version code maps result k q more u >>= λ ns. some (t.notes ++ ns)
      ]) ≡ accepted_notes (elim o [
        | none ↦ refusing
        | some more ↦ proceed version code maps result (turned version code maps result p s) more (trace version code maps result k)
      ])
  unfolding accepted_notes granted ◌>>=◌
  step-says k p s none same = refl
  step-says k p s (some more) same =
      rw (← (turn-says version code maps result few p s))
      (proceed-says (turned version code maps result p s) more (verify version code maps result k) (trace version code maps result k) (λ q u. same q more u))

  pub says : (k p : ℕ) (left : List Map) (s : TypeState) → verify version code maps result k p left s ≡ accepted_notes (trace version code maps result k p left s)
  unfolding verify trace accepted_notes granted
  says zero p left s = refl
  says (suc k) p left s = step-says k p s (maps_past version code maps result p left) (says k)

  -- the flow from entry first
  whole_says : (s : TypeState)
      → (flow_into version code maps result 0 s >>= λ f. verify version code maps result (length code) 0 maps f.types >>= λ ns. some (f.notes ++ ns))
      ≡ accepted_notes (whole_trace version code maps result s)
  unfolding whole_trace ◌>>=◌
  whole_says s =
      go (flow_into version code maps result 0 s) (into-says version code maps result few 0 s)
      ∙ proceed-says (into_turn (length code) maps 0 s) maps (verify version code maps result (length code)) (trace version code maps result (length code))
      (λ q u. says (length code) q maps u)
    where
      go : (o : Option Flow) → turn_said (into_turn (length code) maps 0 s) ≡ (o >>= flown 0)
          → (o >>= λ f. verify version code maps result (length code) 0 maps f.types >>= λ ns. some (f.notes ++ ns))
          ≡ (turn_said (into_turn (length code) maps 0 s) >>= λ u. elim u.next [
            | finished ↦ need (leb (length maps) 0) >>= λ _. some u.notes
            | goes_onto q x ↦ verify version code maps result (length code) q maps x >>= λ ns. some (u.notes ++ ns)
          ])
      go none e = rw e refl
      go (some f) e = rw e refl

-- For callers: what the verifier says of a method
pub method-says : (k : Class) (m : Method) → ((p : ℕ) (x : Map) → map_at m.maps p ≡ some x → length x.operands ≤ 16)
    → notes_of_method k m ≡ accepted_notes (method_trace k.version k.name m.signature m.code m.maps)
unfolding method_trace entry_of notes_of_method
method-says k m few = whole_says k.version m.code m.maps m.signature.result few (entry_types k m)
