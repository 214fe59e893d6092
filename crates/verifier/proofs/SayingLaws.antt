-- One turn of the walk: the definition says what the code's turn says, nothing where it goes nowhere, as long as no map has more than 16 operands.
use mathlib.Core.Path.{◌≡◌, refl, ◌∙◌}
use mathlib.Core.Bool.{Bool, true, false}
use mathlib.Core.Option.{Option, none, some}
use mathlib.Core.List.{List, [], ◌++◌, append-nil}
use Prim.Native.Nat.{ℕ, ◌+◌, ◌≤◌}
use lib.ListN.{length}
use lib.Dec.{eqb}
use borrow.Author.Tests.{le-leb}
use Rattle.definition.specs.declared.Kind.{Kind}
use Rattle.definition.specs.declared.Instruction.{Instruction}
use Rattle.definition.specs.declared.Instruction.TheVariants.{AconstNull, Sipush, Load, Store, Pop, Dup, Arithmetic, Getfield, Putfield, Invokevirtual, New, Return, Branch}
use Rattle.definition.specs.Instructions.{Decoded, decode, pick}
use Rattle.definition.specs.Maybe.{◌>>=◌}
use Rattle.definition.specs.Classes.{Map}
use Rattle.definition.specs.Verifier.{Note, TypeState, Flow, Turn, Onward as Going, finished, onto as goes_onto, meet_map, map_at, map_types, target, goes_on, return_kind, returns, effect, flow_into, flow_to_target, start_at, after as after_flow, turn}
use Rattle.verifier.specs.Effects.{going, ending, outcome, left_by, leaves}
use Rattle.verifier.specs.Trace.{Trace, fits, meet_trace, Onward, refused, accepted, onto, Turned, bound, once, target_trace, into_turn, start_turn, next_turn, flowing, turned_to, turned_by, turned, granted, accepted_notes}
use Rattle.verifier.proofs.MeetLaws.{map-says}

-- what a turn says
unfoldable pub said : List Note → Onward → Option Turn
said ns refused = none
said ns accepted = some (record { notes = ns; next = finished })
said ns (onto q s) = some (record { notes = ns; next = goes_onto q s })

unfoldable pub turn_said : Turned → Option Turn
turn_said t = said t.notes t.next

-- with notes before it
abbrev noting : List Note → Turn → Turn
noting ns t = record { notes = ns ++ t.notes; next = t.next }

-- the notes of a flow to point p, and the types there
abbrev pub flown : ℕ → Flow → Option Turn
flown p g = some (record { notes = g.notes; next = goes_onto p g.types })

once-says : (w : Trace) (t : Turned) → turn_said (once w t) ≡ (accepted_notes w >>= λ ns. turn_said t >>= λ u. some (noting ns u))
unfolding turn_said said once accepted_notes granted pick ◌>>=◌
once-says w t = go w.accepts t.next
  where
    go : (b : Bool) (o : Onward)
        → turn_said (pick b (record { notes = w.notes ++ t.notes; next = o }) (record { notes = w.notes; next = refused }))
        ≡ (granted b w.notes >>= λ ns. said t.notes o >>= λ u. some (noting ns u))
    go true refused = refl
    go true accepted = refl
    go true (onto q s) = refl
    go false o = refl

-- a return flows nowhere
last : (i : Instruction) (k : Kind) → return_kind i ≡ some k → (target i ≡ none) × (goes_on i ≡ false)
unfolding return_kind target goes_on
last (Return kind) k e = (refl, refl)
last AconstNull k e = (cc, cc)
last (Sipush n) k e = (cc, cc)
last (Load kind i) k e = (cc, cc)
last (Store kind i) k e = (cc, cc)
last Pop k e = (cc, cc)
last Dup k e = (cc, cc)
last (Arithmetic o) k e = (cc, cc)
last (Getfield c f t) k e = (cc, cc)
last (Putfield c f t) k e = (cc, cc)
last (Invokevirtual c m) k e = (cc, cc)
last (New c) k e = (cc, cc)
last (Branch c p) k e = (cc, cc)

module _ (version : ℕ) (code : List ℕ) (maps : List Map) (result : ℕ) (few : (p : ℕ) (m : Map) → map_at maps p ≡ some m → length m.operands ≤ 16) where
  target-says : (t : Option ℕ) (s : TypeState) → accepted_notes (target_trace (length code) maps t s) ≡ flow_to_target version code maps result t s
  unfolding target_trace flow_to_target accepted_notes granted ◌>>=◌
  target-says none s = refl
  target-says (some p) s = go (map_at maps p) refl
    where
      go : (o : Option Map) → map_at maps p ≡ o → accepted_notes (target_trace (length code) maps (some p) s) ≡ flow_to_target version code maps result (some p) s
      go none e = rw (e, target_trace) refl
      go (some m) e = rw (e, target_trace) (map-says s m (few p m e))

  pub into-says : (p : ℕ) (s : TypeState) → turn_said (into_turn (length code) maps p s) ≡ (flow_into version code maps result p s >>= flown p)
  unfolding into_turn flow_into turn_said said ◌>>=◌
  into-says p s = go (map_at maps p) refl
    where
      met : (m : Map) (o : Option (List Note))
          → (o >>= λ ns. some (record { notes = ns ++ []; next = goes_onto p (map_types m) }))
          ≡ ((o >>= λ ns. some (record { types = map_types m; notes = ns })) >>= flown p)
      met m none = refl
      met m (some ns) = rw (append-nil ns)

      go : (o : Option Map) → map_at maps p ≡ o → turn_said (into_turn (length code) maps p s) ≡ (flow_into version code maps result p s >>= flown p)
      go none e = rw (e, into_turn, flow_into) refl
      go (some m) e =
          rw (e, into_turn, flow_into)
          (once-says (meet_trace s m) (bound (onto p (map_types m))) ∙ rw (map-says s m (few p m e)) (met m (meet_map s m)))

  start-says : (p : ℕ) → turn_said (start_turn (length code) maps p) ≡ (start_at version code maps result p >>= λ o. some (record { notes = []; next = o }))
  unfolding start_turn start_at turn_said said fits pick ◌>>=◌
  start-says p = go (eqb p (length code)) refl (map_at maps p) refl
    where
      go : (b : Bool) → eqb p (length code) ≡ b → (o : Option Map) → map_at maps p ≡ o
          → turn_said (start_turn (length code) maps p) ≡ (start_at version code maps result p >>= λ o. some (record { notes = []; next = o }))
      go true e o q = rw (e, start_at) refl
      go false e none q = rw (e, start_at, q) refl
      go false e (some m) q = rw (e, start_at, q, le-leb (length m.operands) 16 (few p m q)) refl

  after-says : (i : Instruction) (p : ℕ) (f : Flow) → turn_said (turned_to (length code) maps i p (some f)) ≡ after_flow version code maps result i p f
  unfolding turned_to flowing next_turn after_flow accepted_notes granted ◌>>=◌
  after-says i p f =
      once-says (record { notes = f.notes; accepts = true }) (flowing (length code) maps i p f.types)
      ∙ rw (once-says (target_trace (length code) maps (target i) f.types) (next_turn (length code) maps (goes_on i) p f.types), target-says (target i) f.types)
      (go (flow_to_target version code maps result (target i) f.types) (goes_on i))
    where
      goes : (ts : List Note) (o : Option Flow)
          → (((o >>= flown p) >>= λ u. some (noting ts u)) >>= λ u. some (noting f.notes u))
          ≡ (o >>= λ g. some (record { notes = f.notes ++ (ts ++ g.notes); next = goes_onto p g.types }))
      goes ts none = refl
      goes ts (some g) = refl

      starts : (ts : List Note) (o : Option Going)
          → (((o >>= λ x. some (record { notes = []; next = x })) >>= λ u. some (noting ts u)) >>= λ u. some (noting f.notes u))
          ≡ (o >>= λ x. some (record { notes = f.notes ++ ts; next = x }))
      starts ts none = refl
      starts ts (some x) = rw (append-nil ts)

      go : (o : Option (List Note)) (b : Bool)
          → ((o >>= λ ts. turn_said (next_turn (length code) maps b p f.types) >>= λ u. some (noting ts u)) >>= λ u. some (noting f.notes u))
          ≡ (o >>= λ ts. elim b [
            | true ↦ flow_into version code maps result p f.types >>= λ g. some (record { notes = f.notes ++ (ts ++ g.notes); next = goes_onto p g.types })
            | false ↦ start_at version code maps result p >>= λ x. some (record { notes = f.notes ++ ts; next = x })
          ])
      go none b = refl
      go (some ts) true = rw (into-says p f.types) (goes ts (flow_into version code maps result p f.types))
      go (some ts) false = rw (start-says p) (starts ts (start_at version code maps result p))

  -- a return leaves the types as they are, and flows nowhere
  return-says : (i : Instruction) (k : Kind) (p : ℕ) (s : TypeState) → return_kind i ≡ some k → (ns : List Note)
      → turn_said (turned_to (length code) maps i p (some (record { types = s; notes = ns })))
      ≡ (start_at version code maps result p >>= λ o. some (record { notes = ns; next = o }))
  unfolding after_flow flow_to_target ◌>>=◌
  return-says i k p s e ns =
      after-says i p (record { types = s; notes = ns })
      ∙ rw ((last i k e).0, (last i k e).1, append-nil ns)

  leaves-says : (i : Instruction) (p : ℕ) (s : TypeState)
      → turn_said (turned_to (length code) maps i p (leaves i result s))
      ≡ (elim (return_kind i) [
        | some kind ↦ returns kind result s >>= λ ns. start_at version code maps result p >>= λ o. some (record { notes = ns; next = o })
        | none ↦ effect i s >>= λ f. after_flow version code maps result i p f
      ])
  unfolding leaves left_by outcome going ending turned_to turn_said said ◌>>=◌
  leaves-says i p s = go (return_kind i) refl
    where
      left : (o : Option Flow) → turn_said (turned_to (length code) maps i p (left_by s (going o))) ≡ (o >>= λ f. after_flow version code maps result i p f)
      left none = refl
      left (some f) = after-says i p f

      ended : (k : Kind) → return_kind i ≡ some k → (o : Option (List Note))
          → turn_said (turned_to (length code) maps i p (left_by s (ending o)))
          ≡ (o >>= λ ns. start_at version code maps result p >>= λ x. some (record { notes = ns; next = x }))
      ended k e none = refl
      ended k e (some ns) = return-says i k p s e ns

      go : (u : Option Kind) → return_kind i ≡ u
          → turn_said (turned_to (length code) maps i p (left_by s (elim u [ some kind ↦ ending (returns kind result s) | none ↦ going (effect i s) ])))
          ≡ (elim u [
            | some kind ↦ returns kind result s >>= λ ns. start_at version code maps result p >>= λ o. some (record { notes = ns; next = o })
            | none ↦ effect i s >>= λ f. after_flow version code maps result i p f
          ])
      go none e = left (effect i s)
      go (some k) e = ended k e (returns k result s)

  pub turn-says : (p : ℕ) (s : TypeState) → turn_said (turned version code maps result p s) ≡ turn version code maps result p s
  unfolding turned turned_by turn turn_said said ◌>>=◌
  turn-says p s = go (decode version code p)
    where
      go : (d : Option Decoded) → turn_said (turned_by version code maps result p s d)
          ≡ (d >>= λ i. elim (return_kind i.instruction) [
            | some kind ↦ returns kind result s >>= λ ns. start_at version code maps result (p + i.size) >>= λ o. some (record { notes = ns; next = o })
            | none ↦ effect i.instruction s >>= λ f. after_flow version code maps result i.instruction (p + i.size) f
          ])
      go none = refl
      go (some i) = leaves-says i.instruction (p + i.size) s
