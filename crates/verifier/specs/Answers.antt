-- What the answers of the walk's functions stand for.
use Rattle.std.specs.Prelude.{◌≡◌, List, [], ◌∷◌, ◌++◌, ℕ, ◌+◌, ◌*◌, ◌<◌, ◌≤◌, set}
use Rattle.std.specs.Prelude as P
use Rattle.std.proofs.Math.Option.{Option, none, some}
use Rattle.definition.specs.Lists.{stack}
use Rattle.definition.specs.Maybe.{◌>>=◌}
use Rattle.definition.specs.declared.Arguments.{Arguments}
use Rattle.definition.specs.Classes.{Map}
use Rattle.definition.specs.Verifier.{Note, TypeState, Flow, flow, meet_local, meets}
use Rattle.classfile.specs.Reading.{map_place, type_at}
use Rattle.verifier.specs.declared.effects.Meeting.{Meeting}
use Rattle.verifier.specs.declared.effects.Meeting.TheVariants.{Unmet, Met, Noted}
use Rattle.verifier.specs.declared.effects.Effect.{Effect}
use Rattle.verifier.specs.declared.effects.Effect.TheVariants.{Kept, Pushed, Stored, Ended}
use Rattle.verifier.specs.declared.types.Types.{Types}
use Rattle.verifier.specs.declared.changes.Change.{Change}
use Rattle.verifier.specs.declared.flows.Part.{Part}
use Rattle.verifier.specs.declared.flows.Part.TheVariants.{Locals, Operands}
use Rattle.verifier.specs.declared.quiet.Quiet.{Quiet}
use Rattle.verifier.specs.declared.quiet.Quiet.TheVariants.{Keeps, Pushes, Sets}
use Rattle.verifier.specs.declared.turns.Turn.{Turn}
use Rattle.verifier.specs.declared.notes.Rejected.{Rejected}
use Rattle.rows.specs.Posting.{noted}
use Rattle.verifier.specs.declared.methods.Ahead.{Ahead}
use Rattle.verifier.specs.Types.{type_of, local_of, local_at, operand_at, locals_of, types_of}
use Rattle.verifier.specs.Effects.{notes_in, Outcome, rejected, going, ending, left_by}
use Rattle.verifier.specs.Trace.{values_trace, Onward, refused, accepted, onto, Turned, bound, Turning, turning, left_from}

-- What an effect stands for

-- the state after the lowest d operands are kept
abbrev kept : Types → ℕ → List Note → Option Flow
kept s d ns = flow (stack (operand_at s.operands) d) (locals_of s.locals) ns

-- and a type is pushed on them
abbrev pushed : Types → ℕ → ℕ → List Note → Option Flow
pushed s d t ns = flow (type_of t ∷ stack (operand_at s.operands) d) (locals_of s.locals) ns

unfoldable pub outcome_of : Types → P.Option Effect → Outcome
outcome_of s P.None = rejected
outcome_of s (P.Some (Kept d a vs)) = going (notes_in a >>= λ x. kept s d (x ++ (values_trace s.operands d vs).notes))
outcome_of s (P.Some (Pushed d t a vs)) = going (notes_in a >>= λ x. pushed s d t (x ++ (values_trace s.operands d vs).notes))
outcome_of s (P.Some (Stored d i t)) = going (flow (stack (operand_at s.operands) d) (set (locals_of s.locals) i (local_of t)) [])
outcome_of s (P.Some (Ended a)) = ending (notes_in a)

unfoldable pub made : Meeting → List Note
made Unmet = []
made Met = []
made (Noted a b) = record { low = a; high = b } ∷ []

-- the flow to the types s, if the receiver at place d is met
unfoldable pub made_flow : Types → ℕ → Meeting → Arguments → Option Flow
made_flow s d a vs = notes_in a >>= λ x. some (record { types = types_of s; notes = x ++ (values_trace s.operands d vs).notes })

-- what an instruction leaves, if it fits
unfoldable pub change_of : P.Option Change → Option Flow
change_of P.None = none
change_of (P.Some c) = some (record { types = types_of c.types; notes = made c.receiver ++ (values_trace c.types.operands c.place c.names).notes })

-- the point at which the walk goes on, none at the code's end
unfoldable pub next_of : P.Option ℕ → TypeState → Onward
next_of P.None s = accepted
next_of (P.Some q) s = onto q s

-- what a turn answers and leaves of the types and of the table of subtype constraints
abbrev pub stepped : P.Result Turn Rejected → Types → List ℕ → Turning
stepped (P.Ok t) s xs = turning (next_of t.next (types_of s)) (noted xs t.count)
stepped (P.Err r) s xs = turning refused (noted xs r.count)

-- Turns without notes: the types that they leave

abbrev pub keeping : Types → ℕ → Types
keeping s d = record { operands = s.operands; locals = s.locals; depth = d }

abbrev pub pushing : Types → ℕ → ℕ → Types
pushing s d t = record { operands = set s.operands d t; locals = s.locals; depth = d + 1 }

abbrev pub setting : Types → ℕ → ℕ → ℕ → Types
setting s d i t = record { operands = s.operands; locals = set s.locals i t; depth = d }

-- an effect leaves them, and the walk goes to point q
unfoldable pub QuietBy : ℕ → Types → Effect → P.Option Quiet → Type 0
QuietBy q s e P.None = Unit {0}
QuietBy q s e (P.Some (Keeps p d)) = (p ≡ q) × (left_by (types_of s) (outcome_of s (P.Some e)) ≡ some (record { types = types_of (keeping s d); notes = [] }))
QuietBy q s e (P.Some (Pushes p d t)) = (p ≡ q) × (d < 16) × (left_by (types_of s) (outcome_of s (P.Some e)) ≡ some (record { types = types_of (pushing s d t); notes = [] }))
QuietBy q s e (P.Some (Sets p d i t)) = (p ≡ q) × (i < 8) × (left_by (types_of s) (outcome_of s (P.Some e)) ≡ some (record { types = types_of (setting s d i t); notes = [] }))

-- a turn goes on with them
unfoldable pub QuietTo : Turned → Types → P.Option Quiet → Type 0
QuietTo u s P.None = Unit {0}
QuietTo u s (P.Some (Keeps q d)) = u ≡ bound (onto q (types_of (keeping s d)))
QuietTo u s (P.Some (Pushes q d t)) = (d < 16) × (u ≡ bound (onto q (types_of (pushing s d t))))
QuietTo u s (P.Some (Sets q d i t)) = (i < 8) × (u ≡ bound (onto q (types_of (setting s d i t))))

-- place i of a part of the types against the map that begins at that place of the bytes
unfoldable pub meet_at : List ℕ → ℕ → List ℕ → Part → ℕ → Option (List Note)
meet_at ms place v Locals i = meet_local (local_at v i) (type_at ms (place + 2) i)
meet_at ms place v Operands i = meets (operand_at v i) (type_at ms (place + 19) i)

-- a map's place, and that it is so low that the next is within 32 bits: a map takes at most 529 bytes
abbrev pub PlaceOf : List ℕ → ℕ → ℕ → Type 0
PlaceOf ms j r = (r ≡ map_place ms j) × (r ≤ 1 + 529 * j)

-- the maps left behind a point, from map j on, whose place is r
unfoldable pub Passes : List ℕ → P.Option Ahead → Option (List Map) → Type 0
Passes ms P.None o = o ≡ none
Passes ms (P.Some a) o = (o ≡ some (left_from ms a.number)) × PlaceOf ms a.number a.place
