-- What an instruction comes to, and under which notes demands are met.
use Rattle.std.proofs.Math.Option.{Option, none, some}
use Rattle.std.specs.Prelude.{List, [], ◌∷◌, ℕ, ◌+◌, get_or}
use Rattle.definition.specs.declared.Instruction.{Instruction}
use Rattle.definition.specs.declared.Arguments.{Arguments}
use Rattle.definition.specs.Classes.{types_of as names_of}
use Rattle.definition.specs.Verifier.{Note, TypeState, Flow, meets, effect, returns, return_kind}
use Rattle.verifier.specs.declared.effects.Meeting.{Meeting}
use Rattle.verifier.specs.declared.effects.Meeting.TheVariants.{Unmet, Met, Noted}
use Rattle.verifier.specs.Types.{operand_at}

-- the notes under which a demand is met
unfoldable pub notes_in : Meeting → Option (List Note)
notes_in Unmet = none
notes_in Met = some []
notes_in (Noted a b) = some (record { low = a; high = b } ∷ [])

-- value i above the receiver at place d, where name i is demanded
unfoldable pub meet_value : List ℕ → ℕ → Arguments → ℕ → Option (List Note)
meet_value o d a i = meets (operand_at o (d + 1 + i)) (get_or (names_of a) i 0)

-- rejected, on to the next instruction, or a return that fits
pub data Outcome : Type 0 where
  rejected : Outcome
  goes : Flow → Outcome
  ends : List Note → Outcome

unfoldable pub going : Option Flow → Outcome
going none = rejected
going (some f) = goes f

unfoldable pub ending : Option (List Note) → Outcome
ending none = rejected
ending (some ns) = ends ns

-- an instruction, where the result type is r and the types are s
unfoldable pub outcome : Instruction → ℕ → TypeState → Outcome
outcome i r s = elim (return_kind i) [ some kind ↦ ending (returns kind r s) | none ↦ going (effect i s) ]

-- what it leaves; a return leaves the types as they are
unfoldable pub left_by : TypeState → Outcome → Option Flow
left_by s rejected = none
left_by s (goes f) = some f
left_by s (ends ns) = some (record { types = s; notes = ns })

unfoldable pub leaves : Instruction → ℕ → TypeState → Option Flow
leaves i r s = left_by s (outcome i r s)
