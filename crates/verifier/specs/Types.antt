-- The verifier's types as numbers. A class name is itself, int is 65536, null 65537, and 65538 in a local is unset.
use Rattle.std.specs.Prelude as P
use Rattle.std.proofs.Math.Option.{Option, none, some}
use Rattle.std.specs.Prelude.{List, [], ◌∷◌, map, ℕ, ◌%◌, get_or, eqb}
use Rattle.std.proofs.Math.ListN.{get_elem?}
use Rattle.definition.specs.declared.Arguments.{Arguments}
use Rattle.definition.specs.declared.Signature.{Signature}
use Rattle.definition.specs.Numbers.{local_count}
use Rattle.definition.specs.Classes.{types_of as argument_list, argument_types}
use Rattle.definition.specs.Instructions.{pick}
use Rattle.definition.specs.Lists.{filled, rows, stack}
use Rattle.definition.specs.Maybe.{◌>>=◌}
use Rattle.definition.specs.Verifier.{VerifierType, type_int, type_null, type_class, TypeState, type_of_name}
use Rattle.verifier.specs.declared.types.Types.{Types}
use Rattle.verifier.specs.declared.types.Popped.{Popped}

-- any number has a type, so that every state has a meaning: past null a class name is the low 16 bits
unfoldable pub type_of : ℕ → VerifierType
type_of n = pick (eqb n 65536) type_int (pick (eqb n 65537) type_null (type_class (n % 65536)))

unfoldable pub local_of : ℕ → Option VerifierType
local_of n = pick (eqb n 65538) none (some (type_of n))

unfoldable pub operand_at : List ℕ → ℕ → VerifierType
operand_at t i = type_of (get_or t i 0)

unfoldable pub local_at : List ℕ → ℕ → Option VerifierType
local_at t i = local_of (get_or t i 0)

unfoldable pub locals_of : List ℕ → List (Option VerifierType)
locals_of t = rows (local_at t) 8 0

-- the state that the numbers stand for; the operand pushed last is the highest of those in use
unfoldable pub types_of : Types → TypeState
types_of t = record { operands = stack (operand_at t.operands) t.depth; locals = locals_of t.locals }

-- point 0 of a method of the class of that name, with that signature
unfoldable pub entry_of : ℕ → Signature → TypeState
entry_of own s = record { operands = []; locals = filled local_count none (some (type_class own) ∷ map (λ n. some (type_of_name n)) (argument_types s)) }

-- the local of argument i there: unset where there is no such argument
unfoldable pub argument_local : Arguments → ℕ → Option VerifierType
argument_local a i = get_or (map (λ n. some (type_of_name n)) (argument_list a)) i none

-- the last operand, and those below it
unfoldable pub popped : List ℕ → P.Option Popped → Option (record { top : VerifierType; more : List VerifierType })
popped o P.None = none
popped o (P.Some p) = some (record { top = type_of p.top; more = stack (operand_at o) p.below })

-- the type of a local that is there and set
unfoldable pub known_local : List (Option VerifierType) → ℕ → Option VerifierType
known_local l i = get_elem? l i >>= λ x. x
