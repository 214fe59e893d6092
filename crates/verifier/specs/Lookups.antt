-- The map at a point, by the place at which it begins, and where an instruction goes on.
use Rattle.std.specs.Prelude.{◌≡◌, Bool, false, ◌&&◌, ◌||◌, List, ℕ, ◌<◌, length, get_or, eqb, leb}
use Rattle.std.specs.Prelude as P
use Rattle.std.proofs.Math.Option.{Option, none, some}
use Rattle.definition.specs.declared.Instruction.{Instruction}
use Rattle.definition.specs.Instructions.{pick}
use Rattle.definition.specs.Lists.{any, is_none, to_list}
use Rattle.definition.specs.Classes.{Map, Method}
use Rattle.definition.specs.Verifier.{map_at, target, unmapped_from}
use Rattle.classfile.specs.Reading.{map_of, maps_of}

-- the map that begins at that place; 0 stands for none
unfoldable pub map_there : List ℕ → ℕ → Option Map
map_there ms r = pick (eqb r 0) none (some (map_of ms r))

unfoldable pub map_found : List ℕ → P.Option ℕ → Option Map
map_found ms P.None = none
map_found ms (P.Some r) = some (map_of ms r)

-- a table with the place of the map at each point that it reaches
unfoldable pub Indexed : List ℕ → List ℕ → Type 0
Indexed ms t = (q : ℕ) → q < length t → map_there ms (get_or t q 0) ≡ map_at (maps_of ms) q

-- point p lacks a map that it wants, or the target does
unfoldable pub lacking : List Map → ℕ → Bool → Instruction → Bool
lacking maps p wants i = (wants && is_none (map_at maps p)) || any (λ q. is_none (map_at maps q)) (to_list (target i))

-- a method of a class of that version is unmapped; `unmapped` of the definition says it of the class
unfoldable pub unmapped_in : ℕ → Method → Bool
unmapped_in version m = leb 2 version && unmapped_from version m.code m.maps m.signature.result (length m.code) 0 false
