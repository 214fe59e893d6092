-- The point at which a check of a method fails, as the code finds it, and the first such method of a class file.
use Rattle.std.specs.Prelude as P
use Rattle.std.proofs.Math.Option.{Option, none, some}
use Rattle.std.specs.Prelude.{List, ℕ, zero, suc, length, leb}
use Rattle.definition.specs.Instructions.{pick}
use Rattle.definition.specs.declared.Signature.{Signature}
use Rattle.definition.specs.Classes.{Map, Method}
use Rattle.definition.specs.Verifier.{TypeState, maps_past}
use Rattle.verifier.specs.declared.places.Check.{Check}
use Rattle.verifier.specs.declared.places.Check.TheVariants.{Maps, Types}
use Rattle.verifier.specs.declared.places.Found.{Found}
use Rattle.verifier.specs.Types.{entry_of}
use Rattle.verifier.specs.Trace.{Turned, onward, into_turn, turned}
use Rattle.definition.specs.Places.{lacks_at, Place, place}

unfoldable pub place_of : P.Option Found → Option Place
place_of P.None = none
place_of (P.Some f) = some (place f.method f.point)

-- code of n bytes ends where all maps are behind
unfoldable pub stop_at_end : ℕ → List Map → Option ℕ
stop_at_end n more = pick (leb (length more) 0) none (some n)

module _ (version : ℕ) (code : List ℕ) (maps : List Map) (result : ℕ) where
  -- where the walk stops after a turn at point p; `more` are the maps behind the point
  unfoldable pub stopping : ℕ → Turned → List Map → (ℕ → List Map → TypeState → Option ℕ) → Option ℕ
  stopping p t more k = onward t.next (some p) (stop_at_end (length code) more) (λ q u. k q more u)

  unfoldable pub stops : ℕ → ℕ → List Map → TypeState → Option ℕ
  stops zero p left s = some p
  stops (suc k) p left s = elim (maps_past version code maps result p left) [ none ↦ some p | some more ↦ stopping p (turned version code maps result p s) more (stops k) ]

  -- the flow from entry first
  unfoldable pub whole_stop : TypeState → Option ℕ
  whole_stop s = stopping 0 (into_turn (length code) maps 0 s) maps (stops (length code))

-- the point at which a check of a method fails, of the class of that version and name
unfoldable pub check_point : Check → ℕ → ℕ → Signature → List ℕ → List Map → Option ℕ
check_point Maps version own s code maps = lacks_at version code maps
check_point Types version own s code maps = whole_stop version code maps s.result (entry_of own s)

unfoldable pub check_in : Check → ℕ → ℕ → Method → Option ℕ
check_in check version own m = check_point check version own m.signature m.code m.maps
