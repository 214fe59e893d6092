-- Where a class file is refused: for 6 and 15 the first method, by its number in the file's order, at which the check fails, and the point of its code.
--
-- For 6 it is the point at which the walk stands when it stops: the instruction that can't be read, whose operands or locals don't fit, whose value isn't
-- the result's, from which the types don't flow into its target or into the next point, or, of a goto or return, behind which code goes on without a map;
-- point 0, where the types from entry don't meet the map there; the next point, where a map lies within an instruction; and the code's end, where the code
-- runs off it, or maps are left.
-- For 15 it is the instruction that has no map where it follows a goto or return, or whose target has none.
use Rattle.std.specs.Prelude.{Bool, true, false, not, ◌&&◌, ◌||◌, List, [], ◌∷◌, ℕ, zero, suc, ◌+◌, length, leb}
use Rattle.std.proofs.Math.Option.{Option, none, some}
use Rattle.definition.specs.Numbers.{word_file, word_unverified, word_unmapped, version_two}
use Rattle.definition.specs.Lists.{any, is_none, to_list}
use Rattle.definition.specs.Classes.{Class, Map, Method}
use Rattle.definition.specs.Instructions.{decode}
use Rattle.definition.specs.Verifier.{TypeState, finished, onto, map_at, target, goes_on, entry_types, flow_into, turn, maps_past}
use Rattle.definition.specs.File.{File, read_file, class_of}

module _ (version : ℕ) (code : List ℕ) (maps : List Map) where
  -- the point from p on at which the walk stops, where it isn't accepted; `verify` has the same turns
  unfoldable pub stops_from : ℕ → ℕ → ℕ → List Map → TypeState → Option ℕ
  stops_from result zero p left s = some p
  stops_from result (suc k) p left s = elim (maps_past version code maps result p left) [
    | none ↦ some p
    | some more ↦ elim (turn version code maps result p s) [
      | none ↦ some p
      | some t ↦ elim t.next [
        | finished ↦ elim (leb (length more) 0) [ true ↦ none | false ↦ some (length code) ]
        | onto q u ↦ stops_from result k q more u
      ]
    ]
  ]

  -- the point from p on that lacks a map, before the first instruction that can't be read; `unmapped_from` has the same turns
  unfoldable pub lacks_from : ℕ → ℕ → Bool → Option ℕ
  lacks_from zero p wants = none
  lacks_from (suc k) p wants = elim (decode version code p) [
    | none ↦ none
    | some i ↦ elim ((wants && is_none (map_at maps p)) || any (λ q. is_none (map_at maps q)) (to_list (target i.instruction))) [
      | true ↦ some p
      | false ↦ lacks_from k (p + i.size) (not (goes_on i.instruction))
    ]
  ]

  -- version 1 has no maps, and lacks none
  unfoldable pub lacks_at : Option ℕ
  lacks_at = elim (leb version_two version) [ true ↦ lacks_from (length code) 0 false | false ↦ none ]

unfoldable pub stops_in : Class → Method → Option ℕ
stops_in k m = elim (flow_into k.version m.code m.maps m.signature.result 0 (entry_types k m)) [
  | none ↦ some 0
  | some f ↦ stops_from k.version m.code m.maps m.signature.result (length m.code) 0 m.maps f.types
]

unfoldable pub lacks_in : Class → Method → Option ℕ
lacks_in k m = lacks_at k.version m.code m.maps

pub record Place : Type 0 where
  pub method : ℕ
  pub point : ℕ

abbrev pub place : ℕ → ℕ → Place
place j p = record { method = j; point = p }

-- the first of these methods that has such a point; the methods are numbered from j on
unfoldable pub first_place : (Method → Option ℕ) → ℕ → List Method → Option Place
first_place f j [] = none
first_place f j (m ∷ ms) = elim (f m) [ none ↦ first_place f (suc j) ms | some p ↦ some (place j p) ]

-- The desk's number, with the place of a 6 or 15; 0 and 2 have none

pub record Verdict : Type 0 where
  pub number : ℕ
  pub method : ℕ
  pub point : ℕ

abbrev pub unplaced : ℕ → Verdict
unplaced n = record { number = n; method = 0; point = 0 }

abbrev pub placed : ℕ → Place → Verdict
placed n q = record { number = n; method = q.method; point = q.point }

-- by where a map lacks, and where the walk stops
unfoldable pub verdict_by : Option Place → Option Place → Verdict
verdict_by (some q) o = placed word_unmapped q
verdict_by none (some q) = placed word_unverified q
verdict_by none none = unplaced 0

-- the verifier doesn't ask for the loader
unfoldable pub verdict_on : File → Verdict
verdict_on f = verdict_by (first_place (lacks_in (class_of 0 f)) 0 f.methods) (first_place (stops_in (class_of 0 f)) 0 f.methods)

unfoldable pub desk_verdict : List ℕ → Verdict
desk_verdict bs = elim (read_file bs) [ none ↦ unplaced word_file | some f ↦ verdict_on f ]

-- the cells of the answer
unfoldable pub verdict_cells : Verdict → List ℕ
verdict_cells v = v.number ∷ v.method ∷ v.point ∷ []
