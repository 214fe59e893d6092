-- The maps left as the walk goes on: none, or the first lies at the point, behind it, or before it.
use mathlib.Core.Path.{◌≡◌, refl, sym}
use mathlib.Core.Bool.{Bool, true, false}
use mathlib.Core.Option.{none, some}
use mathlib.Core.List.{List, ◌∷◌}
use Prim.Native.Nat.{ℕ, ◌+◌, ◌-◌, ◌≤◌, ◌<◌}
use native.Mathlib.Omega.{arith}
use lib.ListN.{length}
use lib.Dec.{leb}
use borrow.Author.Tests.{le-leb, lt-leb, leb-true, leb-false, eq-eqb, ne_eqb, lt-ltb, le-ltb}
use Rattle.definition.specs.Classes.{Map}
use Rattle.definition.specs.Maybe.{◌>>=◌, need}
use Rattle.definition.specs.Verifier.{maps_past}
use Rattle.layout.specs.Places.{rows-length, rows_step, rows_none}
use Rattle.classfile.specs.Reading.{map_count, map_numbered}
use Rattle.verifier.specs.Trace.{left_from}

module _ (version : ℕ) (code : List ℕ) (all : List Map) (result : ℕ) (ms : List ℕ) (i p : ℕ) where
  pub pass-none : map_count ms ≤ i → maps_past version code all result p (left_from ms i) ≡ some (left_from ms i)
  unfolding left_from maps_past
  pass-none h = rw (rows_none (map_numbered ms) (map_count ms) i h) refl

  module _ (h : i < map_count ms) where
    first : left_from ms i ≡ map_numbered ms i ∷ left_from ms (i + 1)
    unfolding left_from
    first = rows_step (map_numbered ms) (map_count ms) i h

    pub pass-at : (map_numbered ms i).offset ≡ p → maps_past version code all result p (left_from ms i) ≡ some (left_from ms (i + 1))
    unfolding maps_past
    pass-at e = rw (first, maps_past, eq-eqb (map_numbered ms i).offset p e) refl

    pub pass-inside : (map_numbered ms i).offset < p → maps_past version code all result p (left_from ms i) ≡ none
    unfolding maps_past need ◌>>=◌
    pass-inside e = rw (first, maps_past, ne_eqb (map_numbered ms i).offset p (λ z. omega arith), le-ltb p (map_numbered ms i).offset (omega arith)) refl

    pub pass-before : p < (map_numbered ms i).offset → maps_past version code all result p (left_from ms i) ≡ some (left_from ms i)
    unfolding maps_past need ◌>>=◌
    pass-before e =
        rw (first, maps_past, ne_eqb (map_numbered ms i).offset p (λ z. omega arith), lt-ltb p (map_numbered ms i).offset e) refl

-- none is left from map j on exactly if there are no more than j
pub left-none : (ms : List ℕ) (j : ℕ) → leb (map_count ms) j ≡ leb (length (left_from ms j)) 0
unfolding left_from
left-none ms j = rw (rows-length (map_numbered ms) (map_count ms - j) j) (go (leb (map_count ms) j) refl)
  where
    go : (b : Bool) → leb (map_count ms) j ≡ b → b ≡ leb (map_count ms - j) 0
    go true e = sym (le-leb (map_count ms - j) 0 (omega (arith, leb-true (map_count ms) j e)))
    go false e = sym (lt-leb (map_count ms - j) 0 (omega (arith, leb-false (map_count ms) j e)))
