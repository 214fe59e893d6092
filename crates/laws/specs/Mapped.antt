-- Word 15, read both ways: a method isn't unmapped exactly if, of the instructions before the first that can't be read, each target has a map, and each that follows a
-- goto or a return has one. Where that holds the walk never wants for a state: what flows to a target fails only by types that don't fit its map, and behind a goto or
-- a return the walk stops only at code that can't be read. A verified method isn't unmapped.
use Rattle.std.proofs.Math.Path.{◌≡◌, refl}
use Rattle.std.proofs.Common.{sym, ◌∙◌, subst, inl, inr, arith}
use Rattle.std.specs.Prelude.{Bool, not, ◌&&◌, ◌||◌, ◌⊎◌, eqb, leb}
use Rattle.std.proofs.Math.Bool.{true, false}
use Rattle.std.proofs.lemmas.Bool.{false≢true, eqb-false}
use Rattle.std.proofs.Math.Option.{Option, none, some, none-ne-some, some-injective}
use mathlib.Core.List.{List, [], ◌∷◌, Memᴰ}
use Prim.Native.Nat.{ℕ, zero, suc, ◌+◌, ◌≤◌}
use Rattle.std.proofs.Math.ListN.{length}
use Rattle.definition.specs.Numbers.{version_two}
use Rattle.definition.specs.Lists.{any, is_none, to_list}
use Rattle.definition.specs.Classes.{Class, Map, Method}
use Rattle.definition.specs.Instructions.{Decoded, decode}
use Rattle.definition.specs.Maybe.{◌>>=◌}
use Rattle.definition.specs.Verifier.{Onward, TypeState, finished, flow_to_target, goes_on, map_at, map_types, meet_map, onto, start_at, target, unmapped, unmapped_from}
use Rattle.laws.specs.Sized.{within, sized}
use Rattle.laws.specs.Points.{points_from, points, point-here, point-none, no-points}

-- the first of two tests that both fail
or-false : (a b : Bool) → (a || b) ≡ false → (a ≡ false) × (b ≡ false)
or-false true b h = absurd (false≢true (sym h))
or-false false b h = (refl, h)

module _ (version : ℕ) (code : List ℕ) (maps : List Map) where
  abbrev pub HasMap : ℕ → Type 0
  HasMap p = (x : Map) × (map_at maps p ≡ some x)

  -- of the instruction i at point q: its target has a map, and so has the point behind a goto or return, where an instruction that is read starts there
  pub record Mapped (q : ℕ) (i : Decoded) : Type 0 where
    pub there : (p : ℕ) → target i.instruction ≡ some p → HasMap p
    pub then : goes_on i.instruction ≡ false → (j : Decoded) → decode version code (q + i.size) ≡ some j → HasMap (q + i.size)

  abbrev EachMapped : List ℕ → Type 0
  EachMapped ps = (q : ℕ) → Memᴰ q ps → (i : Decoded) → decode version code q ≡ some i → Mapped q i

  -- where point p follows a goto or return
  abbrev Follows : Bool → ℕ → Type 0
  Follows wants p = wants ≡ true → (j : Decoded) → decode version code p ≡ some j → HasMap p

  has-map : (p : ℕ) → is_none (map_at maps p) ≡ false → HasMap p
  unfolding is_none
  has-map p h = go (map_at maps p) refl h
    where
      go : (o : Option Map) → map_at maps p ≡ o → is_none o ≡ false → HasMap p
      go none e h = absurd (false≢true (sym h))
      go (some x) e h = (x, e)

  map-has : (p : ℕ) → HasMap p → is_none (map_at maps p) ≡ false
  unfolding is_none
  map-has p (x, e) = rw e refl

  targets-have : (o : Option ℕ) → any (λ q. is_none (map_at maps q)) (to_list o) ≡ false → (p : ℕ) → o ≡ some p → HasMap p
  unfolding any to_list
  targets-have o h p e = has-map p (go (is_none (map_at maps p)) (rw e at h))
    where
      go : (b : Bool) → (elim b as (λ _. Bool) [ true ↦ true | false ↦ false ]) ≡ false → b ≡ false
      go true h = h
      go false h = h

  have-targets : (o : Option ℕ) → ((p : ℕ) → o ≡ some p → HasMap p) → any (λ q. is_none (map_at maps q)) (to_list o) ≡ false
  unfolding any to_list
  have-targets none h = refl
  have-targets (some p) h = rw (map-has p (h p refl), any) refl

  wants-has : (wants : Bool) (p : ℕ) → (wants && is_none (map_at maps p)) ≡ false → wants ≡ true → HasMap p
  wants-has true p h e = has-map p h
  wants-has false p h e = absurd (false≢true e)

  has-wants : (wants : Bool) (p : ℕ) → (wants ≡ true → HasMap p) → (wants && is_none (map_at maps p)) ≡ false
  has-wants true p h = map-has p (h refl)
  has-wants false p h = refl

  goes-not : (b : Bool) → b ≡ false → not b ≡ true
  goes-not true e = absurd (false≢true (sym e))
  goes-not false e = refl

  not-goes : (b : Bool) → not b ≡ true → b ≡ false
  not-goes true e = absurd (false≢true e)
  not-goes false e = refl

  -- of the points from p on: p's instruction, and those behind it
  points-mapped : (n p : ℕ) (i : Decoded) → decode version code p ≡ some i → Mapped p i → EachMapped (points_from version code n (p + i.size)) → EachMapped (points_from version code (suc n) p)
  points-mapped n p i e h hs q m j d = go (mathlib.Core.List.Memᴰ.cases_cons x)
    where
      x : Memᴰ q (p ∷ points_from version code n (p + i.size))
      x = rw (point-here version code n p i e) at m

      go : (q ≡ p) ⊎ Memᴰ q (points_from version code n (p + i.size)) → Mapped q j
      go (inl z) = let y : i ≡ j = some-injective _ _ (sym e ∙ (rw z at d)) in rw (z, ← y) h
      go (inr y) = hs q y j d

  module _ (result : ℕ) where
    from-mapped : (n p : ℕ) (wants : Bool) → length code ≤ p + n → unmapped_from version code maps result n p wants ≡ false → Follows wants p × EachMapped (points_from version code n p)
    unfolding unmapped_from
    from-mapped zero p wants l h = ((λ w j e. absurd (omega (arith, within version code p j e))), (λ q m i e. no-points version code p q m))
    from-mapped (suc n) p wants l h = go (decode version code p) refl h (λ r w. from-mapped n r w)
      where
        go : (o : Option Decoded) → decode version code p ≡ o → (elim o as (λ _. Bool) [
          | none ↦ false
          | some i ↦ (wants && is_none (map_at maps p)) || any (λ q. is_none (map_at maps q)) (to_list (target i.instruction)) || unmapped_from version code maps result n (p + i.size) (not (goes_on i.instruction))
        ]) ≡ false → ((r : ℕ) (w : Bool) → length code ≤ r + n → unmapped_from version code maps result n r w ≡ false → Follows w r × EachMapped (points_from version code n r))
            → Follows wants p × EachMapped (points_from version code (suc n) p)
        go none e r ih =
            ((λ w j d. absurd (none-ne-some j (sym e ∙ d))), (λ q m i d. let x : Memᴰ q [] = rw (point-none version code (suc n) p e) at m in absurd (mathlib.Core.List.Memᴰ.not-nil x)))
        go (some i) e r ih =
            let a = or-false _ _ r in
            let b = or-false _ _ a.0 in
            let c = ih (p + i.size) (not (goes_on i.instruction)) (omega (arith, sized version code p i e)) a.1 in (
              (λ w j d. wants-has wants p b.0 w),
              points-mapped n p i e (record { there = targets-have (target i.instruction) b.1; then = λ g. c.0 (goes-not (goes_on i.instruction) g) }) c.1,
            )

    mapped-from : (n p : ℕ) (wants : Bool) → Follows wants p → EachMapped (points_from version code n p) → unmapped_from version code maps result n p wants ≡ false
    unfolding unmapped_from
    mapped-from zero p wants f h = refl
    mapped-from (suc n) p wants f h = go (decode version code p) refl (λ r w. mapped-from n r w)
      where
        go : (o : Option Decoded) → decode version code p ≡ o → ((r : ℕ) (w : Bool) → Follows w r → EachMapped (points_from version code n r) → unmapped_from version code maps result n r w ≡ false)
            → ◌≡◌ {A = Bool} (elim o as (λ _. Bool) [
              | none ↦ false
              | some i ↦ (wants && is_none (map_at maps p)) || any (λ q. is_none (map_at maps q)) (to_list (target i.instruction)) || unmapped_from version code maps result n (p + i.size) (not (goes_on i.instruction))
            ]) false
        go none e ih = refl
        go (some i) e ih =
            let all : EachMapped (p ∷ points_from version code n (p + i.size)) = rw (point-here version code n p i e) at h in
            let here = all p (mathlib.Core.List.Memᴰ.head refl) i e in
            rw (has-wants wants p (λ w. f w i e), have-targets (target i.instruction) here.there)
            (ih (p + i.size) (not (goes_on i.instruction)) (λ w. here.then (not-goes (goes_on i.instruction) w)) (λ q m. all q (mathlib.Core.List.Memᴰ.tail m)))

-- Of a method

abbrev pub AllMapped : Class → Method → Type 0
AllMapped k m = (q : ℕ) → Memᴰ q (points k m) → (i : Decoded) → decode k.version m.code q ≡ some i → Mapped k.version m.code m.maps q i

pub mapped-all : (k : Class) (m : Method) → leb version_two k.version ≡ true → unmapped k m ≡ false → AllMapped k m
unfolding unmapped
mapped-all k m v h =
    (from-mapped k.version m.code m.maps m.signature.result (length m.code) 0 false (omega arith) (subst (λ (b : Bool). (b && unmapped_from k.version m.code m.maps m.signature.result (length m.code) 0 false) ≡ false) v h)).1

pub all-mapped : (k : Class) (m : Method) → AllMapped k m → unmapped k m ≡ false
unfolding unmapped
all-mapped k m h =
    let z = mapped-from k.version m.code m.maps m.signature.result (length m.code) 0 false (λ w. absurd (false≢true w)) h in
    go (leb version_two k.version) _ z
  where
    go : (a b : Bool) → b ≡ false → (a && b) ≡ false
    go true b e = e
    go false b e = refl

-- Where all are mapped, the walk never wants for a map

start_none : (version : ℕ) (code : List ℕ) (maps : List Map) (result p : ℕ) → start_at version code maps result p ≡ none → (p ≡ length code → ⊥) × (map_at maps p ≡ none)
unfolding start_at ◌>>=◌
start_none version code maps result p h = go (eqb p (length code)) refl (map_at maps p) h
  where
    go : (b : Bool) → eqb p (length code) ≡ b → (o : Option Map) → ◌≡◌ {A = Option Onward} (elim b as (λ _. Option Onward) [ true ↦ some finished | false ↦ o >>= λ m. some (onto p (map_types m)) ]) none
        → (p ≡ length code → ⊥) × (o ≡ none)
    go true e o r = absurd (none-ne-some finished (sym r))
    go false e none r = (eqb-false p (length code) e, refl)
    go false e (some m) r = absurd (none-ne-some (onto p (map_types m)) (sym r))

module _ (k : Class) (m : Method) (all : AllMapped k m) (q : ℕ) (x : Memᴰ q (points k m)) (i : Decoded) (d : decode k.version m.code q ≡ some i) where
  -- what flows to a target fails only by types that don't fit the map there
  pub target-fails : (s : TypeState) → flow_to_target k.version m.code m.maps m.signature.result (target i.instruction) s ≡ none
      → (p : ℕ) × (y : Map) × (target i.instruction ≡ some p) × (map_at m.maps p ≡ some y) × (meet_map s y ≡ none)
  unfolding flow_to_target ◌>>=◌
  target-fails s h = go (target i.instruction) refl h
    where
      go : (o : Option ℕ) → target i.instruction ≡ o → flow_to_target k.version m.code m.maps m.signature.result o s ≡ none
          → (p : ℕ) × (y : Map) × (target i.instruction ≡ some p) × (map_at m.maps p ≡ some y) × (meet_map s y ≡ none)
      go none e r = absurd (none-ne-some [] (sym r))
      go (some p) e r = let y = (all q x i d).there p e in (p, y.0, e, y.1, rw (y.1, ◌>>=◌) at r)

  -- behind a goto or return the walk stops only where the code goes on and can't be read
  pub start-fails : goes_on i.instruction ≡ false → start_at k.version m.code m.maps m.signature.result (q + i.size) ≡ none
      → (decode k.version m.code (q + i.size) ≡ none) × (q + i.size ≡ length m.code → ⊥)
  start-fails g h = let a = start_none k.version m.code m.maps m.signature.result (q + i.size) h in (go a.1 (decode k.version m.code (q + i.size)) refl, a.0)
    where
      go : map_at m.maps (q + i.size) ≡ none → (o : Option Decoded) → decode k.version m.code (q + i.size) ≡ o → decode k.version m.code (q + i.size) ≡ none
      go z none e = e
      go z (some j) e = let y = (all q x i d).then g j e in absurd (none-ne-some y.0 (sym z ∙ y.1))
