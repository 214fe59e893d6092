-- The chain that is kept of those that searches find: the shortest, and of those the one whose row goes first at the earliest difference.
use Rattle.std.specs.Prelude.{◌≡◌, Bool, true, false, ◌&&◌, List, [], ◌∷◌, ◌⊎◌, ℕ, zero, suc, ◌<◌, ◌≤◌, length, get_or, eqb, ltb}
use Rattle.std.specs.Prelude as P
use Rattle.std.proofs.Math.Option.{Option, none, some}
use Rattle.definition.specs.Lists.{rows}
use Rattle.definition.specs.Reasons.{precedes}
use Rattle.laws.specs.Earlier.{row_before}
use Rattle.constraints.specs.Nodes.{place_limit}
use Rattle.constraints.specs.Walks.{Walk, trail, bad_over, ends_over}

-- the chain in the first cells of a table, if there is one, of a size
abbrev pub held : List ℕ → P.Option ℕ → Option (List ℕ)
held best P.None = none
held best (P.Some size) = some (rows (λ i. get_or best i 0) size 0)

-- a table with room for a chain, and a size
pub record Holds (best : List ℕ) (size : P.Option ℕ) : Type 0 where
  pub long : length best ≡ place_limit
  pub fits : P.IfSome size (λ n. n ≤ place_limit)

unfoldable pub pick : Option (List ℕ) → List ℕ → Option (List ℕ)
pick none t = some t
pick (some ns) t = elim (ltb (length t) (length ns)) [
  | true ↦ some t
  | false ↦ elim (eqb (length t) (length ns) && precedes row_before t ns) [ true ↦ some t | false ↦ some ns ]
]

module _ (tos labels dists ways : List ℕ) where
  -- the chain from node q, if it was found
  unfoldable pub considered : ℕ → Option (List ℕ) → Option (List ℕ)
  considered q o = elim (get_or dists q 0) [ zero ↦ o | suc k ↦ pick o (trail tos labels ways k q) ]

  -- those from n nodes from q on that are of class c
  module _ (classes : List ℕ) (c : ℕ) where
    unfoldable pub considered_all : ℕ → ℕ → Option (List ℕ) → Option (List ℕ)
    considered_all zero q o = o
    considered_all (suc n) q o = considered_all n (suc q) (elim (eqb (get_or classes q 0) c) [ true ↦ considered q o | false ↦ o ])

-- ms is no better than what is kept
abbrev pub NoBetter : Option (List ℕ) → List ℕ → Type 0
NoBetter none ms = ⊥
NoBetter (some ns) ms = (length ns ≤ length ms) × (length ms ≡ length ns → precedes row_before ms ns ≡ false)

module _ (froms tos labels : List ℕ) (count : ℕ) (classes : List ℕ) (cached : ℕ) where
  -- what is kept is what was kept or a walk from a cached request of class c, and no such walk is better, nor any list that wasn't before
  pub record ChosenFor (c : ℕ) (ends : ℕ → Bool) (old new : Option (List ℕ)) : Type 0 where
    pub sound : (ns : List ℕ) → new ≡ some ns → (old ≡ some ns) ⊎ ((q : ℕ) × (q < cached) × (get_or classes q 0 ≡ c) × Walk froms tos labels count ends q ns)
    pub all : (q : ℕ) (ms : List ℕ) → q < cached → get_or classes q 0 ≡ c → Walk froms tos labels count ends q ms → NoBetter new ms
    pub still : (ms : List ℕ) → NoBetter old ms → NoBetter new ms

  module _ (only : Bool) (sup : ℕ → Option ℕ) where
    -- a walk from cached request q to one whose class is bad for its own
    abbrev pub WalkFrom : ℕ → List ℕ → Type 0
    WalkFrom q ns = Walk froms tos labels count (ends_over only sup classes cached (get_or classes q 0)) q ns

    -- the same of every class
    pub record Chosen (old new : Option (List ℕ)) : Type 0 where
      pub sound : (ns : List ℕ) → new ≡ some ns → (old ≡ some ns) ⊎ ((q : ℕ) × (q < cached) × WalkFrom q ns)
      pub all : (q : ℕ) (ms : List ℕ) → q < cached → WalkFrom q ms → NoBetter new ms
      pub still : (ms : List ℕ) → NoBetter old ms → NoBetter new ms

-- Rows that break agreement by themselves

-- a row that is kept, if there is one, as a chain
abbrev pub one_row : P.Option ℕ → Option (List ℕ)
one_row P.None = none
one_row (P.Some row) = some (row ∷ [])

-- link e leads from a cached request to one whose class is bad for its own
unfoldable pub alone : List ℕ → List ℕ → List ℕ → ℕ → Bool → (ℕ → Option ℕ) → ℕ → Bool
alone froms tos classes cached only sup e =
    let a = get_or froms e 0 in
    let b = get_or tos e 0 in
    ltb a cached && (ltb b cached && bad_over only sup (get_or classes a 0) (get_or classes b 0))

module _ (froms tos labels : List ℕ) (classes : List ℕ) (cached : ℕ) (only : Bool) (sup : ℕ → Option ℕ) where
  unfoldable pub considered_alone : ℕ → Option (List ℕ) → Option (List ℕ)
  considered_alone e o = elim (alone froms tos classes cached only sup e) [ true ↦ pick o (get_or labels e 0 ∷ []) | false ↦ o ]

  -- of the first e links none that breaks agreement by itself is better than what is kept, which is one of them or what was kept
  pub record Alone (count e : ℕ) (old new : Option (List ℕ)) : Type 0 where
    pub sound : (ns : List ℕ) → new ≡ some ns → (old ≡ some ns) ⊎ ((d : ℕ) × (d < count) × (alone froms tos classes cached only sup d ≡ true) × (get_or labels d 0 ∷ [] ≡ ns))
    pub all : (d : ℕ) → d < e → alone froms tos classes cached only sup d ≡ true → NoBetter new (get_or labels d 0 ∷ [])
    pub still : (ms : List ℕ) → NoBetter old ms → NoBetter new ms

-- The best chain of all: by ties alone, which are the first `turned` links, or by all links
module _ (froms tos labels : List ℕ) (turned count : ℕ) (classes : List ℕ) (cached : ℕ) (sup : ℕ → Option ℕ) where
  pub record BestOf (new : Option (List ℕ)) : Type 0 where
    pub sound : (ns : List ℕ) → new ≡ some ns
        → ((q : ℕ) × (q < cached) × WalkFrom froms tos labels turned classes cached true sup q ns) ⊎ ((q : ℕ) × (q < cached) × WalkFrom froms tos labels count classes cached false sup q ns)
    pub ties : (q : ℕ) (ms : List ℕ) → q < cached → WalkFrom froms tos labels turned classes cached true sup q ms → NoBetter new ms
    pub all : (q : ℕ) (ms : List ℕ) → q < cached → WalkFrom froms tos labels count classes cached false sup q ms → NoBetter new ms
