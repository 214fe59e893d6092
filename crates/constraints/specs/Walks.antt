-- Walks along links to where they end, and the search for the shortest. Links have places: link e leads from node `froms e` to node `tos e` by the row whose
-- number is `labels e`. The search goes backward from the ends, one layer of nodes after another: those at distance 0, at distance 1, and so on.
use Rattle.std.specs.Prelude.{◌≡◌, Bool, true, false, not, ◌&&◌, ℕ, zero, suc, ◌+◌, ◌<◌, ◌≤◌, length, get_or, set, eqb, ltb}
use Rattle.std.proofs.Math.Option.{Option}
use mathlib.Core.List.{List, [], ◌∷◌, Memᴰ}
use Rattle.definition.specs.Superclasses.{below}
use Rattle.laws.specs.Earlier.{row_before}
use Rattle.constraints.specs.Nodes.{place_limit}
use Rattle.constraints.specs.Joining.{Joined}
use Rattle.constraints.specs.Search.{marked, start_of}
use Rattle.constraints.specs.Upward.{is_above}

-- What a search has found: of each node one more than its distance from an end, or 0; the link that leads on from it; and the nodes in the order in which they
-- were found, so many

pub record Found : Type 0 where
  pub dists : List ℕ
  pub ways : List ℕ
  pub queue : List ℕ
  pub tail : ℕ

abbrev pub found : List ℕ → List ℕ → List ℕ → ℕ → Found
found dists ways queue tail = record { dists = dists; ways = ways; queue = queue; tail = tail }

abbrev pub dist_of : Found → ℕ → ℕ
dist_of s q = get_or s.dists q 0

abbrev pub way_of : Found → ℕ → ℕ
way_of s q = get_or s.ways q 0

abbrev pub node_at : Found → ℕ → ℕ
node_at s i = get_or s.queue i 0

-- as many cells as there are places; what is queued was found, so that there is room for the rest
pub record Room (s : Found) : Type 0 where
  pub dists_long : length s.dists ≡ place_limit
  pub ways_long : length s.ways ≡ place_limit
  pub queue_long : length s.queue ≡ place_limit
  pub few : s.tail + marked 0 s.dists ≤ place_limit

-- and what is queued are places
pub record Sized (s : Found) : Type 0 where
  pub room : Room s
  pub nodes : (i : ℕ) → i < s.tail → node_at s i < place_limit

-- A look at link e, which leads to a node of the layer before: the node that it leads from is found, with this distance, or was; of two links that lead on from
-- it, the one whose row goes first is kept.
module _ (froms labels : List ℕ) (layer : ℕ) where
  unfoldable pub look : ℕ → Found → Found
  look e s = let a = get_or froms e 0 in elim (dist_of s a) [
    | zero ↦ found (set s.dists a layer) (set s.ways a e) (set s.queue s.tail a) (s.tail + 1)
    | suc d ↦ elim (eqb (suc d) layer && row_before (get_or labels e 0) (get_or labels (way_of s a) 0)) [ true ↦ found s.dists (set s.ways a e) s.queue s.tail | false ↦ s ]
  ]

  -- at several, the last of the list first
  unfoldable pub looks : List ℕ → Found → Found
  looks [] s = s
  looks (e ∷ es) s = look e (looks es s)

-- the links es are those of the first `count` that P holds of
pub record Those (count : ℕ) (P : ℕ → Type 0) (es : List ℕ) : Type 0 where
  pub fit : (e : ℕ) → Memᴰ e es → e < count
  pub only : (e : ℕ) → Memᴰ e es → P e
  pub all : (e : ℕ) → e < count → P e → Memᴰ e es

module _ (froms tos labels : List ℕ) (count : ℕ) (ends : ℕ → Bool) where
  -- the rows ns lead from a node to one where walks end
  abbrev pub Walk : ℕ → List ℕ → Type 0
  Walk q [] = ends q ≡ true
  Walk q (r ∷ ns) = (e : ℕ) × (e < count) × (get_or froms e 0 ≡ q) × (get_or labels e 0 ≡ r) × Walk (get_or tos e 0) ns

  -- link e leads on from q: to a node one nearer, and no row of all that do goes before its own
  pub record Onward (s : Found) (q j e : ℕ) : Type 0 where
    pub fits : e < count
    pub from : get_or froms e 0 ≡ q
    pub nearer : dist_of s (get_or tos e 0) ≡ suc j
    pub first : (d : ℕ) → d < count → get_or froms d 0 ≡ q → dist_of s (get_or tos d 0) ≡ suc j → row_before (get_or labels d 0) (get_or labels e 0) ≡ false

  -- what is found is so: ends, links that lead on, and no walk is shorter than a node's distance
  pub record Exact (s : Found) : Type 0 where
    pub is_end : (q : ℕ) → dist_of s q ≡ 1 → ends q ≡ true
    pub onward : (q j : ℕ) → dist_of s q ≡ suc (suc j) → Onward s q j (way_of s q)
    pub least : (q k : ℕ) → dist_of s q ≡ suc k → (ns : List ℕ) → Walk q ns → k ≤ length ns

  -- from what wasn't found all walks are longer than n
  abbrev pub Beyond : ℕ → Found → Type 0
  Beyond n s = (q : ℕ) → dist_of s q ≡ 0 → (ns : List ℕ) → Walk q ns → n < length ns

  -- after n rounds: the nodes at distance n stand in the queue from lo on
  pub record Layer (n lo : ℕ) (s : Found) : Type 0 where
    pub room : Room s
    pub exact : Exact s
    pub bound : (q k : ℕ) → dist_of s q ≡ suc k → k ≤ n
    pub beyond : Beyond n s
    pub fits : lo ≤ s.tail
    pub few : n ≤ lo
    pub is_queued : (q : ℕ) → dist_of s q ≡ suc n → (i : ℕ) × (lo ≤ i) × (i < s.tail) × (node_at s i ≡ q)
    pub is_layer : (i : ℕ) → lo ≤ i → i < s.tail → dist_of s (node_at s i) ≡ suc n

  -- what a search leaves that went as far as `limit` rows, or as far as there are walks
  pub record Spread (limit : ℕ) (s : Found) : Type 0 where
    pub exact : Exact s
    pub bound : (q k : ℕ) → dist_of s q ≡ suc k → k ≤ place_limit
    pub near : (q k : ℕ) → dist_of s q ≡ suc k → k ≤ limit
    pub beyond : Beyond limit s
    pub exhausted : place_limit < limit → (q : ℕ) → dist_of s q ≡ 0 → (ns : List ℕ) → Walk q ns → ⊥

-- the rows of the links that lead on, k of them
module _ (tos labels ways : List ℕ) where
  unfoldable pub trail : ℕ → ℕ → List ℕ
  trail zero q = []
  trail (suc k) q = let e = get_or ways q 0 in get_or labels e 0 ∷ trail k (get_or tos e 0)

-- Where walks end: in cached requests whose class is bad for class c. By ties alone a class is bad if it is another; by all links, if it isn't c or above.

-- by the classes above c, marked with a stamp
unfoldable pub bad_in : Bool → List ℕ → ℕ → ℕ → ℕ → Bool
bad_in only aboves stamp c d = elim only [ true ↦ not (eqb c d) | false ↦ not (is_above aboves stamp c d) ]

unfoldable pub ends_in : Bool → List ℕ → ℕ → List ℕ → ℕ → ℕ → ℕ → Bool
ends_in only aboves stamp classes cached c q = ltb q cached && bad_in only aboves stamp c (get_or classes q 0)

-- by direct superclasses
unfoldable pub bad_over : Bool → (ℕ → Option ℕ) → ℕ → ℕ → Bool
bad_over only sup c d = elim only [ true ↦ not (eqb c d) | false ↦ not (below sup c d) ]

unfoldable pub ends_over : Bool → (ℕ → Option ℕ) → List ℕ → ℕ → ℕ → ℕ → Bool
ends_over only sup classes cached c q = ltb q cached && bad_over only sup c (get_or classes q 0)

-- one of them
unfoldable pub seed_one : Bool → ℕ → Found → Found
seed_one bad q s = elim bad [ true ↦ found (set s.dists q 1) s.ways (set s.queue s.tail q) (s.tail + 1) | false ↦ s ]

-- a table of zeros
pub record Zeroed (dists : List ℕ) : Type 0 where
  pub long : length dists ≡ place_limit
  pub zeros : (q : ℕ) → get_or dists q 0 ≡ 0
  pub none : marked 0 dists ≡ place_limit

-- the ends, and nothing else, are found, at distance 0, and queued
pub record Seeded (ends : ℕ → Bool) (s : Found) : Type 0 where
  pub sized : Sized s
  pub is_end : (q : ℕ) → dist_of s q ≡ 1 → ends q ≡ true
  pub all : (q : ℕ) → ends q ≡ true → dist_of s q ≡ 1
  pub only : (q k : ℕ) → dist_of s q ≡ suc k → k ≡ 0
  pub is_queued : (q : ℕ) → dist_of s q ≡ 1 → (i : ℕ) × (i < s.tail) × (node_at s i ≡ q)
  pub is_seed : (i : ℕ) → i < s.tail → dist_of s (node_at s i) ≡ 1

-- links between places
pub record InRange (froms tos : List ℕ) (count : ℕ) : Type 0 where
  pub few : count ≤ place_limit
  pub from : (e : ℕ) → e < count → get_or froms e 0 < place_limit
  pub to : (e : ℕ) → e < count → get_or tos e 0 < place_limit

-- from one node a row leads to one
abbrev pub Sole : List ℕ → List ℕ → List ℕ → ℕ → Type 0
Sole froms tos labels count = (d e : ℕ) → d < count → e < count → get_or froms d 0 ≡ get_or froms e 0 → get_or labels d 0 ≡ get_or labels e 0 → get_or tos d 0 ≡ get_or tos e 0

-- and joined by where they lead
pub record Joint (froms tos : List ℕ) (count : ℕ) (heads nexts : List ℕ) : Type 0 where
  pub in_range : InRange froms tos count
  pub joined : Joined (start_of tos 0) count heads nexts
