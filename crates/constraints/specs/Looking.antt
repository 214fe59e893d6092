-- Whose turn it is to be looked at, and where what can break agreement with it is looked for. Turn 0 is the newcomer's, turn 1 that of
-- ties, and then come those of the requests, two turns after their places; marks of a turn have its number and one.
use Rattle.std.specs.Prelude.{◌≡◌, List, ◌⊎◌, ℕ, zero, suc, ◌+◌, ◌<◌, ◌≤◌, length, get_or}
use Rattle.std.proofs.Math.Option.{Option}
use Rattle.definition.specs.Numbers.{byte_range}
use Rattle.constraints.specs.Nodes.{place_limit}
use Rattle.constraints.specs.Joining.{Joined}
use Rattle.constraints.specs.Search.{start_of, Led, Marked, Stamped, Searched}
use Rattle.constraints.specs.Upward.{Raised}
use Rattle.constraints.specs.Pairs.{Everyone, Members, Followed, PairFine}
pub use Rattle.constraints.specs.declared.looking.Span.{Span}

-- Turns

unfoldable pub request_at : ℕ → ℕ → ℕ
request_at zero new = new
request_at (suc zero) new = 0
request_at (suc (suc m)) new = m

-- beside whom b is looked at: request a, but at the turn of ties the first of b's own group
unfoldable pub lead_of : ℕ → List ℕ → ℕ → ℕ → ℕ
lead_of zero groups a b = a
lead_of (suc zero) groups a b = get_or groups b 0
lead_of (suc (suc m)) groups a b = a

-- the turn of ties comes after the newcomer's; at the requests before that of turn r, from the last turn's on, no link starts
pub record NextTurn (heads : List ℕ) (n noted turn r : ℕ) : Type 0 where
  pub low : turn < r
  pub high : r ≤ suc (suc n)
  pub ties : turn ≡ 0 → r ≡ 1
  pub none : (m : ℕ) → suc (suc m) < r → turn ≤ suc m → (noted ≡ 0) ⊎ (get_or heads m 0 ≡ 0)

-- the newcomer's, if it is one of n places, or else that of ties
abbrev pub FirstTurn : ℕ → ℕ → ℕ → Type 0
FirstTurn n new r = ((r ≡ 0) × (new < n)) ⊎ ((r ≡ 1) × (n ≤ new))

-- Tables

-- the links are joined by where they start, if there are any
abbrev pub Links : List ℕ → ℕ → ℕ → List ℕ → List ℕ → Type 0
Links groups n noted heads nexts = (noted ≡ 0) ⊎ Joined (start_of groups n) noted heads nexts

-- tables of full length, with marks up to a stamp
pub record Marks (stamp : ℕ) (outs ins queue aboves : List ℕ) : Type 0 where
  pub outs_are : Stamped place_limit stamp outs
  pub ins_are : Stamped place_limit stamp ins
  pub queue_long : length queue ≡ place_limit
  pub aboves_are : Stamped byte_range stamp aboves

-- without links tables of any length will do
pub record Tables (noted stamp : ℕ) (outs ins queue aboves : List ℕ) : Type 0 where
  pub outs_most : (x : ℕ) → get_or outs x 0 ≤ stamp
  pub ins_most : (x : ℕ) → get_or ins x 0 ≤ stamp
  pub full : (noted ≡ 0) ⊎ Marks stamp outs ins queue aboves

-- marked is all that a group leads to, but perhaps the group itself
pub record Reached (groups : List ℕ) (from to noted stamp a : ℕ) (marks : List ℕ) : Type 0 where
  pub stamped : Stamped place_limit stamp marks
  pub sound : (y : ℕ) → Marked stamp marks y → Led groups from to noted a y
  pub all : (y : ℕ) → Led groups from to noted a y → (y ≡ a) ⊎ Marked stamp marks y

-- What is looked at in the turn of request a

-- at the newcomer's turn: every place but those at which there is nothing to be found, with all that it leads to and that leads to it marked
pub record LookedFirst (sup : ℕ → Option ℕ) (groups classes : List ℕ) (n noted a : ℕ) (outs ins aboves : List ℕ) (span : Span) : Type 0 where
  pub end : span.end ≡ n
  pub everyone : span.who ≡ Everyone
  pub skipped : (b : ℕ) → b < span.from → PairFine sup groups classes outs ins aboves 1 a b
  pub out_all : (y : ℕ) → Led groups n (n + noted) noted (get_or groups a 0) y → (y ≡ get_or groups a 0) ⊎ Marked 1 outs y
  pub in_all : (y : ℕ) → Led groups n (n + noted) noted y (get_or groups a 0) → (y ≡ get_or groups a 0) ⊎ Marked 1 ins y

-- at the turn of ties: all that are not the first of their group
pub record LookedTies (n : ℕ) (span : Span) : Type 0 where
  pub from : span.from ≡ 0
  pub end : span.end ≡ n
  pub who : span.who ≡ Members

-- at the turn of the first of a group: what it leads to, as far as the next cached requests
pub record LookedAhead (groups : List ℕ) (n noted turn a : ℕ) (outs : List ℕ) (span : Span) : Type 0 where
  pub from : span.from ≡ 0
  pub end : span.end ≡ n
  pub who : span.who ≡ Followed
  pub searched : Searched groups n n (n + noted) noted (suc turn) a outs

-- what is marked out of a is led to by its group, what is marked into it leads to its group, and where something is marked out, the classes above a's are
pub record Looked (sup : ℕ → Option ℕ) (groups classes : List ℕ) (n noted turn a : ℕ) (outs ins queue aboves : List ℕ) (span : Span) : Type 0 where
  pub tables : Tables noted (suc turn) outs ins queue aboves
  pub begin : span.from ≤ n
  pub low : span.end ≤ n
  pub seen : span.who ≡ Followed → span.end ≤ length outs
  pub out_sound : (y : ℕ) → Marked (suc turn) outs y → Led groups n (n + noted) noted (get_or groups a 0) y
  pub in_sound : (y : ℕ) → Marked (suc turn) ins y → Led groups n (n + noted) noted y (get_or groups a 0)
  pub raised : (y : ℕ) → Marked (suc turn) outs y → Raised sup (get_or classes a 0) (suc turn) aboves
  pub first : turn ≡ 0 → LookedFirst sup groups classes n noted a outs ins aboves span
  pub ties : turn ≡ 1 → LookedTies n span
  pub ahead : 1 < turn → get_or groups a 0 ≡ a → (noted ≡ 0) ⊎ LookedAhead groups n noted turn a outs span
