-- Pairs of cached requests, by their groups and classes: when one agrees, when all do, and which pairs are looked at.
use Rattle.std.specs.Prelude.{◌≡◌, Bool, true, false, List, ◌⊎◌, ℕ, ◌<◌, ◌≤◌, get_or, eqb}
use Rattle.std.proofs.Math.Option.{Option}
use Rattle.definition.specs.Lists.{rows, all}
use Rattle.definition.specs.Superclasses.{below}
use Rattle.constraints.specs.Search.{leads_on, Marked}
use Rattle.constraints.specs.Upward.{is_above}
use Rattle.std.specs.Prelude as P
pub use Rattle.constraints.specs.declared.pairs.Pair.{Pair}
pub use Rattle.constraints.specs.declared.pairs.Meets.{Meets}
pub use Rattle.constraints.specs.declared.pairs.Meets.TheVariants.{Everyone, Members, Followed}

-- a pair of classes c and d, whose requests are tied, or of which the one leads to the other, or neither
unfoldable pub pair_is : (ℕ → Option ℕ) → Bool → Bool → ℕ → ℕ → Bool
pair_is sup tied led c d = elim tied [ true ↦ eqb c d | false ↦ elim led [ true ↦ below sup c d | false ↦ true ] ]

-- the pair of places a and b
unfoldable pub pair_on : (ℕ → Option ℕ) → List ℕ → List ℕ → ℕ → ℕ → ℕ → ℕ → Bool
pair_on sup groups classes cached noted a b =
    pair_is sup (eqb (get_or groups a 0) (get_or groups b 0)) (leads_on groups cached noted (get_or groups a 0) (get_or groups b 0)) (get_or classes a 0)
    (get_or classes b 0)

-- all pairs
unfoldable pub agree_on : (ℕ → Option ℕ) → List ℕ → List ℕ → ℕ → ℕ → Bool
agree_on sup groups classes n noted = all (λ a. all (pair_on sup groups classes n noted a) (rows (λ i. i) n 0)) (rows (λ i. i) n 0)

-- Pairs by marks

-- no pair, or one
abbrev pub Found : Type 0
Found = P.Option Pair

abbrev pub pair : ℕ → ℕ → Found
pair a b = P.Some (record { from = a; to = b })

-- b, of a group, by the group's mark among those that a leads to, and by the marks of the classes above a's
unfoldable pub out_marked : List ℕ → List ℕ → List ℕ → ℕ → ℕ → ℕ → ℕ → Bool
out_marked outs aboves classes stamp group a b =
    elim (eqb (get_or outs group 0) stamp) [ true ↦ is_above aboves stamp (get_or classes a 0) (get_or classes b 0) | false ↦ true ]

-- b, of a group, by the group's mark among those that lead to a
unfoldable pub in_marked : (ℕ → Option ℕ) → List ℕ → List ℕ → ℕ → ℕ → ℕ → ℕ → Bool
in_marked sup ins classes stamp group a b =
    elim (eqb (get_or ins group 0) stamp) [ true ↦ below sup (get_or classes b 0) (get_or classes a 0) | false ↦ true ]

-- none is found of a and b: tied ones have one class, and where one is marked as led to from the other its class is that one's or above it
pub record PairFine (sup : ℕ → Option ℕ) (groups classes outs ins aboves : List ℕ) (stamp a b : ℕ) : Type 0 where
  pub tied : get_or groups a 0 ≡ get_or groups b 0 → get_or classes a 0 ≡ get_or classes b 0
  pub out : (get_or groups a 0 ≡ get_or groups b 0 → ⊥) → Marked stamp outs (get_or groups b 0) → is_above aboves stamp (get_or classes a 0) (get_or classes b 0) ≡ true
  pub into : (get_or groups a 0 ≡ get_or groups b 0 → ⊥) → Marked stamp ins (get_or groups b 0) → below sup (get_or classes b 0) (get_or classes a 0) ≡ true

-- why none is found of a and b, or a pair: tied ones of two classes, or one that leads to the other and isn't its class or below
pub data Judged (sup : ℕ → Option ℕ) (groups classes outs ins aboves : List ℕ) (stamp a b : ℕ) : Found → Type 0 where
  fine : PairFine sup groups classes outs ins aboves stamp a b → Judged sup groups classes outs ins aboves stamp a b P.None
  tied : get_or groups a 0 ≡ get_or groups b 0 → (get_or classes a 0 ≡ get_or classes b 0 → ⊥) → Judged sup groups classes outs ins aboves stamp a b (pair a b)
  out : (get_or groups a 0 ≡ get_or groups b 0 → ⊥) → Marked stamp outs (get_or groups b 0) → is_above aboves stamp (get_or classes a 0) (get_or classes b 0) ≡ false
      → Judged sup groups classes outs ins aboves stamp a b (pair a b)
  into : (get_or groups a 0 ≡ get_or groups b 0 → ⊥) → Marked stamp ins (get_or groups b 0) → below sup (get_or classes b 0) (get_or classes a 0) ≡ false
      → Judged sup groups classes outs ins aboves stamp a b (pair b a)

-- place p is to be looked at
abbrev pub ToMeet : Meets → List ℕ → List ℕ → ℕ → ℕ → Type 0
ToMeet Everyone groups marks stamp p = Unit {0}
ToMeet Members groups marks stamp p = get_or groups p 0 ≡ p → ⊥
ToMeet Followed groups marks stamp p = Marked stamp marks p

-- the place that was come to: one that is found, or else the end
abbrev pub reach : ℕ → P.Option ℕ → ℕ
reach end P.None = end
reach end (P.Some b) = b

-- what is found is a place from `from` on, before the end; before it no place is to be looked at
pub record NextMet (groups marks : List ℕ) (stamp : ℕ) (who : Meets) (from end : ℕ) (r : P.Option ℕ) : Type 0 where
  pub fits : (b : ℕ) → r ≡ P.Some b → (from ≤ b) × (b < end)
  pub none : (p : ℕ) → p < reach end r → from ≤ p → ToMeet who groups marks stamp p → ⊥

-- What is found of all pairs

-- place `new` is in no pair that breaks agreement
abbrev pub Fresh : (ℕ → Option ℕ) → List ℕ → List ℕ → ℕ → ℕ → ℕ → Type 0
Fresh sup groups classes n noted new = (b : ℕ) → b < n → (pair_on sup groups classes n noted new b ≡ true) × (pair_on sup groups classes n noted b new ≡ true)

-- none, and all pairs agree; or one of two of n places that doesn't, and `new` is in it or in none that doesn't
pub data Finding (sup : ℕ → Option ℕ) (groups classes : List ℕ) (n noted new : ℕ) : Found → Type 0 where
  agree : agree_on sup groups classes n noted ≡ true → Finding sup groups classes n noted new P.None
  apart : (a b : ℕ) → a < n → b < n → pair_on sup groups classes n noted a b ≡ false
      → ((a ≡ new) ⊎ (b ≡ new)) ⊎ (new < n → Fresh sup groups classes n noted new) → Finding sup groups classes n noted new (pair a b)
