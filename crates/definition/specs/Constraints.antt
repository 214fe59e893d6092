-- Ties and subtype constraints: what is posted, what leads to what, and when a store agrees.
use Rattle.std.specs.Prelude.{◌≡◌, Bool, true, false, ◌&&◌, ◌||◌, List, [], ◌∷◌, ◌++◌, ℕ, length, eqb, leb}
use Rattle.std.proofs.Math.Option.{Option, none, some}
use Rattle.definition.specs.Numbers.{word_clash, word_full, name_int, tie_limit}
use Rattle.definition.specs.Lists.{all, any}
use Rattle.definition.specs.Chains.{Edge, Chain, has, reach}
use Rattle.definition.specs.Requests.{Request, at, same_request}
use Rattle.definition.specs.Superclasses.{Below, below}
use Rattle.definition.specs.Classes.{Base, Signature, signature_types, Entry, find, super_of}
use Rattle.definition.specs.Answers.{Word, Result, ok, ◌>>=◌, need}

-- a name means one class under two loaders
pub record Tie : Type 0 where
  pub one : ℕ
  pub two : ℕ
  pub name : ℕ

-- a loader's name low is below its name high
pub record Subtype : Type 0 where
  pub loader : ℕ
  pub low : ℕ
  pub high : ℕ

pub record World : Type 0 where
  pub base : Base
  pub ties : List Tie
  pub subtypes : List Subtype

-- Constraints as edges: a tie either way, a subtype constraint upward

unfoldable pub tie_edges : List Tie → List (Edge Request)
tie_edges [] = []
tie_edges (t ∷ ts) =
    record { from = at t.one t.name; to = at t.two t.name }
    ∷ record { from = at t.two t.name; to = at t.one t.name }
    ∷ tie_edges ts

unfoldable pub subtype_edges : List Subtype → List (Edge Request)
subtype_edges [] = []
subtype_edges (s ∷ ss) = record { from = at s.loader s.low; to = at s.loader s.high } ∷ subtype_edges ss

unfoldable pub edges : World → List (Edge Request)
edges w = tie_edges w.ties ++ subtype_edges w.subtypes

-- Agreement: tied loaded requests mean one class, and whenever loaded a leads to loaded b, a's class is b's or below

pub record Agrees (w : World) : Type 0 where
  pub tied : {a b : Request} {c d : ℕ} → find w.base.cache a ≡ some c → find w.base.cache b ≡ some d → Chain (tie_edges w.ties) a b → c ≡ d
  pub led : {a b : Request} {c d : ℕ} → find w.base.cache a ≡ some c → find w.base.cache b ≡ some d → Chain (edges w) a b → Below (super_of w.base) c d

-- the pair of a, of class c, and b, where T is what ties and L what all constraints reach from a
unfoldable pub pair_agrees : (ℕ → Option ℕ) → List Entry → ℕ → List Request → List Request → Request → Bool
pair_agrees sup cache c T L b = elim (find cache b) [
  | none ↦ true
  | some d ↦ elim (has same_request b T) [
    | true ↦ eqb c d
    | false ↦ elim (has same_request b L) [ true ↦ below sup c d | false ↦ true ]
  ]
]

-- a with every cached request
unfoldable pub row_agrees : (ℕ → Option ℕ) → List Entry → List (Edge Request) → List (Edge Request) → Request → Bool
row_agrees sup cache ts es a = elim (find cache a) [
  | none ↦ true
  | some c ↦ let T = reach same_request ts a in let L = reach same_request es a in all (λ f. pair_agrees sup cache c T L f.request) cache
]

-- every pair of cached requests, where `sup` gives direct superclasses
unfoldable pub agrees_over : (ℕ → Option ℕ) → List Entry → List (Edge Request) → List (Edge Request) → Bool
agrees_over sup cache ts es = all (λ e. row_agrees sup cache ts es e.request) cache

unfoldable pub agrees : World → Bool
agrees w = let ts = tie_edges w.ties in let es = edges w in agrees_over (super_of w.base) w.base.cache ts es

-- Posting. The order of a tie's loaders doesn't count; equal loaders or int post none; one that is present isn't added again.

unfoldable pub tie_is : ℕ → ℕ → ℕ → Tie → Bool
tie_is l m n t = eqb t.name n && ((eqb t.one l && eqb t.two m) || (eqb t.one m && eqb t.two l))

unfoldable pub new_tie : List Tie → ℕ → ℕ → ℕ → List Tie
new_tie ts l m n = elim (eqb l m || eqb n name_int || any (tie_is l m n) ts) [ true ↦ [] | false ↦ record { one = l; two = m; name = n } ∷ [] ]

-- on each of these names in turn
unfoldable pub new_ties : List Tie → ℕ → ℕ → List ℕ → List Tie
new_ties ts l m [] = []
new_ties ts l m (n ∷ ns) = let us = new_tie ts l m n in us ++ new_ties (ts ++ us) l m ns

-- the ties of a signature between two loaders: on each argument in turn, then on its result; one that was posted a moment ago isn't added again
unfoldable pub signature_ties : List Tie → ℕ → ℕ → Signature → List Tie
signature_ties ts l m s = new_ties ts l m (signature_types s)

abbrev pub posted : World → List Tie → World
posted w us = record { base = w.base; ties = w.ties ++ us; subtypes = w.subtypes }

-- the new store agrees, if a constraint is added
unfoldable pub agrees_after : World → List Tie → Bool
agrees_after w [] = true
agrees_after w (u ∷ us) = agrees (posted w (u ∷ us))

-- 10, then 9; `room` is what else the call needs room for
unfoldable pub post : World → Bool → List Tie → Result World
post w room us = need (leb (length (w.ties ++ us)) tie_limit && room) (Word word_full) >>= λ _. need (agrees_after w us) (Word word_clash) >>= λ _. ok (posted w us)
