-- The check of agreement after a load or among a step: the pairs that break agreement, and which of them may be named.
use Rattle.std.specs.Prelude.{◌≡◌, Bool, true, false, not, List, ◌⊎◌, ℕ}
use Rattle.std.proofs.Math.Option.{Option, none, some}
pub use Rattle.definition.specs.declared.Check.{Check}
pub use Rattle.definition.specs.declared.Check.TheVariants.{Agreed, Breaking}
use Rattle.definition.specs.Chains.{Edge, Chain, reach}
use Rattle.definition.specs.Requests.{Request, same_request}
use Rattle.definition.specs.Superclasses.{Below}
use Rattle.definition.specs.Classes.{Entry, find, super_of}
use Rattle.definition.specs.Constraints.{World, tie_edges, edges, pair_agrees, agrees_over}

-- Loaded a and b break agreement: tied they mean different classes, or a leads to b and a's class isn't b's or below
pub record BreaksAgreement (w : World) (a b : Request) : Type 0 where
  pub low : ℕ
  pub high : ℕ
  pub low_means : find w.base.cache a ≡ some low
  pub high_means : find w.base.cache b ≡ some high
  pub breaks : (Chain (tie_edges w.ties) a b × (low ≡ high → ⊥)) ⊎ (Chain (edges w) a b × (Below (super_of w.base) low high → ⊥))

-- whether they do
unfoldable pub breaks_over : (ℕ → Option ℕ) → List Entry → List (Edge Request) → List (Edge Request) → Request → Request → Bool
breaks_over sup cache ts es a b = elim (find cache a) [
  | none ↦ false
  | some c ↦ not (pair_agrees sup cache c (reach same_request ts a) (reach same_request es a) b)
]

-- What the check answers

unfoldable pub agreed : Check → Bool
agreed Agreed = true
agreed (Breaking l m k n) = false

abbrev pub breaking : Request → Request → Check
breaking a b = Breaking a.loader a.name b.loader b.name

-- a request is one of a pair
abbrev pub OneOf : Request → Request → Request → Type 0
OneOf x a b = (a ≡ x) ⊎ (b ≡ x)

-- None is named exactly if the store agrees. A pair that is named breaks agreement, and has the new request if any that breaks it does.
pub record NamesOver (sup : ℕ → Option ℕ) (cache : List Entry) (ts es : List (Edge Request)) (new : Option Request) (r : Check) : Type 0 where
  pub exactly : agreed r ≡ agrees_over sup cache ts es
  pub breaks : (a b : Request) → r ≡ breaking a b → breaks_over sup cache ts es a b ≡ true
  pub new_first : (a b : Request) → r ≡ breaking a b → (x : Request) → new ≡ some x → (c d : Request) → breaks_over sup cache ts es c d ≡ true → OneOf x c d → OneOf x a b

-- of a store
abbrev pub Names : World → Option Request → Check → Type 0
Names w = NamesOver (super_of w.base) w.base.cache (tie_edges w.ties) (edges w)
