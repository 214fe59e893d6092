-- Offered loads: the form in which they are offered, and an order of some of them that is accepted throughout and ends with a wanted request cached. The fewest loads, then the lowest offers'
-- numbers, compared from the first.
use Rattle.std.specs.Prelude.{◌≡◌, true, false, ◌&&◌, List, [], ◌∷◌, ℕ, zero, suc, ◌+◌, ◌*◌, ◌/◌, ◌%◌, length, get_or, take, drop, eqb, leb, ltb}
use Rattle.std.proofs.Math.Option.{Option, none, some}
use Rattle.std.proofs.Math.ListN.{get_elem?}
use Rattle.definition.specs.Numbers.{offer_limit, offer_cells, short_range}
use Rattle.definition.specs.Lists.{rows}
use Rattle.definition.specs.Maybe.{◌>>=◌, need}
use Rattle.definition.specs.Instructions.{pick}
use Rattle.definition.specs.Requests.{Request}
use Rattle.definition.specs.Classes.{find}
use Rattle.definition.specs.Answers.{refused, ok}
use Rattle.definition.specs.Tables.{Rows}
use Rattle.definition.specs.Calls.{Load, load_define, load_record, load_rows}
use Rattle.definition.specs.Reasons.{Distinct}

-- Up to 8 offered loads, numbered from 0, each a define or a record: a row of four cells each, and a pool of bytes for the files. A define's row is 1, its
-- loader, and where in the pool its file begins and how many bytes it has; a record's is 2, its loader, the name and the class's number.

unfoldable pub offer_of : List ℕ → ℕ → ℕ → ℕ → ℕ → Option Load
offer_of files kind l a b =
    pick (eqb kind 1) (need (leb (a + b) (length files)) >>= λ _. some (load_define l (take b (drop a files))))
    (pick (eqb kind 2) (need (ltb a short_range) >>= λ _. some (load_record l a b)) none)

unfoldable pub offer_at : List ℕ → List ℕ → ℕ → Option Load
offer_at cells files i = offer_of files (get_or cells (i * offer_cells) 0) (get_or cells (i * offer_cells + 1) 0) (get_or cells (i * offer_cells + 2) 0) (get_or cells (i * offer_cells + 3) 0)

-- of k rows from row i on
unfoldable pub offers_from : List ℕ → List ℕ → ℕ → ℕ → Option (List Load)
offers_from cells files zero i = some []
offers_from cells files (suc k) i = offer_at cells files i >>= λ c. offers_from cells files k (suc i) >>= λ cs. some (c ∷ cs)

-- they can't be read: more than 8, a row cut off, or one that is no offer
unfoldable pub offers_in : List ℕ → List ℕ → Option (List Load)
offers_in cells files =
    need (leb (length cells) (offer_limit * offer_cells) && eqb (length cells % offer_cells) 0) >>= λ _. offers_from cells files (length cells / offer_cells) 0

-- Orders

-- the rows after a load that is accepted
unfoldable pub loaded : Load → Rows → Option Rows
loaded c r = elim (load_rows c r) [ ok g ↦ some g.rows | refused w ↦ none ]

-- the numbers but for i
unfoldable pub except : ℕ → List ℕ → List ℕ
except i [] = []
except i (j ∷ js) = elim (eqb i j) [ true ↦ js | false ↦ j ∷ except i js ]

unfoldable pub first_some : {A B : Type 0} → (A → Option B) → List A → Option B
first_some f [] = none
first_some f (x ∷ xs) = elim (f x) [ none ↦ first_some f xs | some b ↦ some b ]

module _ (offers : List Load) where
  unfoldable pub loaded_at : ℕ → Rows → Option Rows
  loaded_at i r = get_elem? offers i >>= λ c. loaded c r

  -- the loads of these numbers, one after another, are accepted, and lead from r to s
  abbrev pub AcceptedTo : Rows → List ℕ → Rows → Type 0
  AcceptedTo r [] s = r ≡ s
  AcceptedTo r (i ∷ is) s = (x : Rows) × (loaded_at i r ≡ some x) × AcceptedTo x is s

  module _ (q : Request) where
    -- an order works: no offer twice, accepted throughout, and the request is cached at its end
    pub record Works (r : Rows) (is : List ℕ) : Type 0 where
      pub once : Distinct is
      pub left : Rows
      pub accepted : AcceptedTo r is left
      pub class : ℕ
      pub cached : find left.cache q ≡ some class

    -- of n loads, of the numbers that are left, which rise: the first that works has the lowest number, from the first on, that leads to one
    unfoldable pub order_of : ℕ → List ℕ → Rows → Option (List ℕ)
    order_of zero left r = elim (find r.cache q) [ none ↦ none | some c ↦ some [] ]
    order_of (suc n) left r = first_some (λ i. loaded_at i r >>= λ s. order_of n (except i left) s >>= λ is. some (i ∷ is)) left

    -- of the least length from n on, of k lengths
    unfoldable pub fewest : ℕ → ℕ → List ℕ → Rows → Option (List ℕ)
    fewest zero n left r = none
    fewest (suc k) n left r = elim (order_of n left r) [ none ↦ fewest k (suc n) left r | some is ↦ some is ]

    -- nothing is needed if it is cached already; no order has more loads than there are offers
    unfoldable pub order : Rows → Option (List ℕ)
    order r = fewest (suc (length offers)) 0 (rows (λ i. i) (length offers) 0) r
