-- What the search answers, read as the definition's answer, and what its tests say before anything is written.
use Rattle.std.specs.Prelude as code
use Rattle.std.specs.Prelude.{Some, None, Ok, Err}
use Rattle.std.specs.Prelude.{◌≡◌, true, false, List, ℕ, ◌<◌}
use Rattle.definition.specs.declared.Refusal.{Refusal}
use Rattle.definition.specs.Numbers.{loader_limit}
use Rattle.definition.specs.Lists.{is_some}
use Rattle.definition.specs.Requests.{at}
use Rattle.definition.specs.Tables.{Tables, shaped, view}
use Rattle.definition.specs.Broken.{broken}
use Rattle.definition.specs.Offers.{offers_in, order}
use Rattle.definition.specs.Searching.{Sought, found, not_found, denied_search, searched, sought, search}
use Rattle.searching.specs.Offered.{offers_of}
use Rattle.searching.specs.Ordering.{Fewest}
use Rattle.searching.specs.Replayed.{numbers_in}

unfoldable pub sought_by : code.Result Fewest Refusal → Sought
sought_by (Ok (Some o)) = found (numbers_in o.loads o.code)
sought_by (Ok None) = not_found
sought_by (Err w) = denied_search w

-- how many loads, and which

unfoldable pub count_in : Fewest → ℕ
count_in (Some o) = o.loads
count_in None = 0

unfoldable pub order_in : Fewest → ℕ
order_in (Some o) = o.code
order_in None = 0

module _ (l n : ℕ) (cells files : List ℕ) (box second : Tables) where
  -- no test fails
  pub record Clear : Type 0 where
    pub shapes : shaped second ≡ true
    pub whole : broken box ≡ false
    pub loader : l < loader_limit
    pub reads : is_some (offers_in cells files) ≡ true
    pub seeks : search l n cells files box second ≡ sought (offers_of cells files) (order (offers_of cells files) (at l n) (view box)) box

  -- one fails, and the search is refused
  abbrev pub Denies : Refusal → Type 0
  Denies w = search l n cells files box second ≡ searched (denied_search w) second
