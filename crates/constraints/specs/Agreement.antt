-- What agreement is tested of: tables of rows, as many as a count says and at most 256, and direct superclasses by a table.
use Rattle.std.specs.Prelude.{true, false, List, ◌++◌, ℕ, zero, suc, get_or, min, ltb}
use Rattle.std.proofs.Math.Option.{Option, none, some}
use Rattle.definition.specs.Numbers.{cache_limit, tie_limit, subtype_limit}
use Rattle.definition.specs.Lists.{rows}
use Rattle.definition.specs.Chains.{Edge}
use Rattle.definition.specs.Requests.{Request}
use Rattle.definition.specs.Classes.{Entry, lower}
use Rattle.definition.specs.Constraints.{subtype_edges}
use Rattle.definition.specs.declared.Check.{Check}
use Rattle.definition.specs.declared.Check.TheVariants.{Agreed}
use Rattle.definition.specs.Checks.{breaking}
use Rattle.definition.specs.Tables.{entry_at, tie_at, subtype_at}
use Rattle.constraints.specs.Shared.{shared_edges}
use Rattle.std.specs.Prelude as P
use Rattle.constraints.specs.Pairs.{Found}

-- the direct superclass by a table of one cell a class: 0 none, else its number and one; its number is lower, or there is none
unfoldable pub super_in : List ℕ → ℕ → Option ℕ
super_in t c = elim (get_or t c 0) [ zero ↦ none | suc p ↦ lower c p ]

-- the first rows of the cache
abbrev pub entries_in : List ℕ → ℕ → List Entry
entries_in t n = rows (entry_at t) (min n cache_limit) 0

-- the edges between requests of the first ties that have one group beside them
abbrev pub shared_in : List ℕ → List ℕ → ℕ → List (Edge Request)
shared_in t g n = shared_edges (rows (tie_at t) (min n tie_limit) 0) (rows (λ i. get_or g i 0) (min n tie_limit) 0)

-- the edges of the first subtype constraints
abbrev pub subtypes_in : List ℕ → ℕ → List (Edge Request)
subtypes_in t n = subtype_edges (rows (subtype_at t) (min n subtype_limit) 0)

-- the edges of both
abbrev pub led_in : List ℕ → List ℕ → ℕ → List ℕ → ℕ → List (Edge Request)
led_in ties groups tied subtypes noted = shared_in ties groups tied ++ subtypes_in subtypes noted

-- the request of row x of the cache, if it is one of the first n
unfoldable pub new_of : List ℕ → ℕ → ℕ → Option Request
new_of t n x = elim (ltb x n) [ true ↦ some (entry_at t x).request | false ↦ none ]

abbrev pub new_in : List ℕ → ℕ → ℕ → Option Request
new_in t n x = new_of t (min n cache_limit) x

-- what was found of two places of the cache, as their requests
unfoldable pub told_of : List ℕ → Found → Check
told_of t P.None = Agreed
told_of t (P.Some p) = breaking (entry_at t p.from).request (entry_at t p.to).request
