-- A store's requests as numbers, and as nodes. A table of places has first the cached requests, then the lower names of the subtype
-- constraints, then their higher names, then the ties under their one loader, then under their other.
use Rattle.std.specs.Prelude.{◌≡◌, List, ℕ, ◌+◌, ◌*◌, ◌<◌, ◌≤◌, ◌/◌, ◌%◌, get_or}
use Rattle.definition.specs.Numbers.{cache_limit, tie_limit, subtype_limit, short_range}
use Rattle.definition.specs.Requests.{Request, at}

-- how many places there are at most
abbrev pub place_limit : ℕ
place_limit = cache_limit + (subtype_limit + subtype_limit) + (tie_limit + tie_limit)

-- lists by a number's remainder, of which most have few members
abbrev pub bucket_limit : ℕ
bucket_limit = 1024

-- A request as one number: its loader times 65,536, and its name

unfoldable pub request_of : ℕ → Request
request_of x = at (x / short_range) (x % short_range)

-- a table's row i as a request: its loader in cell `loader`, its name in cell `name`
unfoldable pub request_in : List ℕ → ℕ → ℕ → ℕ → Request
request_in t loader name i = at (get_or t (i * 3 + loader) 0) (get_or t (i * 3 + name) 0)

-- the numbers from place `from` on are those of the first `count` rows of a table
abbrev pub Numbers : List ℕ → ℕ → ℕ → ℕ → List ℕ → ℕ → Type 0
Numbers t loader name count numbers from = (i : ℕ) → i < count → request_of (get_or numbers (from + i) 0) ≡ request_in t loader name i

-- what lies below a place stays
abbrev pub Kept : List ℕ → List ℕ → ℕ → Type 0
Kept old new from = (p : ℕ) → p < from → get_or new p 0 ≡ get_or old p 0

pub record Numbered (t : List ℕ) (loader name count : ℕ) (old new : List ℕ) (from : ℕ) : Type 0 where
  pub put : Numbers t loader name count new from
  pub kept : Kept old new from

-- all places
pub record AllNumbered (cache : List ℕ) (cached : ℕ) (ties : List ℕ) (tied : ℕ) (subtypes : List ℕ) (noted : ℕ) (numbers : List ℕ) : Type 0 where
  pub cache_put : Numbers cache 0 1 cached numbers 0
  pub low_put : Numbers subtypes 0 1 noted numbers cached
  pub high_put : Numbers subtypes 0 2 noted numbers (cached + noted)
  pub one_put : Numbers ties 0 2 tied numbers (cached + noted + noted)
  pub two_put : Numbers ties 1 2 tied numbers (cached + noted + noted + tied)

-- Nodes

-- r is the first place with the number of place p
pub record First (numbers : List ℕ) (p r : ℕ) : Type 0 where
  pub low : r ≤ p
  pub same : get_or numbers r 0 ≡ get_or numbers p 0
  pub none : (i : ℕ) → i < r → get_or numbers i 0 ≡ get_or numbers p 0 → ⊥

-- the node of each of n places: the first place with the same number
abbrev pub NodesOf : List ℕ → ℕ → List ℕ → Type 0
NodesOf numbers n nodes = (p : ℕ) → p < n → First numbers p (get_or nodes p 0)

-- the class of each cached request, that of the first row with the same request
abbrev pub ClassesOf : List ℕ → List ℕ → ℕ → List ℕ → Type 0
ClassesOf cache nodes n classes = (p : ℕ) → p < n → get_or classes p 0 ≡ get_or cache (get_or nodes p 0 * 3 + 2) 0

-- Numbers are spread over 1,024 lists

unfoldable pub bucket_of : ℕ → ℕ
bucket_of x = (x / short_range * 633 + x % short_range) % bucket_limit

unfoldable pub bucket_in : List ℕ → ℕ → ℕ
bucket_in numbers p = bucket_of (get_or numbers p 0)
