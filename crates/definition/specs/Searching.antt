-- How could this load: a search, on a box's tables and on those of a second store, for an order of offered loads that ends with a wanted request cached.
use Rattle.std.specs.Prelude.{not, ◌&&◌, List, [], ◌∷◌, ℕ, leb, ltb}
use Rattle.std.proofs.Math.Option.{Option, none, some}
use Rattle.std.proofs.Math.ListN.{get_elem?}
use Rattle.definition.specs.Numbers.{word_broken, word_unknown, word_offers, name_object, loader_limit}
use Rattle.definition.specs.Requests.{at}
use Rattle.definition.specs.Answers.{Refusal, Word, Result, refused, ok, ◌>>=◌, need, take?}
use Rattle.definition.specs.Tables.{Tables, shaped, view}
use Rattle.definition.specs.Broken.{broken}
use Rattle.definition.specs.Calls.{Load, load_call, Call, call_rows, perform_all}
use Rattle.definition.specs.Offers.{offers_in, order}

-- What it answers, an order by the offers' numbers, or that there is none, and how it leaves the second store. The box isn't changed.

pub data Sought : Type 0 where
  found : List ℕ → Sought
  not_found : Sought
  denied_search : Refusal → Sought

pub record Searched : Type 0 where
  pub answer : Sought
  pub second : Tables

abbrev pub searched : Sought → Tables → Searched
searched a t = record { answer = a; second = t }

-- the calls of these numbers
unfoldable pub calls_of : List Load → List ℕ → List Call
calls_of offers [] = []
calls_of offers (i ∷ is) = elim (get_elem? offers i) [ none ↦ calls_of offers is | some c ↦ call_rows (load_call c) ∷ calls_of offers is ]

-- the second store ends as the box's would after the loads found, or equal to the box's if there are none
unfoldable pub sought : List Load → Option (List ℕ) → Tables → Searched
sought offers none box = searched not_found box
sought offers (some is) box = searched (found is) (perform_all (calls_of offers is) box).tables

-- a refused search writes nothing
unfoldable pub settled : Tables → Result Searched → Searched
settled second (refused w) = searched (denied_search w) second
settled second (ok s) = s

-- for the request of loader l and name n. Of the second store only the lengths are checked. Refusals: 1 3 20, where 3 judges the wanted request alone
unfoldable pub search : ℕ → ℕ → List ℕ → List ℕ → Tables → Tables → Searched
search l n cells files box second = settled second (
    need (shaped second && not (broken box)) (Word word_broken) >>= λ _.
    need (ltb l loader_limit && leb name_object n) (Word word_unknown) >>= λ _.
    take? (offers_in cells files) (Word word_offers) >>= λ offers.
    ok (sought offers (order offers (at l n) (view box)) box))
