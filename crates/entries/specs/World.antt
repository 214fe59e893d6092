-- Classes, cache and constraints read off the tables at once: what the decisions of define and record go by. On a store that isn't broken they are the
-- definition's.
use Rattle.std.specs.Prelude.{◌≡◌, ℕ, ◌<◌, ◌≤◌, true, false, List, [], ◌∷◌, ◌++◌, length, slice_index, slice_index_or}
use Rattle.std.proofs.Common.{ap, arith}
use Rattle.std.proofs.Math.Option.{some}
use Rattle.definition.specs.Numbers.{tie_numbers_cell, subtype_numbers_cell, counts_length}
use Rattle.definition.specs.Lists.{rows}
use Rattle.definition.specs.Requests.{Request, at}
use Rattle.definition.specs.Classes.{Base, Class, find, loader_of}
use Rattle.definition.specs.Constraints.{Tie, Subtype, World}
use Rattle.definition.specs.Tables.{Tables, RowNumbers, row_numbers, tie_at, subtype_at, number_at, world_of, view, view_over, view_base}
use Rattle.definition.specs.Broken.{numbered, broken}
use Rattle.layout.specs.View.{class-count}
use Rattle.layout.specs.Unbroken.{unbroken, broken-false}
use Rattle.unbroken.specs.Steps.{loader-small, class-found}
use Rattle.unbroken.specs.WholeRows.{ready}
use Rattle.resolution.specs.Quick.{quick_base}
use Rattle.resolution.specs.Unbroken.{quick-base}

abbrev pub world_in : List ℕ → List ℕ → List ℕ → List ℕ → List ℕ → List ℕ → World
world_in counts classes kept cache ties subtypes = record {
  base = quick_base counts classes kept cache;
  ties = rows (tie_at ties) (slice_index counts 3) 0;
  subtypes = rows (subtype_at subtypes) (slice_index counts 4) 0;
}

-- the numbers of the used rows of ties and of subtype constraints
abbrev pub numbers_in : List ℕ → RowNumbers
numbers_in counts = row_numbers (rows (number_at tie_numbers_cell counts) (slice_index counts 3) 0) (rows (number_at subtype_numbers_cell counts) (slice_index counts 4) 0)

abbrev pub world : Base → List Tie → List Subtype → World
world b ts ss = record { base = b; ties = ts; subtypes = ss }

-- one class more, cached under its own request
abbrev pub base_with : Base → Class → Base
base_with b k = record {
  classes = b.classes ++ (k ∷ []);
  cache = b.cache ++ (record { request = at k.loader k.name; class = length b.classes } ∷ []);
}

abbrev pub quick_world : Tables → World
quick_world t = world_in t.counts t.classes t.kept t.cache t.ties t.subtypes

pub quick-world : (t : Tables) → broken t ≡ false → quick_world t ≡ world_of (view t)
unfolding view view_over
quick-world t h =
    ap (λ (b : Base). record { base = b; ties = rows (tie_at t.ties) (slice_index t.counts 3) 0; subtypes = rows (subtype_at t.subtypes) (slice_index t.counts 4) 0 })
    (quick-base t h)

-- What a decision asks of the tables that it reads: lengths, counts within their limits, loaders that are there, cached classes that are there

pub record Searchable (counts classes kept cache : List ℕ) : Type 0 where
  pub counts_long : length counts ≡ counts_length
  pub cache_long : length cache ≡ 768
  pub classes_few : slice_index_or counts 0 0 ≤ 64
  pub kept_few : slice_index_or counts 1 0 ≤ 16384
  pub entries_few : slice_index_or counts 2 0 ≤ 256
  pub loaders : (c : ℕ) → loader_of (quick_base counts classes kept cache) c < 16
  pub cached : (r : Request) (c : ℕ) → find (quick_base counts classes kept cache).cache r ≡ some c → c < slice_index counts 0

pub record Loadable (counts classes kept cache ties subtypes : List ℕ) : Type 0 where
  pub base : Searchable counts classes kept cache
  pub ties_long : length ties ≡ 768
  pub subtypes_long : length subtypes ≡ 768
  pub ties_few : slice_index_or counts 3 0 ≤ 256
  pub subtypes_few : slice_index_or counts 4 0 ≤ 256

module _ (t : Tables) (h : broken t ≡ false) where
  loader-few : (c : ℕ) → loader_of (view_base t) c < 16
  unfolding view view_over
  loader-few c = loader-small (view_base t) (ready (view t) (broken-false t h).1).loaders c

  class-cached : (q : Request) (c : ℕ) → find (view_base t).cache q ≡ some c → c < slice_index t.counts 0
  unfolding view view_over
  class-cached q c e =
      let r = ready (view t) (broken-false t h).1 in
      omega (arith, class-found (world_of (view t)) (length (view t).classes) (view t).objects r q c e, r.number, class-count t)

  pub loadable : Loadable t.counts t.classes t.kept t.cache t.ties t.subtypes
  loadable =
      let u = unbroken t h in
      record {
        base = record {
          counts_long = u.lengths.counts;
          cache_long = u.lengths.cache;
          classes_few = u.counts.classes;
          kept_few = u.counts.kept;
          entries_few = u.counts.cache;
          loaders = λ c. rw (quick-base t h) (loader-few c);
          cached = λ q c e. class-cached q c (rw (quick-base t h) at e);
        };
        ties_long = u.lengths.ties;
        subtypes_long = u.lengths.subtypes;
        ties_few = u.counts.ties;
        subtypes_few = u.counts.subtypes;
      }

-- the rows' numbers are in turn
pub numbers-turn : (t : Tables) → broken t ≡ false → numbered (numbers_in t.counts) ≡ true
unfolding view view_over
numbers-turn t h = (broken-false t h).1.numbers.turn
