-- Why a load clashed: the chains of rows that break agreement, the one that is listed, and the tried loads.
use Rattle.std.specs.Prelude.{◌≡◌, Bool, true, false, not, ◌⊎◌, ℕ, zero, suc, length, set, eqb, ltb}
use Rattle.std.proofs.Math.Option.{Option, none, some}
use mathlib.Core.List.{List, [], ◌∷◌, ◌++◌, Memᴰ}
use Rattle.definition.specs.Numbers.{word_broken, word_clash}
use Rattle.definition.specs.Lists.{write_rows}
use Rattle.definition.specs.Maybe.{◌>>=◌}
use Rattle.definition.specs.Chains.{Edge}
use Rattle.definition.specs.Requests.{Request, at, same_request}
use Rattle.definition.specs.Superclasses.{Below, below}
use Rattle.definition.specs.Classes.{Entry, find, super_of}
use Rattle.definition.specs.Constraints.{Tie, Subtype, World}
use Rattle.definition.specs.File.{read_file, class_of}
use Rattle.definition.specs.Verifier.{notes_of}
use Rattle.definition.specs.Loading.{new_subtypes, override_ties, with_class, with_entry}
use Rattle.definition.specs.Answers.{Word, Reply, Denied, Result, refused, ok, number}
use Rattle.definition.specs.Tables.{Tables, RowNumbers, Rows, world_of, view}
use Rattle.definition.specs.Broken.{broken}
use Rattle.definition.specs.Calls.{Given, Load, load_define, load_record, try_rows, numbered_on}

-- A link: a row's number, with the request that the row leads from and the one that it leads to. Upward a tie is walked either way, a subtype constraint from
-- its lower name to its higher.

pub record Link : Type 0 where
  pub row : ℕ
  pub edge : Edge Request

abbrev pub link : ℕ → Request → Request → Link
link n a b = record { row = n; edge = record { from = a; to = b } }

unfoldable pub tie_links : List Tie → List ℕ → List Link
tie_links [] ns = []
tie_links (t ∷ ts) [] = []
tie_links (t ∷ ts) (n ∷ ns) = link n (at t.one t.name) (at t.two t.name) ∷ link n (at t.two t.name) (at t.one t.name) ∷ tie_links ts ns

unfoldable pub subtype_links : List Subtype → List ℕ → List Link
subtype_links [] ns = []
subtype_links (s ∷ ss) [] = []
subtype_links (s ∷ ss) (n ∷ ns) = link n (at s.loader s.low) (at s.loader s.high) ∷ subtype_links ss ns

abbrev pub ties_only : World → RowNumbers → List Link
ties_only w n = tie_links w.ties n.ties

abbrev pub links : World → RowNumbers → List Link
links w n = tie_links w.ties n.ties ++ subtype_links w.subtypes n.subtypes

-- What people must believe of a listed chain

-- the rows ns lead upward from a through the requests qs, the last of which is b
abbrev pub Upward : List Link → Request → List Request → List ℕ → Request → Type 0
Upward L a [] [] b = a ≡ b
Upward L a [] (n ∷ ns) b = ⊥
Upward L a (q ∷ qs) [] b = ⊥
Upward L a (q ∷ qs) (n ∷ ns) b = Memᴰ (link n a q) L × Upward L q qs ns b

-- none twice
abbrev pub Distinct : {A : Type 0} → List A → Type 0
Distinct [] = Unit {0}
Distinct (x ∷ xs) = (Memᴰ x xs → ⊥) × Distinct xs

-- The rows ns are a chain between two loaded requests that breaks agreement: tied by it they mean different classes, or the first's class isn't the last's or
-- below. No request stands in it twice.
pub record Breaks (w : World) (n : RowNumbers) (ns : List ℕ) : Type 0 where
  pub first : Request
  pub through : List Request
  pub last : Request
  pub low : ℕ
  pub high : ℕ
  pub first_means : find w.base.cache first ≡ some low
  pub last_means : find w.base.cache last ≡ some high
  pub upward : Upward (links w n) first through ns last
  pub once : Distinct (first ∷ through)
  pub breaks : (Upward (ties_only w n) first through ns last × (low ≡ high → ⊥)) ⊎ (Below (super_of w.base) low high → ⊥)

-- The chain that is listed: the shortest, and of those the first by an order on numbers, `before`, at the earliest difference

module _ (before : ℕ → ℕ → Bool) where
  -- of two lists, the first goes before the second
  unfoldable pub precedes : List ℕ → List ℕ → Bool
  precedes [] [] = false
  precedes [] (m ∷ ms) = true
  precedes (n ∷ ns) [] = false
  precedes (n ∷ ns) (m ∷ ms) = elim (before n m) [ true ↦ true | false ↦ elim (before m n) [ true ↦ false | false ↦ precedes ns ms ] ]

  unfoldable pub earlier : Option (List ℕ) → Option (List ℕ) → Option (List ℕ)
  earlier none o = o
  earlier (some ns) none = some ns
  earlier (some ns) (some ms) = elim (precedes ms ns) [ true ↦ some ms | false ↦ some ns ]

  -- the first of those that these have
  unfoldable pub first_of : {A : Type 0} → (A → Option (List ℕ)) → List A → Option (List ℕ)
  first_of f [] = none
  first_of f (x ∷ xs) = earlier (f x) (first_of f xs)

  module _ (cache : List Entry) (L : List Link) (bad : ℕ → ℕ → Bool) where
    -- a loaded request whose class is bad for c ends a list
    unfoldable pub ended : ℕ → Request → Option (List ℕ)
    ended c q = find cache q >>= λ d. elim (bad c d) [ true ↦ some [] | false ↦ none ]

    -- a link that leads on from q, and a list from where it leads
    unfoldable pub along : (Request → Option (List ℕ)) → Request → Link → Option (List ℕ)
    along on q l = elim (same_request l.edge.from q) [ true ↦ on l.edge.to >>= λ ns. some (l.row ∷ ns) | false ↦ none ]

    -- the first list of n rows from q to an end that is bad for c
    unfoldable pub best : ℕ → ℕ → Request → Option (List ℕ)
    best zero c q = ended c q
    best (suc n) c q = first_of (along (best n c) q) L

    -- from a cached request
    unfoldable pub best_from : ℕ → Entry → Option (List ℕ)
    best_from n e = find cache e.request >>= λ c. best n c e.request

  -- Of a cache, by direct superclasses, ties T and all links L
  module _ (sup : ℕ → Option ℕ) (cache : List Entry) (T L : List Link) where
    -- the first list of n rows that breaks agreement: by ties alone between different classes, or to a class that the first isn't or isn't below
    unfoldable pub of_length : ℕ → Option (List ℕ)
    of_length n = earlier (first_of (best_from cache T (λ c d. not (eqb c d)) n) cache) (first_of (best_from cache L (λ c d. not (below sup c d)) n) cache)

    -- at the least length from n on, of k lengths
    unfoldable pub shortest : ℕ → ℕ → Option (List ℕ)
    shortest zero n = none
    shortest (suc k) n = elim (of_length n) [ none ↦ shortest k (suc n) | some ns ↦ some ns ]

    -- no chain without a repeated request has more rows than there are links
    unfoldable pub reason_over : Option (List ℕ)
    reason_over = shortest (suc (length L)) 0

  abbrev pub reason_by : World → RowNumbers → Option (List ℕ)
  reason_by w m = reason_over (super_of w.base) w.base.cache (ties_only w m) (links w m)

-- the newer row goes first: numbers are given as rows are posted, so it has the higher
abbrev pub newer : ℕ → ℕ → Bool
newer m n = ltb n m

unfoldable pub reason : World → RowNumbers → Option (List ℕ)
reason w m = reason_by newer w m

-- The tried loads: what the call answers, the length of the chain, and the lent list. The store never changes.

pub record Tried : Type 0 where
  pub answer : Reply
  pub count : ℕ
  pub list : List ℕ

abbrev pub tries : Reply → ℕ → List ℕ → Tried
tries a n out = record { answer = a; count = n; list = out }

abbrev pub unlisted : Reply → List ℕ → Tried
unlisted a out = tries a 0 out

-- the chain's numbers stand first in the list, which is else as it was
unfoldable pub listed : Reply → Option (List ℕ) → List ℕ → Tried
listed a none out = unlisted a out
listed a (some ns) out = tries a (length ns) (write_rows set ns 0 out)

-- the store that a load would leave, were it not for agreement: its entry and its constraints included

unfoldable pub after_define : ℕ → List ℕ → World → Option World
after_define l bs w =
    read_file bs >>= λ f. (let k = class_of l f in
    notes_of k k.methods >>= λ ns.
    find w.base.cache (at l k.super) >>= λ p.
    some (with_class w k (override_ties w.base l p w.ties k.methods) (new_subtypes w.subtypes l ns)))

abbrev pub after_load : Load → World → Option World
after_load (load_define l bs) w = after_define l bs w
after_load (load_record l n c) w = some (with_entry w (at l n) c)

-- its own rows numbered after the stored ones
unfoldable pub reason_after : Rows → Option World → Option (List ℕ)
reason_after r after = after >>= λ w. reason w (numbered_on w.ties w.subtypes r)

-- a chain is listed on a clash alone
unfoldable pub tried : Rows → Option World → Result (Given Reply) → List ℕ → Tried
tried r after (ok g) out = unlisted g.answer out
tried r after (refused w) out = elim (eqb (number w) word_clash) [ true ↦ listed (Denied w) (reason_after r after) out | false ↦ unlisted (Denied w) out ]

unfoldable pub try_load_rows : Load → List ℕ → Rows → Tried
try_load_rows c out r = tried r (after_load c (world_of r)) (try_rows c (length out) r) out

-- On tables: 1 comes first
unfoldable pub try_load : Load → List ℕ → Tables → Tried
try_load c out t = elim (broken t) [ true ↦ unlisted (Denied (Word word_broken)) out | false ↦ try_load_rows c out (view t) ]
