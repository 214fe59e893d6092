-- Orders as numbers, the offers that are left, and what a search of orders of n loads answers and leaves.
use Rattle.std.specs.Prelude as code
use Rattle.std.specs.Prelude.{Some, None}
use Rattle.searching.specs.declared.Order.{Order}
use Rattle.std.specs.Prelude.{◌≡◌, Bool, true, not, ◌&&◌, List, [], ◌∷◌, ℕ, zero, suc, ◌+◌, ◌*◌, ◌/◌, ◌<◌, length, get_or, eqb}
use Rattle.std.proofs.Common.{sym, ◌∙◌}
use Rattle.std.proofs.Math.Path.{ap}
use Rattle.std.proofs.Math.Bool.{false}
use Rattle.std.proofs.Math.Option.{Option, none, some, some-injective}
use Rattle.std.proofs.Math.ListN.{get_elem?}
use Rattle.definition.specs.declared.Reply.{Reply}
use Rattle.definition.specs.declared.Reply.TheVariants.{Accepted, Defined, Stepped, RanFor, Swept, Denied}
use Rattle.definition.specs.Maybe.{◌>>=◌}
use Rattle.definition.specs.Requests.{Request, at, same_request}
use Rattle.definition.specs.Classes.{find}
use Rattle.definition.specs.File.{read_file}
use Rattle.definition.specs.Tables.{Tables, Rows, view}
use Rattle.definition.specs.Broken.{broken}
use Rattle.definition.specs.Calls.{Done, done, Load, load_define, load_record}
use Rattle.laws.specs.Options.{bind-some, some-bind}
use Rattle.definition.specs.Offers.{loaded_at, except}
use Rattle.laws.specs.Pruned.{pruned_of}
use Rattle.unbroken.specs.Offered.{request_of, Caches, load-caches, is_for, gives, leaves}
use Rattle.classfile.specs.Laws.{name_of}
use Rattle.searching.specs.Offered.{is_for_load, is_for_at, offers_of, loads-at}

-- A reply that is no refusal

abbrev pub is_taken : Reply → Bool
is_taken Accepted = true
is_taken (Defined c) = true
is_taken (Stepped a) = true
is_taken (RanFor n a) = true
is_taken (Swept n) = true
is_taken (Denied w) = false

abbrev pub taken_of : Done Reply → Done Bool
taken_of d = done (is_taken d.answer) d.tables

-- An order as the code has it, and the shortest with how many loads it has

abbrev pub Ordered : Type 0
Ordered = code.Option ℕ

abbrev pub Fewest : Type 0
Fewest = code.Option Order

-- An order as a number: the offers' numbers as its digits to the base 8, the first the lowest

unfoldable pub digits : List ℕ → ℕ
digits [] = 0
digits (i ∷ is) = i + 8 * digits is

unfoldable pub ordered : Option (List ℕ) → Ordered
ordered none = None
ordered (some is) = Some (digits is)

-- numbers of n digits are below this
unfoldable pub room : ℕ → ℕ
room zero = 1
room (suc n) = 8 * room n

abbrev pub Fits : ℕ → Ordered → Type 0
Fits n (Some c) = c < room n
Fits n None = Unit {0}

abbrev pub with_first : ℕ → Ordered → Ordered
with_first i (Some c) = Some (i + 8 * c)
with_first i None = None

unfoldable pub cached_order : Option ℕ → Option (List ℕ)
cached_order none = none
cached_order (some c) = some []

-- The numbers from i on, of k, that aren't used

unfoldable pub left_from : List ℕ → ℕ → ℕ → List ℕ
left_from used zero i = []
left_from used (suc k) i = elim (eqb (get_or used i 0) 0) [ true ↦ i ∷ left_from used k (suc i) | false ↦ left_from used k (suc i) ]

abbrev pub left_of : List ℕ → List ℕ → List ℕ
left_of cells used = left_from used (length cells / 4) 0

-- The test by names is the test by requests, for loads that are accepted

module _ (cells files : List ℕ) (q : Request) where
  for-load : (c : Load) (r s : Rows) → Caches c r s → (p : Request) → request_of c ≡ some p → is_for_load q c ≡ same_request p q
  unfolding request_of is_for_load
  for-load (load_define l bs) r s k p e =
      let b = bind-some (read_file bs) _ e in
      ap (λ (n : ℕ). same_request (at l n) q) (name_of bs b.0 b.1) ∙ ap (λ (x : Request). same_request x q) (some-injective (at l b.0.name) p b.2)
  for-load (load_record l n d) r s k p e = ap (λ (x : Request). same_request x q) (some-injective (at l n) p e)

  same-for : (i : ℕ) (r s : Rows) → loaded_at (offers_of cells files) i r ≡ some s → is_for (offers_of cells files) q i ≡ is_for_at cells files q i
  unfolding loaded_at is_for is_for_at
  same-for i r s h =
      let a = bind-some (get_elem? (offers_of cells files) i) _ h in
      let k = load-caches a.0 r s a.2 in
      ap (λ (o : Option Request). elim o as (λ _. Bool) [ none ↦ false | some p ↦ same_request p q ]) (some-bind (get_elem? (offers_of cells files) i) request_of a.1 k.is)
      ∙ (sym (for-load a.0 r s k k.request k.is) ∙ ap (is_for_load q) (sym (loads-at cells files i a.0 a.1)))

  pub gives_at : (i : ℕ) (r s : Rows) → is_for_at cells files q i ≡ true → loaded_at (offers_of cells files) i r ≡ some s → (c : ℕ) × (find s.cache q ≡ some c)
  gives_at i r s t h = gives (offers_of cells files) q i r s (same-for i r s h ∙ t) h

  pub leaves_at : (i : ℕ) (r s : Rows) → is_for_at cells files q i ≡ false → loaded_at (offers_of cells files) i r ≡ some s → find s.cache q ≡ find r.cache q
  leaves_at i r s t h = leaves (offers_of cells files) q i r s (same-for i r s h ∙ t) h

  -- with n loads to follow
  unfoldable pub is_tried_at : ℕ → ℕ → Bool
  is_tried_at zero i = is_for_at cells files q i
  is_tried_at (suc n) i = not (is_for_at cells files q i)

  -- the first order of n loads among those that are tried
  unfoldable pub pruned : ℕ → List ℕ → Rows → Option (List ℕ)
  pruned n left r = pruned_of (offers_of cells files) q (is_for_at cells files q) gives_at leaves_at n left r

  -- one that goes through offer i, with n loads to follow it
  unfoldable pub through : ℕ → List ℕ → Rows → ℕ → Option (List ℕ)
  through n left r i = loaded_at (offers_of cells files) i r >>= λ s. pruned n (except i left) s >>= λ is. some (i ∷ is)

  -- if offer i is tried: it isn't used yet, and is for the wanted request exactly if no load follows
  unfoldable pub tries : ℕ → List ℕ → Rows → ℕ → Option (List ℕ)
  tries n used r i = elim (eqb (get_or used i 0) 0 && is_tried_at n i) as (λ _. Option (List ℕ)) [ true ↦ through n (left_of cells used) r i | false ↦ none ]

-- What a search of orders of n loads answers, where o is to be found: where there is none, the tables show again what they showed
pub record Searches (o : Option (List ℕ)) (n : ℕ) (t u : Tables) (r : Ordered) : Type 0 where
  pub answers : r ≡ ordered o
  pub fits : Fits n r
  pub back : r ≡ None → (broken u ≡ false) × (view u ≡ view t)

-- orders of n loads of the offers that aren't used, for the request of loader l and name m; and those of one load more that begin with offer i, if it is tried
abbrev pub Finds : List ℕ → List ℕ → ℕ → ℕ → ℕ → List ℕ → Tables → Tables → Ordered → Type 0
Finds cells files l m n used t u r = Searches (pruned cells files (at l m) n (left_of cells used) (view t)) n t u r

abbrev pub LeadsOn : List ℕ → List ℕ → ℕ → ℕ → ℕ → List ℕ → ℕ → Tables → Tables → Ordered → Type 0
LeadsOn cells files l m n used i t u r = Searches (tries cells files (at l m) n used (view t) i) (suc n) t u r

-- The shortest order as numbers: how many loads, and the order

unfoldable pub shortest_of : Option (List ℕ) → Fewest
shortest_of none = None
shortest_of (some is) = Some (record { loads = length is; code = digits is })
