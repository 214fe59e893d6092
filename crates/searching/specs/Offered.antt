-- Offers by their rows: the load of each row, how many there are, and which are for the wanted request.
use Rattle.std.specs.Prelude.{◌≡◌, Bool, ◌&&◌, ℕ, zero, suc, ◌+◌, ◌*◌, ◌/◌, ◌%◌, ◌<◌, ◌≤◌, length, get_or, take, drop, leb, ltb}
use Rattle.std.proofs.Math.Path.{refl}
use Rattle.std.proofs.Common.{sym, ap, ◌∙◌, arith}
use Rattle.std.proofs.Math.Bool.{true, false}
use Rattle.std.proofs.lemmas.Bool.{false≢true}
use Rattle.std.proofs.Math.Option.{Option, none, some, none-ne-some, some-injective}
use mathlib.Core.List.{List, [], ◌∷◌}
use Rattle.std.proofs.Math.ListN.{get_elem?}
use Rattle.std.proofs.Math.Dec.{eqb}
use borrow.Author.Tests.{leb-true}
use Rattle.definition.specs.Numbers.{short_range, offer_limit, offer_cells}
use Rattle.definition.specs.Lists.{is_some}
use Rattle.definition.specs.Maybe.{◌>>=◌, need}
use Rattle.definition.specs.Instructions.{pick}
use Rattle.definition.specs.Requests.{Request, at, same_request}
use Rattle.definition.specs.Calls.{Load, load_define, load_record}
use Rattle.definition.specs.Offers.{offer_of, offer_at, offers_from, offers_in}
use Rattle.laws.specs.Options.{bind-some}
use Rattle.laws.specs.Tests.{and-true}
use Rattle.classfile.specs.Reading.{class_name, part_of}

abbrev pub cell_of : List ℕ → ℕ → ℕ → ℕ
cell_of cells i k = get_or cells (i * offer_cells + k) 0

-- the load of row i: a record where it is no define
unfoldable pub load_of : List ℕ → ℕ → ℕ → ℕ → ℕ → Load
load_of files kind l a b = pick (eqb kind 1) (load_define l (part_of files a b)) (load_record l a b)

unfoldable pub load_at : List ℕ → List ℕ → ℕ → Load
load_at cells files i = load_of files (get_or cells (i * offer_cells) 0) (cell_of cells i 1) (cell_of cells i 2) (cell_of cells i 3)

-- the request that a load is for, by the name that its file or itself has
unfoldable pub is_for_load : Request → Load → Bool
is_for_load q (load_define l bs) = same_request (at l (class_name bs)) q
is_for_load q (load_record l n c) = same_request (at l n) q

unfoldable pub is_for_at : List ℕ → List ℕ → Request → ℕ → Bool
is_for_at cells files q i = is_for_load q (load_at cells files i)

-- the offers, as they read
unfoldable pub offers_of : List ℕ → List ℕ → List Load
offers_of cells files = elim (offers_in cells files) [ none ↦ [] | some cs ↦ cs ]

-- Rows

-- a row that is an offer
pub offer-load : (files : List ℕ) (kind l a b : ℕ) (c : Load) → offer_of files kind l a b ≡ some c → load_of files kind l a b ≡ c
unfolding offer_of load_of pick part_of ◌>>=◌ need
offer-load files kind l a b c = go (eqb kind 1) (eqb kind 2) (leb (a + b) (length files)) (ltb a short_range)
  where
    go : (s t u v : Bool) → pick s (need u >>= λ _. some (load_define l (take b (drop a files)))) (pick t (need v >>= λ _. some (load_record l a b)) none) ≡ some c
        → pick s (load_define l (elim u as (λ _. List ℕ) [ true ↦ take b (drop a files) | false ↦ [] ])) (load_record l a b) ≡ c
    go true t true v e = some-injective _ _ e
    go true t false v e = absurd (none-ne-some c e)
    go false true u true e = some-injective _ _ e
    go false true u false e = absurd (none-ne-some c e)
    go false false u v e = absurd (none-ne-some c e)

pub offer-at : (cells files : List ℕ) (i : ℕ) (c : Load) → offer_at cells files i ≡ some c → load_at cells files i ≡ c
unfolding offer_at load_at
offer-at cells files i c e = offer-load files _ _ _ _ c e

-- The rows' offers, one a row

from_at : (cells files : List ℕ) (k i j : ℕ) (cs : List Load) → offers_from cells files k i ≡ some cs → (c : Load) → get_elem? cs j ≡ some c → offer_at cells files (i + j) ≡ some c
unfolding offers_from
from_at cells files zero i j cs e c h = absurd (none-ne-some c (ap (λ (xs : List Load). get_elem? xs j) (some-injective [] cs e) ∙ h))
from_at cells files (suc k) i j cs e c h =
    let a = bind-some (offer_at cells files i) _ e in
    let b = bind-some (offers_from cells files k (suc i)) _ a.2 in
    go j a.0 b.0 a.1 (ap (λ (xs : List Load). get_elem? xs j) (some-injective (a.0 ∷ b.0) cs b.2) ∙ h) (λ n g. from_at cells files k (suc i) n b.0 b.1 c g)
  where
    go : (j : ℕ) (x : Load) (xs : List Load) → offer_at cells files i ≡ some x → get_elem? (x ∷ xs) j ≡ some c → ((n : ℕ) → get_elem? xs n ≡ some c → offer_at cells files (suc i + n) ≡ some c)
        → offer_at cells files (i + j) ≡ some c
    go zero x xs p g f = let z : i + 0 ≡ i = omega arith in ap (offer_at cells files) z ∙ (p ∙ g)
    go (suc j) x xs p g f = let z : i + suc j ≡ suc i + j = omega arith in ap (offer_at cells files) z ∙ f j g

from-length : (cells files : List ℕ) (k i : ℕ) (cs : List Load) → offers_from cells files k i ≡ some cs → length cs ≡ k
unfolding offers_from
from-length cells files zero i cs e = sym (ap length (some-injective [] cs e))
from-length cells files (suc k) i cs e =
    let a = bind-some (offer_at cells files i) _ e in
    let b = bind-some (offers_from cells files k (suc i)) _ a.2 in
    sym (ap length (some-injective (a.0 ∷ b.0) cs b.2)) ∙ ap suc (from-length cells files k (suc i) b.0 b.1)

module _ (cells files : List ℕ) where
  some-offers : (cs : List Load) → offers_in cells files ≡ some cs → offers_from cells files (length cells / offer_cells) 0 ≡ some cs
  unfolding offers_in
  some-offers cs e = (bind-some _ _ e).2

  pub offers-are : (cs : List Load) → offers_in cells files ≡ some cs → offers_of cells files ≡ cs
  unfolding offers_of
  offers-are cs e = rw (e, offers_of) refl

  offers-none : offers_in cells files ≡ none → offers_of cells files ≡ []
  unfolding offers_of
  offers-none e = rw (e, offers_of) refl

  pub loads-at : (i : ℕ) (c : Load) → get_elem? (offers_of cells files) i ≡ some c → load_at cells files i ≡ c
  loads-at i c h = go (offers_in cells files) refl
    where
      go : (o : Option (List Load)) → offers_in cells files ≡ o → load_at cells files i ≡ c
      go none e = absurd (none-ne-some c (sym (ap (λ (xs : List Load). get_elem? xs i) (offers-none e)) ∙ h))
      go (some cs) e =
          let z : i ≡ 0 + i = omega arith in
          offer-at cells files i c (ap (offer_at cells files) z ∙ from_at cells files (length cells / offer_cells) 0 i cs (some-offers cs e) c (sym (ap (λ (xs : List Load). get_elem? xs i) (offers-are cs e)) ∙ h))

  -- where they read
  module _ (reads : is_some (offers_in cells files) ≡ true) where
    read_some : (cs : List Load) × (offers_in cells files ≡ some cs)
    unfolding is_some
    read_some = go (offers_in cells files) refl reads
      where
        go : (o : Option (List Load)) → offers_in cells files ≡ o → is_some o ≡ true → (cs : List Load) × (offers_in cells files ≡ some cs)
        go none e h = absurd (false≢true h)
        go (some cs) e h = (cs, e)

    pub offers-read : offers_in cells files ≡ some (offers_of cells files)
    offers-read = read_some.1 ∙ ap some (sym (offers-are read_some.0 read_some.1))

    pub offers-count : length (offers_of cells files) ≡ length cells / offer_cells
    offers-count = from-length cells files (length cells / offer_cells) 0 (offers_of cells files) (some-offers (offers_of cells files) offers-read)

    pub offers-few : length cells / offer_cells ≤ offer_limit
    unfolding offers_in
    offers-few =
        let a = bind-some (need (leb (length cells) (offer_limit * offer_cells) && eqb (length cells % offer_cells) 0)) _ offers-read in
        let b = leb-true (length cells) 32 (and-true (leb (length cells) 32) (eqb (length cells % 4) 0) (needed (leb (length cells) 32 && eqb (length cells % 4) 0) a.0 a.1)).0 in
        omega (arith, b)
      where
        needed : (b : Bool) (u : Unit {0}) → need b ≡ some u → b ≡ true
        needed true u h = refl
        needed false u h = absurd (none-ne-some u (unfold need in h))

    pub offered : (i : ℕ) → i < length cells / offer_cells → get_elem? (offers_of cells files) i ≡ some (load_at cells files i)
    offered i l = let a = at-it (offers_of cells files) i (omega (arith, offers-count)) in a.1 ∙ ap some (sym (loads-at i a.0 a.1))
      where
        at-it : (xs : List Load) (i : ℕ) → i < length xs → (c : Load) × (get_elem? xs i ≡ some c)
        at-it [] i l = absurd (omega arith)
        at-it (x ∷ xs) zero l = (x, refl)
        at-it (x ∷ xs) (suc i) l = at-it xs i (omega arith)
