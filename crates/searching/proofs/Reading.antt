-- Reading offers: each case of a row, and of the rows.
use mathlib.Core.Path.{◌≡◌, refl, sym, ap, ◌∙◌}
use mathlib.Core.Bool.{Bool, true, false, false≢true}
use mathlib.Core.Option.{Option, none, some}
use mathlib.Core.List.{List, ◌∷◌}
use Prim.Native.Nat.{ℕ, suc, ◌+◌, ◌-◌, ◌/◌, ◌%◌, ◌<◌, ◌≤◌}
use native.Mathlib.Omega.{arith}
use native.Mathlib.Numerals.{add-one}
use lib.ListN.{length, take, drop}
use lib.Dec.{eqb, leb, ltb}
use borrow.Author.Tests.{eq-eqb, ne_eqb, lt-leb, le-leb}
use Rattle.definition.specs.Numbers.{short_range}
use Rattle.definition.specs.Lists.{is_some}
use Rattle.definition.specs.Maybe.{◌>>=◌, need}
use Rattle.definition.specs.Instructions.{pick}
use Rattle.definition.specs.Requests.{at, same_request}
use Rattle.definition.specs.Calls.{Load, load_define, load_record}
use Rattle.definition.specs.Offers.{offer_of, offer_at, offers_from, offers_in}
use Rattle.classfile.specs.Reading.{class_name, part_of}
use Rattle.searching.specs.Offered.{load_of, is_for_load}

some-if : {A : Type 0} (b : Bool) (a : A) → is_some (need b >>= λ _. some a) ≡ b
unfolding is_some need ◌>>=◌
some-if true a = refl
some-if false a = refl

-- One row

module _ (files : List ℕ) (k l a b : ℕ) where
  pub offer-define : k ≡ 1 → is_some (offer_of files k l a b) ≡ leb (a + b) (length files)
  unfolding offer_of pick
  offer-define e = rw (eq-eqb k 1 e, offer_of) (some-if (leb (a + b) (length files)) (load_define l (take b (drop a files))))

  pub offer-record : (k ≡ 1 → ⊥) → k ≡ 2 → is_some (offer_of files k l a b) ≡ ltb a short_range
  unfolding offer_of pick
  offer-record n e = rw (ne_eqb k 1 n, offer_of) (rw (eq-eqb k 2 e) (some-if (ltb a short_range) (load_record l a b)))

  pub offer-none : (k ≡ 1 → ⊥) → (k ≡ 2 → ⊥) → is_some (offer_of files k l a b) ≡ false
  unfolding offer_of pick is_some
  offer-none n m = rw (ne_eqb k 1 n, offer_of) (rw (ne_eqb k 2 m) refl)

  module _ (x n : ℕ) where
    pub for-other : (l ≡ x → ⊥) → is_for_load (at x n) (load_of files k l a b) ≡ false
    unfolding load_of pick is_for_load same_request
    for-other h = go (eqb k 1)
      where
        go : (t : Bool) → is_for_load (at x n) (pick t (load_define l (part_of files a b)) (load_record l a b)) ≡ false
        go true = rw (ne_eqb l x h, same_request) refl
        go false = rw (ne_eqb l x h, same_request) refl

    pub for-define : l ≡ x → k ≡ 1 → is_for_load (at x n) (load_of files k l a b) ≡ eqb (class_name (part_of files a b)) n
    unfolding load_of pick is_for_load same_request
    for-define h e = rw (eq-eqb k 1 e, load_of) (rw (eq-eqb l x h, same_request) refl)

    pub for-record : l ≡ x → (k ≡ 1 → ⊥) → is_for_load (at x n) (load_of files k l a b) ≡ eqb a n
    unfolding load_of pick is_for_load same_request
    for-record h e = rw (ne_eqb k 1 e, load_of) (rw (eq-eqb l x h, same_request) refl)

-- All rows

module _ (cells files : List ℕ) where
  on : (k i : ℕ) (o : Option Load) → offer_at cells files i ≡ o → is_some o ≡ true → is_some (offers_from cells files (suc k) i) ≡ is_some (offers_from cells files k (suc i))
  unfolding offers_from is_some ◌>>=◌
  on k i none e h = absurd (false≢true h)
  on k i (some c) e h = rw (e, offers_from) (go (offers_from cells files k (suc i)))
    where
      go : (o : Option (List Load)) → is_some (o >>= λ cs. some (c ∷ cs)) ≡ is_some o
      go none = refl
      go (some cs) = refl

  off : (k i : ℕ) (o : Option Load) → offer_at cells files i ≡ o → is_some o ≡ false → is_some (offers_from cells files (suc k) i) ≡ false
  unfolding offers_from is_some ◌>>=◌
  off k i none e h = rw (e, offers_from) refl
  off k i (some c) e h = absurd (false≢true (sym h))

  module _ (n i : ℕ) where
    pub read_more : i < n → is_some (offer_at cells files i) ≡ true → is_some (offers_from cells files (n - i) i) ≡ is_some (offers_from cells files (n - (i + 1)) (i + 1))
    read_more l h =
        let e : n - i ≡ suc (n - (i + 1)) = omega arith in
        ap (λ (k : ℕ). is_some (offers_from cells files k i)) e ∙ (on (n - (i + 1)) i (offer_at cells files i) refl h ∙ ap (λ (j : ℕ). is_some (offers_from cells files (n - (i + 1)) j)) (sym (add-one i)))

    pub read-stop : i < n → is_some (offer_at cells files i) ≡ false → is_some (offers_from cells files (n - i) i) ≡ false
    read-stop l h = let e : n - i ≡ suc (n - (i + 1)) = omega arith in ap (λ (k : ℕ). is_some (offers_from cells files k i)) e ∙ off (n - (i + 1)) i (offer_at cells files i) refl h

    pub read-end : n ≤ i → is_some (offers_from cells files (n - i) i) ≡ true
    unfolding offers_from is_some
    read-end l = let e : n - i ≡ 0 = omega arith in rw e refl

  pub too_many : 32 < length cells → is_some (offers_in cells files) ≡ false
  unfolding offers_in need ◌>>=◌ is_some
  too_many l = rw (lt-leb (length cells) 32 l, offers_in) refl

  pub cut_off : length cells ≤ 32 → (length cells % 4 ≡ 0 → ⊥) → is_some (offers_in cells files) ≡ false
  unfolding offers_in need ◌>>=◌ is_some
  cut_off l n = rw (le-leb (length cells) 32 l, ne_eqb (length cells % 4) 0 n, offers_in) refl

  pub read-rows : length cells ≤ 32 → length cells % 4 ≡ 0 → (n : ℕ) → n ≡ length cells / 4 → is_some (offers_from cells files (n - 0) 0) ≡ is_some (offers_in cells files)
  unfolding offers_in need ◌>>=◌
  read-rows l m n e = let z : n - 0 ≡ length cells / 4 = omega arith in rw (z, le-leb (length cells) 32 l, eq-eqb (length cells % 4) 0 m, offers_in) refl
