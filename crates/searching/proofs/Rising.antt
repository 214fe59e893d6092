-- Orders by rising length: with no offer used all are left, and the first length that has an order among those that are tried is the order's.
use Rattle.std.specs.Prelude.{Some, None}
use mathlib.Core.Path.{◌≡◌, refl, sym, ap, ◌∙◌}
use mathlib.Core.Bool.{Bool, true, false}
use mathlib.Core.Option.{Option, none, some, none-ne-some, some-injective}
use mathlib.Core.List.{List, [], ◌∷◌}
use Prim.Native.Nat.{ℕ, zero, suc, ◌+◌, ◌-◌, ◌/◌, ◌<◌, ◌≤◌}
use native.Mathlib.Omega.{arith}
use native.Mathlib.Numerals.{add-one}
use lib.ListN.{length, get_or, replicate}
use lib.Dec.{ltb}
use borrow.Author.Tests.{ltb-true, ltb-false}
use Rattle.definition.specs.Lists.{is_some, rows}
use Rattle.definition.specs.Requests.{Request}
use Rattle.definition.specs.Classes.{find}
use Rattle.definition.specs.Tables.{Tables, Rows, view}
use Rattle.definition.specs.Broken.{broken}
use Rattle.definition.specs.Calls.{Load}
use Rattle.definition.specs.Offers.{offers_in, loaded_at, except, first_some, order_of, fewest, order}
use Rattle.laws.specs.Options.{bind-some}
use Rattle.laws.specs.Pruned.{pruned-same}
use Rattle.searching.specs.Offered.{offers_of, is_for_at, offers-count}
use Rattle.searching.specs.Ordering.{Ordered, digits, ordered, shortest_of, left_from, left_of, gives_at, leaves_at, pruned, Searches}

-- No offer is used

unused : (n i : ℕ) → get_or {A = ℕ} (replicate n 0) i 0 ≡ 0
unused zero i = refl
unused (suc n) zero = refl
unused (suc n) (suc i) = unused n i

all_left : (m k i : ℕ) → left_from (replicate m 0) k i ≡ rows (λ j. j) k i
unfolding left_from rows
all_left m zero i = refl
all_left m (suc k) i = rw (unused m i, left_from) (ap (λ (js : List ℕ). i ∷ js) (all_left m k (suc i)))

-- An order of n loads has n numbers

first_of : {A B : Type 0} (f : A → Option B) (xs : List A) (b : B) → first_some f xs ≡ some b → (x : A) × (f x ≡ some b)
unfolding first_some
first_of f [] b h = absurd (none-ne-some b h)
first_of {A} {B} f (x ∷ xs) b h = go (f x) refl h (first_of f xs b)
  where
    go : (o : Option B) → f x ≡ o → (elim o as (λ _. Option B) [ none ↦ first_some f xs | some c ↦ some c ]) ≡ some b → (first_some f xs ≡ some b → (y : A) × (f y ≡ some b)) → (y : A) × (f y ≡ some b)
    go none e r k = k r
    go (some c) e r k = (x, e ∙ r)

module _ (offers : List Load) (q : Request) where
  order-length : (n : ℕ) (left : List ℕ) (r : Rows) (is : List ℕ) → order_of offers q n left r ≡ some is → length is ≡ n
  unfolding order_of
  order-length zero left r is e = go (find r.cache q) e
    where
      go : (o : Option ℕ) → (elim o as (λ _. Option (List ℕ)) [ none ↦ none | some c ↦ some [] ]) ≡ some is → length is ≡ 0
      go none h = absurd (none-ne-some is h)
      go (some c) h = sym (ap length (some-injective [] is h))
  order-length (suc n) left r is e =
      let a = first_of _ left is e in
      let b = bind-some (loaded_at offers a.0 r) _ a.1 in
      let c = bind-some (order_of offers q n (except a.0 left) b.0) _ b.2 in
      sym (ap length (some-injective (a.0 ∷ c.0) is c.2)) ∙ ap suc (order-length n (except a.0 left) b.0 c.0 c.1)

  -- Lengths from n on

  none_of : (k n : ℕ) (left : List ℕ) (r : Rows) → order_of offers q n left r ≡ none → fewest offers q (suc k) n left r ≡ fewest offers q k (suc n) left r
  unfolding fewest
  none_of k n left r e = rw (e, fewest) refl

  some_of : (k n : ℕ) (left : List ℕ) (r : Rows) (is : List ℕ) → order_of offers q n left r ≡ some is → fewest offers q (suc k) n left r ≡ some is
  unfolding fewest
  some_of k n left r is e = rw (e, fewest) refl

  none_left : (n : ℕ) (left : List ℕ) (r : Rows) → fewest offers q 0 n left r ≡ none
  unfolding fewest
  none_left n left r = refl

none-ordered : (o : Option (List ℕ)) → None ≡ ordered o → o ≡ none
unfolding ordered
none-ordered none h = refl
none-ordered (some is) h = cc

some-ordered : (o : Option (List ℕ)) (c : ℕ) → Some c ≡ ordered o → (is : List ℕ) × ((o ≡ some is) × (c ≡ digits is))
unfolding ordered
some-ordered none c h = absurd (let z : ◌≡◌ {A = ℕ} 0 1 = cc in omega arith)
some-ordered (some is) c h = (is, (refl, cc))

-- By rising n, up to k: no order of fewer loads works, and the tables show what they showed

pub record Rising (cells files : List ℕ) (q : Request) (m : ℕ) (t s : Tables) (k n : ℕ) : Type 0 where
  pub up_to : n ≤ k + 1
  pub whole : broken s ≡ false
  pub shows : view s ≡ view t
  pub fewer : (j : ℕ) → j < n → order_of (offers_of cells files) q j (left_of cells (replicate m 0)) (view t) ≡ none
  pub longer : fewest (offers_of cells files) q (suc k - n) n (left_of cells (replicate m 0)) (view t) ≡ order (offers_of cells files) q (view t)

module _ (cells files : List ℕ) (q : Request) (m : ℕ) (t : Tables) where
  abbrev offers : List Load
  offers = offers_of cells files

  abbrev left : List ℕ
  left = left_of cells (replicate m 0)

  pub rising-start : broken t ≡ false → is_some (offers_in cells files) ≡ true → (k : ℕ) → k ≡ length cells / 4 → Rising cells files q m t t k 0
  unfolding order
  rising-start h reads k e = record {
    up_to = omega arith;
    whole = h;
    shows = refl;
    fewer = λ j l. absurd (omega (arith, l));
    longer =
        let c : k ≡ length offers = e ∙ sym (offers-count cells files reads) in
        let z : suc k - 0 ≡ suc k = omega arith in
        ap (λ (y : ℕ). fewest offers q y 0 left (view t)) z ∙ λ i. fewest offers q (suc (c i)) 0 (start (length cells / 4) (sym e ∙ c) i) (view t);
  }
    where
      start : (n : ℕ) → n ≡ length offers → left_from (replicate m 0) n 0 ≡ rows (λ j. j) (length offers) 0
      start n z = all_left m n 0 ∙ ap (λ (x : ℕ). rows (λ j. j) x 0) z

  module _ (s : Tables) (k n : ℕ) (w : Rising cells files q m t s k n) (l : n ≤ k) (u : Tables) (r : Ordered) (x : Searches (pruned cells files q n left (view s)) n s u r) where
    same : pruned cells files q n left (view s) ≡ order_of offers q n left (view t)
    unfolding pruned
    same = ap (λ (y : Rows). pruned cells files q n left y) w.shows ∙ pruned-same offers q (is_for_at cells files q) (gives_at cells files q) (leaves_at cells files q) n left (view t) w.fewer

    step : suc k - n ≡ suc (suc k - (n + 1))
    step = omega (arith, l)

    -- none has n loads
    pub rising-on : r ≡ None → Rising cells files q m t u k (n + 1)
    rising-on p =
        let e : order_of offers q n left (view t) ≡ none = sym same ∙ none-ordered (pruned cells files q n left (view s)) (sym p ∙ x.answers) in
        record {
          up_to = omega (arith, l);
          whole = (x.back p).0;
          shows = (x.back p).1 ∙ w.shows;
          fewer = λ j d. below j e (ltb j n) refl d;
          longer =
              (λ i. fewest offers q (suc k - (n + 1)) (add-one n i) left (view t))
              ∙ (sym (none_of offers q (suc k - (n + 1)) n left (view t) e) ∙ (ap (λ (y : ℕ). fewest offers q y n left (view t)) (sym step) ∙ w.longer));
        }
      where
        below : (j : ℕ) → order_of offers q n left (view t) ≡ none → (b : Bool) → ltb j n ≡ b → j < n + 1 → order_of offers q j left (view t) ≡ none
        below j e true b d = w.fewer j (ltb-true j n b)
        below j e false b d = let z : j ≡ n = omega (arith, d, ltb-false j n b) in ap (λ (y : ℕ). order_of offers q y left (view t)) z ∙ e

    -- one has
    pub rising-found : (c : ℕ) → r ≡ Some c → Some (record { loads = n; code = c }) ≡ shortest_of (order offers q (view t))
    unfolding shortest_of
    rising-found c p =
        let a = some-ordered (pruned cells files q n left (view s)) c (sym p ∙ x.answers) in
        let e : order_of offers q n left (view t) ≡ some a.0 = sym same ∙ a.1.0 in
        let o : order offers q (view t) ≡ some a.0 = sym w.longer ∙ (ap (λ (y : ℕ). fewest offers q y n left (view t)) step ∙ some_of offers q (suc k - (n + 1)) n left (view t) a.0 e) in
        (λ i. Some (record { loads = sym (order-length offers q n left (view t) a.0 e) i; code = a.1.1 i })) ∙ ap shortest_of (sym o)

  -- none is longer
  pub rising-end : (s : Tables) (k n : ℕ) → Rising cells files q m t s k n → k < n → None ≡ shortest_of (order offers q (view t))
  unfolding shortest_of
  rising-end s k n w l =
      let z : suc k - n ≡ 0 = omega (arith, l) in
      ap shortest_of (sym (none_left offers q n left (view t)) ∙ (ap (λ (y : ℕ). fewest offers q y n left (view t)) (sym z) ∙ w.longer))
