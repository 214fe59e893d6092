-- What a search for an order need not try: a load for the wanted request stands last in a fewest order, and none other does.
use Rattle.std.proofs.Math.Path.{◌≡◌, refl, ap}
use Rattle.std.proofs.Common.{sym, ◌∙◌, arith}
use Rattle.std.specs.Prelude.{Bool, true, false, not}
use Rattle.std.proofs.lemmas.Bool.{false≢true}
use Rattle.std.proofs.Math.Option.{Option, none, some, none-ne-some}
use mathlib.Core.List.Memᴰ
use mathlib.Core.List.{List, [], ◌∷◌, Memᴰ}
use Prim.Native.Nat.{ℕ, zero, suc, ◌<◌}
use Rattle.definition.specs.Maybe.{◌>>=◌}
use Rattle.definition.specs.Requests.{Request}
use Rattle.definition.specs.Classes.{find}
use Rattle.definition.specs.Tables.{Rows}
use Rattle.definition.specs.Calls.{Load}
use Rattle.definition.specs.Offers.{loaded_at, except, first_some, order_of}
use Rattle.laws.specs.Options.{some-bind}

-- `is_for i`: offer i is a load for the wanted request, so that once it is accepted the request is cached, and no other offer's load caches it.
module _ (offers : List Load) (q : Request) (is_for : ℕ → Bool)
    (gives : (i : ℕ) (r s : Rows) → is_for i ≡ true → loaded_at offers i r ≡ some s → (c : ℕ) × (find s.cache q ≡ some c))
    (leaves : (i : ℕ) (r s : Rows) → is_for i ≡ false → loaded_at offers i r ≡ some s → find s.cache q ≡ find r.cache q) where
  not-false-is : (b : Bool) → not b ≡ false → b ≡ true
  not-false-is true h = refl
  not-false-is false h = absurd (false≢true (sym h))

  -- a load for the wanted request stands last, and none other does
  unfoldable pub is_tried : ℕ → ℕ → Bool
  is_tried zero i = is_for i
  is_tried (suc n) i = not (is_for i)

  unfoldable pub pruned_of : ℕ → List ℕ → Rows → Option (List ℕ)
  pruned_of zero left r = elim (find r.cache q) [ none ↦ none | some c ↦ some [] ]
  pruned_of (suc n) left r = first_some (λ i. elim (is_tried n i) as (λ _. Option (List ℕ)) [
    | true ↦ loaded_at offers i r >>= λ s. pruned_of n (except i left) s >>= λ is. some (i ∷ is)
    | false ↦ none
  ]) left

  same-somes : {A B : Type 0} (f g : A → Option B) (xs : List A) → ((x : A) → Memᴰ x xs → f x ≡ g x) → first_some f xs ≡ first_some g xs
  unfolding first_some
  same-somes f g [] h = refl
  same-somes {A} {B} f g (x ∷ xs) h = λ i. elim (h x (Memᴰ.head refl) i) as (λ _. Option B) [ none ↦ same-somes f g xs (λ y m. h y (Memᴰ.tail m)) i | some b ↦ some b ]

  none-at : {A B : Type 0} (f : A → Option B) (xs : List A) → first_some f xs ≡ none → (x : A) → Memᴰ x xs → f x ≡ none
  unfolding first_some
  none-at f [] h x m = absurd (Memᴰ.not-nil m)
  none-at {A} {B} f (y ∷ xs) h x m = go (f y) refl h m (none-at f xs)
    where
      go : (o : Option B) → f y ≡ o → ◌≡◌ {A = Option B} (elim o as (λ _. Option B) [ none ↦ first_some f xs | some b ↦ some b ]) none → Memᴰ x (y ∷ xs) → (first_some f xs ≡ none → (z : A) → Memᴰ z xs → f z ≡ none) → f x ≡ none
      go none e r (Memᴰ.head p) k = ap f p ∙ e
      go none e r (Memᴰ.tail l) k = k r x l
      go (some b) e r l k = absurd (none-ne-some b (sym r))

  uncached : (left : List ℕ) (r : Rows) → order_of offers q 0 left r ≡ none → find r.cache q ≡ none
  unfolding order_of
  uncached left r h = go (find r.cache q) h
    where
      go : (o : Option ℕ) → ◌≡◌ {A = Option (List ℕ)} (elim o as (λ _. Option (List ℕ)) [ none ↦ none | some c ↦ some [] ]) none → o ≡ none
      go none e = refl
      go (some c) e = absurd (none-ne-some [] (sym e))

  -- nothing is found where a load isn't tried
  skipped : (n : ℕ) (left : List ℕ) (r : Rows) (i : ℕ) → is_tried n i ≡ false → order_of offers q 0 left r ≡ none
      → ((s : Rows) → loaded_at offers i r ≡ some s → (k : ℕ) → k < n → order_of offers q k (except i left) s ≡ none)
      → ◌≡◌ {A = Option (List ℕ)} none (loaded_at offers i r >>= λ s. order_of offers q n (except i left) s >>= λ is. some (i ∷ is))
  unfolding is_tried order_of ◌>>=◌
  skipped zero left r i e z f = by (loaded_at offers i r) refl
    where
      by : (o : Option Rows) → loaded_at offers i r ≡ o → ◌≡◌ {A = Option (List ℕ)} none (o >>= λ s. order_of offers q zero (except i left) s >>= λ is. some (i ∷ is))
      by none l = refl
      by (some s) l = rw (leaves i r s e l ∙ uncached left r z, order_of) refl
  skipped (suc n) left r i e z f = by (loaded_at offers i r) refl
    where
      by : (o : Option Rows) → loaded_at offers i r ≡ o → ◌≡◌ {A = Option (List ℕ)} none (o >>= λ s. order_of offers q (suc n) (except i left) s >>= λ is. some (i ∷ is))
      by none l = refl
      by (some s) l = let c = gives i r s (not-false-is (is_for i) e) l in absurd (none-ne-some c.0 (sym (uncached (except i left) s (f s l 0 (omega arith))) ∙ c.1))

  -- where no order of fewer loads works, one of n loads is found among those that are tried
  pub pruned-same : (n : ℕ) (left : List ℕ) (r : Rows) → ((k : ℕ) → k < n → order_of offers q k left r ≡ none) → pruned_of n left r ≡ order_of offers q n left r
  unfolding pruned_of order_of ◌>>=◌ is_tried
  pruned-same zero left r h = refl
  pruned-same (suc n) left r h = same-somes _ _ left (λ i m. each i m (is_tried n i) refl (λ s. pruned-same n (except i left) s))
    where
      F : ℕ → ℕ → Option (List ℕ)
      F k i = loaded_at offers i r >>= λ s. order_of offers q k (except i left) s >>= λ is. some (i ∷ is)

      -- after an accepted load no order of fewer loads works either
      fewer : (i : ℕ) → Memᴰ i left → (s : Rows) → loaded_at offers i r ≡ some s → (k : ℕ) → k < n → order_of offers q k (except i left) s ≡ none
      fewer i m s l k d = go (order_of offers q k (except i left) s) refl
        where
          go : (o : Option (List ℕ)) → order_of offers q k (except i left) s ≡ o → o ≡ none
          go none e = refl
          go (some is) e = absurd (none-ne-some (i ∷ is) (sym (none-at (F k) left (h (suc k) (omega arith)) i m) ∙ some-bind (loaded_at offers i r) _ l (some-bind (order_of offers q k (except i left) s) _ e refl)))

      each : (i : ℕ) → Memᴰ i left → (t : Bool) → is_tried n i ≡ t → ((s : Rows) → ((k : ℕ) → k < n → order_of offers q k (except i left) s ≡ none) → pruned_of n (except i left) s ≡ order_of offers q n (except i left) s)
          → (elim t as (λ _. Option (List ℕ)) [ true ↦ loaded_at offers i r >>= λ s. pruned_of n (except i left) s >>= λ is. some (i ∷ is) | false ↦ none ]) ≡ F n i
      each i m true e ih = by (loaded_at offers i r) refl
        where
          by : (o : Option Rows) → loaded_at offers i r ≡ o → (o >>= λ s. pruned_of n (except i left) s >>= λ is. some (i ∷ is)) ≡ (o >>= λ s. order_of offers q n (except i left) s >>= λ is. some (i ∷ is))
          by none l = refl
          by (some s) l = ap (λ (o : Option (List ℕ)). o >>= λ is. some (i ∷ is)) (ih s (fewer i m s l))
      each i m false e ih = skipped n left r i e (h 0 (omega arith)) (fewer i m)
