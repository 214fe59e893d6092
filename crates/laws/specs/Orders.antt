-- An order of offered loads that is found works; none that works has fewer loads, and none of as many has lower numbers at the earliest difference; where none is found, none works.
use Rattle.std.proofs.Math.Path.{◌≡◌, refl, ap}
use Rattle.std.proofs.Common.{sym, ◌∙◌}
use Rattle.std.specs.Prelude.{Bool}
use Rattle.std.proofs.Math.Bool.{true, false}
use Rattle.std.proofs.Math.Option.{Option, none, some, none-ne-some, some-injective}
use mathlib.Core.List.Memᴰ
use mathlib.Core.List.{List, [], ◌∷◌, Memᴰ}
use Prim.Native.Nat.{ℕ, zero, suc, ◌+◌, ◌<◌, ◌≤◌}
use native.Mathlib.Omega.{arith}
use Rattle.std.proofs.Math.ListN.{length, get_elem?}
use Rattle.std.proofs.Math.Dec.{eqb, ltb}
use borrow.Author.Tests.{eqb-true, eqb-false, lt-ltb, ltb-true, ltb-false}
use Rattle.definition.specs.Lists.{rows}
use Rattle.definition.specs.Maybe.{◌>>=◌}
use Rattle.definition.specs.Requests.{Request}
use Rattle.definition.specs.Classes.{find}
use Rattle.definition.specs.Tables.{Rows}
use Rattle.definition.specs.Calls.{Load}
use Rattle.definition.specs.Reasons.{Distinct}
use Rattle.definition.specs.Offers.{loaded_at, except, first_some, order_of, fewest, order, AcceptedTo, Works}
use Rattle.laws.specs.Options.{bind-some, some-bind}
use Rattle.laws.specs.Earlier.{NotBefore, lower-first, later-head, same_head, not_itself}
use Rattle.laws.specs.Chosen.{distinct-length}

-- Numbers that rise

-- each is at least n, and they rise
abbrev Rises : ℕ → List ℕ → Type 0
Rises n [] = Unit {0}
Rises n (i ∷ is) = (n ≤ i) × Rises (suc i) is

rises-more : (n m : ℕ) (is : List ℕ) → m ≤ n → Rises n is → Rises m is
rises-more n m [] l h = tt
rises-more n m (i ∷ is) l h = (omega (arith, h.0), h.1)

rises-in : (n : ℕ) (is : List ℕ) → Rises n is → (i : ℕ) → Memᴰ i is → n ≤ i
rises-in n [] h i m = absurd (Memᴰ.not-nil m)
rises-in n (j ∷ is) h i (Memᴰ.head e) = omega (arith, e, h.0)
rises-in n (j ∷ is) h i (Memᴰ.tail m) = omega (arith, h.0, rises-in (suc j) is h.1 i m)

rises-except : (n i : ℕ) (is : List ℕ) → Rises n is → Rises n (except i is)
unfolding except
rises-except n i [] h = tt
rises-except n i (j ∷ js) h = go (eqb i j) (rises-except (suc j) i js h.1)
  where
    go : (b : Bool) → Rises (suc j) (except i js) → Rises n (elim b as (λ _. List ℕ) [ true ↦ js | false ↦ j ∷ except i js ])
    go true k = rises-more (suc j) n js (omega (arith, h.0)) h.1
    go false k = (h.0, k)

-- what is left but for i
in-except : (i j : ℕ) (js : List ℕ) → Memᴰ j (except i js) → Memᴰ j js
unfolding except
in-except i j [] m = m
in-except i j (k ∷ ks) m = go (eqb i k) m (in-except i j ks)
  where
    go : (b : Bool) → Memᴰ j (elim b as (λ _. List ℕ) [ true ↦ ks | false ↦ k ∷ except i ks ]) → (Memᴰ j (except i ks) → Memᴰ j ks) → Memᴰ j (k ∷ ks)
    go true m f = Memᴰ.tail m
    go false (Memᴰ.head e) f = Memᴰ.head e
    go false (Memᴰ.tail m) f = Memᴰ.tail (f m)

except-in : (i j : ℕ) (js : List ℕ) → (i ≡ j → ⊥) → Memᴰ j js → Memᴰ j (except i js)
unfolding except
except-in i j (k ∷ ks) n m = go (eqb i k) refl m (except-in i j ks n)
  where
    go : (b : Bool) → eqb i k ≡ b → Memᴰ j (k ∷ ks) → (Memᴰ j ks → Memᴰ j (except i ks)) → Memᴰ j (elim b as (λ _. List ℕ) [ true ↦ ks | false ↦ k ∷ except i ks ])
    go true e (Memᴰ.head q) f = absurd (n (eqb-true i k e ∙ sym q))
    go true e (Memᴰ.tail m) f = m
    go false e (Memᴰ.head q) f = Memᴰ.head q
    go false e (Memᴰ.tail m) f = Memᴰ.tail (f m)
except-in i j [] n m = absurd (Memᴰ.not-nil m)

not-in-except : (i n : ℕ) (js : List ℕ) → Rises n js → Memᴰ i (except i js) → ⊥
unfolding except
not-in-except i n [] h m = Memᴰ.not-nil m
not-in-except i n (k ∷ ks) h m = go (eqb i k) refl m (not-in-except i (suc k) ks h.1)
  where
    go : (b : Bool) → eqb i k ≡ b → Memᴰ i (elim b as (λ _. List ℕ) [ true ↦ ks | false ↦ k ∷ except i ks ]) → (Memᴰ i (except i ks) → ⊥) → ⊥
    go true e m f = omega (arith, eqb-true i k e, rises-in (suc k) ks h.1 i m)
    go false e (Memᴰ.head q) f = eqb-false i k e q
    go false e (Memᴰ.tail m) f = f m

-- the first of some

some_of : {A B : Type 0} (f : A → Option B) (xs : List A) (b : B) → first_some f xs ≡ some b → (x : A) × Memᴰ x xs × (f x ≡ some b)
unfolding first_some
some_of f [] b h = absurd (none-ne-some b h)
some_of {A} {B} f (x ∷ xs) b h = go (f x) refl h (some_of f xs b)
  where
    go : (o : Option B) → f x ≡ o → (elim o as (λ _. Option B) [ none ↦ first_some f xs | some c ↦ some c ]) ≡ some b → (first_some f xs ≡ some b → (y : A) × Memᴰ y xs × (f y ≡ some b))
        → (y : A) × Memᴰ y (x ∷ xs) × (f y ≡ some b)
    go none e r k = let z = k r in (z.0, Memᴰ.tail z.1, z.2)
    go (some c) e r k = (x, Memᴰ.head refl, e ∙ r)

-- of numbers that rise the one found is no later than any that has one
first-at : {B : Type 0} (f : ℕ → Option B) (n : ℕ) (is : List ℕ) → Rises n is → (i : ℕ) → Memᴰ i is → (b : B) → f i ≡ some b
    → (j : ℕ) × (c : B) × (j ≤ i) × (f j ≡ some c) × (first_some f is ≡ some c)
unfolding first_some
first-at {B} f n (k ∷ ks) h i m b e = go (f k) refl m (λ l. first-at f (suc k) ks h.1 i l b e)
  where
    go : (o : Option B) → f k ≡ o → Memᴰ i (k ∷ ks) → (Memᴰ i ks → (j : ℕ) × (c : B) × (j ≤ i) × (f j ≡ some c) × (first_some f ks ≡ some c))
        → (j : ℕ) × (c : B) × (j ≤ i) × (f j ≡ some c) × ((elim o as (λ _. Option B) [ none ↦ first_some f ks | some d ↦ some d ]) ≡ some c)
    go (some c) q (Memᴰ.head p) r = (k, c, omega (arith, p), q, refl)
    go (some c) q (Memᴰ.tail l) r = (k, c, omega (arith, rises-in (suc k) ks h.1 i l), q, refl)
    go none q (Memᴰ.head p) r = absurd (none-ne-some b (sym q ∙ (ap f (sym p) ∙ e)))
    go none q (Memᴰ.tail l) r = r l
first-at f n [] h i m b e = absurd (Memᴰ.not-nil m)

module _ (offers : List Load) (q : Request) where
  -- what is found of the numbers left
  record FoundOf (n : ℕ) (left : List ℕ) (r : Rows) (is : List ℕ) : Type 0 where
    works : Works offers q r is
    long : length is ≡ n
    among : (i : ℕ) → Memᴰ i is → Memᴰ i left

  order-found : (n m : ℕ) (left : List ℕ) (r : Rows) (is : List ℕ) → Rises m left → order_of offers q n left r ≡ some is → FoundOf n left r is
  unfolding order_of
  order-found zero m left r is h e = go (find r.cache q) refl e
    where
      go : (o : Option ℕ) → find r.cache q ≡ o → (elim o as (λ _. Option (List ℕ)) [ none ↦ none | some c ↦ some [] ]) ≡ some is → FoundOf zero left r is
      go none p e = absurd (none-ne-some is e)
      go (some c) p e = rw (sym (some-injective [] is e)) (record { works = record { once = tt; left = r; accepted = refl; class = c; cached = p }; long = refl; among = λ i l. absurd (Memᴰ.not-nil l) })
  order-found (suc n) m left r is h e =
      let a = some_of _ left is e in
      let b = bind-some (loaded_at offers a.0 r) _ a.2 in
      let c = bind-some (order_of offers q n (except a.0 left) b.0) _ b.2 in
      let g = order-found n m (except a.0 left) b.0 c.0 (rises-except m a.0 left h) c.1 in
      rw (sym (some-injective (a.0 ∷ c.0) is c.2)) (record {
        works = record {
          once = (λ l. not-in-except a.0 m left h (g.among a.0 l), g.works.once);
          left = g.works.left;
          accepted = (b.0, b.1, g.works.accepted);
          class = g.works.class;
          cached = g.works.cached;
        };
        long = ap suc g.long;
        among = λ i l. in_left i l a.1 (λ k. in-except a.0 i left (g.among i k));
      })
    where
      in_left : {j : ℕ} {js : List ℕ} (i : ℕ) → Memᴰ i (j ∷ js) → Memᴰ j left → (Memᴰ i js → Memᴰ i left) → Memᴰ i left
      in_left i (Memᴰ.head p) k f = rw p k
      in_left i (Memᴰ.tail l) k f = f l

  -- one that works is found, or one that it isn't before
  has-order : (m : ℕ) (left : List ℕ) (r : Rows) (js : List ℕ) → Rises m left → Distinct js → ((i : ℕ) → Memᴰ i js → Memᴰ i left) → (s : Rows) → AcceptedTo offers r js s → (c : ℕ) → find s.cache q ≡ some c
      → (is : List ℕ) × (order_of offers q (length js) left r ≡ some is) × NotBefore lower-first js is
  unfolding order_of
  has-order m left r [] h d f s a c e = ([], rw (ap (λ (x : Rows). find x.cache q) a ∙ e, order_of) refl, not_itself lower-first [])
  has-order m left r (j ∷ js) h d f s (x, l, a) c e =
      let g = has-order m (except j left) x js (rises-except m j left h) d.1 (λ i k. except-in j i left (λ p. d.0 (rw (sym p) at k)) (f i (Memᴰ.tail k))) s a c e in
      found g.0 g.2 (some-bind (loaded_at offers j r) _ l (some-bind (order_of offers q (length js) (except j left) x) _ g.1 refl))
    where
      F : ℕ → Option (List ℕ)
      F i = loaded_at offers i r >>= λ s. order_of offers q (length js) (except i left) s >>= λ is. some (i ∷ is)

      begins : (i : ℕ) (is : List ℕ) → F i ≡ some is → (ks : List ℕ) × (i ∷ ks ≡ is)
      begins i is p =
          let a = bind-some (loaded_at offers i r) _ p in
          let b = bind-some (order_of offers q (length js) (except i left) a.0) _ a.2 in
          (b.0, some-injective _ _ b.2)

      found : (ks : List ℕ) → NotBefore lower-first js ks → F j ≡ some (j ∷ ks) → (is : List ℕ) × (first_some F left ≡ some is) × NotBefore lower-first (j ∷ js) is
      found ks n p = let t = first-at F m left h j (f j (Memᴰ.head refl)) (j ∷ ks) p in (t.1, t.4, go t.0 t.1 t.3 (begins t.0 t.1 t.3) (eqb t.0 j) refl t.2)
        where
          go : (i : ℕ) (is : List ℕ) → F i ≡ some is → (k : List ℕ) × (i ∷ k ≡ is) → (b : Bool) → eqb i j ≡ b → i ≤ j → NotBefore lower-first (j ∷ js) is
          go i is u k true z o =
              let w : is ≡ j ∷ ks = some-injective is (j ∷ ks) (sym u ∙ (ap F (eqb-true i j z) ∙ p)) in
              rw w (same_head lower-first j js ks n)
          go i is u k false z o = rw (sym k.1) (later-head lower-first j i js k.0 (lt-ltb i j (omega (arith, eqb-false i j z))))

  -- Lengths, the least first

  record Least (n : ℕ) (left : List ℕ) (r : Rows) (is : List ℕ) : Type 0 where
    at : ℕ
    from : n ≤ at
    has-it : order_of offers q at left r ≡ some is
    none-less : (l : ℕ) → n ≤ l → l < at → order_of offers q l left r ≡ none

  fewest-least : (k n : ℕ) (left : List ℕ) (r : Rows) (is : List ℕ) → fewest offers q k n left r ≡ some is → Least n left r is
  unfolding fewest
  fewest-least zero n left r is h = absurd (none-ne-some is h)
  fewest-least (suc k) n left r is h = go (order_of offers q n left r) refl h (fewest-least k (suc n) left r is)
    where
      go : (o : Option (List ℕ)) → order_of offers q n left r ≡ o → (elim o as (λ _. Option (List ℕ)) [ none ↦ fewest offers q k (suc n) left r | some x ↦ some x ]) ≡ some is
          → (fewest offers q k (suc n) left r ≡ some is → Least (suc n) left r is) → Least n left r is
      go none e p f = let g = f p in record { at = g.at; from = omega (arith, g.from); has-it = g.has-it; none-less = λ l a b. less l a b (g.none-less l) (eqb n l) refl }
        where
          less : {m : ℕ} (l : ℕ) → n ≤ l → l < m → (suc n ≤ l → l < m → order_of offers q l left r ≡ none) → (t : Bool) → eqb n l ≡ t → order_of offers q l left r ≡ none
          less l a b f true z = ap (λ (x : ℕ). order_of offers q x left r) (sym (eqb-true n l z)) ∙ e
          less l a b f false z = f (omega (arith, eqb-false n l z)) b
      go (some x) e p f = record { at = n; from = omega arith; has-it = e ∙ p; none-less = λ l a b. absurd (omega arith) }

  fewest-none : (k n : ℕ) (left : List ℕ) (r : Rows) → fewest offers q k n left r ≡ none → (l : ℕ) → n ≤ l → l < n + k → order_of offers q l left r ≡ none
  unfolding fewest
  fewest-none zero n left r h l a b = absurd (omega arith)
  fewest-none (suc k) n left r h l a b = go (order_of offers q n left r) refl h (λ p. fewest-none k (suc n) left r p l)
    where
      go : (o : Option (List ℕ)) → order_of offers q n left r ≡ o → ◌≡◌ {A = Option (List ℕ)} (elim o as (λ _. Option (List ℕ)) [ none ↦ fewest offers q k (suc n) left r | some x ↦ some x ]) none
          → (fewest offers q k (suc n) left r ≡ none → suc n ≤ l → l < suc n + k → order_of offers q l left r ≡ none) → order_of offers q l left r ≡ none
      go none e p f = pick (eqb n l) refl
        where
          pick : (t : Bool) → eqb n l ≡ t → order_of offers q l left r ≡ none
          pick true z = ap (λ (x : ℕ). order_of offers q x left r) (sym (eqb-true n l z)) ∙ e
          pick false z = f p (omega (arith, eqb-false n l z)) (omega arith)
      go (some x) e p f = absurd (none-ne-some x (sym p))

  -- All offers

  abbrev all : List ℕ
  all = rows (λ i. i) (length offers) 0

  rises-all : (k i : ℕ) → Rises i (rows (λ j. j) k i)
  unfolding rows
  rises-all zero i = tt
  rises-all (suc k) i = (omega arith, rises-all k (suc i))

  in-all : (k i j : ℕ) → i ≤ j → j < i + k → Memᴰ j (rows (λ x. x) k i)
  unfolding rows
  in-all zero i j a b = absurd (omega arith)
  in-all (suc k) i j a b = go (eqb j i) refl (λ c d. in-all k (suc i) j c d)
    where
      go : (t : Bool) → eqb j i ≡ t → (suc i ≤ j → j < suc i + k → Memᴰ j (rows (λ x. x) k (suc i))) → Memᴰ j (i ∷ rows (λ x. x) k (suc i))
      go true e f = Memᴰ.head (eqb-true j i e)
      go false e f = Memᴰ.tail (f (omega (arith, eqb-false j i e)) (omega arith))

  all-length : (k i : ℕ) → length (rows (λ x. x) k i) ≡ k
  unfolding rows
  all-length zero i = refl
  all-length (suc k) i = ap suc (all-length k (suc i))

  there : {A : Type 0} (xs : List A) (i : ℕ) (x : A) → get_elem? xs i ≡ some x → i < length xs
  there [] i x e = absurd (none-ne-some x e)
  there (y ∷ xs) zero x e = omega arith
  there (y ∷ xs) (suc i) x e = omega (arith, there xs i x e)

  accepted-in : (r : Rows) (js : List ℕ) (s : Rows) → AcceptedTo offers r js s → (i : ℕ) → Memᴰ i js → i < length offers
  unfolding loaded_at
  accepted-in r [] s a i m = absurd (Memᴰ.not-nil m)
  accepted-in r (j ∷ js) s (x, l, a) i (Memᴰ.head e) = let b = bind-some (get_elem? offers j) _ l in rw e (there offers j b.0 b.1)
  accepted-in r (j ∷ js) s (x, l, a) i (Memᴰ.tail m) = accepted-in x js s a i m

  module _ (r : Rows) where
    among-all : (js : List ℕ) → Works offers q r js → (i : ℕ) → Memᴰ i js → Memᴰ i all
    among-all js w i m = in-all (length offers) 0 i (omega arith) (omega (arith, accepted-in r js w.left w.accepted i m))

    few : (js : List ℕ) → Works offers q r js → length js ≤ length offers
    few js w = omega (arith, distinct-length js all w.once (among-all js w), all-length (length offers) 0)

    has : (js : List ℕ) → Works offers q r js → (is : List ℕ) × (order_of offers q (length js) all r ≡ some is) × NotBefore lower-first js is
    has js w = has-order 0 all r js (rises-all (length offers) 0) w.once (among-all js w) w.left w.accepted w.class w.cached

    -- nothing is needed if it is cached already
    pub order-cached : (c : ℕ) → find r.cache q ≡ some c → order offers q r ≡ some []
    unfolding order fewest
    order-cached c h = rw (at_once, fewest) refl
      where
        at_once : order_of offers q 0 all r ≡ some []
        at_once = unfold order_of in rw (h, order_of) refl

    -- an order that is found works
    pub order-works : (is : List ℕ) → order offers q r ≡ some is → Works offers q r is
    unfolding order
    order-works is h = let g = fewest-least (suc (length offers)) 0 all r is h in (order-found g.at 0 all r is (rises-all (length offers) 0) g.has-it).works

    -- none that works has fewer loads
    pub order-fewest : (is js : List ℕ) → order offers q r ≡ some is → Works offers q r js → length is ≤ length js
    unfolding order
    order-fewest is js h w =
        let g = fewest-least (suc (length offers)) 0 all r is h in
        let f = order-found g.at 0 all r is (rises-all (length offers) 0) g.has-it in
        let t = has js w in
        go g.at (ltb (length js) g.at) refl f.long (g.none-less (length js) (omega arith)) t.0 t.1
      where
        go : (m : ℕ) (b : Bool) → ltb (length js) m ≡ b → length is ≡ m → (length js < m → order_of offers q (length js) all r ≡ none) → (ks : List ℕ) → order_of offers q (length js) all r ≡ some ks → length is ≤ length js
        go m true e l f ks k = absurd (none-ne-some ks (sym (f (ltb-true (length js) m e)) ∙ k))
        go m false e l f ks k = omega (arith, ltb-false (length js) m e)

    -- none of as many has lower numbers at the earliest difference
    pub order-lowest : (is js : List ℕ) → order offers q r ≡ some is → Works offers q r js → length js ≡ length is → NotBefore lower-first js is
    unfolding order
    order-lowest is js h w l =
        let g = fewest-least (suc (length offers)) 0 all r is h in
        let f = order-found g.at 0 all r is (rises-all (length offers) 0) g.has-it in
        let t = has js w in
        let same : t.0 ≡ is = some-injective t.0 is (sym t.1 ∙ (ap (λ (x : ℕ). order_of offers q x all r) (l ∙ f.long) ∙ g.has-it)) in
        rw same at t.2

    -- where none is found, no order of any of them works
    pub order-none : order offers q r ≡ none → (js : List ℕ) → Works offers q r js → ⊥
    unfolding order
    order-none h js w =
        let t = has js w in
        none-ne-some t.0 (sym (fewest-none (suc (length offers)) 0 all r h (length js) (omega arith) (omega (arith, few js w))) ∙ t.1)
