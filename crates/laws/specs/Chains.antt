-- Chains of edges, over any kind of node whose sameness a test tells: what a search finds is exactly what chains reach. One account for
-- ties, for ties with subtype constraints, and for objects that fields link.
use Rattle.std.specs.Prelude.{◌≡◌, Bool, ◌⊎◌, eqb}
use Rattle.std.proofs.Math.Path.{refl, ap}
use Rattle.std.proofs.Common.{sym, ◌∙◌, eqb-true, eq-eqb}
use Rattle.std.proofs.Math.Bool.{true, false}
use Rattle.std.proofs.lemmas.Bool.{false≢true}
use mathlib.Core.List.Memᴰ
use mathlib.Core.List.{List, [], ◌∷◌, ◌++◌, Memᴰ}
use Rattle.std.proofs.Math.Logic.{inl, inr}
use Prim.Native.Nat.{ℕ, zero, suc, ◌+◌, ◌≤◌}
use native.Mathlib.Omega.{arith}
use Rattle.std.proofs.Math.ListN.{length}
use Rattle.definition.specs.Chains.{Chain, Edge, fires, grow, has, leads, rest, hop, reach, reach_from, stay}
use Rattle.definition.specs.Requests.{Request, same_request}

-- Tests of sameness

pub record Tells {A : Type 0} (same : A → A → Bool) : Type 0 where
  pub same-eq : (a b : A) → same a b ≡ true → a ≡ b
  pub same_refl : (a : A) → same a a ≡ true

pub numbers : Tells eqb
numbers = record { same-eq = eqb-true; same_refl = λ a. eq-eqb a a refl }

pub requests : Tells same_request
unfolding same_request
requests = record { same-eq = λ a b h. go a b (eqb a.loader b.loader) refl h; same_refl = λ a. rw (eq-eqb a.loader a.loader refl, same_request) (eq-eqb a.name a.name refl) }
  where
    go : (a b : Request) (t : Bool) → eqb a.loader b.loader ≡ t → (elim t as (λ _. Bool) [ true ↦ eqb a.name b.name | false ↦ false ]) ≡ true → a ≡ b
    go a b true e q = λ i. record { loader = eqb-true a.loader b.loader e i; name = eqb-true a.name b.name q i }
    go a b false e q = absurd (false≢true q)

module _ {A : Type 0} (same : A → A → Bool) where
  -- each edge is still to be used, or its end is reached
  abbrev pub Open : List (Edge A) → List A → List (Edge A) → Type 0
  Open E₀ R E = (e : Edge A) → Memᴰ e E₀ → (has same e.to R ≡ true) ⊎ Memᴰ e E

  abbrev pub Closed : List (Edge A) → List A → Type 0
  Closed E₀ R = (e : Edge A) → Memᴰ e E₀ → has same e.from R ≡ true → has same e.to R ≡ true

module _ {A : Type 0} {same : A → A → Bool} (tells : Tells same) where
  -- Facts on the tests

  pub has-head : (x y : A) (R : List A) → x ≡ y → has same x (y ∷ R) ≡ true
  unfolding has
  has-head x y R e = rw (e, tells.same_refl y, has) refl

  pub has-tail : (x y : A) (R : List A) → has same x R ≡ true → has same x (y ∷ R) ≡ true
  unfolding has
  has-tail x y R h = go (same x y)
    where
      go : (t : Bool) → (elim t as (λ _. Bool) [ true ↦ true | false ↦ has same x R ]) ≡ true
      go true = refl
      go false = h

  pub has-cases : (x y : A) (R : List A) → has same x (y ∷ R) ≡ true → (x ≡ y) ⊎ (has same x R ≡ true)
  unfolding has
  has-cases x y R h = go (same x y) refl h
    where
      go : (t : Bool) → same x y ≡ t → (elim t as (λ _. Bool) [ true ↦ true | false ↦ has same x R ]) ≡ true → (x ≡ y) ⊎ (has same x R ≡ true)
      go true e q = inl (tells.same-eq x y e)
      go false e q = inr q

  pub has_left : (x : A) (R S : List A) → has same x R ≡ true → has same x (R ++ S) ≡ true
  has_left x [] S h = absurd (false≢true (unfold has in h))
  has_left x (y ∷ R) S h = elim (has-cases x y R h) [ inl e ↦ has-head x y (R ++ S) e | inr q ↦ has-tail x y (R ++ S) (has_left x R S q) ]

  pub has_right : (x : A) (R S : List A) → has same x S ≡ true → has same x (R ++ S) ≡ true
  has_right x [] S h = h
  has_right x (y ∷ R) S h = has-tail x y (R ++ S) (has_right x R S h)

  pub has-append : (x : A) (R S : List A) → has same x (R ++ S) ≡ true → (has same x R ≡ true) ⊎ (has same x S ≡ true)
  has-append x [] S h = inr h
  has-append x (y ∷ R) S h = elim (has-cases x y (R ++ S) h) [
    | inl e ↦ inl (has-head x y R e)
    | inr q ↦ elim (has-append x R S q) [ inl p ↦ inl (has-tail x y R p) | inr p ↦ inr p ]
  ]

  -- the test finds what is in the list

  pub has-member : (x : A) (R : List A) → has same x R ≡ true → Memᴰ x R
  has-member x [] h = absurd (false≢true (unfold has in h))
  has-member x (y ∷ R) h = elim (has-cases x y R h) [ inl e ↦ Memᴰ.head e | inr q ↦ Memᴰ.tail (has-member x R q) ]

  pub member-has : (x : A) (R : List A) → Memᴰ x R → has same x R ≡ true
  member-has x [] never = elim never [ ]
  member-has x (y ∷ R) (Memᴰ.head e) = has-head x y R e
  member-has x (y ∷ R) (Memᴰ.tail m) = has-tail x y R (member-has x R m)

  -- Facts on a round

  pub fires-hit : (R : List A) (E : List (Edge A)) (e : Edge A) → Memᴰ e E → has same e.from R ≡ true → has same e.to (fires same R E) ≡ true
  unfolding fires
  fires-hit R [] e never h = elim never [ ]
  fires-hit R (d ∷ E) e (Memᴰ.head q) h = rw (ap (λ (z : Edge A). has same z.from R) (sym q) ∙ h, fires) (has-head e.to d.to (fires same R E) (ap (λ (z : Edge A). z.to) q))
  fires-hit R (d ∷ E) e (Memᴰ.tail m) h = go (has same d.from R) (fires-hit R E e m h)
    where
      go : (t : Bool) → has same e.to (fires same R E) ≡ true → has same e.to (elim t as (λ _. List A) [ true ↦ d.to ∷ fires same R E | false ↦ fires same R E ]) ≡ true
      go true f = has-tail e.to d.to (fires same R E) f
      go false f = f

  pub fires-from : (R : List A) (E : List (Edge A)) (x : A) → has same x (fires same R E) ≡ true → (e : Edge A) × Memᴰ e E × (has same e.from R ≡ true) × (x ≡ e.to)
  unfolding fires
  fires-from R [] x h = absurd (false≢true (unfold has in h))
  fires-from R (d ∷ E) x h = go (has same d.from R) refl h (λ q. fires-from R E x q)
    where
      Found : List (Edge A) → Type 0
      Found D = (e : Edge A) × Memᴰ e D × (has same e.from R ≡ true) × (x ≡ e.to)

      later : Found E → Found (d ∷ E)
      later f = (f.0, Memᴰ.tail f.1, f.2, f.3)

      go : (t : Bool) → has same d.from R ≡ t → has same x (elim t as (λ _. List A) [ true ↦ d.to ∷ fires same R E | false ↦ fires same R E ]) ≡ true → (has same x (fires same R E) ≡ true → Found E) → Found (d ∷ E)
      go true e q f = elim (has-cases x d.to (fires same R E) q) [ inl p ↦ (d, Memᴰ.head refl, e, p) | inr p ↦ later (f p) ]
      go false e q f = later (f q)

  pub rest_from : (R : List A) (E : List (Edge A)) (e : Edge A) → Memᴰ e (rest same R E) → Memᴰ e E
  unfolding rest
  rest_from R [] e m = m
  rest_from R (d ∷ E) e m = go (has same d.from R) m (λ q. rest_from R E e q)
    where
      go : (t : Bool) → Memᴰ e (elim t as (λ _. List (Edge A)) [ true ↦ rest same R E | false ↦ d ∷ rest same R E ]) → (Memᴰ e (rest same R E) → Memᴰ e E) → Memᴰ e (d ∷ E)
      go true q f = Memᴰ.tail (f q)
      go false (Memᴰ.head p) f = Memᴰ.head p
      go false (Memᴰ.tail q) f = Memᴰ.tail (f q)

  pub rest-keeps : (R : List A) (E : List (Edge A)) (e : Edge A) → Memᴰ e E → has same e.from R ≡ false → Memᴰ e (rest same R E)
  unfolding rest
  rest-keeps R [] e never h = elim never [ ]
  rest-keeps R (d ∷ E) e (Memᴰ.head q) h = rw (ap (λ (z : Edge A). has same z.from R) (sym q) ∙ h, rest) (Memᴰ.head q)
  rest-keeps R (d ∷ E) e (Memᴰ.tail m) h = go (has same d.from R) (rest-keeps R E e m h)
    where
      go : (t : Bool) → Memᴰ e (rest same R E) → Memᴰ e (elim t as (λ _. List (Edge A)) [ true ↦ rest same R E | false ↦ d ∷ rest same R E ])
      go true f = f
      go false f = Memᴰ.tail f

  pub round-length : (R : List A) (E : List (Edge A)) → length (fires same R E) + length (rest same R E) ≡ length E
  unfolding fires rest
  round-length R [] = refl
  round-length R (d ∷ E) = go (has same d.from R) (round-length R E)
    where
      go : (t : Bool) → length (fires same R E) + length (rest same R E) ≡ length E → length {A = A} (elim t as (λ _. List A) [ true ↦ d.to ∷ fires same R E | false ↦ fires same R E ]) + length {A = Edge A} (elim t as (λ _. List (Edge A)) [ true ↦ rest same R E | false ↦ d ∷ rest same R E ]) ≡ suc (length E)
      go true f = omega arith
      go false f = omega arith

  -- What holds of the starts and goes on along each edge holds of all that is reached

  pub grow-sound : (P : A → Type 0) (k : ℕ) (R : List A) (E : List (Edge A)) → ((e : Edge A) → Memᴰ e E → P e.from → P e.to)
      → ((x : A) → has same x R ≡ true → P x) → (x : A) → has same x (grow same k R E) ≡ true → P x
  unfolding grow
  grow-sound P zero R E on all x h = all x h
  grow-sound P (suc k) R E on all x h = go (fires same R E) refl h (λ S new. grow-sound P k S (rest same R E) (λ e m. on e (rest_from R E e m)) new x)
    where
      go : (f : List A) → fires same R E ≡ f → has same x (elim f as (λ _. List A) [ [] ↦ R | y ∷ ys ↦ grow same k ((y ∷ ys) ++ R) (rest same R E) ]) ≡ true
          → ((S : List A) → ((z : A) → has same z S ≡ true → P z) → has same x (grow same k S (rest same R E)) ≡ true → P x) → P x
      go [] e q f = all x q
      go (y ∷ ys) e q f = f ((y ∷ ys) ++ R) (λ z p. new z (has-append z (y ∷ ys) R p)) q
        where
          hit : (z : A) → (d : Edge A) × Memᴰ d E × (has same d.from R ≡ true) × (z ≡ d.to) → P z
          hit z r = rw r.3 (on r.0 r.1 (all r.0.from r.2))

          new : (z : A) → (has same z (y ∷ ys) ≡ true) ⊎ (has same z R ≡ true) → P z
          new z (inl p) = hit z (fires-from R E z (rw e p))
          new z (inr p) = all z p

  -- What is reached is closed under the edges, if there are as many rounds as edges

  pub grow-keeps : (k : ℕ) (R : List A) (E : List (Edge A)) (x : A) → has same x R ≡ true → has same x (grow same k R E) ≡ true
  unfolding grow
  grow-keeps zero R E x h = h
  grow-keeps (suc k) R E x h = go (fires same R E) (λ S. grow-keeps k S (rest same R E) x)
    where
      go : (f : List A) → ((S : List A) → has same x S ≡ true → has same x (grow same k S (rest same R E)) ≡ true) → has same x (elim f as (λ _. List A) [ [] ↦ R | y ∷ ys ↦ grow same k ((y ∷ ys) ++ R) (rest same R E) ]) ≡ true
      go [] f = h
      go (y ∷ ys) f = f ((y ∷ ys) ++ R) (has_right x (y ∷ ys) R h)

  pub grow-closed : (E₀ : List (Edge A)) (k : ℕ) (R : List A) (E : List (Edge A)) → length E ≤ k → Open same E₀ R E → Closed same E₀ (grow same k R E)
  unfolding grow
  grow-closed E₀ zero R [] le op e m h = elim (op e m) [ inl p ↦ p | inr p ↦ absurd (Memᴰ.not-nil p) ]
  grow-closed E₀ zero R (d ∷ E) le op e m h = absurd (omega arith)
  grow-closed E₀ (suc k) R E le op e m h = go (fires same R E) refl (λ S l o. grow-closed E₀ k S (rest same R E) l o e m) h
    where
      Grown : List A → List A
      Grown f = elim f as (λ _. List A) [ [] ↦ R | y ∷ ys ↦ grow same k ((y ∷ ys) ++ R) (rest same R E) ]

      go : (f : List A) → fires same R E ≡ f → ((S : List A) → length (rest same R E) ≤ k → Open same E₀ S (rest same R E) → has same e.from (grow same k S (rest same R E)) ≡ true → has same e.to (grow same k S (rest same R E)) ≡ true)
          → has same e.from (Grown f) ≡ true → has same e.to (Grown f) ≡ true
      go [] q f h = elim (op e m) [ inl p ↦ p | inr p ↦ absurd (false≢true (unfold has in rw q at (fires-hit R E e p h))) ]
      go (y ∷ ys) q f h = f ((y ∷ ys) ++ R) (omega (arith, round-length R E, ap length q)) (λ d n. next d (op d n) (has same d.from R) refl) h
        where
          next : (d : Edge A) → (has same d.to R ≡ true) ⊎ Memᴰ d E → (t : Bool) → has same d.from R ≡ t → (has same d.to ((y ∷ ys) ++ R) ≡ true) ⊎ Memᴰ d (rest same R E)
          next d (inl p) t _ = inl (has_right d.to (y ∷ ys) R p)
          next d (inr p) true b = inl (has_left d.to (y ∷ ys) R (rw q at (fires-hit R E d p b)))
          next d (inr p) false b = inr (rest-keeps R E d p b)

  pub closed-chain : {E : List (Edge A)} {a b : A} (R : List A) → Closed same E R → has same a R ≡ true → Chain E a b → has same b R ≡ true
  closed-chain R cl h (stay e) = rw e at h
  closed-chain R cl h (hop c m) = cl _ m (closed-chain R cl h c)

  -- The test and the relation: from many starts, and from one

  pub reached-chain : (E : List (Edge A)) (R : List A) (b : A) → has same b (reach_from same E R) ≡ true → (a : A) × (has same a R ≡ true) × Chain E a b
  unfolding reach_from
  reached-chain E R b h = grow-sound Led (length E) R E (λ e m l. (l.0, l.1, hop l.2 m)) (λ x q. (x, q, stay refl)) b h
    where
      Led : A → Type 0
      Led x = (a : A) × (has same a R ≡ true) × Chain E a x

  pub chain-reached : (E : List (Edge A)) (R : List A) (a b : A) → has same a R ≡ true → Chain E a b → has same b (reach_from same E R) ≡ true
  unfolding reach_from
  chain-reached E R a b h c = closed-chain (grow same (length E) R E) (grow-closed E (length E) R E (omega arith) (λ e m. inr m)) (grow-keeps (length E) R E a h) c

  pub leads-chain : (E : List (Edge A)) (a b : A) → leads same E a b ≡ true → Chain E a b
  unfolding leads reach
  leads-chain E a b h = let r = reached-chain E (a ∷ []) b h in from r.0 (has-cases r.0 a [] r.1) r.2
    where
      from : (x : A) → (x ≡ a) ⊎ (has same x [] ≡ true) → Chain E x b → Chain E a b
      from x (inl e) c = rw e at c
      from x (inr q) c = absurd (false≢true (unfold has in q))

  pub chain-leads : (E : List (Edge A)) (a b : A) → Chain E a b → leads same E a b ≡ true
  unfolding leads reach
  chain-leads E a b c = chain-reached E (a ∷ []) a b (has-head a a [] refl) c

-- Chains join, last under more edges, and turn round where each edge does

module _ {A : Type 0} where
  pub chain-join : {E : List (Edge A)} {a b c : A} → Chain E a b → Chain E b c → Chain E a c
  chain-join {E} {a} {b} {c} p (stay e) = rw e at p
  chain-join p (hop q m) = hop (chain-join p q) m

  pub chain_more : {E F : List (Edge A)} {a b : A} → ((e : Edge A) → Memᴰ e E → Memᴰ e F) → Chain E a b → Chain F a b
  chain_more s (stay e) = stay e
  chain_more s (hop c m) = hop (chain_more s c) (s _ m)

  abbrev pub turned : Edge A → Edge A
  turned e = record { from = e.to; to = e.from }

  pub chain-turn : {E : List (Edge A)} {a b : A} → ((e : Edge A) → Memᴰ e E → Memᴰ (turned e) E) → Chain E a b → Chain E b a
  chain-turn s (stay e) = stay (sym e)
  chain-turn s (hop c m) = chain-join (hop (stay refl) (s _ m)) (chain-turn s c)
