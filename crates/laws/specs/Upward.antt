-- Superclasses: what lies upward of a class, and the nearest class upward that passes a test. Over any partial map `sup` that falls.
use Rattle.std.proofs.Math.Path.{◌≡◌, refl}
use Rattle.std.proofs.Common.{sym, ◌∙◌, inl, inr, arith, eqb-true, eq-eqb}
use Rattle.std.specs.Prelude.{Bool, ◌⊎◌, eqb}
use Rattle.std.proofs.Math.Bool.{true, false}
use Rattle.std.proofs.lemmas.Bool.{false≢true}
use Rattle.std.proofs.Math.Option.{Option, none, some, none-ne-some, some-injective}
use Prim.Native.Nat.{ℕ, zero, suc, ◌≤◌, ◌<◌}
use Rattle.definition.specs.Superclasses.{Below, Falls, below, nearest, seek, same, up}

abbrev pub onward : {A : Type 0} → Option ℕ → A → (ℕ → A) → A
onward none a f = a
onward (some p) a f = f p

module _ (sup : ℕ → Option ℕ) (falls : Falls sup) (test : ℕ → Bool) where
  -- more fuel than the class's number changes nothing
  seek-fuel : (j k c : ℕ) → c < j → c < k → seek sup test j c ≡ seek sup test k c
  unfolding seek
  seek-fuel zero k c l m = absurd (omega arith)
  seek-fuel (suc j) zero c l m = absurd (omega arith)
  seek-fuel (suc j) (suc k) c l m = go (test c) (sup c) refl (λ p h. seek-fuel j k p (omega arith) (omega arith))
    where
      go : (t : Bool) (o : Option ℕ) → sup c ≡ o → ((p : ℕ) → p < c → seek sup test j p ≡ seek sup test k p)
          → ◌≡◌ {A = Option ℕ} (elim t as (λ _. Option ℕ) [ true ↦ some c | false ↦ elim o as (λ _. Option ℕ) [ none ↦ none | some p ↦ seek sup test j p ] ])
          (elim t as (λ _. Option ℕ) [ true ↦ some c | false ↦ elim o as (λ _. Option ℕ) [ none ↦ none | some p ↦ seek sup test k p ] ])
      go true o e f = refl
      go false none e f = refl
      go false (some p) e f = f p (falls c p e)

  -- the three ways of one step
  pub nearest-here : (c : ℕ) → test c ≡ true → nearest sup test c ≡ some c
  unfolding nearest seek
  nearest-here c t = rw (t, seek) refl

  pub nearest-up : (c p : ℕ) → test c ≡ false → sup c ≡ some p → nearest sup test c ≡ nearest sup test p
  unfolding nearest seek
  nearest-up c p t s = rw (t, s, seek) (seek-fuel c (suc p) p (falls c p s) (omega arith))

  pub nearest-none : (c : ℕ) → test c ≡ false → sup c ≡ none → nearest sup test c ≡ none
  unfolding nearest seek
  nearest-none c t s = rw (t, s, seek) refl

  seek-below : (k c d : ℕ) → seek sup test k c ≡ some d → Below sup c d × (test d ≡ true)
  unfolding seek
  seek-below zero c d h = absurd (none-ne-some d h)
  seek-below (suc k) c d h = go (test c) refl (sup c) refl h (λ p. seek-below k p d)
    where
      go : (t : Bool) → test c ≡ t → (o : Option ℕ) → sup c ≡ o
          → (elim t as (λ _. Option ℕ) [ true ↦ some c | false ↦ elim o as (λ _. Option ℕ) [ none ↦ none | some p ↦ seek sup test k p ] ]) ≡ some d
          → ((p : ℕ) → seek sup test k p ≡ some d → Below sup p d × (test d ≡ true)) → Below sup c d × (test d ≡ true)
      go true e o s q f = (same (some-injective c d q), rw (some-injective c d q) at e)
      go false e none s q f = absurd (none-ne-some d q)
      go false e (some p) s q f = (up s (f p q).0, (f p q).1)

  -- what is found lies upward and passes
  pub nearest-below : (c d : ℕ) → nearest sup test c ≡ some d → Below sup c d × (test d ≡ true)
  unfolding nearest
  nearest-below c d h = seek-below (suc c) c d h

  -- what passes is found, or something nearer is
  pub nearest-finds : {c d : ℕ} → Below sup c d → test d ≡ true → (e : ℕ) × (nearest sup test c ≡ some e) × Below sup e d
  nearest-finds {c} {d} (same q) t = (c, nearest-here c (rw q t), same q)
  nearest-finds {c} {d} (up {p} s b) t = go (test c) refl (nearest-finds b t)
    where
      go : (z : Bool) → test c ≡ z → (e : ℕ) × (nearest sup test p ≡ some e) × Below sup e d → (e : ℕ) × (nearest sup test c ≡ some e) × Below sup e d
      go true q r = (c, nearest-here c q, up s b)
      go false q r = (r.0, nearest-up c p q s ∙ r.1, r.2)

-- Below: the test and the order

pub below_true : (sup : ℕ → Option ℕ) → Falls sup → (c d : ℕ) → below sup c d ≡ true → Below sup c d
unfolding below
below_true sup falls c d h = go (nearest sup (λ x. eqb x d) c) refl h
  where
    go : (o : Option ℕ) → nearest sup (λ x. eqb x d) c ≡ o → (elim o as (λ _. Bool) [ none ↦ false | some _ ↦ true ]) ≡ true → Below sup c d
    go none e q = absurd (false≢true q)
    go (some x) e q = let r = nearest-below sup falls (λ z. eqb z d) c x e in rw (eqb-true x d r.1) at r.0

pub true_below : (sup : ℕ → Option ℕ) → Falls sup → (c d : ℕ) → Below sup c d → below sup c d ≡ true
unfolding below
true_below sup falls c d b = let r = nearest-finds sup falls (λ z. eqb z d) b (eq-eqb d d refl) in rw (r.1, below) refl

pub below-trans : {sup : ℕ → Option ℕ} {c d e : ℕ} → Below sup c d → Below sup d e → Below sup c e
below-trans {sup} {c} {d} {e} (same q) b = rw q b
below-trans (up s a) b = up s (below-trans a b)

pub below-le : {sup : ℕ → Option ℕ} {c d : ℕ} → Falls sup → Below sup c d → d ≤ c
below-le f (same q) = omega arith
below-le f (up {c} {p} s b) = omega (arith, f c p s, below-le f b)

pub below-anti : {sup : ℕ → Option ℕ} {c d : ℕ} → Falls sup → Below sup c d → Below sup d c → c ≡ d
below-anti f a b = omega (arith, below-le f a, below-le f b)

pub below_more : {sup sup' : ℕ → Option ℕ} {c d : ℕ} → ((x p : ℕ) → sup x ≡ some p → sup' x ≡ some p) → Below sup c d → Below sup' c d
below_more m (same q) = same q
below_more m (up {c} {p} s b) = up (m c p s) (below_more m b)

-- of two classes upward of one, one is upward of the other
pub below-line : {sup : ℕ → Option ℕ} {c d e : ℕ} → Below sup c d → Below sup c e → Below sup d e ⊎ Below sup e d
below-line {sup} {c} {d} {e} (same q) b = inl (rw q at b)
below-line {sup} {c} {d} {e} (up s a) (same r) = inr (rw r at (up s a))
below-line {sup} {c} {d} {e} (up {p} s a) (up {p = o} r b) = below-line a (rw (some-injective o p (sym r ∙ s)) at b)
