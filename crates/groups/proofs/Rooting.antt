-- Roots: each place has one, and groups made one have one root, the lower of the two.
use mathlib.Core.Path.{◌≡◌, refl, sym, ap, subst, ◌∙◌}
use mathlib.Core.Bool.{Bool, true, false}
use mathlib.Core.List.{List}
use mathlib.Core.Logic.{◌⊎◌, inl, inr}
use Prim.Native.Nat.{ℕ, zero, suc, ◌<◌, ◌≤◌}
use native.Mathlib.Nat.{eq-or-lt_of_le}
use native.Mathlib.Omega.{arith}
use lib.ListN.{length, get_or, set, length-set}
use lib.Seq.{get_or-set_same, get_or-set_other}
use lib.Dec.{eqb, ltb}
use borrow.Author.Tests.{eqb-true, eqb-false, eq-eqb, ltb-true, ltb-false}
use Rattle.groups.specs.Roots.{Root, top, up, SameRoot, United}

-- The root of a place

pub root-low : {ups : List ℕ} {p r : ℕ} → Root ups p r → r ≤ p
root-low (top h e) = omega arith
root-low (up h s) = omega (arith, root-low s)

-- it is its own
pub root-top : {ups : List ℕ} {p r : ℕ} → Root ups p r → Root ups r r
root-top {ups} {p} {r} (top h e) = top (rw e at h) refl
root-top (up h s) = root-top s

pub root-one : {ups : List ℕ} {p r s : ℕ} → Root ups p r → Root ups p s → r ≡ s
root-one (top h e) (top k f) = sym e ∙ f
root-one (top h e) (up k f) = absurd (omega arith)
root-one (up h e) (top k f) = absurd (omega arith)
root-one (up h e) (up k f) = root-one e f

-- a step of the way
pub root-here : (ups : List ℕ) (p u : ℕ) → u ≡ get_or ups p 0 → p ≤ u → Root ups p p
root-here ups p u e h = top {p = p} (omega arith) refl

pub root-next : (ups : List ℕ) (p u r : ℕ) → u ≡ get_or ups p 0 → u < p → Root ups u r → Root ups p r
root-next ups p u r e h s = up {p = p} (omega arith) (rw e at s)

-- what leads from each place to the next leads to the root
pub root-along : {ups : List ℕ} (R : ℕ → ℕ → Type 0) (n : ℕ) → ((p : ℕ) → R p p) → ((p q r : ℕ) → R p q → R q r → R p r)
    → ((p : ℕ) → p < n → get_or ups p 0 < p → R p (get_or ups p 0)) → {p r : ℕ} → p < n → Root ups p r → R p r
root-along R n i t s {p} l (top h e) = subst (λ (x : ℕ). R p x) e (i p)
root-along {ups} R n i t s {p} {r} l (up h k) = t p (get_or ups p 0) r (s p l h) (root-along R n i t s (omega arith) k)

-- each place has one, found within k steps
root-within : (ups : List ℕ) (k p : ℕ) → p < k → (r : ℕ) × Root ups p r
root-within ups zero p h = absurd (omega arith)
root-within ups (suc k) p h = go (ltb (get_or ups p 0) p) refl (λ l. root-within ups k (get_or ups p 0) (omega arith))
  where
    go : (t : Bool) → ltb (get_or ups p 0) p ≡ t → (get_or ups p 0 < p → (r : ℕ) × Root ups (get_or ups p 0) r) → (r : ℕ) × Root ups p r
    go true e f = let l = ltb-true (get_or ups p 0) p e in let s = f l in (s.0, up {p = p} l s.1)
    go false e f = (p, top {p = p} (ltb-false (get_or ups p 0) p e) refl)

-- Two roots made one

module _ (ups : List ℕ) (low high : ℕ) (ordered : low ≤ high) (low_top : low ≤ get_or ups low 0) (high_top : high ≤ get_or ups high 0) (fits : high < length ups) where
  abbrev linked : List ℕ
  linked = set ups high low

  other : (p : ℕ) → (p ≡ high → ⊥) → get_or linked p 0 ≡ get_or ups p 0
  other p n = get_or-set_other ups high p low 0 n

  high-root : Root linked high low
  high-root = go (eq-or-lt_of_le ordered)
    where
      at_high : get_or linked high 0 ≡ low
      at_high = get_or-set_same ups high low 0 fits

      go : (low ≡ high) ⊎ (low < high) → Root linked high low
      go (inl e) = top {p = high} (omega (arith, at_high)) (sym e)
      go (inr l) = up {p = high} {r = low} (omega (arith, at_high)) (rw at_high (top {p = low} (omega (arith, other low (λ e. omega arith))) refl))

  abbrev moved : ℕ → ℕ
  moved r = elim (eqb r high) as (λ _. ℕ) [ true ↦ low | false ↦ r ]

  root-moved : {p r : ℕ} → Root ups p r → Root linked p (moved r)
  root-moved {p} {r} (top h e) = go (eqb r high) refl
    where
      go : (t : Bool) → eqb r high ≡ t → Root linked p (elim t as (λ _. ℕ) [ true ↦ low | false ↦ r ])
      go true q = let z : p ≡ high = e ∙ eqb-true r high q in rw z high-root
      go false q = top {p = p} (omega (arith, other p (λ z. eqb-false r high q (sym e ∙ z)))) e
  root-moved {p} {r} (up h s) = let z = other p (λ e. omega (arith, ap (λ (x : ℕ). get_or ups x 0) e)) in up {p = p} {r = moved r} (omega (arith, z)) (rw z (root-moved s))

  pub still-same : {p q : ℕ} → SameRoot ups p q → SameRoot linked p q
  still-same s = record { root = moved s.root; one = root-moved s.one; two = root-moved s.two }

  pub from_low : {p : ℕ} → Root ups p low → Root linked p low
  from_low a = rw (go (eqb low high)) at (root-moved a)
    where
      go : (t : Bool) → (elim t as (λ _. ℕ) [ true ↦ low | false ↦ low ]) ≡ low
      go true = refl
      go false = refl

  pub from-high : {p : ℕ} → Root ups p high → Root linked p low
  from-high a = rw moves at (root-moved a)
    where
      moves : moved high ≡ low
      moves = rw (eq-eqb high high refl, moved) refl

  pub now-same : {p q : ℕ} → Root ups p low → Root ups q high → SameRoot linked p q
  now-same a b = record { root = low; one = from_low a; two = from-high b }

pub turn-same : {ups : List ℕ} {p q : ℕ} → SameRoot ups p q → SameRoot ups q p
turn-same s = record { root = s.root; one = s.two; two = s.one }

pub root-tops : {ups : List ℕ} {r : ℕ} → Root ups r r → r ≤ get_or ups r 0
root-tops (top h e) = h
root-tops (up h s) = absurd (omega (arith, root-low s))

-- places that share a root with a third share one
pub same-on : {ups : List ℕ} {p q r : ℕ} → SameRoot ups p q → SameRoot ups q r → SameRoot ups p r
same-on a b = record { root = a.root; one = a.one; two = rw (root-one b.one a.two) at b.two }

-- Two places united: what shared a root does, and now they do; what leads down from the higher root is new
module _ {ups ups' : List ℕ} {p q : ℕ} (u : United ups p q ups') (fits_one : p < length ups) (fits_two : q < length ups) where
  pub ends : (u.low ≤ get_or ups u.low 0) × (u.high ≤ get_or ups u.high 0) × (u.high < length ups)
  ends = go u.roots
    where
      go : (Root ups p u.low × Root ups q u.high) ⊎ (Root ups p u.high × Root ups q u.low) → (u.low ≤ get_or ups u.low 0) × (u.high ≤ get_or ups u.high 0) × (u.high < length ups)
      go (inl r) = (root-tops (root-top r.0), root-tops (root-top r.1), omega (arith, root-low r.1))
      go (inr r) = (root-tops (root-top r.1), root-tops (root-top r.0), omega (arith, root-low r.0))

  pub united-keeps : {a b : ℕ} → SameRoot ups a b → SameRoot ups' a b
  united-keeps s = rw u.is (still-same ups u.low u.high u.order ends.0 ends.1 ends.2 s)

  pub united-same : SameRoot ups' p q
  united-same = rw u.is (go u.roots)
    where
      go : (Root ups p u.low × Root ups q u.high) ⊎ (Root ups p u.high × Root ups q u.low) → SameRoot (set ups u.high u.low) p q
      go (inl r) = now-same ups u.low u.high u.order ends.0 ends.1 ends.2 r.0 r.1
      go (inr r) = turn-same (now-same ups u.low u.high u.order ends.0 ends.1 ends.2 r.1 r.0)

  -- no place above the two is written
  pub united-within : (k : ℕ) → p < k → q < k → (u.low < k) × (u.high < k)
  united-within k h l = go u.roots
    where
      go : (Root ups p u.low × Root ups q u.high) ⊎ (Root ups p u.high × Root ups q u.low) → (u.low < k) × (u.high < k)
      go (inl r) = (omega (arith, root-low r.0), omega (arith, root-low r.1))
      go (inr r) = (omega (arith, root-low r.1), omega (arith, root-low r.0))

  -- the lower is the root then
  pub united-root : Root ups' p u.low
  united-root = rw u.is (go u.roots)
    where
      go : (Root ups p u.low × Root ups q u.high) ⊎ (Root ups p u.high × Root ups q u.low) → Root (set ups u.high u.low) p u.low
      go (inl r) = from_low ups u.low u.high u.order ends.0 ends.1 ends.2 r.0
      go (inr r) = from-high ups u.low u.high u.order ends.0 ends.1 ends.2 r.0

  pub united-long : length ups' ≡ length ups
  united-long = rw u.is (length-set ups u.high u.low)

  -- a relation that goes either way and on, and holds of the two and of what led down, holds of what leads down now
  pub united-sound : (R : ℕ → ℕ → Type 0) → ((a : ℕ) → R a a) → ((a b c : ℕ) → R a b → R b c → R a c) → ((a b : ℕ) → R a b → R b a) → R p q
      → ((a : ℕ) → a < length ups → get_or ups a 0 < a → R a (get_or ups a 0)) → (a : ℕ) → a < length ups → get_or ups' a 0 < a → R a (get_or ups' a 0)
  united-sound R self on back here old a h = rw u.is (go (eqb a u.high) refl)
    where
      along : {x r : ℕ} → x < length ups → Root ups x r → R x r
      along = root-along R (length ups) self on old

      link : (Root ups p u.low × Root ups q u.high) ⊎ (Root ups p u.high × Root ups q u.low) → R u.high u.low
      link (inl r) = on _ q _ (back q _ (along fits_two r.1)) (on q p _ (back p q here) (along fits_one r.0))
      link (inr r) = on _ p _ (back p _ (along fits_one r.0)) (on p q _ here (along fits_two r.1))

      go : (t : Bool) → eqb a u.high ≡ t → get_or (set ups u.high u.low) a 0 < a → R a (get_or (set ups u.high u.low) a 0)
      go true e = rw (eqb-true a u.high e, get_or-set_same ups u.high u.low 0 ends.2) (λ l. link u.roots)
      go false e = rw (get_or-set_other ups u.high a u.low 0 (eqb-false a u.high e)) (λ l. old a h l)
