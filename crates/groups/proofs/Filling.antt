-- Tables written place by place, and the first place of each key.
use mathlib.Core.Path.{◌≡◌, refl, sym, ap, subst, ◌∙◌}
use mathlib.Core.Bool.{Bool, true, false}
use mathlib.Core.List.{List}
use mathlib.Core.Logic.{◌⊎◌, inl, inr}
use Prim.Native.Nat.{ℕ, ◌+◌, ◌*◌, ◌<◌, ◌≤◌, ◌/◌, ◌%◌}
use native.Mathlib.Nat.{eq-or-lt_of_le}
use native.Mathlib.Omega.{arith}
use lib.ListN.{length, get_or, set, length-set}
use lib.Seq.{get_or-set_same, get_or-set_other}
use lib.Dec.{eqb, ltb}
use borrow.Author.Tests.{eqb-true, eqb-false, ltb-true, ltb-false}
use Rattle.groups.specs.Firsts.{First, FirstIn, found, unheld, FirstsIn, Entered, older, first, name_in, low_of, high_of, HasLow, HasName}

-- two numbers
pub data Order (a b : ℕ) : Type 0 where
  less : a < b → Order a b
  equal : a ≡ b → Order a b
  more : b < a → Order a b

pub order : (a b : ℕ) → Order a b
order a b = go (ltb a b) refl (ltb b a) refl
  where
    go : (s : Bool) → ltb a b ≡ s → (t : Bool) → ltb b a ≡ t → Order a b
    go true p t q = less (ltb-true a b p)
    go false p true q = more (ltb-true b a q)
    go false p false q = equal (omega (arith, ltb-false a b p, ltb-false b a q))

-- the places f 0, f 1, .. are written in this order: what holds of each before place f i is written, and of what is written, holds after it
pub fill_more : (f : ℕ → ℕ) (P : ℕ → ℕ → Type 0) (l : List ℕ) (i v : ℕ) → f i < length l → ((p : ℕ) → p < i → f p ≡ f i → ⊥)
    → ((p : ℕ) → p < i → P p (get_or l (f p) 0)) → P i v → (p : ℕ) → p < i + 1 → P p (get_or (set l (f i) v) (f p) 0)
fill_more f P l i v h apart all new p k = go (eq-or-lt_of_le below)
  where
    below : p ≤ i
    below = omega arith

    go : (p ≡ i) ⊎ (p < i) → P p (get_or (set l (f i) v) (f p) 0)
    go (inl e) = rw (e, get_or-set_same l (f i) v 0 h) new
    go (inr m) = rw (get_or-set_other l (f i) (f p) v 0 (apart p m)) (all p m)

-- one more place without the value of place p
pub none_yet : (value : ℕ → ℕ) (p q : ℕ) → ((i : ℕ) → i < q → value i ≡ value p → ⊥) → (value q ≡ value p → ⊥) → (i : ℕ) → i < q + 1 → value i ≡ value p → ⊥
none_yet value p q none here i h e = go (eq-or-lt_of_le below)
  where
    below : i ≤ q
    below = omega arith

    go : (i ≡ q) ⊎ (i < q) → ⊥
    go (inl m) = here (rw m at e)
    go (inr m) = none i m e

-- The first place of a key

-- the first place that has key x, of those up to p
abbrev pub FirstPlace : (ℕ → ℕ → Type 0) → ℕ → ℕ → ℕ → Type 0
FirstPlace Has p x r = (r ≤ p) × Has r x × ((e : ℕ) → e < r → Has e x → ⊥)

-- no place is entered yet
pub firsts-none : (Has : ℕ → ℕ → Type 0) (cells : List ℕ) → ((x : ℕ) → x < length cells → get_or cells x 0 ≡ 255) → FirstsIn Has 0 cells
firsts-none Has cells all x h = unheld (all x h) (λ e l d. omega arith)

-- place p is entered at its key, which is its only one
module _ (Has : ℕ → ℕ → Type 0) (p x : ℕ) (few : p < 256) (has : Has p x) (only : (y : ℕ) → Has p y → y ≡ x) where
  none_more : (y : ℕ) → (y ≡ x → ⊥) → ((e : ℕ) → e < p → Has e y → ⊥) → (e : ℕ) → e < p + 1 → Has e y → ⊥
  none_more y apart none e l d = go (eq-or-lt_of_le (below l)) d
    where
      below : e < p + 1 → e ≤ p
      below l = omega arith

      go : (e ≡ p) ⊎ (e < p) → Has e y → ⊥
      go (inl q) d = apart (only y (subst (λ (z : ℕ). Has z y) q d))
      go (inr m) d = none e m d

  -- what stands at another key
  other-more : (y c : ℕ) → (y ≡ x → ⊥) → FirstIn Has y p c → FirstIn Has y (p + 1) c
  other-more y c apart (found l h n) = found (omega arith) h n
  other-more y c apart (unheld q n) = unheld q (none_more y apart n)

  pub first-entered : {cells cells' : List ℕ} {r : ℕ} → x < length cells → FirstsIn Has p cells → Entered cells x p cells' r → FirstsIn Has (p + 1) cells' × FirstPlace Has p x r
  first-entered {cells} {cells'} {r} fits s (older l e same) = go (s x fits)
    where
      go : FirstIn Has x p (get_or cells x 0) → FirstsIn Has (p + 1) cells' × FirstPlace Has p x r
      go (unheld q n) = absurd (omega arith)
      go (found m h n) = (rw same (λ y k. at-cell y k (eqb y x) refl), (omega arith, subst (λ (z : ℕ). Has z x) (sym e) h, λ d k. n d (omega arith)))
        where
          at-cell : (y : ℕ) → y < length cells → (t : Bool) → eqb y x ≡ t → FirstIn Has y (p + 1) (get_or cells y 0)
          at-cell y k true q = rw (eqb-true y x q) (found (omega arith) h n)
          at-cell y k false q = other-more y _ (eqb-false y x q) (s y k)
  first-entered {cells} {cells'} {r} fits s (first l e same) = go (s x fits)
    where
      go : FirstIn Has x p (get_or cells x 0) → FirstsIn Has (p + 1) cells' × FirstPlace Has p x r
      go (found m h n) = absurd (omega arith)
      go (unheld q n) = (rw same (λ y k. at-cell y (omega (arith, k, length-set cells x p)) (eqb y x) refl), (omega arith, subst (λ (z : ℕ). Has z x) (sym e) has, λ d k. n d (omega arith)))
        where
          at-cell : (y : ℕ) → y < length cells → (t : Bool) → eqb y x ≡ t → FirstIn Has y (p + 1) (get_or (set cells x p) y 0)
          at-cell y k true q = rw (eqb-true y x q, get_or-set_same cells x p 0 fits) (found (omega arith) has n)
          at-cell y k false q = rw (get_or-set_other cells x y p 0 (eqb-false y x q)) (other-more y _ (eqb-false y x q) (s y k))

-- places of one value have one first place
pub first-unique : {value : ℕ → ℕ} {p q r s : ℕ} → value p ≡ value q → First value p r → First value q s → r ≡ s
first-unique {value} {p} {q} {r} {s} e f g = go (order r s)
  where
    go : Order r s → r ≡ s
    go (less h) = absurd (g.none r h (f.same ∙ e))
    go (equal h) = h
    go (more h) = absurd (f.none s h (g.same ∙ sym e))

-- Names in two steps

module _ (ties : List ℕ) (p : ℕ) where
  name-only : (x y : ℕ) → HasName ties p x → HasName ties p y → y ≡ x
  name-only x y (b, f, h, e) (d, g, k, q) = omega (arith, e, q, first-unique {p = p} refl f g)

  name-first : {x r : ℕ} → HasName ties p x → FirstPlace (HasName ties) p x r → First (name_in ties) p r
  name-first {x} {r} (b, f, h, e) (l, (d, g, k, q), none) = record { low = l; same = same; none = λ i m z. none i m (alike i z) }
    where
      block : d ≡ b
      block = omega (arith, e, q, h, k)

      high : high_of ties r ≡ high_of ties p
      high = omega (arith, e, q, h, k)

      low : low_of ties r ≡ low_of ties p
      low = sym g.same ∙ ap (low_of ties) block ∙ f.same

      same : name_in ties r ≡ name_in ties p
      same = omega (arith, low, high)

      alike : (i : ℕ) → name_in ties i ≡ name_in ties p → HasName ties i x
      alike i z = (b, record { low = below; same = f.same ∙ sym (ap (λ (v : ℕ). v % 4096) z); none = λ j m w. f.none j m (w ∙ ap (λ (v : ℕ). v % 4096) z) }, rw z h, rw z e)
        where
          below : b ≤ i
          below = go (order i b)
            where
              go : Order i b → b ≤ i
              go (less m) = absurd (f.none i m (ap (λ (v : ℕ). v % 4096) z))
              go (equal m) = omega arith
              go (more m) = omega arith

  -- the name that was read is entered by its low part, and behind the first row with that by its high part
  module _ (name : ℕ) (is : name ≡ name_in ties p) (few : p < 256) (small : name < 65536) where
    pub low-entered : {cells cells' : List ℕ} {r : ℕ} → name % 4096 < length cells → FirstsIn (HasLow ties) p cells → Entered cells (name % 4096) p cells' r
        → FirstsIn (HasLow ties) (p + 1) cells' × First (low_of ties) p r
    low-entered fits s e =
        let z : low_of ties p ≡ name % 4096 = ap (λ (v : ℕ). v % 4096) (sym is) in
        let f = first-entered (HasLow ties) p (name % 4096) few z (λ y d. sym d ∙ z) fits s e in
        (f.0, record { low = f.1.0; same = f.1.1 ∙ sym z; none = λ i m w. f.1.2 i m (w ∙ z) })

    pub name-entered : {b : ℕ} → First (low_of ties) p b → {cells cells' : List ℕ} {r : ℕ} → b * 16 + name / 4096 < length cells → FirstsIn (HasName ties) p cells
        → Entered cells (b * 16 + name / 4096) p cells' r → FirstsIn (HasName ties) (p + 1) cells' × First (name_in ties) p r
    name-entered {b} l fits s e =
        let z : HasName ties p (b * 16 + name / 4096) = (b, l, omega (arith, is, small), ap (λ (v : ℕ). b * 16 + v / 4096) is) in
        let f = first-entered (HasName ties) p (b * 16 + name / 4096) few z (λ y d. name-only _ y z d) fits s e in
        (f.0, name-first z f.1)
