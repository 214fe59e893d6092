-- The classes above a class: the one directly above it in a table, and all of them marked one after the other.
use mathlib.Core.Path.{◌≡◌, refl, sym, ap, ◌∙◌}
use mathlib.Core.Bool.{Bool, true, false, false≢true}
use mathlib.Core.Option.{Option, none, some, none-ne-some, some-injective}
use mathlib.Core.List.{List}
use mathlib.Core.Logic.{◌⊎◌, inl, inr}
use Prim.Native.Nat.{ℕ, zero, suc, ◌-◌, ◌<◌, ◌≤◌}
use native.Mathlib.Omega.{arith}
use lib.ListN.{length, get_or, set}
use lib.Dec.{eqb, ltb}
use borrow.Author.Tests.{eqb-true, eq-eqb, ne_eqb, ltb-true, lt-ltb, le-ltb}
use Rattle.std.specs.Prelude as P
use Rattle.definition.specs.Classes.{lower}
use Rattle.definition.specs.Superclasses.{Below, Falls, below, same, up}
use Rattle.laws.specs.Upward.{below_true, true_below, below-trans}
use Rattle.layout.specs.Tests.{same_test}
use Rattle.cells.specs.Optional.{optional, optional-some}
use Rattle.constraints.specs.Agreement.{super_in}
use Rattle.constraints.specs.Search.{Marked, Stamped}
use Rattle.constraints.specs.Upward.{Raised, is_above}
use Rattle.constraints.proofs.Marking.{new-mark, set-mark, keep-mark, stamped-set, stamped-more}

lower-falls : (c q p : ℕ) → lower c q ≡ some p → p < c
unfolding lower
lower-falls c q p h = go (ltb q c) refl h
  where
    go : (t : Bool) → ltb q c ≡ t → (elim t as (λ _. Option ℕ) [ true ↦ some q | false ↦ none ]) ≡ some p → p < c
    go true e r = rw (some-injective q p r) at (ltb-true q c e)
    go false e r = absurd (none-ne-some p r)

pub super-falls : (t : List ℕ) → Falls (super_in t)
unfolding super_in
super-falls t c p h = go (get_or t c 0) h
  where
    go : (x : ℕ) → (elim x as (λ _. Option ℕ) [ zero ↦ none | suc q ↦ lower c q ]) ≡ some p → p < c
    go zero r = absurd (none-ne-some p r)
    go (suc q) r = lower-falls c q p r

-- the class directly above, by its cell

pub super-none : (t : List ℕ) (c u : ℕ) → u ≡ get_or t c 0 → (u ≡ 0) ⊎ ((u ≡ 0 → ⊥) × (c < u)) → super_in t c ≡ none
unfolding super_in lower
super-none t c u e (inl z) = rw (sym e ∙ z, super_in) refl
super-none t c u e (inr l) =
    let s : u ≡ suc (u - 1) = omega (arith, l.1) in
    rw (sym e ∙ s, super_in) (rw (le-ltb (u - 1) c (omega (arith, l.1)), lower) refl)

pub super-some : (t : List ℕ) (c u : ℕ) → u ≡ get_or t c 0 → (u ≡ 0 → ⊥) → u ≤ c → super_in t c ≡ some (u - 1)
unfolding super_in lower
super-some t c u e n l =
    let s : u ≡ suc (u - 1) = omega arith in
    rw (sym e ∙ s, super_in) (rw (lt-ltb (u - 1) c (omega arith), lower) refl)

-- how far there is to go: nothing where there is no next class; the next one upward is lower

abbrev pub height : P.Option ℕ → ℕ
height P.None = 0
height (P.Some x) = suc x

pub height-falls : (t : List ℕ) (x : ℕ) (last next : P.Option ℕ) → last ≡ P.Some x → next ≡ optional (super_in t x) → height next < height last
height-falls t x last next l e = rw (l, e) (go (super_in t x) refl)
  where
    go : (o : Option ℕ) → super_in t x ≡ o → height (optional o) < suc x
    go none q = omega arith
    go (some p) q = omega (arith, super-falls t x p q)

-- Marking: the class of `next` is the next to be marked

pub record Raising (sup : ℕ → Option ℕ) (c stamp : ℕ) (next : P.Option ℕ) (aboves : List ℕ) : Type 0 where
  pub stamped : Stamped 256 stamp aboves
  pub few : (p : ℕ) → next ≡ P.Some p → p < 256
  pub here : (p : ℕ) → next ≡ P.Some p → Below sup c p
  pub sound : (d : ℕ) → Marked stamp aboves d → Below sup c d
  pub all : (d : ℕ) → Below sup c d → ((d ≡ c) ⊎ Marked stamp aboves d) ⊎ ((p : ℕ) × (next ≡ P.Some p) × Below sup p d)

module _ (sup : ℕ → Option ℕ) (c stamp : ℕ) where
  -- what lies above a class is it or lies above the next
  onward : {d x : ℕ} {u : P.Option ℕ} → u ≡ optional (sup x) → Below sup x d → (d ≡ x) ⊎ ((p : ℕ) × (u ≡ P.Some p) × Below sup p d)
  onward e (same q) = inl (sym q)
  onward {d} {x} {u} e (up {p} s b) = inr (p, e ∙ ap optional s, b)

  -- the next class lies directly above
  directly : {x p : ℕ} {u : P.Option ℕ} → u ≡ optional (sup x) → u ≡ P.Some p → Below sup x p
  directly {x} {p} e q = up (optional-some (sup x) p (sym e ∙ q)) (same refl)

  pub raising-start : (u : P.Option ℕ) (aboves : List ℕ) → 0 < stamp → Stamped 256 (stamp - 1) aboves → u ≡ optional (sup c) → ((p : ℕ) → u ≡ P.Some p → p < 256) → Raising sup c stamp u aboves
  raising-start u aboves h s e l = record {
    stamped = stamped-more (omega arith) s;
    few = l;
    here = λ p q. directly e q;
    sound = λ d m. absurd (omega (arith, s.most d));
    all = λ d b. first d (onward e b);
  }
    where
      first : (d : ℕ) → (d ≡ c) ⊎ ((p : ℕ) × (u ≡ P.Some p) × Below sup p d) → ((d ≡ c) ⊎ Marked stamp aboves d) ⊎ ((p : ℕ) × (u ≡ P.Some p) × Below sup p d)
      first d (inl q) = inl (inl q)
      first d (inr r) = inr r

  pub raising-next : (x : ℕ) (f u : P.Option ℕ) (aboves : List ℕ) → f ≡ P.Some x → Raising sup c stamp f aboves → u ≡ optional (sup x) → ((p : ℕ) → u ≡ P.Some p → p < 256)
      → Raising sup c stamp u (set aboves x stamp)
  raising-next x f u aboves i s e l = record {
    stamped = stamped-set stamp x aboves long s.stamped;
    few = l;
    here = λ p q. below-trans (s.here x i) (directly e q);
    sound = λ d m. old d (set-mark stamp x aboves long d m);
    all = λ d b. more d (s.all d b);
  }
    where
      long : x < length aboves
      long = omega (arith, s.few x i, s.stamped.long)

      old : (d : ℕ) → Marked stamp aboves d ⊎ (d ≡ x) → Below sup c d
      old d (inl m) = s.sound d m
      old d (inr q) = rw q (s.here x i)

      it : {d : ℕ} → d ≡ x → Marked stamp (set aboves x stamp) d
      it q = rw q (new-mark stamp x aboves long)

      rest : (d : ℕ) → (d ≡ x) ⊎ ((p : ℕ) × (u ≡ P.Some p) × Below sup p d)
          → ((d ≡ c) ⊎ Marked stamp (set aboves x stamp) d) ⊎ ((p : ℕ) × (u ≡ P.Some p) × Below sup p d)
      rest d (inl q) = inl (inr (it q))
      rest d (inr r) = inr r

      more : (d : ℕ) → ((d ≡ c) ⊎ Marked stamp aboves d) ⊎ ((p : ℕ) × (f ≡ P.Some p) × Below sup p d)
          → ((d ≡ c) ⊎ Marked stamp (set aboves x stamp) d) ⊎ ((p : ℕ) × (u ≡ P.Some p) × Below sup p d)
      more d (inl (inl q)) = inl (inl q)
      more d (inl (inr m)) = inl (inr (keep-mark stamp x aboves long d m))
      more d (inr r) = let q : r.0 ≡ x = cc (r.1, i) in rest d (onward e (rw q at r.2))

  pub raised : (u : P.Option ℕ) (aboves : List ℕ) → u ≡ P.None → Raising sup c stamp u aboves → Raised sup c stamp aboves
  raised u aboves h s = record { stamped = s.stamped; sound = s.sound; all = λ d b. go d (s.all d b) }
    where
      go : (d : ℕ) → ((d ≡ c) ⊎ Marked stamp aboves d) ⊎ ((p : ℕ) × (u ≡ P.Some p) × Below sup p d) → (d ≡ c) ⊎ Marked stamp aboves d
      go d (inl r) = r
      go d (inr r) = cc (r.1, h)

-- Reading the marks

module _ (aboves : List ℕ) (stamp c d : ℕ) where
  pub above_same : c ≡ d → is_above aboves stamp c d ≡ true
  unfolding is_above
  above_same e = rw (eq-eqb c d e, is_above) refl

  pub above_other : (c ≡ d → ⊥) → is_above aboves stamp c d ≡ eqb (get_or aboves d 0) stamp
  unfolding is_above
  above_other n = rw (ne_eqb c d n, is_above) refl

  pub above-below : (sup : ℕ → Option ℕ) → Falls sup → Raised sup c stamp aboves → is_above aboves stamp c d ≡ below sup c d
  unfolding is_above
  above-below sup falls r =
      same_test (is_above aboves stamp c d) (below sup c d) (λ h. go (eqb c d) refl h) (λ h. back (r.all d (below_true sup falls c d h)) (eqb c d) refl)
    where
      go : (t : Bool) → eqb c d ≡ t → (elim t as (λ _. Bool) [ true ↦ true | false ↦ eqb (get_or aboves d 0) stamp ]) ≡ true → below sup c d ≡ true
      go true e h = true_below sup falls c d (same (eqb-true c d e))
      go false e h = true_below sup falls c d (r.sound d (eqb-true (get_or aboves d 0) stamp h))

      back : (d ≡ c) ⊎ Marked stamp aboves d → (t : Bool) → eqb c d ≡ t
          → (elim t as (λ _. Bool) [ true ↦ true | false ↦ eqb (get_or aboves d 0) stamp ]) ≡ true
      back k true e = refl
      back (inl q) false e = absurd (false≢true (sym e ∙ eq-eqb c d (sym q)))
      back (inr m) false e = eq-eqb (get_or aboves d 0) stamp m
