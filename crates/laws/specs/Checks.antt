-- The check of agreement: the test of a pair holds exactly if the words say that the pair breaks agreement, a store agrees exactly if no pair
-- breaks it, and what an answer that may be given tells: that the store agrees, or a pair that breaks it, with the new request if any does.
use Rattle.std.specs.Prelude.{◌≡◌, Bool, ◌⊎◌, eqb}
use Rattle.std.proofs.Math.Path.{refl}
use Rattle.std.proofs.Common.{sym, ◌∙◌, inl, ne_eqb}
use Rattle.std.proofs.Math.Bool.{true, false, not, false≢true}
use Rattle.std.proofs.Math.Option.{Option, none, some}
use mathlib.Core.List.{List, [], ◌∷◌, Memᴰ}
use Rattle.std.proofs.Math.Logic.{inr}
use Prim.Native.Nat.{ℕ}
use Rattle.std.proofs.lemmas.Bool.{eqb-false, not-true}
use Rattle.definition.specs.Chains.{Chain, Edge, has, leads, reach}
use Rattle.definition.specs.declared.Check.{Check}
use Rattle.definition.specs.declared.Check.TheVariants.{Agreed, Breaking}
use Rattle.definition.specs.Checks.{BreaksAgreement, Names, OneOf, agreed, breaking, breaks_over}
use Rattle.definition.specs.Classes.{Entry, find, super_of}
use Rattle.definition.specs.Constraints.{Agrees, World, agrees, agrees_over, edges, pair_agrees, row_agrees, tie_edges}
use Rattle.definition.specs.Lists.{all}
use Rattle.definition.specs.Requests.{Request, same_request}
use Rattle.definition.specs.Superclasses.{Below, below, same}
use Rattle.laws.specs.Agreement.{agrees-true, super-falls, true-agrees}
use Rattle.laws.specs.Chains.{chain-leads, leads-chain, requests}
use Rattle.laws.specs.Upward.{below_true, true_below}

-- what fails of all fails of one
not-all : {A : Type 0} (f : A → Bool) (xs : List A) → all f xs ≡ false → (x : A) × Memᴰ x xs × (f x ≡ false)
unfolding all
not-all f [] h = absurd (false≢true (sym h))
not-all {A} f (x ∷ xs) h = go (f x) refl h (not-all f xs)
  where
    go : (t : Bool) → f x ≡ t → (elim t as (λ _. Bool) [ true ↦ all f xs | false ↦ false ]) ≡ false
        → (all f xs ≡ false → (y : A) × Memᴰ y xs × (f y ≡ false)) → (y : A) × Memᴰ y (x ∷ xs) × (f y ≡ false)
    go true e r ih = let g = ih r in (g.0, Memᴰ.tail g.1, g.2)
    go false e r ih = (x, Memᴰ.head refl, e)

module _ (w : World) where
  abbrev sup : ℕ → Option ℕ
  sup = super_of w.base

  abbrev cache : List Entry
  cache = w.base.cache

  abbrev ts : List (Edge Request)
  ts = tie_edges w.ties

  abbrev es : List (Edge Request)
  es = edges w

  -- The test of a pair

  pair-breaks : (a b : Request) (c : ℕ) → find cache a ≡ some c → pair_agrees sup cache c (reach same_request ts a) (reach same_request es a) b ≡ false
      → BreaksAgreement w a b
  unfolding pair_agrees leads
  pair-breaks a b c p h = go (find cache b) refl h
    where
      lead : (d : ℕ) → find cache b ≡ some d → (s : Bool) → leads same_request es a b ≡ s → (elim s as (λ _. Bool) [ true ↦ below sup c d | false ↦ true ]) ≡ false
          → BreaksAgreement w a b
      lead d q true l r = record {
        low = c;
        high = d;
        low_means = p;
        high_means = q;
        breaks = inr (leads-chain requests es a b l, λ k. false≢true (sym r ∙ true_below sup (super-falls w.base) c d k));
      }
      lead d q false l r = absurd (false≢true (sym r))

      tie : (d : ℕ) → find cache b ≡ some d → (t : Bool) → leads same_request ts a b ≡ t
          → (elim t as (λ _. Bool) [ true ↦ eqb c d | false ↦ elim (has same_request b (reach same_request es a)) as (λ _. Bool) [ true ↦ below sup c d | false ↦ true ] ]) ≡ false
          → BreaksAgreement w a b
      tie d q true l r = record {
        low = c;
        high = d;
        low_means = p;
        high_means = q;
        breaks = inl (leads-chain requests ts a b l, eqb-false c d r);
      }
      tie d q false l r = lead d q (leads same_request es a b) refl r

      go : (o : Option ℕ) → find cache b ≡ o
          → (elim o as (λ _. Bool) [ none ↦ true | some d ↦ elim (has same_request b (reach same_request ts a)) as (λ _. Bool) [ true ↦ eqb c d | false ↦ elim (has same_request b (reach same_request es a)) as (λ _. Bool) [ true ↦ below sup c d | false ↦ true ] ] ]) ≡ false
          → BreaksAgreement w a b
      go none q r = absurd (false≢true (sym r))
      go (some d) q r = tie d q (leads same_request ts a b) refl r

  pub breaks-words : (a b : Request) → breaks_over sup cache ts es a b ≡ true → BreaksAgreement w a b
  unfolding breaks_over
  breaks-words a b h = go (find cache a) refl h
    where
      go : (o : Option ℕ) → find cache a ≡ o
          → (elim o as (λ _. Bool) [ none ↦ false | some c ↦ not (pair_agrees sup cache c (reach same_request ts a) (reach same_request es a) b) ]) ≡ true → BreaksAgreement w a b
      go none p r = absurd (false≢true r)
      go (some c) p r = pair-breaks a b c p (not-true (pair_agrees sup cache c (reach same_request ts a) (reach same_request es a) b) r)

  -- what is tied and of one class is no break, although ties lead too: a class is below itself
  pub words-breaks : (a b : Request) → BreaksAgreement w a b → breaks_over sup cache ts es a b ≡ true
  unfolding breaks_over pair_agrees leads
  words-breaks a b k = rw (k.low_means, breaks_over) (rw (k.high_means, pair_agrees) (go k.breaks))
    where
      c : ℕ
      c = k.low

      d : ℕ
      d = k.high

      apart : (c ≡ d → ⊥) → not (eqb c d) ≡ true
      apart n = rw (ne_eqb c d n) refl

      beside : (t : Bool) → below sup c d ≡ t → (Below sup c d → ⊥) → not t ≡ true
      beside true q n = absurd (n (below_true sup (super-falls w.base) c d q))
      beside false q n = refl

      led : (t s : Bool) → s ≡ true → (Below sup c d → ⊥)
          → not (elim t as (λ _. Bool) [ true ↦ eqb c d | false ↦ elim s as (λ _. Bool) [ true ↦ below sup c d | false ↦ true ] ]) ≡ true
      led true s e n = apart (λ q. n (same q))
      led false true e n = beside (below sup c d) refl n
      led false false e n = absurd (false≢true e)

      tied : (t s : Bool) → t ≡ true → (c ≡ d → ⊥)
          → not (elim t as (λ _. Bool) [ true ↦ eqb c d | false ↦ elim s as (λ _. Bool) [ true ↦ below sup c d | false ↦ true ] ]) ≡ true
      tied true s e n = apart n
      tied false s e n = absurd (false≢true e)

      go : (Chain ts a b × (c ≡ d → ⊥)) ⊎ (Chain es a b × (Below sup c d → ⊥))
          → not (elim (has same_request b (reach same_request ts a)) as (λ _. Bool) [ true ↦ eqb c d | false ↦ elim (has same_request b (reach same_request es a)) as (λ _. Bool) [ true ↦ below sup c d | false ↦ true ] ]) ≡ true
      go (inl x) = tied (has same_request b (reach same_request ts a)) (has same_request b (reach same_request es a)) (chain-leads requests ts a b x.0) x.1
      go (inr x) = led (has same_request b (reach same_request ts a)) (has same_request b (reach same_request es a)) (chain-leads requests es a b x.0) x.1

  -- A store disagrees exactly if a pair breaks agreement

  pub breaks-some : agrees w ≡ false → (a : Request) × (b : Request) × BreaksAgreement w a b
  unfolding agrees agrees_over row_agrees
  breaks-some h =
      let e = not-all (λ e. row_agrees sup cache ts es e.request) cache h in
      row e.0.request (find cache e.0.request) refl e.2
    where
      row : (a : Request) (o : Option ℕ) → find cache a ≡ o
          → (elim o as (λ _. Bool) [ none ↦ true | some c ↦ all (λ f. pair_agrees sup cache c (reach same_request ts a) (reach same_request es a) f.request) cache ]) ≡ false
          → (a : Request) × (b : Request) × BreaksAgreement w a b
      row a none p r = absurd (false≢true (sym r))
      row a (some c) p r =
          let f = not-all (λ f. pair_agrees sup cache c (reach same_request ts a) (reach same_request es a) f.request) cache r in
          (a, f.0.request, pair-breaks a f.0.request c p f.2)

  pub breaks-not : {a b : Request} → BreaksAgreement w a b → agrees w ≡ false
  breaks-not {a} {b} k = go (agrees w) refl
    where
      no : Agrees w → (Chain ts a b × (k.low ≡ k.high → ⊥)) ⊎ (Chain es a b × (Below sup k.low k.high → ⊥)) → ⊥
      no g (inl x) = x.1 (g.tied k.low_means k.high_means x.0)
      no g (inr x) = x.1 (g.led k.low_means k.high_means x.0)

      go : (t : Bool) → agrees w ≡ t → t ≡ false
      go true e = absurd (no (agrees-true w e) k.breaks)
      go false e = refl

  -- What an answer tells

  module _ {new : Option Request} {r : Check} (names : Names w new r) where
    pub named_none : agreed r ≡ true → Agrees w
    unfolding agrees
    named_none h = agrees-true w (sym names.exactly ∙ h)

    pub agrees-none : Agrees w → r ≡ Agreed
    unfolding agrees agreed
    agrees-none g = go r (names.exactly ∙ true-agrees w g)
      where
        go : (s : Check) → agreed s ≡ true → s ≡ Agreed
        go Agreed e = refl
        go (Breaking l m k n) e = absurd (false≢true e)

    pub named-breaks : {a b : Request} → r ≡ breaking a b → BreaksAgreement w a b
    named-breaks {a} {b} e = breaks-words a b (names.breaks a b e)

    pub named_new : {a b c d x : Request} → r ≡ breaking a b → new ≡ some x → BreaksAgreement w c d → OneOf x c d → OneOf x a b
    named_new {a} {b} {c} {d} {x} e n k o = names.new_first a b e x n c d (words-breaks c d k) o
