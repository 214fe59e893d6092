-- What a request means, and agreement: the test `agrees` holds exactly if the paper's sentence `Agrees` does, and where there are no constraints it does.
use Rattle.std.specs.Prelude.{◌≡◌, Bool, ℕ, zero, suc, ◌<◌, ltb}
use Rattle.std.proofs.Math.Path.{refl}
use Rattle.std.proofs.Common.{sym, ap, ◌∙◌}
use Rattle.std.proofs.Math.Bool.{true, false}
use Rattle.std.proofs.lemmas.Bool.{false≢true}
use Rattle.std.proofs.Math.Option.{Option, none, some, none-ne-some, some-injective}
use mathlib.Core.List.{List, [], ◌∷◌, ◌++◌, Memᴰ}
use Rattle.std.proofs.Math.ListN.{get_elem?}
use Rattle.std.proofs.Math.Dec.{eqb}
use borrow.Author.Tests.{eqb-true, eq-eqb, ltb-true, lt-ltb}
use Rattle.definition.specs.Chains.{Chain, Edge, grow, has, leads, reach, reach_from}
use Rattle.definition.specs.Classes.{Base, Class, Entry, find, lower, super_of}
use Rattle.definition.specs.Constraints.{Agrees, World, agrees, edges, pair_agrees, row_agrees, tie_edges, agrees_over}
use Rattle.definition.specs.Lists.{all}
use Rattle.definition.specs.Requests.{Request, at, same_request}
use Rattle.definition.specs.Superclasses.{Below, Falls, below, same}
use Rattle.laws.specs.Chains.{chain-leads, leads-chain, requests}
use Rattle.laws.specs.Upward.{below_true, true_below}

pub all-at : {A : Type 0} (f : A → Bool) {x : A} {xs : List A} → all f xs ≡ true → Memᴰ x xs → f x ≡ true
unfolding all
all-at {A = A} f {x = x} {xs = []} h never = elim never [ ]
all-at {A} f {x} {xs = y ∷ ys} h (Memᴰ.head e) = go (f y) refl h
  where
    go : (t : Bool) → f y ≡ t → (elim t as (λ _. Bool) [ true ↦ all f ys | false ↦ false ]) ≡ true → f x ≡ true
    go true q _ = ap f e ∙ q
    go false q r = absurd (false≢true r)
all-at {A} f {x} {xs = y ∷ ys} h (Memᴰ.tail m) = all-at f (go (f y) h) m
  where
    go : (t : Bool) → (elim t as (λ _. Bool) [ true ↦ all f ys | false ↦ false ]) ≡ true → all f ys ≡ true
    go true r = r
    go false r = absurd (false≢true r)

pub all_of : {A : Type 0} (f : A → Bool) (xs : List A) → ((x : A) → Memᴰ x xs → f x ≡ true) → all f xs ≡ true
unfolding all
all_of f [] h = refl
all_of f (x ∷ xs) h = rw (h x (Memᴰ.head refl), all) (all_of f xs (λ y m. h y (Memᴰ.tail m)))

pub find-row : (es : List Entry) (a : Request) (c : ℕ) → find es a ≡ some c → (e : Entry) × Memᴰ e es × (e.request ≡ a) × (e.class ≡ c)
unfolding find
find-row [] a c h = absurd (none-ne-some c h)
find-row (e ∷ es) a c h = go (same_request e.request a) refl h (find-row es a c)
  where
    go : (t : Bool) → same_request e.request a ≡ t → (elim t as (λ _. Option ℕ) [ true ↦ some e.class | false ↦ find es a ]) ≡ some c
        → (find es a ≡ some c → (e : Entry) × Memᴰ e es × (e.request ≡ a) × (e.class ≡ c)) → (d : Entry) × Memᴰ d (e ∷ es) × (d.request ≡ a) × (d.class ≡ c)
    go true q r f = (e, Memᴰ.head refl, requests.same-eq e.request a q, some-injective e.class c r)
    go false q r f = let g = f r in (g.0, Memᴰ.tail g.1, g.2, g.3)

pub find-more : (es fs : List Entry) (a : Request) (c : ℕ) → find es a ≡ some c → find (es ++ fs) a ≡ some c
unfolding find
find-more [] fs a c h = absurd (none-ne-some c h)
find-more (e ∷ es) fs a c h = go (same_request e.request a) h (find-more es fs a c)
  where
    go : (t : Bool) → (elim t as (λ _. Option ℕ) [ true ↦ some e.class | false ↦ find es a ]) ≡ some c → (find es a ≡ some c → find (es ++ fs) a ≡ some c)
        → (elim t as (λ _. Option ℕ) [ true ↦ some e.class | false ↦ find (es ++ fs) a ]) ≡ some c
    go true r f = r
    go false r f = f r

pub nth-more : {A : Type 0} (xs ys : List A) (i : ℕ) (x : A) → get_elem? xs i ≡ some x → get_elem? (xs ++ ys) i ≡ some x
nth-more [] ys i x h = absurd (none-ne-some x h)
nth-more (z ∷ xs) ys zero x h = h
nth-more (z ∷ xs) ys (suc i) x h = nth-more xs ys i x h

-- What a superclass rests on
pub record Super (w : Base) (c p : ℕ) : Type 0 where
  pub the_class : Class
  pub is_class : get_elem? w.classes c ≡ some the_class
  pub cached : find w.cache (at the_class.loader the_class.super) ≡ some p
  pub less : p < c

pub super-is : (w : Base) (c p : ℕ) → super_of w c ≡ some p → Super w c p
unfolding super_of lower
super-is w c p h = go (get_elem? w.classes c) refl h
  where
    last : (k : Class) → get_elem? w.classes c ≡ some k → (q : ℕ) → find w.cache (at k.loader k.super) ≡ some q → (t : Bool) → ltb q c ≡ t
        → (elim t as (λ _. Option ℕ) [ true ↦ some q | false ↦ none ]) ≡ some p → Super w c p
    last k e q f true l r = let z = some-injective q p r in record { the_class = k; is_class = e; cached = rw z at f; less = rw z at (ltb-true q c l) }
    last k e q f false l r = absurd (none-ne-some p r)

    mid : (k : Class) → get_elem? w.classes c ≡ some k → (o : Option ℕ) → find w.cache (at k.loader k.super) ≡ o
        → (elim o as (λ _. Option ℕ) [ none ↦ none | some q ↦ lower c q ]) ≡ some p → Super w c p
    mid k e none f r = absurd (none-ne-some p r)
    mid k e (some q) f r = last k e q f (ltb q c) refl r

    go : (o : Option Class) → get_elem? w.classes c ≡ o
        → (elim o as (λ _. Option ℕ) [ none ↦ none | some k ↦ elim (find w.cache (at k.loader k.super)) as (λ _. Option ℕ) [ none ↦ none | some q ↦ lower c q ] ]) ≡ some p → Super w c p
    go none e r = absurd (none-ne-some p r)
    go (some k) e r = mid k e (find w.cache (at k.loader k.super)) refl r

pub is-super : (w : Base) (c p : ℕ) → Super w c p → super_of w c ≡ some p
unfolding super_of lower
is-super w c p s = rw (s.is_class, super_of) (rw s.cached (rw (lt-ltb p c s.less, lower) refl))

pub super-falls : (w : Base) → Falls (super_of w)
super-falls w c p h = (super-is w c p h).less

-- The reading of agreement

row_at : (w : World) (a : Request) (c : ℕ) → agrees w ≡ true → find w.base.cache a ≡ some c → row_agrees (super_of w.base) w.base.cache (tie_edges w.ties) (edges w) a ≡ true
unfolding agrees agrees_over
row_at w a c h p = let r = find-row w.base.cache a c p in rw r.2 at (all-at (λ e. row_agrees (super_of w.base) w.base.cache (tie_edges w.ties) (edges w) e.request) h r.1)

pair-at : (w : World) (ts es : List (Edge Request)) (a b : Request) (c d : ℕ) → row_agrees (super_of w.base) w.base.cache ts es a ≡ true → find w.base.cache a ≡ some c → find w.base.cache b ≡ some d
    → pair_agrees (super_of w.base) w.base.cache c (reach same_request ts a) (reach same_request es a) b ≡ true
unfolding row_agrees reach
pair-at w ts es a b c d h p q =
    let r = find-row w.base.cache b d q in
    let k : all (λ f. pair_agrees (super_of w.base) w.base.cache c (reach same_request ts a) (reach same_request es a) f.request) w.base.cache ≡ true = rw (p, row_agrees) at h in
    rw r.2 at (all-at (λ f. pair_agrees (super_of w.base) w.base.cache c (reach same_request ts a) (reach same_request es a) f.request) k r.1)

pub agrees-true : (w : World) → agrees w ≡ true → Agrees w
unfolding pair_agrees leads reach
agrees-true w h = record { tied = tied'; led = led' }
  where
    ts : List (Edge Request)
    ts = tie_edges w.ties

    es : List (Edge Request)
    es = edges w

    tied' : {a b : Request} {c d : ℕ} → find w.base.cache a ≡ some c → find w.base.cache b ≡ some d → Chain ts a b → c ≡ d
    tied' {a} {b} {c} {d} p q k = eqb-true c d (rw (q, chain-leads requests ts a b k, pair_agrees) at (pair-at w ts es a b c d (row_at w a c h p) p q))

    led' : {a b : Request} {c d : ℕ} → find w.base.cache a ≡ some c → find w.base.cache b ≡ some d → Chain es a b → Below (super_of w.base) c d
    led' {a} {b} {c} {d} p q k = go (has same_request b (reach same_request ts a)) (has same_request b (reach same_request es a)) (chain-leads requests es a b k) (rw (q, pair_agrees) at (pair-at w ts es a b c d (row_at w a c h p) p q))
      where
        go : (t s : Bool) → s ≡ true → (elim t as (λ _. Bool) [ true ↦ eqb c d | false ↦ elim s as (λ _. Bool) [ true ↦ below (super_of w.base) c d | false ↦ true ] ]) ≡ true → Below (super_of w.base) c d
        go true s e r = same (eqb-true c d r)
        go false true e r = below_true (super_of w.base) (super-falls w.base) c d r
        go false false e r = absurd (false≢true e)

pub true-agrees : (w : World) → Agrees w → agrees w ≡ true
unfolding agrees agrees_over row_agrees pair_agrees leads reach
true-agrees w g = all_of (λ e. row_agrees (super_of w.base) w.base.cache ts es e.request) w.base.cache (λ e _. row e.request (find w.base.cache e.request) refl)
  where
    ts : List (Edge Request)
    ts = tie_edges w.ties

    es : List (Edge Request)
    es = edges w

    lead : (a b : Request) (c d : ℕ) → find w.base.cache a ≡ some c → find w.base.cache b ≡ some d → (t : Bool) → leads same_request es a b ≡ t
        → (elim t as (λ _. Bool) [ true ↦ below (super_of w.base) c d | false ↦ true ]) ≡ true
    lead a b c d p q true l = true_below (super_of w.base) (super-falls w.base) c d (g.led p q (leads-chain requests es a b l))
    lead a b c d p q false l = refl

    tie : (a b : Request) (c d : ℕ) → find w.base.cache a ≡ some c → find w.base.cache b ≡ some d → (t : Bool) → leads same_request ts a b ≡ t
        → (elim t as (λ _. Bool) [ true ↦ eqb c d | false ↦ elim (has same_request b (reach same_request es a)) as (λ _. Bool) [ true ↦ below (super_of w.base) c d | false ↦ true ] ]) ≡ true
    tie a b c d p q true l = eq-eqb c d (g.tied p q (leads-chain requests ts a b l))
    tie a b c d p q false l = lead a b c d p q (leads same_request es a b) refl

    pair : (a b : Request) (c : ℕ) → find w.base.cache a ≡ some c → (o : Option ℕ) → find w.base.cache b ≡ o
        → (elim o as (λ _. Bool) [ none ↦ true | some d ↦ elim (has same_request b (reach same_request ts a)) as (λ _. Bool) [ true ↦ eqb c d | false ↦ elim (has same_request b (reach same_request es a)) as (λ _. Bool) [ true ↦ below (super_of w.base) c d | false ↦ true ] ] ]) ≡ true
    pair a b c p none q = refl
    pair a b c p (some d) q = tie a b c d p q (leads same_request ts a b) refl

    row : (a : Request) (o : Option ℕ) → find w.base.cache a ≡ o → (elim o as (λ _. Bool) [ none ↦ true | some c ↦ all (λ f. pair_agrees (super_of w.base) w.base.cache c (reach same_request ts a) (reach same_request es a) f.request) w.base.cache ]) ≡ true
    row a none p = refl
    row a (some c) p = all_of (λ f. pair_agrees (super_of w.base) w.base.cache c (reach same_request ts a) (reach same_request es a) f.request) w.base.cache (λ f _. pair a f.request c p (find w.base.cache f.request) refl)

-- Without constraints each request leads to itself alone, and there is nothing to agree on

module _ (sup : ℕ → Option ℕ) (cache : List Entry) where
  pair-alone : (a b : Request) (c : ℕ) → find cache a ≡ some c → pair_agrees sup cache c (a ∷ []) (a ∷ []) b ≡ true
  unfolding pair_agrees has
  pair-alone a b c p = go (find cache b) refl (same_request b a) refl
    where
      go : (o : Option ℕ) → find cache b ≡ o → (t : Bool) → same_request b a ≡ t
          → (elim o as (λ _. Bool) [
            | none ↦ true
            | some d ↦ elim (elim t as (λ _. Bool) [ true ↦ true | false ↦ false ]) as (λ _. Bool) [
              | true ↦ eqb c d
              | false ↦ elim (elim t as (λ _. Bool) [ true ↦ true | false ↦ false ]) as (λ _. Bool) [ true ↦ below sup c d | false ↦ true ]
            ]
          ]) ≡ true
      go none q t e = refl
      go (some d) q true e = eq-eqb c d (some-injective c d (sym p ∙ (ap (find cache) (sym (requests.same-eq b a e)) ∙ q)))
      go (some d) q false e = refl

  pub agrees-alone : agrees_over sup cache [] [] ≡ true
  unfolding agrees_over row_agrees reach reach_from grow
  agrees-alone = all_of (λ e. row_agrees sup cache [] [] e.request) cache (λ e _. row e.request (find cache e.request) refl)
    where
      row : (a : Request) (o : Option ℕ) → find cache a ≡ o
          → (elim o as (λ _. Bool) [
            | none ↦ true
            | some c ↦ all (λ f. pair_agrees sup cache c (reach same_request [] a) (reach same_request [] a) f.request) cache
          ]) ≡ true
      row a none p = refl
      row a (some c) p = all_of (λ f. pair_agrees sup cache c (a ∷ []) (a ∷ []) f.request) cache (λ f _. pair-alone a f.request c p)
