-- Tables written place by place, numbers of places, and places joined into lists one by one.
use mathlib.Core.Path.{◌≡◌, refl, sym, ap, ◌∙◌}
use mathlib.Core.Bool.{Bool, true, false}
use mathlib.Core.List.{List}
use mathlib.Core.Logic.{◌⊎◌, inl, inr}
use Prim.Native.Nat.{ℕ, suc, ◌+◌, ◌*◌, ◌<◌, ◌≤◌, ◌/◌, ◌%◌}
use native.Mathlib.Nat.{eq-or-lt_of_le}
use native.Mathlib.Omega.{arith}
use lib.ListN.{length, get_or, set, replicate, length-set, length-replicate, get_or-replicate}
use lib.Seq.{get_or-set_same, get_or-set_other}
use lib.Dec.{eqb}
use borrow.Author.Tests.{eqb-true, eqb-false}
use Rattle.definition.specs.Requests.{at}
use Rattle.constraints.specs.Nodes.{request_of, bucket_of, bucket_in}
use Rattle.constraints.specs.Joining.{Last, Joined}
use Rattle.constraints.proofs.Rows.{Order, less, equal, more, order}

-- the places f 0, f 1, .. are written in this order: what holds of each before place f i is written, and of what is written, holds after it
pub fill_more : (f : ℕ → ℕ) (P : ℕ → ℕ → Type 0) (l : List ℕ) (i v : ℕ) → f i < length l → ((p : ℕ) → p < i → f p ≡ f i → ⊥)
    → ((p : ℕ) → p < i → P p (get_or l (f p) 0)) → P i v → (p : ℕ) → p < i + 1 → P p (get_or (set l (f i) v) (f p) 0)
fill_more f P l i v h apart all new p k = go (eq-or-lt_of_le below)
  where
    below : p ≤ i
    below = omega arith

    go : (p ≡ i) ⊎ (p < i) → P p (get_or (set l (f i) v) (f p) 0)
    go (inl e) = rw (e, get_or-set_same l (f i) v 0 h) new
    go (inr m) = rw (get_or-set_other l (f i) (f p) v 0 (apart p m)) (all p m)

-- the number of a request
pub number-at : (l n x y : ℕ) → x ≡ l → y ≡ n → y < 65536 → request_of (x * 65536 + y) ≡ at l n
unfolding request_of
number-at l n x y p q h =
    let high : (x * 65536 + y) / 65536 ≡ l = omega arith in
    let low : (x * 65536 + y) % 65536 ≡ n = omega arith in
    λ i. record { loader = high i; name = low i }

-- Lists

-- before the first place: what `nexts` holds is of no matter
pub joined-first : (key : ℕ → ℕ) (nexts : List ℕ) → length nexts ≡ 1280 → Joined key 0 (replicate 1280 0) nexts
joined-first key nexts long = record {
  heads_long = length-replicate {A = ℕ} 1280 0;
  nexts_long = long;
  head = λ x h. rw (get_or-replicate {A = ℕ} 1280 x 0 0 h)
      (record { high = omega arith; here = λ e q. absurd (omega arith); none = λ e l m. absurd (omega arith) });
  next = λ e h. absurd (omega arith);
}

pub joined-none : (key : ℕ → ℕ) → Joined key 0 (replicate 1280 0) (replicate 1280 0)
joined-none key = joined-first key (replicate 1280 0) (length-replicate {A = ℕ} 1280 0)

pub joined-more : (key : ℕ → ℕ) (e : ℕ) (heads nexts : List ℕ) (s : ℕ) → s ≡ key e → s < 1280 → e < 1280 → Joined key e heads nexts
    → Joined key (e + 1) (set heads s (e + 1)) (set nexts e (get_or heads s 0))
joined-more key e heads nexts s q h k j = record {
  heads_long = length-set heads s (e + 1) ∙ j.heads_long;
  nexts_long = length-set nexts e (get_or heads s 0) ∙ j.nexts_long;
  head = λ x l. one x l (eqb x s) refl;
  next = fill_more (λ p. p) (λ p v. Last key (key p) p v) nexts e (get_or heads s 0) (omega (arith, j.nexts_long)) (λ p m r. omega arith) j.next
      (rw (sym q) (j.head s h));
}
  where
    before : (d : ℕ) → d < e + 1 → (d ≡ e) ⊎ (d < e)
    before d l = eq-or-lt_of_le (omega arith)

    here : (d : ℕ) → e + 1 ≡ suc d → key d ≡ s
    here d r = let z : d ≡ e = omega arith in rw z (sym q)

    older : (x d : ℕ) → (x ≡ s → ⊥) → get_or heads x 0 ≤ d → (d ≡ e) ⊎ (d < e) → x < 1280 → key d ≡ x → ⊥
    older x d n l (inl r) w z = n (sym z ∙ rw r (sym q))
    older x d n l (inr r) w z = (j.head x w).none d l r z

    one : (x : ℕ) → x < 1280 → (t : Bool) → eqb x s ≡ t → Last key x (e + 1) (get_or (set heads s (e + 1)) x 0)
    one x l true r = rw (eqb-true x s r, get_or-set_same heads s (e + 1) 0 (omega (arith, j.heads_long)))
        (record { high = omega arith; here = here; none = λ d a b. absurd (omega arith) })
    one x l false r = rw (get_or-set_other heads s x (e + 1) 0 (eqb-false x s r)) (record {
      high = omega (arith, (j.head x l).high);
      here = (j.head x l).here;
      none = λ d a b. older x d (eqb-false x s r) a (before d b) l;
    })

-- The node of a place, found in its list

pub bucket-key : (numbers : List ℕ) (p k x : ℕ) → k ≡ bucket_of x → x ≡ get_or numbers p 0 → k ≡ bucket_in numbers p
unfolding bucket_in
bucket-key numbers p k x e f = e ∙ ap (λ (z : ℕ). bucket_of z) f

module _ (numbers : List ℕ) (p : ℕ) where
  -- the list of place p from `follow` on is still to be looked through: later places have other numbers
  pub record Following (follow : ℕ) : Type 0 where
    pub high : follow ≤ p
    pub here : (e : ℕ) → follow ≡ suc e → bucket_in numbers e ≡ bucket_in numbers p
    pub none : (e : ℕ) → follow ≤ e → e < p → get_or numbers e 0 ≡ get_or numbers p 0 → ⊥

  same-bucket : (e : ℕ) → get_or numbers e 0 ≡ get_or numbers p 0 → bucket_in numbers e ≡ bucket_in numbers p
  unfolding bucket_in
  same-bucket e q = ap (λ (x : ℕ). bucket_of x) q

  pub follow-first : {f : ℕ} → Last (bucket_in numbers) (bucket_in numbers p) p f → Following f
  follow-first l = record { high = l.high; here = l.here; none = λ e h k q. l.none e h k (same-bucket e q) }

  pub follow-next : {f q g : ℕ} → f ≡ suc q → Last (bucket_in numbers) (bucket_in numbers q) q g → (get_or numbers q 0 ≡ get_or numbers p 0 → ⊥)
      → Following f → Following g
  follow-next {f} {q} {g} i l n s = record {
    high = omega (arith, l.high, s.high);
    here = λ e k. l.here e k ∙ s.here q i;
    none = λ e h k z. other e h k z (order e q);
  }
    where
      other : (e : ℕ) → g ≤ e → e < p → get_or numbers e 0 ≡ get_or numbers p 0 → Order e q → ⊥
      other e h k z (less r) = l.none e h r (same-bucket e z ∙ sym (s.here q i))
      other e h k z (equal r) = n (rw r at z)
      other e h k z (more r) = s.none e (omega arith) k z
