-- What one offer that is tried leads to, and what a search over the offers that are left answers at each turn, over tables.
use Rattle.std.specs.Prelude.{Some, None}
use mathlib.Core.Path.{◌≡◌, refl, sym, ap, ◌∙◌, subst}
use mathlib.Core.Bool.{Bool, true, false, false≢true, ◌&&◌}
use mathlib.Core.Option.{Option, none, some, none-ne-some}
use mathlib.Core.List.{List, [], ◌∷◌}
use Prim.Native.Nat.{ℕ, zero, suc, ◌+◌, ◌-◌, ◌*◌, ◌/◌, ◌<◌, ◌≤◌}
use native.Mathlib.Omega.{arith}
use lib.ListN.{length, get_or, set}
use lib.Dec.{eqb}
use borrow.Author.Tests.{eqb-true, eq-eqb}
use Rattle.definition.specs.Lists.{is_some}
use Rattle.definition.specs.Maybe.{◌>>=◌}
use Rattle.definition.specs.Requests.{Request}
use Rattle.definition.specs.Classes.{Entry, find}
use Rattle.definition.specs.Tables.{Tables, tables, Rows, cache_of, view_over, view}
use Rattle.definition.specs.Broken.{broken}
use Rattle.definition.specs.Calls.{done, call_rows, perform}
use Rattle.laws.specs.Refusals.{load_call}
use Rattle.laws.specs.Tests.{and-true}
use Rattle.definition.specs.Offers.{offers_in, except, first_some}
use Rattle.laws.specs.Pruned.{pruned_of}
use Rattle.layout.specs.SetBack.{set_back}
use Rattle.layout.specs.Unbroken.{unbroken}
use Rattle.copying.specs.Copied.{copied, copied-whole}
use Rattle.searching.specs.Offered.{load_at, offers-few}
use Rattle.searching.specs.Could.{could_at, could-not}
use Rattle.searching.specs.Ordering.{Ordered, taken_of, digits, ordered, cached_order, room, Fits, with_first, left_from, left_of, is_tried_at, pruned, through, tries, Searches}
use Rattle.searching.proofs.Turns.{Went, went, stayed, undone, through-none, through-on, ordered-more, ordered-none, left-except, turn_on, turn-found, turn_end, branch, pruned-more, branch-not, branch-is}

no-order : (o : Option (List ℕ)) → None ≡ ordered o → o ≡ none
unfolding ordered
no-order none h = refl
no-order (some is) h = cc

an-order : (o : Option (List ℕ)) (c : ℕ) → Some c ≡ ordered o → (is : List ℕ) × (o ≡ some is)
unfolding ordered
an-order none c h = absurd (let z : ◌≡◌ {A = ℕ} 0 1 = cc in omega arith)
an-order (some is) c h = (is, refl)

-- A row is one of at most 8
pub few : (cells files : List ℕ) (i : ℕ) → is_some (offers_in cells files) ≡ true → i < length cells / 4 → i < 8
few cells files i reads l = omega (arith, offers-few cells files reads, l)

-- the marks of the offers used, with offer i's
pub marked : (used zeros a b : List ℕ) (i : ℕ) → length used ≡ 8 → length zeros ≡ 8 → a ≡ copied used zeros → b ≡ set a i 1 → b ≡ set used i 1
marked used zeros a b i h k e f = f ∙ ap (λ (x : List ℕ). set x i 1) (e ∙ copied-whole used zeros (h ∙ sym k))

-- an order of at most 7 loads has room for one more
pub fits_more : (n : ℕ) (r : Ordered) → n < 8 → Fits n r → Fits 7 r
unfolding room
fits_more zero (Some c) l h = omega arith
fits_more (suc zero) (Some c) l h = omega arith
fits_more (suc (suc zero)) (Some c) l h = omega arith
fits_more (suc (suc (suc zero))) (Some c) l h = omega arith
fits_more (suc (suc (suc (suc zero)))) (Some c) l h = omega arith
fits_more (suc (suc (suc (suc (suc zero))))) (Some c) l h = omega arith
fits_more (suc (suc (suc (suc (suc (suc zero)))))) (Some c) l h = omega arith
fits_more (suc (suc (suc (suc (suc (suc (suc zero))))))) (Some c) l h = h
fits_more (suc (suc (suc (suc (suc (suc (suc (suc n)))))))) (Some c) l h = absurd (omega arith)
fits_more n None l h = tt

pub fits_below : (r : Ordered) (c : ℕ) → Fits 7 r → r ≡ Some c → c < 2097152
unfolding room
fits_below r c h e = subst (Fits 7) e h

-- One offer

module _ (cells files : List ℕ) (q : Request) (n i : ℕ) (used : List ℕ) (t u : Tables) (b : Bool) (h : broken t ≡ false)
    (reads : is_some (offers_in cells files) ≡ true) (l : i < length cells / 4)
    (e : done b u ≡ taken_of (perform (call_rows (load_call (load_at cells files i))) t)) where
  abbrev this : Option (List ℕ)
  this = through cells files q n (left_of cells used) (view t) i

  -- its load is refused
  pub one-refused : b ≡ false → Searches this (suc n) t u None
  unfolding ordered
  one-refused f =
      let s = stayed (load_at cells files i) t u b h e f in
      record {
        answers = sym (ap ordered (through-none cells files q n (left_of cells used) (view t) i reads l s.1));
        fits = tt;
        back = λ _. (ap broken s.0 ∙ h, ap view s.0);
      }

  -- it is accepted: the tables aren't broken
  pub one-whole : b ≡ true → broken u ≡ false
  one-whole y = (went (load_at cells files i) t u b h e y).whole

  module _ (y : b ≡ true) (next : List ℕ) (is : next ≡ set used i 1) (z : get_or used i 0 ≡ 0) (m : i < length used) where
    it : Went (load_at cells files i) t u
    it = went (load_at cells files i) t u b h e y

    leads : this ≡ (pruned cells files q n (left_of cells next) (view u) >>= λ ks. some (i ∷ ks))
    leads =
        let o : left_of cells next ≡ except i (left_of cells used) = ap (left_of cells) is ∙ left-except used i (length cells / 4) 0 (omega arith) (omega arith) m z in
        through-on cells files q n (left_of cells used) (view t) i reads l it.rows it.loads
        ∙ (λ d. pruned cells files q n (sym o d) (sym it.shows d) >>= λ ks. some (i ∷ ks))

    module _ (v : Tables) (r : Ordered) (s : Searches (pruned cells files q n (left_of cells next) (view u)) n u v r) where
      -- it leads to an order
      pub one_found : (c : ℕ) → r ≡ Some c → i < 8 → (w : Tables) → Searches this (suc n) t w (Some (i + 8 * c))
      unfolding room
      one_found c p k w = record {
        answers = ordered-more i (pruned cells files q n (left_of cells next) (view u)) c (sym p ∙ s.answers) ∙ ap ordered (sym leads);
        fits = let f : c < room n = subst (Fits n) p s.fits in omega (arith, f, k);
        back = λ a. absurd (let x : ◌≡◌ {A = ℕ} 0 1 = cc in omega arith);
      }

      -- it doesn't, and the counts are set back
      pub one_none : r ≡ None → v.objects ≡ t.objects → v.frames ≡ t.frames → Searches this (suc n) t (set_back t v) None
      one_none p o f =
          let k = s.back p in
          let d = undone (load_at cells files i) t u v h it k.0 k.1 o f in
          record {
            answers = ordered-none i (pruned cells files q n (left_of cells next) (view u)) (sym p ∙ s.answers) ∙ ap ordered (sym leads);
            fits = tt;
            back = λ _. d;
          }

      -- the counts copied before the load and copied back
      pub one-undone : r ≡ None → v.objects ≡ t.objects → v.frames ≡ t.frames → (zeros saved counts : List ℕ) → length zeros ≡ 1193 → saved ≡ copied t.counts zeros → counts ≡ copied saved v.counts
          → Searches this (suc n) t (tables counts v.classes v.kept v.cache v.ties v.subtypes v.objects v.frames) None
      one-undone p o f zeros saved counts k a c =
          let m : length t.counts ≡ 1193 = (unbroken t h).lengths.counts in
          let d : length v.counts ≡ 1193 = (unbroken v (s.back p).0).lengths.counts in
          let x : saved ≡ t.counts = a ∙ copied-whole t.counts zeros (m ∙ sym k) in
          let w : counts ≡ t.counts = c ∙ (ap (λ (z : List ℕ). copied z v.counts) x ∙ copied-whole t.counts v.counts (m ∙ sym d)) in
          subst (λ (z : List ℕ). Searches this (suc n) t (tables z v.classes v.kept v.cache v.ties v.subtypes v.objects v.frames) None) (sym w) (one_none p o f)

      -- so after it
      pub one-done : (o : Ordered) → o ≡ with_first i r → i < 8 → v.objects ≡ t.objects → v.frames ≡ t.frames → (zeros saved counts : List ℕ) → length zeros ≡ 1193 → saved ≡ copied t.counts zeros → counts ≡ copied saved v.counts
          → Searches this (suc n) t (tables counts v.classes v.kept v.cache v.ties v.subtypes v.objects v.frames) o
      one-done o a k ob fr zeros saved counts z sv cs = subst (Searches this (suc n) t (tables counts v.classes v.kept v.cache v.ties v.subtypes v.objects v.frames)) (sym a) (go r refl)
        where
          go : (x : Ordered) → r ≡ x → Searches this (suc n) t (tables counts v.classes v.kept v.cache v.ties v.subtypes v.objects v.frames) (with_first i x)
          go (Some c) p = one_found c p k (tables counts v.classes v.kept v.cache v.ties v.subtypes v.objects v.frames)
          go None p = one-undone p ob fr zeros saved counts z sv cs

-- An offer that isn't tried, and one that is

module _ (cells files : List ℕ) (q : Request) (n i : ℕ) (used : List ℕ) (t : Tables) where
  abbrev test : Bool
  test = eqb (get_or used i 0) 0 && is_tried_at cells files q n i

  tries-none : test ≡ false → tries cells files q n used (view t) i ≡ none
  unfolding tries
  tries-none f = rw (f, tries) refl

  tries-through : test ≡ true → tries cells files q n used (view t) i ≡ through cells files q n (left_of cells used) (view t) i
  unfolding tries
  tries-through f = rw (f, tries) refl

  pub not-tried : broken t ≡ false → test ≡ false → Searches (tries cells files q n used (view t) i) (suc n) t t None
  unfolding ordered
  not-tried h f = record { answers = sym (ap ordered (tries-none f)); fits = tt; back = λ _. (h, refl) }

  -- nor is one tried whose load can be refused at once
  pub not-worth : broken t ≡ false → is_some (offers_in cells files) ≡ true → i < length cells / 4
      → (test && could_at t.counts t.classes t.kept t.cache cells files i) ≡ false → Searches (tries cells files q n used (view t) i) (suc n) t t None
  unfolding ordered
  not-worth h reads l = go test refl
    where
      go : (b : Bool) → test ≡ b → (b && could_at t.counts t.classes t.kept t.cache cells files i) ≡ false → Searches (tries cells files q n used (view t) i) (suc n) t t None
      go false e f = not-tried h e
      go true e f = record {
        answers = sym (ap ordered (tries-through e ∙ through-none cells files q n (left_of cells used) (view t) i reads l (could-not t h cells files i f)));
        fits = tt;
        back = λ _. (h, refl);
      }

  pub is-worth : (test && could_at t.counts t.classes t.kept t.cache cells files i) ≡ true → test ≡ true
  is-worth f = (and-true test (could_at t.counts t.classes t.kept t.cache cells files i) f).0

  pub is-unused : test ≡ true → get_or used i 0 ≡ 0
  is-unused = go (eqb (get_or used i 0) 0) refl
    where
      go : (b : Bool) → eqb (get_or used i 0) 0 ≡ b → (b && is_tried_at cells files q n i) ≡ true → get_or used i 0 ≡ 0
      go true e g = eqb-true (get_or used i 0) 0 e
      go false e g = absurd (false≢true g)

  pub is-tried : (u : Tables) (r : Ordered) → test ≡ true → Searches (through cells files q n (left_of cells used) (view t) i) (suc n) t u r
      → Searches (tries cells files q n used (view t) i) (suc n) t u r
  is-tried u r f x = subst (λ (o : Option (List ℕ)). Searches o (suc n) t u r) (sym (tries-through f)) x

-- All that are left

-- of n + 1 loads: from offer i on, of k, the tables show what they showed
pub record Turning (cells files : List ℕ) (q : Request) (n : ℕ) (used : List ℕ) (t s : Tables) (k i : ℕ) : Type 0 where
  pub up_to : i ≤ k
  pub whole : broken s ≡ false
  pub shows : view s ≡ view t
  pub left : first_some (branch cells files q n (left_of cells used) (view t)) (left_from used (k - i) i) ≡ pruned cells files q (suc n) (left_of cells used) (view t)

module _ (cells files : List ℕ) (q : Request) (n : ℕ) (used : List ℕ) (t : Tables) where
  pub turning-start : broken t ≡ false → (k : ℕ) → k ≡ length cells / 4 → Turning cells files q n used t t k 0
  turning-start h k e = record {
    up_to = omega arith;
    whole = h;
    shows = refl;
    left = let z : k - 0 ≡ length cells / 4 = omega arith in ap (λ (x : ℕ). first_some (branch cells files q n (left_of cells used) (view t)) (left_from used x 0)) z ∙ sym (pruned-more cells files q n (left_of cells used) (view t));
  }

  module _ (s : Tables) (k i : ℕ) (w : Turning cells files q n used t s k i) (l : i < k) where
    -- offer i isn't tried
    pub turning-skip : (eqb (get_or used i 0) 0 && is_tried_at cells files q n i) ≡ false → Turning cells files q n used t s k (i + 1)
    turning-skip f = record {
      up_to = omega arith;
      whole = w.whole;
      shows = w.shows;
      left = sym (turn_on (branch cells files q n (left_of cells used) (view t)) used k i l (λ z. branch-not cells files q n (left_of cells used) (view t) i (not-tried z))) ∙ w.left;
    }
      where
        not-tried : get_or used i 0 ≡ 0 → is_tried_at cells files q n i ≡ false
        not-tried z = ap (λ (b : Bool). b && is_tried_at cells files q n i) (sym (eq-eqb (get_or used i 0) 0 z)) ∙ f

    module _ (f : (eqb (get_or used i 0) 0 && is_tried_at cells files q n i) ≡ true) (u : Tables) (r : Ordered)
        (x : Searches (through cells files q n (left_of cells used) (view s) i) (suc n) s u r) where
      parts : (get_or used i 0 ≡ 0) × (is_tried_at cells files q n i ≡ true)
      parts = go (eqb (get_or used i 0) 0) refl f
        where
          go : (b : Bool) → eqb (get_or used i 0) 0 ≡ b → (b && is_tried_at cells files q n i) ≡ true → (get_or used i 0 ≡ 0) × (is_tried_at cells files q n i ≡ true)
          go true e g = (eqb-true (get_or used i 0) 0 e, g)
          go false e g = absurd (false≢true g)

      here : branch cells files q n (left_of cells used) (view t) i ≡ through cells files q n (left_of cells used) (view s) i
      here = branch-is cells files q n (left_of cells used) (view t) i parts.1 ∙ ap (λ (y : Rows). through cells files q n (left_of cells used) y i) (sym w.shows)

      -- it leads to none
      pub turning-on : r ≡ None → Turning cells files q n used t u k (i + 1)
      turning-on p = record {
        up_to = omega arith;
        whole = (x.back p).0;
        shows = (x.back p).1 ∙ w.shows;
        left = sym (turn_on (branch cells files q n (left_of cells used) (view t)) used k i l (λ _. here ∙ no-order _ (sym p ∙ x.answers))) ∙ w.left;
      }

      -- it leads to an order
      pub turning-found : (c : ℕ) → r ≡ Some c → (v : Tables) → Searches (pruned cells files q (suc n) (left_of cells used) (view t)) (suc n) t v (Some c)
      turning-found c p v =
          let o = an-order (through cells files q n (left_of cells used) (view s) i) c (sym p ∙ x.answers) in
          record {
            answers = (sym p ∙ x.answers) ∙ ap ordered (o.1 ∙ (sym (turn-found (branch cells files q n (left_of cells used) (view t)) used k i l parts.0 o.0 (here ∙ o.1)) ∙ w.left));
            fits = subst (Fits (suc n)) p x.fits;
            back = λ a. absurd (let y : ◌≡◌ {A = ℕ} 0 1 = cc in omega arith);
          }

    module _ (u : Tables) (r : Ordered) (x : Searches (tries cells files q n used (view s) i) (suc n) s u r) where
      -- it leads to none, or isn't tried
      pub turns-on : r ≡ None → Turning cells files q n used t u k (i + 1)
      turns-on p = go (test cells files q n i used s) refl
        where
          go : (b : Bool) → test cells files q n i used s ≡ b → Turning cells files q n used t u k (i + 1)
          go true e = turning-on e u r (subst (λ (o : Option (List ℕ)). Searches o (suc n) s u r) (tries-through cells files q n i used s e) x) p
          go false e =
              let y = turning-skip e in
              record { up_to = y.up_to; whole = (x.back p).0; shows = (x.back p).1 ∙ w.shows; left = y.left }

      -- it leads to an order
      pub turns-found : (c : ℕ) → r ≡ Some c → (v : Tables) → Searches (pruned cells files q (suc n) (left_of cells used) (view t)) (suc n) t v (Some c)
      turns-found c p v = go (test cells files q n i used s) refl
        where
          go : (b : Bool) → test cells files q n i used s ≡ b → Searches (pruned cells files q (suc n) (left_of cells used) (view t)) (suc n) t v (Some c)
          go true e = turning-found e u r (subst (λ (o : Option (List ℕ)). Searches o (suc n) s u r) (tries-through cells files q n i used s e) x) c p v
          go false e = absurd (none-ne-some (an-order _ c (sym p ∙ x.answers)).0 (sym (tries-none cells files q n i used s e) ∙ (an-order _ c (sym p ∙ x.answers)).1))

  -- none is left
  pub turning-end : (s : Tables) (k i : ℕ) → Turning cells files q n used t s k i → k ≤ i → Searches (pruned cells files q (suc n) (left_of cells used) (view t)) (suc n) t s None
  unfolding ordered
  turning-end s k i w l = record {
    answers = ap ordered (sym (turn_end (branch cells files q n (left_of cells used) (view t)) used k i l) ∙ w.left);
    fits = tt;
    back = λ _. (w.whole, w.shows);
  }

-- of n loads, where n isn't 0
pub by_one : (n : ℕ) → (n ≡ 0 → ⊥) → suc (n - 1) ≡ n
by_one n h = omega (arith, h)

pub of-all : (cells files : List ℕ) (q : Request) (n : ℕ) (used : List ℕ) (t u : Tables) (r : Ordered) → (n ≡ 0 → ⊥)
    → Searches (pruned cells files q (suc (n - 1)) (left_of cells used) (view t)) (suc (n - 1)) t u r → Searches (pruned cells files q n (left_of cells used) (view t)) n t u r
of-all cells files q n used t u r h x = subst (λ (m : ℕ). Searches (pruned cells files q m (left_of cells used) (view t)) m t u r) (by_one n h) x

-- of no loads

cached-fits : (o : Option ℕ) (r : Ordered) → r ≡ ordered (cached_order o) → Fits 0 r
unfolding ordered cached_order digits room
cached-fits none r e = subst (Fits 0) (sym e) tt
cached-fits (some c) r e = let z : 0 < 1 = omega arith in subst (Fits 0) (sym e) z

no-loads : (o : Option ℕ) → (elim o as (λ _. Option (List ℕ)) [ none ↦ none | some c ↦ some [] ]) ≡ cached_order o
unfolding cached_order
no-loads none = refl
no-loads (some c) = refl

all-cached : (cells files : List ℕ) (q : Request) (left : List ℕ) (t : Tables) (r : Ordered) → broken t ≡ false → r ≡ ordered (cached_order (find (view t).cache q))
    → Searches (pruned cells files q 0 left (view t)) 0 t t r
unfolding pruned pruned_of
all-cached cells files q left t r h e =
    record { answers = e ∙ ap ordered (sym (no-loads (find (view t).cache q))); fits = cached-fits (find (view t).cache q) r e; back = λ _. (h, refl) }

shown : (t : Tables) → (view t).cache ≡ cache_of t
unfolding view view_over
shown t = refl

pub of_none : (cells files : List ℕ) (q : Request) (n : ℕ) (left : List ℕ) (t : Tables) (r : Ordered) → n ≡ 0 → broken t ≡ false → r ≡ ordered (cached_order (find (cache_of t) q))
    → Searches (pruned cells files q n left (view t)) n t t r
of_none cells files q n left t r z h e =
    subst (λ (m : ℕ). Searches (pruned cells files q m left (view t)) m t t r) (sym z) (all-cached cells files q left t r h (e ∙ ap (λ (es : List Entry). ordered (cached_order (find es q))) (sym (shown t))))
