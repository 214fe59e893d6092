-- The search backward from where walks end. A look at a link finds the node that it leads from, or keeps the better of two links; after a look at every link
-- that leads to a node of one layer, the next layer is found: all nodes from which the shortest walk is one row longer. A search that meets an empty layer has
-- found every node from which there is a walk.
use mathlib.Core.Path.{◌≡◌, refl, sym, ap, ◌∙◌}
use mathlib.Core.Bool.{Bool, true, false, false≢true, not}
use mathlib.Core.List.Memᴰ
use mathlib.Core.List.{List, [], ◌∷◌, Memᴰ, ◌++◌}
use mathlib.Core.Logic.{◌⊎◌, inl, inr}
use Prim.Native.Nat.{ℕ, zero, suc, ◌+◌, ◌<◌, ◌≤◌}
use native.Mathlib.Omega.{arith}
use lib.ListN.{length, get_or, set, length-set}
use lib.Seq.{get_or-set_same, get_or-set_other}
use lib.Dec.{eqb, ltb}
use borrow.Author.Tests.{eqb-true, eqb-false, ltb-true, lt-ltb, eq-eqb, ne_eqb}
use Rattle.laws.specs.Earlier.{row_before, row-order, itself, number-on}
use Rattle.constraints.specs.Nodes.{place_limit}
use Rattle.constraints.specs.Joining.{Last}
use Rattle.constraints.specs.Search.{marked, start_of}
use Rattle.constraints.specs.Walks.{Found, found, dist_of, way_of, node_at, Room, Sized, look, looks, Those, Walk, Onward, Exact, Layer, Spread, Seeded, Zeroed, bad_in, ends_in, seed_one}
use Rattle.constraints.proofs.Rows.{Order, less, equal, more, order, both_true}
use Rattle.constraints.proofs.Supers.{above_same, above_other}

-- One cell written

pub data Written (l : List ℕ) (a v q : ℕ) : Type 0 where
  here : q ≡ a → get_or (set l a v) q 0 ≡ v → Written l a v q
  there : (q ≡ a → ⊥) → get_or (set l a v) q 0 ≡ get_or l q 0 → Written l a v q

pub written : (l : List ℕ) (a v q : ℕ) → a < length l → Written l a v q
written l a v q h = go (eqb q a) refl
  where
    go : (t : Bool) → eqb q a ≡ t → Written l a v q
    go true e = let z = eqb-true q a e in here z (ap (λ (x : ℕ). get_or (set l a v) x 0) z ∙ get_or-set_same l a v 0 h)
    go false e = there (eqb-false q a e) (get_or-set_other l a q v 0 (eqb-false q a e))

-- a zero that is written over is one less
unmarked : (l : List ℕ) (i v : ℕ) → i < length l → get_or l i 0 ≡ 0 → 0 < v → suc (marked 0 (set l i v)) ≡ marked 0 l
unfolding marked
unmarked [] i v h e n = absurd (omega arith)
unmarked (x ∷ xs) zero v h e n = rw (e, ne_eqb v 0 (λ q. omega arith), marked) refl
unmarked (x ∷ xs) (suc i) v h e n = go (eqb x 0) (unmarked xs i v (omega arith) e n)
  where
    go : (t : Bool) → suc (marked 0 (set xs i v)) ≡ marked 0 xs
        → ◌≡◌ {A = ℕ} (suc (elim t as (λ _. ℕ) [ true ↦ suc (marked 0 (set xs i v)) | false ↦ marked 0 (set xs i v) ])) (elim t as (λ _. ℕ) [ true ↦ suc (marked 0 xs) | false ↦ marked 0 xs ])
    go true r = ap suc r
    go false r = r

zero_or : (n : ℕ) → (n ≡ 0) ⊎ ((k : ℕ) × (n ≡ suc k))
zero_or zero = inl refl
zero_or (suc n) = inr (n, refl)

-- What is queued grows

pub record Grows (s t : Found) : Type 0 where
  pub more : s.tail ≤ t.tail
  pub old : (i : ℕ) → i < s.tail → node_at t i ≡ node_at s i

-- What a look does

module _ (froms labels : List ℕ) (layer : ℕ) where
  data Looked (e : ℕ) (s : Found) : Type 0 where
    fresh : dist_of s (get_or froms e 0) ≡ 0
        → look froms labels layer e s ≡ found (set s.dists (get_or froms e 0) layer) (set s.ways (get_or froms e 0) e) (set s.queue s.tail (get_or froms e 0)) (s.tail + 1)
        → Looked e s
    sooner : dist_of s (get_or froms e 0) ≡ layer → row_before (get_or labels e 0) (get_or labels (way_of s (get_or froms e 0)) 0) ≡ true
        → look froms labels layer e s ≡ found s.dists (set s.ways (get_or froms e 0) e) s.queue s.tail → Looked e s
    same : (dist_of s (get_or froms e 0) ≡ 0 → ⊥) → (dist_of s (get_or froms e 0) ≡ layer → row_before (get_or labels e 0) (get_or labels (way_of s (get_or froms e 0)) 0) ≡ false)
        → look froms labels layer e s ≡ s → Looked e s

  looked : (e : ℕ) (s : Found) → Looked e s
  unfolding look
  looked e s = go (dist_of s (get_or froms e 0)) refl
    where
      go : (d : ℕ) → dist_of s (get_or froms e 0) ≡ d → Looked e s
      go zero p = fresh p (rw (p, look) refl)
      go (suc d) p = next (eqb (suc d) layer) refl (row_before (get_or labels e 0) (get_or labels (way_of s (get_or froms e 0)) 0)) refl
        where
          next : (t : Bool) → eqb (suc d) layer ≡ t → (u : Bool) → row_before (get_or labels e 0) (get_or labels (way_of s (get_or froms e 0)) 0) ≡ u → Looked e s
          next true f true g = sooner (p ∙ eqb-true (suc d) layer f) g (rw (p, look) (rw (f, g) refl))
          next true f false g = same (λ z. omega (arith, p, z)) (λ _. g) (rw (p, look) (rw (f, g) refl))
          next false f u g = same (λ z. omega (arith, p, z)) (λ z. absurd (eqb-false (suc d) layer f (sym p ∙ z))) (rw (p, look) (rw f refl))

  room-left : (s : Found) (a : ℕ) → Room s → a < place_limit → dist_of s a ≡ 0 → 0 < layer → s.tail < place_limit
  room-left s a r h e l = omega (arith, r.few, unmarked s.dists a layer (omega (arith, r.dists_long)) e l)

  fresh-sized : (e : ℕ) (s : Found) → 0 < layer → get_or froms e 0 < place_limit → Sized s → (p : dist_of s (get_or froms e 0) ≡ 0)
      → Sized (found (set s.dists (get_or froms e 0) layer) (set s.ways (get_or froms e 0) e) (set s.queue s.tail (get_or froms e 0)) (s.tail + 1))
      × Grows s (found (set s.dists (get_or froms e 0) layer) (set s.ways (get_or froms e 0) e) (set s.queue s.tail (get_or froms e 0)) (s.tail + 1))
  fresh-sized e s l h z p = (
    record {
      room = record {
        dists_long = length-set s.dists (get_or froms e 0) layer ∙ z.room.dists_long;
        ways_long = length-set s.ways (get_or froms e 0) e ∙ z.room.ways_long;
        queue_long = length-set s.queue s.tail (get_or froms e 0) ∙ z.room.queue_long;
        few = omega (arith, z.room.few, unmarked s.dists (get_or froms e 0) layer (omega (arith, z.room.dists_long)) p l);
      };
      nodes = λ i k. node i k (written s.queue s.tail (get_or froms e 0) i (omega (arith, left, z.room.queue_long)));
    },
    record { more = omega arith; old = λ i k. get_or-set_other s.queue s.tail i (get_or froms e 0) 0 (λ r. omega arith) },
  )
    where
      left : s.tail < place_limit
      left = room-left s (get_or froms e 0) z.room h p l

      node : (i : ℕ) → i < s.tail + 1 → Written s.queue s.tail (get_or froms e 0) i → get_or (set s.queue s.tail (get_or froms e 0)) i 0 < place_limit
      node i k (here r w) = omega (arith, w)
      node i k (there r w) = omega (arith, w, z.nodes i (omega (arith, k, r)))

  pub look-sized : (e : ℕ) (s : Found) → 0 < layer → get_or froms e 0 < place_limit → Sized s → Sized (look froms labels layer e s) × Grows s (look froms labels layer e s)
  look-sized e s l h z = go (looked e s)
    where
      Both : Found → Type 0
      Both t = Sized t × Grows s t

      stays : Grows s s
      stays = record { more = omega arith; old = λ i k. refl }

      go : Looked e s → Both (look froms labels layer e s)
      go (fresh p q) = rw q (fresh-sized e s l h z p)
      go (sooner p m q) = rw q (
        record {
          room = record { dists_long = z.room.dists_long; ways_long = length-set s.ways (get_or froms e 0) e ∙ z.room.ways_long; queue_long = z.room.queue_long; few = z.room.few };
          nodes = z.nodes;
        },
        record { more = omega arith; old = λ i k. refl },
      )
      go (same p m q) = rw q (z, stays)

  pub looks-sized : (es : List ℕ) (s : Found) → 0 < layer → ((e : ℕ) → Memᴰ e es → get_or froms e 0 < place_limit) → Sized s
      → Sized (looks froms labels layer es s) × Grows s (looks froms labels layer es s)
  unfolding looks
  looks-sized [] s l h z = (z, record { more = omega arith; old = λ i k. refl })
  looks-sized (e ∷ es) s l h z =
      let r = looks-sized es s l (λ d m. h d (Memᴰ.tail m)) z in
      let t = look-sized e (looks froms labels layer es s) l (h e (Memᴰ.head refl)) r.0 in
      (t.0, record { more = omega (arith, r.1.more, t.1.more); old = λ i k. t.1.old i (omega (arith, r.1.more)) ∙ r.1.old i k })

-- One round: looks at links, of which H are those that were looked at, on what was found before the round

module _ (froms labels : List ℕ) (n : ℕ) (s₀ : Found) (bound : (q k : ℕ) → dist_of s₀ q ≡ suc k → k ≤ n) where
  -- of the links looked at that lead from q, e has the row that goes first
  record Foremost (H : ℕ → Type 0) (q e : ℕ) : Type 0 where
    is : H e
    from : get_or froms e 0 ≡ q
    first : (d : ℕ) → H d → get_or froms d 0 ≡ q → row_before (get_or labels d 0) (get_or labels e 0) ≡ false

  record Stage (H : ℕ → Type 0) (s : Found) : Type 0 where
    sized : Sized s
    grows : Grows s₀ s
    kept : (q k : ℕ) → dist_of s₀ q ≡ suc k → (dist_of s q ≡ suc k) × (way_of s q ≡ way_of s₀ q)
    none : (q : ℕ) → dist_of s q ≡ 0 → (dist_of s₀ q ≡ 0) × ((d : ℕ) → H d → get_or froms d 0 ≡ q → ⊥)
    new : (q k : ℕ) → dist_of s q ≡ suc k → dist_of s₀ q ≡ 0 → (k ≡ suc n) × Foremost H q (way_of s q)
    is_queued : (q k : ℕ) → dist_of s q ≡ suc k → dist_of s₀ q ≡ 0 → (i : ℕ) × (s₀.tail ≤ i) × (i < s.tail) × (node_at s i ≡ q)
    is_new : (i : ℕ) → s₀.tail ≤ i → i < s.tail → dist_of s (node_at s i) ≡ suc (suc n)

  stage-none : Sized s₀ → Stage (λ d. Memᴰ d []) s₀
  stage-none z = record {
    sized = z;
    grows = record { more = omega arith; old = λ i k. refl };
    kept = λ q k e. (e, refl);
    none = λ q e. (e, λ d m. absurd (Memᴰ.not-nil m));
    new = λ q k e f. absurd (omega (arith, e, f));
    is_queued = λ q k e f. absurd (omega (arith, e, f));
    is_new = λ i l k. absurd (omega arith);
  }

  foremost-same : {H K : ℕ → Type 0} → ((d : ℕ) → H d → K d) → ((d : ℕ) → K d → H d) → (q e : ℕ) → Foremost H q e → Foremost K q e
  foremost-same f g q e l = record { is = f e l.is; from = l.from; first = λ d k. l.first d (g d k) }

  stage-same : {H K : ℕ → Type 0} → ((d : ℕ) → H d → K d) → ((d : ℕ) → K d → H d) → (s : Found) → Stage H s → Stage K s
  stage-same f g s t = record {
    sized = t.sized;
    grows = t.grows;
    kept = t.kept;
    none = λ q e. ((t.none q e).0, λ d k. (t.none q e).1 d (g d k));
    new = λ q k e h. ((t.new q k e h).0, foremost-same f g q (way_of s q) (t.new q k e h).1);
    is_queued = t.is_queued;
    is_new = t.is_new;
  }

  module _ (H : ℕ → Type 0) (e : ℕ) (s : Found) (h : get_or froms e 0 < place_limit) (t : Stage H s) where
    abbrev More : ℕ → Type 0
    More d = H d ⊎ (d ≡ e)

    -- where another node is asked for, one more link changes nothing
    foremost-other : (q d : ℕ) → (q ≡ get_or froms e 0 → ⊥) → Foremost H q d → Foremost More q d
    foremost-other q d m l = record { is = inl l.is; from = l.from; first = λ c k f. go c k f }
      where
        go : (c : ℕ) → H c ⊎ (c ≡ e) → get_or froms c 0 ≡ q → row_before (get_or labels c 0) (get_or labels d 0) ≡ false
        go c (inl k) f = l.first c k f
        go c (inr k) f = absurd (m (sym f ∙ ap (λ (x : ℕ). get_or froms x 0) k))

    none_other : (q : ℕ) → (q ≡ get_or froms e 0 → ⊥) → ((d : ℕ) → H d → get_or froms d 0 ≡ q → ⊥) → (d : ℕ) → H d ⊎ (d ≡ e) → get_or froms d 0 ≡ q → ⊥
    none_other q m f d (inl k) r = f d k r
    none_other q m f d (inr k) r = m (sym r ∙ ap (λ (x : ℕ). get_or froms x 0) k)

    -- the node was not found yet
    fresh-stage : dist_of s (get_or froms e 0) ≡ 0 → Stage More (found (set s.dists (get_or froms e 0) (suc (suc n))) (set s.ways (get_or froms e 0) e) (set s.queue s.tail (get_or froms e 0)) (s.tail + 1))
    fresh-stage p = record {
      sized = size.0;
      grows = record { more = omega (arith, t.grows.more); old = λ i k. size.1.old i (omega (arith, t.grows.more)) ∙ t.grows.old i k };
      kept = λ q k f. keeps q k f (dist q);
      none = λ q f. nones q f (dist q);
      new = λ q k f g. news q k f g (dist q);
      is_queued = λ q k f g. queues q k f g (dist q);
      is_new = λ i l k. is_news i l k (written s.queue s.tail (get_or froms e 0) i left);
    }
      where
        u : Found
        u = found (set s.dists (get_or froms e 0) (suc (suc n))) (set s.ways (get_or froms e 0) e) (set s.queue s.tail (get_or froms e 0)) (s.tail + 1)

        size : Sized u × Grows s u
        size = fresh-sized froms labels (suc (suc n)) e s (omega arith) h t.sized p

        left : s.tail < length s.queue
        left = omega (arith, room-left froms labels (suc (suc n)) s (get_or froms e 0) t.sized.room h p (omega arith), t.sized.room.queue_long)

        dist : (q : ℕ) → Written s.dists (get_or froms e 0) (suc (suc n)) q
        dist q = written s.dists (get_or froms e 0) (suc (suc n)) q (omega (arith, t.sized.room.dists_long))

        way : (q : ℕ) → Written s.ways (get_or froms e 0) e q
        way q = written s.ways (get_or froms e 0) e q (omega (arith, t.sized.room.ways_long))

        -- another's way stays
        other_way : (q : ℕ) → (q ≡ get_or froms e 0 → ⊥) → way_of u q ≡ way_of s q
        other_way q m = get_or-set_other s.ways (get_or froms e 0) q e 0 m

        keeps : (q k : ℕ) → dist_of s₀ q ≡ suc k → Written s.dists (get_or froms e 0) (suc (suc n)) q → (dist_of u q ≡ suc k) × (way_of u q ≡ way_of s₀ q)
        keeps q k f (here m w) = absurd (omega (arith, (t.kept q k f).0, ap (λ (x : ℕ). dist_of s x) m ∙ p))
        keeps q k f (there m w) = (w ∙ (t.kept q k f).0, other_way q m ∙ (t.kept q k f).1)

        nones : (q : ℕ) → dist_of u q ≡ 0 → Written s.dists (get_or froms e 0) (suc (suc n)) q → (dist_of s₀ q ≡ 0) × ((d : ℕ) → More d → get_or froms d 0 ≡ q → ⊥)
        nones q f (here m w) = absurd (omega (arith, f, w))
        nones q f (there m w) = let r = t.none q (sym w ∙ f) in (r.0, none_other q m r.1)

        news : (q k : ℕ) → dist_of u q ≡ suc k → dist_of s₀ q ≡ 0 → Written s.dists (get_or froms e 0) (suc (suc n)) q → (k ≡ suc n) × Foremost More q (way_of u q)
        news q k f g (here m w) = (omega (arith, f, w), rw own (record { is = inr refl; from = sym m; first = λ d k r. first d k r }))
          where
            own : way_of u q ≡ e
            own = ap (λ (x : ℕ). way_of u x) m ∙ get_or-set_same s.ways (get_or froms e 0) e 0 (omega (arith, t.sized.room.ways_long))

            first : (d : ℕ) → H d ⊎ (d ≡ e) → get_or froms d 0 ≡ q → row_before (get_or labels d 0) (get_or labels e 0) ≡ false
            first d (inl k) r = absurd ((t.none (get_or froms e 0) p).1 d k (r ∙ m))
            first d (inr k) r = rw k (itself row-order (get_or labels e 0))
        news q k f g (there m w) = let r = t.new q k (sym w ∙ f) g in (r.0, rw (other_way q m) (foremost-other q (way_of s q) m r.1))

        queues : (q k : ℕ) → dist_of u q ≡ suc k → dist_of s₀ q ≡ 0 → Written s.dists (get_or froms e 0) (suc (suc n)) q → (i : ℕ) × (s₀.tail ≤ i) × (i < s.tail + 1) × (node_at u i ≡ q)
        queues q k f g (here m w) = (s.tail, t.grows.more, omega arith, get_or-set_same s.queue s.tail (get_or froms e 0) 0 left ∙ sym m)
        queues q k f g (there m w) = let r = t.is_queued q k (sym w ∙ f) g in (r.0, r.1, omega (arith, r.2), size.1.old r.0 r.2 ∙ r.3)

        is_news : (i : ℕ) → s₀.tail ≤ i → i < s.tail + 1 → Written s.queue s.tail (get_or froms e 0) i → dist_of u (node_at u i) ≡ suc (suc n)
        is_news i l k (here m w) = ap (λ (x : ℕ). dist_of u x) w ∙ get_or-set_same s.dists (get_or froms e 0) (suc (suc n)) 0 (omega (arith, t.sized.room.dists_long))
        is_news i l k (there m w) = ap (λ (x : ℕ). dist_of u x) w ∙ found-is (dist (node_at s i))
          where
            old : dist_of s (node_at s i) ≡ suc (suc n)
            old = t.is_new i l (omega (arith, k, m))

            found-is : Written s.dists (get_or froms e 0) (suc (suc n)) (node_at s i) → dist_of u (node_at s i) ≡ suc (suc n)
            found-is (here a b) = b
            found-is (there a b) = b ∙ old

    -- what was found in this round wasn't before
    not-before : (q : ℕ) → dist_of s q ≡ suc (suc n) → dist_of s₀ q ≡ 0
    not-before q f = elim (zero_or (dist_of s₀ q)) [ inl z ↦ z | inr z ↦ absurd (omega (arith, (t.kept q z.0 z.1).0, bound q z.0 z.1, f)) ]

    -- it was found in this round, by a row that goes after
    sooner-stage : dist_of s (get_or froms e 0) ≡ suc (suc n) → row_before (get_or labels e 0) (get_or labels (way_of s (get_or froms e 0)) 0) ≡ true
        → Stage More (found s.dists (set s.ways (get_or froms e 0) e) s.queue s.tail)
    sooner-stage p l = record {
      sized = record {
        room = record {
          dists_long = t.sized.room.dists_long;
          ways_long = length-set s.ways (get_or froms e 0) e ∙ t.sized.room.ways_long;
          queue_long = t.sized.room.queue_long;
          few = t.sized.room.few;
        };
        nodes = t.sized.nodes;
      };
      grows = record { more = t.grows.more; old = t.grows.old };
      kept = λ q k f. ((t.kept q k f).0, keeps q k f);
      none = λ q f. ((t.none q f).0, none_other q (λ m. omega (arith, f, ap (λ (x : ℕ). dist_of s x) m ∙ p)) (t.none q f).1);
      new = λ q k f g. news q k f g (written s.ways (get_or froms e 0) e q (omega (arith, t.sized.room.ways_long)));
      is_queued = t.is_queued;
      is_new = t.is_new;
    }
      where
        keeps : (q k : ℕ) → dist_of s₀ q ≡ suc k → get_or (set s.ways (get_or froms e 0) e) q 0 ≡ way_of s₀ q
        keeps q k f = get_or-set_other s.ways (get_or froms e 0) q e 0 (λ m. omega (arith, f, not-before q (ap (λ (x : ℕ). dist_of s x) m ∙ p))) ∙ (t.kept q k f).1

        news : (q k : ℕ) → dist_of s q ≡ suc k → dist_of s₀ q ≡ 0 → Written s.ways (get_or froms e 0) e q → (k ≡ suc n) × Foremost More q (get_or (set s.ways (get_or froms e 0) e) q 0)
        news q k f g (here m w) = let r = t.new q k f g in (r.0, rw w (record { is = inr refl; from = sym m; first = λ d k z. first r.1 d k z }))
          where
            first : Foremost H q (way_of s q) → (d : ℕ) → H d ⊎ (d ≡ e) → get_or froms d 0 ≡ q → row_before (get_or labels d 0) (get_or labels e 0) ≡ false
            first r d (inl k) z =
                let after : row_before (get_or labels (way_of s q) 0) (get_or labels e 0) ≡ false =
                row-order.only_one (get_or labels e 0) (get_or labels (way_of s q) 0) (ap (λ (x : ℕ). row_before (get_or labels e 0) (get_or labels (way_of s x) 0)) m ∙ l) in
                number-on row-order (get_or labels d 0) (get_or labels (way_of s q) 0) (get_or labels e 0) (r.first d k z) after
            first r d (inr k) z = rw k (itself row-order (get_or labels e 0))
        news q k f g (there m w) = let r = t.new q k f g in (r.0, rw w (foremost-other q (way_of s q) m r.1))

    -- it was found by a row that doesn't go after, or in an earlier round
    same-stage : (dist_of s (get_or froms e 0) ≡ 0 → ⊥) → (dist_of s (get_or froms e 0) ≡ suc (suc n) → row_before (get_or labels e 0) (get_or labels (way_of s (get_or froms e 0)) 0) ≡ false) → Stage More s
    same-stage p l = record {
      sized = t.sized;
      grows = t.grows;
      kept = t.kept;
      none = λ q f. ((t.none q f).0, none_other q (λ m. p (ap (λ (x : ℕ). dist_of s x) (sym m) ∙ f)) (t.none q f).1);
      new = λ q k f g. (let r = t.new q k f g in (r.0, record { is = inl r.1.is; from = r.1.from; first = λ d k z. first q r f d k z }));
      is_queued = t.is_queued;
      is_new = t.is_new;
    }
      where
        first : (q : ℕ) {k : ℕ} → (k ≡ suc n) × Foremost H q (way_of s q) → dist_of s q ≡ suc k → (d : ℕ) → H d ⊎ (d ≡ e) → get_or froms d 0 ≡ q
            → row_before (get_or labels d 0) (get_or labels (way_of s q) 0) ≡ false
        first q r f d (inl k) z = r.1.first d k z
        first q r f d (inr k) z =
            let b : get_or froms e 0 ≡ q = sym (ap (λ (x : ℕ). get_or froms x 0) k) ∙ z in
            (λ i. row_before (get_or labels (k i) 0) (get_or labels (way_of s (sym b i)) 0)) ∙ l (ap (λ (x : ℕ). dist_of s x) b ∙ (f ∙ ap suc r.0))

    look-stage : Stage More (look froms labels (suc (suc n)) e s)
    look-stage = go (looked froms labels (suc (suc n)) e s)
      where
        go : Looked froms labels (suc (suc n)) e s → Stage More (look froms labels (suc (suc n)) e s)
        go (fresh p q) = rw q (fresh-stage p)
        go (sooner p l q) = rw q (sooner-stage p l)
        go (same p l q) = rw q (same-stage p l)

  looks-stage : (es : List ℕ) → ((e : ℕ) → Memᴰ e es → get_or froms e 0 < place_limit) → Sized s₀ → Stage (λ d. Memᴰ d es) (looks froms labels (suc (suc n)) es s₀)
  unfolding looks
  looks-stage [] h z = stage-none z
  looks-stage (e ∷ es) h z =
      stage-same one two (look froms labels (suc (suc n)) e (looks froms labels (suc (suc n)) es s₀))
      (look-stage (λ d. Memᴰ d es) e (looks froms labels (suc (suc n)) es s₀) (h e (Memᴰ.head refl)) (looks-stage es (λ d m. h d (Memᴰ.tail m)) z))
    where
      one : (d : ℕ) → Memᴰ d es ⊎ (d ≡ e) → Memᴰ d (e ∷ es)
      one d (inl m) = Memᴰ.tail m
      one d (inr q) = Memᴰ.head q

      two : (d : ℕ) → Memᴰ d (e ∷ es) → Memᴰ d es ⊎ (d ≡ e)
      two d (Memᴰ.head q) = inr q
      two d (Memᴰ.tail m) = inl m

-- Layers

module _ (froms tos labels : List ℕ) (count : ℕ) (ends : ℕ → Bool) where
  -- from what is found a walk leads as far as its distance
  pub found-walk : (s : Found) → Exact froms tos labels count ends s → (k q : ℕ) → dist_of s q ≡ suc k → (ns : List ℕ) × Walk froms tos labels count ends q ns × (length ns ≡ k)
  found-walk s x zero q e = ([], x.is_end q e, refl)
  found-walk s x (suc j) q e =
      let o = x.onward q j e in
      let r = found-walk s x j (get_or tos (way_of s q) 0) o.nearer in
      (get_or labels (way_of s q) 0 ∷ r.0, (way_of s q, o.fits, o.from, refl, r.1), ap suc r.2)

  -- the next layer: after a look at each link that leads to one of this
  module _ (n lo : ℕ) (s : Found) (y : Layer froms tos labels count ends n lo s) (z : Sized s) (l : lo < s.tail) (es : List ℕ)
      (those : Those count (λ e. (i : ℕ) × (lo ≤ i) × (i < s.tail) × (get_or tos e 0 ≡ node_at s i)) es) (in_range : (e : ℕ) → e < count → get_or froms e 0 < place_limit) where
    abbrev u : Found
    u = looks froms labels (suc (suc n)) es s

    t : Stage froms labels n s y.bound (λ d. Memᴰ d es) u
    t = looks-stage froms labels n s y.bound es (λ e m. in_range e (those.fit e m)) z

    -- the links looked at are those that lead to this layer

    looked-layer : (e : ℕ) → Memᴰ e es → dist_of s (get_or tos e 0) ≡ suc n
    looked-layer e m = let r = those.only e m in ap (λ (x : ℕ). dist_of s x) r.3 ∙ y.is_layer r.0 r.1 r.2

    layer-looked : (e : ℕ) → e < count → dist_of s (get_or tos e 0) ≡ suc n → Memᴰ e es
    layer-looked e h f = let r = y.is_queued (get_or tos e 0) f in those.all e h (r.0, r.1, r.2, sym r.3)

    -- what is at most this far was found before
    before : (q k : ℕ) → k ≤ n → dist_of u q ≡ suc k → dist_of s q ≡ suc k
    before q k h f = go (zero_or (dist_of s q))
      where
        go : (dist_of s q ≡ 0) ⊎ ((j : ℕ) × (dist_of s q ≡ suc j)) → dist_of s q ≡ suc k
        go (inl e) = absurd (omega (arith, (t.new q k f e).0))
        go (inr e) = e.1 ∙ (sym (t.kept q e.0 e.1).0 ∙ f)

    next-onward : (q j : ℕ) → dist_of u q ≡ suc (suc j) → Onward froms tos labels count ends u q j (way_of u q)
    next-onward q j f = go (zero_or (dist_of s q))
      where
        old : (k : ℕ) → dist_of s q ≡ suc k → Onward froms tos labels count ends s q j (way_of s q) → j < n → Onward froms tos labels count ends u q j (way_of u q)
        old k e o m = rw (t.kept q k e).1 (record {
          fits = o.fits;
          from = o.from;
          nearer = (t.kept (get_or tos (way_of s q) 0) j o.nearer).0;
          first = λ d a b c. o.first d a b (before (get_or tos d 0) j (omega arith) c);
        })

        new : (suc j ≡ suc n) × Foremost froms labels n s y.bound (λ d. Memᴰ d es) q (way_of u q) → Onward froms tos labels count ends u q j (way_of u q)
        new r =
            let e : j ≡ n = omega (arith, r.0) in
            let m = r.1.is in
            record {
              fits = those.fit (way_of u q) m;
              from = r.1.from;
              nearer = (t.kept (get_or tos (way_of u q) 0) n (looked-layer (way_of u q) m)).0 ∙ ap suc (sym e);
              first = λ d a b c. r.1.first d (layer-looked d a (before (get_or tos d 0) n (omega arith) (c ∙ ap suc e))) b;
            }

        go : (dist_of s q ≡ 0) ⊎ ((k : ℕ) × (dist_of s q ≡ suc k)) → Onward froms tos labels count ends u q j (way_of u q)
        go (inl e) = new (t.new q (suc j) f e)
        go (inr e) =
            let g : dist_of s q ≡ suc (suc j) = e.1 ∙ (sym (t.kept q e.0 e.1).0 ∙ f) in
            old e.0 e.1 (y.exact.onward q j g) (omega (arith, y.bound q (suc j) g))

    next-least : (q k : ℕ) → dist_of u q ≡ suc k → (ns : List ℕ) → Walk froms tos labels count ends q ns → k ≤ length ns
    next-least q k f ns w = go (zero_or (dist_of s q))
      where
        go : (dist_of s q ≡ 0) ⊎ ((j : ℕ) × (dist_of s q ≡ suc j)) → k ≤ length ns
        go (inl e) = omega (arith, (t.new q k f e).0, y.beyond q e ns w)
        go (inr e) = y.exact.least q k (e.1 ∙ (sym (t.kept q e.0 e.1).0 ∙ f)) ns w

    -- a walk of one row more than this layer is from a node of the next
    next-beyond : (q : ℕ) → dist_of u q ≡ 0 → (ns : List ℕ) → Walk froms tos labels count ends q ns → suc n < length ns
    next-beyond q f ns w = go ns w (y.beyond q (t.none q f).0 ns w)
      where
        go : (ns : List ℕ) → Walk froms tos labels count ends q ns → n < length ns → suc n < length ns
        go [] w h = absurd (omega arith)
        go (r ∷ ms) w h = next (eqb (length ms) n) refl (zero_or (dist_of s (get_or tos w.0 0)))
          where
            next : (b : Bool) → eqb (length ms) n ≡ b → (dist_of s (get_or tos w.0 0) ≡ 0) ⊎ ((k : ℕ) × (dist_of s (get_or tos w.0 0) ≡ suc k)) → suc n < suc (length ms)
            next false e o = omega (arith, eqb-false (length ms) n e)
            next true e (inl o) = omega (arith, y.beyond (get_or tos w.0 0) o ms w.4, eqb-true (length ms) n e)
            next true e (inr o) =
                let v = found-walk s y.exact o.0 (get_or tos w.0 0) o.1 in
                let a : n < suc (length v.0) = y.beyond q (t.none q f).0 (r ∷ v.0) (w.0, w.1, w.2, w.3, v.1) in
                let k : o.0 ≡ n = omega (arith, v.2, y.bound (get_or tos w.0 0) o.0 o.1) in
                absurd ((t.none q f).1 w.0 (layer-looked w.0 w.1 (o.1 ∙ ap suc k)) w.2)

    pub layer-next : Layer froms tos labels count ends (suc n) s.tail u
    layer-next = record {
      room = t.sized.room;
      exact = record {
        is_end = λ q f. y.exact.is_end q (before q 0 (omega arith) f);
        onward = next-onward;
        least = next-least;
      };
      bound = λ q k f. next-bound q k f (zero_or (dist_of s q));
      beyond = next-beyond;
      fits = t.grows.more;
      few = omega (arith, y.few);
      is_queued = λ q f. t.is_queued q (suc n) f (is-new q f (zero_or (dist_of s q)));
      is_layer = t.is_new;
    }
      where
        next-bound : (q k : ℕ) → dist_of u q ≡ suc k → (dist_of s q ≡ 0) ⊎ ((j : ℕ) × (dist_of s q ≡ suc j)) → k ≤ suc n
        next-bound q k f (inl e) = omega (arith, (t.new q k f e).0)
        next-bound q k f (inr e) = omega (arith, y.bound q e.0 e.1, (t.kept q e.0 e.1).0, f)

        is-new : (q : ℕ) → dist_of u q ≡ suc (suc n) → (dist_of s q ≡ 0) ⊎ ((j : ℕ) × (dist_of s q ≡ suc j)) → dist_of s q ≡ 0
        is-new q f (inl e) = e
        is-new q f (inr e) = absurd (omega (arith, y.bound q e.0 e.1, (t.kept q e.0 e.1).0, f))

  -- the ends are the first layer
  pub layer-first : (s : Found) → Seeded ends s → Layer froms tos labels count ends 0 0 s
  layer-first s e = record {
    room = e.sized.room;
    exact = record {
      is_end = e.is_end;
      onward = λ q j f. absurd (omega (arith, e.only q (suc j) f));
      least = λ q k f ns w. omega (arith, e.only q k f);
    };
    bound = λ q k f. omega (arith, e.only q k f);
    beyond = λ q f ns w. go q f ns w;
    fits = omega arith;
    few = omega arith;
    is_queued = λ q f. (let r = e.is_queued q f in (r.0, omega arith, r.1, r.2));
    is_layer = λ i l h. e.is_seed i h;
  }
    where
      go : (q : ℕ) → dist_of s q ≡ 0 → (ns : List ℕ) → Walk froms tos labels count ends q ns → 0 < length ns
      go q f [] w = absurd (omega (arith, f, e.all q w))
      go q f (r ∷ ns) w = omega arith

  module _ (n lo : ℕ) (s : Found) (y : Layer froms tos labels count ends n lo s) where
    -- where a layer is empty, no walk leads from what wasn't found
    layer-empty : s.tail ≤ lo → (ns : List ℕ) (q : ℕ) → dist_of s q ≡ 0 → Walk froms tos labels count ends q ns → ⊥
    layer-empty l [] q f w = omega (arith, y.beyond q f [] w)
    layer-empty l (r ∷ ns) q f w = go (zero_or (dist_of s (get_or tos w.0 0))) (layer-empty l ns (get_or tos w.0 0))
      where
        go : (dist_of s (get_or tos w.0 0) ≡ 0) ⊎ ((k : ℕ) × (dist_of s (get_or tos w.0 0) ≡ suc k))
            → (dist_of s (get_or tos w.0 0) ≡ 0 → Walk froms tos labels count ends (get_or tos w.0 0) ns → ⊥) → ⊥
        go (inl e) on = on e w.4
        go (inr e) on =
            let v = found-walk s y.exact e.0 (get_or tos w.0 0) e.1 in
            let a : n < suc (length v.0) = y.beyond q f (r ∷ v.0) (w.0, w.1, w.2, w.3, v.1) in
            let k : e.0 ≡ n = omega (arith, v.2, y.bound (get_or tos w.0 0) e.0 e.1) in
            let i = y.is_queued (get_or tos w.0 0) (e.1 ∙ ap suc k) in
            omega (arith, i.1, i.2)

    low : n ≤ place_limit
    low = omega (arith, y.few, y.fits, y.room.few)

    -- the search ends at its limit, or where a layer is empty

    pub spread-far : (limit : ℕ) → limit ≡ n → Spread froms tos labels count ends limit s
    spread-far limit e = record {
      exact = y.exact;
      bound = λ q k f. omega (arith, y.bound q k f, low);
      near = λ q k f. omega (arith, y.bound q k f);
      beyond = λ q f ns w. omega (arith, y.beyond q f ns w);
      exhausted = λ h. absurd (omega (arith, low));
    }

    pub spread-all : (limit : ℕ) → n ≤ limit → s.tail ≤ lo → Spread froms tos labels count ends limit s
    spread-all limit e l = record {
      exact = y.exact;
      bound = λ q k f. omega (arith, y.bound q k f, low);
      near = λ q k f. omega (arith, y.bound q k f);
      beyond = λ q f ns w. absurd (layer-empty l ns q f w);
      exhausted = λ h q f ns w. layer-empty l ns q f w;
    }

-- A look, by its steps: a is the node that the link leads from

module _ (froms labels dists ways queue : List ℕ) (layer e tail a : ℕ) (is : a ≡ get_or froms e 0) where
  at-node : (d : ℕ) → get_or dists a 0 ≡ d → get_or dists (get_or froms e 0) 0 ≡ d
  at-node d h = ap (λ (x : ℕ). get_or dists x 0) (sym is) ∙ h

  pub look-fresh : get_or dists a 0 ≡ 0 → found (set dists a layer) (set ways a e) (set queue tail a) (tail + 1) ≡ look froms labels layer e (found dists ways queue tail)
  unfolding look
  look-fresh h = rw (is, at-node 0 h, look) refl

  look-same : (get_or dists a 0 ≡ 0 → ⊥) → (get_or dists a 0 ≡ layer → row_before (get_or labels e 0) (get_or labels (get_or ways a 0) 0) ≡ false)
      → found dists ways queue tail ≡ look froms labels layer e (found dists ways queue tail)
  look-same n l = go (looked froms labels layer e (found dists ways queue tail))
    where
      go : Looked froms labels layer e (found dists ways queue tail) → found dists ways queue tail ≡ look froms labels layer e (found dists ways queue tail)
      go (fresh p q) = absurd (n (ap (λ (x : ℕ). get_or dists x 0) is ∙ p))
      go (sooner p m q) = absurd (false≢true (sym (l (ap (λ (x : ℕ). get_or dists x 0) is ∙ p)) ∙ (ap (λ (x : ℕ). row_before (get_or labels e 0) (get_or labels (get_or ways x 0) 0)) is ∙ m)))
      go (same p m q) = sym q

  pub look-old : (get_or dists a 0 ≡ 0 → ⊥) → (get_or dists a 0 ≡ layer → ⊥) → found dists ways queue tail ≡ look froms labels layer e (found dists ways queue tail)
  look-old n l = look-same n (λ q. absurd (l q))

  -- x is the link's row, and y that of the link w that is kept

  rows_same : {x y w : ℕ} → x ≡ get_or labels e 0 → y ≡ get_or labels w 0 → w ≡ get_or ways a 0 → row_before x y ≡ row_before (get_or labels e 0) (get_or labels (get_or ways a 0) 0)
  rows_same i j k = λ t. row_before (i t) ((j ∙ ap (λ (x : ℕ). get_or labels x 0) k) t)

  pub look-sooner : {x y w : ℕ} → x ≡ get_or labels e 0 → y ≡ get_or labels w 0 → w ≡ get_or ways a 0 → (get_or dists a 0 ≡ 0 → ⊥) → get_or dists a 0 ≡ layer → row_before x y ≡ true
      → found dists (set ways a e) queue tail ≡ look froms labels layer e (found dists ways queue tail)
  look-sooner i j k n h l = go (looked froms labels layer e (found dists ways queue tail))
    where
      go : Looked froms labels layer e (found dists ways queue tail) → found dists (set ways a e) queue tail ≡ look froms labels layer e (found dists ways queue tail)
      go (fresh p q) = absurd (n (ap (λ (x : ℕ). get_or dists x 0) is ∙ p))
      go (sooner p m q) = (λ i. found dists (set ways (is i) e) queue tail) ∙ sym q
      go (same p m q) = absurd (false≢true (sym (m (at-node layer h)) ∙ (sym (ap (λ (x : ℕ). row_before (get_or labels e 0) (get_or labels (get_or ways x 0) 0)) is) ∙ (sym (rows_same i j k) ∙ l))))

  pub look-later : {x y w : ℕ} → x ≡ get_or labels e 0 → y ≡ get_or labels w 0 → w ≡ get_or ways a 0 → (get_or dists a 0 ≡ 0 → ⊥) → row_before x y ≡ false
      → found dists ways queue tail ≡ look froms labels layer e (found dists ways queue tail)
  look-later i j k n l = look-same n (λ _. sym (rows_same i j k) ∙ l)

-- Bad classes, by the steps of their test

module _ (aboves : List ℕ) (stamp c d : ℕ) where
  pub bad-one : (only : Bool) → c ≡ d → bad_in only aboves stamp c d ≡ false
  unfolding bad_in
  bad-one true e = ap not (eq-eqb c d e)
  bad-one false e = ap not (above_same aboves stamp c d e)

  pub bad-other : (only : Bool) → only ≡ true → (c ≡ d → ⊥) → bad_in only aboves stamp c d ≡ true
  unfolding bad_in
  bad-other only h n = rw (h, bad_in) (ap not (ne_eqb c d n))

  pub bad-marked : (only : Bool) → only ≡ false → (c ≡ d → ⊥) → bad_in only aboves stamp c d ≡ not (eqb (get_or aboves d 0) stamp)
  unfolding bad_in
  bad-marked only h n = rw (h, bad_in) (ap not (above_other aboves stamp c d n))

-- The links that lead to a node, looked at from the last on: those from `follow` on were

module _ (froms tos labels : List ℕ) (count layer node : ℕ) (s₀ : Found) where
  pub record Looking (follow : ℕ) (s : Found) : Type 0 where
    pub links : List ℕ
    pub high : follow ≤ count
    pub here : (e : ℕ) → follow ≡ suc e → get_or tos e 0 ≡ node
    pub fit : (e : ℕ) → Memᴰ e links → e < count
    pub only : (e : ℕ) → Memᴰ e links → get_or tos e 0 ≡ node
    pub all : (e : ℕ) → follow ≤ e → e < count → get_or tos e 0 ≡ node → Memᴰ e links
    pub is : s ≡ looks froms labels layer links s₀

  -- a key of the list is where the link leads
  key : (e : ℕ) → start_of tos 0 e ≡ get_or tos e 0
  unfolding start_of
  key e = let z : 0 + e ≡ e = omega arith in ap (λ (x : ℕ). get_or tos x 0) z

  pub looking-none : {f : ℕ} → Last (start_of tos 0) node count f → Looking f s₀
  unfolding looks
  looking-none l = record {
    links = [];
    high = l.high;
    here = λ e q. sym (key e) ∙ l.here e q;
    fit = λ e m. absurd (Memᴰ.not-nil m);
    only = λ e m. absurd (Memᴰ.not-nil m);
    all = λ e h k q. absurd (l.none e h k (key e ∙ q));
    is = refl;
  }

  pub looking-one : {f g e : ℕ} (s u : Found) → f ≡ suc e → Last (start_of tos 0) (start_of tos 0 e) e g → Looking f s → u ≡ look froms labels layer e s → Looking g u
  unfolding looks
  looking-one {f} {g} {e} s u i l k q = record {
    links = e ∷ k.links;
    high = omega (arith, l.high, k.high);
    here = λ d r. sym (key d) ∙ (l.here d r ∙ (key e ∙ k.here e i));
    fit = λ d m. fits d m;
    only = λ d m. onlys d m;
    all = λ d h b r. alls d h b r (order d e);
    is = q ∙ ap (λ (x : Found). look froms labels layer e x) k.is;
  }
    where
      fits : (d : ℕ) → Memᴰ d (e ∷ k.links) → d < count
      fits d (Memᴰ.head r) = omega (arith, k.high)
      fits d (Memᴰ.tail m) = k.fit d m

      onlys : (d : ℕ) → Memᴰ d (e ∷ k.links) → get_or tos d 0 ≡ node
      onlys d (Memᴰ.head r) = ap (λ (x : ℕ). get_or tos x 0) r ∙ k.here e i
      onlys d (Memᴰ.tail m) = k.only d m

      alls : (d : ℕ) → g ≤ d → d < count → get_or tos d 0 ≡ node → Order d e → Memᴰ d (e ∷ k.links)
      alls d h b r (less o) = absurd (l.none d h o (key d ∙ (r ∙ (sym (k.here e i) ∙ sym (key e)))))
      alls d h b r (equal o) = Memᴰ.head o
      alls d h b r (more o) = Memᴰ.tail (k.all d (omega arith) b r)

  -- what is found meanwhile has its size
  pub looking-sized : {f : ℕ} (s : Found) → 0 < layer → ((e : ℕ) → e < count → get_or froms e 0 < place_limit) → Sized s₀ → Looking f s → Sized s
  looking-sized s l h z k = rw k.is (looks-sized froms labels layer k.links s₀ l (λ e m. h e (k.fit e m)) z).0

-- The nodes of one layer, looked back from one after another: those before place i were

module _ (froms tos labels : List ℕ) (count layer low : ℕ) (s₀ : Found) where
  pub record Backward (i : ℕ) (s : Found) : Type 0 where
    pub links : List ℕ
    pub those : Those count (λ e. (j : ℕ) × (low ≤ j) × (j < i) × (get_or tos e 0 ≡ node_at s₀ j)) links
    pub is : s ≡ looks froms labels layer links s₀

  pub backward-none : Backward low s₀
  unfolding looks
  backward-none = record {
    links = [];
    those = record { fit = λ e m. absurd (Memᴰ.not-nil m); only = λ e m. absurd (Memᴰ.not-nil m); all = λ e h q. absurd (omega (arith, q.1, q.2)) };
    is = refl;
  }

  looks_on : (es ds : List ℕ) (s : Found) → looks froms labels layer (es ++ ds) s ≡ looks froms labels layer es (looks froms labels layer ds s)
  unfolding looks
  looks_on [] ds s = refl
  looks_on (e ∷ es) ds s = ap (λ (x : Found). look froms labels layer e x) (looks_on es ds s)

  pub backward-one : (i node : ℕ) (s u : Found) → low ≤ i → node ≡ node_at s₀ i → Backward i s
      → (es : List ℕ) × Those count (λ e. get_or tos e 0 ≡ node) es × (u ≡ looks froms labels layer es s) → Backward (i + 1) u
  backward-one i node s u l n b o = record {
    links = o.0 ++ b.links;
    those = record { fit = λ e m. fits e (Memᴰ.append_cases o.0 m); only = λ e m. onlys e (Memᴰ.append_cases o.0 m); all = λ e h q. alls e h q (eqb q.0 i) refl };
    is = o.2 ∙ (ap (λ (x : Found). looks froms labels layer o.0 x) b.is ∙ sym (looks_on o.0 b.links s₀));
  }
    where
      fits : (e : ℕ) → Memᴰ e o.0 ⊎ Memᴰ e b.links → e < count
      fits e (inl m) = o.1.fit e m
      fits e (inr m) = b.those.fit e m

      onlys : (e : ℕ) → Memᴰ e o.0 ⊎ Memᴰ e b.links → (j : ℕ) × (low ≤ j) × (j < i + 1) × (get_or tos e 0 ≡ node_at s₀ j)
      onlys e (inl m) = (i, l, omega arith, o.1.only e m ∙ n)
      onlys e (inr m) = let r = b.those.only e m in (r.0, r.1, omega (arith, r.2), r.3)

      alls : (e : ℕ) → e < count → (q : (j : ℕ) × (low ≤ j) × (j < i + 1) × (get_or tos e 0 ≡ node_at s₀ j)) → (t : Bool) → eqb q.0 i ≡ t → Memᴰ e (o.0 ++ b.links)
      alls e h q true r = Memᴰ.append_left b.links (o.1.all e h (q.3 ∙ (ap (λ (x : ℕ). node_at s₀ x) (eqb-true q.0 i r) ∙ sym n)))
      alls e h q false r = Memᴰ.append_right o.0 (b.those.all e h (q.0, q.1, omega (arith, q.2, eqb-false q.0 i r), q.3))

  module _ (i : ℕ) (s : Found) (l : 0 < layer) (h : (e : ℕ) → e < count → get_or froms e 0 < place_limit) (z : Sized s₀) (b : Backward i s) where
    both : Sized (looks froms labels layer b.links s₀) × Grows s₀ (looks froms labels layer b.links s₀)
    both = looks-sized froms labels layer b.links s₀ l (λ e m. h e (b.those.fit e m)) z

    pub backward-sized : Sized s
    backward-sized = rw b.is both.0

    -- the layer's own nodes stand where they stood
    pub backward-node : (j : ℕ) → j < s₀.tail → node_at s j ≡ node_at s₀ j
    backward-node j k = ap (λ (x : Found). node_at x j) b.is ∙ both.1.old j k

    pub backward-tail : s₀.tail ≤ s.tail
    backward-tail = omega (arith, both.1.more, ap (λ (x : Found). x.tail) b.is)

-- The search, layer after layer: n of them, the last of which is queued from `low` on

module _ (froms tos labels : List ℕ) (count limit : ℕ) (s₀ : Found) where
  pub record Spreads (n low : ℕ) (s : Found) : Type 0 where
    pub fits : low ≤ s.tail
    pub few : n ≤ low
    pub near : n ≤ limit
    pub sized : Sized s
    pub layer : (ends : ℕ → Bool) → Seeded ends s₀ → Layer froms tos labels count ends n low s

  pub spreads-first : Sized s₀ → Spreads 0 0 s₀
  spreads-first z = record { fits = omega arith; few = omega arith; near = omega arith; sized = z; layer = λ ends e. layer-first froms tos labels count ends s₀ e }

  pub spreads-next : (n low high : ℕ) (s u : Found) → high ≡ s.tail → ((e : ℕ) → e < count → get_or froms e 0 < place_limit) → Spreads n low s → low < high → n < limit
      → (es : List ℕ) × Those count (λ e. (j : ℕ) × (low ≤ j) × (j < high) × (get_or tos e 0 ≡ node_at s j)) es × (u ≡ looks froms labels (n + 2) es s)
      → Spreads (n + 1) high u
  spreads-next n low high s u i h k l m o =
      let two : n + 2 ≡ suc (suc n) = omega arith in
      let one : n + 1 ≡ suc n = omega arith in
      let is : u ≡ looks froms labels (suc (suc n)) o.0 s = o.2 ∙ ap (λ (x : ℕ). looks froms labels x o.0 s) two in
      rw (one, is, i) (made (rw i at o.1) (rw i at l))
    where
      made : Those count (λ e. (j : ℕ) × (low ≤ j) × (j < s.tail) × (get_or tos e 0 ≡ node_at s j)) o.0 → low < s.tail → Spreads (suc n) s.tail (looks froms labels (suc (suc n)) o.0 s)
      made t l =
          let b = looks-sized froms labels (suc (suc n)) o.0 s (omega arith) (λ e z. h e (t.fit e z)) k.sized in
          record {
            fits = b.1.more;
            few = omega (arith, k.few);
            near = omega arith;
            sized = b.0;
            layer = λ ends e. layer-next froms tos labels count ends n low s (k.layer ends e) k.sized l o.0 t h;
          }

  pub spreads-far : (n low : ℕ) (s : Found) → Spreads n low s → limit ≤ n → (ends : ℕ → Bool) → Seeded ends s₀
      → (r : ℕ) × Spread froms tos labels count ends limit (found s.dists s.ways s.queue r)
  spreads-far n low s k l ends e = (s.tail, spread-far froms tos labels count ends n low s (k.layer ends e) limit (omega (arith, k.near)))

  pub spreads-all : (n low : ℕ) (s : Found) → Spreads n low s → s.tail ≤ low → (ends : ℕ → Bool) → Seeded ends s₀
      → (r : ℕ) × Spread froms tos labels count ends limit (found s.dists s.ways s.queue r)
  spreads-all n low s k l ends e = (s.tail, spread-all froms tos labels count ends n low s (k.layer ends e) limit k.near l)

-- The ends, found one after another

module _ (only : Bool) (aboves : List ℕ) (stamp : ℕ) (classes : List ℕ) (c : ℕ) where
  abbrev ends_to : ℕ → ℕ → Bool
  ends_to n q = ends_in only aboves stamp classes n c q

  ends-true : (n q : ℕ) → ends_in only aboves stamp classes n c q ≡ true → (q < n) × (bad_in only aboves stamp c (get_or classes q 0) ≡ true)
  unfolding ends_in
  ends-true n q h = let r = both_true (ltb q n) (bad_in only aboves stamp c (get_or classes q 0)) h in (ltb-true q n r.0, r.1)

  true-ends : (n q : ℕ) → q < n → bad_in only aboves stamp c (get_or classes q 0) ≡ true → ends_in only aboves stamp classes n c q ≡ true
  unfolding ends_in
  true-ends n q h b = rw (lt-ltb q n h, b) refl

  pub seeded-none : (dists ways queue : List ℕ) → Zeroed dists → length queue ≡ place_limit → length ways ≡ place_limit → Seeded (ends_to 0) (found dists ways queue 0)
  seeded-none dists ways queue z l w = record {
    sized = record { room = record { dists_long = z.long; ways_long = w; queue_long = l; few = omega (arith, z.none) }; nodes = λ i h. absurd (omega arith) };
    is_end = λ q e. absurd (omega (arith, e, z.zeros q));
    all = λ q e. absurd (omega (arith, (ends-true 0 q e).0));
    only = λ q k e. absurd (omega (arith, e, z.zeros q));
    is_queued = λ q e. absurd (omega (arith, e, z.zeros q));
    is_seed = λ i h. absurd (omega arith);
  }

  -- a class that isn't bad ends no walk
  pub seeded-skip : (q : ℕ) (s : Found) → bad_in only aboves stamp c (get_or classes q 0) ≡ false → Seeded (ends_to q) s → Seeded (ends_to (q + 1)) s
  seeded-skip q s b e = record {
    sized = e.sized;
    is_end = λ x f. (let r = ends-true q x (e.is_end x f) in true-ends (q + 1) x (omega (arith, r.0)) r.1);
    all = λ x f. (let r = ends-true (q + 1) x f in e.all x (true-ends q x (below x r.0 r.1) r.1));
    only = e.only;
    is_queued = e.is_queued;
    is_seed = e.is_seed;
  }
    where
      below : (x : ℕ) → x < q + 1 → bad_in only aboves stamp c (get_or classes x 0) ≡ true → x < q
      below x h f = omega (arith, h, other)
        where
          other : x ≡ q → ⊥
          other r = false≢true (sym b ∙ (ap (λ (y : ℕ). bad_in only aboves stamp c (get_or classes y 0)) (sym r) ∙ f))

  module _ (q : ℕ) (s : Found) (h : q < place_limit) (b : bad_in only aboves stamp c (get_or classes q 0) ≡ true) (e : Seeded (ends_to q) s) where
    fresh-end : dist_of s q ≡ 0
    fresh-end = elim (zero_or (dist_of s q)) [ inl z ↦ z | inr z ↦ absurd (omega (arith, (ends-true q q (e.is_end q (z.1 ∙ ap suc (e.only q z.0 z.1)))).0)) ]

    left : s.tail < place_limit
    left = omega (arith, e.sized.room.few, unmarked s.dists q 1 (omega (arith, e.sized.room.dists_long)) fresh-end (omega arith))

    dist : (x : ℕ) → Written s.dists q 1 x
    dist x = written s.dists q 1 x (omega (arith, e.sized.room.dists_long))

    node : (i : ℕ) → Written s.queue s.tail q i
    node i = written s.queue s.tail q i (omega (arith, left, e.sized.room.queue_long))

    pub seeded-one : Seeded (ends_to (q + 1)) (found (set s.dists q 1) s.ways (set s.queue s.tail q) (s.tail + 1))
    seeded-one = record {
      sized = record {
        room = record {
          dists_long = length-set s.dists q 1 ∙ e.sized.room.dists_long;
          ways_long = e.sized.room.ways_long;
          queue_long = length-set s.queue s.tail q ∙ e.sized.room.queue_long;
          few = omega (arith, e.sized.room.few, unmarked s.dists q 1 (omega (arith, e.sized.room.dists_long)) fresh-end (omega arith));
        };
        nodes = λ i k. nodes i k (node i);
      };
      is_end = λ x f. ends x f (dist x);
      all = λ x f. alls x (ends-true (q + 1) x f) (dist x);
      only = λ x k f. onlys x k f (dist x);
      is_queued = λ x f. queues x f (dist x);
      is_seed = λ i k. seeds i k (node i);
    }
      where
        nodes : (i : ℕ) → i < s.tail + 1 → Written s.queue s.tail q i → get_or (set s.queue s.tail q) i 0 < place_limit
        nodes i k (here r w) = omega (arith, w)
        nodes i k (there r w) = omega (arith, w, e.sized.nodes i (omega (arith, k, r)))

        ends : (x : ℕ) → get_or (set s.dists q 1) x 0 ≡ 1 → Written s.dists q 1 x → ends_to (q + 1) x ≡ true
        ends x f (here r w) = true-ends (q + 1) x (omega arith) (ap (λ (y : ℕ). bad_in only aboves stamp c (get_or classes y 0)) r ∙ b)
        ends x f (there r w) = let o = ends-true q x (e.is_end x (sym w ∙ f)) in true-ends (q + 1) x (omega (arith, o.0)) o.1

        alls : (x : ℕ) → (x < q + 1) × (bad_in only aboves stamp c (get_or classes x 0) ≡ true) → Written s.dists q 1 x → get_or (set s.dists q 1) x 0 ≡ 1
        alls x o (here r w) = w
        alls x o (there r w) = w ∙ e.all x (true-ends q x (omega (arith, o.0, r)) o.1)

        onlys : (x k : ℕ) → get_or (set s.dists q 1) x 0 ≡ suc k → Written s.dists q 1 x → k ≡ 0
        onlys x k f (here r w) = omega (arith, f, w)
        onlys x k f (there r w) = e.only x k (sym w ∙ f)

        queues : (x : ℕ) → get_or (set s.dists q 1) x 0 ≡ 1 → Written s.dists q 1 x → (i : ℕ) × (i < s.tail + 1) × (get_or (set s.queue s.tail q) i 0 ≡ x)
        queues x f (here r w) = (s.tail, omega arith, get_or-set_same s.queue s.tail q 0 (omega (arith, left, e.sized.room.queue_long)) ∙ sym r)
        queues x f (there r w) = let o = e.is_queued x (sym w ∙ f) in (o.0, omega (arith, o.1), get_or-set_other s.queue s.tail o.0 q 0 (λ z. omega (arith, o.1)) ∙ o.2)

        seeds : (i : ℕ) → i < s.tail + 1 → Written s.queue s.tail q i → get_or (set s.dists q 1) (get_or (set s.queue s.tail q) i 0) 0 ≡ 1
        seeds i k (here r w) = ap (λ (x : ℕ). get_or (set s.dists q 1) x 0) w ∙ get_or-set_same s.dists q 1 0 (omega (arith, e.sized.room.dists_long))
        seeds i k (there r w) = ap (λ (x : ℕ). get_or (set s.dists q 1) x 0) w ∙ found-is (dist (node_at s i))
          where
            found-is : Written s.dists q 1 (node_at s i) → get_or (set s.dists q 1) (node_at s i) 0 ≡ 1
            found-is (here a b) = b
            found-is (there a b) = b ∙ e.is_seed i (omega (arith, k, r))

  -- whatever the links are that lead on
  abbrev pub Seeds : ℕ → List ℕ → List ℕ → ℕ → Type 0
  Seeds n dists queue tail = (ways : List ℕ) → length ways ≡ place_limit → Seeded (ends_to n) (found dists ways queue tail)

  pub seeds-next : (q : ℕ) (dists queue dists' queue' : List ℕ) (tail tail' : ℕ) → q < place_limit → Seeds q dists queue tail
      → ((ways : List ℕ) → found dists' ways queue' tail' ≡ seed_one (bad_in only aboves stamp c (get_or classes q 0)) q (found dists ways queue tail))
      → Seeds (q + 1) dists' queue' tail'
  unfolding seed_one
  seeds-next q dists queue dists' queue' tail tail' h e f ways l = rw (f ways) (go (bad_in only aboves stamp c (get_or classes q 0)) refl)
    where
      go : (t : Bool) → bad_in only aboves stamp c (get_or classes q 0) ≡ t → Seeded (ends_to (q + 1)) (seed_one t q (found dists ways queue tail))
      go true b = seeded-one q (found dists ways queue tail) h b (e ways l)
      go false b = seeded-skip q (found dists ways queue tail) b (e ways l)

  pub seeds-end : (n q : ℕ) (dists queue : List ℕ) (tail : ℕ) → q ≤ n → n ≤ q → Seeds q dists queue tail → Seeds n dists queue tail
  seeds-end n q dists queue tail l h e = let z : q ≡ n = omega arith in rw (sym z) e

-- One end, by the steps of its test: r is whether the class is bad

module _ (only : Bool) (aboves : List ℕ) (stamp c x y q : ℕ) (s : Found) (is : x ≡ y) (r : Bool) (test : r ≡ bad_in only aboves stamp c x) where
  pub seed-not : r ≡ false → s ≡ seed_one (bad_in only aboves stamp c y) q s
  unfolding seed_one
  seed-not h = rw (sym is, sym test, h, seed_one) refl

  pub seed-put : r ≡ true → found (set s.dists q 1) s.ways (set s.queue s.tail q) (s.tail + 1) ≡ seed_one (bad_in only aboves stamp c y) q s
  unfolding seed_one
  seed-put h = rw (sym is, sym test, h, seed_one) refl
