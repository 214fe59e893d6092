-- The chain that is kept. Each chain that a search leaves is a walk, and of the walks from its node none is shorter or, being as long, goes before it. Of those
-- and what was held before, the one that is kept is no worse than any; and so for every class, one after the other.
use mathlib.Core.Path.{◌≡◌, refl, sym, ap, subst, ◌∙◌}
use mathlib.Core.Bool.{Bool, true, false}
use mathlib.Core.Option.{Option, none, some, some-injective}
use mathlib.Core.List.{List, [], ◌∷◌, ◌++◌, append_assoc, append-nil}
use mathlib.Core.Logic.{◌⊎◌, inl, inr}
use Prim.Native.Nat.{ℕ, zero, suc, ◌+◌, ◌-◌, ◌<◌, ◌≤◌}
use native.Mathlib.Nat.{eq-or-lt_of_le}
use native.Mathlib.Numerals.{add-one}
use native.Mathlib.Omega.{arith}
use lib.ListN.{length, get_or, set, replicate, length-replicate}
use lib.Seq.{get_or-set_same, get_or-set_other}
use lib.Dec.{eqb, ltb}
use borrow.Author.Tests.{eqb-true, eqb-false, eq-eqb, ne_eqb, ltb-true, ltb-false, lt-ltb, le-ltb}
use Rattle.definition.specs.Lists.{rows}
use Rattle.definition.specs.Superclasses.{Falls}
use Rattle.definition.specs.Reasons.{precedes}
use Rattle.laws.specs.Earlier.{row_before, row-order, later-head, same_head, not_itself, not-before-on, before-not}
use Rattle.layout.specs.Places.{rows-length, rows_step, rows_none, rows_last, rows-cong}
use Rattle.std.specs.Prelude as P
use Rattle.constraints.specs.Nodes.{place_limit}
use Rattle.constraints.specs.Walks.{Found, dist_of, way_of, Walk, Onward, Exact, Spread, Sole, trail, bad_in, ends_in, bad_over, ends_over, Zeroed, InRange}
use Rattle.constraints.specs.Choosing.{held, pick, considered, considered_all, NoBetter, ChosenFor, WalkFrom}
use Rattle.constraints.specs.Search.{start_of, marked}
use Rattle.constraints.specs.Upward.{Raised}
use Rattle.constraints.proofs.Marking.{stamped-none}
use Rattle.constraints.proofs.Supers.{above-below}

-- lists with the same first go by the rest
same_first : (m n : ℕ) (ms ns : List ℕ) → row_before m n ≡ false → row_before n m ≡ false → precedes row_before (m ∷ ms) (n ∷ ns) ≡ precedes row_before ms ns
unfolding precedes
same_first m n ms ns h l = rw (h, precedes) (rw l refl)

-- The rows of the links that lead on

module _ (tos labels ways : List ℕ) where
  trail-length : (k q : ℕ) → length (trail tos labels ways k q) ≡ k
  unfolding trail
  trail-length zero q = refl
  trail-length (suc k) q = ap suc (trail-length k (get_or tos (get_or ways q 0) 0))

  trail-step : (k i q way row : ℕ) → i < k → way ≡ get_or ways q 0 → row ≡ get_or labels way 0
      → trail tos labels ways (k - i) q ≡ row ∷ trail tos labels ways (k - (i + 1)) (get_or tos way 0)
  unfolding trail
  trail-step k i q way row h e f = let z : k - i ≡ suc (k - (i + 1)) = omega arith in rw (f, e, z)

  trail-none : (k i q : ℕ) → k ≤ i → trail tos labels ways (k - i) q ≡ []
  unfolding trail
  trail-none k i q h = let z : k - i ≡ 0 = omega arith in rw z

  trail-start : (k q : ℕ) → trail tos labels ways (k - 0) q ≡ trail tos labels ways k q
  trail-start k q = let z : k - 0 ≡ k = omega arith in rw z

  -- compared with the first cells of a table, from place i on
  module _ (best : List ℕ) (k : ℕ) where
    unfoldable pub goes_on : ℕ → ℕ → Bool
    goes_on i q = precedes row_before (trail tos labels ways (k - i) q) (rows (λ j. get_or best j 0) (k - i) i)

    pub goes-start : (q : ℕ) → goes_on 0 q ≡ precedes row_before (trail tos labels ways k q) (rows (λ j. get_or best j 0) k 0)
    unfolding goes_on
    goes-start q = let z : k - 0 ≡ k = omega arith in rw z

    pub goes_none : (i q : ℕ) → k ≤ i → goes_on i q ≡ false
    unfolding goes_on precedes
    goes_none i q h = rw (trail-none k i q h, rows_none (λ j. get_or best j 0) k i h)

    module _ (i q way row kept : ℕ) (h : i < k) (is_way : way ≡ get_or ways q 0) (is_row : row ≡ get_or labels way 0) (is_kept : kept ≡ get_or best i 0) where
      goes_step : goes_on i q ≡ precedes row_before (row ∷ trail tos labels ways (k - (i + 1)) (get_or tos way 0)) (kept ∷ rows (λ j. get_or best j 0) (k - (i + 1)) (i + 1))
      unfolding goes_on
      goes_step = rw (trail-step k i q way row h is_way is_row, rows_step (λ j. get_or best j 0) k i h, is_kept)

      pub goes_before : row_before row kept ≡ true → goes_on i q ≡ true
      unfolding precedes
      goes_before l = goes_step ∙ rw (l, precedes)

      pub goes_after : row_before kept row ≡ true → goes_on i q ≡ false
      goes_after l = goes_step ∙ later-head row-order row kept (trail tos labels ways (k - (i + 1)) (get_or tos way 0)) (rows (λ j. get_or best j 0) (k - (i + 1)) (i + 1)) l

      pub goes-on : (next : ℕ) → next ≡ get_or tos way 0 → row_before row kept ≡ false → row_before kept row ≡ false → goes_on (i + 1) next ≡ goes_on i q
      unfolding goes_on
      goes-on next e l m = rw e (sym (goes_step ∙ same_first row kept (trail tos labels ways (k - (i + 1)) (get_or tos way 0)) (rows (λ j. get_or best j 0) (k - (i + 1)) (i + 1)) l m))

  -- written into the first cells of a table, i of them so far
  module _ (k node : ℕ) where
    abbrev pub Written : List ℕ → ℕ → ℕ → Type 0
    Written best i q = rows (λ j. get_or best j 0) i 0 ++ trail tos labels ways (k - i) q ≡ trail tos labels ways k node

    pub written_none : (best : List ℕ) → Written best 0 node
    unfolding rows
    written_none best = trail-start k node

    pub written_all : (best : List ℕ) (i q : ℕ) → i ≤ k → k ≤ i → Written best i q → rows (λ j. get_or best j 0) k 0 ≡ trail tos labels ways k node
    written_all best i q h l w =
        let z : i ≡ k = omega arith in
        rw (z, append-nil (rows (λ j. get_or best j 0) k 0)) at (rw (trail-none k i q l) at w)

    one_more : (best : List ℕ) (i row : ℕ) → i < length best → rows (λ j. get_or (set best i row) j 0) (i + 1) 0 ≡ rows (λ j. get_or best j 0) i 0 ++ (row ∷ [])
    one_more best i row h =
        let z : 0 + i ≡ i = omega arith in
        rw (add-one i, rows_last (λ j. get_or (set best i row) j 0) i 0, z, get_or-set_same best i row 0 h)
        (ap (λ (l : List ℕ). l ++ (row ∷ [])) (rows-cong (λ j. get_or (set best i row) j 0) (λ j. get_or best j 0) i 0 (λ m l o. get_or-set_other best i m row 0 (λ e. omega arith))))

    pub written-more : (best : List ℕ) (i q way row next : ℕ) → i < k → i < length best → way ≡ get_or ways q 0 → row ≡ get_or labels way 0 → next ≡ get_or tos way 0
        → Written best i q → Written (set best i row) (i + 1) next
    written-more best i q way row next h l is_way is_row is_next w =
        rw (is_next, one_more best i row l, append_assoc (rows (λ j. get_or best j 0) i 0) (row ∷ []) (trail tos labels ways (k - (i + 1)) (get_or tos way 0)))
        (rw (trail-step k i q way row h is_way is_row) at w)

-- Of walks, over what a search leaves

module _ (froms tos labels : List ℕ) (count : ℕ) (ends : ℕ → Bool) (s : Found) (exact : Exact froms tos labels count ends s) where
  -- the rows that lead on are a walk
  trail-walk : (k q : ℕ) → dist_of s q ≡ suc k → Walk froms tos labels count ends q (trail tos labels s.ways k q)
  unfolding trail
  trail-walk zero q e = exact.is_end q e
  trail-walk (suc k) q e = let o = exact.onward q k e in (way_of s q, o.fits, o.from, refl, trail-walk k (get_or tos (way_of s q) 0) o.nearer)

  module _ (sole : Sole froms tos labels count) (limit : ℕ) (near : (q k : ℕ) → dist_of s q ≡ suc k → k ≤ limit)
      (beyond : (q : ℕ) → dist_of s q ≡ 0 → (ns : List ℕ) → Walk froms tos labels count ends q ns → limit < length ns) where
    -- where a link leads that starts a walk of a node's distance is one nearer
    next-dist : (q j d : ℕ) (ns : List ℕ) → dist_of s q ≡ suc (suc j) → d < count → get_or froms d 0 ≡ q → Walk froms tos labels count ends (get_or tos d 0) ns → length ns ≡ j
        → dist_of s (get_or tos d 0) ≡ suc j
    next-dist q j d ns e h f w l = go (dist_of s (get_or tos d 0)) refl
      where
        go : (x : ℕ) → dist_of s (get_or tos d 0) ≡ x → dist_of s (get_or tos d 0) ≡ suc j
        go zero z = absurd (omega (arith, near q (suc j) e, beyond (get_or tos d 0) z ns w))
        go (suc m) z =
            let low : m ≤ length ns = exact.least (get_or tos d 0) m z ns w in
            let high : suc j ≤ suc (length (trail tos labels s.ways m (get_or tos d 0))) = exact.least q (suc j) e (get_or labels d 0 ∷ trail tos labels s.ways m (get_or tos d 0)) (d, h, f, refl, trail-walk m (get_or tos d 0) z) in
            let same : m ≡ j = omega (arith, trail-length tos labels s.ways m (get_or tos d 0)) in
            z ∙ ap suc same

    -- no walk of a node's distance goes before them
    trail-first : (ms : List ℕ) (q k : ℕ) → dist_of s q ≡ suc k → Walk froms tos labels count ends q ms → length ms ≡ k → precedes row_before ms (trail tos labels s.ways k q) ≡ false
    unfolding trail precedes
    trail-first [] q zero e w l = refl
    trail-first [] q (suc k) e w l = absurd (omega arith)
    trail-first (r ∷ ms) q zero e w l = absurd (omega arith)
    trail-first (r ∷ ms) q (suc j) e (d, h, f, g, w) l =
        go (row_before row r) refl (trail-first ms (get_or tos d 0) j dist w (omega arith))
      where
        o : Onward froms tos labels count ends s q j (way_of s q)
        o = exact.onward q j e

        dist : dist_of s (get_or tos d 0) ≡ suc j
        dist = next-dist q j d ms e h f w (omega arith)

        row : ℕ
        row = get_or labels (way_of s q) 0

        go : (t : Bool) → row_before row r ≡ t → precedes row_before ms (trail tos labels s.ways j (get_or tos d 0)) ≡ false → precedes row_before (r ∷ ms) (row ∷ trail tos labels s.ways j (get_or tos (way_of s q) 0)) ≡ false
        go false a b =
            let equal : row ≡ r = row-order.total row r a (rw g at (o.first d h f dist)) in
            let same : get_or tos (way_of s q) 0 ≡ get_or tos d 0 = sole (way_of s q) d o.fits h (o.from ∙ sym f) (equal ∙ sym g) in
            rw (equal, same) (same_head row-order r ms (trail tos labels s.ways j (get_or tos d 0)) b)
        go true a b = later-head row-order r row ms (trail tos labels s.ways j (get_or tos (way_of s q) 0)) a

-- The better of two

no-worse : (t : List ℕ) → NoBetter (some t) t
no-worse t = (omega arith, λ e. not_itself row-order t)

better-on : (o : Option (List ℕ)) (t ms : List ℕ) → NoBetter o t → NoBetter (some t) ms → NoBetter o ms
better-on none t ms a b = a
better-on (some ns) t ms a b = (omega arith, λ e. not-before-on row-order ms t ns (b.1 (omega arith)) (a.1 (omega arith)))

module _ (ns t : List ℕ) where
  pick-shorter : length t < length ns → pick (some ns) t ≡ some t
  unfolding pick
  pick-shorter h = rw (lt-ltb (length t) (length ns) h, pick)

  pick-longer : length ns < length t → pick (some ns) t ≡ some ns
  unfolding pick
  pick-longer h = rw (le-ltb (length t) (length ns) (omega arith), ne_eqb (length t) (length ns) (λ e. omega arith), pick)

  pick-alike : (u : Bool) → length t ≡ length ns → precedes row_before t ns ≡ u → pick (some ns) t ≡ elim u as (λ _. Option (List ℕ)) [ true ↦ some t | false ↦ some ns ]
  unfolding pick
  pick-alike u h e = rw (le-ltb (length t) (length ns) (omega arith), eq-eqb (length t) (length ns) h, e, pick)

-- t is taken, or what is held stays
abbrev Picked : Option (List ℕ) → List ℕ → Type 0
Picked o t = ((pick o t ≡ some t) × ((ms : List ℕ) → NoBetter o ms → NoBetter (some t) ms)) ⊎ ((pick o t ≡ o) × NoBetter o t)

picked : (o : Option (List ℕ)) (t : List ℕ) → Picked o t
unfolding pick
picked none t = inl (refl, λ ms b. absurd b)
picked (some ns) t = go (eqb (length t) (length ns)) refl (ltb (length t) (length ns)) refl (precedes row_before t ns) refl
  where
    go : (u : Bool) → eqb (length t) (length ns) ≡ u → (v : Bool) → ltb (length t) (length ns) ≡ v → (w : Bool) → precedes row_before t ns ≡ w
        → Picked (some ns) t
    go true p v q true r =
        let e = eqb-true (length t) (length ns) p in
        inl (pick-alike ns t true e r, λ ms b. (omega arith, λ f. not-before-on row-order ms ns t (b.1 (omega arith)) (before-not row-order t ns r)))
    go true p v q false r = let e = eqb-true (length t) (length ns) p in inr (pick-alike ns t false e r, (omega arith, λ f. r))
    go false p true q w r = let l = ltb-true (length t) (length ns) q in inl (pick-shorter ns t l, λ ms b. (omega arith, λ f. absurd (omega arith)))
    go false p false q w r =
        let n = eqb-false (length t) (length ns) p in
        let l : length ns < length t = omega (arith, ltb-false (length t) (length ns) q) in
        inr (pick-longer ns t l, (omega arith, λ f. absurd (n f)))

pub pick-new : (o : Option (List ℕ)) (t : List ℕ) → NoBetter (pick o t) t
pick-new o t = go (picked o t)
  where
    go : Picked o t → NoBetter (pick o t) t
    go (inl p) = subst (λ (x : Option (List ℕ)). NoBetter x t) (sym p.0) (no-worse t)
    go (inr p) = subst (λ (x : Option (List ℕ)). NoBetter x t) (sym p.0) p.1

pub pick-still : (o : Option (List ℕ)) (t ms : List ℕ) → NoBetter o ms → NoBetter (pick o t) ms
pick-still o t ms b = go (picked o t)
  where
    go : Picked o t → NoBetter (pick o t) ms
    go (inl p) = subst (λ (x : Option (List ℕ)). NoBetter x ms) (sym p.0) (p.1 ms b)
    go (inr p) = subst (λ (x : Option (List ℕ)). NoBetter x ms) (sym p.0) b

pub pick-from : (o : Option (List ℕ)) (t ns : List ℕ) → pick o t ≡ some ns → (o ≡ some ns) ⊎ (t ≡ ns)
pick-from o t ns e = go (picked o t)
  where
    go : Picked o t → (o ≡ some ns) ⊎ (t ≡ ns)
    go (inl p) = inr (some-injective t ns (sym p.0 ∙ e))
    go (inr p) = inl (sym p.0 ∙ e)

-- The chains of several nodes, one after the other

module _ (tos labels dists ways : List ℕ) where
  pub considered-none : (q : ℕ) (o : Option (List ℕ)) → get_or dists q 0 ≡ 0 → considered tos labels dists ways q o ≡ o
  unfolding considered
  considered-none q o e = rw (e, considered) refl

  considered-found : (q k : ℕ) (o : Option (List ℕ)) → get_or dists q 0 ≡ suc k → considered tos labels dists ways q o ≡ pick o (trail tos labels ways k q)
  unfolding considered
  considered-found q k o e = rw (e, considered) refl

  considered-still : (q : ℕ) (o : Option (List ℕ)) (ms : List ℕ) → NoBetter o ms → NoBetter (considered tos labels dists ways q o) ms
  considered-still q o ms b = go (get_or dists q 0) refl
    where
      go : (d : ℕ) → get_or dists q 0 ≡ d → NoBetter (considered tos labels dists ways q o) ms
      go zero e = subst (λ (x : Option (List ℕ)). NoBetter x ms) (sym (considered-none q o e)) b
      go (suc k) e = subst (λ (x : Option (List ℕ)). NoBetter x ms) (sym (considered-found q k o e)) (pick-still o (trail tos labels ways k q) ms b)

  considered-new : (q k : ℕ) (o : Option (List ℕ)) → get_or dists q 0 ≡ suc k → NoBetter (considered tos labels dists ways q o) (trail tos labels ways k q)
  considered-new q k o e =
      subst (λ (x : Option (List ℕ)). NoBetter x (trail tos labels ways k q)) (sym (considered-found q k o e)) (pick-new o (trail tos labels ways k q))

  -- the chain from node q was found, and is ns
  record Comes (q : ℕ) (ns : List ℕ) : Type 0 where
    size : ℕ
    dist : get_or dists q 0 ≡ suc size
    is : trail tos labels ways size q ≡ ns

  considered-from : (q : ℕ) (o : Option (List ℕ)) (ns : List ℕ) → considered tos labels dists ways q o ≡ some ns → (o ≡ some ns) ⊎ Comes q ns
  considered-from q o ns e = go (get_or dists q 0) refl
    where
      came : (k : ℕ) → get_or dists q 0 ≡ suc k → (o ≡ some ns) ⊎ (trail tos labels ways k q ≡ ns) → (o ≡ some ns) ⊎ Comes q ns
      came k d (inl p) = inl p
      came k d (inr p) = inr (record { size = k; dist = d; is = p })

      go : (d : ℕ) → get_or dists q 0 ≡ d → (o ≡ some ns) ⊎ Comes q ns
      go zero d = inl (sym (considered-none q o d) ∙ e)
      go (suc k) d = came k d (pick-from o (trail tos labels ways k q) ns (sym (considered-found q k o d) ∙ e))

  module _ (classes : List ℕ) (c : ℕ) where
    all_here : (n q : ℕ) (o : Option (List ℕ)) → get_or classes q 0 ≡ c
        → considered_all tos labels dists ways classes c (suc n) q o ≡ considered_all tos labels dists ways classes c n (suc q) (considered tos labels dists ways q o)
    unfolding considered_all
    all_here n q o e = rw (eq-eqb (get_or classes q 0) c e)

    all_past : (n q : ℕ) (o : Option (List ℕ)) → (get_or classes q 0 ≡ c → ⊥)
        → considered_all tos labels dists ways classes c (suc n) q o ≡ considered_all tos labels dists ways classes c n (suc q) o
    unfolding considered_all
    all_past n q o e = rw (ne_eqb (get_or classes q 0) c e)

    all-still : (n q : ℕ) (o : Option (List ℕ)) (ms : List ℕ) → NoBetter o ms → NoBetter (considered_all tos labels dists ways classes c n q o) ms
    unfolding considered_all
    all-still zero q o ms b = b
    all-still (suc n) q o ms b = go (eqb (get_or classes q 0) c) refl (λ p. all-still n (suc q) p ms)
      where
        go : (t : Bool) → eqb (get_or classes q 0) c ≡ t → ((p : Option (List ℕ)) → NoBetter p ms → NoBetter (considered_all tos labels dists ways classes c n (suc q) p) ms)
            → NoBetter (considered_all tos labels dists ways classes c (suc n) q o) ms
        go true e f = subst (λ (x : Option (List ℕ)). NoBetter x ms) (sym (all_here n q o (eqb-true (get_or classes q 0) c e))) (f (considered tos labels dists ways q o) (considered-still q o ms b))
        go false e f = subst (λ (x : Option (List ℕ)). NoBetter x ms) (sym (all_past n q o (eqb-false (get_or classes q 0) c e))) (f o b)

    all_new : (n q : ℕ) (o : Option (List ℕ)) (p k : ℕ) → q ≤ p → p < q + n → get_or classes p 0 ≡ c → get_or dists p 0 ≡ suc k
        → NoBetter (considered_all tos labels dists ways classes c n q o) (trail tos labels ways k p)
    unfolding considered_all
    all_new zero q o p k l h e d = absurd (omega arith)
    all_new (suc n) q o p k l h e d = go (eq-or-lt_of_le l) (eqb (get_or classes q 0) c) refl (λ x m. all_new n (suc q) x p k m (omega arith) e d)
      where
        t : List ℕ
        t = trail tos labels ways k p

        go : (q ≡ p) ⊎ (q < p) → (u : Bool) → eqb (get_or classes q 0) c ≡ u → ((x : Option (List ℕ)) → suc q ≤ p → NoBetter (considered_all tos labels dists ways classes c n (suc q) x) t)
            → NoBetter (considered_all tos labels dists ways classes c (suc n) q o) t
        go (inl a) u r f =
            subst (λ (x : Option (List ℕ)). NoBetter x t) (sym (all_here n q o (rw a e)))
            (all-still n (suc q) (considered tos labels dists ways q o) t (subst (λ (x : ℕ). NoBetter (considered tos labels dists ways x o) t) (sym a) (considered-new p k o d)))
        go (inr a) true r f = subst (λ (x : Option (List ℕ)). NoBetter x t) (sym (all_here n q o (eqb-true (get_or classes q 0) c r))) (f (considered tos labels dists ways q o) (omega arith))
        go (inr a) false r f = subst (λ (x : Option (List ℕ)). NoBetter x t) (sym (all_past n q o (eqb-false (get_or classes q 0) c r))) (f o (omega arith))

    -- of n nodes from q on, one of class c has the chain ns
    record ComesOf (n q : ℕ) (ns : List ℕ) : Type 0 where
      node : ℕ
      low : q ≤ node
      high : node < q + n
      class : get_or classes node 0 ≡ c
      comes : Comes node ns

    all-from : (n q : ℕ) (o : Option (List ℕ)) (ns : List ℕ) → considered_all tos labels dists ways classes c n q o ≡ some ns → (o ≡ some ns) ⊎ ComesOf n q ns
    unfolding considered_all
    all-from zero q o ns e = inl e
    all-from (suc n) q o ns e = go (eqb (get_or classes q 0) c) refl (λ x. all-from n (suc q) x ns)
      where
        wider : ComesOf n (suc q) ns → ComesOf (suc n) q ns
        wider r = record { node = r.node; low = omega (arith, r.low); high = omega (arith, r.high); class = r.class; comes = r.comes }

        past : (o ≡ some ns) ⊎ ComesOf n (suc q) ns → (o ≡ some ns) ⊎ ComesOf (suc n) q ns
        past (inl a) = inl a
        past (inr r) = inr (wider r)

        own : get_or classes q 0 ≡ c → (o ≡ some ns) ⊎ Comes q ns → (o ≡ some ns) ⊎ ComesOf (suc n) q ns
        own k (inl a) = inl a
        own k (inr r) = inr (record { node = q; low = omega arith; high = omega arith; class = k; comes = r })

        here : get_or classes q 0 ≡ c → (considered tos labels dists ways q o ≡ some ns) ⊎ ComesOf n (suc q) ns → (o ≡ some ns) ⊎ ComesOf (suc n) q ns
        here k (inl a) = own k (considered-from q o ns a)
        here k (inr r) = inr (wider r)

        go : (u : Bool) → eqb (get_or classes q 0) c ≡ u → ((x : Option (List ℕ)) → considered_all tos labels dists ways classes c n (suc q) x ≡ some ns → (x ≡ some ns) ⊎ ComesOf n (suc q) ns)
            → (o ≡ some ns) ⊎ ComesOf (suc n) q ns
        go true r f = let k = eqb-true (get_or classes q 0) c r in here k (f (considered tos labels dists ways q o) (sym (all_here n q o k) ∙ e))
        go false r f = past (f o (sym (all_past n q o (eqb-false (get_or classes q 0) c r)) ∙ e))

    pub left_here : (n q : ℕ) (o : Option (List ℕ)) → q < n → get_or classes q 0 ≡ c
        → considered_all tos labels dists ways classes c (n - q) q o ≡ considered_all tos labels dists ways classes c (n - (q + 1)) (q + 1) (considered tos labels dists ways q o)
    left_here n q o h e = let z : n - q ≡ suc (n - (q + 1)) = omega arith in rw (z, add-one q) (all_here (n - suc q) q o e)

    pub left-past : (n q : ℕ) (o : Option (List ℕ)) → q < n → (get_or classes q 0 ≡ c → ⊥)
        → considered_all tos labels dists ways classes c (n - q) q o ≡ considered_all tos labels dists ways classes c (n - (q + 1)) (q + 1) o
    left-past n q o h e = let z : n - q ≡ suc (n - (q + 1)) = omega arith in rw (z, add-one q) (all_past (n - suc q) q o e)

    pub left-none : (n q : ℕ) (o : Option (List ℕ)) → n ≤ q → considered_all tos labels dists ways classes c (n - q) q o ≡ o
    unfolding considered_all
    left-none n q o h = let z : n - q ≡ 0 = omega arith in rw z

-- The chain from a node is considered

module _ (tos labels dists ways best : List ℕ) (q k size : ℕ) (dist : get_or dists q 0 ≡ suc k) where
  abbrev kept : List ℕ
  kept = rows (λ i. get_or best i 0) size 0

  abbrev new : List ℕ
  new = trail tos labels ways k q

  sizes : (length kept ≡ size) × (length new ≡ k)
  sizes = (rows-length (λ i. get_or best i 0) size 0, trail-length tos labels ways k q)

  pub stays-longer : size < k → some kept ≡ considered tos labels dists ways q (some kept)
  stays-longer h = let s = sizes in sym (considered-found tos labels dists ways q k (some kept) dist ∙ pick-longer kept new (omega arith))

  pub stays_after : size ≡ k → precedes row_before new (rows (λ i. get_or best i 0) k 0) ≡ false → some kept ≡ considered tos labels dists ways q (some kept)
  stays_after h p = let s = sizes in sym (considered-found tos labels dists ways q k (some kept) dist ∙ pick-alike kept new false (omega arith) (rw h p))

  comes_first : k ≤ size → (size ≡ k → precedes row_before new (rows (λ i. get_or best i 0) k 0) ≡ true) → pick (some kept) new ≡ some new
  comes_first h p = less (eq-or-lt_of_le h)
    where
      less : (k ≡ size) ⊎ (k < size) → pick (some kept) new ≡ some new
      less (inl e) = pick-alike kept new true (sizes.1 ∙ e ∙ sym sizes.0) (rw (sym e) (p (sym e)))
      less (inr l) = pick-shorter kept new (omega (arith, sizes.0, sizes.1))

-- it comes in where none was held, or one that it is better than
pub comes-in : (tos labels dists ways best : List ℕ) (q k : ℕ) → get_or dists q 0 ≡ suc k → (after : List ℕ) (o : P.Option ℕ)
    → P.IfSome o (λ n. (k ≤ n) × (n ≡ k → precedes row_before (trail tos labels ways k q) (rows (λ i. get_or best i 0) k 0) ≡ true))
    → rows (λ i. get_or after i 0) k 0 ≡ trail tos labels ways k q → held after (P.Some k) ≡ considered tos labels dists ways q (held best o)
unfolding pick
comes-in tos labels dists ways best q k dist after o h w = ap (λ (l : List ℕ). some l) w ∙ sym (considered-found tos labels dists ways q k (held best o) dist ∙ go o h)
  where
    go : (o : P.Option ℕ) → P.IfSome o (λ n. (k ≤ n) × (n ≡ k → precedes row_before (trail tos labels ways k q) (rows (λ i. get_or best i 0) k 0) ≡ true))
        → pick (held best o) (trail tos labels ways k q) ≡ some (trail tos labels ways k q)
    go P.None h = refl
    go (P.Some n) h = comes_first tos labels dists ways best q k n dist h.0 h.1

-- What a search for one class chooses

module _ (froms tos labels : List ℕ) (count : ℕ) (ends : ℕ → Bool) (sole : Sole froms tos labels count) (size : ℕ) (s : Found) (spread : Spread froms tos labels count ends size s) where
  -- a walk from a node that was found is no better than the chain from it
  found_first : (q k : ℕ) (ms : List ℕ) → dist_of s q ≡ suc k → Walk froms tos labels count ends q ms → NoBetter (some (trail tos labels s.ways k q)) ms
  found_first q k ms d w =
      let l = trail-length tos labels s.ways k q in
      (omega (arith, spread.exact.least q k d ms w), λ e. trail-first froms tos labels count ends s spread.exact sole size spread.near spread.beyond ms q k d w (e ∙ l))

  -- distances are few
  pub dist-low : (q : ℕ) → dist_of s q ≤ place_limit + 1
  dist-low q = go (dist_of s q) refl
    where
      go : (d : ℕ) → dist_of s q ≡ d → d ≤ place_limit + 1
      go zero e = omega arith
      go (suc k) e = omega (arith, spread.bound q k e)

  module _ (best : List ℕ) (o : P.Option ℕ) (is : size ≡ P.unwrap_or o 65535) where
    -- and one from a node that wasn't is no better than what was held
    unfound-held : (q : ℕ) (ms : List ℕ) → dist_of s q ≡ 0 → Walk froms tos labels count ends q ms → NoBetter (held best o) ms
    unfound-held q ms d w = go o is
      where
        go : (o : P.Option ℕ) → size ≡ P.unwrap_or o 65535 → NoBetter (held best o) ms
        go P.None e = absurd (spread.exhausted (omega arith) q d ms w)
        go (P.Some n) e =
            let l = rows-length (λ i. get_or best i 0) n 0 in
            let b = spread.beyond q d ms w in
            (omega arith, λ f. absurd (omega arith))

    pub chosen-for : (classes : List ℕ) (cached c : ℕ)
        → ChosenFor froms tos labels count classes cached c ends (held best o) (considered_all tos labels s.dists s.ways classes c cached 0 (held best o))
    chosen-for classes cached c = record {
      sound = λ ns e. from ns (all-from tos labels s.dists s.ways classes c cached 0 (held best o) ns e);
      all = λ q ms h k w. each q ms h k w (dist_of s q) refl;
      still = λ ms b. all-still tos labels s.dists s.ways classes c cached 0 (held best o) ms b;
    }
      where
        from : (ns : List ℕ) → (held best o ≡ some ns) ⊎ ComesOf tos labels s.dists s.ways classes c cached 0 ns
            → (held best o ≡ some ns) ⊎ ((q : ℕ) × (q < cached) × (get_or classes q 0 ≡ c) × Walk froms tos labels count ends q ns)
        from ns (inl e) = inl e
        from ns (inr r) = inr (
          r.node,
          omega (arith, r.high),
          r.class,
          rw r.comes.is at (trail-walk froms tos labels count ends s spread.exact r.comes.size r.node r.comes.dist),
        )

        each : (q : ℕ) (ms : List ℕ) → q < cached → get_or classes q 0 ≡ c → Walk froms tos labels count ends q ms → (d : ℕ) → dist_of s q ≡ d
            → NoBetter (considered_all tos labels s.dists s.ways classes c cached 0 (held best o)) ms
        each q ms h k w zero d = all-still tos labels s.dists s.ways classes c cached 0 (held best o) ms (unfound-held q ms d w)
        each q ms h k w (suc j) d =
            better-on (considered_all tos labels s.dists s.ways classes c cached 0 (held best o)) (trail tos labels s.ways j q) ms
            (all_new tos labels s.dists s.ways classes c cached 0 (held best o) q j (omega arith) (omega arith) k d) (found_first q j ms d w)

-- a table of zeros

all-zero : (n : ℕ) → marked 0 (replicate n 0) ≡ n
unfolding marked
all-zero zero = refl
all-zero (suc n) = ap suc (all-zero n)

pub zeroed : Zeroed (replicate 1280 0)
zeroed = record { long = length-replicate {A = ℕ} 1280 0; zeros = λ q. omega (arith, (stamped-none 1280 0).most q); none = all-zero 1280 }

-- links that are in range may be joined by where they lead
pub starts-low : {froms tos : List ℕ} {count : ℕ} → InRange froms tos count → (e : ℕ) → e < count → start_of tos 0 e < place_limit
unfolding start_of
starts-low r e h = let z : 0 + e ≡ e = omega arith in rw z (r.to e h)

-- Ends by marks are ends by direct superclasses

walk_same : (froms tos labels : List ℕ) (count : ℕ) (one two : ℕ → Bool) → ((q : ℕ) → one q ≡ two q) → (ns : List ℕ) (q : ℕ) → Walk froms tos labels count one q ns
    → Walk froms tos labels count two q ns
walk_same froms tos labels count one two same [] q w = sym (same q) ∙ w
walk_same froms tos labels count one two same (r ∷ ns) q w =
    (w.0, w.1, w.2, w.3, walk_same froms tos labels count one two same ns (get_or tos w.0 0) w.4)

ends_same : (only : Bool) (sup : ℕ → Option ℕ) → Falls sup → (aboves : List ℕ) (stamp : ℕ) (classes : List ℕ) (cached c : ℕ) → Raised sup c stamp aboves → (q : ℕ)
    → ends_in only aboves stamp classes cached c q ≡ ends_over only sup classes cached c q
unfolding ends_in ends_over bad_in bad_over
ends_same true sup falls aboves stamp classes cached c r q = refl
ends_same false sup falls aboves stamp classes cached c r q = rw (above-below aboves stamp c (get_or classes q 0) sup falls r)

-- One class after the other: those of the first p cached requests were searched for

-- the classes that are marked as met are some of theirs
abbrev pub Met : List ℕ → ℕ → List ℕ → Type 0
Met classes p met = (c : ℕ) → get_or met c 0 ≡ 1 → (m : ℕ) × (m < p) × (get_or classes m 0 ≡ c)

pub met-none : (classes : List ℕ) → Met classes 0 (replicate 256 0)
met-none classes c e = absurd (omega (arith, (stamped-none 256 0).most c))

pub met-more : (classes : List ℕ) (p : ℕ) (met : List ℕ) → Met classes p met → Met classes (p + 1) (set met (get_or classes p 0) 1)
met-more classes p met f c e = go (eqb c (get_or classes p 0)) refl
  where
    wider : (m : ℕ) × (m < p) × (get_or classes m 0 ≡ c) → (m : ℕ) × (m < p + 1) × (get_or classes m 0 ≡ c)
    wider r = (r.0, omega (arith, r.1), r.2)

    go : (t : Bool) → eqb c (get_or classes p 0) ≡ t → (m : ℕ) × (m < p + 1) × (get_or classes m 0 ≡ c)
    go true q = (p, omega arith, sym (eqb-true c (get_or classes p 0) q))
    go false q = wider (f c (sym (get_or-set_other met (get_or classes p 0) c 1 0 (eqb-false c (get_or classes p 0) q)) ∙ e))

module _ (froms tos labels : List ℕ) (count : ℕ) (classes : List ℕ) (cached : ℕ) (only : Bool) (sup : ℕ → Option ℕ) where
  abbrev From : ℕ → List ℕ → Type 0
  From q ns = WalkFrom froms tos labels count classes cached only sup q ns

  -- what is kept is what was kept or a walk from a cached request, and no walk from one of these classes is better, nor any list that wasn't before
  pub record Swept (p : ℕ) (old new : Option (List ℕ)) : Type 0 where
    pub sound : (ns : List ℕ) → new ≡ some ns → (old ≡ some ns) ⊎ ((q : ℕ) × (q < cached) × From q ns)
    pub all : (q : ℕ) (ms : List ℕ) → q < cached → (m : ℕ) → m < p → get_or classes q 0 ≡ get_or classes m 0 → From q ms → NoBetter new ms
    pub still : (ms : List ℕ) → NoBetter old ms → NoBetter new ms

  pub swept_none : (o : Option (List ℕ)) → Swept 0 o o
  swept_none o = record { sound = λ ns e. inl e; all = λ q ms h m l. absurd (omega arith); still = λ ms b. b }

  -- of a class that was met nothing is left to be searched for
  pub swept-met : {p : ℕ} {old new : Option (List ℕ)} (met : List ℕ) → Met classes p met → get_or met (get_or classes p 0) 0 ≡ 1 → Swept p old new → Swept (p + 1) old new
  swept-met {p} {old} {new} met f e s = record { sound = s.sound; all = λ q ms h m l k w. go q ms h m k w (eq-or-lt_of_le (omega arith)); still = s.still }
    where
      go : (q : ℕ) (ms : List ℕ) → q < cached → (m : ℕ) → get_or classes q 0 ≡ get_or classes m 0 → From q ms → (m ≡ p) ⊎ (m < p) → NoBetter new ms
      go q ms h m k w (inl a) = let r = f (get_or classes p 0) e in s.all q ms h r.0 r.1 (k ∙ rw a (sym r.2)) w
      go q ms h m k w (inr l) = s.all q ms h m l k w

  -- another is searched for
  pub swept-one : {p : ℕ} {old mid new : Option (List ℕ)} (aboves : List ℕ) (stamp : ℕ) → Falls sup → Raised sup (get_or classes p 0) stamp aboves → Swept p old mid
      → ChosenFor froms tos labels count classes cached (get_or classes p 0) (ends_in only aboves stamp classes cached (get_or classes p 0)) mid new → Swept (p + 1) old new
  swept-one {p} {old} {mid} {new} aboves stamp falls r s f = record {
    sound = λ ns e. came ns (f.sound ns e);
    all = λ q ms h m l k w. go q ms h m k w (eq-or-lt_of_le (omega arith));
    still = λ ms b. f.still ms (s.still ms b);
  }
    where
      class : ℕ
      class = get_or classes p 0

      same : (q : ℕ) → ends_in only aboves stamp classes cached class q ≡ ends_over only sup classes cached class q
      same = ends_same only sup falls aboves stamp classes cached class r

      came : (ns : List ℕ) → (mid ≡ some ns) ⊎ ((q : ℕ) × (q < cached) × (get_or classes q 0 ≡ class) × Walk froms tos labels count (ends_in only aboves stamp classes cached class) q ns)
          → (old ≡ some ns) ⊎ ((q : ℕ) × (q < cached) × From q ns)
      came ns (inl e) = s.sound ns e
      came ns (inr (q, h, e, w)) = inr (
        q,
        h,
        subst (λ (x : ℕ). Walk froms tos labels count (ends_over only sup classes cached x) q ns) (sym e)
            (walk_same froms tos labels count (ends_in only aboves stamp classes cached class) (ends_over only sup classes cached class) same ns q w),
      )

      go : (q : ℕ) (ms : List ℕ) → q < cached → (m : ℕ) → get_or classes q 0 ≡ get_or classes m 0 → From q ms → (m ≡ p) ⊎ (m < p) → NoBetter new ms
      go q ms h m k w (inl a) =
          let e : get_or classes q 0 ≡ class = k ∙ ap (λ (x : ℕ). get_or classes x 0) a in
          f.all q ms h e
          (walk_same froms tos labels count (ends_over only sup classes cached class) (ends_in only aboves stamp classes cached class) (λ x. sym (same x)) ms q
          (subst (λ (x : ℕ). Walk froms tos labels count (ends_over only sup classes cached x) q ms) e w))
      go q ms h m k w (inr l) = f.still ms (s.all q ms h m l k w)
