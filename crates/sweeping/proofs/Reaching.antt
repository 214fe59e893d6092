-- What is marked is what frames reach. Each object on the work list is reached; the marked objects are those on the list, so there is always room for one more;
-- and once the list is gone through, whatever a field of a marked object names is marked.
use mathlib.Core.Path.{◌≡◌, refl, sym, ap, subst, ◌∙◌}
use mathlib.Core.Bool.{Bool, true, false, not}
use mathlib.Core.Option.{some}
use mathlib.Core.List.{List, [], ◌∷◌, Memᴰ}
use Prim.Native.Nat.{ℕ, zero, suc, ◌+◌, ◌<◌, ◌≤◌}
use native.Mathlib.Omega.{arith}
use lib.ListN.{length, replicate, get_or, set, length-set}
use lib.Seq.{get_or-set_same, get_or-set_other}
use lib.Dec.{eqb, ltb}
use borrow.Author.Tests.{eqb-true, eqb-false, ne_eqb, ltb-true, ltb-false}
use Rattle.definition.specs.Chains.{Chain, stay, hop, has}
use Rattle.definition.specs.Machine.{Object, Objects, existing, Exists, Frame}
use Rattle.definition.specs.Sweeping.{named, roots, links, Reached, reached}
use Rattle.laws.specs.Objects.{exists_lt}
use Rattle.laws.specs.Sweeps.{found-reached, reached-found, link-names, names-link}
use Rattle.layout.specs.Tests.{All, all_more}
use Rattle.unbroken.specs.WholeRows.{all-mem}
use Rattle.store.specs.Same.{zeros-at}
use Rattle.sweeping.specs.Marking.{Work, work, added, mark, mark_all, follow}
use Rattle.sweeping.proofs.Laws.{mark-again, mark-new}

-- What holds of each member holds of each of the list

member-all : {A : Type 0} (P : A → Type 0) (xs : List A) → ((x : A) → Memᴰ x xs → P x) → All P xs
member-all P [] h = tt
member-all P (x ∷ xs) h = (h x (Memᴰ.head refl), member-all P xs (λ y m. h y (Memᴰ.tail m)))

-- How many cells are not 0

unfoldable tally : List ℕ → ℕ
tally [] = 0
tally (zero ∷ xs) = tally xs
tally (suc n ∷ xs) = suc (tally xs)

tally-few : (xs : List ℕ) → tally xs ≤ length xs
unfolding tally
tally-few [] = omega arith
tally-few (zero ∷ xs) = omega (arith, tally-few xs)
tally-few (suc n ∷ xs) = omega (arith, tally-few xs)

-- one more where one is 0, and so there are fewer than cells
tally-more : (xs : List ℕ) (o : ℕ) → o < length xs → get_or xs o 0 ≡ 0 → tally (set xs o 1) ≡ suc (tally xs)
unfolding tally
tally-more [] o l e = absurd (omega arith)
tally-more (zero ∷ xs) zero l e = refl
tally-more (suc n ∷ xs) zero l e = absurd (omega arith)
tally-more (zero ∷ xs) (suc o) l e = tally-more xs o (omega arith) e
tally-more (suc n ∷ xs) (suc o) l e = ap suc (tally-more xs o (omega arith) e)

tally-room : (xs : List ℕ) (o : ℕ) → o < length xs → get_or xs o 0 ≡ 0 → tally xs < length xs
tally-room xs o l e = omega (arith, tally-more xs o l e, tally-few (set xs o 1), length-set xs o 1)

zeros-none : (n : ℕ) → tally (replicate n 0) ≡ 0
unfolding tally
zeros-none zero = refl
zeros-none (suc n) = zeros-none n

-- Marks and the list; P is what holds of each object on it

abbrev Marked : Work → ℕ → Type 0
Marked w o = get_or w.marks o 0 ≡ 0 → ⊥

record Kept (P : ℕ → Type 0) (w : Work) : Type 0 where
  pub marks_long : length w.marks ≡ 256
  pub list_long : length w.list ≡ 256
  pub tallied : tally w.marks ≡ w.size
  pub holds : (i : ℕ) → i < w.size → P (get_or w.list i 0)
  pub listed : (o : ℕ) → Marked w o → (i : ℕ) × (i < w.size) × (get_or w.list i 0 ≡ o)

-- what is there stays there
record Later (w v : Work) : Type 0 where
  pub marks : (o : ℕ) → Marked w o → Marked v o
  pub list : (i : ℕ) → i < w.size → get_or v.list i 0 ≡ get_or w.list i 0
  pub size : w.size ≤ v.size

later_same : (w : Work) → Later w w
later_same w = record { marks = λ o m. m; list = λ i l. refl; size = omega arith }

later-join : (u v w : Work) → Later u v → Later v w → Later u w
later-join u v w a b = record {
  marks = λ o m. b.marks o (a.marks o m);
  list = λ i l. b.list i (omega (arith, l, a.size)) ∙ a.list i l;
  size = omega (arith, a.size, b.size);
}

start-kept : (P : ℕ → Type 0) → Kept P (work (replicate 256 0) (replicate 256 0) 0)
start-kept P = record {
  marks_long = refl;
  list_long = refl;
  tallied = zeros-none 256;
  holds = λ i l. absurd (omega arith);
  listed = λ o m. absurd (m (zeros-at 256 o));
}

module _ (P : ℕ → Type 0) (few : (o : ℕ) → P o → o < 256) where
  -- one object more
  module _ (w : Work) (o : ℕ) (k : Kept P w) (p : P o) (unmarked : get_or w.marks o 0 ≡ 0) where
    in-marks : o < length w.marks
    in-marks = omega (arith, few o p, k.marks_long)

    room : w.size < 256
    room = omega (arith, tally-room w.marks o in-marks unmarked, k.marks_long, k.tallied)

    in_list : w.size < length w.list
    in_list = omega (arith, room, k.list_long)

    earlier : (i : ℕ) → i < w.size → get_or (set w.list w.size o) i 0 ≡ get_or w.list i 0
    earlier i l = get_or-set_other w.list w.size i o 0 (λ e. omega arith)

    still : (x : ℕ) → Marked w x → Marked (added w o) x
    still x m = λ e. go (eqb x o) refl e
      where
        go : (t : Bool) → eqb x o ≡ t → get_or (set w.marks o 1) x 0 ≡ 0 → ⊥
        go true q e = m (ap (λ (z : ℕ). get_or w.marks z 0) (eqb-true x o q) ∙ unmarked)
        go false q e = m (sym (get_or-set_other w.marks o x 1 0 (eqb-false x o q)) ∙ e)

    now-marked : Marked (added w o) o
    now-marked e = omega (arith, e, get_or-set_same w.marks o 1 0 in-marks)

    added-later : Later w (added w o)
    added-later = record { marks = still; list = earlier; size = omega arith }

    added-kept : Kept P (added w o)
    added-kept = record {
      marks_long = length-set w.marks o 1 ∙ k.marks_long;
      list_long = length-set w.list w.size o ∙ k.list_long;
      tallied = tally-more w.marks o in-marks unmarked ∙ (ap suc k.tallied ∙ omega arith);
      holds = λ i l. held i (eqb i w.size) refl l;
      listed = λ x m. place x (eqb x o) refl m;
    }
      where
        held : (i : ℕ) (t : Bool) → eqb i w.size ≡ t → i < w.size + 1 → P (get_or (set w.list w.size o) i 0)
        held i true q l = let e = eqb-true i w.size q in subst P (sym (ap (λ (z : ℕ). get_or (set w.list w.size o) z 0) e ∙ get_or-set_same w.list w.size o 0 in_list)) p
        held i false q l = let e = eqb-false i w.size q in let b : i < w.size = omega (arith, e, l) in subst P (sym (earlier i b)) (k.holds i b)

        place : (x : ℕ) (t : Bool) → eqb x o ≡ t → Marked (added w o) x → (i : ℕ) × (i < w.size + 1) × (get_or (set w.list w.size o) i 0 ≡ x)
        place x true q m = (w.size, omega arith, get_or-set_same w.list w.size o 0 in_list ∙ sym (eqb-true x o q))
        place x false q m =
            let h = k.listed x (λ e. m (get_or-set_other w.marks o x 1 0 (eqb-false x o q) ∙ e)) in
            (h.0, omega (arith, h.1), earlier h.0 h.1 ∙ h.2)

  -- what marking an object gives, and all of a list
  abbrev Gives : Work → Work → List ℕ → Type 0
  Gives w v os = Kept P v × Later w v × All (Marked v) os

  mark-gives : (w : Work) (o : ℕ) → Kept P w → P o → Kept P (mark w o) × Later w (mark w o) × Marked (mark w o) o
  mark-gives w o k p = go (eqb (get_or w.marks o 0) 0) refl
    where
      go : (t : Bool) → eqb (get_or w.marks o 0) 0 ≡ t → Kept P (mark w o) × Later w (mark w o) × Marked (mark w o) o
      go true q = let e = eqb-true (get_or w.marks o 0) 0 q in rw (mark-new w o e (room w o k p e)) (added-kept w o k p e, added-later w o k p e, now-marked w o k p e)
      go false q = let m = eqb-false (get_or w.marks o 0) 0 q in rw (mark-again w o m) (k, later_same w, m)

  all-gives : (w : Work) (os : List ℕ) → Kept P w → All P os → Gives w (mark_all w os) os
  unfolding mark_all
  all-gives w [] k p = (k, later_same w, tt)
  all-gives w (o ∷ os) k p =
      let a = mark-gives w o k p.0 in
      let b = all-gives (mark w o) os a.0 p.1 in
      (b.0, later-join w (mark w o) (mark_all (mark w o) os) a.1 b.1, (b.1.marks o a.2, b.2))

  -- The list gone through, where P goes on from an object to those that it names

  module _ (names : ℕ → List ℕ) (next : (o : ℕ) → P o → All P (names o)) where
    -- what the first i objects on the list name is marked
    abbrev Closed : Work → ℕ → Type 0
    Closed w i = (j : ℕ) → j < i → All (Marked w) (names (get_or w.list j 0))

    closed-later : (w v : Work) (i : ℕ) → Later w v → i ≤ w.size → Closed w i → Closed v i
    closed-later w v i t l c j h = rw (t.list j (omega (arith, h, l))) (all_more t.marks (names (get_or w.list j 0)) (c j h))

    closed-more : (w : Work) (i : ℕ) → Closed w i → All (Marked w) (names (get_or w.list i 0)) → Closed w (suc i)
    closed-more w i c a j h = go (eqb j i) refl
      where
        go : (t : Bool) → eqb j i ≡ t → All (Marked w) (names (get_or w.list j 0))
        go true q = rw (eqb-true j i q) a
        go false q = let e = eqb-false j i q in c j (omega (arith, e, h))

    record Done (w v : Work) : Type 0 where
      pub kept : Kept P v
      pub later : Later w v
      pub closed : Closed v v.size

    follow-done : (k i : ℕ) (w : Work) → 256 ≤ k + i → i ≤ w.size → Kept P w → Closed w i → Done w (follow names k i w)
    unfolding follow
    follow-done zero i w h l s c = let e : i ≡ w.size = omega (arith, tally-few w.marks, s.marks_long, s.tallied) in record { kept = s; later = later_same w; closed = rw e at c }
    follow-done (suc k) i w h l s c = go (ltb i w.size) refl (λ v r. follow-done k (suc i) v (omega arith) r)
      where
        v : Work
        v = mark_all w (names (get_or w.list i 0))

        go : (t : Bool) → ltb i w.size ≡ t → ((u : Work) → suc i ≤ u.size → Kept P u → Closed u (suc i) → Done u (follow names k (suc i) u))
            → Done w (elim t as (λ _. Work) [ true ↦ follow names k (suc i) v | false ↦ w ])
        go true q more =
            let b = ltb-true i w.size q in
            let g = all-gives w (names (get_or w.list i 0)) s (next (get_or w.list i 0) (s.holds i b)) in
            let d = more v (omega (arith, b, g.1.size)) g.0 (closed-more v i (closed-later w v i g.1 l c) (rw (g.1.list i b) g.2)) in
            record { kept = d.kept; later = later-join w v (follow names k (suc i) v) g.1 d.later; closed = d.closed }
        go false q more = let e : i ≡ w.size = omega (arith, ltb-false i w.size q) in record { kept = s; later = later_same w; closed = rw e at c }

-- The objects that frames reach, where all that is named exists and the code reads the fields' names

module _ (os : Objects) (fs : List Frame) (few : length os ≤ 256) (names : ℕ → List ℕ)
    (reads : (o : ℕ) (x : Object) → existing os o ≡ some x → names o ≡ named x.values)
    (rooted : All (Exists os) (roots fs)) (fielded : (o : ℕ) (x : Object) → existing os o ≡ some x → All (Exists os) (named x.values)) where
  abbrev Good : ℕ → Type 0
  Good o = Reached os fs o × Exists os o

  good-few : (o : ℕ) → Good o → o < 256
  good-few o g = omega (arith, exists_lt os o g.1)

  good-roots : All Good (roots fs)
  good-roots = member-all Good (roots fs) (λ o m. (record { root = o; is_root = m; chain = stay refl }, all-mem (Exists os) rooted m))

  good-next : (o : ℕ) → Good o → All Good (names o)
  good-next o g =
      let r = g.0 in
      let x = g.1.0 in
      let e = g.1.1 in
      rw (reads o x e) (member-all Good (named x.values) (λ p m. (
        record { root = r.root; is_root = r.is_root; chain = hop r.chain (names-link os o x p e m) },
        all-mem (Exists os) (fielded o x e) m,
      )))

  abbrev begun : Work
  begun = mark_all (work (replicate 256 0) (replicate 256 0) 0) (roots fs)

  abbrev ended : Work
  ended = follow names 256 0 begun

  roots-give : Gives Good good-few (work (replicate 256 0) (replicate 256 0) 0) begun (roots fs)
  roots-give = all-gives Good good-few (work (replicate 256 0) (replicate 256 0) 0) (roots fs) (start-kept Good) good-roots

  all_done : Done Good good-few names good-next begun ended
  all_done = follow-done Good good-few names good-next 256 0 begun (omega arith) (omega arith) roots-give.0 (λ j l. absurd (omega arith))

  sound : (o : ℕ) → Marked ended o → Reached os fs o
  sound o m =
      let k = all_done.kept in
      let h = k.listed o m in
      subst (λ (z : ℕ). Reached os fs z) h.2 (k.holds h.0 h.1).0

  chained : (a b : ℕ) → Chain (links os) a b → Marked ended a → Marked ended b
  chained a b (stay e) m = rw e at m
  chained a b (hop {b = c} h l) m =
      let n = link-names os c b l in
      let k = all_done.kept.listed c (chained a c h m) in
      let here : All (Marked ended) (names c) = rw k.2 at (all_done.closed k.0 k.1) in
      let there : All (Marked ended) (named n.0.values) = rw (reads c n.0 n.1) at here in
      all-mem (Marked ended) there n.2

  complete : (o : ℕ) → Reached os fs o → Marked ended o
  complete o r = chained r.root o r.chain (all_done.later.marks r.root (all-mem (Marked begun) roots-give.2 r.is_root))

  pub marked-reached : (o : ℕ) → eqb (get_or ended.marks o 0) 0 ≡ not (has eqb o (reached os fs))
  marked-reached o = go (has eqb o (reached os fs)) refl
    where
      go : (t : Bool) → has eqb o (reached os fs) ≡ t → eqb (get_or ended.marks o 0) 0 ≡ not t
      go true e = ne_eqb (get_or ended.marks o 0) 0 (complete o (found-reached os fs o e))
      go false e = back (eqb (get_or ended.marks o 0) 0) refl
        where
          back : (u : Bool) → eqb (get_or ended.marks o 0) 0 ≡ u → u ≡ true
          back true q = refl
          back false q = sym e ∙ reached-found os fs o (sound o (eqb-false (get_or ended.marks o 0) 0 q))
