-- The same rows written into tables of which today's carry the first document's: they carry them again.
use Rattle.std.specs.Prelude.{◌≡◌, refl, ℕ, zero, suc, ◌+◌, ◌<◌, ◌≤◌, take}
use Rattle.std.proofs.Math.Path.{sym, ap}
use Rattle.std.proofs.Common.{◌∙◌, length-set, take-append-drop}
use Rattle.std.proofs.Math.Option.{some}
use mathlib.Core.List.{List, [], ◌∷◌, ◌++◌}
use native.Mathlib.Omega.{arith}
use Rattle.std.proofs.Math.ListN.{length, get_or, set, get_elem?, drop, length-drop}
use Rattle.definition.specs.Numbers.{object_limit, task_limit, count_objects, owners_cell, counts_length}
use Rattle.definition.specs.Lists.{write_rows, write_stack}
use Rattle.definition.specs.Machine.{Object, owned, Objects}
use Rattle.definition.specs.Tables.{Tables, tables, Rows, put_class_row, put_entry, put_tie, put_subtype, put_object, owner_of, owner_at, put_object_row, put_frame_in, counts_of, view_base, view_over, view, put}
use Rattle.layout.specs.Places.{rows-get_d, write_rows-length}
use Rattle.layout.specs.Rows.{rows_back, cell-rows}
use Rattle.layout.specs.View.{row-owner}
use Rattle.layout.specs.ReadBack.{Lengths, put-lengths, counts-put, view-put}
use Rattle.layout.specs.Unbroken.{true-whole}
use Rattle.layout.specs.Whole.{Whole}
use Rattle.layout.specs.Traced.{Traced}
use Rattle.definition.specs.First.Tables.{FirstTables, first_counts_length, FirstRows, first_counts_of, first_put}
use Rattle.first.specs.SameObjects.{SameObjects, no_objects, same_object, same_count}
use Rattle.first.specs.SameRows.{plain, SameRows}
use Rattle.first.specs.Carries.{IsOwner, Fronts, Carries}

-- the first n cells, and those behind them

taken-length : (n : ℕ) (xs : List ℕ) → n ≤ length xs → length (take n xs) ≡ n
taken-length zero xs l = refl
taken-length (suc n) [] l = absurd (omega arith)
taken-length (suc n) (x ∷ xs) l = ap suc (taken-length n xs (omega arith))

taken-cell : (n j : ℕ) (xs : List ℕ) → j < n → get_or (take n xs) j 0 ≡ get_or xs j 0
taken-cell zero j xs l = absurd (omega arith)
taken-cell (suc n) j [] l = refl
taken-cell (suc n) zero (x ∷ xs) l = refl
taken-cell (suc n) (suc j) (x ∷ xs) l = taken-cell n j xs (omega arith)

dropped-cell : (n j : ℕ) (xs : List ℕ) → get_or (drop n xs) j 0 ≡ get_or xs (n + j) 0
dropped-cell zero j xs = let z : 0 + j ≡ j = omega arith in rw z
dropped-cell (suc n) j [] = refl
dropped-cell (suc n) j (x ∷ xs) = let z : suc n + j ≡ suc (n + j) = omega arith in rw z (dropped-cell n j xs)

-- a table's first cells, and the rest
front-cells : (xs ys : List ℕ) → length xs ≡ length ys → ((j : ℕ) → j < length xs → get_or xs j 0 ≡ get_or ys j 0) → xs ≡ ys
front-cells [] [] e h = refl
front-cells [] (y ∷ ys) e h = absurd (omega arith)
front-cells (x ∷ xs) [] e h = absurd (omega arith)
front-cells (x ∷ xs) (y ∷ ys) e h = λ i. h 0 (omega arith) i ∷ front-cells xs ys (omega arith) (λ j l. h (suc j) (omega arith)) i

-- the same objects are owned by tasks
owned-row : (os : List Object) (qs : Objects) → SameObjects os qs → (o : ℕ) → o < length os → (k : ℕ) × (x : Object) × (k < task_limit) × (get_elem? qs o ≡ some (owned k x))
owned-row os qs no_objects o l = absurd (omega arith)
owned-row os qs (same_object {k = k} {x = x} t h) zero l = (k, x, t, refl)
owned-row os qs (same_object {os = os'} {qs = qs'} t h) (suc o) l = owned-row os' qs' h o (omega arith)

cells-written : (os : List Object) (qs : Objects) → SameObjects os qs → (i : ℕ) (t : List ℕ) → write_rows put_object os i t ≡ write_rows put_object_row qs i t
unfolding write_rows put_object_row
cells-written os qs no_objects i t = refl
cells-written os qs (same_object {x = x} {os = os'} {qs = qs'} l h) i t = ap (λ (z : List ℕ). put_object z i x) (cells-written os' qs' h (suc i) t)

module _ (u : FirstTables) (t : Tables) (h : Fronts u t) (eight : length u.counts ≡ first_counts_length) (os : List Object) (q : Rows) (g : SameObjects os q.objects) (long : Lengths t) (w : Whole q) (b : Traced q) where
  abbrev counted : List ℕ
  counted = first_counts_of (plain os q)

  abbrev after : List ℕ
  after = (put q t).counts

  counted-length : length (write_rows set counted 0 u.counts) ≡ owners_cell
  counted-length = write_rows-length set length-set counted 0 u.counts ∙ eight

  after-length : length after ≡ counts_length
  after-length = (put-lengths q t long).counts

  same-counts : counts_of q ≡ counted
  unfolding counts_of first_counts_of
  same-counts =
      λ i. length q.classes ∷ length q.kept ∷ length q.cache ∷ length q.ties ∷ length q.subtypes ∷ sym (same_count os q.objects g) i
      ∷ length q.quote ∷ length q.report ∷ []

  counted-cell : (j : ℕ) → j < owners_cell → get_or (write_rows set counted 0 u.counts) j 0 ≡ get_or counted j 0
  unfolding first_counts_of
  counted-cell j l =
      let z : 0 + j ≡ j = omega arith in
      sym (rw z at (rows-get_d (λ i. get_or (write_rows set counted 0 u.counts) i 0) first_counts_length 0 j 0 l))
      ∙ ap (λ (y : List ℕ). get_or y j 0) (rows_back cell-rows counted u.counts (omega arith))

  front : take owners_cell after ≡ write_rows set counted 0 u.counts
  unfolding put
  front = front-cells (take owners_cell after) (write_rows set counted 0 u.counts) (taken-length owners_cell after (omega (arith, after-length)) ∙ sym counted-length)
      (λ j l. (let m : j < owners_cell = omega (arith, taken-length owners_cell after (omega (arith, after-length))) in
      taken-cell owners_cell j after m ∙ (counts-put q t.counts long.counts j m ∙ (ap (λ (z : List ℕ). get_or z j 0) same-counts ∙ sym (counted-cell j m)))))

  owner-after : (o k : ℕ) (x : Object) → get_elem? (view (put q t)).objects o ≡ some (owned k x) → get_or after (owners_cell + o) 0 ≡ suc k
  unfolding view view_over owner_at owner_of
  owner-after o k x e = sym (row-owner (put q t) (view_base (put q t)) o (owned k x) e)

  tasks-after : (o : ℕ) → o < get_or (write_rows set counted 0 u.counts) count_objects 0 → o < object_limit → IsOwner (get_or (drop owners_cell after) o 0)
  unfolding first_counts_of
  tasks-after o l m =
      let r = owned-row os q.objects g o (omega (arith, counted-cell count_objects (omega arith))) in
      let e : get_elem? (view (put q t)).objects o ≡ some (owned r.0 r.1) = ap (λ (z : Rows). get_elem? z.objects o) (view-put q t long w) ∙ r.3 in
      (r.0, r.2, dropped-cell owners_cell o after ∙ owner-after o r.0 r.1 e)

  same-fronts : Fronts (first_put (plain os q) u) (put q t)
  unfolding first_put put
  same-fronts = record {
    behind = drop owners_cell after;
    counts = sym (take-append-drop owners_cell after) ∙ ap (λ (z : List ℕ). z ++ drop owners_cell after) front;
    all = length-drop owners_cell after ∙ (let a : length after ≡ counts_length = after-length in omega arith);
    tasks = tasks-after;
    rest = λ i. tables
        (write_rows set counted 0 u.counts)
        (write_rows put_class_row q.classes 0 (h.rest i).classes)
        (write_rows set q.kept 0 (h.rest i).kept)
        (write_rows put_entry q.cache 0 (h.rest i).cache)
        (write_rows put_tie q.ties 0 (h.rest i).ties)
        (write_rows put_subtype q.subtypes 0 (h.rest i).subtypes)
        ((cells-written os q.objects g 0 u.objects ∙ ap (λ (z : Tables). write_rows put_object_row q.objects 0 z.objects) h.rest) i)
        (write_stack (put_frame_in 1) q.report (write_stack (put_frame_in 0) q.quote (h.rest i).frames));
  }

  pub same-put : Carries (first_put (plain os q) u) (put q t)
  same-put = record { fronts = same-fronts; unbroken = λ _. true-whole q t long w b }

pub same-rows-put : (u : FirstTables) (t : Tables) → Fronts u t → length u.counts ≡ first_counts_length → (r : FirstRows) (q : Rows) → SameRows r q → Lengths t → Whole q → Traced q
    → Carries (first_put r u) (put q t)
same-rows-put u t h eight r q s long w b = rw s.rest (same-put u t h eight r.objects q s.objects long w b)
