-- Today's tables that carry the first document's: what that is, and that then, where they keep no file of a later version, both are broken or both hold the same
-- rows.
use Rattle.std.specs.Prelude.{◌≡◌, Bool, true, false, length, take, replicate, eqb}
use Rattle.std.proofs.Math.Path.{refl, sym, ap}
use Rattle.std.proofs.Common.{◌∙◌, subst, length-append, get_or-append-add}
use Rattle.std.proofs.Math.Bool.{not}
use mathlib.Core.List.{List, [], ◌∷◌, ◌++◌}
use Prim.Native.Nat.{ℕ, zero, suc, ◌+◌, ◌*◌, ◌<◌, ◌≤◌}
use native.Mathlib.Omega.{arith}
use Rattle.std.proofs.Math.ListN.{get_or, get_or-append}
use Rattle.std.proofs.lemmas.List.{length-replicate, get_or-replicate}
use Rattle.std.proofs.Math.Dec.{leb}
use borrow.Author.Tests.{eqb-true, eqb-false, eq-eqb, ne_eqb, leb-true, le-leb, not-false}
use Rattle.definition.specs.Numbers.{task_limit, class_limit, kept_limit, cache_limit, tie_limit, subtype_limit, object_limit, frame_limit, count_classes, count_kept, count_cache, count_ties, count_subtypes, count_objects, count_frames, owners_cell, tie_numbers_cell, subtype_numbers_cell, loads_cell, groups_cell, trace_limit, level_cells, counts_length, classes_length, kept_length, cache_length, ties_length, subtypes_length, objects_length, frames_length, share_limit}
use Rattle.definition.specs.Lists.{every, any, filled, rows, stack}
use Rattle.definition.specs.Groups.{groups_of}
use Rattle.definition.specs.Machine.{made_by}
use Rattle.definition.specs.Classes.{Base}
use Rattle.definition.specs.Tables.{Tables, row_numbers, number_at, numbers_of, shaped, base_of, class_row_at, entry_at, tie_at, subtype_at, object_at, owned_by, owner_at, object_row_at, frame_in, class_rows_of, kept_of, cache_of, ties_of, view_base, objects_of, frames_of, view_over, view}
use Rattle.definition.specs.Broken.{within, in_turn, numbered, trace_fits, grouped, whole, broken}
use Rattle.definition.specs.Calls.{numbers_from}
use Rattle.laws.specs.Arguments.{filled-length}
use Rattle.layout.specs.Places.{rows-length, rows-get_d, rows-cong, rows_take}
use Rattle.layout.specs.GroupedRows.{groups-length, is-grouped}
use Rattle.layout.specs.InTurn.{more-ties, more-subtypes}
use Rattle.layout.specs.Tests.{every_true}
use Rattle.layout.specs.Unbroken.{unbroken, broken-false}
use Rattle.layout.specs.Traced.{trace-fits}
use Rattle.definition.specs.Changeover.{with_counts, no_trace, ties_first, groups_first, carry}
use Rattle.definition.specs.First.Tables.{FirstTables, first_counts_length, first_shaped, FirstRows, first_rows_of, first_objects_of, first_view_over, first_view_base, first_view}
use Rattle.definition.specs.First.Broken.{first_sound, first_within, first_whole, first_broken}
use Rattle.first.specs.SameObjects.{SameObjects, no_objects, same_object}
use Rattle.first.specs.SameBases.{later_row, Early, early, same-classes, fits-early}
use Rattle.first.specs.SameRows.{SameRows, EarlyRows, BesideFits, same-sound}

-- how many cells stand behind the eight counts
abbrev pub beside_length : ℕ
beside_length = object_limit + (tie_limit + (subtype_limit + (1 + trace_limit * level_cells + tie_limit)))

-- an owner cell that says a task, whichever
abbrev pub IsOwner : ℕ → Type 0
IsOwner w = (k : ℕ) × (k < task_limit) × (w ≡ suc k)

-- Today's tables t have what the first document's tables u say
pub record Fronts (u : FirstTables) (t : Tables) : Type 0 where
  -- behind the counts of u stands all that later papers keep: first an owner for each of the 256 rows of objects
  pub behind : List ℕ
  pub counts : t.counts ≡ u.counts ++ behind
  pub all : length behind ≡ beside_length
  -- the owner of an object of u is a task, whichever; what an unused row's cell says doesn't matter
  pub tasks : (o : ℕ) → o < get_or u.counts count_objects 0 → o < object_limit → IsOwner (get_or behind o 0)
  -- the other seven tables are the same
  pub rest : u ≡ with_counts u.counts t

-- Today's tables t say what the first document's tables u say: what stands behind the counts is such that today's machine doesn't call them broken where the first
-- document's doesn't, whichever it is
pub record Carries (u : FirstTables) (t : Tables) : Type 0 where
  pub fronts : Fronts u t
  pub unbroken : first_broken u ≡ false → broken t ≡ false

module _ (c ow : List ℕ) (n m : ℕ) (gs : List ℕ) (eight : length c ≡ owners_cell) (all : length ow ≡ object_limit) (few : n ≤ tie_limit) (less : m ≤ subtype_limit) where
  abbrev cells : List ℕ
  cells = c ++ (ow ++ ties_first n gs)

  cell-behind : (j : ℕ) → get_or cells (tie_numbers_cell + j) 0 ≡ get_or (ties_first n gs) j 0
  cell-behind j =
      let a : tie_numbers_cell + j ≡ length c + (length ow + j) = omega arith in
      rw a (get_or-append-add c (ow ++ ties_first n gs) (length ow + j) 0 ∙ get_or-append-add ow (ties_first n gs) j 0)

  pub tie-numbers : rows (number_at tie_numbers_cell cells) n 0 ≡ numbers_from 0 n
  unfolding number_at
  tie-numbers = rows-cong (number_at tie_numbers_cell cells) (λ i. i) n 0 (λ i _ l.
      let z : 0 + i ≡ i = omega arith in
      cell-behind i ∙ (get_or-append (numbers_from 0 tie_limit) (numbers_from n subtype_limit ++ (no_trace ++ gs)) 0 i (omega (arith, rows-length (λ i. i) tie_limit 0))
      ∙ (rw z at (rows-get_d (λ i. i) tie_limit 0 i 0 (omega arith)))))

  pub subtype-numbers : rows (number_at subtype_numbers_cell cells) m 0 ≡ numbers_from n m
  unfolding number_at rows
  subtype-numbers =
      rows-cong (number_at subtype_numbers_cell cells) (λ i. n + i) m 0 (λ i _ l.
      let a : subtype_numbers_cell + i ≡ tie_numbers_cell + (length (numbers_from 0 tie_limit) + i) = omega (arith, rows-length (λ i. i) tie_limit 0) in
      rw a (cell-behind (length (numbers_from 0 tie_limit) + i) ∙ (get_or-append-add (numbers_from 0 tie_limit) (numbers_from n subtype_limit ++ (no_trace ++ gs)) i 0
      ∙ (get_or-append (numbers_from n subtype_limit) (no_trace ++ gs) 0 i (omega (arith, rows-length (λ i. i) subtype_limit n))
      ∙ rows-get_d (λ i. i) subtype_limit n i 0 (omega arith)))))
      ∙ shifted m 0 n (omega arith)
    where
      shifted : (m i j : ℕ) → j ≡ n + i → rows (λ i. n + i) m i ≡ numbers_from j m
      shifted zero i j e = refl
      shifted (suc m) i j e = λ k. sym e k ∷ shifted m (suc i) (suc j) (omega arith) k

  pub no-loads : get_or cells loads_cell 0 ≡ 0
  no-loads =
      let a : loads_cell ≡ tie_numbers_cell + (length (numbers_from 0 tie_limit) + (length (numbers_from n subtype_limit) + 0)) = omega (arith, rows-length (λ i. i) tie_limit 0, rows-length (λ i. i) subtype_limit n) in
      rw a (cell-behind (length (numbers_from 0 tie_limit) + (length (numbers_from n subtype_limit) + 0))
      ∙ (get_or-append-add (numbers_from 0 tie_limit) (numbers_from n subtype_limit ++ (no_trace ++ gs)) (length (numbers_from n subtype_limit) + 0) 0
      ∙ get_or-append-add (numbers_from n subtype_limit) (no_trace ++ gs) 0 0))

  group-cell : (i : ℕ) → get_or cells (groups_cell + i) 0 ≡ get_or gs i 0
  group-cell i =
      let a : groups_cell + i ≡ tie_numbers_cell + (length (numbers_from 0 tie_limit) + (length (numbers_from n subtype_limit) + (length no_trace + i))) = omega (arith, rows-length (λ i. i) tie_limit 0, rows-length (λ i. i) subtype_limit n, length-replicate {A = ℕ} (1 + trace_limit * level_cells) 0) in
      rw a (cell-behind (length (numbers_from 0 tie_limit) + (length (numbers_from n subtype_limit) + (length no_trace + i)))
      ∙ (get_or-append-add (numbers_from 0 tie_limit) (numbers_from n subtype_limit ++ (no_trace ++ gs)) (length (numbers_from n subtype_limit) + (length no_trace + i)) 0
      ∙ (get_or-append-add (numbers_from n subtype_limit) (no_trace ++ gs) (length no_trace + i) 0 ∙ get_or-append-add no_trace gs i 0)))

  groups-there : (k : ℕ) → k ≤ length gs → rows (number_at groups_cell cells) k 0 ≡ take k gs
  unfolding number_at
  groups-there k l = rows-cong (number_at groups_cell cells) (λ i. get_or gs i 0) k 0 (λ i _ _. group-cell i) ∙ rows_take gs k l

-- ties numbered first are in turn
first-in-turn : (n m : ℕ) → numbered (row_numbers (numbers_from 0 n) (numbers_from n m)) ≡ true
unfolding numbered in_turn
first-in-turn n m =
    rw (rows-length (λ i. i) n 0, rows-length (λ i. i) m n)
    (more-subtypes n 0 m n (n + m) (numbers_from 0 n) [] (omega (arith, rows-length (λ i. i) n 0)) (omega arith) (omega arith)
    (more-ties 0 0 n 0 n [] [] (omega arith) (omega arith) (omega arith) refl))

fronting : (u : FirstTables) → Fronts u (carry u)
fronting u =
    let n : ℕ = get_or u.counts count_ties 0 in
    let ow : List ℕ = replicate object_limit 1 in
    let long : length ow ≡ object_limit = length-replicate {A = ℕ} object_limit 1 in
    let gs : List ℕ = groups_first u in
    record {
      behind = ow ++ ties_first n gs;
      counts = refl;
      all = omega (
        arith,
        length-append ow (ties_first n gs),
        long,
        length-append (numbers_from 0 tie_limit) (numbers_from n subtype_limit ++ (no_trace ++ gs)),
        length-append (numbers_from n subtype_limit) (no_trace ++ gs),
        length-append no_trace gs,
        length-replicate {A = ℕ} (1 + trace_limit * level_cells) 0,
        rows-length (λ i. i) tie_limit 0,
        rows-length (λ i. i) subtype_limit n,
        filled-length tie_limit 0 (groups_of (ties_of u) (numbers_from 0 n)),
      );
      tasks = λ o _ l. (0, omega arith, get_or-append ow (ties_first n gs) 0 o (omega (arith, long)) ∙ get_or-replicate object_limit o 1 0 l);
      rest = refl;
    }

-- their numbers are in turn
carried-turn : (u : FirstTables) → length u.counts ≡ first_counts_length → get_or u.counts count_ties 0 ≤ tie_limit → get_or u.counts count_subtypes 0 ≤ subtype_limit
    → numbered (numbers_of (carry u)) ≡ true
carried-turn u eight few less =
    let n : ℕ = get_or u.counts count_ties 0 in
    let ow : List ℕ = replicate object_limit 1 in
    let long : length ow ≡ object_limit = length-replicate {A = ℕ} object_limit 1 in
    let gs : List ℕ = groups_first u in
    let cell : (j : ℕ) → j < owners_cell → get_or (u.counts ++ (ow ++ ties_first n gs)) j 0 ≡ get_or u.counts j 0 = λ j l. get_or-append u.counts (ow ++ ties_first n gs) 0 j (omega arith) in
    rw (
      cell count_ties (omega arith),
      cell count_subtypes (omega arith),
      tie-numbers u.counts ow n (get_or u.counts count_subtypes 0) gs eight long few less,
      subtype-numbers u.counts ow n (get_or u.counts count_subtypes 0) gs eight long few less,
    )
    (first-in-turn n (get_or u.counts count_subtypes 0))

-- and their groups are those of their ties
filled-front : (k : ℕ) (xs : List ℕ) → length xs ≤ k → take (length xs) (filled k 0 xs) ≡ xs
unfolding filled
filled-front k [] l = refl
filled-front zero (x ∷ xs) l = absurd (omega arith)
filled-front (suc k) (x ∷ xs) l = λ i. x ∷ filled-front k xs (omega (arith, l)) i

carried-groups : (u : FirstTables) → length u.counts ≡ first_counts_length → get_or u.counts count_ties 0 ≤ tie_limit → get_or u.counts count_subtypes 0 ≤ subtype_limit
    → grouped (carry u) ≡ true
carried-groups u eight few less =
    let n : ℕ = get_or u.counts count_ties 0 in
    let ow : List ℕ = replicate object_limit 1 in
    let long : length ow ≡ object_limit = length-replicate {A = ℕ} object_limit 1 in
    let gs : List ℕ = groups_of (ties_of u) (numbers_from 0 n) in
    let many : length gs ≡ n = groups-length (ties_of u) (numbers_from 0 n) ∙ rows-length (tie_at u.ties) n 0 in
    let cell : get_or (u.counts ++ (ow ++ ties_first n (groups_first u))) count_ties 0 ≡ n = get_or-append u.counts (ow ++ ties_first n (groups_first u)) 0 count_ties (omega arith) in
    is-grouped (carry u)
    (ap (λ (m : ℕ). rows (number_at groups_cell (carry u).counts) m 0) cell
    ∙ (groups-there u.counts ow n (get_or u.counts count_subtypes 0) (groups_first u) eight long few less n (omega (arith, filled-length tie_limit 0 gs, few))
    ∙ (ap (λ (m : ℕ). take m (filled tie_limit 0 gs)) (sym many) ∙ (filled-front tie_limit gs (omega (arith, many, few))
    ∙ λ i. groups_of (rows (tie_at u.ties) (sym cell i) 0)
    ((sym (tie-numbers u.counts ow n (get_or u.counts count_subtypes 0) (groups_first u) eight long few less) ∙ ap (λ (m : ℕ). rows (number_at tie_numbers_cell (carry u).counts) m 0) (sym cell)) i)))))

-- the tables keep a file of a later version for a class, or none
unfoldable pub keeps_later : FirstTables → Bool
keeps_later u = any (later_row (kept_of u)) (class_rows_of u)

abbrev pub EarlyTables : FirstTables → Type 0
EarlyTables u = Early (kept_of u) (class_rows_of u)

pub keeps-none : (u : FirstTables) → keeps_later u ≡ false → EarlyTables u
unfolding keeps_later
keeps-none u h = early (kept_of u) (class_rows_of u) h

-- tables that the first document doesn't call broken keep none
pub unbroken-keeps-none : (u : FirstTables) → first_broken u ≡ false → EarlyTables u
unfolding first_broken first_whole first_sound first_view first_view_over
unbroken-keeps-none u h = fits-early (first_view_base u) (kept_of u) (class_rows_of u) (every_true _ (every_true _ (not-false _ h)).1.1.0).0

-- The published lengths

same_length : (n : ℕ) → eqb n first_counts_length ≡ eqb (n + beside_length) counts_length
same_length n = go (eqb n first_counts_length) refl
  where
    go : (b : Bool) → eqb n first_counts_length ≡ b → b ≡ eqb (n + beside_length) counts_length
    go true e = sym (eq-eqb (n + beside_length) counts_length (ap (λ (z : ℕ). z + beside_length) (eqb-true n first_counts_length e)))
    go false e = sym (ne_eqb (n + beside_length) counts_length (λ q. eqb-false n first_counts_length e (omega arith)))

pub same-shaped : (u : FirstTables) (t : Tables) → Fronts u t → first_shaped u ≡ shaped t
unfolding first_shaped shaped
same-shaped u t h =
    let n : length t.counts ≡ length u.counts + beside_length = ap length h.counts ∙ (length-append u.counts h.behind ∙ ap (λ (z : ℕ). length u.counts + z) h.all) in
    let e : eqb (length u.counts) first_counts_length ≡ eqb (length t.counts) counts_length = same_length (length u.counts) ∙ ap (λ (z : ℕ). eqb z counts_length) (sym n) in
    λ i. every
    (e i
    ∷ eqb (length (h.rest i).classes) classes_length
    ∷ eqb (length (h.rest i).kept) kept_length
    ∷ eqb (length (h.rest i).cache) cache_length
    ∷ eqb (length (h.rest i).ties) ties_length
    ∷ eqb (length (h.rest i).subtypes) subtypes_length
    ∷ eqb (length (h.rest i).objects) objects_length
    ∷ eqb (length (h.rest i).frames) frames_length
    ∷ [])

-- Reading. The eight counts are where they were.

-- rows whose owners are tasks hold the same objects
same_read : (b : Base) (n t : List ℕ) (k i : ℕ) → ((m : ℕ) → i ≤ m → m < i + k → IsOwner (owner_at n m)) → SameObjects (rows (object_at b t) k i) (rows (object_row_at b n t) k i)
unfolding rows object_row_at owned_by
same_read b n t zero i h = no_objects
same_read b n t (suc k) i h =
    let w = h i (omega arith) (omega arith) in
    rw w.2 (same_object w.1 (same_read b n t k (suc i) (λ m a l. h m (omega arith) (omega arith))))

-- one more test that passes where the others do
every_more : (xs : List Bool) (b : Bool) → (every xs ≡ true → b ≡ true) → every xs ≡ every (xs ++ (b ∷ []))
unfolding every
every_more [] b h = sym (rw (h refl) refl)
every_more (true ∷ xs) b h = every_more xs b h
every_more (false ∷ xs) b h = refl

module _ (u : FirstTables) (t : Tables) (h : Fronts u t) (early-u : EarlyTables u) (eight : length u.counts ≡ first_counts_length) where
  same-cell : (j : ℕ) → j < first_counts_length → get_or u.counts j 0 ≡ get_or t.counts j 0
  same-cell j l = sym (ap (λ (z : List ℕ). get_or z j 0) h.counts ∙ get_or-append u.counts h.behind 0 j (omega arith))

  same-owner : (o : ℕ) → owner_at t.counts o ≡ get_or h.behind o 0
  unfolding owner_at
  same-owner o = ap (λ (z : List ℕ). get_or z (owners_cell + o) 0) h.counts ∙ (rw eight at (get_or-append-add u.counts h.behind o 0))

  same-within : (first_within u.counts ≡ true → leb (get_or t.counts loads_cell 0) trace_limit ≡ true) → first_within u.counts ≡ within t.counts
  unfolding first_within within
  same-within few = every_more _ (leb (get_or t.counts loads_cell 0) trace_limit) few ∙ λ i. every
      (leb (same-cell count_classes (omega arith) i) class_limit
      ∷ leb (same-cell count_kept (omega arith) i) kept_limit
      ∷ leb (same-cell count_cache (omega arith) i) cache_limit
      ∷ leb (same-cell count_ties (omega arith) i) tie_limit
      ∷ leb (same-cell count_subtypes (omega arith) i) subtype_limit
      ∷ leb (same-cell count_objects (omega arith) i) object_limit
      ∷ leb (same-cell count_frames (omega arith) i) frame_limit
      ∷ leb (same-cell (count_frames + 1) (omega arith) i) frame_limit
      ∷ leb (get_or t.counts loads_cell 0) trace_limit
      ∷ [])

  read-base : first_view_base u ≡ view_base u
  read-base = λ i. record { classes = same-classes (kept_of u) (class_rows_of u) early-u i; cache = cache_of u }

  carried-base : view_base u ≡ view_base t
  carried-base = λ i. base_of
      (rows (class_row_at (h.rest i).classes) (same-cell count_classes (omega arith) i) 0)
      (rows (λ j. get_or (h.rest i).kept j 0) (same-cell count_kept (omega arith) i) 0)
      (rows (entry_at (h.rest i).cache) (same-cell count_cache (omega arith) i) 0)

  same_base : first_view_base u ≡ view_base t
  same_base = read-base ∙ carried-base

  same-objects : get_or u.counts count_objects 0 ≤ object_limit → SameObjects (first_objects_of (first_view_base u) u) (objects_of (view_base t) t)
  unfolding first_objects_of objects_of
  same-objects few =
      let e : rows (object_at (first_view_base u) u.objects) (get_or u.counts count_objects 0) 0 ≡ rows (object_at (view_base t) t.objects) (get_or t.counts count_objects 0) 0 =
      λ i. rows (object_at (same_base i) (h.rest i).objects) (same-cell count_objects (omega arith) i) 0 in
      rw e (same_read (view_base t) t.counts t.objects (get_or t.counts count_objects 0) 0
      (λ m _ l. rw (same-owner m) (h.tasks m (omega (arith, same-cell count_objects (omega arith))) (omega (arith, same-cell count_objects (omega arith))))))

  pub same_view : get_or u.counts count_objects 0 ≤ object_limit → SameRows (first_view u) (view t)
  unfolding first_view first_view_over view view_over frames_of
  same_view few = record {
    rest = λ i. first_rows_of
        (rows (class_row_at (h.rest i).classes) (same-cell count_classes (omega arith) i) 0)
        (rows (λ j. get_or (h.rest i).kept j 0) (same-cell count_kept (omega arith) i) 0)
        (rows (entry_at (h.rest i).cache) (same-cell count_cache (omega arith) i) 0)
        (rows (tie_at (h.rest i).ties) (same-cell count_ties (omega arith) i) 0)
        (rows (subtype_at (h.rest i).subtypes) (same-cell count_subtypes (omega arith) i) 0)
        (first_objects_of (first_view_base u) u)
        (stack (frame_in (h.rest i).frames 0) (same-cell count_frames (omega arith) i))
        (stack (frame_in (h.rest i).frames 1) (same-cell (count_frames + 1) (omega arith) i));
    objects = same-objects few;
  }

-- 'Broken'

-- tests in sequence: the second is asked only where the first passed
in-turn : (a b : Bool) (xs ys : List Bool) → a ≡ b → (a ≡ true → every xs ≡ every ys) → every (a ∷ xs) ≡ every (b ∷ ys)
unfolding every
in-turn true b xs ys e k = rw (← e) (k refl)
in-turn false b xs ys e k = rw (← e) refl

pub early-rows : (u : FirstTables) (t : Tables) → EarlyTables u → SameRows (first_view u) (view t) → EarlyRows (view t)
unfolding first_view first_view_over
early-rows u t e r = subst (λ (z : FirstRows). Early z.kept z.classes) r.rest e

-- the trace passes: at most 32 loads, and each turn leaves sound rows; and the groups are right
abbrev pub SectionsFit : Tables → Type 0
SectionsFit t = (leb (get_or t.counts loads_cell 0) trace_limit ≡ true) × (trace_fits (view t).trace (view t) ≡ true) × (grouped t ≡ true)

module _ (u : FirstTables) (t : Tables) (h : Fronts u t) where
  pub eight-counts : first_shaped u ≡ true → length u.counts ≡ first_counts_length
  unfolding first_shaped
  eight-counts s = eqb-true _ _ (every_true _ s).0

  -- of the first document's lengths, and counts within the limits: both hold the same rows
  same_rows : EarlyTables u → first_shaped u ≡ true → first_within u.counts ≡ true → SameRows (first_view u) (view t)
  unfolding first_within
  same_rows e s w = same_view u t h e (eight-counts s) (leb-true _ _ (every_true _ w).1.1.1.1.1.0)

  -- where what stands beside the rows passes, if the first document's tests do, both are broken or neither is
  alike-broken : EarlyTables u → (first_shaped u ≡ true → first_within u.counts ≡ true → BesideFits (view t) × SectionsFit t) → first_broken u ≡ broken t
  unfolding first_broken broken first_whole whole
  alike-broken e turn = ap not
      (in-turn _ _ _ _ (same-shaped u t h) (λ s. in-turn _ _ _ _ (same-within u t h e (eight-counts s) (λ w. (turn s w).1.0)) (λ w.
      let r = same_rows e s w in
      every_more _ (trace_fits (view t).trace (view t)) (λ _. (turn s w).1.1)
      ∙ (every_more (_ ∷ trace_fits (view t).trace (view t) ∷ []) (grouped t) (λ _. (turn s w).1.2)
      ∙ ap (λ (z : Bool). every (z ∷ trace_fits (view t).trace (view t) ∷ grouped t ∷ [])) (ap first_sound r.rest ∙ same-sound (first_view u).objects (view t) r.objects (turn s w).0 (early-rows u t e r))))))

  -- a store that isn't broken
  pub record SameStore : Type 0 where
    pub eight : length u.counts ≡ first_counts_length
    pub rows : SameRows (first_view u) (view t)

  pub same_store : EarlyTables u → first_broken u ≡ false → SameStore
  unfolding first_broken first_whole
  same_store x e = let p = every_true _ (not-false _ e) in record { eight = eight-counts p.0; rows = same_rows x p.0 p.1.0 }

-- what today's machine doesn't call broken passes
beside-unbroken : (t : Tables) → broken t ≡ false → BesideFits (view t) × SectionsFit t
beside-unbroken t b =
    let x = broken-false t b in
    let w = x.1 in
    ((w.numbers.turn, le-leb (made_by 1 (view t).objects) share_limit w.share), (le-leb _ trace_limit (unbroken t b).counts.trace, trace-fits (view t).trace (view t) x.2, (unbroken t b).groups))

pub same-broken : (u : FirstTables) (t : Tables) → Carries u t → EarlyTables u → first_broken u ≡ broken t
same-broken u t h e = go (first_broken u) refl (broken t) refl
  where
    go : (a : Bool) → first_broken u ≡ a → (b : Bool) → broken t ≡ b → first_broken u ≡ broken t
    go false p b q = p ∙ sym (h.unbroken p)
    go true p true q = p ∙ sym q
    go true p false q = alike-broken u t h.fronts e (λ _ _. beside-unbroken t q)

-- where the quote owns every row, none is the report's
pub none_made : (b : Base) (n t : List ℕ) (k i : ℕ) → ((m : ℕ) → i ≤ m → m < i + k → owner_at n m ≡ 1) → made_by 1 (rows (object_row_at b n t) k i) ≡ 0
unfolding rows object_row_at owned_by made_by
none_made b n t zero i h = refl
none_made b n t (suc k) i h = rw (h i (omega arith) (omega arith)) (none_made b n t k (suc i) (λ m a l. h m (omega arith) (omega arith)))

-- every tables of the first document are carried: the quote owns every object
pub carrying : (u : FirstTables) → Carries u (carry u)
unfolding first_within view view_over objects_of fronting trace_fits stack
carrying u = record { fronts = f; unbroken = λ e. sym (alike-broken u (carry u) f (unbroken-keeps-none u e) (beside (unbroken-keeps-none u e))) ∙ e }
  where
    f : Fronts u (carry u)
    f = fronting u

    beside : EarlyTables u → first_shaped u ≡ true → first_within u.counts ≡ true → BesideFits (view (carry u)) × SectionsFit (carry u)
    beside x s w =
        let p = every_true _ w in
        let eight = eight-counts u (carry u) f s in
        let few : get_or u.counts count_objects 0 ≤ object_limit = leb-true _ _ p.1.1.1.1.1.0 in
        let ow : List ℕ = replicate object_limit 1 in
        let long : length ow ≡ object_limit = length-replicate {A = ℕ} object_limit 1 in
        let cell = get_or-append u.counts f.behind 0 count_objects (omega arith) in
        let none = none_made (view_base (carry u)) (carry u).counts u.objects (get_or (carry u).counts count_objects 0) 0
        (λ m _ l. same-owner u (carry u) f x eight m
        ∙ (get_or-append ow (ties_first (get_or u.counts count_ties 0) (groups_first u)) 0 m (omega (arith, long)) ∙ get_or-replicate object_limit m 1 0 (omega arith))) in
        let ties = leb-true _ _ p.1.1.1.0 in
        let subtypes = leb-true _ _ p.1.1.1.1.0 in
        let loads = no-loads u.counts ow (get_or u.counts count_ties 0) (get_or u.counts count_subtypes 0) (groups_first u) eight long ties subtypes in
        ((carried-turn u eight ties subtypes, rw none refl), (rw loads refl, rw loads refl, carried-groups u eight ties subtypes))
