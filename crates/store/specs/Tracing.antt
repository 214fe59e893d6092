-- The trace tested without taking a load back: each level lies under the one above it, and what each leaves of the tables ends before its counts: files of its
-- classes, the entries of their superclasses, the classes of its entries, of objects and of frames, and the numbers of its rows. Each of these is one greatest
-- number, so no level is tested against every row.
use Rattle.std.specs.Prelude.{◌≡◌, Bool, true, false, List, [], ◌∷◌, take, leb, ltb}
use Rattle.std.proofs.Math.Path.{refl, ap, subst}
use Rattle.std.proofs.Common.{sym, ◌∙◌, length-take-le}
use Rattle.std.proofs.Math.Option.{some, some-injective}
use Prim.Native.Nat.{ℕ, zero, suc, ◌+◌, ◌-◌, ◌*◌, ◌≤◌, ◌<◌, max}
use native.Mathlib.Omega.{arith}
use Rattle.std.proofs.Math.ListN.{length, get_elem?, get_or, length-map}
use borrow.Author.Tests.{leb-true, le-leb, lt-leb, ltb-true, lt-ltb, ltb-false}
use Rattle.definition.specs.Numbers.{count_classes, count_cache, count_objects, count_frames, tie_numbers_cell, subtype_numbers_cell, loads_cell, trace_cell, level_cells, object_cells}
use Rattle.definition.specs.Lists.{every, all, rows, stack}
use Rattle.definition.specs.Requests.{at}
use Rattle.definition.specs.Instructions.{pick}
use Rattle.definition.specs.Classes.{Base, Class, Entry, find}
use Rattle.definition.specs.Machine.{Frame}
use Rattle.definition.specs.Broken.{numbered, trace_fits}
use Rattle.definition.specs.Tables.{Tables, ClassRow, RowNumbers, row_numbers, Level, level, Rows, level_of, tie_at, subtype_at, class_at, class_row_at, entry_at, owned_by, owner_at, object_at, object_row_at, number_at, level_at, frame_in, kept_of, class_rows_of, cache_of, objects_of, frames_of, view_base, view_over, view}
use Rattle.laws.specs.Agreement.{super-is}
use Rattle.layout.specs.InTurn.{RisesFrom, in-turn-words, numbers-below, first-turn}
use Rattle.layout.specs.Places.{rows-length, rows-there, rows-part, all-rows, rows_all, all-stack, stack-all}
use Rattle.layout.specs.Tests.{All, every_true, true-every, same_test, all-all, all-test}
use Rattle.classfile.specs.Lists.{every_first, every-fails, every-last}
use Rattle.layout.specs.Traced.{Under, fits-trace, trace-fits}
use Rattle.layout.specs.Whole.{First, ClassSound, Whole}
use Rattle.unbroken.specs.CutFits.{RowBelow, CutFits, Lower, Falls, falls-traced, traced-falls}
use Rattle.resolution.specs.Cached.{row_of, super_row, taken-row, row-taken}
use Rattle.resolution.specs.Unbroken.{row_first, row_other}

-- The greatest of numbers

-- the greatest of m and of f at the k places from i on
unfoldable pub highest : (ℕ → ℕ) → ℕ → ℕ → ℕ → ℕ
highest f i zero m = m
highest f i (suc k) m = highest f (suc i) k (max m (f i))

-- at the first n places
abbrev pub most : (ℕ → ℕ) → ℕ → ℕ
most f n = highest f 0 n 0

pub highest-within : (f : ℕ → ℕ) (i k m z : ℕ) → highest f i k m ≤ z → (m ≤ z) × ((j : ℕ) → i ≤ j → j < i + k → f j ≤ z)
unfolding highest
highest-within f i zero m z h = (h, λ j a b. absurd (omega arith))
highest-within f i (suc k) m z h =
    let r = highest-within f (suc i) k (max m (f i)) z h in
    (omega (arith, r.0), λ j l g. here j l g (omega (arith, r.0)) r.1)
  where
    here : (j : ℕ) → i ≤ j → j < i + suc k → f i ≤ z → ((j : ℕ) → suc i ≤ j → j < suc i + k → f j ≤ z) → f j ≤ z
    here j l g x r = go (ltb i j) refl
      where
        go : (t : Bool) → ltb i j ≡ t → f j ≤ z
        go true e = r j (omega (arith, ltb-true i j e)) (omega arith)
        go false e = let q : i ≡ j = omega (arith, ltb-false i j e) in subst (λ (n : ℕ). f n ≤ z) q x

pub within-highest : (f : ℕ → ℕ) (i k m z : ℕ) → m ≤ z → ((j : ℕ) → i ≤ j → j < i + k → f j ≤ z) → highest f i k m ≤ z
unfolding highest
within-highest f i zero m z l h = l
within-highest f i (suc k) m z l h =
    within-highest f (suc i) k (max m (f i)) z (let here : f i ≤ z = h i (omega arith) (omega arith) in omega (arith, here)) (λ j a b. h j (omega arith) (omega arith))

pub most-within : (f : ℕ → ℕ) (n z : ℕ) → most f n ≤ z → (j : ℕ) → j < n → f j ≤ z
most-within f n z h j l = (highest-within f 0 n 0 z h).1 j (omega arith) (omega arith)

pub within-most : (f : ℕ → ℕ) (n z : ℕ) → ((j : ℕ) → j < n → f j ≤ z) → most f n ≤ z
within-most f n z h = within-highest f 0 n 0 z (omega arith) (λ j a b. h j (omega arith))

-- from place i on, where the greatest before it is known
highest-on : (f : ℕ → ℕ) (i k n m : ℕ) → highest f (i + k) n (highest f i k m) ≡ highest f i (k + n) m
unfolding highest
highest-on f i zero n m = let e : i + 0 ≡ i = omega arith in let z : 0 + n ≡ n = omega arith in rw (e, z)
highest-on f i (suc k) n m = let e : i + suc k ≡ suc i + k = omega arith in let z : suc k + n ≡ suc (k + n) = omega arith in rw (e, z) (highest-on f (suc i) k n (max m (f i)))

pub most-on : (f : ℕ → ℕ) (i n m : ℕ) → i ≤ n → m ≡ most f i → highest f i (n - i) m ≡ most f n
most-on f i n m l e =
    let z : 0 + i ≡ i = omega arith in
    let s : i + (n - i) ≡ n = omega arith in
    ap (highest f i (n - i)) e ∙ (ap (λ (j : ℕ). highest f j (n - i) (most f i)) (sym z) ∙ (highest-on f 0 i (n - i) 0 ∙ ap (λ (j : ℕ). highest f 0 j 0) s))

-- a loop's turn, from place i on, of n
pub highest-step : (f : ℕ → ℕ) (i n m : ℕ) → i < n → highest f i (n - i) m ≡ highest f (i + 1) (n - (i + 1)) (max m (f i))
unfolding highest
highest-step f i n m h = let e : n - i ≡ suc (n - (i + 1)) = omega arith in let z : i + 1 ≡ suc i = omega arith in rw (e, z)

pub highest-end : (f : ℕ → ℕ) (i n m : ℕ) → n ≤ i → highest f i (n - i) m ≡ m
unfolding highest
highest-end f i n m h = let e : n - i ≡ 0 = omega arith in rw e

-- Levels, each under the one above it

unfoldable pub under : Level → Level → Bool
under l m = every
    (leb l.classes m.classes
    ∷ leb l.kept m.kept
    ∷ leb l.cache m.cache
    ∷ leb l.ties m.ties
    ∷ leb l.subtypes m.subtypes
    ∷ [])

under-lower : (l m : Level) → under l m ≡ true → Lower l m
unfolding under
under-lower l m h =
    let p = every_true _ h in
    record {
      classes = leb-true _ _ p.0;
      kept = leb-true _ _ p.1.0;
      cache = leb-true _ _ p.1.1.0;
      ties = leb-true _ _ p.1.1.1.0;
      subtypes = leb-true _ _ p.1.1.1.1.0;
    }

lower-under : (l m : Level) → Lower l m → under l m ≡ true
unfolding under
lower-under l m h = true-every _ (le-leb _ _ h.classes, (le-leb _ _ h.kept, (le-leb _ _ h.cache, (le-leb _ _ h.ties, (le-leb _ _ h.subtypes, tt)))))

-- row n - 1 lies under m, and each row under the next
unfoldable pub falling : (ℕ → Level) → ℕ → Level → Bool
falling g zero m = true
falling g (suc n) m = every (under (g n) m ∷ falling g n (g n) ∷ [])

lower-lower : (l m n : Level) → Lower l m → Lower m n → Lower l n
lower-lower l m n a b = record {
  classes = omega (arith, a.classes, b.classes);
  kept = omega (arith, a.kept, b.kept);
  cache = omega (arith, a.cache, b.cache);
  ties = omega (arith, a.ties, b.ties);
  subtypes = omega (arith, a.subtypes, b.subtypes);
}

falling-all : (g : ℕ → Level) (n : ℕ) (m : Level) → falling g n m ≡ true → All (λ l. Lower l m) (stack g n)
unfolding falling stack
falling-all g zero m h = tt
falling-all g (suc n) m h =
    let p = every_true _ h in
    let a = under-lower (g n) m p.0 in
    (a, all-through (stack g n) (falling-all g n (g n) p.1.0) a)
  where
    all-through : (ls : List Level) → All (λ l. Lower l (g n)) ls → Lower (g n) m → All (λ l. Lower l m) ls
    all-through [] x a = tt
    all-through (l ∷ ls) x a = (lower-lower l (g n) m x.0 a, all-through ls x.1 a)

falls-split : (g : ℕ → Level) (n : ℕ) (m : Level) (r : Rows) → Falls m (stack g n) r → (falling g n m ≡ true) × All (λ l. CutFits l r) (stack g n)
unfolding falling stack
falls-split g zero m r h = (refl, tt)
falls-split g (suc n) m r h = let p = falls-split g n (g n) r h.2 in (true-every _ (lower-under (g n) m h.0, (p.0, tt)), (h.1, p.1))

split-falls : (g : ℕ → Level) (n : ℕ) (m : Level) (r : Rows) → falling g n m ≡ true → All (λ l. CutFits l r) (stack g n) → Falls m (stack g n) r
unfolding falling stack
split-falls g zero m r h a = tt
split-falls g (suc n) m r h a = let p = every_true _ h in (under-lower (g n) m p.0, a.0, split-falls g n (g n) r p.1.0 a.1)

-- What a level leaves

-- where the file of class c ends
unfoldable pub file_end : List ℕ → ℕ → ℕ
file_end classes c = (class_row_at classes c).start + (class_row_at classes c).size

-- past the row of the entry of its superclass; Object has none
unfoldable pub super_end : Base → ℕ → ℕ
super_end b zero = 0
super_end b (suc c) = pick (ltb (suc c) (length b.classes)) (super_row b (suc c) + 1) 0

unfoldable pub cell_at : List ℕ → ℕ → ℕ
cell_at t i = get_or t i 0

-- past the class of an entry, of an object and of a frame
unfoldable pub entry_end : List ℕ → ℕ → ℕ
entry_end cache i = (entry_at cache i).class + 1

unfoldable pub object_end : List ℕ → List ℕ → ℕ → ℕ
object_end counts objects o = elim (owner_at counts o) [ zero ↦ 0 | suc k ↦ get_or objects (o * object_cells) 0 + 1 ]

unfoldable pub frame_end : List ℕ → ℕ → ℕ → ℕ
frame_end frames k i = (frame_in frames k i).class + 1

-- past the classes of all objects and frames
unfoldable pub held_end : List ℕ → List ℕ → List ℕ → ℕ
held_end counts objects frames =
    highest (frame_end frames 1) 0 (get_or counts (count_frames + 1) 0)
    (highest (frame_end frames 0) 0 (get_or counts count_frames 0) (most (object_end counts objects) (get_or counts count_objects 0)))

-- the last of the first n numbers of a section is below k; they rise, so all are
unfoldable pub last_below : List ℕ → ℕ → ℕ → ℕ → Bool
last_below counts s zero k = true
last_below counts s (suc n) k = ltb (number_at s counts n) k

unfoldable pub leaves : List ℕ → ℕ → ℕ → ℕ → ℕ → Level → Bool
leaves counts files supers entries held l = every
    (leb files l.kept
    ∷ leb supers l.cache
    ∷ leb entries l.classes
    ∷ leb held l.classes
    ∷ last_below counts tie_numbers_cell l.ties (l.ties + l.subtypes)
    ∷ last_below counts subtype_numbers_cell l.subtypes (l.ties + l.subtypes)
    ∷ [])

-- where `supers` says which row lies past the entry of a class's superclass
unfoldable pub level_leaves : (ℕ → ℕ) → List ℕ → List ℕ → List ℕ → ℕ → Level → Bool
level_leaves supers counts classes cache held l =
    leaves counts (most (file_end classes) l.classes) (most supers l.classes) (most (entry_end cache) l.cache) held l

-- the level whose five counts stand from a cell on
unfoldable pub level_from : List ℕ → ℕ → Level
level_from counts c = level (get_or counts c 0) (get_or counts (c + 1) 0) (get_or counts (c + 2) 0) (get_or counts (c + 3) 0) (get_or counts (c + 4) 0)

unfoldable pub trace_quick : (ℕ → ℕ) → List ℕ → List ℕ → List ℕ → List ℕ → List ℕ → Bool
trace_quick supers counts classes cache objects frames = every
    (falling (level_at counts) (get_or counts loads_cell 0) (level_from counts 0)
    ∷ all (level_leaves supers counts classes cache (held_end counts objects frames)) (rows (level_at counts) (get_or counts loads_cell 0) 0)
    ∷ [])

-- Numbers

taken-rows : {A : Type 0} (g : ℕ → A) (k n : ℕ) → k ≤ n → take k (rows g n 0) ≡ rows g k 0
taken-rows g k n l = let z : 0 + 0 ≡ 0 = omega arith in rw z at (rows-part g n 0 k 0 (omega arith))

rises-above : (g : ℕ → ℕ) (k n i : ℕ) → RisesFrom k (rows g n i) → (m : ℕ) → m < n → k ≤ g (i + m)
unfolding rows
rises-above g k zero i h m l = absurd (omega arith)
rises-above g k (suc n) i h zero l = let e : i + 0 ≡ i = omega arith in rw e h.0
rises-above g k (suc n) i h (suc m) l = let e : i + suc m ≡ suc i + m = omega arith in rw e (omega (arith, h.0, rises-above g (suc (g i)) n (suc i) h.1 m (omega arith)))

rises-upward : (g : ℕ → ℕ) (k n i : ℕ) → RisesFrom k (rows g n i) → (j m : ℕ) → j ≤ m → m < n → g (i + j) ≤ g (i + m)
unfolding rows
rises-upward g k zero i h j m a l = absurd (omega arith)
rises-upward g k (suc n) i h zero zero a l = omega arith
rises-upward g k (suc n) i h zero (suc m) a l =
    let e : i + suc m ≡ suc i + m = omega arith in
    let z : i + 0 ≡ i = omega arith in
    rw (e, z) (omega (arith, rises-above g (suc (g i)) n (suc i) h.1 m (omega arith)))
rises-upward g k (suc n) i h (suc j) zero a l = absurd (omega arith)
rises-upward g k (suc n) i h (suc j) (suc m) a l =
    let e : i + suc m ≡ suc i + m = omega arith in
    let z : i + suc j ≡ suc i + j = omega arith in
    rw (e, z) (rises-upward g (suc (g i)) n (suc i) h.1 j m (omega arith) (omega arith))

module _ (counts : List ℕ) (s n : ℕ) where
  abbrev number : ℕ → ℕ
  number = number_at s counts

  last-all : (a k : ℕ) → a ≤ n → RisesFrom 0 (rows number n 0) → last_below counts s a k ≡ true → All (λ i. i < k) (take a (rows number n 0))
  unfolding last_below
  last-all zero k l h e = tt
  last-all (suc a) k l h e =
      rw (taken-rows number (suc a) n l)
      (rows_all (λ i. i < k) number (suc a) 0 (λ m x y.
      let z : 0 + m ≡ m = omega arith in
      let w : 0 + a ≡ a = omega arith in
      let upward : number m ≤ number a = rw (z, w) at (rises-upward number 0 n 0 h m a (omega arith) (omega arith)) in
      omega (arith, ltb-true (number a) k e, upward)))

  all-last : (a k : ℕ) → a ≤ n → All (λ i. i < k) (take a (rows number n 0)) → last_below counts s a k ≡ true
  unfolding last_below
  all-last zero k l h = refl
  all-last (suc a) k l h =
      let z : 0 + a ≡ a = omega arith in
      lt-ltb (number a) k (rw z at (all-rows (λ i. i < k) number (suc a) 0 (rw (taken-rows number (suc a) n l) at h) a (omega arith)))

-- A level of a store's rows

module _ (t : Tables) (w : Whole (view t)) (l : Level) (u : Under l (view t)) where
  abbrev counts : List ℕ
  counts = t.counts

  abbrev b : Base
  b = view_base t

  abbrev row_at : ℕ → ClassRow
  row_at c = class_row_at t.classes c

  abbrev n : ℕ
  n = get_or counts count_classes 0

  classes-there : l.classes ≤ n
  unfolding view view_over
  classes-there = rw (rows-length (class_row_at t.classes) n 0) at u.classes

  entries-there : l.cache ≤ get_or counts count_cache 0
  unfolding view view_over
  entries-there = rw (rows-length (entry_at t.cache) (get_or counts 2 0) 0) at u.cache

  -- a class that is left, but Object
  sound-class : (c : ℕ) → 0 < c → c < l.classes → ClassSound b (kept_of t) c (row_at c)
  unfolding view view_over
  sound-class c z m = row_other b (kept_of t) (class_row_at t.classes) n w.classes c z (omega (arith, classes-there))

  same_row : (c : ℕ) (k : ClassRow) → c < l.classes → get_elem? (class_rows_of t) c ≡ some k → row_at c ≡ k
  same_row c k m e = some-injective (row_at c) k (sym (rows-there (class_row_at t.classes) n c (omega (arith, classes-there))) ∙ e)

  -- the entry of its superclass
  super-row : (c : ℕ) (k : Class) → get_elem? b.classes c ≡ some k → super_row b c ≡ row_of b.cache (at k.loader k.super)
  unfolding super_row
  super-row c k e = rw (e, super_row)

  super-end : (c : ℕ) → 0 < c → c < l.classes → super_end b c ≡ super_row b c + 1
  unfolding super_end pick
  super-end zero z m = absurd (omega arith)
  super-end (suc c) z m = rw (lt-ltb (suc c) (length b.classes) (omega (arith, classes-there, length-map (class_rows_of t) (class_at (kept_of t)), rows-length (class_row_at t.classes) n 0)), pick)

  record Left (held : ℕ) : Type 0 where
    files : most (file_end t.classes) l.classes ≤ l.kept
    supers : most (super_end b) l.classes ≤ l.cache
    entries : most (entry_end t.cache) l.cache ≤ l.classes
    holds : held ≤ l.classes
    tied : last_below counts tie_numbers_cell l.ties (l.ties + l.subtypes) ≡ true
    noted : last_below counts subtype_numbers_cell l.subtypes (l.ties + l.subtypes) ≡ true

  left-said : (held : ℕ) → level_leaves (super_end b) counts t.classes t.cache held l ≡ true → Left held
  unfolding level_leaves leaves
  left-said held h =
      let p = every_true _ h in
      record { files = leb-true _ _ p.0; supers = leb-true _ _ p.1.0; entries = leb-true _ _ p.1.1.0; holds = leb-true _ _ p.1.1.1.0; tied = p.1.1.1.1.0; noted = p.1.1.1.1.1.0 }

  said-left : (held : ℕ) → Left held → level_leaves (super_end b) counts t.classes t.cache held l ≡ true
  unfolding level_leaves leaves
  said-left held h = true-every _ (le-leb _ _ h.files, (le-leb _ _ h.supers, (le-leb _ _ h.entries, (le-leb _ _ h.holds, (h.tied, (h.noted, tt))))))

  -- objects and frames

  abbrev held : ℕ
  held = held_end counts t.objects t.frames

  row_below : (o : ℕ) → object_end counts t.objects o ≤ l.classes → RowBelow l.classes (object_row_at b counts t.objects o)
  unfolding object_end object_row_at owned_by object_at
  row_below o h = go (owner_at counts o) h
    where
      go : (x : ℕ) → (elim x as (λ _. ℕ) [ zero ↦ 0 | suc k ↦ get_or t.objects (o * object_cells) 0 + 1 ]) ≤ l.classes → RowBelow l.classes (owned_by x (object_at b t.objects o))
      go zero h = tt
      go (suc k) h = omega (arith, h)

  below_row : (o : ℕ) → RowBelow l.classes (object_row_at b counts t.objects o) → object_end counts t.objects o ≤ l.classes
  unfolding object_end object_row_at owned_by object_at
  below_row o h = go (owner_at counts o) h
    where
      go : (x : ℕ) → RowBelow l.classes (owned_by x (object_at b t.objects o)) → (elim x as (λ _. ℕ) [ zero ↦ 0 | suc k ↦ get_or t.objects (o * object_cells) 0 + 1 ]) ≤ l.classes
      go zero h = omega arith
      go (suc k) h = omega (arith, h)

  record Held : Type 0 where
    objects : All (RowBelow l.classes) (objects_of b t)
    quote : All (λ (f : Frame). f.class < l.classes) (frames_of t 0)
    report : All (λ (f : Frame). f.class < l.classes) (frames_of t 1)

  held-said : held ≤ l.classes → Held
  unfolding held_end frame_end objects_of frames_of
  held-said h =
      let p = highest-within (frame_end t.frames 1) 0 (get_or counts (count_frames + 1) 0) _ l.classes h in
      let q = highest-within (frame_end t.frames 0) 0 (get_or counts count_frames 0) _ l.classes p.0 in
      let o = most-within (object_end counts t.objects) (get_or counts count_objects 0) l.classes q.0 in
      record {
        objects = rows_all (RowBelow l.classes) (object_row_at b counts t.objects) (get_or counts count_objects 0) 0 (λ m x y. row_below m (o m (omega arith)));
        quote = stack-all (λ (f : Frame). f.class < l.classes) (frame_in t.frames 0) (get_or counts count_frames 0) (λ i x. omega (arith, q.1 i (omega arith) (omega arith)));
        report = stack-all (λ (f : Frame). f.class < l.classes) (frame_in t.frames 1) (get_or counts (count_frames + 1) 0) (λ i x. omega (arith, p.1 i (omega arith) (omega arith)));
      }

  said-held : Held → held ≤ l.classes
  unfolding held_end frame_end objects_of frames_of
  said-held h =
      within-highest (frame_end t.frames 1) 0 (get_or counts (count_frames + 1) 0) _ l.classes
      (within-highest (frame_end t.frames 0) 0 (get_or counts count_frames 0) _ l.classes
      (within-most (object_end counts t.objects) (get_or counts count_objects 0) l.classes (λ o x. below_row o (let z : 0 + o ≡ o = omega arith in rw z at (all-rows (RowBelow l.classes) (object_row_at b counts t.objects) (get_or counts count_objects 0) 0 h.objects o x))))
      (λ i x y. omega (arith, all-stack (λ (f : Frame). f.class < l.classes) (frame_in t.frames 0) (get_or counts count_frames 0) h.quote i (omega arith))))
      (λ i x y. omega (arith, all-stack (λ (f : Frame). f.class < l.classes) (frame_in t.frames 1) (get_or counts (count_frames + 1) 0) h.report i (omega arith)))

  -- superclasses

  supers-said : most (super_end b) l.classes ≤ l.cache → (c : ℕ) (k : Class) → 0 < c → c < l.classes → get_elem? b.classes c ≡ some k
      → (p : ℕ) × (find (take l.cache (cache_of t)) (at k.loader k.super) ≡ some p)
  supers-said h c k z m e =
      let s = sound-class c z m in
      let q = super-is b c s.super s.is_super in
      let same : q.the_class ≡ k = some-injective q.the_class k (sym q.is_class ∙ e) in
      let there : find (cache_of t) (at k.loader k.super) ≡ some s.super = ap (λ (y : Class). find (cache_of t) (at y.loader y.super)) (sym same) ∙ q.cached in
      (s.super, row-taken l.cache (cache_of t) (at k.loader k.super) (omega (arith, most-within (super_end b) l.classes l.cache h c m, super-end c z m, super-row c k e)) ∙ there)

  said-supers : ((c : ℕ) (k : Class) → 0 < c → c < l.classes → get_elem? b.classes c ≡ some k → (p : ℕ) × (find (take l.cache (cache_of t)) (at k.loader k.super) ≡ some p))
      → most (super_end b) l.classes ≤ l.cache
  said-supers h = within-most (super_end b) l.classes l.cache each
    where
      each : (c : ℕ) → c < l.classes → super_end b c ≤ l.cache
      each zero m = unfold super_end in omega arith
      each (suc c) m =
          let z : 0 < suc c = omega arith in
          let s = sound-class (suc c) z m in
          let q = super-is b (suc c) s.super s.is_super in
          let k = q.the_class in
          let p = h (suc c) k z m q.is_class in
          omega (arith, super-end (suc c) z m, super-row (suc c) k q.is_class, taken-row l.cache (cache_of t) (at k.loader k.super) p.0 p.1)

  -- files

  ends-said : ((c : ℕ) (k : ClassRow) → 0 < c → c < l.classes → get_elem? (class_rows_of t) c ≡ some k → k.start + k.size ≤ l.kept) → most (file_end t.classes) l.classes ≤ l.kept
  unfolding file_end
  ends-said h = within-most (file_end t.classes) l.classes l.kept each
    where
      first : 0 < l.classes → First (row_at 0)
      first m = unfold view view_over in row_first b (kept_of t) (class_row_at t.classes) n w.classes (omega (arith, classes-there))

      each : (c : ℕ) → c < l.classes → (row_at c).start + (row_at c).size ≤ l.kept
      each zero m = let f = first m in omega (arith, f.start, f.size)
      each (suc c) m = h (suc c) (row_at (suc c)) (omega arith) m (rows-there (class_row_at t.classes) n (suc c) (omega (arith, classes-there)))

  -- numbers

  abbrev ties : List ℕ
  ties = rows (number_at tie_numbers_cell counts) (get_or counts 3 0) 0

  abbrev notes : List ℕ
  notes = rows (number_at subtype_numbers_cell counts) (get_or counts 4 0) 0

  ties-there : l.ties ≤ get_or counts 3 0
  unfolding view view_over
  ties-there = rw (rows-length (tie_at t.ties) (get_or counts 3 0) 0) at u.ties

  notes-there : l.subtypes ≤ get_or counts 4 0
  unfolding view view_over
  notes-there = rw (rows-length (subtype_at t.subtypes) (get_or counts 4 0) 0) at u.subtypes

  abbrev first : RowNumbers
  first = row_numbers (take l.ties ties) (take l.subtypes notes)

  ties-many : length (take l.ties ties) ≡ l.ties
  ties-many = length-take-le l.ties ties (omega (arith, ties-there, rows-length (number_at tie_numbers_cell counts) (get_or counts 3 0) 0))

  notes-many : length (take l.subtypes notes) ≡ l.subtypes
  notes-many = length-take-le l.subtypes notes (omega (arith, notes-there, rows-length (number_at subtype_numbers_cell counts) (get_or counts 4 0) 0))

  in-turn : numbered (row_numbers ties notes) ≡ true
  unfolding view view_over
  in-turn = w.numbers.turn

  numbers-said : last_below counts tie_numbers_cell l.ties (l.ties + l.subtypes) ≡ true → last_below counts subtype_numbers_cell l.subtypes (l.ties + l.subtypes) ≡ true → numbered first ≡ true
  unfolding numbered
  numbers-said x y =
      let words = in-turn-words (row_numbers ties notes) in-turn in
      let k = l.ties + l.subtypes in
      let z : 0 + k ≡ k = omega arith in
      rw (ties-many, notes-many)
      (first-turn (length ties + length notes) 0 l.ties l.subtypes k ties notes refl refl in-turn
      (omega (arith, ties-there, rows-length (number_at tie_numbers_cell counts) (get_or counts 3 0) 0)) (omega (arith, notes-there, rows-length (number_at subtype_numbers_cell counts) (get_or counts 4 0) 0))
      (rw z (last-all counts tie_numbers_cell (get_or counts 3 0) l.ties k ties-there words.ties x)) (rw z (last-all counts subtype_numbers_cell (get_or counts 4 0) l.subtypes k notes-there words.subtypes y)))

  said-numbers : numbered first ≡ true
      → (last_below counts tie_numbers_cell l.ties (l.ties + l.subtypes) ≡ true) × (last_below counts subtype_numbers_cell l.subtypes (l.ties + l.subtypes) ≡ true)
  said-numbers h =
      let p = numbers-below l.ties l.subtypes first (record { ties = ties-many; subtypes = notes-many; turn = h }) in
      let k = l.ties + l.subtypes in
      (all-last counts tie_numbers_cell (get_or counts 3 0) l.ties k ties-there p.0, all-last counts subtype_numbers_cell (get_or counts 4 0) l.subtypes k notes-there p.1)

  -- both ways

  left-fits : level_leaves (super_end b) counts t.classes t.cache held l ≡ true → CutFits l (view t)
  unfolding view view_over file_end entry_end
  left-fits h =
      let p = left-said held h in
      let x = held-said p.holds in
      record {
        files = λ c k z m e. omega (arith, most-within (file_end t.classes) l.classes l.kept p.files c m, ap (λ (k : ClassRow). k.start + k.size) (same_row c k m e));
        supers = λ c k z m e. supers-said p.supers c k z m e;
        entries = rw (taken-rows (entry_at t.cache) l.cache (get_or counts 2 0) entries-there)
            (rows_all (λ (e : Entry). e.class < l.classes) (entry_at t.cache) l.cache 0 (λ m a y. omega (arith, most-within (entry_end t.cache) l.cache l.classes p.entries m (omega arith))));
        objects = x.objects;
        quote = x.quote;
        report = x.report;
        numbers = numbers-said p.tied p.noted;
      }

  fits-left : CutFits l (view t) → level_leaves (super_end b) counts t.classes t.cache held l ≡ true
  unfolding view view_over entry_end
  fits-left h =
      let x = said-numbers h.numbers in
      said-left held (record {
        files = ends-said h.files;
        supers = said-supers h.supers;
        entries = within-most (entry_end t.cache) l.cache l.classes (λ i m. let z : 0 + i ≡ i = omega arith in
            omega (arith, rw z at (all-rows (λ (e : Entry). e.class < l.classes) (entry_at t.cache) l.cache 0 (rw (taken-rows (entry_at t.cache) l.cache (get_or counts 2 0) entries-there) at h.entries) i m)));
        holds = said-held (record { objects = h.objects; quote = h.quote; report = h.report });
        tied = x.0;
        noted = x.1;
      })

-- The whole trace

module _ (t : Tables) (w : Whole (view t)) where
  abbrev g : ℕ → Level
  g = level_at t.counts

  abbrev loads : ℕ
  loads = get_or t.counts loads_cell 0

  own : level_from t.counts 0 ≡ level_of (view t)
  unfolding view view_over level_from
  own = λ i. level (sym (rows-length (class_row_at t.classes) (get_or t.counts 0 0) 0) i) (sym (rows-length (λ i. get_or t.kept i 0) (get_or t.counts 1 0) 0) i) (sym (rows-length (entry_at t.cache) (get_or t.counts 2 0) 0) i)
      (sym (rows-length (tie_at t.ties) (get_or t.counts 3 0) 0) i) (sym (rows-length (subtype_at t.subtypes) (get_or t.counts 4 0) 0) i)

  lies : (l : Level) → Lower l (level_from t.counts 0) → Under l (view t)
  lies l h = let a = subst (Lower l) own h in record { classes = a.classes; kept = a.kept; cache = a.cache; ties = a.ties; subtypes = a.subtypes }

  abbrev quick : Bool
  quick = trace_quick (super_end (view_base t)) t.counts t.classes t.cache t.objects t.frames

  under-each : falling g loads (level_from t.counts 0) ≡ true → (i : ℕ) → i < loads → Under (g i) (view t)
  under-each h i m = lies (g i) (all-stack (λ l. Lower l (level_from t.counts 0)) g loads (falling-all g loads (level_from t.counts 0) h) i m)

  quick-trace : quick ≡ true → trace_fits (view t).trace (view t) ≡ true
  unfolding trace_quick view view_over
  quick-trace h =
      let p = every_true _ h in
      let each = all-all (level_leaves (super_end (view_base t)) t.counts t.classes t.cache (held_end t.counts t.objects t.frames)) (λ l. level_leaves (super_end (view_base t)) t.counts t.classes t.cache (held_end t.counts t.objects t.frames) l ≡ true) (λ x k. k) (rows g loads 0) p.1.0 in
      trace-fits (view t).trace (view t) (falls-traced (view t) w (subst (λ (m : Level). Falls m (stack g loads) (view t)) own
      (split-falls g loads (level_from t.counts 0) (view t) p.0 (stack-all (λ l. CutFits l (view t)) g loads (λ i m.
      let z : 0 + i ≡ i = omega arith in
      left-fits t w (g i) (under-each p.0 i m) (rw z at (all-rows _ g loads 0 each i m)))))))

  trace-quick : trace_fits (view t).trace (view t) ≡ true → quick ≡ true
  unfolding trace_quick view view_over
  trace-quick h =
      let f = subst (λ (m : Level). Falls m (stack g loads) (view t)) (sym own) (traced-falls (view t) w (fits-trace (view t).trace (view t) h)) in
      let p = falls-split g loads (level_from t.counts 0) (view t) f in
      true-every _ (
        p.0,
        (
          all-test _ (λ l. level_leaves (super_end (view_base t)) t.counts t.classes t.cache (held_end t.counts t.objects t.frames) l ≡ true) (λ x k. k) (rows g loads 0)
              (rows_all _ g loads 0 (λ i a m. fits-left t w (g i) (under-each p.0 i (omega arith)) (all-stack (λ l. CutFits l (view t)) g loads p.1 i (omega arith)))),
          tt,
        ),
      )

  pub same-trace : trace_fits (view t).trace (view t) ≡ quick
  same-trace = same_test (trace_fits (view t).trace (view t)) quick trace-quick quick-trace

-- Laws for the code, which tests levels from the oldest on

pub highest-start : (f : ℕ → ℕ) (n m : ℕ) → highest f 0 (n - 0) m ≡ highest f 0 n m
highest-start f n m = let e : n - 0 ≡ n = omega arith in ap (λ (k : ℕ). highest f 0 k m) e

-- comparisons of cells that are read
pub is_le : {x y a b : ℕ} → x ≡ a → y ≡ b → y ≤ x → leb b a ≡ true
is_le {x} {y} {a} {b} p q l = le-leb b a (omega (arith, p, q, l))

pub not-le : {x y a b : ℕ} → x ≡ a → y ≡ b → x < y → leb b a ≡ false
not-le {x} {y} {a} {b} p q l = lt-leb b a (omega (arith, p, q, l))

pub end-free : (counts objects : List ℕ) (o : ℕ) → owner_at counts o ≡ 0 → object_end counts objects o ≡ 0
unfolding object_end
end-free counts objects o e = rw (e, object_end)

pub end-owned : (counts objects : List ℕ) (o : ℕ) → (owner_at counts o ≡ 0 → ⊥) → object_end counts objects o ≡ get_or objects (o * object_cells) 0 + 1
unfolding object_end
end-owned counts objects o h = go (owner_at counts o) h
  where
    go : (x : ℕ) → (x ≡ 0 → ⊥) → (elim x as (λ _. ℕ) [ zero ↦ 0 | suc k ↦ get_or objects (o * object_cells) 0 + 1 ]) ≡ get_or objects (o * object_cells) 0 + 1
    go zero h = absurd (h refl)
    go (suc k) h = refl

pub last_none : (counts : List ℕ) (s n k : ℕ) → n ≡ 0 → last_below counts s n k ≡ true
unfolding last_below
last_none counts s zero k e = refl
last_none counts s (suc n) k e = absurd (omega arith)

pub last_some : (counts : List ℕ) (s n k : ℕ) → (n ≡ 0 → ⊥) → last_below counts s n k ≡ ltb (get_or counts (s + (n - 1)) 0) k
unfolding last_below number_at
last_some counts s zero k h = absurd (h refl)
last_some counts s (suc n) k h = let e : suc n - 1 ≡ n = omega arith in rw e

module _ (g : ℕ → Level) (n : ℕ) (m : Level) where
  pub falling-none : n ≤ 0 → falling g n m ≡ true
  unfolding falling
  falling-none h = let e : n ≡ 0 = omega arith in rw e

  falling-one : 0 < n → falling g n m ≡ every (under (g (n - 1)) m ∷ falling g (n - 1) (g (n - 1)) ∷ [])
  unfolding falling
  falling-one h = let e : n ≡ suc (n - 1) = omega arith in ap (λ (k : ℕ). falling g k m) e

  pub falling-fails : 0 < n → under (g (n - 1)) m ≡ false → falling g n m ≡ false
  falling-fails h e = falling-one h ∙ every-fails _ _ e

  pub falling-on : 0 < n → under (g (n - 1)) m ≡ true → falling g n m ≡ falling g (n - 1) (g (n - 1))
  falling-on h e = falling-one h ∙ (every_first _ _ e ∙ every-last _)

-- each level lies under the next
pub falling-next : (g : ℕ → Level) (n : ℕ) (m : Level) → falling g n m ≡ true → (i : ℕ) → i + 1 < n → Lower (g i) (g (i + 1))
unfolding falling
falling-next g zero m h i l = absurd (omega arith)
falling-next g (suc n) m h i l = go (ltb (i + 1) n) refl (λ k. falling-next g n (g n) (every_true _ h).1.0 i k) (every_true _ h).1.0
  where
    go : (t : Bool) → ltb (i + 1) n ≡ t → (i + 1 < n → Lower (g i) (g (i + 1))) → falling g n (g n) ≡ true → Lower (g i) (g (i + 1))
    go true e f h = f (ltb-true (i + 1) n e)
    go false e f h =
        let z : n ≡ i + 1 = omega (arith, ltb-false (i + 1) n e) in
        let y : n - 1 ≡ i = omega arith in
        let u : under (g i) (g (i + 1)) ≡ true = rw (y, z) at (every_true _ (sym (falling-one g n (g n) (omega arith)) ∙ h)).0 in
        under-lower (g i) (g (i + 1)) u

-- what row i leaves, by the greatest numbers that were found
pub level-told : (supers : ℕ → ℕ) (counts classes cache : List ℕ) (held i f s e : ℕ) (r : Bool) → f ≡ most (file_end classes) (level_at counts i).classes → s ≡ most supers (level_at counts i).classes
    → e ≡ most (entry_end cache) (level_at counts i).cache → r ≡ leaves counts f s e held (level_at counts i) → level_leaves supers counts classes cache held (level_at counts i) ≡ r
unfolding level_leaves
level-told supers counts classes cache held i f s e r a b d q = sym (q ∙ (λ j. leaves counts (a j) (b j) (d j) held (level_at counts i)))

-- the greatest number up to a level, from that up to the one before it
pub most-next : (f : ℕ → ℕ) (n a m x : ℕ) → n ≤ a → m ≡ most f n → x ≡ highest f n (a - n) m → x ≡ most f a
most-next f n a m x l e h = h ∙ most-on f n a m l e

pub most-level : (f : ℕ → ℕ) (a y x : ℕ) → x ≡ most f a → a ≡ y → x ≡ most f y
most-level f a y x h e = h ∙ ap (most f) e

-- no load
pub quick-none : (supers : ℕ → ℕ) (counts classes cache objects frames : List ℕ) → get_or counts loads_cell 0 ≡ 0 → trace_quick supers counts classes cache objects frames ≡ true
unfolding trace_quick
quick-none supers counts classes cache objects frames e =
    true-every _ (falling-none (level_at counts) (get_or counts loads_cell 0) (level_from counts 0) (omega (arith, e)), (none (level_leaves supers counts classes cache (held_end counts objects frames)) (get_or counts loads_cell 0) e, tt))
  where
    none : (p : Level → Bool) (n : ℕ) → n ≡ 0 → all p (rows (level_at counts) n 0) ≡ true
    none p zero e = unfold all rows in refl
    none p (suc n) e = absurd (omega arith)

-- a turn of the loop that compares row i - 1 with the level above it
module _ (counts : List ℕ) (i w above : ℕ) (x r : Bool) (at : falling (level_at counts) i (level_from counts above) ≡ x) (more : 0 < i) (row : w ≡ i - 1)
    (told : r ≡ under (level_from counts (trace_cell + w * level_cells)) (level_from counts above)) where
  same-level : level_from counts (trace_cell + w * level_cells) ≡ level_at counts (i - 1)
  unfolding level_from level_at
  same-level = ap (λ (k : ℕ). level_at counts k) row

  pub falls-fail : r ≡ false → false ≡ x
  falls-fail e =
      sym (falling-fails (level_at counts) i (level_from counts above) more (ap (λ (l : Level). under l (level_from counts above)) (sym same-level) ∙ (sym told ∙ e))) ∙ at

  pub falls-on : r ≡ true → falling (level_at counts) (i - 1) (level_from counts (trace_cell + w * level_cells)) ≡ x
  falls-on e =
      ap (falling (level_at counts) (i - 1)) same-level
      ∙ (sym (falling-on (level_at counts) i (level_from counts above) more (ap (λ (l : Level). under l (level_from counts above)) (sym same-level) ∙ (sym told ∙ e))) ∙ at)
