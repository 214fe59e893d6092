-- The tests of Checks say the same as word 1. Once every class's file reads, what is read at once is what the definition reads, so the tests after it
-- may go by it.
use Rattle.std.specs.Prelude.{◌≡◌, Bool, true, false, not, ◌&&◌, List, length, get_or, replicate, leb}
use Rattle.std.proofs.Math.Path.{refl, sym, ap}
use Rattle.std.proofs.Common.{◌∙◌}
use Rattle.std.proofs.lemmas.Bool.{false≢true}
use Prim.Native.Nat.{ℕ, zero, suc, ◌+◌, ◌-◌, ◌<◌, ◌≤◌}
use native.Mathlib.Omega.{arith}
use borrow.Author.Tests.{ltb-true, lt-ltb, le-ltb, leb-true, le-leb, eqb-true, eq-eqb}
use Rattle.definition.specs.Numbers.{share_limit}
use Rattle.definition.specs.Lists.{all, is_some, rows}
use Rattle.definition.specs.Classes.{Base, super_of}
use Rattle.definition.specs.Machine.{Value, empty_value, int_value, null_value, object_value, unlisted_value, ObjectRow, free, owned, Objects, Frame, existing, made_by}
use Rattle.definition.specs.File.{read_file}
use Rattle.definition.specs.Tables.{Tables, shaped, ClassRow, size_of, class_row_at, owner_at, class_rows_of, kept_of, cache_of, ties_of, numbers_of, view_base, objects_of, frames_of, view_over, view}
use Rattle.definition.specs.Broken.{within, is_object, entry_fits, tie_fits, value_fits, local_fits, object_fits, frame_fits, sound, grouped, whole, broken}
use Rattle.layout.specs.Tests.{From, every_true, true-every, all-all, all-test, is-some, some_is, same_test}
use Rattle.layout.specs.Places.{rows-length, all-rows, rows_all}
use Rattle.layout.specs.Whole.{First, ClassSound, Classes, fits-classes, classes-fit, sound-true}
use Rattle.layout.specs.View.{object-there, object-past, object-free}
use Rattle.layout.specs.Unbroken.{within-true, view-whole}
use Rattle.layout.specs.ReadBack.{shaped-true}
use Rattle.layout.specs.InTurn.{RisesFrom, in-turn-words}
use Rattle.rows.specs.Numbers.{numbers_fit}
use Rattle.groups.specs.Laws.{numbers_in}
use Rattle.groups.specs.Numbered.{groups_fit}
use Rattle.groups.specs.Grouped.{fit-grouped}
use Rattle.frames.specs.Made.{made-by-is}
use Rattle.classfile.specs.Reading.{quick_file, part_of}
use Rattle.classfile.specs.Laws.{reads-some}
use Rattle.classfile.specs.Searches.{file-part}
use Rattle.classfile.specs.Lists.{every_first, every-fails}
use Rattle.resolution.specs.Quick.{either}
use Rattle.resolution.specs.Unbroken.{Sources, part_same, part-within, part-reads, quick-view, row_first, row_other}
use Rattle.store.specs.Tracing.{super_end, trace_quick, same-trace}
use Rattle.store.specs.Checks.{file_fits, sources_fit, linked, links_fit, number, exists, value_in, local_in, object_in, frame_fit, rows_fit, objects_fit, frames_fit, values_fit, share_fits, readable, checks}

-- Values: an object exists exactly if its row has been used and has an owner

all_same : {A : Type 0} (f g : A → Bool) → ((x : A) → f x ≡ g x) → (xs : List A) → all f xs ≡ all g xs
all_same f g e xs =
    same_test (all f xs) (all g xs)
    (λ h. all-test g (λ x. f x ≡ true) (λ x k. sym (e x) ∙ k) xs (all-all f (λ x. f x ≡ true) (λ x k. k) xs h))
    (λ h. all-test f (λ x. g x ≡ true) (λ x k. e x ∙ k) xs (all-all g (λ x. g x ≡ true) (λ x k. k) xs h))

module _ (os : Objects) (X : ℕ → Bool) (same : (o : ℕ) → is_some (existing os o) ≡ X o) where
  value_same : (v : Value) → value_fits os v ≡ value_in X v
  unfolding value_fits value_in
  value_same empty_value = refl
  value_same (int_value n) = refl
  value_same null_value = refl
  value_same (object_value o) = same o
  value_same (unlisted_value k b) = refl

  local_same : (v : Value) → local_fits os v ≡ local_in X v
  unfolding local_fits local_in
  local_same empty_value = refl
  local_same (int_value n) = refl
  local_same null_value = refl
  local_same (object_value o) = same o
  local_same (unlisted_value k b) = refl

  object-same : (n : ℕ) (x : ObjectRow) → object_fits n os x ≡ object_in n X x
  unfolding object_fits object_in
  object-same n free = refl
  object-same n (owned k o) = rw (all_same (value_fits os) (value_in X) value_same o.values)

  frame_same : (n : ℕ) (f : Frame) → frame_fits n os f ≡ frame_fit n X f
  unfolding frame_fits frame_fit
  frame_same n f = rw (all_same (value_fits os) (value_in X) value_same f.operands, all_same (local_fits os) (local_in X) local_same f.locals)

-- The rows of tables

module _ (t : Tables) where
  classes-number : length (class_rows_of t) ≡ get_or t.counts 0 0
  classes-number = rows-length (class_row_at t.classes) (get_or t.counts 0 0) 0

  abbrev X : ℕ → Bool
  X = exists t.counts (get_or t.counts 5 0)

  exists-same : (b : Base) (o : ℕ) → is_some (existing (objects_of b t) o) ≡ X o
  unfolding exists is_some
  exists-same b o =
      either o (get_or t.counts 5 0)
      (λ l.
      either 0 (owner_at t.counts o)
      (λ k. some_is _ _ (object-there t b o l k) ∙ sym (true-every _ (lt-ltb _ _ l, (lt-ltb _ _ k, tt))))
      (λ k. ap is_some (object-free t b o (omega arith)) ∙ sym (every_first _ _ (lt-ltb _ _ l) ∙ every-fails _ _ (le-ltb _ _ k))))
      (λ l. ap is_some (object-past t b o l) ∙ sym (every-fails _ _ (le-ltb _ _ l)))

  objects-same : (b : Base) → all (object_fits (length (class_rows_of t)) (objects_of b t)) (objects_of b t) ≡ objects_fit b t.counts t.objects
  unfolding objects_fit objects_of
  objects-same b =
      all_same _ _ (object-same (objects_of b t) X (exists-same b) (length (class_rows_of t))) (objects_of b t)
      ∙ (λ i. all (object_in (classes-number i) X) (objects_of b t))

  frames-same : (b : Base) (k : ℕ) → all (frame_fits (length (class_rows_of t)) (objects_of b t)) (frames_of t k) ≡ frames_fit t.counts t.frames k
  unfolding frames_fit frames_of
  frames-same b k =
      all_same _ _ (frame_same (objects_of b t) X (exists-same b) (length (class_rows_of t))) (frames_of t k)
      ∙ (λ i. all (frame_fit (classes-number i) X) (frames_of t k))

  share-same : (b : Base) → share_fits t.counts ≡ leb (made_by 1 (objects_of b t)) share_limit
  unfolding share_fits
  share-same b = rw (made-by-is b t 1)

-- A test of each of the rows but the first

rest-said : {A : Type 0} (f : A → Bool) (g : ℕ → A) (n : ℕ) → all f (rows g (n - 1) 1) ≡ true → (c : ℕ) → 0 < c → c < n → f (g c) ≡ true
rest-said f g n h c l m =
    let e : 1 + (c - 1) ≡ c = omega arith in
    rw e at (all-rows (λ x. f x ≡ true) g (n - 1) 1 (all-all f (λ x. f x ≡ true) (λ x k. k) (rows g (n - 1) 1) h) (c - 1) (omega arith))

said-rest : {A : Type 0} (f : A → Bool) (g : ℕ → A) (n : ℕ) → ((c : ℕ) → 0 < c → c < n → f (g c) ≡ true) → all f (rows g (n - 1) 1) ≡ true
said-rest f g n h = all-test f (λ x. f x ≡ true) (λ x k. k) (rows g (n - 1) 1) (rows_all (λ x. f x ≡ true) g (n - 1) 1 (λ c l m. h c (omega arith) (omega arith)))

-- Files

pub record FileSound (n : ℕ) (kept : List ℕ) (k : ClassRow) : Type 0 where
  pub loader : k.loader < 16
  pub within : k.start + k.size ≤ n
  pub reads : is_some (read_file (part_of kept k.start k.size)) ≡ true

module _ (n : ℕ) (kept : List ℕ) where
  file-said : (k : ClassRow) → file_fits n kept k ≡ true → FileSound n kept k
  unfolding file_fits
  file-said k h = let p = every_true _ h in record { loader = ltb-true k.loader 16 p.0; within = leb-true (k.start + k.size) n p.1.0; reads = p.1.1.0 }

  said-file : (k : ClassRow) → FileSound n kept k → file_fits n kept k ≡ true
  unfolding file_fits
  said-file k f = true-every _ (lt-ltb k.loader 16 f.loader, (le-leb (k.start + k.size) n f.within, (f.reads, tt)))

  module _ (g : ℕ → ClassRow) where
    pub sources-first : (m : ℕ) → sources_fit n kept (rows g m 0) ≡ true → 0 < m → First (g 0)
    unfolding sources_fit rows is_object
    sources-first zero h l = absurd (omega arith)
    sources-first (suc m) h l =
        let p = every_true _ (every_true _ h).0 in
        record { loader = eqb-true (g 0).loader 0 p.0; start = eqb-true (g 0).start 0 p.1.0; size = eqb-true (g 0).size 0 p.1.1.0 }

    sources-other : (m : ℕ) → sources_fit n kept (rows g m 0) ≡ true → (c : ℕ) → 0 < c → c < m → FileSound n kept (g c)
    unfolding sources_fit rows
    sources-other zero h c k l = absurd (omega arith)
    sources-other (suc m) h c k l =
        let e : suc m - 1 ≡ m = omega arith in
        file-said (g c) (rest-said (file_fits n kept) g (suc m) (rw e (every_true _ h).1.0) c k l)

    said-sources : (m : ℕ) → (0 < m → First (g 0)) → ((c : ℕ) → 0 < c → c < m → FileSound n kept (g c)) → sources_fit n kept (rows g m 0) ≡ true
    unfolding sources_fit rows is_object
    said-sources zero f h = refl
    said-sources (suc m) f h =
        let e : suc m - 1 ≡ m = omega arith in
        let first = f (omega arith) in
        true-every _ (
          true-every _ (eq-eqb (g 0).loader 0 first.loader, (eq-eqb (g 0).start 0 first.start, (eq-eqb (g 0).size 0 first.size, tt))),
          (rw e at (said-rest (file_fits n kept) g (suc m) (λ c k l. said-file (g c) (h c k l))), tt),
        )

-- Superclasses and sizes

links-said : (b : Base) (n : ℕ) → links_fit b n ≡ true → (c : ℕ) → 0 < c → c < n → (is_some (super_of b c) ≡ true) × (size_of b c ≤ 16)
unfolding links_fit linked
links-said b n h c k l = let p = every_true _ (rest-said (linked b) number n h c k l) in (p.0, leb-true (size_of b c) 16 p.1.0)

said-links : (b : Base) (n : ℕ) → ((c : ℕ) → 0 < c → c < n → (is_some (super_of b c) ≡ true) × (size_of b c ≤ 16)) → links_fit b n ≡ true
unfolding links_fit linked
said-links b n h = said-rest (linked b) number n (λ c k l. let p = h c k l in true-every _ (p.0, (le-leb (size_of b c) 16 p.1, tt)))

-- Classes, each by its number

classes-from : (b : Base) (bs : List ℕ) (g : ℕ → ClassRow) (n i : ℕ) → ((c : ℕ) → i ≤ c → c < i + n → ClassSound b bs c (g c)) → From (ClassSound b bs) i (rows g n i)
unfolding rows
classes-from b bs g zero i h = tt
classes-from b bs g (suc n) i h = (h i (omega arith) (omega arith), classes-from b bs g n (suc i) (λ c k l. h c (omega arith) (omega arith)))

classes-said : (b : Base) (bs : List ℕ) (g : ℕ → ClassRow) (n : ℕ) → (0 < n → First (g 0)) → ((c : ℕ) → 0 < c → c < n → ClassSound b bs c (g c)) → Classes b bs (rows g n 0)
unfolding rows
classes-said b bs g zero f h = tt
classes-said b bs g (suc n) f h = (f (omega arith), classes-from b bs g n 1 (λ c k l. h c (omega arith) (omega arith)))

-- All together

module _ (t : Tables) (bytes : get_or t.counts 1 0 ≤ length t.kept) where
  abbrev row_of : ℕ → ClassRow
  row_of c = class_row_at t.classes c

  abbrev few : ℕ
  few = get_or t.counts 0 0

  -- files that fit are those that the definition reads
  fit-sources : sources_fit (get_or t.counts 1 0) t.kept (rows row_of few 0) ≡ true → Sources t
  fit-sources h = record {
    bytes = bytes;
    first = sources-first (get_or t.counts 1 0) t.kept row_of few h;
    others = λ c k l.
        let f = sources-other (get_or t.counts 1 0) t.kept row_of few h c k l in
        let bs = part_of t.kept (row_of c).start (row_of c).size in (
          quick_file bs,
          file-part (kept_of t) (row_of c)
              ∙ (ap read_file (part_same t.kept (get_or t.counts 1 0) bytes (row_of c).start (row_of c).size f.within) ∙ reads-some bs f.reads),
        );
  }

  -- and the definition's are files that fit
  sources-fit : (c : ℕ) (b : Base) → ClassSound b (kept_of t) c (row_of c) → FileSound (get_or t.counts 1 0) t.kept (row_of c)
  sources-fit c b k = record {
    loader = k.loader;
    within = part-within t.kept (get_or t.counts 1 0) bytes (row_of c) k.file k.reads;
    reads = some_is _ _ (part-reads t.kept (get_or t.counts 1 0) bytes (row_of c) k.file k.reads);
  }

-- the test of ties and their groups, in two
fit-splits : (t : Tables) → RisesFrom 0 (numbers_in t.counts (get_or t.counts 3 0)) → groups_fit t.counts t.ties (get_or t.counts 3 0) ≡ true
    → (all tie_fits (ties_of t) ≡ true) × (grouped t ≡ true)
fit-splits t r h = go (leb (get_or t.counts 3 0) 256) (all tie_fits (ties_of t)) (grouped t) (sym (fit-grouped t r) ∙ h)
  where
    go : (a b c : Bool) → ((a && b) && c) ≡ true → (b ≡ true) × (c ≡ true)
    go true true true e = (refl, refl)
    go true true false e = absurd (false≢true e)
    go true false c e = absurd (false≢true e)
    go false b c e = absurd (false≢true e)

splits-fit : (t : Tables) → RisesFrom 0 (numbers_in t.counts (get_or t.counts 3 0)) → get_or t.counts 3 0 ≤ 256 → all tie_fits (ties_of t) ≡ true → grouped t ≡ true
    → groups_fit t.counts t.ties (get_or t.counts 3 0) ≡ true
splits-fit t r l e g = fit-grouped t r ∙ rw (le-leb (get_or t.counts 3 0) 256 l, e, g) refl

enough : (t : Tables) → shaped t ≡ true → within t.counts ≡ true → get_or t.counts 1 0 ≤ length t.kept
enough t s w = omega (arith, (shaped-true t s).kept, (within-true t.counts w).kept)

checks-sound : (t : Tables) → checks t ≡ true → whole t ≡ true
unfolding checks readable whole sound view view_over rows_fit values_fit numbers_fit
checks-sound t h =
    let k = every_true _ h in
    let p = every_true _ k.0 in
    let bytes = enough t p.0 p.1.0 in
    let s = fit-sources t bytes p.1.1.1.1.0 in
    let e = quick-view t s in
    let r = every_true _ p.1.1.1.1.1.0 in
    let ties = fit-splits t (in-turn-words (numbers_of t) p.1.1.1.0).ties r.1.0 in
    let v = every_true _ k.1.0 in
    let n = get_or t.counts 0 0 in
    let b = view_base t in
    let classes : Classes b (kept_of t) (class_rows_of t) =
    classes-said b (kept_of t) (class_row_at t.classes) n s.first (λ c k l.
    let f = s.others c k l in
    let q = links-said b n (ap (λ (d : Base). links_fit d n) (sym e) ∙ v.0) c k l in
    let u = is-some _ q.0 in
    record { loader = (sources-other (get_or t.counts 1 0) t.kept (class_row_at t.classes) n p.1.1.1.1.0 c k l).loader; file = f.0; reads = f.1; super = u.0; is_super = u.1; size = q.1 }) in
    let sounds : sound (view t) ≡ true =
    true-every _ (
      classes-fit _ _ _ classes,
      (
        ap (λ (m : ℕ). all (entry_fits m) (cache_of t)) (classes-number t) ∙ r.0,
        (
          ties.0,
          (
            r.1.1.0,
            (
              objects-same t b ∙ (ap (λ (d : Base). objects_fit d t.counts t.objects) (sym e) ∙ v.1.0),
              (frames-same t b 0 ∙ v.1.1.0, (frames-same t b 1 ∙ v.1.1.1.0, (p.1.1.1.0, (sym (share-same t b) ∙ p.1.1.0, tt)))),
            ),
          ),
        ),
      ),
    ) in
    let w = view-whole t (within-true t.counts p.1.0) (sound-true (view t) sounds) in
    let trace : Base → Bool = λ d. trace_quick (super_end d) t.counts t.classes t.cache t.objects t.frames in
    true-every _ (p.0, (p.1.0, (sounds, (same-trace t w ∙ (ap trace (sym e) ∙ v.1.1.1.1.0), (ties.1, tt)))))

sound-checks : (t : Tables) → whole t ≡ true → checks t ≡ true
unfolding checks readable whole sound view view_over rows_fit values_fit numbers_fit
sound-checks t h =
    let p = every_true _ h in
    let q = every_true _ p.1.1.0 in
    let bytes = enough t p.0 p.1.0 in
    let n = get_or t.counts 0 0 in
    let g = class_row_at t.classes in
    let b = view_base t in
    let k : Classes b (kept_of t) (class_rows_of t) = fits-classes _ _ _ q.0 in
    let ties = splits-fit t (in-turn-words (numbers_of t) q.1.1.1.1.1.1.1.0).ties (within-true t.counts p.1.0).ties q.1.1.0 p.1.1.1.1.0 in
    let files = said-sources (get_or t.counts 1 0) t.kept g n (row_first b (kept_of t) g n k) (λ c i j. sources-fit t bytes c b (row_other b (kept_of t) g n k c i j)) in
    let e = quick-view t (fit-sources t bytes files) in
    let links = said-links b n (λ c i j. let s = row_other b (kept_of t) g n k c i j in (some_is _ _ s.is_super, s.size)) in
    let w = view-whole t (within-true t.counts p.1.0) (sound-true (view t) p.1.1.0) in
    let trace : Base → Bool = λ d. trace_quick (super_end d) t.counts t.classes t.cache t.objects t.frames in
    true-every _ (
      true-every _ (
        p.0,
        (
          p.1.0,
          (
            share-same t b ∙ q.1.1.1.1.1.1.1.1.0,
            (
              q.1.1.1.1.1.1.1.0,
              (
                files,
                (true-every _ (ap (λ (m : ℕ). all (entry_fits m) (cache_of t)) (sym (classes-number t)) ∙ q.1.0, (ties, (q.1.1.1.0, tt))), tt),
              ),
            ),
          ),
        ),
      ),
      (
        true-every _ (
          ap (λ (d : Base). links_fit d n) e ∙ links,
          (
            ap (λ (d : Base). objects_fit d t.counts t.objects) e ∙ (sym (objects-same t b) ∙ q.1.1.1.1.0),
            (sym (frames-same t b 0) ∙ q.1.1.1.1.1.0, (sym (frames-same t b 1) ∙ q.1.1.1.1.1.1.0, (ap trace e ∙ (sym (same-trace t w) ∙ p.1.1.1.0), tt))),
          ),
        ),
        tt,
      ),
    )

-- the tests fail exactly if the tables are broken
pub checks-broken : (t : Tables) → broken t ≡ not (checks t)
unfolding broken
checks-broken t = ap not (same_test (whole t) (checks t) (sound-checks t) (checks-sound t))

-- a table of zeros has a zero everywhere
pub zeros-at : (n o : ℕ) → ◌≡◌ {A = ℕ} (get_or (replicate n 0) o 0) 0
zeros-at zero o = refl
zeros-at (suc n) zero = refl
zeros-at (suc n) (suc o) = zeros-at n o
