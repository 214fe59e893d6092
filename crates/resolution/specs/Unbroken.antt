-- Tables that are not broken: what is read off them at once is what the definition reads, so every lookup is the definition's.
use Rattle.std.specs.Prelude.{◌≡◌, refl, Bool, true, false, List, [], map, length, get_or, take, drop, eqb, leb}
use Rattle.std.proofs.Common.{sym, ap, ◌∙◌, subst, ⊎_elim, eq-or-lt_of_le, arith, take_all, leb-true, leb-false, ne_eqb}
use Rattle.std.proofs.Math.Option.{some}
use Prim.Native.Nat.{ℕ, zero, suc, ◌+◌, ◌≤◌, ◌<◌}
use Rattle.definition.specs.Lists.{rows}
use Rattle.definition.specs.Instructions.{pick, short_at}
use Rattle.definition.specs.Classes.{Base}
use Rattle.definition.specs.File.{File, read_file, class_of, object_class}
use Rattle.definition.specs.Tables.{Tables, ClassRow, class_row_at, file_at, class_at, kept_of, cache_of, view_base, view_over, view}
use Rattle.definition.specs.Broken.{broken}
use Rattle.layout.specs.Tests.{From}
use Rattle.layout.specs.Places.{rows-length, rows-part, rows_take, rows-map, rows-cong}
use Rattle.layout.specs.Whole.{First, ClassSound, Classes}
use Rattle.layout.specs.Unbroken.{broken-false}
use Rattle.layout.specs.ReadBack.{object-class, empty-file}
use Rattle.classfile.specs.Reading.{file_version, class_name, super_name, field_count, method_count, quick_fields, quick_methods, quick_file, part_of}
use Rattle.classfile.specs.Laws.{quick-file}
use Rattle.classfile.specs.Searches.{part-there, part-past, file-part}
use Rattle.resolution.specs.Quick.{quick_class, quick_base, quick_of}

-- the first n bytes
abbrev bytes_of : List ℕ → ℕ → List ℕ
bytes_of kept n = rows (λ i. get_or kept i 0) n 0

-- a part of no bytes
pub part_none : (kept : List ℕ) (start size : ℕ) → size ≡ 0 → part_of kept start size ≡ []
unfolding part_of
part_none kept start size e = rw e (go (leb (start + 0) (length kept)))
  where
    go : (t : Bool) → ◌≡◌ {A = List ℕ} (elim t as (λ _. List ℕ) [ true ↦ take 0 (drop start kept) | false ↦ [] ]) []
    go true = refl
    go false = refl

module _ (kept : List ℕ) (n : ℕ) (l : n ≤ length kept) where
  -- a part that lies within the first n bytes
  pub part_same : (start size : ℕ) → start + size ≤ n → part_of (bytes_of kept n) start size ≡ part_of kept start size
  part_same start size h =
      let cell : ℕ → ℕ = λ i. get_or kept i 0 in
      let all : rows cell (length kept) 0 ≡ kept = rows_take kept (length kept) (omega arith) ∙ take_all (length kept) kept (omega arith) in
      let fits : start + size ≤ length (bytes_of kept n) = omega (arith, rows-length cell n 0) in
      part-there (bytes_of kept n) start size fits
      ∙ (rows-part cell n start size 0 h
      ∙ (sym (rows-part cell (length kept) start size 0 (omega arith)) ∙ (ap (λ (bs : List ℕ). take size (drop start bs)) all ∙ sym (part-there kept start size (omega arith)))))

  module _ (k : ClassRow) (f : File) (h : file_at (bytes_of kept n) k ≡ some f) where
    pub part-within : k.start + k.size ≤ n
    part-within = go (leb (k.start + k.size) (length (bytes_of kept n))) refl
      where
        go : (t : Bool) → leb (k.start + k.size) (length (bytes_of kept n)) ≡ t → k.start + k.size ≤ n
        go true e = omega (arith, leb-true (k.start + k.size) (length (bytes_of kept n)) e, rows-length (λ i. get_or kept i 0) n 0)
        go false e =
            let nothing : part_of (bytes_of kept n) k.start k.size ≡ [] = part-past (bytes_of kept n) k.start k.size (leb-false (k.start + k.size) (length (bytes_of kept n)) e) in
            let z : ◌≡◌ {A = ℕ} 0 1 = cc (file-part (bytes_of kept n) k, ap read_file nothing, empty-file) in
            absurd (omega arith)

    -- its part of the kept bytes reads as the file
    pub part-reads : read_file (part_of kept k.start k.size) ≡ some f
    part-reads = ap read_file (sym (part_same k.start k.size part-within)) ∙ (sym (file-part (bytes_of kept n) k) ∙ h)

    -- a file is not empty
    sized : eqb k.size 0 ≡ false
    sized =
        ne_eqb k.size 0 (λ e.
        let z : ◌≡◌ {A = ℕ} 0 1 = cc (part_none kept k.start k.size e, empty-file, part-reads) in
        omega arith)

    quick-class : quick_class kept k ≡ class_at (bytes_of kept n) k
    unfolding quick_class class_at quick_file pick
    quick-class =
        let q = quick-file (part_of kept k.start k.size) f part-reads in
        rw (sized, h, class_at) (λ i. class_of k.loader (q i))

-- Object

pub quick-object : (kept : List ℕ) (k : ClassRow) → First k → quick_class kept k ≡ object_class
unfolding quick_class pick file_version class_name super_name field_count method_count quick_fields quick_methods short_at rows
quick-object kept k h = rw (h.loader, h.start, h.size, part_none kept 0 0 refl)

-- The files of all classes but the first read, within the bytes that are counted

pub record Sources (t : Tables) : Type 0 where
  pub bytes : get_or t.counts 1 0 ≤ length t.kept
  pub first : 0 < get_or t.counts 0 0 → First (class_row_at t.classes 0)
  pub others : (c : ℕ) → 0 < c → c < get_or t.counts 0 0 → (f : File) × (file_at (kept_of t) (class_row_at t.classes c) ≡ some f)

pub quick-view : (t : Tables) → Sources t → quick_of t ≡ view_base t
unfolding quick_base
quick-view t s =
    let g = class_row_at t.classes in
    let n = get_or t.counts 0 0 in
    let same : rows (λ c. quick_class t.kept (g c)) n 0 ≡ map (class_at (kept_of t)) (rows g n 0) =
    rows-cong (λ c. quick_class t.kept (g c)) (λ c. class_at (kept_of t) (g c)) n 0 each ∙ sym (rows-map (class_at (kept_of t)) g n 0) in
    λ i. record { classes = same i; cache = cache_of t }
  where
    each : (c : ℕ) → 0 ≤ c → c < 0 + get_or t.counts 0 0 → quick_class t.kept (class_row_at t.classes c) ≡ class_at (kept_of t) (class_row_at t.classes c)
    each zero l h =
        let f = s.first (omega arith) in
        quick-object t.kept (class_row_at t.classes 0) f ∙ sym (object-class (kept_of t) (class_row_at t.classes 0) f)
    each (suc c) l h =
        let f = s.others (suc c) (omega arith) (omega arith) in
        quick-class t.kept (get_or t.counts 1 0) s.bytes (class_row_at t.classes (suc c)) f.0 f.1

-- What holds of each class row of tables that are not broken

from-there : (P : ℕ → ClassRow → Type 0) (g : ℕ → ClassRow) (k i : ℕ) → From P i (rows g k i) → (c : ℕ) → i ≤ c → c < i + k → P c (g c)
unfolding rows
from-there P g zero i h c l m = absurd (omega arith)
from-there P g (suc k) i h c l m = ⊎_elim (λ e. subst (λ (j : ℕ). P j (g j)) e h.0) (λ b. from-there P g k (suc i) h.1 c b (omega arith)) (eq-or-lt_of_le l)

module _ (b : Base) (bs : List ℕ) (g : ℕ → ClassRow) where
  pub row_first : (n : ℕ) → Classes b bs (rows g n 0) → 0 < n → First (g 0)
  unfolding rows
  row_first zero s l = absurd (omega arith)
  row_first (suc n) s l = s.0

  pub row_other : (n : ℕ) → Classes b bs (rows g n 0) → (c : ℕ) → 0 < c → c < n → ClassSound b bs c (g c)
  unfolding rows
  row_other zero s c l m = absurd (omega arith)
  row_other (suc n) s c l m = from-there (ClassSound b bs) g n 1 s.1 c (omega arith) (omega arith)

pub unbroken-sources : (t : Tables) → broken t ≡ false → Sources t
unfolding view view_over
unbroken-sources t h =
    let w = broken-false t h in
    let g = class_row_at t.classes in
    let n = get_or t.counts 0 0 in
    record {
      bytes = omega (arith, w.0.kept, w.1.limits.kept, rows-length (λ i. get_or t.kept i 0) (get_or t.counts 1 0) 0);
      first = row_first (view_base t) (kept_of t) g n w.1.classes;
      others = λ c l m. let k = row_other (view_base t) (kept_of t) g n w.1.classes c l m in (k.file, k.reads);
    }

-- what is read at once is what the definition reads
pub quick-base : (t : Tables) → broken t ≡ false → quick_of t ≡ view_base t
quick-base t h = quick-view t (unbroken-sources t h)

pub quick-rows : (t : Tables) → broken t ≡ false → view_over (quick_of t) t ≡ view t
unfolding view
quick-rows t h = ap (λ (b : Base). view_over b t) (quick-base t h)
