-- Laws that the proofs of the tests share: of joined tests, of a value's cells, of files, of sizes and of the verdict.
use mathlib.Core.Path.{◌≡◌, refl, sym, ap, subst, ◌∙◌}
use mathlib.Core.Bool.{Bool, true, false, not}
use mathlib.Core.Option.{Option, none, some}
use mathlib.Core.List.{List, [], ◌∷◌}
use Prim.Native.Nat.{ℕ, zero, suc, ◌+◌, ◌*◌, ◌-◌, ◌≤◌, ◌<◌}
use native.Mathlib.Omega.{arith}
use lib.ListN.{length, length-replicate, get_or, set}
use lib.Seq.{ext_get_or, get_or-set_same, get_or-set_other}
use lib.Dec.{eqb, leb, ltb}
use borrow.Author.Tests.{ne_eqb, lt-ltb, le-ltb, le-leb, lt-leb, leb-true, eqb-true, eqb-false, not-false}
use Rattle.definition.specs.Numbers.{class_limit}
use Rattle.definition.specs.Lists.{every, all, is_some, rows, stack}
use Rattle.definition.specs.Instructions.{pick}
use Rattle.definition.specs.Classes.{Base, super_of}
use Rattle.definition.specs.Machine.{Value, empty_value, int_value, null_value, object_value, unlisted_value, Object}
use Rattle.definition.specs.Tables.{Tables, shaped, ClassRow, size_of, view_base, value_of, class_row_at, entry_at, used_fields, object_at, owned_by, owner_at, object_row_at, local_at, operand_at, frame_of, frame_at}
use Rattle.definition.specs.Broken.{is_object, broken}
use Rattle.laws.specs.Agreement.{super-falls}
use Rattle.layout.specs.Tests.{every_true}
use Rattle.layout.specs.Places.{rows-get_d, rows-length, stack-length}
use Rattle.layout.specs.Unbroken.{within-true}
use Rattle.classfile.specs.Lists.{every_first, every-fails, every-last}
use Rattle.classfile.specs.Reading.{field_count}
use Rattle.resolution.specs.Quick.{quick_class, quick_base, quick_of, file_in, file-there, file-past, either}
use Rattle.resolution.specs.Cached.{super_by, super_row, super-by-row, super-row-within}
use Rattle.resolution.specs.Slots.{size_none, size-some, own-size, slots-past}
use Rattle.resolution.specs.Unbroken.{part_none, quick-base}
use Rattle.std.specs.Prelude as P
use Rattle.cells.specs.Optional.{optional}
use Rattle.std.specs.Prelude.{Some, None}
use Rattle.store.specs.Tracing.{cell_at, super_end, trace_quick}
use Rattle.store.specs.Checks.{file_fits, sources_fit, linked, linked_size, Blank, Sized, Ended, EndedTo, sized_object, object_sized, exists, value_in, local_in, object_in, frame_fit, links_fit, values_fit, readable, checks, sizes_of, Measured, Whole}
use Rattle.store.specs.Same.{sources-first, checks-broken, zeros-at}

-- Whether an object exists

module _ (n : List ℕ) (m o : ℕ) where
  pub exists-past : m ≤ o → exists n m o ≡ false
  unfolding exists
  exists-past l = every-fails _ _ (le-ltb o m l)

  pub exists-owned : o < m → exists n m o ≡ ltb 0 (owner_at n o)
  unfolding exists
  exists-owned l = every_first _ _ (lt-ltb o m l) ∙ every-last _

-- A value's cells

null-value : (X : ℕ → Bool) (k b : ℕ) (t : Bool) → value_in X (pick t null_value (unlisted_value k b)) ≡ t
unfolding value_in pick
null-value X k b true = refl
null-value X k b false = refl

empty-value : (X : ℕ → Bool) (k b : ℕ) (t : Bool) → local_in X (pick t empty_value (unlisted_value k b)) ≡ t
unfolding local_in pick
empty-value X k b true = refl
empty-value X k b false = refl

module _ (X : ℕ → Bool) (k b : ℕ) where
  pub int-fits : k ≡ 1 → value_in X (value_of k b) ≡ true
  unfolding value_in value_of pick
  int-fits e = rw e

  pub object-fits : k ≡ 3 → value_in X (value_of k b) ≡ X b
  unfolding value_in value_of pick
  object-fits e = rw e

  pub null-fits : k ≡ 2 → value_in X (value_of k b) ≡ eqb b 0
  unfolding value_of pick
  null-fits e = rw e (null-value X 2 b (eqb b 0))

  pub empty-fits : k ≡ 0 → local_in X (value_of k b) ≡ eqb b 0
  unfolding value_of pick
  empty-fits e = rw e (empty-value X 0 b (eqb b 0))

  pub none-fits : (k ≡ 1 → ⊥) → (k ≡ 3 → ⊥) → (k ≡ 2 → ⊥) → value_in X (value_of k b) ≡ false
  unfolding value_in value_of pick
  none-fits x y z = rw (ne_eqb k 1 x, ne_eqb k 3 y, ne_eqb k 2 z) (go (eqb b 0) (eqb k 0))
    where
      go : (t u : Bool) → value_in X (pick t (pick u empty_value (unlisted_value k b)) (unlisted_value k b)) ≡ false
      go true true = refl
      go true false = refl
      go false u = refl

-- a local whose kind is not 0 is as a field
pub local-value : (X : ℕ → Bool) (k b : ℕ) → (k ≡ 0 → ⊥) → local_in X (value_of k b) ≡ value_in X (value_of k b)
unfolding value_in local_in value_of pick
local-value X k b x = rw (ne_eqb k 0 x) (go (eqb k 1) (eqb k 3) (eqb b 0) (eqb k 2))
  where
    value : Bool → Bool → Bool → Bool → Value
    value s t u v = pick s (int_value b) (pick t (object_value b) (pick u (pick v null_value (unlisted_value k b)) (unlisted_value k b)))

    go : (s t u v : Bool) → local_in X (value s t u v) ≡ value_in X (value s t u v)
    go true t u v = refl
    go false true u v = refl
    go false false true true = refl
    go false false true false = refl
    go false false false v = refl

-- Files: none, the first is not Object, or the others are to be tested

module _ (n : ℕ) (kept : List ℕ) (g : ℕ → ClassRow) (m : ℕ) where
  pub sources-none : m ≡ 0 → sources_fit n kept (rows g m 0) ≡ true
  unfolding sources_fit rows
  sources-none e = rw e

  sources-one : 0 < m → sources_fit n kept (rows g m 0) ≡ every (is_object (g 0) ∷ all (file_fits n kept) (rows g (m - 1) 1) ∷ [])
  unfolding sources_fit rows
  sources-one h = let e : m ≡ suc (m - 1) = omega arith in ap (λ (k : ℕ). sources_fit n kept (rows g k 0)) e

  pub sources-unfit : 0 < m → is_object (g 0) ≡ false → sources_fit n kept (rows g m 0) ≡ false
  sources-unfit h e = sources-one h ∙ every-fails _ _ e

  pub sources-rest : 0 < m → is_object (g 0) ≡ true → sources_fit n kept (rows g m 0) ≡ all (file_fits n kept) (rows g (m - 1) 1)
  sources-rest h e = sources-one h ∙ (every_first _ _ e ∙ every-last _)

-- Sizes

module _ (b : Base) (c : ℕ) where
  pub linked-none : super_of b c ≡ none → linked b c ≡ false
  unfolding linked is_some
  linked-none e = rw e (every-fails _ _ refl)

  linked-some : (p : ℕ) → super_of b c ≡ some p → linked b c ≡ leb (size_of b c) 16
  unfolding linked is_some
  linked-some p e = rw e (every_first _ _ refl ∙ every-last _)

  pub size-unlinked : super_of b c ≡ none → linked_size b c ≡ None
  unfolding linked_size
  size-unlinked e = rw (linked-none e, linked_size)

  pub size_above : (p n : ℕ) → super_of b c ≡ some p → n ≡ size_of b c → 16 < n → linked_size b c ≡ None
  unfolding linked_size
  size_above p n e q l = rw (linked-some p e ∙ lt-leb (size_of b c) 16 (omega arith), linked_size)

  pub size-within : (p n : ℕ) → super_of b c ≡ some p → n ≡ size_of b c → n ≤ 16 → linked_size b c ≡ Some n
  unfolding linked_size
  size-within p n e q l = rw (linked-some p e ∙ le-leb (size_of b c) 16 (omega arith), linked_size, q)

-- what the answer says
pub size-said : (b : Base) (c n : ℕ) → linked_size b c ≡ Some n → (linked b c ≡ true) × (n ≡ size_of b c)
unfolding linked_size
size-said b c n h = go (linked b c) refl h
  where
    go : (t : Bool) → linked b c ≡ t → (elim t as (λ _. P.Option ℕ) [ true ↦ Some (size_of b c) | false ↦ None ]) ≡ Some n → (linked b c ≡ true) × (n ≡ size_of b c)
    go true e q = (e, cc)
    go false e q = let z : ◌≡◌ {A = ℕ} 0 1 = cc in absurd (omega arith)

pub said-unfit : (b : Base) (c : ℕ) → linked_size b c ≡ None → linked b c ≡ false
unfolding linked_size
said-unfit b c h = go (linked b c) refl h
  where
    go : (t : Bool) → linked b c ≡ t → (elim t as (λ _. P.Option ℕ) [ true ↦ Some (size_of b c) | false ↦ None ]) ≡ None → linked b c ≡ false
    go true e q = let z : ◌≡◌ {A = ℕ} 0 1 = cc in absurd (omega arith)
    go false e q = e

pub linked-small : (b : Base) (c : ℕ) → linked b c ≡ true → size_of b c ≤ 16
unfolding linked
linked-small b c h = leb-true (size_of b c) 16 (every_true _ h).1.0

-- A row of objects: free, of no task, of no class, or its fields are to be tested

module _ (n : ℕ) (X : ℕ → Bool) where
  pub row-free : (w : ℕ) (x : Object) → w ≡ 0 → object_in n X (owned_by w x) ≡ true
  unfolding object_in owned_by
  row-free w x e = rw e

  pub task-past : (w : ℕ) (x : Object) → 2 < w → object_in n X (owned_by w x) ≡ false
  unfolding object_in owned_by
  task-past zero x l = absurd (omega arith)
  task-past (suc k) x l = every-fails _ _ (le-ltb k 2 (omega arith))

  pub class-past : (w : ℕ) (x : Object) → 0 < w → n ≤ x.class → object_in n X (owned_by w x) ≡ false
  unfolding object_in owned_by
  class-past zero x h l = absurd (omega arith)
  class-past (suc k) x h l = second (ltb k 2)
    where
      second : (t : Bool) → every (t ∷ ltb x.class n ∷ all (value_in X) x.values ∷ []) ≡ false
      second true = every_first _ _ refl ∙ every-fails _ _ (le-ltb x.class n l)
      second false = every-fails _ _ refl

  pub row-fields : (w : ℕ) (x : Object) → 0 < w → w ≤ 2 → x.class < n → object_in n X (owned_by w x) ≡ all (value_in X) x.values
  unfolding object_in owned_by
  row-fields zero x h k l = absurd (omega arith)
  row-fields (suc w) x h k l = every_first _ _ (lt-ltb w 2 (omega arith)) ∙ (every_first _ _ (lt-ltb x.class n l) ∙ every-last _)

-- A table of the rows past the entries of superclasses: of the first class, of one more, and of all

super-none : (b : Base) → super_end b 0 ≡ 0
unfolding super_end
super-none b = refl

super-past : (b : Base) (c : ℕ) → length b.classes ≤ c → super_end b c ≡ 0
unfolding super_end pick
super-past b zero l = refl
super-past b (suc c) l = rw (le-ltb (suc c) (length b.classes) l, pick)

super-there : (b : Base) (c : ℕ) → 0 < c → c < length b.classes → super_end b c ≡ super_row b c + 1
unfolding super_end pick
super-there b zero z l = absurd (omega arith)
super-there b (suc c) z l = rw (lt-ltb (suc c) (length b.classes) l, pick)

module _ (b : Base) where
  pub ended-first : (s : List ℕ) → Blank s → EndedTo b 1 s
  ended-first s l c = (
    λ h.
        let z : c ≡ 0 = omega arith in
        ap (λ (u : List ℕ). get_or u c 0) l ∙ (zeros-at 64 c ∙ (sym (super-none b) ∙ ap (super_end b) (sym z))),
    λ h. ap (λ (u : List ℕ). get_or u c 0) l ∙ zeros-at 64 c,
  )

  pub ended-more : (s : List ℕ) (n v : ℕ) → EndedTo b n s → n < length s → v ≡ super_end b n → EndedTo b (n + 1) (set s n v)
  ended-more s n v h l e c = (λ i. go i (eqb c n) refl, λ i. get_or-set_other s n c v 0 (λ z. omega arith) ∙ (h c).1 (omega arith))
    where
      go : c < n + 1 → (t : Bool) → eqb c n ≡ t → get_or (set s n v) c 0 ≡ super_end b c
      go i true q = let z = eqb-true c n q in rw z (get_or-set_same s n v 0 l ∙ e)
      go i false q = let z = eqb-false c n q in get_or-set_other s n c v 0 z ∙ (h c).0 (omega arith)

  pub ended-all : (s : List ℕ) (m : ℕ) → EndedTo b m s → length b.classes ≤ m → Ended b s
  ended-all s m h l c = either c m (λ i. (h c).0 i) (λ i. (h c).1 i ∙ sym (super-past b c (omega arith)))

module _ (counts classes kept cache : List ℕ) where
  abbrev quick : Base
  quick = quick_base counts classes kept cache

  pub quick-many : length quick.classes ≡ get_or counts 0 0
  unfolding quick_base
  quick-many = rows-length (λ c. quick_class kept (class_row_at classes c)) (get_or counts 0 0) 0

  pub row-few : (c : ℕ) → super_row quick c ≤ get_or counts 2 0
  row-few c = omega (arith, super-row-within quick c, entries-many)
    where
      entries-many : length quick.cache ≡ get_or counts 2 0
      entries-many = unfold quick_base in rows-length (entry_at cache) (get_or counts 2 0) 0

  -- the row of a superclass's entry that was found is the definition's
  pub row-there : (number c row n : ℕ) → number ≡ c → row ≡ super_row quick number → 1 ≤ c → n ≡ get_or counts 0 0 → c < n → row + 1 ≡ super_end quick c
  row-there number c row n e r l m h =
      let there : super_end quick c ≡ super_row quick c + 1 = super-there quick c (omega arith) (omega (arith, quick-many)) in
      let same : super_row quick number ≡ super_row quick c = ap (super_row quick) e in
      omega (arith, there, same, r)

  -- and so is the superclass by it
  pub super-read : (number c row : ℕ) (r : P.Option ℕ) → row ≡ super_row quick c → number ≡ c → r ≡ optional (super_by quick.cache number row) → r ≡ optional (super_of quick c)
  super-read number c row r p e q = q ∙ ap optional ((λ i. super_by quick.cache (e i) (p i)) ∙ super-by-row quick c)

-- the trace by such a table
pub trace-read : (b : Base) (ends counts classes cache objects frames : List ℕ) → Ended b ends
    → trace_quick (super_end b) counts classes cache objects frames ≡ trace_quick (cell_at ends) counts classes cache objects frames
trace-read b ends counts classes cache objects frames h = ap (λ (f : ℕ → ℕ). trace_quick f counts classes cache objects frames) same
  where
    same : super_end b ≡ cell_at ends
    same = unfold cell_at in λ i c. sym (h c) i

pub blank-length : (s : List ℕ) → Blank s → length s ≡ 64
blank-length s l = ap length l ∙ length-replicate {A = ℕ} 64 0

-- A table of sizes, of which the first is 0; one more; and what it says of objects

module _ (b : Base) where
  pub sized-first : (s : List ℕ) → Blank s → size_of b 0 ≡ 0 → Sized b 1 (set s 0 0)
  sized-first s l e c = (
    λ h.
        let z : c ≡ 0 = omega arith in
        (ap (λ (i : ℕ). get_or (set s 0 0) i 0) z ∙ (get_or-set_same s 0 0 0 (omega (arith, blank-length s l)) ∙ (sym e ∙ ap (size_of b) (sym z))), omega (arith, ap (size_of b) z)),
    λ h. get_or-set_other s 0 c 0 0 (λ z. omega arith) ∙ (ap (λ (u : List ℕ). get_or u c 0) l ∙ zeros-at 64 c),
  )

  pub sized-more : (s : List ℕ) (n v : ℕ) → Sized b n s → n < length s → v ≡ size_of b n → size_of b n ≤ 16 → Sized b (n + 1) (set s n v)
  sized-more s n v h l e k c = (λ i. go i (eqb c n) refl, λ i. get_or-set_other s n c v 0 (λ z. omega arith) ∙ (h c).1 (omega arith))
    where
      go : c < n + 1 → (t : Bool) → eqb c n ≡ t → (get_or (set s n v) c 0 ≡ size_of b c) × (size_of b c ≤ 16)
      go i true q = let z = eqb-true c n q in rw z (get_or-set_same s n v 0 l ∙ e, k)
      go i false q = let z = eqb-false c n q in let m = (h c).0 (omega arith) in (get_or-set_other s n c v 0 z ∙ m.0, m.1)

  -- a table that goes past the classes
  pub sized-less : (s : List ℕ) (n m : ℕ) → Sized b m s → n ≤ m → ((c : ℕ) → n ≤ c → size_of b c ≡ 0) → Sized b n s
  sized-less s n m h l past c = (λ i. (h c).0 (omega arith), λ i. either c m (λ j. ((h c).0 j).0 ∙ past c i) (λ j. (h c).1 j))

  -- an object whose class is there
  pub same-object : (n : ℕ) (sizes t : List ℕ) → Sized b n sizes → (o : ℕ) → get_or t (o * 33) 0 < n → sized_object sizes t o ≡ object_at b t o
  unfolding object_at used_fields pick
  same-object n sizes t sized o l = let s = (sized (get_or t (o * 33) 0)).0 l in rw (s.0, le-leb (size_of b (get_or t (o * 33) 0)) 16 s.1, pick)

  module _ (n : ℕ) (X : ℕ → Bool) (sizes counts t : List ℕ) (sized : Sized b n sizes) where
    same-fits : (o : ℕ) → object_in n X (object_sized sizes counts t o) ≡ object_in n X (object_row_at b counts t o)
    unfolding object_sized object_row_at
    same-fits o = either (get_or t (o * 33) 0) n (λ l. ap (λ (x : Object). object_in n X (owned_by (owner_at counts o) x)) (same-object n sizes t sized o l)) (λ l. go (owner_at counts o) l)
      where
        go : (w : ℕ) → n ≤ get_or t (o * 33) 0 → object_in n X (owned_by w (sized_object sizes t o)) ≡ object_in n X (owned_by w (object_at b t o))
        go zero l = unfold owned_by in refl
        go (suc k) l = class-past n X (suc k) (sized_object sizes t o) (omega arith) l ∙ sym (class-past n X (suc k) (object_at b t o) (omega arith) (unfold object_at in l))

    pub sized-objects : (k i : ℕ) → all (object_in n X) (rows (object_sized sizes counts t) k i) ≡ all (object_in n X) (rows (object_row_at b counts t) k i)
    unfolding rows all
    sized-objects zero i = refl
    sized-objects (suc k) i = let e = sized-objects k (suc i) in λ j. elim (same-fits i j) as (λ _. Bool) [ true ↦ e j | false ↦ false ]

module _ (counts classes kept cache : List ℕ) where
  abbrev base : Base
  base = quick_base counts classes kept cache

  -- the size of a class is its superclass's and its own fields
  size-sum : (c p s k : ℕ) → super_of base c ≡ some p → s ≡ size_of base p → k ≡ field_count (file_in counts classes kept c) → s + k ≡ size_of base c
  size-sum c p s k e x y = omega (arith, size-some base c p e, own-size counts classes kept cache c)

  -- which the table has of those below it
  pub size-linked : (sizes : List ℕ) (c p k : ℕ) → Sized base c sizes → super_of base c ≡ some p → k ≡ field_count (file_in counts classes kept c) → get_or sizes p 0 + k ≡ size_of base c
  size-linked sizes c p k sized e own = size-sum c p (get_or sizes p 0) k e ((sized p).0 (super-falls base c p e)).0 own

  object-file : sources_fit (get_or counts 1 0) kept (rows (class_row_at classes) (get_or counts 0 0) 0) ≡ true → file_in counts classes kept 0 ≡ []
  object-file h =
      either 0 (get_or counts 0 0)
      (λ l.
      let f = sources-first (get_or counts 1 0) kept (class_row_at classes) (get_or counts 0 0) h l in
      file-there counts classes kept 0 l ∙ part_none kept (class_row_at classes 0).start (class_row_at classes 0).size f.size)
      (λ l. file-past counts classes kept 0 l)

  no-super : super_of base 0 ≡ none
  no-super = go (super_of base 0) refl
    where
      go : (o : Option ℕ) → super_of base 0 ≡ o → o ≡ none
      go none e = refl
      go (some p) e = absurd (omega (arith, super-falls base 0 p e))

  -- Object has no fields
  object-size : sources_fit (get_or counts 1 0) kept (rows (class_row_at classes) (get_or counts 0 0) 0) ≡ true → size_of base 0 ≡ 0
  unfolding field_count
  object-size h = size_none base 0 no-super ∙ (own-size counts classes kept cache 0 ∙ rw (object-file h))

-- Frames

pub frame-tests : (t : List ℕ) (b n : ℕ) (X : ℕ → Bool)
    → frame_fit n X (frame_at t b)
    ≡ every (ltb (get_or t b 0) n ∷ leb (get_or t (b + 3) 0) 16 ∷ all (value_in X) (stack (operand_at t b) (get_or t (b + 3) 0)) ∷ all (local_in X) (rows (local_at t b) 8 0) ∷ [])
unfolding frame_fit frame_at frame_of
frame-tests t b n X = rw (stack-length (operand_at t b) (get_or t (b + 3) 0))

-- The sizes that the tests leave are the definition's

size-at : (t : Tables) (c : ℕ) → c < class_limit → get_or (sizes_of t) c 0 ≡ pick (broken t) 0 (size_of (view_base t) c)
unfolding sizes_of
size-at t c l = let z : 0 + c ≡ c = omega arith in rw z at (rows-get_d (λ i. pick (broken t) 0 (size_of (view_base t) i)) class_limit 0 c 0 l)

pub sizes-unbroken : (t : Tables) (sizes : List ℕ) → broken t ≡ false → Sized (view_base t) (get_or t.counts 0 0) sizes → length sizes ≡ class_limit → sizes ≡ sizes_of t
unfolding sizes_of pick
sizes-unbroken t sizes h d e =
    ext_get_or 0 sizes (sizes_of t) (e ∙ sym (rows-length _ class_limit 0)) (λ c l.
    at c ∙ sym (size-at t c (omega arith) ∙ ap (λ (u : Bool). pick u 0 (size_of (view_base t) c)) h))
  where
    n : ℕ
    n = get_or t.counts 0 0

    past : (c : ℕ) → n ≤ c → size_of (view_base t) c ≡ 0
    past c l = ap (λ (b : Base). size_of b c) (sym (quick-base t h)) ∙ ap length (slots-past t.counts t.classes t.kept t.cache c l)

    at : (c : ℕ) → get_or sizes c 0 ≡ size_of (view_base t) c
    at c = either c n (λ l. ((d c).0 l).0) (λ l. (d c).1 l ∙ sym (past c l))

module _ (t : Tables) where
  pub unreadable : readable t ≡ false → true ≡ broken t
  unfolding checks
  unreadable h = sym (checks-broken t ∙ ap not (every-fails _ _ h))

  module _ (h : readable t ≡ true) where
    pub verdict-values : (v : Bool) → v ≡ values_fit (quick_of t) t.counts t.classes t.cache t.objects t.frames → not v ≡ broken t
    unfolding checks
    verdict-values v e = ap not e ∙ sym (checks-broken t ∙ ap not (every_first _ _ h ∙ every-last _))

    -- what the values' tests ask
    pub readable-few : get_or t.counts 0 0 ≤ 64
    unfolding readable
    readable-few = (within-true t.counts (every_true _ h).1.0).classes

    pub readable-entries : get_or t.counts 2 0 ≤ 256
    unfolding readable
    readable-entries = (within-true t.counts (every_true _ h).1.0).cache

    pub readable-whole : Whole t.counts t.objects t.frames
    unfolding readable shaped
    readable-whole =
        let long = every_true _ (every_true _ h).0 in
        let few = within-true t.counts (every_true _ h).1.0 in
        (eqb-true _ _ long.0, eqb-true _ _ long.1.1.1.1.1.1.0, eqb-true _ _ long.1.1.1.1.1.1.1.0, few.objects, few.quote, few.report)

    pub readable-object : size_of (quick_of t) 0 ≡ 0
    unfolding readable
    readable-object = object-size t.counts t.classes t.kept t.cache (every_true _ h).1.1.1.1.0

  module _ (h : broken t ≡ false) where
    tests-pass : checks t ≡ true
    tests-pass = not-false (checks t) (sym (checks-broken t) ∙ h)

    pub unbroken-readable : readable t ≡ true
    unfolding checks
    unbroken-readable = (every_true _ tests-pass).0

    unbroken-linked : links_fit (quick_of t) (get_or t.counts 0 0) ≡ true
    unfolding checks values_fit
    unbroken-linked = (every_true _ (every_true _ tests-pass).1.0).0

-- the sizes that the links' test leaves of tables that are not broken
pub measured : (t : Tables) (sizes : List ℕ) (v : Bool) → broken t ≡ false → v ≡ links_fit (quick_of t) (get_or t.counts 0 0) → (v ≡ true → Sized (quick_of t) (get_or t.counts 0 0) sizes) → length sizes ≡ class_limit
    → Measured t sizes
measured t sizes v h e s l =
    let sized = subst (λ (b : Base). Sized b (get_or t.counts 0 0) sizes) (quick-base t h) (s (e ∙ unbroken-linked t h)) in
    record { unbroken = h; fields = sizes-unbroken t sizes h sized l; sized = sized }
