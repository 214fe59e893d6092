-- The classes and the cache read off the tables at once. A class is read off its part of the kept bytes without checking the file rules, so
-- that any tables give a base; tables that are not broken give the definition's (`quick-base` of Unbroken).
use Rattle.std.specs.Prelude.{◌≡◌, refl, Bool, true, false, ℕ, ◌≤◌, ◌<◌, get_or, eqb, ltb}
use Rattle.std.proofs.Math.Path.{sym, ap}
use Rattle.std.proofs.Common.{◌∙◌, zero-add}
use Rattle.std.proofs.Math.Option.{Option, none, some}
use mathlib.Core.List.{List, [], map}
use Rattle.std.proofs.Math.ListN.{get_elem?}
use borrow.Author.Tests.{lt-ltb, le-ltb, ltb-true, ltb-false}
use Rattle.definition.specs.Lists.{any, is_some, rows}
use Rattle.definition.specs.Requests.{at}
use Rattle.definition.specs.Instructions.{pick}
use Rattle.definition.specs.Classes.{Base, Class, slot_is, super_of, loader_of, own_slots, has_field, methods_of}
use Rattle.definition.specs.Tables.{Tables, tables, ClassRow, class_row_at, entry_at}
use Rattle.laws.specs.Stable.{loader-is}
use Rattle.layout.specs.Places.{rows-length, rows_at, rows-past}
use Rattle.classfile.specs.Lists.{any-index}
use Rattle.classfile.specs.Reading.{file_version, class_name, super_name, quick_fields, quick_methods, field_is, field_count, method_count, part_of}
use Rattle.classfile.specs.Searches.{slot_of, own-index, own-slots, own-methods}
use Rattle.std.specs.Option as Rust
use Rattle.cells.specs.Optional.{optional}
use Rattle.resolution.specs.Cached.{row_of, super_row}
use Rattle.resolution.specs.declared.Base as Tabled

-- whether there is one, as the code asks
pub optional-is : {A : Type 0} (o : Option A) → Rust.is_some (optional o) ≡ is_some o
unfolding is_some
optional-is none = refl
optional-is (some x) = refl

-- the class of a row. Object has no file, and its name is 2
unfoldable pub quick_class : List ℕ → ClassRow → Class
quick_class kept k =
    let bs = part_of kept k.start k.size in
    record {
      loader = k.loader;
      version = file_version bs;
      name = pick (eqb k.size 0) 2 (class_name bs);
      super = super_name bs;
      fields = quick_fields bs;
      methods = quick_methods bs;
    }

unfoldable pub quick_base : List ℕ → List ℕ → List ℕ → List ℕ → Base
quick_base counts classes kept cache = record {
  classes = rows (λ c. quick_class kept (class_row_at classes c)) (get_or counts 0 0) 0;
  cache = rows (entry_at cache) (get_or counts 2 0) 0;
}

-- what tables stand for
abbrev pub base_of : Tabled.Base → Base
base_of t = quick_base t.counts.now t.classes.now t.kept.now t.cache.now

-- with the other four tables
abbrev pub tables_over : Tabled.Base → List ℕ → List ℕ → List ℕ → List ℕ → Tables
tables_over t ties subtypes objects frames = tables t.counts.now t.classes.now t.kept.now t.cache.now ties subtypes objects frames

-- a predicate on those tables and more
abbrev pub over : {A : Type 1} → (List ℕ → List ℕ → List ℕ → List ℕ → A) → Tabled.Base → A
over f t = f t.counts.now t.classes.now t.kept.now t.cache.now

abbrev pub quick_of : Tables → Base
quick_of t = quick_base t.counts t.classes t.kept t.cache

-- the file of class number c, no bytes if there is no such class
unfoldable pub file_in : List ℕ → List ℕ → List ℕ → ℕ → List ℕ
file_in counts classes kept c =
    elim (ltb c (get_or counts 0 0)) [
      | true ↦ part_of kept (class_row_at classes c).start (class_row_at classes c).size
      | false ↦ []
    ]

-- the loader of class number c, 0 if there is no such class
unfoldable pub loader_in : List ℕ → List ℕ → ℕ → ℕ
loader_in counts classes c = elim (ltb c (get_or counts 0 0)) [ true ↦ (class_row_at classes c).loader | false ↦ 0 ]

-- the version of class number c of a base, 0 if there is no such class
unfoldable pub version_of : Base → ℕ → ℕ
version_of b c = elim (get_elem? b.classes c) [ none ↦ 0 | some k ↦ k.version ]

-- a number that is below n, and one that is not
pub either : {A : Type 0} (c n : ℕ) → (c < n → A) → (n ≤ c → A) → A
either {A} c n f g = go (ltb c n) refl
  where
    go : (t : Bool) → ltb c n ≡ t → A
    go true e = f (ltb-true c n e)
    go false e = g (ltb-false c n e)

module _ (counts classes kept : List ℕ) (c : ℕ) where
  pub file-there : c < get_or counts 0 0 → file_in counts classes kept c ≡ part_of kept (class_row_at classes c).start (class_row_at classes c).size
  unfolding file_in
  file-there h = rw (lt-ltb c (get_or counts 0 0) h, file_in)

  pub file-past : get_or counts 0 0 ≤ c → file_in counts classes kept c ≡ []
  unfolding file_in
  file-past h = rw (le-ltb c (get_or counts 0 0) h, file_in)

module _ (counts classes kept cache : List ℕ) where
  abbrev b : Base
  b = quick_base counts classes kept cache

  abbrev row : ℕ → ClassRow
  row c = class_row_at classes c

  abbrev file : ℕ → List ℕ
  file c = file_in counts classes kept c

  -- A class that is there, and one that is not

  pub class-there : (c : ℕ) → c < get_or counts 0 0 → get_elem? b.classes c ≡ some (quick_class kept (row c))
  unfolding quick_base
  class-there c h = rows_at (λ c. quick_class kept (row c)) (get_or counts 0 0) 0 c h ∙ ap {B = Option Class} (λ i. some (quick_class kept (row i))) (zero-add c)

  pub class-past : (c : ℕ) → get_or counts 0 0 ≤ c → get_elem? b.classes c ≡ none
  unfolding quick_base
  class-past c h = rows-past (λ c. quick_class kept (row c)) (get_or counts 0 0) 0 c h

  -- The row by which a class finds its superclass: of a class that is there, under its loader l and its superclass's name n

  pub row-there : (c : ℕ) → c < get_or counts 0 0 → (l n : ℕ) → l ≡ (row c).loader → n ≡ super_name (file c) → super_row b c ≡ row_of (rows (entry_at cache) (get_or counts 2 0) 0) (at l n)
  unfolding super_row quick_class quick_base
  row-there c h l n loader name = rw (loader, name, file-there counts classes kept c h) (rw (class-there c h, super_row))

  pub row-past : (c : ℕ) → get_or counts 0 0 ≤ c → super_row b c ≡ get_or counts 2 0
  unfolding super_row quick_base
  row-past c h = rw (class-past c h, super_row) (rows-length (entry_at cache) (get_or counts 2 0) 0)

  pub super-past : (c : ℕ) → get_or counts 0 0 ≤ c → super_of b c ≡ none
  unfolding super_of
  super-past c h = rw (class-past c h, super_of)

  -- A class that is not there has neither fields nor methods, as an empty file

  own-there : (c : ℕ) → c < get_or counts 0 0 → own_slots b c ≡ map (slot_of c) (quick_fields (file c))
  unfolding quick_class
  own-there c h = own-slots b c (quick_class kept (row c)) (class-there c h) ∙ ap (λ (bs : List ℕ). map (slot_of c) (quick_fields bs)) (sym (file-there counts classes kept c h))

  own-past : (c : ℕ) → get_or counts 0 0 ≤ c → own_slots b c ≡ map (slot_of c) (quick_fields (file c))
  unfolding own_slots quick_fields field_count rows
  own-past c h = rw (class-past c h, own_slots, file-past counts classes kept c h)

  pub own-quick : (c : ℕ) → own_slots b c ≡ map (slot_of c) (quick_fields (file c))
  own-quick c = either c (get_or counts 0 0) (own-there c) (own-past c)

  methods-there : (c : ℕ) → c < get_or counts 0 0 → methods_of b c ≡ quick_methods (file c)
  unfolding quick_class
  methods-there c h = own-methods b c (quick_class kept (row c)) (class-there c h) ∙ ap quick_methods (sym (file-there counts classes kept c h))

  methods-past : (c : ℕ) → get_or counts 0 0 ≤ c → methods_of b c ≡ quick_methods (file c)
  unfolding methods_of quick_methods method_count field_count rows
  methods-past c h = rw (class-past c h, methods_of, file-past counts classes kept c h)

  pub methods-quick : (c : ℕ) → methods_of b c ≡ quick_methods (file c)
  methods-quick c = either c (get_or counts 0 0) (methods-there c) (methods-past c)

  loader-there : (c : ℕ) → c < get_or counts 0 0 → loader_of b c ≡ loader_in counts classes c
  unfolding quick_class loader_in
  loader-there c h = loader-is b c (quick_class kept (row c)) (class-there c h) ∙ sym (rw (lt-ltb c (get_or counts 0 0) h, loader_in))

  loader-past : (c : ℕ) → get_or counts 0 0 ≤ c → loader_of b c ≡ loader_in counts classes c
  unfolding loader_of loader_in
  loader-past c h = rw (class-past c h, loader_of, le-ltb c (get_or counts 0 0) h, loader_in)

  pub loader-quick : (c : ℕ) → loader_of b c ≡ loader_in counts classes c
  loader-quick c = either c (get_or counts 0 0) (loader-there c) (loader-past c)

  version-there : (c : ℕ) → c < get_or counts 0 0 → version_of b c ≡ file_version (file c)
  unfolding quick_class version_of
  version-there c h = rw (class-there c h, version_of, file-there counts classes kept c h)

  version-past : (c : ℕ) → get_or counts 0 0 ≤ c → version_of b c ≡ file_version (file c)
  unfolding version_of file_version
  version-past c h = rw (class-past c h, version_of, file-past counts classes kept c h)

  pub version-quick : (c : ℕ) → version_of b c ≡ file_version (file c)
  version-quick c = either c (get_or counts 0 0) (version-there c) (version-past c)

  -- What a class declares

  pub has-field-quick : (n t c : ℕ) → has_field b n t c ≡ any (field_is n t) (quick_fields (file c))
  unfolding has_field
  has-field-quick n t c =
      let fs = quick_fields (file c) in
      ap (any (slot_is c n t)) (own-quick c) ∙ any-index (slot_is c n t) (map (slot_of c) fs) ∙ ap is_some (own-index c n t fs) ∙ sym (any-index (field_is n t) fs)
