-- What else the lookups answer: a class's name, a method's code, and tables of superclasses and slots.
use Rattle.std.specs.Prelude.{◌≡◌, refl, true, false, ◌⊎◌, List, [], ℕ, zero, suc, ◌+◌, ◌≤◌, ◌<◌, length, get_or, set, ltb}
use Rattle.std.proofs.Common.{sym, ap, ◌∙◌, inl, inr, zero-add, arith, length-set, take_all}
use Rattle.std.specs.Prelude as Rust
use Rattle.std.proofs.Math.Option.{Option, none, some}
use Rattle.std.proofs.Math.Numerals.{add-one}
use Rattle.std.proofs.Math.ListN.{get_elem?, get_or-eq_default}
use borrow.Author.Tests.{lt-ltb, le-ltb, ne_eqb}
use Rattle.definition.specs.declared.Signature.{Signature}
use Rattle.definition.specs.Lists.{index_of, rows, write_rows}
use Rattle.definition.specs.Instructions.{pick}
use Rattle.definition.specs.Maybe.{◌>>=◌}
use Rattle.definition.specs.Classes.{Base, Class, Method, lower, super_of, alike, methods_of, has_method, Selected, selected}
use Rattle.definition.specs.Tables.{class_row_at}
use Rattle.laws.specs.Agreement.{super-falls}
use Rattle.laws.specs.Upward.{nearest-here, nearest-up, nearest-none}
use Rattle.layout.specs.Places.{rows-length, rows-get_d, rows_take, write_rows-length}
use Rattle.layout.specs.Cells.{rows_back, cell-rows}
use Rattle.classfile.specs.Reading.{class_name, super_name, quick_fields, quick_methods}
use Rattle.classfile.specs.Searches.{any_some, any_none}
use Rattle.resolution.specs.Quick.{quick_class, quick_base, file_in, file-there, loader_in, super-past, either}
use Rattle.resolution.specs.declared.Selection.{Selection}

-- the name of class number c, 0 if there is no such class
unfoldable pub name_in : List ℕ → List ℕ → List ℕ → ℕ → ℕ
name_in counts classes kept c = elim (ltb c (get_or counts 0 0)) [ true ↦ (quick_class kept (class_row_at classes c)).name | false ↦ 0 ]

-- the code of method number j of a list, none if there is no such method
unfoldable pub code_in : List Method → ℕ → List ℕ
code_in ms j = elim (get_elem? ms j) [ none ↦ [] | some m ↦ m.code ]

-- a method that was selected, as a value of the code
abbrev pub selection : Option Selected → Rust.Option Selection
selection none = Rust.None
selection (some m) = Rust.Some (record { class = m.class; place = m.place })

pub selection-at : (o : Option Selected) (m : Selection) → selection o ≡ Rust.Some m → o ≡ some (record { class = m.class; place = m.place })
selection-at none m h = cc
selection-at (some x) m h =
    let p : x.class ≡ m.class = cc in
    let q : x.place ≡ m.place = cc in
    λ i. some (record { class = p i; place = q i })

pub selection-absent : (o : Option Selected) → selection o ≡ Rust.None → o ≡ none
selection-absent none h = refl
selection-absent (some m) h = cc

-- a class's direct superclass as a cell: 0 for none, else its number and 1
unfoldable pub super_cell : Base → ℕ → ℕ
super_cell b c = elim (super_of b c) [ none ↦ 0 | some p ↦ suc p ]

-- A class's name: none, Object's, or as its file says

module _ (counts classes kept : List ℕ) (c : ℕ) where
  pub name-past : get_or counts 0 0 ≤ c → name_in counts classes kept c ≡ 0
  unfolding name_in
  name-past h = rw (le-ltb c (get_or counts 0 0) h, name_in)

  pub name-object : c < get_or counts 0 0 → (class_row_at classes c).size ≡ 0 → name_in counts classes kept c ≡ 2
  unfolding name_in quick_class pick
  name-object h e = rw (lt-ltb c (get_or counts 0 0) h, name_in, e)

  pub name-file : c < get_or counts 0 0 → ((class_row_at classes c).size ≡ 0 → ⊥) → name_in counts classes kept c ≡ class_name (file_in counts classes kept c)
  unfolding name_in quick_class pick
  name-file h e = rw (lt-ltb c (get_or counts 0 0) h, name_in, ne_eqb (class_row_at classes c).size 0 e, file-there counts classes kept c h)

-- What a class that is there is

module _ (counts classes kept : List ℕ) (c : ℕ) (h : c < get_or counts 0 0) where
  abbrev the_class : Class
  the_class = quick_class kept (class_row_at classes c)

  abbrev bytes : List ℕ
  bytes = file_in counts classes kept c

  pub class-loader : the_class.loader ≡ loader_in counts classes c
  unfolding quick_class loader_in
  class-loader = rw (lt-ltb c (get_or counts 0 0) h, loader_in)

  pub class-name : the_class.name ≡ name_in counts classes kept c
  unfolding name_in
  class-name = rw (lt-ltb c (get_or counts 0 0) h, name_in)

  pub class-super : the_class.super ≡ super_name bytes
  unfolding quick_class
  class-super = rw (file-there counts classes kept c h)

  pub class-fields : the_class.fields ≡ quick_fields bytes
  unfolding quick_class
  class-fields = rw (file-there counts classes kept c h)

  pub class-methods : the_class.methods ≡ quick_methods bytes
  unfolding quick_class
  class-methods = rw (file-there counts classes kept c h)

-- A method's code

pub code-some : (ms : List Method) (j : ℕ) (m : Method) → get_elem? ms j ≡ some m → code_in ms j ≡ m.code
unfolding code_in
code-some ms j m h = rw (h, code_in)

pub code-none : (ms : List Method) (j : ℕ) → get_elem? ms j ≡ none → code_in ms j ≡ []
unfolding code_in
code-none ms j h = rw (h, code_in)

-- either there is no such method, or its code is that
pub code-cases : (ms : List Method) (j : ℕ) → ((get_elem? ms j ≡ none) × (code_in ms j ≡ [])) ⊎ ((m : Method) × (get_elem? ms j ≡ some m) × (code_in ms j ≡ m.code))
code-cases ms j = go (get_elem? ms j) refl
  where
    go : (o : Option Method) → get_elem? ms j ≡ o → ((get_elem? ms j ≡ none) × (code_in ms j ≡ [])) ⊎ ((m : Method) × (get_elem? ms j ≡ some m) × (code_in ms j ≡ m.code))
    go none e = inl (e, code-none ms j e)
    go (some m) e = inr (m, e, code-some ms j m e)

-- A method's selection: here, further up, or nowhere

module _ (b : Base) (s : Signature) (c : ℕ) where
  abbrev place : Option ℕ
  place = index_of (alike s) (methods_of b c)

  has-place : (j : ℕ) → place ≡ some j → has_method b s c ≡ true
  unfolding has_method
  has-place j e = any_some (alike s) (methods_of b c) j e

  no_place : place ≡ none → has_method b s c ≡ false
  unfolding has_method
  no_place e = any_none (alike s) (methods_of b c) e

  pub selected-here : (j : ℕ) → place ≡ some j → selected b s c ≡ some (record { class = c; place = j })
  unfolding selected ◌>>=◌
  selected-here j e = rw (nearest-here (super_of b) (super-falls b) (has_method b s) c (has-place j e)) (rw e)

  pub selected-up : (p : ℕ) → place ≡ none → super_of b c ≡ some p → selected b s c ≡ selected b s p
  unfolding selected
  selected-up p e h = rw (nearest-up (super_of b) (super-falls b) (has_method b s) c p (no_place e) h)

  pub selected-none : place ≡ none → super_of b c ≡ none → selected b s c ≡ none
  unfolding selected ◌>>=◌
  selected-none e h = rw (nearest-none (super_of b) (super-falls b) (has_method b s) c (no_place e) h)

-- A superclass's cell

module _ (b : Base) (c : ℕ) where
  pub cell-none : super_of b c ≡ none → super_cell b c ≡ 0
  unfolding super_cell
  cell-none h = rw (h, super_cell)

  pub cell-some : (p : ℕ) → super_of b c ≡ some p → super_cell b c ≡ p + 1
  unfolding super_cell
  cell-some p h = rw (h, super_cell, add-one p)

-- Cells written from place 0 on are read back: types of fields, superclasses

pub written_read : (xs t : List ℕ) → length xs ≤ length t → rows (λ i. get_or (write_rows set xs 0 t) i 0) (length xs) 0 ≡ xs
written_read xs t l = rows_back cell-rows xs t (omega arith)

-- what a cell says is the direct superclass
pub cell-super : (b : Base) (c : ℕ) → (elim (super_cell b c) as (λ _. Option ℕ) [ zero ↦ none | suc p ↦ lower c p ]) ≡ super_of b c
unfolding super_cell lower
cell-super b c = go (super_of b c) refl
  where
    go : (o : Option ℕ) → super_of b c ≡ o → (elim (elim o as (λ _. ℕ) [ none ↦ 0 | some p ↦ suc p ]) as (λ _. Option ℕ) [ zero ↦ none | suc p ↦ lower c p ]) ≡ o
    go none e = refl
    go (some p) e = rw (lt-ltb p c (super-falls b c p e), lower)

-- a table of 64 cells, filled, says so of every class where there are at most 64 of them
module _ (counts classes kept cache supers : List ℕ) (few : get_or counts 0 0 ≤ 64) (long : length supers ≡ 64) where
  abbrev b : Base
  b = quick_base counts classes kept cache

  abbrev filled : List ℕ
  filled = write_rows set (rows (super_cell b) 64 0) 0 supers

  filled_is : filled ≡ rows (super_cell b) 64 0
  filled_is =
      let n : length filled ≡ 64 = write_rows-length set length-set (rows (super_cell b) 64 0) 0 supers ∙ long in
      let m : length (rows (super_cell b) 64 0) ≡ 64 = rows-length (super_cell b) 64 0 in
      sym (take_all 64 filled (omega arith)) ∙ (sym (rows_take filled 64 (omega arith)) ∙ (ap (λ (k : ℕ). rows (λ i. get_or filled i 0) k 0) (sym m) ∙ written_read (rows (super_cell b) 64 0) supers (omega arith)))

  pub supers-read : (c : ℕ) → get_or filled c 0 ≡ super_cell b c
  supers-read c = rw filled_is (either c 64 (λ h. rows-get_d (super_cell b) 64 0 c 0 h ∙ ap (super_cell b) (zero-add c)) past)
    where
      past : 64 ≤ c → get_or (rows (super_cell b) 64 0) c 0 ≡ super_cell b c
      past h =
          let m : length (rows (super_cell b) 64 0) ≤ c = omega (arith, rows-length (super_cell b) 64 0) in
          get_or-eq_default (rows (super_cell b) 64 0) 0 m ∙ sym (cell-none b c (super-past counts classes kept cache c (omega arith)))

  pub supers-lower : (c : ℕ) → (elim (get_or filled c 0) as (λ _. Option ℕ) [ zero ↦ none | suc p ↦ lower c p ]) ≡ super_of b c
  supers-lower c = rw (supers-read c) (cell-super b c)
