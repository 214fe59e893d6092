-- What the answers of the searches say of the file that was read, and of a class's slots.
use Rattle.std.proofs.Math.Path.{◌≡◌, refl, sym, ap}
use Rattle.std.proofs.Common.{◌∙◌, ⊎_elim, zero-add, arith, lt-ltb, le-ltb, eq-eqb, le-leb}
use Rattle.std.specs.Prelude.{Bool, true, false, List, [], map, ℕ, ◌+◌, ◌≤◌, ◌<◌, length, take, drop, leb, Some, None}
use Rattle.std.specs.Option as P
use Rattle.std.proofs.Math.Option.{Option, none, some}
use Rattle.std.proofs.Math.ListN.{get_elem?}
use Rattle.std.proofs.lemmas.Bool.{lt-leb}
use Rattle.definition.specs.Lists.{any, index_of, is_some}
use Rattle.definition.specs.Maybe.{◌>>=◌, need}
use Rattle.definition.specs.Classes.{Base, Class, Field, Method, Slot, slot_is, own_slots, has_field, methods_of}
use Rattle.definition.specs.File.{read_file}
use Rattle.definition.specs.Tables.{ClassRow, file_at}
use Rattle.cells.specs.Optional.{optional, optional-some, optional-none}
use Rattle.layout.specs.Places.{rows_at, rows-past}
use Rattle.layout.specs.ReadBack.{empty-file}
use Rattle.classfile.specs.declared.MethodFound.{MethodFound}
use Rattle.classfile.specs.Lists.{le-or-lt, shift, shift-some, any-index, any-map, index-map}
use Rattle.classfile.specs.Reading.{method_count, method_at, method_place, method_in, quick_methods, field_is, method_found, numbered_place, part_of}

-- Methods

module _ (bs : List ℕ) where
  pub method-at : (o : Option ℕ) (m : MethodFound) → method_found bs o ≡ Some m → (o ≡ some m.number) × (m.place ≡ method_place bs m.number)
  unfolding method_found
  method-at none m h = let z : ◌≡◌ {A = ℕ} 0 1 = cc in absurd (omega arith)
  method-at (some i) m h = (cc, cc)

  pub method-absent : (o : Option ℕ) → method_found bs o ≡ None → o ≡ none
  unfolding method_found
  method-absent none h = refl
  method-absent (some j) h = cc

  -- the method of number j, and its record
  pub method-there : (j : ℕ) → j < method_count bs → get_elem? (quick_methods bs) j ≡ some (method_at bs (method_place bs j))
  unfolding quick_methods method_in
  method-there j h = rows_at (method_in bs) (method_count bs) 0 j h ∙ ap {B = Option Method} (λ i. some (method_in bs i)) (zero-add j)

  pub method-past : (j : ℕ) → method_count bs ≤ j → get_elem? (quick_methods bs) j ≡ none
  unfolding quick_methods
  method-past j h = rows-past (method_in bs) (method_count bs) 0 j h

  -- what is found by a number

  pub numbered-in : (j : ℕ) → j < method_count bs → numbered_place bs j ≡ some (method_place bs j)
  unfolding numbered_place
  numbered-in j h = rw (lt-ltb j (method_count bs) h, numbered_place)

  pub numbered-past : (j : ℕ) → method_count bs ≤ j → numbered_place bs j ≡ none
  unfolding numbered_place
  numbered-past j h = rw (le-ltb j (method_count bs) h, numbered_place)

  pub method-numbered : (j p : ℕ) → optional (numbered_place bs j) ≡ Some p → get_elem? (quick_methods bs) j ≡ some (method_at bs p)
  method-numbered j p h = ⊎_elim past here (le-or-lt (method_count bs) j)
    where
      found : numbered_place bs j ≡ some p
      found = optional-some (numbered_place bs j) p h

      past : method_count bs ≤ j → get_elem? (quick_methods bs) j ≡ some (method_at bs p)
      past l = let z : ◌≡◌ {A = ℕ} 0 1 = cc (numbered-past j l, found) in absurd (omega arith)

      here : j < method_count bs → get_elem? (quick_methods bs) j ≡ some (method_at bs p)
      here l = let e : method_place bs j ≡ p = cc (numbered-in j l, found) in rw (← e) (method-there j l)

  pub method-unnumbered : (j : ℕ) → optional (numbered_place bs j) ≡ None → get_elem? (quick_methods bs) j ≡ none
  method-unnumbered j h = ⊎_elim (method-past j) here (le-or-lt (method_count bs) j)
    where
      here : j < method_count bs → get_elem? (quick_methods bs) j ≡ none
      here l = let z : ◌≡◌ {A = ℕ} 0 1 = cc (numbered-in j l, optional-none (numbered_place bs j) h) in absurd (omega arith)

-- A class's fields as its slots, whether it has a field, and its methods

abbrev pub slot_of : ℕ → Field → Slot
slot_of c f = record { owner = c; name = f.name; type = f.type }

slot-is : (c n t : ℕ) (f : Field) → slot_is c n t (slot_of c f) ≡ field_is n t f
unfolding slot_is field_is
slot-is c n t f = rw (eq-eqb c c refl)

-- the place of a field among the class's own slots
pub own-index : (c n t : ℕ) (fs : List Field) → index_of (slot_is c n t) (map (slot_of c) fs) ≡ index_of (field_is n t) fs
own-index c n t fs = index-map (slot_is c n t) (field_is n t) (slot_of c) (slot-is c n t) fs

module _ (b : Base) (c : ℕ) (k : Class) (h : get_elem? b.classes c ≡ some k) where
  pub own-slots : own_slots b c ≡ map (slot_of c) k.fields
  unfolding own_slots
  own-slots = rw (h, own_slots)

  pub has-field : (n t : ℕ) → has_field b n t c ≡ any (field_is n t) k.fields
  unfolding has_field
  has-field n t = ap (any (slot_is c n t)) own-slots ∙ any-map (slot_is c n t) (field_is n t) (slot_of c) (slot-is c n t) k.fields

  pub own-methods : methods_of b c ≡ k.methods
  unfolding methods_of
  own-methods = rw (h, methods_of)

-- a search that answers a place says that something passes, and one that answers none that nothing does
pub any_some : {A : Type 0} (f : A → Bool) (xs : List A) (j : ℕ) → index_of f xs ≡ some j → any f xs ≡ true
unfolding is_some
any_some f xs j h = any-index f xs ∙ ap is_some h

pub any_none : {A : Type 0} (f : A → Bool) (xs : List A) → index_of f xs ≡ none → any f xs ≡ false
unfolding is_some
any_none f xs h = any-index f xs ∙ ap is_some h

-- a search from number i on finds a method exactly if one passes
pub method-some : (bs : List ℕ) (f : Method → Bool) (xs : List Method) (i : ℕ) → P.is_some (method_found bs (shift i (index_of f xs))) ≡ any f xs
unfolding is_some method_found
method-some bs f xs i = same (shift i (index_of f xs)) ∙ shift-some (index_of f xs) i ∙ sym (any-index f xs)
  where
    same : (o : Option ℕ) → P.is_some (method_found bs o) ≡ is_some o
    same none = refl
    same (some j) = refl

-- A part of the kept bytes

module _ (bs : List ℕ) (start size : ℕ) where
  pub part-there : start + size ≤ length bs → part_of bs start size ≡ take size (drop start bs)
  unfolding part_of
  part-there h = rw (le-leb (start + size) (length bs) h, part_of)

  pub part-past : length bs < start + size → part_of bs start size ≡ []
  unfolding part_of
  part-past h = rw (lt-leb (start + size) (length bs) h, part_of)

-- the file of a class row is what its part of the kept bytes reads as
pub file-part : (bs : List ℕ) (k : ClassRow) → file_at bs k ≡ read_file (part_of bs k.start k.size)
unfolding file_at part_of ◌>>=◌ need
file-part bs k = go (leb (k.start + k.size) (length bs)) refl
  where
    go : (t : Bool) → leb (k.start + k.size) (length bs) ≡ t → file_at bs k ≡ read_file (part_of bs k.start k.size)
    go true e = rw (e, part_of)
    go false e = rw (e, part_of) (sym empty-file)
