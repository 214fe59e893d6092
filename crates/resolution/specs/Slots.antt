-- An object's fields: how many a class has with the inherited ones, and which place a declared field has among them.
use Rattle.std.specs.Prelude.{◌≡◌, Bool, true, get_or}
use Rattle.std.proofs.Math.Path.{refl, ap}
use Rattle.std.proofs.Common.{sym, ◌∙◌, arith, length-append, ne_eqb}
use Rattle.std.proofs.Math.Bool.{false}
use Rattle.std.proofs.Math.Option.{Option, none, some}
use mathlib.Core.List.{List, [], ◌∷◌, ◌++◌, map}
use Prim.Native.Nat.{ℕ, zero, suc, ◌+◌, ◌≤◌, ◌<◌}
use Rattle.std.proofs.Math.ListN.{length}
use Rattle.std.proofs.lemmas.List.{length-map}
use Rattle.definition.specs.Lists.{any, index_of, rows}
use Rattle.definition.specs.Classes.{Base, Field, Slot, super_of, own_slots, slots, slots_in, slot_is}
use Rattle.laws.specs.Agreement.{super-falls}
use Rattle.laws.specs.Slots.{slots-up, slots-own, slots-none}
use Rattle.layout.specs.Places.{rows-length}
use Rattle.classfile.specs.Lists.{shift, index-append}
use Rattle.classfile.specs.Reading.{field_count, quick_fields, field_is}
use Rattle.classfile.specs.Searches.{slot_of, own-index}
use Rattle.resolution.specs.Quick.{quick_base, file_in, file-past, super-past, own-quick}

abbrev pub slot_type : Slot → ℕ
slot_type s = s.type

abbrev pub field_type : Field → ℕ
field_type f = f.type

-- how many fields a class inherits
unfoldable pub inherited_in : Base → ℕ → ℕ
inherited_in b c = elim (super_of b c) [ none ↦ 0 | some p ↦ length (slots b p) ]

-- Tests of two lists

any-neither : {A : Type 0} (f : A → Bool) (xs ys : List A) → any f xs ≡ false → any f ys ≡ false → any f (xs ++ ys) ≡ false
unfolding any
any-neither f [] ys g h = h
any-neither f (x ∷ xs) ys g h = go (f x) g (any-neither f xs ys)
  where
    go : (t : Bool) → (elim t as (λ _. Bool) [ true ↦ true | false ↦ any f xs ]) ≡ false → (any f xs ≡ false → any f ys ≡ false → any f (xs ++ ys) ≡ false) → (elim t as (λ _. Bool) [ true ↦ true | false ↦ any f (xs ++ ys) ]) ≡ false
    go true e r = e
    go false e r = r e h

module _ (b : Base) where
  -- How many

  pub inherited-none : (c : ℕ) → super_of b c ≡ none → inherited_in b c ≡ 0
  unfolding inherited_in
  inherited-none c e = rw (e, inherited_in)

  pub inherited-some : (c p : ℕ) → super_of b c ≡ some p → inherited_in b c ≡ length (slots b p)
  unfolding inherited_in
  inherited-some c p e = rw (e, inherited_in)

  pub size_none : (c : ℕ) → super_of b c ≡ none → length (slots b c) ≡ length (own_slots b c)
  size_none c e = ap length (slots-none b c e)

  pub size-some : (c p : ℕ) → super_of b c ≡ some p → length (slots b c) ≡ length (slots b p) + length (own_slots b c)
  size-some c p e = ap length (slots-up b c p e) ∙ length-append (slots b p) (own_slots b c)

  pub own-within : (c : ℕ) → length (own_slots b c) ≤ length (slots b c)
  own-within c = let s = slots-own b c in omega (arith, ap length s.1, length-append s.0 (own_slots b c))

-- The fields of a class among an object's: no superclass declares them

module _ (counts classes kept cache : List ℕ) where
  abbrev b : Base
  b = quick_base counts classes kept cache

  abbrev file : ℕ → List ℕ
  file c = file_in counts classes kept c

  pub own-size : (c : ℕ) → length (own_slots b c) ≡ field_count (file c)
  unfolding quick_fields
  own-size c = ap length (own-quick counts classes kept cache c) ∙ (length-map (quick_fields (file c)) (slot_of c) ∙ rows-length _ (field_count (file c)) 0)

  no-owner : (d n t c : ℕ) → c < d → (fs : List Field) → any (slot_is d n t) (map (slot_of c) fs) ≡ false
  unfolding any slot_is
  no-owner d n t c l [] = refl
  no-owner d n t c l (f ∷ fs) = rw (ne_eqb c d (λ e. omega arith), any) (no-owner d n t c l fs)

  above-none : (d n t j c : ℕ) → c < d → any (slot_is d n t) (slots_in j b c) ≡ false
  unfolding slots_in
  above-none d n t zero c l = ap (any (slot_is d n t)) (own-quick counts classes kept cache c) ∙ no-owner d n t c l (quick_fields (file c))
  above-none d n t (suc j) c l = go (super_of b c) refl (λ p h. above-none d n t j p (omega arith))
    where
      own : any (slot_is d n t) (own_slots b c) ≡ false
      own = ap (any (slot_is d n t)) (own-quick counts classes kept cache c) ∙ no-owner d n t c l (quick_fields (file c))

      go : (o : Option ℕ) → super_of b c ≡ o → ((p : ℕ) → p < c → any (slot_is d n t) (slots_in j b p) ≡ false)
          → any (slot_is d n t) (elim o as (λ _. List Slot) [ none ↦ own_slots b c | some p ↦ slots_in j b p ++ own_slots b c ]) ≡ false
      go none e r = own
      go (some p) e r = any-neither (slot_is d n t) (slots_in j b p) (own_slots b c) (r p (super-falls b c p e)) own

  own-place : (d n t : ℕ) → index_of (slot_is d n t) (own_slots b d) ≡ index_of (field_is n t) (quick_fields (file d))
  own-place d n t = ap (index_of (slot_is d n t)) (own-quick counts classes kept cache d) ∙ own-index d n t (quick_fields (file d))

  -- the place of a declared field, behind the inherited ones
  pub slot-place : (d n t : ℕ) → index_of (slot_is d n t) (slots b d) ≡ shift (inherited_in b d) (index_of (field_is n t) (quick_fields (file d)))
  unfolding slots any
  slot-place d n t = go (super_of b d) refl
    where
      go : (o : Option ℕ) → super_of b d ≡ o → index_of (slot_is d n t) (slots b d) ≡ shift (inherited_in b d) (index_of (field_is n t) (quick_fields (file d)))
      go none e =
          ap (index_of (slot_is d n t)) (slots-none b d e)
          ∙ (index-append (slot_is d n t) [] (own_slots b d) refl ∙ (λ i. shift (sym (inherited-none b d e) i) (own-place d n t i)))
      go (some p) e =
          ap (index_of (slot_is d n t)) (slots-up b d p e)
          ∙ (index-append (slot_is d n t) (slots b p) (own_slots b d) (above-none d n t p p (super-falls b d p e)) ∙ (λ i. shift (sym (inherited-some b d p e) i) (own-place d n t i)))

  -- A class that is not there has none

  pub slots-past : (c : ℕ) → get_or counts 0 0 ≤ c → slots b c ≡ []
  unfolding quick_fields field_count rows
  slots-past c h = slots-none b c (super-past counts classes kept cache c h) ∙ (own-quick counts classes kept cache c ∙ rw (file-past counts classes kept c h))
