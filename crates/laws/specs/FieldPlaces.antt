-- The places of fields, hidden or not (paper 6). A field goes by the class that declares it, its name and its type: two of them are two places in an object (`places-apart`), the same place in
-- the objects of every class below (`place-slot`). Fields of all classes upward count (`fields-counted`).
use Rattle.std.specs.Prelude.{◌≡◌, ◌&&◌, ℕ, ◌+◌, length, eqb}
use Rattle.std.proofs.Common.{sym, ap, ◌∙◌, length-append, eqb-true}
use Rattle.std.proofs.Math.Option.{Option, some, some-injective}
use Rattle.std.proofs.Math.ListN.{get_elem?}
use Rattle.std.proofs.lemmas.List.{length-map}
use Rattle.definition.specs.Lists.{index_of}
use Rattle.definition.specs.Classes.{Base, Class, Slot, own_slots, slot_is, slots, super_of}
use Rattle.definition.specs.Superclasses.{Below}
use Rattle.laws.specs.Slots.{slots-below, slots-up}
use Rattle.laws.specs.Stable.{own_is}
use Rattle.laws.specs.Tests.{and-true, index-found}

-- the place of a field that class d declares: where a step looks for it, whatever the object's own class is
abbrev pub place_of : Base → ℕ → ℕ → ℕ → Option ℕ
place_of b d n t = index_of (slot_is d n t) (slots b d)

-- what stands there in an object of class c, d or below it
pub record Stands (b : Base) (c d n t j : ℕ) : Type 0 where
  pub slot : Slot
  pub is_slot : get_elem? (slots b c) j ≡ some slot
  pub owner : slot.owner ≡ d
  pub name : slot.name ≡ n
  pub type : slot.type ≡ t

pub place-slot : (b : Base) (c d n t j : ℕ) → Below (super_of b) c d → place_of b d n t ≡ some j → Stands b c d n t j
unfolding slot_is
place-slot b c d n t j l e =
    let x = index-found (slot_is d n t) (slots b d) j e in
    let s = x.0 in
    let p = and-true (eqb s.owner d && eqb s.name n) (eqb s.type t) x.2 in
    let q = and-true (eqb s.owner d) (eqb s.name n) p.0 in
    record { slot = s; is_slot = slots-below b l j s x.1; owner = eqb-true s.owner d q.0; name = eqb-true s.name n q.1; type = eqb-true s.type t p.1 }

-- two fields of an object at one place are one field
pub places-apart : (b : Base) (c d n t e m u i j : ℕ) → Below (super_of b) c d → Below (super_of b) c e → place_of b d n t ≡ some i → place_of b e m u ≡ some j
    → i ≡ j → (d ≡ e) × (n ≡ m) × (t ≡ u)
places-apart b c d n t e m u i j x y p q z =
    let f = place-slot b c d n t i x p in
    let g = place-slot b c e m u j y q in
    let s : f.slot ≡ g.slot = some-injective f.slot g.slot (sym f.is_slot ∙ (ap (get_elem? (slots b c)) z ∙ g.is_slot)) in (
      sym f.owner ∙ (ap (λ (r : Slot). r.owner) s ∙ g.owner),
      sym f.name ∙ (ap (λ (r : Slot). r.name) s ∙ g.name),
      sym f.type ∙ (ap (λ (r : Slot). r.type) s ∙ g.type),
    )

-- an object has as many fields as its class declares and one of its superclass has, whatever their names
pub fields-counted : (b : Base) (c p : ℕ) (k : Class) → get_elem? b.classes c ≡ some k → super_of b c ≡ some p → length (slots b c) ≡ length (slots b p) + length k.fields
fields-counted b c p k h s =
    ap length (slots-up b c p s) ∙ (length-append (slots b p) (own_slots b c) ∙ ap (λ (n : ℕ). length (slots b p) + n) (ap length (own_is b c k h) ∙ length-map k.fields _))
