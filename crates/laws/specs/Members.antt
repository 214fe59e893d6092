-- Where a class keeps what a lookup found: a field's place in the objects of each class below, a method's place in its class.
use Rattle.std.specs.Prelude.{◌≡◌, refl, Bool, true, false, ◌&&◌, List, [], ◌∷◌, ℕ, eqb}
use Rattle.std.proofs.Common.{sym, ap, ◌∙◌, eqb-true, eq-eqb}
use Rattle.std.proofs.lemmas.Bool.{false≢true}
use Rattle.std.proofs.Math.Option.{Option, none, some, none-ne-some, some-injective}
use mathlib.Core.List.Memᴰ
use Rattle.std.proofs.Math.ListN.{get_elem?}
use Rattle.definition.specs.Classes.{types_of, arguments_of, argument_types, Base, Class, Method, Selected, Slot, alike, has_field, has_method, loader_of, methods_of, own_slots, same_signature, selected, slot_is, slots, super_of}
use Rattle.definition.specs.declared.Arguments.{Arguments}
use Rattle.definition.specs.declared.Arguments.TheVariants.{NoArguments, OneArgument, TwoArguments, ThreeArguments, FourArguments}
use Rattle.definition.specs.declared.Signature.{Signature}
use Rattle.definition.specs.Lists.{any, index_of, same_list}
use Rattle.definition.specs.Maybe.{◌>>=◌}
use Rattle.definition.specs.Superclasses.{Below, nearest}
use Rattle.laws.specs.Agreement.{super-falls}
use Rattle.laws.specs.FieldPlaces.{place-slot}
use Rattle.laws.specs.Slots.{slots-own}
use Rattle.laws.specs.Tests.{and-true, any_found, any-right, any-true}
use Rattle.laws.specs.Upward.{nearest-below}

-- the field that class d declares, among the fields of a class c below it
pub record FieldPlace (b : Base) (c d n t : ℕ) : Type 0 where
  pub place : ℕ
  pub slot : Slot
  pub index : index_of (slot_is d n t) (slots b d) ≡ some place
  pub is_slot : get_elem? (slots b c) place ≡ some slot
  pub owner : slot.owner ≡ d
  pub type : slot.type ≡ t

pub field-place : (b : Base) (c d n t : ℕ) → has_field b n t d ≡ true → Below (super_of b) c d → FieldPlace b c d n t
unfolding has_field
field-place b c d n t h bl =
    let so = slots-own b d in
    let hs : any (slot_is d n t) (slots b d) ≡ true = rw so.1 (any-right (slot_is d n t) so.0 (own_slots b d) h) in
    let fo = any_found (slot_is d n t) (slots b d) hs in
    let st = place-slot b c d n t fo.place bl fo.index in
    record { place = fo.place; slot = st.slot; index = fo.index; is_slot = st.is_slot; owner = st.owner; type = st.type }

-- the test on lists is true exactly where they are equal
pub same-list : (xs ys : List ℕ) → same_list xs ys ≡ true → xs ≡ ys
unfolding same_list
same-list [] [] h = refl
same-list [] (y ∷ ys) h = absurd (false≢true h)
same-list (x ∷ xs) [] h = absurd (false≢true h)
same-list (x ∷ xs) (y ∷ ys) h = go (eqb x y) refl h (same-list xs ys)
  where
    go : (t : Bool) → eqb x y ≡ t → (elim t as (λ _. Bool) [ true ↦ same_list xs ys | false ↦ false ]) ≡ true → (same_list xs ys ≡ true → xs ≡ ys) → x ∷ xs ≡ y ∷ ys
    go true e q ih = λ i. eqb-true x y e i ∷ ih q i
    go false e q ih = absurd (false≢true q)

pub list_same : (xs : List ℕ) → same_list xs xs ≡ true
unfolding same_list
list_same [] = refl
list_same (x ∷ xs) = rw (same_list, eq-eqb x x refl) (list_same xs)

-- arguments are told apart by their types
pub arguments-of : (a : Arguments) → arguments_of (types_of a) ≡ some a
unfolding arguments_of
arguments-of NoArguments = refl
arguments-of (OneArgument a) = refl
arguments-of (TwoArguments a b) = refl
arguments-of (ThreeArguments a b c) = refl
arguments-of (FourArguments a b c d) = refl

pub types-of : (ts : List ℕ) (a : Arguments) → arguments_of ts ≡ some a → types_of a ≡ ts
unfolding arguments_of
types-of [] a e = ap types_of (sym (some-injective _ _ e))
types-of (t ∷ []) a e = ap types_of (sym (some-injective _ _ e))
types-of (t ∷ u ∷ []) a e = ap types_of (sym (some-injective _ _ e))
types-of (t ∷ u ∷ v ∷ []) a e = ap types_of (sym (some-injective _ _ e))
types-of (t ∷ u ∷ v ∷ w ∷ []) a e = ap types_of (sym (some-injective _ _ e))
types-of (t ∷ u ∷ v ∷ w ∷ x ∷ ts) a e = absurd (none-ne-some a e)

pub same-arguments : (a b : Arguments) → types_of a ≡ types_of b → a ≡ b
same-arguments a b e = some-injective a b (sym (arguments-of a) ∙ ap arguments_of e ∙ arguments-of b)

-- the test on signatures is true exactly where they are equal
pub same-signature : (s t : Signature) → (same_signature s t ≡ true → s ≡ t) × (s ≡ t → same_signature s t ≡ true)
unfolding same_signature
same-signature s t = (to, λ e. rw e (rw (eq-eqb t.name t.name refl, list_same (argument_types t), eq-eqb t.result t.result refl) refl))
  where
    to : (eqb s.name t.name && same_list (argument_types s) (argument_types t) && eqb s.result t.result) ≡ true → s ≡ t
    to h =
        let a = and-true (eqb s.name t.name && same_list (argument_types s) (argument_types t)) (eqb s.result t.result) h in
        let b = and-true (eqb s.name t.name) (same_list (argument_types s) (argument_types t)) a.0 in
        let c = same-arguments s.arguments t.arguments (same-list (argument_types s) (argument_types t) b.1) in
        λ i. record { name = eqb-true s.name t.name b.0 i; arguments = c i; result = eqb-true s.result t.result a.1 i }

pub alike_is : (s : Signature) (m : Method) → alike s m ≡ true → m.signature ≡ s
unfolding alike
alike_is s m h = (same-signature m.signature s).0 h

-- the method of that class and place, of signature s
pub record MethodAt (b : Base) (s : Signature) (m : Selected) : Type 0 where
  pub the_class : Class
  pub method : Method
  pub is_class : get_elem? b.classes m.class ≡ some the_class
  pub is_method : get_elem? the_class.methods m.place ≡ some method
  pub is_signature : method.signature ≡ s
  pub loader : loader_of b m.class ≡ the_class.loader

-- a class that declares a method alike has it at a place
pub method-at : (b : Base) (s : Signature) (c : ℕ) → has_method b s c ≡ true → (j : ℕ) × (index_of (alike s) (methods_of b c) ≡ some j) × MethodAt b s (record { class = c; place = j })
unfolding has_method methods_of loader_of
method-at b s c h = go (get_elem? b.classes c) refl h
  where
    Ms : Option Class → List Method
    Ms o = elim o as (λ _. List Method) [ none ↦ [] | some k ↦ k.methods ]

    go : (o : Option Class) → get_elem? b.classes c ≡ o → any (alike s) (Ms o) ≡ true → (j : ℕ) × (index_of (alike s) (methods_of b c) ≡ some j) × MethodAt b s (record { class = c; place = j })
    go none e q = absurd (Memᴰ.not-nil (any-true (alike s) [] q).1)
    go (some k) e q =
        let fo = any_found (alike s) k.methods q in (
          fo.place,
          rw (e, methods_of) fo.index,
          record {
            the_class = k;
            method = fo.item;
            is_class = e;
            is_method = fo.there;
            is_signature = alike_is s fo.item fo.passes;
            loader = rw (e, loader_of) refl;
          },
        )

-- what is selected from class c: its class is the nearest upward that declares a method alike, and the method stands at its place there
pub record SelectedAt (b : Base) (s : Signature) (c : ℕ) (m : Selected) : Type 0 where
  pub near : nearest (super_of b) (has_method b s) c ≡ some m.class
  pub above : Below (super_of b) c m.class
  pub has : has_method b s m.class ≡ true
  pub there : MethodAt b s m

-- where a class upward declares a method alike, one is selected in the nearest
pub nearest-selected : (b : Base) (s : Signature) (c d : ℕ) → nearest (super_of b) (has_method b s) c ≡ some d → (j : ℕ) × (selected b s c ≡ some (record { class = d; place = j })) × SelectedAt b s c (record { class = d; place = j })
unfolding selected ◌>>=◌
nearest-selected b s c d h =
    let n = nearest-below (super_of b) (super-falls b) (has_method b s) c d h in
    let a = method-at b s d n.1 in
    (a.0, rw h (rw a.1 refl), record { near = h; above = n.0; has = n.1; there = a.2 })

pub selected-at : (b : Base) (s : Signature) (c : ℕ) (m : Selected) → selected b s c ≡ some m → SelectedAt b s c m
unfolding selected ◌>>=◌
selected-at b s c m h = go (nearest (super_of b) (has_method b s) c) refl
  where
    go : (o : Option ℕ) → nearest (super_of b) (has_method b s) c ≡ o → SelectedAt b s c m
    go none e = absurd (none-ne-some m (sym (rw e refl) ∙ h))
    go (some d) e =
        let a = nearest-selected b s c d e in
        rw (some-injective _ _ (sym a.1 ∙ h)) at a.2
