-- Laws that the proofs of the lookups share: a request compared, one turn of a walk upward, and of a loop that writes.
use mathlib.Core.Path.{◌≡◌, refl, ap, ◌∙◌}
use mathlib.Core.Bool.{true, false}
use mathlib.Core.Option.{Option, none, some}
use mathlib.Core.List.{List, [], ◌∷◌, ◌++◌, map, map-append}
use Prim.Native.Nat.{ℕ, zero, suc, ◌+◌, ◌-◌, ◌≤◌, ◌<◌}
use native.Mathlib.Nat.{zero-add}
use native.Mathlib.Omega.{arith}
use lib.ListN.{length, set, length-map}
use lib.Dec.{eqb}
use borrow.Author.Tests.{eq-eqb, ne_eqb}
use Rattle.definition.specs.Lists.{rows, write_rows}
use Rattle.definition.specs.Requests.{Request, at, same_request}
use Rattle.definition.specs.Classes.{Base, Field, super_of, own_slots, slots}
use Rattle.definition.specs.Superclasses.{Falls, below}
use Rattle.laws.specs.Slots.{slots-up, slots-none}
use Rattle.laws.specs.Upward.{nearest-here, nearest-up, nearest-none}
use Rattle.layout.specs.Places.{rows-length, rows_last}
use Rattle.classfile.specs.Reading.{field_count, quick_fields}
use Rattle.classfile.specs.Searches.{slot_of}
use Rattle.resolution.specs.Quick.{quick_base, file_in, own-quick}
use Rattle.resolution.specs.Slots.{slot_type, field_type, size_none, size-some, own-size, own-within}

-- Two requests: the loaders are compared first

pub same-loader : (a : Request) (l n : ℕ) → a.loader ≡ l → same_request a (at l n) ≡ eqb a.name n
unfolding same_request
same-loader a l n e = rw (eq-eqb a.loader l e, same_request)

pub other-loader : (a : Request) (l n : ℕ) → (a.loader ≡ l → ⊥) → same_request a (at l n) ≡ false
unfolding same_request
other-loader a l n e = rw (ne_eqb a.loader l e, same_request)

-- Upward from a class: it is the one, its superclass is next, or there is none

module _ (sup : ℕ → Option ℕ) (falls : Falls sup) (c d : ℕ) where
  pub below-same : c ≡ d → below sup c d ≡ true
  unfolding below
  below-same e = rw (nearest-here sup falls (λ x. eqb x d) c (eq-eqb c d e), below)

  pub below_up : (p : ℕ) → (c ≡ d → ⊥) → sup c ≡ some p → below sup c d ≡ below sup p d
  unfolding below
  below_up p n e = rw (nearest-up sup falls (λ x. eqb x d) c p (ne_eqb c d n) e, below)

  pub below_none : (c ≡ d → ⊥) → sup c ≡ none → below sup c d ≡ false
  unfolding below
  below_none n e = rw (nearest-none sup falls (λ x. eqb x d) c (ne_eqb c d n) e, below)

-- Numbers written from a place on, the last first

pub write-both : (xs ys : List ℕ) (i : ℕ) (t : List ℕ) → write_rows set (xs ++ ys) i t ≡ write_rows set xs i (write_rows set ys (i + length xs) t)
unfolding write_rows
write-both [] ys i t = let e : i + 0 ≡ i = omega arith in rw e
write-both (x ∷ xs) ys i t =
    let e : suc i + length xs ≡ i + suc (length xs) = omega arith in
    ap (λ (s : List ℕ). set s i x) (write-both xs ys (suc i) t ∙ ap (λ (j : ℕ). write_rows set xs (suc i) (write_rows set ys j t)) e)

pub write-last : (g : ℕ → ℕ) (i start : ℕ) (t : List ℕ) → 0 < i → write_rows set (rows g i 0) start t ≡ write_rows set (rows g (i - 1) 0) start (set t (start + (i - 1)) (g (i - 1)))
unfolding write_rows
write-last g zero start t h = absurd (omega arith)
write-last g (suc k) start t h =
    let e : suc k - 1 ≡ k = omega arith in
    rw (e, rows_last g k 0, zero-add k, write-both (rows g k 0) (g k ∷ []) start t, rows-length g k 0)

pub write-next : (g : ℕ → ℕ) (i : ℕ) (t : List ℕ) → 0 < i → write_rows set (rows g i 0) 0 t ≡ write_rows set (rows g (i - 1) 0) 0 (set t (i - 1) (g (i - 1)))
write-next g i t h = write-last g i 0 t h ∙ ap (λ (j : ℕ). write_rows set (rows g (i - 1) 0) 0 (set t j (g (i - 1)))) (zero-add (i - 1))

pub write-end : (g : ℕ → ℕ) (i start : ℕ) (t : List ℕ) → i ≤ 0 → write_rows set (rows g i 0) start t ≡ t
unfolding write_rows rows
write-end g i start t h = let z : i ≡ 0 = omega arith in rw z

-- Fields counted upward: of a class at which m fields are counted already, and its own are k

module _ (counts classes kept cache : List ℕ) (c k m all : ℕ) (own : k ≡ field_count (file_in counts classes kept c)) where
  abbrev base : Base
  base = quick_base counts classes kept cache

  pub count-up : (p : ℕ) → super_of base c ≡ some p → m + length (slots base c) ≡ all → m + k + length (slots base p) ≡ all
  count-up p e h = omega (arith, size-some base c p e, own-size counts classes kept cache c)

  pub count-last : super_of base c ≡ none → m + length (slots base c) ≡ all → m + k ≡ all
  count-last e h = omega (arith, size_none base c e, own-size counts classes kept cache c)

  pub rest_up : (p : ℕ) → super_of base c ≡ some p → all ≡ length (slots base c) → all - k ≡ length (slots base p)
  rest_up p e h = omega (arith, size-some base c p e, own-size counts classes kept cache c)

  pub rest-last : super_of base c ≡ none → all ≡ length (slots base c) → all - k ≡ 0
  rest-last e h = omega (arith, size_none base c e, own-size counts classes kept cache c)

  pub rest-within : all ≡ length (slots base c) → k ≤ all
  rest-within h = omega (arith, own-within base c, own-size counts classes kept cache c)

-- The types of an object's fields: the class's own are written behind the inherited ones

same-types : (c : ℕ) (fs : List Field) → map slot_type (map (slot_of c) fs) ≡ map field_type fs
same-types c [] = refl
same-types c (f ∷ fs) = ap {B = List ℕ} (λ ts. f.type ∷ ts) (same-types c fs)

module _ (counts classes kept cache : List ℕ) (c : ℕ) (t : List ℕ) where
  abbrev b : Base
  b = quick_base counts classes kept cache

  abbrev own : List ℕ
  own = map field_type (quick_fields (file_in counts classes kept c))

  own-types : map slot_type (own_slots b c) ≡ own
  own-types = ap (map slot_type) (own-quick counts classes kept cache c) ∙ same-types c (quick_fields (file_in counts classes kept c))

  pub types-none : (n : ℕ) → n ≡ 0 → super_of b c ≡ none → write_rows set (map slot_type (slots b c)) 0 t ≡ write_rows set own n t
  types-none n z e = rw (z, slots-none b c e, own-types)

  pub types_up : (n p : ℕ) → n ≡ length (slots b p) → super_of b c ≡ some p
      → write_rows set (map slot_type (slots b c)) 0 t ≡ write_rows set (map slot_type (slots b p)) 0 (write_rows set own n t)
  types_up n p z e =
      let l : 0 + length (map slot_type (slots b p)) ≡ length (slots b p) = zero-add _ ∙ length-map (slots b p) slot_type in
      rw (z, slots-up b c p e, map-append slot_type (slots b p) (own_slots b c), own-types, write-both (map slot_type (slots b p)) own 0 t, l)
