-- Laws that several functions go by: the place of the next method, records of the first versions, and a part that is clipped where the bytes end.
use mathlib.Core.Path.{◌≡◌, refl, sym, ap, ◌∙◌}
use mathlib.Core.Logic.{⊎_elim}
use mathlib.Core.Bool.{Bool, true, false, ◌&&◌}
use mathlib.Core.List.{List, [], ◌∷◌}
use Prim.Native.Nat.{ℕ, suc, ◌+◌, ◌-◌, ◌*◌, ◌≤◌, ◌<◌, min}
use native.Mathlib.Nat.{le_of_lt}
use native.Mathlib.Omega.{arith}
use native.Mathlib.Numerals.{add-one}
use lib.ListN.{length, take, drop, length-drop, drop_of_length-le}
use lib.Seq.{take_all, take-nil}
use lib.Dec.{leb}
use borrow.Author.Tests.{lt-leb}
use Rattle.definition.specs.Lists.{all, every}
use Rattle.definition.specs.Numbers.{version_two, version_three}
use Rattle.definition.specs.declared.Arguments.TheVariants.{OneArgument}
use Rattle.definition.specs.Classes.{signature, is_named}
use Rattle.definition.specs.Instructions.{pick, short_at}
use Rattle.classfile.specs.Lists.{le-or-lt}
use Rattle.classfile.specs.Rules.{named_method, least_offset}
use Rattle.classfile.specs.Reading.{file_version, map_depth, map_end, map_place, arguments_size, arguments_at, result_place, quick_signature}
use Rattle.classfile.specs.Reading.{code_length, code_place, code_end, maps_size, method_at, next_place, method_place, Placed}

pub placed-next : (bs : List ℕ) (j p q : ℕ) → Placed bs j p → q ≡ next_place bs p → q ≤ p + 200948 → Placed bs (j + 1) q
unfolding method_place
placed-next bs j p q h e l = record { place = e ∙ rw (h.place, add-one); low = omega (arith, h.low) }

pub placed_at : (bs : List ℕ) (i j p : ℕ) → Placed bs i p → i ≡ j → p ≡ method_place bs j
placed_at bs i j p h e = h.place ∙ ap (method_place bs) e

-- a signature with one argument has three numbers to look at
named-one : (n a r : ℕ) → is_named (signature n (OneArgument a) r) ≡ every (leb 1 n ∷ leb 1 a ∷ leb 1 r ∷ [])
unfolding is_named all every
named-one n a r = go (leb 1 n) (leb 1 a) (leb 1 r)
  where
    go : (x y z : Bool) → (x && (elim y [ true ↦ true | false ↦ false ]) && z) ≡ every (x ∷ y ∷ z ∷ [])
    go true true true = refl
    go true true false = refl
    go true false z = refl
    go false y z = refl

-- Before version 3 a record's parts stand at fixed places: name, argument and result have two bytes each, and so has the code's length

module _ (bs : List ℕ) (p : ℕ) where
  one_size : file_version bs < version_three → arguments_size bs p ≡ 2
  unfolding arguments_size pick
  one_size h = rw (lt-leb 3 (file_version bs) h, pick)

  one-result : file_version bs < version_three → result_place bs p ≡ p + 4
  unfolding result_place
  one-result h = omega (arith, one_size h)

  pub one_signature : file_version bs < version_three → (method_at bs p).signature ≡ signature (short_at bs p) (OneArgument (short_at bs (p + 2))) (short_at bs (p + 4))
  unfolding method_at quick_signature arguments_at pick
  one_signature h = rw (lt-leb 3 (file_version bs) h, pick, one-result h)

  pub one-named : file_version bs < version_three → named_method bs p ≡ every (leb 1 (short_at bs p) ∷ leb 1 (short_at bs (p + 2)) ∷ leb 1 (short_at bs (p + 4)) ∷ [])
  unfolding named_method method_at
  one-named h = ap is_named (one_signature h) ∙ named-one (short_at bs p) (short_at bs (p + 2)) (short_at bs (p + 4))

  -- in version 1 there are no maps, so the next record begins where the code ends
  pub next-first : file_version bs < version_two → next_place bs p ≡ p + 8 + short_at bs (p + 6)
  unfolding next_place code_end code_place code_length maps_size pick
  next-first h =
      let r : result_place bs p ≡ p + 4 = one-result (omega arith) in
      let l : result_place bs p + 2 ≡ p + 6 = omega arith in
      rw (lt-leb 2 (file_version bs) h, pick, l, r) (omega arith)

-- the place after map i, which begins at p and takes d bytes
pub map_next : (ms : List ℕ) (i p d : ℕ) → p ≡ map_place ms i → d ≡ 19 + 2 * map_depth ms p → p + d ≡ map_place ms (i + 1)
unfolding map_place map_end
map_next ms i p d e f = rw (add-one, ← e) (ap (λ (k : ℕ). p + k) f)

module _ (l : List ℕ) (a n : ℕ) where
  clip-within : a ≤ length l → take (min (a + n) (length l) - a) (drop a l) ≡ take n (drop a l)
  clip-within h = ⊎_elim all some (le-or-lt (a + n) (length l))
    where
      all : a + n ≤ length l → take (min (a + n) (length l) - a) (drop a l) ≡ take n (drop a l)
      all b = let m : min (a + n) (length l) - a ≡ n = omega arith in rw m

      some : length l < a + n → take (min (a + n) (length l) - a) (drop a l) ≡ take n (drop a l)
      some b =
          take_all (min (a + n) (length l) - a) (drop a l) (omega (arith, length-drop a l))
          ∙ sym (take_all n (drop a l) (omega (arith, length-drop a l)))

  clip-past : length l ≤ a → take (min (min a (length l) + n) (length l) - min a (length l)) (drop (min a (length l)) l) ≡ take n (drop a l)
  clip-past h =
      let m : length l ≤ min a (length l) = omega arith in
      rw (drop_of_length-le l m, drop_of_length-le l h) (take-nil (min (min a (length l) + n) (length l) - min a (length l)) ∙ sym (take-nil n))

  -- n elements from a on, as many of them as there are
  pub clipped : take (min (min a (length l) + n) (length l) - min a (length l)) (drop (min a (length l)) l) ≡ take n (drop a l)
  clipped = ⊎_elim within (λ h. clip-past (le_of_lt h)) (le-or-lt a (length l))
    where
      within : a ≤ length l → take (min (min a (length l) + n) (length l) - min a (length l)) (drop (min a (length l)) l) ≡ take n (drop a l)
      within h = let m : min a (length l) ≡ a = omega arith in rw m (clip-within h)

-- the elements from a on, none where there are no more
pub clipped-rest : (l : List ℕ) (a : ℕ) → take (length l - min a (length l)) (drop (min a (length l)) l) ≡ drop a l
clipped-rest l a = ⊎_elim within past (le-or-lt a (length l))
  where
    within : a ≤ length l → take (length l - min a (length l)) (drop (min a (length l)) l) ≡ drop a l
    within h =
        let m : min a (length l) ≡ a = omega arith in
        rw m (take_all (length l - a) (drop a l) (omega (arith, length-drop a l)))

    past : length l < a → take (length l - min a (length l)) (drop (min a (length l)) l) ≡ drop a l
    past h =
        let m : length l ≤ min a (length l) = omega arith in
        rw (drop_of_length-le l m, drop_of_length-le l (le_of_lt h)) (take-nil (length l - min a (length l)))

pub nothing_left : (l : List ℕ) → take (length l - length l) (drop (length l) l) ≡ []
nothing_left l = let m : length l - length l ≡ 0 = omega arith in rw m

-- the offset of a map after map i, which begins at p, is past that of map i
pub least-next : (ms : List ℕ) (i p o : ℕ) → p ≡ map_place ms i → o ≡ short_at ms p → o + 1 ≡ least_offset ms (i + 1)
unfolding least_offset
least-next ms i p o e f = rw (add-one, add-one, ← e) (ap {B = ℕ} suc f)
