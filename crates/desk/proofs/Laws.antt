-- The desk's number by what the checks say: bytes that don't read, a method that lacks a map, a walk that is rejected, a walk that is accepted.
use mathlib.Core.Path.{◌≡◌, refl, sym, ap, ◌∙◌}
use mathlib.Core.Bool.{Bool, true, false, false≢true}
use mathlib.Core.Option.{Option, none, some}
use mathlib.Core.List.{List}
use Prim.Native.Nat.{ℕ}
use Rattle.definition.specs.Lists.{any, is_some}
use Rattle.definition.specs.Verifier.{Note, notes_of}
use Rattle.definition.specs.File.{File, read_file, class_of}
use Rattle.definition.specs.Desk.{desk_number, verifier_number}
use Rattle.classfile.specs.Reading.{file_version, quick_methods}
use Rattle.verifier.specs.Lookups.{unmapped_in}
use Rattle.verifier.specs.Trace.{accepted_notes, granted, class_trace}
use Rattle.verifier.proofs.ClassLaws.{class-says, unmapped-says}

-- by whether a method lacks a map, and by the notes, where the verifier accepts
number_by : Bool → Option (List Note) → ℕ
number_by u o = elim u [ true ↦ 15 | false ↦ elim o [ none ↦ 6 | some _ ↦ 0 ] ]

module _ (bs : List ℕ) where
  number_of : Option File → ℕ
  number_of o = elim o as (λ _. ℕ) [ none ↦ 2 | some f ↦ verifier_number f ]

  abbrev lacks : Bool
  lacks = any (unmapped_in (file_version bs)) (quick_methods bs)

  pub number-file : is_some (read_file bs) ≡ false → desk_number bs ≡ 2
  unfolding desk_number number_of is_some
  number-file h = step (read_file bs) h
    where
      step : (o : Option File) → is_some o ≡ false → number_of o ≡ 2
      step none h = refl
      step (some f) h = absurd (false≢true (sym h))

  module _ (h : is_some (read_file bs) ≡ true) where
    number-reads : desk_number bs ≡ number_by lacks (accepted_notes (class_trace bs))
    unfolding desk_number number_of number_by verifier_number is_some
    number-reads = step (read_file bs) refl h
      where
        step : (o : Option File) → read_file bs ≡ o → is_some o ≡ true → number_of o ≡ number_by lacks (accepted_notes (class_trace bs))
        step none q h = absurd (false≢true h)
        step (some f) q h =
            ap (λ u. number_by u (notes_of (class_of 0 f) f.methods)) (unmapped-says 0 bs f q) ∙ ap (number_by lacks) (class-says 0 bs f q)

    pub number-unmapped : lacks ≡ true → desk_number bs ≡ 15
    unfolding number_by
    number-unmapped u = number-reads ∙ ap (λ b. number_by b (accepted_notes (class_trace bs))) u

    -- a is the verifier's answer
    module _ (u : lacks ≡ false) (a : Bool) (e : accepted_notes (class_trace bs) ≡ granted a (class_trace bs).notes) where
      number-walked : (b : Bool) → a ≡ b → desk_number bs ≡ number_by false (granted b (class_trace bs).notes)
      number-walked b t = rw (← t, ← e, ← u) number-reads

      pub number-rejected : a ≡ false → desk_number bs ≡ 6
      unfolding number_by granted
      number-rejected = number-walked false

      pub number-accepted : a ≡ true → desk_number bs ≡ 0
      unfolding number_by granted
      number-accepted = number-walked true
