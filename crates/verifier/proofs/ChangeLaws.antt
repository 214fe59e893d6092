-- An effect carried out: at most 16 operands, a type pushed, a local set, a receiver that is met.
use mathlib.Core.Path.{◌≡◌, refl, sym, ap, ◌∙◌, fun_ext}
use mathlib.Core.Bool.{true, false}
use mathlib.Core.Option.{Option, none, some}
use mathlib.Core.List.{List, [], ◌∷◌, ◌++◌}
use Prim.Native.Nat.{ℕ, suc, ◌+◌, ◌<◌, ◌≤◌}
use native.Mathlib.Omega.{arith}
use native.Mathlib.Numerals.{add-one}
use lib.ListN.{length, get_or, set}
use lib.Seq.{get_or-set_same, get_or-set_other, set_out}
use borrow.Author.Tests.{le-leb, lt-leb}
use Rattle.definition.specs.Lists.{stack, rows, is_some}
use Rattle.definition.specs.Maybe.{◌>>=◌, need}
use Rattle.definition.specs.declared.Arguments.{Arguments}
use Rattle.definition.specs.declared.Arguments.TheVariants.{NoArguments}
use Rattle.definition.specs.Verifier.{VerifierType, Note, TypeState, Flow, flow}
use Rattle.layout.specs.Places.{stack-length, stack-cong, rows-length, rows-set}
use Rattle.verifier.specs.declared.types.Types.{Types}
use Rattle.verifier.specs.declared.effects.Meeting.{Meeting}
use Rattle.verifier.specs.declared.effects.Meeting.TheVariants.{Unmet, Met, Noted}
use Rattle.verifier.specs.declared.effects.Effect.{Effect}
use Rattle.verifier.specs.declared.effects.Effect.TheVariants.{Kept, Pushed, Stored}
use Rattle.std.specs.Prelude as P
use Rattle.verifier.specs.Types.{type_of, local_of, operand_at, local_at, locals_of, types_of}
use Rattle.verifier.specs.Effects.{notes_in, going, left_by}
use Rattle.verifier.specs.Trace.{meet_from, values_trace}
use Rattle.verifier.specs.Answers.{outcome_of, made, made_flow}
use Rattle.verifier.proofs.ValueLaws.{nothing, values-kept}

-- At most 16 operands

module _ (o : List VerifierType) (l : List (Option VerifierType)) (ns : List Note) where
  flow-fits : length o ≤ 16 → flow o l ns ≡ some (record { types = record { operands = o; locals = l }; notes = ns })
  unfolding ◌>>=◌ need
  flow-fits h = rw (le-leb (length o) 16 h)

  flow-full : 16 < length o → flow o l ns ≡ none
  unfolding ◌>>=◌ need
  flow-full h = rw (lt-leb (length o) 16 h)

-- The receiver, and the notes of the values above it

module _ (s : Types) (d : ℕ) (a : Meeting) (vs : Arguments) where
  noting : (List Note → Option Flow) → Option Flow
  noting k = notes_in a >>= λ x. k (x ++ (values_trace s.operands d vs).notes)

  noting-none : (k : List Note → Option Flow) → ((ns : List Note) → k ns ≡ none) → noting k ≡ none
  unfolding noting
  noting-none k h = ap noting (fun_ext h) ∙ nothing (notes_in a)

  noting-flow : (u : TypeState) (k : List Note → Option Flow) → ((ns : List Note) → k ns ≡ some (record { types = u; notes = ns }))
      → noting k ≡ (notes_in a >>= λ x. some (record { types = u; notes = x ++ (values_trace s.operands d vs).notes }))
  unfolding noting
  noting-flow u k h = ap noting (fun_ext h)

  pub unmet-left : notes_in a ≡ none → made_flow s d a vs ≡ none
  unfolding made_flow ◌>>=◌
  unmet-left h = rw h

-- a meeting that is met has the notes that it makes
pub met-notes : (m : Meeting) → is_some (notes_in m) ≡ true → notes_in m ≡ some (made m)
unfolding notes_in made is_some
met-notes Unmet h = let z : ◌≡◌ {A = ℕ} 0 1 = cc in absurd (omega arith)
met-notes Met h = refl
met-notes (Noted a b) h = refl

pub unmet-notes : (m : Meeting) → is_some (notes_in m) ≡ false → notes_in m ≡ none
unfolding notes_in is_some
unmet-notes Unmet h = refl
unmet-notes Met h = let z : ◌≡◌ {A = ℕ} 0 1 = cc in absurd (omega arith)
unmet-notes (Noted a b) h = let z : ◌≡◌ {A = ℕ} 0 1 = cc in absurd (omega arith)

pub met-left :
    (s : Types) (d : ℕ) (a : Meeting) (vs : Arguments) → is_some (notes_in a) ≡ true →
    made_flow s d a vs ≡ some (record { types = types_of s; notes = made a ++ (values_trace s.operands d vs).notes })
unfolding made_flow ◌>>=◌
met-left s d a vs h = rw (met-notes a h)

-- a meeting alone makes its own notes
pub made-alone : (m : Meeting) (o : List ℕ) (d : ℕ) → made m ++ (values_trace o d NoArguments).notes ≡ made m
unfolding made values_trace meet_from
made-alone Unmet o d = refl
made-alone Met o d = refl
made-alone (Noted a b) o d = refl

-- Effects carried out

abbrev comes : Types → Effect → Option Flow
comes types e = left_by (types_of types) (outcome_of types (P.Some e))

going-left : (s : TypeState) (m : Option Flow) → left_by s (going m) ≡ m
unfolding left_by going
going-left s none = refl
going-left s (some f) = refl

abbrev lowest : Types → ℕ → List VerifierType
lowest types d = stack (operand_at types.operands) d

abbrev after : Types → ℕ → Types
after types d = record { operands = types.operands; depth = d; locals = types.locals }

module _ (types : Types) (d : ℕ) (a : Meeting) (vs : Arguments) where
  pub kept_full : 16 < d → comes types (Kept d a vs) ≡ none
  unfolding outcome_of noting
  kept_full h = going-left _ _ ∙ noting-none types d a vs _ (λ ns. flow-full (lowest types d) (locals_of types.locals) ns (rw (stack-length (operand_at types.operands) d) h))

  pub kept-fits : d ≤ 16 → comes types (Kept d a vs) ≡ made_flow (after types d) d a vs
  unfolding outcome_of noting types_of made_flow
  kept-fits h = going-left _ _ ∙ noting-flow types d a vs _ _ (λ ns. flow-fits _ _ ns (rw (stack-length (operand_at types.operands) d) h))

module _ (o : List ℕ) (d t : ℕ) (full : length o ≡ 16) (h : d < 16) where
  stack-pushed : stack (operand_at (set o d t)) (suc d) ≡ type_of t ∷ stack (operand_at o) d
  unfolding stack operand_at
  stack-pushed =
      rw (
        get_or-set_same o d t 0 (omega arith),
        stack-cong (λ i. type_of (get_or (set o d t) i 0)) (λ i. type_of (get_or o i 0)) d (λ i l. ap type_of (get_or-set_other o d i t 0 (λ q. omega arith))),
      )

module _ (types : Types) (d t : ℕ) (a : Meeting) (vs : Arguments) where
  pub pushed-full : 16 ≤ d → comes types (Pushed d t a vs) ≡ none
  unfolding outcome_of noting
  pushed-full h =
      going-left _ _
      ∙ noting-none types d a vs _ (λ ns. flow-full (type_of t ∷ lowest types d) (locals_of types.locals) ns (rw (stack-length (operand_at types.operands) d) (omega arith)))

  pub pushed-fits :
      length types.operands ≡ 16 → d < 16 →
      comes types (Pushed d t a vs) ≡ made_flow (record { operands = set types.operands d t; depth = d + 1; locals = types.locals }) d a vs
  unfolding outcome_of noting types_of made_flow
  pushed-fits full h =
      rw (add-one d, stack-pushed types.operands d t full h, values-kept types.operands d t vs)
      (going-left _ _ ∙ noting-flow types d a vs _ _ (λ ns. flow-fits _ _ ns (rw (stack-length (operand_at types.operands) d) (omega arith))))

module _ (l : List ℕ) (i t : ℕ) where
  locals-set : length l ≡ 8 → i < 8 → locals_of (set l i t) ≡ set (locals_of l) i (local_of t)
  unfolding locals_of local_at
  locals-set full h =
      let z : 0 + i ≡ i = omega arith in
      rows-set (local_at l) (local_at (set l i t)) 8 0 i (local_of t)
      (rw z (ap local_of (get_or-set_same l i t 0 (omega arith)))) (λ m q. ap local_of (get_or-set_other l i m t 0 (rw z at q)))

  locals-past : 8 ≤ i → set (locals_of l) i (local_of t) ≡ locals_of l
  unfolding locals_of
  locals-past h = set_out (rows (local_at l) 8 0) i (local_of t) (rw (rows-length (local_at l) 8 0) h)

module _ (types : Types) (d i t : ℕ) where
  pub stored-full : 16 < d → comes types (Stored d i t) ≡ none
  unfolding outcome_of
  stored-full h = going-left _ _ ∙ flow-full (lowest types d) (set (locals_of types.locals) i (local_of t)) [] (rw (stack-length (operand_at types.operands) d) h)

  stored-fits :
      (l : List ℕ) → set (locals_of types.locals) i (local_of t) ≡ locals_of l → d ≤ 16 →
      comes types (Stored d i t) ≡ made_flow (record { operands = types.operands; depth = d; locals = l }) d Met NoArguments
  unfolding outcome_of types_of made_flow notes_in values_trace meet_from ◌>>=◌
  stored-fits l e h = rw e (going-left _ _ ∙ flow-fits _ _ [] (rw (stack-length (operand_at types.operands) d) h))

  pub stored_at :
      length types.locals ≡ 8 → d ≤ 16 → i < 8 →
      comes types (Stored d i t) ≡ made_flow (record { operands = types.operands; depth = d; locals = set types.locals i t }) d Met NoArguments
  stored_at full h k = stored-fits (set types.locals i t) (sym (locals-set types.locals i t full k)) h

  pub stored_past : d ≤ 16 → 8 ≤ i → comes types (Stored d i t) ≡ made_flow (after types d) d Met NoArguments
  stored_past h k = stored-fits types.locals (locals-past types.locals i t k) h
