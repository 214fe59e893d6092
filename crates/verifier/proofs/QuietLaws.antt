-- Turns without notes: what an effect leaves, and where the walk goes.
use mathlib.Core.Path.{◌≡◌, refl, sym, ap, ◌∙◌}
use mathlib.Core.Bool.{Bool, true, false}
use Rattle.std.proofs.lemmas.Bool.{false≢true}
use mathlib.Core.Option as M
use mathlib.Core.Option.{some}
use mathlib.Core.List.{List, []}
use Prim.Native.Nat.{ℕ, suc, ◌-◌, ◌<◌, ◌≤◌}
use native.Mathlib.Omega.{arith}
use lib.ListN.{length}
use Rattle.definition.specs.declared.Instruction.{Instruction}
use Rattle.definition.specs.declared.Arguments.{Arguments}
use Rattle.definition.specs.declared.Arguments.TheVariants.{NoArguments, OneArgument, TwoArguments, ThreeArguments, FourArguments}
use Rattle.definition.specs.Instructions.{pick}
use Rattle.definition.specs.Classes.{Map, types_of as names_of}
use Rattle.definition.specs.Maybe.{◌>>=◌}
use Rattle.definition.specs.Verifier.{TypeState, map_at, maps_past, target, goes_on}
use Rattle.classfile.specs.Reading.{maps_of}
use Rattle.verifier.specs.declared.types.Types.{Types}
use Rattle.verifier.specs.declared.effects.Meeting.{Meeting}
use Rattle.verifier.specs.declared.effects.Meeting.TheVariants.{Met}
use Rattle.verifier.specs.declared.effects.Effect.{Effect}
use Rattle.verifier.specs.declared.effects.Effect.TheVariants.{Kept, Pushed, Stored}
use Rattle.verifier.specs.declared.quiet.Quiet.{Quiet}
use Rattle.verifier.specs.declared.quiet.Quiet.TheVariants.{Keeps, Pushes, Sets}
use Rattle.std.specs.Prelude.{Option, Some, None}
use Rattle.std.specs.Option.{is_some}
use Rattle.cells.specs.Optional.{optional}
use Rattle.verifier.specs.Lookups.{map_found}
use Rattle.verifier.specs.Types.{types_of}
use Rattle.verifier.specs.Effects.{notes_in, left_by}
use Rattle.verifier.specs.Trace.{meet_from, values_trace, onto, onward, Turned, bound, once, target_trace, flowing, turned_to, turned, after, proceed, trace}
use Rattle.verifier.specs.Answers.{outcome_of, made_flow, keeping, pushing, setting, QuietBy, QuietTo}
use Rattle.verifier.proofs.ChangeLaws.{kept-fits, pushed-fits, stored_at}
use Rattle.verifier.proofs.TurnLaws.{into-bare, flow-on}

pub none_named : (a : Arguments) → length (names_of a) ≡ 0 → a ≡ NoArguments
none_named NoArguments h = refl
none_named (OneArgument x) h = absurd (omega (arith, h))
none_named (TwoArguments x y) h = absurd (omega (arith, h))
none_named (ThreeArguments x y z) h = absurd (omega (arith, h))
none_named (FourArguments x y z t) h = absurd (omega (arith, h))

-- Effects that are met without a note

made-silent : (s : Types) (d : ℕ) → made_flow s d Met NoArguments ≡ some (record { types = types_of s; notes = [] })
unfolding made_flow notes_in values_trace meet_from ◌>>=◌
made-silent s d = refl

module _ (q : ℕ) (s : Types) (m : Meeting) (a : Arguments) (e : m ≡ Met) (n : a ≡ NoArguments) where
  pub quiet-kept : (d : ℕ) → d ≤ 16 → QuietBy q s (Kept d m a) (Some (Keeps q d))
  unfolding QuietBy
  quiet-kept d h = (refl, rw (e, n) (kept-fits s d Met NoArguments h ∙ made-silent (keeping s d) d))

  pub quiet-pushed : (d t : ℕ) → length s.operands ≡ 16 → d < 16 → QuietBy q s (Pushed d t m a) (Some (Pushes q d t))
  unfolding QuietBy
  quiet-pushed d t full h = (refl, h, rw (e, n) (pushed-fits s d t Met NoArguments full h ∙ made-silent (pushing s d t) d))

pub quiet-stored : (q : ℕ) (s : Types) (d i t : ℕ) → length s.locals ≡ 8 → d ≤ 16 → i < 8 → QuietBy q s (Stored d i t) (Some (Sets q d i t))
unfolding QuietBy
quiet-stored q s d i t full h k = (refl, k, stored_at s d i t full h k ∙ made-silent (setting s d i t) d)

pub quiet-loud : (q : ℕ) (s : Types) (e : Effect) (r : Option Quiet) → r ≡ None → QuietBy q s e r
unfolding QuietBy
quiet-loud q s e r h = rw h tt

-- an instruction whose target isn't there
pub targetless : (o : M.Option ℕ) (r : Option ℕ) → r ≡ optional o → is_some r ≡ false → o ≡ M.none
targetless M.none r e h = refl
targetless (M.some q) r e h = let t : is_some r ≡ true = rw e refl in absurd (false≢true (sym h ∙ t))

-- what isn't there
pub none-is : (r : Option ℕ) → is_some r ≡ false → r ≡ None
none-is None h = refl
none-is (Some x) h = absurd (false≢true (sym h))

-- An instruction without a target goes on to a point without a map

module _ (ms : List ℕ) (n q : ℕ) (r : Option ℕ) (e : map_found ms r ≡ map_at (maps_of ms) q) (h : r ≡ None) (i : Instruction) (g : target i ≡ M.none) (b : Bool) (w : b ≡ goes_on i) (z : b ≡ true) where
  flows-on : (s : TypeState) → flowing n (maps_of ms) i q s ≡ bound (onto q s)
  unfolding target_trace once pick
  flows-on s = flow-on n (maps_of ms) i q s b w z ∙ rw (g, into-bare ms n q r e h s) refl

  turns-on : (s : TypeState) → turned_to n (maps_of ms) i q (some (record { types = s; notes = [] })) ≡ bound (onto q s)
  unfolding turned_to once pick
  turns-on s = rw (flows-on s) refl

  -- by what its effect leaves
  pub quiet-turn : (u : Turned) (s : Types) (x : Effect) (y : Option Quiet) → u ≡ turned_to n (maps_of ms) i q (left_by (types_of s) (outcome_of s (Some x))) → QuietBy q s x y → QuietTo u s y
  unfolding QuietBy QuietTo
  quiet-turn u s x None a c = tt
  quiet-turn u s x (Some (Keeps p d)) a c = a ∙ rw (c.1, c.0) (turns-on (types_of (keeping s d)))
  quiet-turn u s x (Some (Pushes p d v)) a c = (c.1, a ∙ rw (c.2, c.0) (turns-on (types_of (pushing s d v))))
  quiet-turn u s x (Some (Sets p d l v)) a c = (c.1, a ∙ rw (c.2, c.0) (turns-on (types_of (setting s d l v))))

pub loud-turn : (u : Turned) (s : Types) (y : Option Quiet) → y ≡ None → QuietTo u s y
unfolding QuietTo
loud-turn u s y h = rw h tt

-- what the answer says, by its variant
module _ (u : Turned) (s : Types) (y : Option Quiet) (c : QuietTo u s y) where
  pub keeps-says : (v : Quiet) → y ≡ Some v → (q d : ℕ) → v ≡ Keeps q d → u ≡ bound (onto q (types_of (keeping s d)))
  unfolding QuietTo
  keeps-says v g q d h = rw (g, h) at c

  pub pushes-says : (v : Quiet) → y ≡ Some v → (q d t : ℕ) → v ≡ Pushes q d t → (d < 16) × (u ≡ bound (onto q (types_of (pushing s d t))))
  unfolding QuietTo
  pushes-says v g q d t h = rw (g, h) at c

  pub sets-says : (v : Quiet) → y ≡ Some v → (q d i t : ℕ) → v ≡ Sets q d i t → (i < 8) × (u ≡ bound (onto q (types_of (setting s d i t))))
  unfolding QuietTo
  sets-says v g q d i t h = rw (g, h) at c

-- One quiet turn, with n left
pub quiet-on : (version : ℕ) (code : List ℕ) (maps : List Map) (result n p : ℕ) (left more : List Map) (s : TypeState) (q : ℕ) (u : TypeState)
    → 0 < n → maps_past version code maps result p left ≡ some more → turned version code maps result p s ≡ bound (onto q u)
    → trace version code maps result (n - 1) q more u ≡ trace version code maps result n p left s
unfolding trace proceed onward after
quiet-on version code maps result n p left more s q u h e f =
    let one : n ≡ suc (n - 1) = omega arith in
    sym (ap (λ (m : ℕ). trace version code maps result m p left s) one ∙ rw (trace, e, f) refl)

-- and what it left
pub quiet_step : (version : ℕ) (code : List ℕ) (maps : List Map) (result n p : ℕ) (left more : List Map) (s : TypeState) (q o : ℕ) (u v : Types)
    → 0 < n → maps_past version code maps result p left ≡ some more → turned version code maps result p s ≡ bound (onto q (types_of u)) → v ≡ u → o ≡ q
    → trace version code maps result (n - 1) o more (types_of v) ≡ trace version code maps result n p left s
quiet_step version code maps result n p left more s q o u v h e f a b = rw (a, b) (quiet-on version code maps result n p left more s q (types_of u) h e f)
