-- More than one argument, paper 7, on tables: a call's receiver is the lowest of its operands and its arguments follow in their order, and in the frame that it enters the receiver stands in local 0, each
-- argument in the next local, and nothing in the others (`call_passes`).
use Rattle.std.specs.Prelude.{◌≡◌, refl, ℕ, zero, suc, ◌≤◌, ◌<◌, length}
use Rattle.std.proofs.Common.{sym, ◌∙◌, subst, arith}
use Rattle.std.proofs.Math.Path.{ap}
use Rattle.std.proofs.Math.Option.{some}
use mathlib.Core.List.{List, [], ◌∷◌, reverse_aux}
use Rattle.std.proofs.Math.ListN.{get_elem?}
use Rattle.definition.specs.declared.Answer.TheVariants.{Ran}
use Rattle.definition.specs.declared.Instruction.{Instruction}
use Rattle.definition.specs.declared.Instruction.TheVariants.{Invokevirtual}
use Rattle.definition.specs.declared.Signature.{Signature}
use Rattle.definition.specs.declared.Arguments.{Arguments}
use Rattle.definition.specs.declared.Arguments.TheVariants.{NoArguments, OneArgument, TwoArguments, ThreeArguments, FourArguments}
use Rattle.definition.specs.Numbers.{local_count}
use Rattle.definition.specs.Lists.{filled}
use Rattle.definition.specs.Classes.{Class, types_of, argument_types}
use Rattle.definition.specs.Constraints.{World}
use Rattle.definition.specs.Instructions.{Decoded}
use Rattle.definition.specs.Machine.{Value, empty_value, object_value, Objects, Frame, Progress, Now, past, pop_all!, execute}
use Rattle.definition.specs.Tables.{Tables, world_of, frames_in, view}
use Rattle.definition.specs.Calls.{step_tables, turn}
use Rattle.definition.specs.Answers.{ok}
use Rattle.laws.specs.Arguments.{PoppedAll, popped-is}
use Rattle.laws.specs.Results.{take-ok}
use Rattle.laws.specs.Wrapped.{Ok, ok_at, then}
use Rattle.unbroken.specs.Steps.{receiver-is, pop-is}
use Rattle.unbroken.specs.Sweeping.{Turns, progressed-frames, ran-shows}

-- What a call of the signature s by frame f leaves, where its task then has the frames gs

pub record Passed (f : Frame) (fs : List Frame) (i : Decoded) (s : Signature) (gs : List Frame) : Type 0 where
  pub object : ℕ
  pub values : List Value
  pub counted : length values ≡ length (argument_types s)
  pub others : List Value
  -- the last argument was pushed last
  pub operands : f.operands ≡ reverse_aux values (object_value object ∷ others)
  pub entered : Frame
  pub frames : gs ≡ entered ∷ past f i others f.locals ∷ fs
  pub this : get_elem? entered.locals 0 ≡ some (object_value object)
  pub argument : (j : ℕ) → j < length values → get_elem? entered.locals (suc j) ≡ get_elem? values j
  pub rest : (j : ℕ) → length values < j → j < local_count → get_elem? entered.locals j ≡ some empty_value

-- A list that is filled up

filled_in : {A : Type 0} (k : ℕ) (d : A) (xs : List A) (j : ℕ) → j < length xs → j < k → get_elem? (filled k d xs) j ≡ get_elem? xs j
unfolding filled
filled_in zero d xs j h l = absurd (omega (arith, l))
filled_in (suc k) d [] j h l = absurd (omega (arith, h))
filled_in (suc k) d (x ∷ xs) zero h l = refl
filled_in (suc k) d (x ∷ xs) (suc j) h l = filled_in k d xs j (omega (arith, h)) (omega (arith, l))

filled-up : {A : Type 0} (k : ℕ) (d : A) (xs : List A) (j : ℕ) → length xs ≤ j → j < k → get_elem? (filled k d xs) j ≡ some d
unfolding filled
filled-up zero d xs j h l = absurd (omega (arith, l))
filled-up (suc k) d [] zero h l = refl
filled-up (suc k) d [] (suc j) h l = filled-up k d [] j (omega arith) (omega (arith, l))
filled-up (suc k) d (x ∷ xs) zero h l = absurd (omega (arith, h))
filled-up (suc k) d (x ∷ xs) (suc j) h l = filled-up k d xs j (omega (arith, h)) (omega (arith, l))

four : (a : Arguments) → length (types_of a) ≤ 4
four NoArguments = omega arith
four (OneArgument a) = omega arith
four (TwoArguments a b) = omega arith
four (ThreeArguments a b c) = omega arith
four (FourArguments a b c d) = omega arith

-- One instruction

module _ (task : ℕ) (w : World) (os : Objects) (f : Frame) (fs : List Frame) (k : Class) (i : Decoded) (c : ℕ) (s : Signature) where
  abbrev PassedRows : Progress → Type 0
  PassedRows o = Passed f fs i s o.frames

  popped-all : (n : ℕ) (vs : List Value) (p : PoppedAll Value) → pop_all! n vs ≡ ok p → (length p.all ≡ n) × (vs ≡ reverse_aux p.all p.more)
  unfolding pop_all!
  popped-all n vs p e = popped-is n vs p (take-ok _ _ e)

  passed-rows : Ok (execute task w os f fs k i (Invokevirtual c s)) PassedRows
  unfolding execute
  passed-rows = then PassedRows _ _ (λ e ce. then PassedRows _ _ (λ d cd. then PassedRows _ _ (λ v _. then PassedRows _ _ (λ p cp. then PassedRows _ _ (λ q cq. then PassedRows _ _ (λ _ _. then PassedRows _ _ (λ o co. then PassedRows _ _ (λ m cm.
      let r = receiver-is w.base os e q.top o co in
      let a = popped-all (length (argument_types s)) f.operands p cp in
      let vs = object_value o.number ∷ p.all in
      record {
        object = o.number;
        values = p.all;
        counted = a.0;
        others = q.more;
        operands = a.1 ∙ ap (reverse_aux p.all) (pop-is p.more q cq ∙ ap (λ (y : Value). y ∷ q.more) r.0);
        entered = _;
        frames = refl;
        this = filled_in local_count empty_value vs 0 (omega arith) (omega arith);
        argument = λ j h. filled_in local_count empty_value vs (suc j) (omega (arith, h)) (omega (arith, h, a.0, four s.arguments));
        rest = λ j h l. filled-up local_count empty_value vs j (omega (arith, h)) l;
      }))))))))

-- On tables

module _ (t : Tables) (f : Frame) (fs : List Frame) (n : Now) (c : ℕ) (s : Signature) (k : ℕ) (turns : Turns t f fs n) (ran : (step_tables t).answer ≡ Ran k) where
  pub call_passes : n.at.instruction ≡ Invokevirtual c s → Passed f fs n.at s (frames_in (turn (view t)) (view (step_tables t).tables))
  call_passes e = ran-shows t f fs n k (λ r. Passed f fs n.at s (frames_in (turn (view t)) r)) turns ran
      (λ _ o q. subst (Passed f fs n.at s) (sym (progressed-frames (turn (view t)) (view t) o))
      (ok_at (PassedRows (turn (view t)) (world_of (view t)) (view t).objects f fs n.the_class n.at c s) _
      (passed-rows (turn (view t)) (world_of (view t)) (view t).objects f fs n.the_class n.at c s) o
      (subst (λ (i : Instruction). execute (turn (view t)) (world_of (view t)) (view t).objects f fs n.the_class n.at i ≡ ok o) e q)))
