-- The walk is taken turn by turn, the quiet ones in a row first. What is left of it, with the notes posted so far, is always the whole walk.
use mathlib.Core.Path.{refl, sym, ap, ◌∙◌}
use mathlib.Core.List.{[]}
use native.Mathlib.Omega.{arith}
use Rattle.classfile.specs.Reading.{map_place}
use Rattle.verifier.specs.Types.{types_of}
use Rattle.verifier.specs.Answers.{next_of}
use Rattle.verifier.proofs.PostingLaws.{exits}
use Rattle.verifier.proofs.WalkLaws.{left-all, passed-inside, passed_to, walk-out, walk_inside, walk-stop, walk_end, walk-next, ran}
use Rattle.verifier.proofs.methods.walk.Goals as goal

pub loop-left-init : goal.loop-left-init
unfolding map_place
loop-left-init c = ((refl, omega arith), rw (left-all _) refl)

pub returns-in_default : goal.returns-in_default
returns-in_default c =
    sym (walk_inside _ _ _ _ _ _ _ _ _ _ c.quiet_run-run.ensures.1 (passed-inside _ _ (c.pass.ensures _ _ _ _) c.in_default.is))
    ∙ ran _ _ _ _ _ c.quiet_run-run.ensures.3 c.loop-left.invariant.1

pub returns-in_err-turn : goal.returns-in_err-turn
returns-in_err-turn c =
    rw (exits _ _ c.from_residual.ensures.1)
    (sym (walk-stop _ _ _ _ _ _ _ _ _ _ c.quiet_run-run.ensures.1 _ (passed_to _ _ _ (c.pass.ensures _ _ _ _) c.in-Some.is).0 _ _ c.in_err-turn.ensures refl)
    ∙ ran _ _ _ _ _ c.quiet_run-run.ensures.3 c.loop-left.invariant.1)

pub returns-in_default-next : goal.returns-in_default-next
unfolding next_of
returns-in_default-next c =
    c.ended.ensures _
    ∙ sym (walk_end _ _ _ _ _ _ _ _ _ _ c.quiet_run-run.ensures.1 _ (passed_to _ _ _ (c.pass.ensures _ _ _ _) c.in-Some.is).0 _ _ c.in_ok-turn.ensures (ap (λ x. next_of x (types_of c.turn_at.new.types)) c.in_default-next.is))
    ∙ ran _ _ _ _ _ c.quiet_run-run.ensures.3 c.loop-left.invariant.1

pub loop-left-preserved : goal.loop-left-preserved
unfolding next_of
loop-left-preserved c = (
  (passed_to _ _ _ (c.pass.ensures 0 [] [] 0) c.in-Some.is).1,
  sym (walk-next _ _ _ _ _ _ _ _ _ _ c.quiet_run-run.ensures.1 _ (passed_to _ _ _ (c.pass.ensures _ _ _ _) c.in-Some.is).0 _ _ c.in_ok-turn.ensures _ _ (ap (λ x. next_of x (types_of c.turn_at.new.types)) c.in-Some-next.is))
      ∙ ran _ _ _ _ _ c.quiet_run-run.ensures.3 c.loop-left.invariant.1,
)

pub returns : goal.returns
returns c = sym (walk-out _ _ _ _ _ _ _ _ _ _ c.loop-left-test.false) ∙ c.loop-left.invariant.1
