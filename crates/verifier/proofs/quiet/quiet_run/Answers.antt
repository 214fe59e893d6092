-- Each turn is one of the walk: what is left of it is always the whole.
use mathlib.Core.Path.{◌∙◌}
use mathlib.Core.List.{[]}
use native.Mathlib.Omega.{arith}
use Rattle.verifier.proofs.WalkLaws.{passed_to}
use Rattle.verifier.proofs.QuietLaws.{keeps-says, pushes-says, sets-says, quiet_step}
use Rattle.verifier.proofs.quiet.quiet_run.Goals as goal
use Rattle.verifier.proofs.quiet.quiet_run.Goals.{in-Keeps, in-Pushes, in-Sets}

pub offset_bounds-types-d : goal.offset_bounds-types-d
offset_bounds-types-d c = omega (arith, (pushes-says _ _ _ c.quiet_at.ensures _ c.in-Some-quiet_at.is _ _ _ c.in-Pushes.is).0)

pub bounds-types-d : goal.bounds-types-d
bounds-types-d c = (pushes-says _ _ _ c.quiet_at.ensures _ c.in-Some-quiet_at.is _ _ _ c.in-Pushes.is).0

pub overflow_add-types : goal.overflow_add-types
overflow_add-types c = omega (arith, (pushes-says _ _ _ c.quiet_at.ensures _ c.in-Some-quiet_at.is _ _ _ c.in-Pushes.is).0)

pub offset_bounds-types-l : goal.offset_bounds-types-l
offset_bounds-types-l c = omega (arith, (sets-says _ _ _ c.quiet_at.ensures _ c.in-Some-quiet_at.is _ _ _ _ c.in-Sets.is).0)

pub bounds-types-l : goal.bounds-types-l
bounds-types-l c = (sets-says _ _ _ c.quiet_at.ensures _ c.in-Some-quiet_at.is _ _ _ _ c.in-Sets.is).0

pub loop-left-preserved : goal.loop-left-preserved
loop-left-preserved c = (
  (passed_to _ _ _ (c.pass.ensures 0 [] [] 0) c.in-Some.is).1,
  omega (arith, c.loop-left-test.true),
  omega (arith, c.loop-left.invariant.2),
  elim c.match-quiet.branch [
    | in-Keeps w ↦ quiet_step _ _ _ _ _ _ _ _ _ _ _ _ _ c.loop-left.invariant.1 (passed_to _ _ _ (c.pass.ensures _ _ _ _) c.in-Some.is).0 (keeps-says _ _ _ c.quiet_at.ensures _ c.in-Some-quiet_at.is _ _ w.in-Keeps.is) w.types-is w.point-is ∙ c.loop-left.invariant.3
    | in-Pushes w ↦ quiet_step _ _ _ _ _ _ _ _ _ _ _ _ _ c.loop-left.invariant.1 (passed_to _ _ _ (c.pass.ensures _ _ _ _) c.in-Some.is).0 (pushes-says _ _ _ c.quiet_at.ensures _ c.in-Some-quiet_at.is _ _ _ w.in-Pushes.is).1 w.types-is w.point-is ∙ c.loop-left.invariant.3
    | in-Sets w ↦ quiet_step _ _ _ _ _ _ _ _ _ _ _ _ _ c.loop-left.invariant.1 (passed_to _ _ _ (c.pass.ensures _ _ _ _) c.in-Some.is).0 (sets-says _ _ _ c.quiet_at.ensures _ c.in-Some-quiet_at.is _ _ _ _ w.in-Sets.is).1 w.types-is w.point-is ∙ c.loop-left.invariant.3
  ],
)
