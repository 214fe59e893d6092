-- The run of steps: the loop has taken k of them, what is left of the run is the whole run, the store is not broken, what a new
-- object asks for is at hand, and what is remembered is right. After a step come those that are done at once.
use native.Mathlib.Omega.{arith}
use Rattle.std.proofs.Common.{sym, ◌∙◌}
use Rattle.execution.specs.Runs.{run-stops, run_on, still-whole, next-room, room_for, room-few, run_ends}
use Rattle.execution.specs.Ahead.{sound, go-on}
use Rattle.execution.specs.Facts.{minds-step}
use Rattle.execution.proofs.runs.steps.Goals as goal

pub step_unbroken-a-requires : goal.step_unbroken-a-requires
step_unbroken-a-requires c = (c.loop-k.invariant.2, room_for _ _ _ c.loop-k.invariant.7)

pub returns-then-not-is_ran : goal.returns-then-not-is_ran
returns-then-not-is_ran c = run-stops _ _ _ _ _ _ c.step_unbroken-a.ensures c.loop-k-test.true (sym c.is_ran.ensures ∙ c.if-not-is_ran.true) ∙ c.loop-k.invariant.1

pub next_room-room-requires : goal.next_room-room-requires
next_room-room-requires c = room-few _ c.loop-k.invariant.2 _ _ c.loop-k.invariant.7

pub go_ahead-more-requires : goal.go_ahead-more-requires
go_ahead-more-requires c = (sound _ _ _ _ _ _ _ _ (still-whole c.args.n c.loop-k.k c.loop-k.last _ _ _ c.step_unbroken-a.ensures c.loop-k.invariant.2), c.requires.1)

pub loop-k-preserved : goal.loop-k-preserved
loop-k-preserved c = (omega (arith, c.loop-k-test.true, c.go_ahead-more.ensures.1), go-on _ _ _ _ _ _ _ c.last_of-last.ensures (c.go_ahead-more.ensures.0 _ _ _ (still-whole c.args.n c.loop-k.k c.loop-k.last _ _ _ c.step_unbroken-a.ensures c.loop-k.invariant.2) (minds-step _ _ _ _ _ _ _ _ _ _ _ _ _ _ _ c.step_unbroken-a.ensures c.note.ensures)) (omega (arith, c.loop-k-test.true, c.go_ahead-more.ensures.1)) ∙ (run_on _ _ _ _ _ _ c.step_unbroken-a.ensures c.loop-k-test.true (sym c.is_ran.ensures ∙ c.if-not-is_ran.false) ∙ c.loop-k.invariant.1), (c.go_ahead-more.ensures.0 _ _ _ (still-whole c.args.n c.loop-k.k c.loop-k.last _ _ _ c.step_unbroken-a.ensures c.loop-k.invariant.2) (minds-step _ _ _ _ _ _ _ _ _ _ _ _ _ _ _ c.step_unbroken-a.ensures c.note.ensures)).whole, c.step_unbroken-a.auto.counts ∙ c.loop-k.invariant.3, c.step_unbroken-a.auto.ties ∙ c.loop-k.invariant.4, c.go_ahead-more.auto.objects ∙ (c.step_unbroken-a.auto.objects ∙ c.loop-k.invariant.5), c.go_ahead-more.auto.frames ∙ (c.step_unbroken-a.auto.frames ∙ c.loop-k.invariant.6), next-room c.args.n c.loop-k.k c.loop-k.last _ _ _ c.step_unbroken-a.ensures _ _ _ _ c.loop-k.invariant.7 (rw c.turn-turn.ensures at c.next_room-room.ensures), (minds-step _ _ _ _ _ _ _ _ _ _ _ _ _ _ _ c.step_unbroken-a.ensures c.note.ensures), c.note.auto.tags ∙ c.loop-k.invariant.9, c.note.auto.facts ∙ c.loop-k.invariant.10)

pub returns : goal.returns
returns c = run_ends _ _ _ _ c.loop-k-test.false ∙ c.loop-k.invariant.1
