-- Nobody has a turn: the run is idle. Else the steps are taken, with nothing remembered at first.
use Rattle.std.proofs.Common.{refl, ◌∙◌}
use Rattle.definition.specs.Lists.{rows}
use Rattle.definition.specs.Instructions.{pick, opcode_of}
use Rattle.execution.specs.Opcodes.{numbers, number_at, version_at}
use Rattle.execution.specs.Turns.{turn-idle}
use Rattle.execution.specs.Runs.{run-stops, run-begins}
use Rattle.execution.specs.Facts.{none-noted}
use Rattle.execution.proofs.runs.steps_allowed.Goals as goal

pub returns-then-frame_count-eq0 : goal.returns-then-frame_count-eq0
returns-then-frame_count-eq0 c = run-stops _ _ _ _ _ _ (turn-idle _ _ _ _ _ _ _ _ c.requires.0 _ _ c.turn.ensures c.frame_count.ensures c.if-frame_count-eq0.true) c.requires.1 refl ∙ run-begins _ _

pub steps-requires : goal.steps-requires
unfolding numbers rows number_at version_at opcode_of pick
steps-requires c = (c.requires.0, refl, none-noted _ _ _ _ _ _ 1)

pub steps-requires-2 : goal.steps-requires-2
unfolding numbers rows number_at version_at opcode_of pick
steps-requires-2 c = (c.requires.0, refl, none-noted _ _ _ _ _ _ 512)
