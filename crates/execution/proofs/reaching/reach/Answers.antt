-- A field instruction has its own function; any other number touches the frame alone.
use Rattle.execution.specs.Opcodes.{opcode_numbered}
use Rattle.definition.specs.Instructions.{pick}
use Rattle.std.proofs.Common.{ap, ◌∙◌}
use Rattle.execution.proofs.reaching.reach.Goals as goal

pub returns-in-16 : goal.returns-in-16
unfolding opcode_numbered pick
returns-in-16 c = λ v e. c.getfield.ensures v (e ∙ ap opcode_numbered c.in-16.is)

pub returns-in-17 : goal.returns-in-17
unfolding opcode_numbered pick
returns-in-17 c = λ v e. c.putfield.ensures v (e ∙ ap opcode_numbered c.in-17.is)
