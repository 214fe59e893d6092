-- Each number has the function of its opcode; any other leaves the row.
use Rattle.definition.specs.Instructions.{pick}
use Rattle.execution.specs.Opcodes.{opcode_numbered}
use Rattle.std.proofs.Common.{ap, ◌∙◌}
use Rattle.execution.proofs.walking.one.Goals as goal

pub returns-in-1 : goal.returns-in-1
unfolding opcode_numbered pick
returns-in-1 c = λ v e. c.aconst_null.ensures _ c.requires.0.0 v (e ∙ ap opcode_numbered c.in-1.is)

pub returns-in-2 : goal.returns-in-2
unfolding opcode_numbered pick
returns-in-2 c = λ v e. c.sipush.ensures v (e ∙ ap opcode_numbered c.in-2.is)

pub returns-in-3 : goal.returns-in-3
unfolding opcode_numbered pick
returns-in-3 c = λ v e. c.load.ensures v (e ∙ ap opcode_numbered c.in-3.is)

pub returns-in-4 : goal.returns-in-4
unfolding opcode_numbered pick
returns-in-4 c = λ v e. c.load-in-4.ensures v (e ∙ ap opcode_numbered c.in-4.is)

pub returns-in-5 : goal.returns-in-5
unfolding opcode_numbered pick
returns-in-5 c = λ v e. c.store.ensures v (e ∙ ap opcode_numbered c.in-5.is)

pub returns-in-6 : goal.returns-in-6
unfolding opcode_numbered pick
returns-in-6 c = λ v e. c.store-in-6.ensures v (e ∙ ap opcode_numbered c.in-6.is)

pub returns-in-7 : goal.returns-in-7
unfolding opcode_numbered pick
returns-in-7 c = λ v e. c.pop.ensures _ c.requires.0.0 v (e ∙ ap opcode_numbered c.in-7.is)

pub returns-in-8 : goal.returns-in-8
unfolding opcode_numbered pick
returns-in-8 c = λ v e. c.dup.ensures _ c.requires.0.0 v (e ∙ ap opcode_numbered c.in-8.is)

pub returns-in-9 : goal.returns-in-9
unfolding opcode_numbered pick
returns-in-9 c = λ v e. c.arithmetic.ensures _ c.requires.0.0 v (e ∙ ap opcode_numbered c.in-9.is)

pub returns-in-10 : goal.returns-in-10
unfolding opcode_numbered pick
returns-in-10 c = λ v e. c.arithmetic-in-10.ensures _ c.requires.0.0 v (e ∙ ap opcode_numbered c.in-10.is)

pub returns-in-11 : goal.returns-in-11
unfolding opcode_numbered pick
returns-in-11 c = λ v e. c.arithmetic-in-11.ensures _ c.requires.0.0 v (e ∙ ap opcode_numbered c.in-11.is)

pub returns-in-12 : goal.returns-in-12
unfolding opcode_numbered pick
returns-in-12 c = λ v e. c.arithmetic-in-12.ensures _ c.requires.0.0 v (e ∙ ap opcode_numbered c.in-12.is)

pub returns-in-13 : goal.returns-in-13
unfolding opcode_numbered pick
returns-in-13 c = λ v e. c.branch-row.ensures v (e ∙ ap opcode_numbered c.in-13.is)

pub returns-in-14 : goal.returns-in-14
unfolding opcode_numbered pick
returns-in-14 c = λ v e. c.branch-row-in-14.ensures v (e ∙ ap opcode_numbered c.in-14.is)

pub returns-in-15 : goal.returns-in-15
unfolding opcode_numbered pick
returns-in-15 c = λ v e. c.branch-row-in-15.ensures v (e ∙ ap opcode_numbered c.in-15.is)
