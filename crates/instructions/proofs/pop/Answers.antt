-- pop takes the top operand away, and is refused if there is none.
use Rattle.instructions.specs.Operands.{pop-none, pop-some}
use Rattle.instructions.specs.Plans.{meaning}
use Rattle.definition.specs.Answers.{◌>>=◌}
use Rattle.definition.specs.Machine.{execute}
use Rattle.definition.specs.Tables.{frame_of}
use Rattle.instructions.proofs.pop.Goals as goal

pub returns-then-d-eq0 : goal.returns-then-d-eq0
unfolding meaning execute ◌>>=◌ frame_of
returns-then-d-eq0 c = λ F b. record { says = λ task w os fs k p n. rw (c.refuse.ensures, pop-none _ _ c.if-d-eq0.true); fits = λ few B t k m. rw c.refuse.ensures tt }

pub returns : goal.returns
unfolding meaning execute ◌>>=◌ frame_of
returns c = λ F b. record { says = λ task w os fs k p n. rw (pop-some _ _ c.if-d-eq0.false); fits = λ few B t k m. tt }
