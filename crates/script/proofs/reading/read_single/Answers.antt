-- A step, by its letter alone.
use mathlib.Core.Path.{◌≡◌, ◌∙◌, refl}
use mathlib.Core.Bool.{Bool, true, false}
use Rattle.std.specs.Bool.{then_some}
use Rattle.definition.specs.Maybe.{◌>>=◌, need}
use Rattle.definition.specs.Calls.{call_step}
use Rattle.definition.specs.Script.{line}
use Rattle.script.specs.Commands.{Step, said, command_of}
use Rattle.script.specs.Calls.{single_line}
use Rattle.script.proofs.reading.read_single.Goals as goal

step_said : (b : _) (t : Bool) → then_some t Step ≡ said (need t >>= λ _. line b call_step)
unfolding said command_of need ◌>>=◌
step_said b true = refl
step_said b false = refl

pub returns : goal.returns
unfolding single_line
returns c = c.then_some.ensures ∙ step_said _ _
