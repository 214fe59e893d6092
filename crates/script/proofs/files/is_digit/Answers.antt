-- A digit has a value.
use mathlib.Core.Path.{◌∙◌}
use Rattle.script.specs.Files.{digit_some}
use Rattle.script.proofs.files.is_digit.Goals as goal

pub returns : goal.returns
returns c = c.is_some.ensures ∙ rw c.hex_value.ensures (digit_some _)
