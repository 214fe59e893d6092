-- The kind says that nothing is there.
use mathlib.Core.Path.{refl}
use Rattle.definition.specs.Instructions.{pick}
use Rattle.definition.specs.Tables.{value_of}
use Rattle.frames.proofs.empty.Goals as goal

pub returns : goal.returns
unfolding value_of pick
returns c = refl
