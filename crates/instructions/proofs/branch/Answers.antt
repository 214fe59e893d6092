-- A branch is decided by its condition; goto takes no operand away and always jumps.
use Rattle.std.proofs.Common.{refl}
use Rattle.instructions.specs.Plans.{meaning}
use Rattle.definition.specs.Answers.{◌>>=◌}
use Rattle.definition.specs.Instructions.{pick}
use Rattle.definition.specs.Machine.{jumps, execute}
use Rattle.definition.specs.Tables.{frame_of}
use Rattle.instructions.proofs.branch.Goals as goal

pub returns-in-Always : goal.returns-in-Always
unfolding meaning execute jumps ◌>>=◌ frame_of pick
returns-in-Always c = rw c.in-Always.is (record { says = λ task w os fs k p n. refl; fits = λ few B t k m. tt })

pub returns-in-IfZero : goal.returns-in-IfZero
returns-in-IfZero c = rw c.in-IfZero.is c.if_zero.ensures

pub returns-in-IfLess : goal.returns-in-IfLess
returns-in-IfLess c = rw c.in-IfLess.is c.if_less.ensures
