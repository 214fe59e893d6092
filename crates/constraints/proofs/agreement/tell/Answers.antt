-- By its cases.
use Rattle.std.proofs.Common.{refl}
use Rattle.definition.specs.Tables.{entry_at}
use Rattle.constraints.specs.Agreement.{told_of}
use Rattle.constraints.proofs.agreement.tell.Goals as goal

pub returns-in_default : goal.returns-in_default
unfolding told_of
returns-in_default c = rw c.in_default.is refl

pub returns : goal.returns
unfolding told_of entry_at
returns c = rw (c.in-Some.is, c.at.ensures, c.at-2.ensures, c.at-3.ensures, c.at-4.ensures) refl
