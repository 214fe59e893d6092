-- Unset takes anything; a local that is unset meets nothing else.
use borrow.Author.Tests.{eq-eqb, ne_eqb}
use Rattle.definition.specs.Maybe.{◌>>=◌}
use Rattle.definition.specs.Instructions.{pick}
use Rattle.definition.specs.Verifier.{meet_local}
use Rattle.verifier.specs.Types.{local_of}
use Rattle.verifier.specs.Effects.{notes_in}
use Rattle.verifier.proofs.TypeLaws.{local-set}
use Rattle.verifier.proofs.flows.meet_local.Goals as goal

pub returns-then-n-eq0 : goal.returns-then-n-eq0
unfolding meet_local notes_in
returns-then-n-eq0 c = rw (meet_local, eq-eqb _ _ c.if-n-eq0.true)

pub returns-then-t-eq-UNSET : goal.returns-then-t-eq-UNSET
unfolding meet_local notes_in local_of pick ◌>>=◌
returns-then-t-eq-UNSET c = rw (meet_local, ne_eqb _ _ c.if-n-eq0.false, eq-eqb _ _ c.if-t-eq-UNSET.true)

pub returns : goal.returns
unfolding meet_local ◌>>=◌
returns c = rw (meet_local, ne_eqb _ _ c.if-n-eq0.false, local-set _ c.if-t-eq-UNSET.false) c.meet_name.ensures
