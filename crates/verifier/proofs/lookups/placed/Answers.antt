-- A place that is 0 is none.
use borrow.Author.Tests.{eq-eqb, ne_eqb}
use Rattle.definition.specs.Instructions.{pick}
use Rattle.verifier.specs.Lookups.{map_there, map_found}
use Rattle.verifier.proofs.lookups.placed.Goals as goal

pub returns-then-place-eq0 : goal.returns-then-place-eq0
unfolding map_found map_there pick
returns-then-place-eq0 c ms = rw (eq-eqb _ _ c.if-place-eq0.true)

pub returns-else-place-eq0 : goal.returns-else-place-eq0
unfolding map_found map_there pick
returns-else-place-eq0 c ms = rw (ne_eqb _ _ c.if-place-eq0.false)
