-- A place is put where 0 is; past the end there is nothing to put.
use mathlib.Core.Path.{sym}
use lib.Seq.{set_out}
use borrow.Author.Tests.{eq-eqb, ne_eqb}
use Rattle.definition.specs.Instructions.{pick}
use Rattle.verifier.proofs.LookupLaws.{pick_same}
use Rattle.verifier.proofs.lookups.put_place.Goals as goal

pub returns-then-places-q-eq0 : goal.returns-then-places-q-eq0
unfolding pick
returns-then-places-q-eq0 c = rw (eq-eqb _ _ c.if-places-q-eq0.true)

pub returns-else-places-q-eq0 : goal.returns-else-places-q-eq0
unfolding pick
returns-else-places-q-eq0 c = rw (ne_eqb _ _ c.if-places-q-eq0.false)

pub returns-else-q-places : goal.returns-else-q-places
returns-else-q-places c = sym (pick_same _ _ _ (set_out _ _ c.args.place c.if-q-places.false))
