-- A free row is no object's.
use native.Mathlib.Omega.{arith}
use lib.Dec.{eqb}
use borrow.Author.Tests.{lt-ltb, le-ltb}
use Rattle.definition.specs.Tables.{owner_at}
use Rattle.store.proofs.Looked.{and_yes, and_no}
use Rattle.store.proofs.values.owned_too.Goals as goal

pub returns-then-at-eq0 : goal.returns-then-at-eq0
unfolding owner_at
returns-then-at-eq0 c = rw (← c.at.ensures) (and_no (eqb c.args.before 0) _ (le-ltb 0 c.at.result (omega (arith, c.if-at-eq0.true))))

pub returns : goal.returns
unfolding owner_at
returns c = rw (← c.at.ensures) (and_yes _ _ (lt-ltb 0 c.at.result (omega (arith, c.if-at-eq0.false))))
