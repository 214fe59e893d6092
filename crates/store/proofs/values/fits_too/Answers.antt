-- By the kind: an int fits; bits that aren't below the limit of their kind don't; an object has an owner.
use mathlib.Core.Path.{◌∙◌, sym, ap}
use native.Mathlib.Omega.{arith}
use mathlib.Core.Bool.{Bool, ◌&&◌}
use lib.Dec.{eqb}
use Rattle.store.proofs.Laws.{int-fits}
use Rattle.store.proofs.Looked.{and_yes, and_no, past-limit, owned-fits, null-only}
use Rattle.store.proofs.values.fits_too.Goals as goal

pub returns-then-kind-eq-KIND_INT : goal.returns-then-kind-eq-KIND_INT
returns-then-kind-eq-KIND_INT c = and_yes _ _ (int-fits _ _ _ c.if-kind-eq-KIND_INT.true)

pub returns-then-limit_of-bits : goal.returns-then-limit_of-bits
returns-then-limit_of-bits c = and_no (eqb c.args.before 0) _ (past-limit c.args.counts.now c.args.made c.args.kind c.args.bits c.if-kind-eq-KIND_INT.false (omega (arith, c.limit_of.ensures, c.if-limit_of-bits.true)))

pub returns-then-kind-eq-KIND_OBJECT : goal.returns-then-kind-eq-KIND_OBJECT
returns-then-kind-eq-KIND_OBJECT c = c.owned_too.ensures ∙ ap (λ (t : Bool). eqb c.args.before 0 && t) (sym (owned-fits c.args.counts.now c.args.made c.args.kind c.args.bits c.if-kind-eq-KIND_INT.false c.if-kind-eq-KIND_OBJECT.true (omega (arith, c.limit_of.ensures, c.if-limit_of-bits.false))))

pub returns : goal.returns
returns c = and_yes _ _ (null-only c.args.counts.now c.args.made c.args.kind c.args.bits c.if-kind-eq-KIND_INT.false c.if-kind-eq-KIND_OBJECT.false (omega (arith, c.limit_of.ensures, c.if-limit_of-bits.false)))
