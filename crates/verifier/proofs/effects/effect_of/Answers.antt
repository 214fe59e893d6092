-- Each instruction is decided by its own function.
use Rattle.definition.specs.Verifier.{return_kind}
use Rattle.verifier.specs.Effects.{outcome}
use Rattle.verifier.proofs.EffectLaws.{pushed-null, pushed-int}
use Rattle.verifier.proofs.effects.effect_of.Goals as goal

pub returns-in-AconstNull : goal.returns-in-AconstNull
returns-in-AconstNull c = rw (c.in-AconstNull.is, c.push.ensures) (unfold outcome return_kind in (pushed-null c.args.types))

pub returns-in-Sipush : goal.returns-in-Sipush
returns-in-Sipush c = rw (c.in-Sipush.is, c.push-in-Sipush.ensures) (unfold outcome return_kind in (pushed-int c.args.types _))

pub returns-in-Load : goal.returns-in-Load
returns-in-Load c = rw c.in-Load.is (unfold outcome return_kind in c.load.ensures)

pub returns-in-Store : goal.returns-in-Store
returns-in-Store c = rw c.in-Store.is (unfold outcome return_kind in c.store.ensures)

pub returns-in-Pop : goal.returns-in-Pop
returns-in-Pop c = rw c.in-Pop.is (unfold outcome return_kind in c.drop.ensures)

pub returns-in-Dup : goal.returns-in-Dup
returns-in-Dup c = rw c.in-Dup.is (unfold outcome return_kind in c.dup.ensures)

pub returns-in-Arithmetic : goal.returns-in-Arithmetic
returns-in-Arithmetic c = rw c.in-Arithmetic.is (unfold outcome return_kind in (c.arithmetic.ensures _))

pub returns-in-Getfield : goal.returns-in-Getfield
returns-in-Getfield c = rw c.in-Getfield.is (unfold outcome return_kind in c.getfield.ensures)

pub returns-in-Putfield : goal.returns-in-Putfield
returns-in-Putfield c = rw c.in-Putfield.is (unfold outcome return_kind in c.putfield.ensures)

pub returns-in-Invokevirtual : goal.returns-in-Invokevirtual
returns-in-Invokevirtual c = rw c.in-Invokevirtual.is (unfold outcome return_kind in c.invokevirtual.ensures)

pub returns-in-New : goal.returns-in-New
returns-in-New c = rw c.in-New.is (unfold outcome return_kind in c.new.ensures)

pub returns-in-Return : goal.returns-in-Return
returns-in-Return c = rw c.in-Return.is (unfold outcome return_kind in c.give_back.ensures)

pub returns-in-Branch : goal.returns-in-Branch
returns-in-Branch c = rw c.in-Branch.is (unfold outcome return_kind in (c.branch-types.ensures _))
