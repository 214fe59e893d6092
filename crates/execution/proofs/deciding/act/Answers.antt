-- Each instruction is decided as the machine does: an arm hands on what the function of its instruction ensures.
use Rattle.std.proofs.Common.{refl, ◌∙◌}
use Rattle.execution.specs.Decisions.{acted-frame, acted-return, acted-make, acted-access, narrow, frames-room}
use Rattle.execution.proofs.deciding.act.Goals as goal

pub settle_access-requires : goal.settle_access-requires
settle_access-requires c =
    (c.requires.0.counts, c.requires.0.ties, c.requires.0.between, c.requires.3, narrow _ _ _ _ _ c.requires.0 _ _ _ _ _ _ _ _ _ c.getfield.ensures)

pub settle_access-requires-in-Putfield : goal.settle_access-requires-in-Putfield
settle_access-requires-in-Putfield c =
    (c.requires.0.counts, c.requires.0.ties, c.requires.0.between, c.requires.3, narrow _ _ _ _ _ c.requires.0 _ _ _ _ _ _ _ _ _ c.putfield.ensures)

pub settle_access-requires-in-Invokevirtual : goal.settle_access-requires-in-Invokevirtual
settle_access-requires-in-Invokevirtual c =
    (c.requires.0.counts, c.requires.0.ties, c.requires.0.between, c.requires.3, narrow _ _ _ _ _ c.requires.0 _ _ _ _ _ _ _ _ _ c.invokevirtual.ensures)

pub returns-in-AconstNull : goal.returns-in-AconstNull
returns-in-AconstNull c =
    rw (c.plain.ensures.0, c.plain.ensures.1, c.in-AconstNull.is) (acted-frame _ _ _ _ _ _ _ _ _ _ _ _ _ _ _ c.requires.0.counts.ties (c.aconst_null.ensures c.args.frames.now c.args.top.base))

pub returns-in-Sipush : goal.returns-in-Sipush
returns-in-Sipush c =
    rw (c.plain-in-Sipush.ensures.0, c.plain-in-Sipush.ensures.1, c.in-Sipush.is) (acted-frame _ _ _ _ _ _ _ _ _ _ _ _ _ _ _ c.requires.0.counts.ties (c.sipush.ensures c.args.frames.now c.args.top.base))

pub returns-in-Load : goal.returns-in-Load
returns-in-Load c = rw (c.plain-in-Load.ensures.0, c.plain-in-Load.ensures.1, c.in-Load.is) (acted-frame _ _ _ _ _ _ _ _ _ _ _ _ _ _ _ c.requires.0.counts.ties c.load.ensures)

pub returns-in-Store : goal.returns-in-Store
returns-in-Store c = rw (c.plain-in-Store.ensures.0, c.plain-in-Store.ensures.1, c.in-Store.is) (acted-frame _ _ _ _ _ _ _ _ _ _ _ _ _ _ _ c.requires.0.counts.ties c.store.ensures)

pub returns-in-Pop : goal.returns-in-Pop
returns-in-Pop c =
    rw (c.plain-in-Pop.ensures.0, c.plain-in-Pop.ensures.1, c.in-Pop.is) (acted-frame _ _ _ _ _ _ _ _ _ _ _ _ _ _ _ c.requires.0.counts.ties (c.pop.ensures c.args.frames.now c.args.top.base))

pub returns-in-Dup : goal.returns-in-Dup
returns-in-Dup c = rw (c.plain-in-Dup.ensures.0, c.plain-in-Dup.ensures.1, c.in-Dup.is) (acted-frame _ _ _ _ _ _ _ _ _ _ _ _ _ _ _ c.requires.0.counts.ties c.dup.ensures)

pub returns-in-Arithmetic : goal.returns-in-Arithmetic
returns-in-Arithmetic c = rw (c.plain-in-Arithmetic.ensures.0, c.plain-in-Arithmetic.ensures.1, c.in-Arithmetic.is) (acted-frame _ _ _ _ _ _ _ _ _ _ _ _ _ _ _ c.requires.0.counts.ties c.arithmetic.ensures)

pub returns-in-Getfield : goal.returns-in-Getfield
returns-in-Getfield c = rw c.in-Getfield.is (acted-access _ _ _ _ _ _ _ _ _ _ _ _ _ _ _ _ _ _ _ _ c.requires.0.counts.ties c.getfield.ensures refl c.settle_access.ensures)

pub returns-in-Putfield : goal.returns-in-Putfield
returns-in-Putfield c = rw c.in-Putfield.is (acted-access _ _ _ _ _ _ _ _ _ _ _ _ _ _ _ _ _ _ _ _ c.requires.0.counts.ties c.putfield.ensures refl c.settle_access-in-Putfield.ensures)

pub returns-in-Invokevirtual : goal.returns-in-Invokevirtual
returns-in-Invokevirtual c =
    rw c.in-Invokevirtual.is (acted-access _ _ _ _ _ _ _ _ _ _ _ _ _ _ _ _ _ _ _ _ c.requires.0.counts.ties c.invokevirtual.ensures (frames-room c.args.frames.now c.args.top.task c.args.top.row) c.settle_access-in-Invokevirtual.ensures)

pub returns-in-New : goal.returns-in-New
returns-in-New c =
    rw (c.plain-in-New.ensures.0, c.plain-in-New.ensures.1, c.in-New.is) (acted-make _ _ _ _ _ _ _ _ _ _ _ _ _ _ _ c.requires.0.counts.ties _ _ _ refl (c.unused.ensures ∙ c.requires.2.0, c.requires.2.1) c.new_object.ensures (λ e. c.requires.0.sizes _ e))

pub returns-in-Return : goal.returns-in-Return
returns-in-Return c = rw (c.plain-in-Return.ensures.0, c.plain-in-Return.ensures.1, c.in-Return.is) (acted-return _ _ _ _ _ _ _ _ _ _ _ _ _ _ _ c.requires.0.counts.ties c.give_back.ensures)

pub returns-in-Branch : goal.returns-in-Branch
returns-in-Branch c = rw (c.plain-in-Branch.ensures.0, c.plain-in-Branch.ensures.1, c.in-Branch.is) (acted-frame _ _ _ _ _ _ _ _ _ _ _ _ _ _ _ c.requires.0.counts.ties c.branch-frames.ensures)
