use mathlib.Core.Path.{◌≡◌, sym, ◌∙◌}
use native.Mathlib.Omega.{arith}
use lib.ListN.{get_or, set}
use borrow.Author.Tests.{eqb-true}
use Rattle.constraints.proofs.Choices.{starts-low, met-none, met-more, swept_none, swept-met, swept-one}
use Rattle.constraints.proofs.Filling.{joined-none}
use Rattle.constraints.proofs.Marking.{stamped-none, stamped-more}
use Rattle.constraints.proofs.Supers.{super-falls}
use Rattle.constraints.proofs.choosing.search_all.Goals as goal
use Rattle.constraints.proofs.choosing.search_all.Goals.{then-not-was_met, else-not-was_met}

pub join-requires : goal.join-requires
join-requires c = (omega arith, c.requires.1.few, starts-low c.requires.1, joined-none _)

pub loop-p-init : goal.loop-p-init
loop-p-init c =
    (c.requires.2, stamped-none 256 0, met-none c.args.classes.now, swept_none _ _ _ _ _ _ _ _ _)

pub loop-p-preserved : goal.loop-p-preserved
loop-p-preserved c =
    let args = c.args in
    let from = c.from in
    let was-met = c.was_met in
    let loop = c.loop-p in
    let class : from.result ≡ get_or args.classes.now loop.p 0 = from.ensures ∙ c.at-class.ensures in
    let met : was-met.new.met ≡ set loop.met (get_or args.classes.now loop.p 0) 1 = rw class at was-met.ensures.1 in
    rw met
    (elim c.if-not-was_met.branch [
      | then-not-was_met w ↦ rw (w.best-is, w.aboves-is, w.kept-is) (
        w.search_class-kept.ensures.0,
        w.mark_above.ensures.stamped,
        met-more args.classes.now loop.p loop.met loop.invariant.2,
        swept-one _ _ _ _ _ _ _ _ _ _ (super-falls args.supers.now) w.mark_above.ensures loop.invariant.3 (rw c.at-class.ensures at w.search_class-kept.ensures.1),
      )
      | else-not-was_met w ↦ rw (w.best-is, w.aboves-is, w.kept-is) (
        loop.invariant.0,
        stamped-more (omega arith) loop.invariant.1,
        met-more args.classes.now loop.p loop.met loop.invariant.2,
        swept-met _ _ _ _ _ _ _ _ loop.met loop.invariant.2 (rw class at (eqb-true (get_or loop.met from.result 0) 1 (sym was-met.ensures.0 ∙ w.if-not-was_met.false))) loop.invariant.3,
      )
    ])
