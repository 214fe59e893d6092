-- Before row o is looked at, those from o on still are to be; no more were freed than rows were passed.
use mathlib.Core.Path.{◌∙◌, ap, sym}
use native.Mathlib.Omega.{arith}
use lib.ListN.{length}
use Rattle.sweeping.proofs.Laws.{free-turn, keep-turn, free-end}
use Rattle.sweeping.proofs.freeing.free_unmarked.Goals as goal

pub loop-o-preserved : goal.loop-o-preserved
loop-o-preserved c =
    elim c.if-is_dead.branch [
      | goal.then-is_dead w ↦ (omega (arith, w.number-is, c.loop-o.invariant.0), rw (w.counts-is, w.number-is, w.put.ensures, w.from.ensures) (free-turn _ _ _ _ _ c.loop-o-test.true (sym c.is_dead.ensures ∙ w.if-is_dead.true)) ∙ c.loop-o.invariant.1, ap length w.counts-is ∙ (w.put.auto.t ∙ c.loop-o.invariant.2))
      | goal.else-is_dead w ↦ (omega (arith, w.number-is, c.loop-o.invariant.0), rw (w.counts-is, w.number-is) (keep-turn _ _ _ _ _ c.loop-o-test.true (sym c.is_dead.ensures ∙ w.if-is_dead.false)) ∙ c.loop-o.invariant.1, ap length w.counts-is ∙ c.loop-o.invariant.2)
    ]

pub returns : goal.returns
returns c = sym (free-end _ _ _ _ _ c.loop-o-test.false) ∙ c.loop-o.invariant.1
