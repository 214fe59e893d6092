use mathlib.Core.Path.{sym, ◌∙◌}
use Rattle.constraints.proofs.Choices.{left_here, left-past, left-none}
use Rattle.constraints.proofs.choosing.consider_all.Goals as goal
use Rattle.constraints.proofs.choosing.consider_all.Goals.{then-at-c, else-at-c}

pub loop-q-preserved : goal.loop-q-preserved
loop-q-preserved c =
    let loop = c.loop-q in
    let test = c.loop-q-test in
    elim c.if-at-c.branch [
      | then-at-c w ↦ rw (w.best-is, w.kept-is)
          (w.consider-kept.ensures.0, rw w.consider-kept.ensures.1 (sym (left_here _ _ _ _ _ _ _ _ _ test.true (sym c.at.ensures ∙ w.if-at-c.true)) ∙ loop.invariant.1))
      | else-at-c w ↦ rw (w.best-is, w.kept-is)
          (loop.invariant.0, sym (left-past _ _ _ _ _ _ _ _ _ test.true (λ e. w.if-at-c.false (c.at.ensures ∙ e))) ∙ loop.invariant.1)
    ]

pub returns : goal.returns
returns c = (c.loop-q.invariant.0, sym (left-none _ _ _ _ _ _ _ _ _ c.loop-q-test.false) ∙ c.loop-q.invariant.1)
