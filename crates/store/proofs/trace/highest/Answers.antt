-- At place i the closure answers what the definition says.
use mathlib.Core.Path.{sym, ◌∙◌}
use native.Mathlib.Omega.{arith}
use Rattle.store.specs.Tracing.{highest-end, highest-step}
use Rattle.store.proofs.trace.highest.Goals as goal

pub loop-i-preserved : goal.loop-i-preserved
loop-i-preserved g c = (
  c.loop-i.invariant.0,
  λ f h.
      let here = h c.loop-i.i c.end.result (omega (arith, c.ranges.to.fits)) c.end.ensures in
      rw (c.max-greatest.ensures, here) (sym (highest-step f _ _ _ c.loop-i-test.true) ∙ c.loop-i.invariant.1 f h),
)

pub returns : goal.returns
returns g c = λ f h. sym (highest-end _ _ _ _ c.loop-i-test.false) ∙ c.loop-i.invariant.1 f h
