-- No load, or levels that fall and leave what ends before their counts.
use mathlib.Core.Path.{sym, ◌∙◌}
use Rattle.classfile.specs.Lists.{every-fails, every_first, every-last}
use Rattle.store.specs.Tracing.{quick-none, trace_quick}
use Rattle.store.proofs.trace.trace_fits.Goals as goal

pub returns-then-loads-eq0 : goal.returns-then-loads-eq0
returns-then-loads-eq0 c = sym (quick-none _ _ _ _ _ _ (sym c.at-loads.ensures ∙ c.if-loads-eq0.true))

pub returns-then-not-levels_fall : goal.returns-then-not-levels_fall
unfolding trace_quick
returns-then-not-levels_fall c = rw (← c.at-loads.ensures) (sym (every-fails _ _ (sym c.levels_fall.ensures ∙ c.if-not-levels_fall.true)))

pub levels_leave-requires : goal.levels_leave-requires
levels_leave-requires c = sym c.levels_fall.ensures ∙ c.if-not-levels_fall.false

pub returns : goal.returns
unfolding trace_quick
returns c = rw (c.levels_leave.ensures, c.held_end-held.ensures, ← c.at-loads.ensures) (sym (every_first _ _ (sym c.levels_fall.ensures ∙ c.if-not-levels_fall.false) ∙ every-last _))
