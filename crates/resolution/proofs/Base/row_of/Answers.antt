-- The row in which a request stands first.
use Rattle.std.proofs.Math.Path.{sym}
use Rattle.std.proofs.Common.{◌∙◌}
use native.Mathlib.Omega.{arith}
use Rattle.resolution.specs.Quick.{quick_base}
use Rattle.resolution.specs.Cached.{row_here, row-later, row-nowhere, row-start}
use Rattle.resolution.proofs.Base.row_of.Goals as goal

pub loop-i-init : goal.loop-i-init
unfolding quick_base
loop-i-init c = rw c.at-n.ensures (row-start _ _ _)

pub returns-then-is_entry : goal.returns-then-is_entry
returns-then-is_entry c = row_here _ _ _ _ _ c.loop-i.invariant c.loop-i-test.true (sym c.is_entry.ensures ∙ c.if-is_entry.true)

pub loop-i-preserved : goal.loop-i-preserved
loop-i-preserved c = row-later _ _ _ _ _ c.loop-i.invariant c.loop-i-test.true (sym c.is_entry.ensures ∙ c.if-is_entry.false)

pub returns : goal.returns
returns c = row-nowhere _ _ _ _ _ c.loop-i.invariant c.loop-i-test.false (omega arith)
