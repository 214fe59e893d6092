-- A walk upward.
use Prim.Native.Nat.{◌<◌}
use Rattle.std.proofs.Math.Path.{ap, sym}
use Rattle.std.proofs.Math.ListN.{length}
use native.Mathlib.Nat.{zero-add}
use native.Mathlib.Omega.{arith}
use Rattle.cells.specs.Optional.{optional-none, optional-some}
use Rattle.laws.specs.Agreement.{super-falls}
use Rattle.resolution.proofs.Laws.{count-last, count-up}
use Rattle.resolution.specs.Slots.{slots-past}
use Rattle.resolution.proofs.Base.size_of.Goals as goal

pub returns-then-from-c : goal.returns-then-from-c
returns-then-from-c c = (ap length (sym (slots-past _ _ _ _ _ (omega arith))), omega arith)

pub loop-p-init : goal.loop-p-init
loop-p-init c = (omega arith, omega arith, zero-add _, omega arith)

pub returns-in_default : goal.returns-in_default
returns-in_default c = (count-last _ _ _ _ _ _ _ _ c.own_size-total.ensures.0 (optional-none _ (sym c.in_default.ensures)) c.loop-p.invariant.2, omega (arith, c.own_size-total.ensures.1, c.loop-p.invariant))

pub loop-p-smaller : goal.loop-p-smaller
loop-p-smaller c = super-falls _ _ _ (optional-some _ _ (sym c.in-Some.ensures))

pub loop-p-preserved : goal.loop-p-preserved
loop-p-preserved c =
    let l : c.in-Some.p < c.loop-p.at = super-falls _ _ _ (optional-some _ _ (sym c.in-Some.ensures)) in
    (omega (arith, c.loop-p.invariant.0, l), omega (arith, c.loop-p.invariant.0, c.loop-p.invariant.1, c.own_size-total.ensures.1, l), count-up _ _ _ _ _ _ _ _ c.own_size-total.ensures.0 _ (optional-some _ _ (sym c.in-Some.ensures)) c.loop-p.invariant.2, c.loop-p.invariant.3)
