-- The bytes from one place up to place i are at the front.
use mathlib.Core.Path.{◌≡◌}
use Prim.Native.Nat.{◌-◌, ◌≤◌}
use lib.ListN.{length}
use Rattle.lines.specs.Windows.{moved}
use Rattle.lines.proofs.keep_rest.Given as goal

abbrev pub invariant-loop-i : goal.invariant-loop-i
invariant-loop-i l = (l.i - l.from ≤ l.end - l.from) × (l.window ≡ moved l.from l.i l.initial.window) × (l.end ≤ length l.initial.window)
