-- The first i cells of the order are written, and the digits that are left are those of the rest.
use mathlib.Core.Path.{◌≡◌}
use Prim.Native.Nat.{◌-◌}
use lib.ListN.{length}
use Rattle.definition.specs.Numbers.{offer_limit}
use Rattle.host.specs.Findings.{Writing}
use Rattle.host.proofs.report_order.Given as goal

abbrev pub invariant-loop-i : goal.invariant-loop-i
invariant-loop-i l =
    Writing l.n l.order l.i l.rest l.initial.answer l.answer × (length l.answer ≡ length l.initial.answer)
