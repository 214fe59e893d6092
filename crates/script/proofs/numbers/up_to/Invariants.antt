-- The number so far is at most `most`, and with the digits that are left it is the whole number.
use mathlib.Core.Path.{◌≡◌}
use Prim.Native.Nat.{◌≤◌}
use lib.ListN.{drop}
use Rattle.definition.specs.Script.{up_to}
use Rattle.script.specs.Numbers.{bounded}
use Rattle.script.proofs.numbers.up_to.Given as goal

abbrev pub invariant-loop-digit : goal.invariant-loop-digit
invariant-loop-digit l = (l.n ≤ l.most) × (bounded l.most l.n (drop l.digit-index l.s) ≡ up_to l.most l.s)
