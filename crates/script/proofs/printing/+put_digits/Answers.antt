-- The last digit is written after those before it.
use Prim.Native.Nat.{◌+◌, ◌-◌, ◌≤◌}
use native.Mathlib.Omega.{arith}
use Rattle.script.specs.Printing.{digits_last, digits-one, digits_more, digits-end}
use Rattle.script.proofs.printing.+put_digits.Goals as goal

pub returns-then-more-eq0 : goal.returns-then-more-eq0
returns-then-more-eq0 t c = digits_last _ _ _ _ _ c.if-more-eq0.true c.put.ensures

pub returns-then-n-lt10 : goal.returns-then-n-lt10
returns-then-n-lt10 t c = digits-one _ _ _ _ _ c.if-more-eq0.false c.if-n-lt10.true c.put-then-n-lt10.ensures

pub overflow_add-result-2 : goal.overflow_add-result-2
overflow_add-result-2 t c =
    let end : c.put_digits-next.result ≤ c.args.at + (c.args.more - 1 + 1) = digits-end _ _ _ _ _ _ c.put_digits-next.ensures in
    omega (arith, c.requires, c.ranges)

pub returns : goal.returns
returns t c = digits_more _ _ _ _ _ _ _ c.if-more-eq0.false c.if-n-lt10.false c.put_digits-next.ensures c.put-2.ensures
