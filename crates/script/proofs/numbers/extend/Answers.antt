-- A byte that is a digit, and a number that stays at most `most`.
use native.Mathlib.Omega.{arith}
use Rattle.script.specs.Numbers.{extended-under, extended-above, extended-past, extended-is}
use Rattle.script.proofs.numbers.extend.Goals as goal

pub returns-then-digit-lt48 : goal.returns-then-digit-lt48
returns-then-digit-lt48 c = rw (extended-under _ _ _ c.if-digit-lt48.true)

pub returns-then-digit-gt57 : goal.returns-then-digit-gt57
returns-then-digit-gt57 c = rw (extended-above _ _ _ c.if-digit-lt48.false c.if-digit-gt57.true)

pub returns-then-from-next : goal.returns-then-from-next
returns-then-from-next c =
    rw (extended-past c.args.most c.args.n c.args.digit c.if-digit-lt48.false c.if-digit-gt57.false (omega (arith, c.if-from-next.true)))

pub returns : goal.returns
returns c =
    rw (extended-is c.args.most c.args.n c.args.digit c.if-digit-lt48.false c.if-digit-gt57.false (omega (arith, c.if-from-next.false)), c.from.ensures, c.from-2.ensures)
