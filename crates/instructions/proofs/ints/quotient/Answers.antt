-- Each way divides magnitudes, by the two signs; the divisor's isn't 0.
use Rattle.std.proofs.Common.{◌≡◌, ℕ, ◌-◌, ◌%◌, ◌<◌, ◌≤◌, sym, arith}
use Rattle.laws.specs.Ints.{quotient-low-low, quotient-low-high, quotient-high-low, quotient-high-high}
use Rattle.instructions.specs.Operands.{positive}
use Rattle.instructions.proofs.ints.quotient.Goals as goal

-- a negative int's magnitude
magnitude : (n r : ℕ) → n < 4294967296 → 2147483648 ≤ n → r ≡ (4294967296 - n) % 4294967296 → r ≡ 4294967296 - n
magnitude n r h l e = omega arith

pub nonzero_div-result : goal.nonzero_div-result
nonzero_div-result c = positive _ c.requires

pub returns-then-y-lt-SIGN_BIT : goal.returns-then-y-lt-SIGN_BIT
returns-then-y-lt-SIGN_BIT c =
    let x = c.args.x in
    let y = c.args.y in
    sym (quotient-low-low x y (omega arith) (omega arith) c.if-x-lt-SIGN_BIT.true c.if-y-lt-SIGN_BIT.true)

pub nonzero_div-x : goal.nonzero_div-x
nonzero_div-x c =
    let y = c.args.y in
    let e = magnitude y c.minus.result (omega arith) c.if-y-lt-SIGN_BIT.false c.minus.ensures in
    omega (arith, e)

pub returns-then-x-lt-SIGN_BIT : goal.returns-then-x-lt-SIGN_BIT
returns-then-x-lt-SIGN_BIT c =
    let x = c.args.x in
    let y = c.args.y in
    let l = c.if-y-lt-SIGN_BIT.false in
    rw (c.minus-then-x-lt-SIGN_BIT.ensures, magnitude y c.minus.result (omega arith) l c.minus.ensures)
    (sym (quotient-low-high x y (omega arith) (omega arith) c.if-x-lt-SIGN_BIT.true l))

pub nonzero_div-minus : goal.nonzero_div-minus
nonzero_div-minus c = positive _ c.requires

pub returns-then-y-lt-SIGN_BIT-2 : goal.returns-then-y-lt-SIGN_BIT-2
returns-then-y-lt-SIGN_BIT-2 c =
    let x = c.args.x in
    let y = c.args.y in
    let l = c.if-x-lt-SIGN_BIT.false in
    rw (c.minus-then-y-lt-SIGN_BIT-2-2.ensures, magnitude x c.minus-then-y-lt-SIGN_BIT-2.result (omega arith) l c.minus-then-y-lt-SIGN_BIT-2.ensures)
    (sym (quotient-high-low x y (omega arith) (omega arith) l c.if-y-lt-SIGN_BIT-2.true))

pub nonzero_div-result-2 : goal.nonzero_div-result-2
nonzero_div-result-2 c =
    let y = c.args.y in
    let e = magnitude y c.minus-3.result (omega arith) c.if-y-lt-SIGN_BIT-2.false c.minus-3.ensures in
    omega (arith, e)

pub returns : goal.returns
returns c =
    let x = c.args.x in
    let y = c.args.y in
    let l = c.if-x-lt-SIGN_BIT.false in
    let m = c.if-y-lt-SIGN_BIT-2.false in
    rw (
      magnitude x c.minus-2.result (omega arith) l c.minus-2.ensures,
      magnitude y c.minus-3.result (omega arith) m c.minus-3.ensures,
    )
    (sym (quotient-high-high x y (omega arith) (omega arith) l m))
