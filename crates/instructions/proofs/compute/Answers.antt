-- A sum, a difference, a product and a quotient, by their bits; a divisor 0 is refused.
use Rattle.std.proofs.Common.{arith, ne_eqb}
use Rattle.instructions.specs.Operands.{subtracted}
use Rattle.instructions.specs.Plans.{computed}
use Rattle.definition.specs.Answers.{need, ◌>>=◌}
use Rattle.definition.specs.Machine.{compute}
use Rattle.instructions.proofs.compute.Goals as goal

pub returns-then-y-eq0 : goal.returns-then-y-eq0
unfolding computed compute need ◌>>=◌
returns-then-y-eq0 c = rw (c.refuse.ensures, c.in-Divide.is, c.if-y-eq0.true)

pub returns-in-Add : goal.returns-in-Add
unfolding computed compute
returns-in-Add c = rw (c.int_above.ensures, c.in-Add.is, c.wrapping_add_u32.ensures.value)

pub returns-in-Subtract : goal.returns-in-Subtract
unfolding computed compute
returns-in-Subtract c =
    let args = c.args in
    rw (c.int_above-in-Subtract.ensures, c.in-Subtract.is, subtracted c.wrapping_sub_u32.result args.x args.y (omega arith) (omega arith) (omega arith) c.wrapping_sub_u32.ensures.value)

pub returns-in-Multiply : goal.returns-in-Multiply
unfolding computed compute
returns-in-Multiply c = rw (c.int_above-in-Multiply.ensures, c.in-Multiply.is, c.product.ensures)

pub returns-else-y-eq0 : goal.returns-else-y-eq0
unfolding computed compute need ◌>>=◌
returns-else-y-eq0 c =
    rw (c.int_above-in-Divide.ensures, c.in-Divide.is, ne_eqb _ _ c.if-y-eq0.false, c.quotient.ensures)
