-- A line part by part. Each number has at most ten digits, so that no place is past 46.
use mathlib.Core.Path.{◌∙◌}
use Rattle.script.specs.Printing.{number-end, int-end, line_wrote}
use native.Mathlib.Omega.{arith}
use Rattle.script.proofs.printing.print_line.Goals as goal

pub put_number-b-requires : goal.put_number-b-requires
put_number-b-requires c = omega (arith, number-end _ _ _ _ _ c.put_number-a.ensures)

pub put_number-c-requires : goal.put_number-c-requires
put_number-c-requires c = omega (arith, number-end _ _ _ _ _ c.put_number-a.ensures, number-end _ _ _ _ _ c.put_number-b.ensures)

pub put_int-d-requires : goal.put_int-d-requires
put_int-d-requires c = omega (arith, number-end _ _ _ _ _ c.put_number-a.ensures, number-end _ _ _ _ _ c.put_number-b.ensures, number-end _ _ _ _ _ c.put_number-c.ensures)

pub overflow_add-result : goal.overflow_add-result
overflow_add-result c = omega (arith, number-end _ _ _ _ _ c.put_number-a.ensures, number-end _ _ _ _ _ c.put_number-b.ensures, number-end _ _ _ _ _ c.put_number-c.ensures, int-end _ _ _ _ _ c.put_int-d.ensures)

pub shape_of-out : goal.shape_of-out
shape_of-out c =
    c.put-2.auto.t ∙ (c.put_int-d.auto.out ∙ (c.put_number-c.auto.out ∙ (c.put_number-b.auto.out ∙ (c.put_number-a.auto.out ∙ c.put.auto.t))))

pub returns : goal.returns
returns c =
    line_wrote _ _ _ _ _ _ _ _ _ _ _ _ _ _ _ _ c.put.ensures (rw c.from.ensures at c.put_number-a.ensures)
    c.put_number-b.ensures c.put_number-c.ensures c.put_int-d.ensures c.put-2.ensures
