-- A number up to 65,535 has 16 bits.
use mathlib.Core.Path.{sym}
use native.Mathlib.Omega.{arith}
use Rattle.cells.specs.Optional.{optional-some}
use Rattle.script.specs.Numbers.{up_to-low}
use Rattle.script.proofs.numbers.short_number.Goals as goal

pub overflow_cast-result : goal.overflow_cast-result
overflow_cast-result c = omega (arith, up_to-low 65535 c.args.s.now c.in_ok-n.n (optional-some _ _ (sym c.in_ok-n.ensures)))
