-- The numbers of versions 1, 2 and above begin at 0, 256 and 512.
use native.Mathlib.Omega.{arith}
use Rattle.execution.specs.Opcodes.{numbers-one, numbers-two, numbers_more}
use Rattle.execution.proofs.ahead.first_number.Goals as goal

pub returns-then-version-lt-VERSION_TWO : goal.returns-then-version-lt-VERSION_TWO
returns-then-version-lt-VERSION_TWO c = (omega arith, numbers-one _ c.if-version-lt-VERSION_TWO.true)

pub returns-then-version-lt-VERSION_THREE : goal.returns-then-version-lt-VERSION_THREE
returns-then-version-lt-VERSION_THREE c = (omega arith, numbers-two _ c.if-version-lt-VERSION_TWO.false c.if-version-lt-VERSION_THREE.true)

pub returns-else-version-lt-VERSION_THREE : goal.returns-else-version-lt-VERSION_THREE
returns-else-version-lt-VERSION_THREE c = (omega arith, numbers_more _ c.if-version-lt-VERSION_THREE.false)
