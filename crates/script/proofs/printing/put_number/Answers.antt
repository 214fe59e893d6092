-- A space, then the digits.
use Rattle.script.specs.Printing.{number-wrote}
use Rattle.script.proofs.printing.put_number.Goals as goal

pub returns : goal.returns
returns c =
    number-wrote _ _ _ _ _ c.put.ensures _ c.put_digits.ensures
