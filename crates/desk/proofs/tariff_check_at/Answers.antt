-- Three cells, one after another.
use mathlib.Core.Path.{ap}
use Rattle.definition.specs.Places as told
use Rattle.desk.specs.Answers.{verdict_of}
use Rattle.desk.proofs.SameLaws.{cells_told}
use Rattle.desk.proofs.tariff_check_at.Goals as goal

pub returns : goal.returns
unfolding verdict_of
returns c = (
  rw (c.put-3.ensures, c.put-2.ensures, c.from-2.ensures, c.put.ensures, c.from.ensures) (cells_told _ _ c.judge-v.ensures _),
  ap (λ (w : told.Verdict). w.number) c.judge-v.ensures,
)
