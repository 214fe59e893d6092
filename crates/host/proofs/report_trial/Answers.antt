-- The reply's six cells, of which the last is written over.
use mathlib.Core.Path.{ap, ◌∙◌}
use mathlib.Core.List.{List}
use Prim.Native.Nat.{ℕ}
use lib.ListN.{set}
use Rattle.host.specs.Answers.{counted-cells}
use Rattle.host.proofs.report_trial.Goals as goal

pub shape_of-answer : goal.shape_of-answer
shape_of-answer c = c.put.auto.t ∙ c.report-number.auto.answer

pub returns : goal.returns
returns c =
    (λ list. c.put.ensures ∙ (ap (λ (z : List ℕ). set z 5 c.from.result) c.report-number.ensures.answer ∙ rw c.from.ensures (counted-cells _ _ _ list _)), c.report-number.ensures.number)
