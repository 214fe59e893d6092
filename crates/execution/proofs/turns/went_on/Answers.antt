-- An answer's variant says whether the step went on.
use Rattle.std.specs.Prelude.{◌≡◌, ℕ, false, refl}
use Rattle.std.proofs.Common.{rules}
use Rattle.definition.specs.declared.Answer.{Answer}
use Rattle.definition.specs.declared.Answer.TheVariants.{Idle, Ran, Finished, Refused}
use Rattle.execution.specs.Carried.{went_on}
use Rattle.execution.proofs.turns.went_on.Goals as goal

others : (a : Answer) → ((x : ℕ) → a ≡ Ran x → ⊥) → ((x y : ℕ) → a ≡ Finished x y → ⊥) → false ≡ went_on a
unfolding went_on
others Idle h k = refl
others (Ran x) h k = absurd (h x refl)
others (Finished x y) h k = absurd (k x y refl)
others (Refused r) h k = refl

pub returns-in-Ran : goal.returns-in-Ran
unfolding went_on
returns-in-Ran c = search rules

pub returns-in_default : goal.returns-in_default
returns-in_default c = others _ c.in_default.not-Ran c.in_default.not-Finished
