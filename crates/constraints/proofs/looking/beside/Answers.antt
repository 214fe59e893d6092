-- By its cases.
use Prim.Native.Nat.{ℕ}
use mathlib.Core.Path.{ap, sym, ◌∙◌}
use Rattle.constraints.specs.Looking.{lead_of}
use Rattle.constraints.proofs.Looks.{lead-other}
use Rattle.constraints.proofs.looking.beside.Goals as goal

pub returns-then-turn-eq1 : goal.returns-then-turn-eq1
unfolding lead_of
returns-then-turn-eq1 c = c.place.ensures.0 ∙ sym (ap (λ (t : ℕ). lead_of t c.args.groups.now c.args.a c.args.b) c.if-turn-eq1.true)

pub returns-else-turn-eq1 : goal.returns-else-turn-eq1
returns-else-turn-eq1 c = lead-other _ _ _ _ c.if-turn-eq1.false
