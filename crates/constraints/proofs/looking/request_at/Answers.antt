-- By its cases.
use Prim.Native.Nat.{ℕ, suc, ◌-◌}
use mathlib.Core.Path.{◌≡◌, ap, sym}
use native.Mathlib.Omega.{arith}
use Rattle.constraints.specs.Looking.{request_at}
use Rattle.constraints.proofs.looking.request_at.Goals as goal

pub returns-then-turn-eq0 : goal.returns-then-turn-eq0
unfolding request_at
returns-then-turn-eq0 c = sym (ap (λ (t : ℕ). request_at t c.args.newcomer) c.if-turn-eq0.true)

pub returns-then-turn-eq1 : goal.returns-then-turn-eq1
unfolding request_at
returns-then-turn-eq1 c = sym (ap (λ (t : ℕ). request_at t c.args.newcomer) c.if-turn-eq1.true)

pub returns : goal.returns
unfolding request_at
returns c =
    let turn = c.args.turn in
    let two : turn ≡ suc (suc (turn - 2)) = omega (arith, c.if-turn-eq0.false, c.if-turn-eq1.false) in sym (ap (λ (t : ℕ). request_at t c.args.newcomer) two)
