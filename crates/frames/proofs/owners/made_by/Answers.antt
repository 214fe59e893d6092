-- The rows that the table holds are counted.
use Rattle.std.proofs.Math.Path.{◌≡◌}
use Rattle.std.proofs.Common.{ap, ◌∙◌}
use Prim.Native.Nat.{ℕ, suc, ◌+◌}
use native.Mathlib.Omega.{arith}
use Rattle.definition.specs.Tables.{owner_at}
use Rattle.frames.specs.Made.{owned_in, owned-one, owned-other, owned-end, held-made}
use Rattle.frames.proofs.owners.made_by.Goals as goal

pub loop-o-preserved : goal.loop-o-preserved
unfolding owner_at
loop-o-preserved c =
    let l = c.loop-o in
    elim c.if-counts-o.branch [
      | goal.then-counts-o w ↦ let s = owned-one _ _ c.held-held.result l.o (omega arith) w.if-counts-o.true in (omega arith, omega (arith, s))
      | goal.else-counts-o w ↦ let s = owned-other _ _ c.held-held.result l.o (omega arith) w.if-counts-o.false in (omega arith, omega (arith, s))
    ]

pub returns : goal.returns
returns c =
    let l = c.loop-o in
    let a = c.args in
    let N = a.counts.now in
    let n = c.held-held.result in
    let w = c.from-own.result + 1 in
    let e : w ≡ suc a.task = omega (arith, c.from-own.ensures) in
    let z : l.made ≡ owned_in N w n 0 = omega (arith, owned-end N w n l.o c.loop-o-test.false, l.invariant.1) in
    z ∙ (ap (λ (x : ℕ). owned_in N x n 0) e ∙ held-made N a.task n (rw (c.from-rows.ensures ∙ c.at.ensures) at c.held-held.ensures))
