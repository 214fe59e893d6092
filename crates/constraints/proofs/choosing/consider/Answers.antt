-- The chain was not found, is longer, is as long and doesn't go before, or is written.
use Prim.Native.Nat.{suc, ◌-◌}
use mathlib.Core.Path.{◌≡◌, sym, ◌∙◌}
use native.Mathlib.Omega.{arith}
use lib.ListN.{get_or}
use Rattle.constraints.proofs.Choices.{considered-none, stays-longer, stays_after, comes-in}
use Rattle.constraints.proofs.choosing.consider.Goals as goal
use Rattle.constraints.proofs.choosing.consider.Goals.{in-Some+else-held-k+else-held-k-2, else-held-k-2-via-then-held-k-2+else-not-goes_before, else-held-k-2-via-else-held-k-2, in_default}

pub returns-then-dist-eq0 : goal.returns-then-dist-eq0
returns-then-dist-eq0 c = (c.requires.0, sym (considered-none _ _ _ _ _ _ (sym c.at-dist.ensures ∙ c.if-dist-eq0.true)))

pub returns-then-held-k : goal.returns-then-held-k
returns-then-held-k c =
    let k = c.at-dist.result - 1 in
    let dist : get_or c.args.dists.now c.args.node 0 ≡ suc k = omega (arith, c.at-dist.ensures, c.if-dist-eq0.false) in
    (rw c.in-Some.is at c.requires.0, rw c.in-Some.is (stays-longer _ _ _ _ _ _ k _ dist c.if-held-k.true))

pub returns-then-not-goes_before : goal.returns-then-not-goes_before
returns-then-not-goes_before c =
    let k = c.at-dist.result - 1 in
    let dist : get_or c.args.dists.now c.args.node 0 ≡ suc k = omega (arith, c.at-dist.ensures, c.if-dist-eq0.false) in
    (rw c.in-Some.is at c.requires.0, rw c.in-Some.is (stays_after _ _ _ _ _ _ k _ dist c.if-held-k-2.true (rw c.from.ensures at (sym c.goes_before.ensures ∙ c.if-not-goes_before.true))))

pub returns : goal.returns
returns c =
    let args = c.args in
    let k = c.at-dist.result - 1 in
    let dist : get_or args.dists.now args.node 0 ≡ suc k = omega (arith, c.at-dist.ensures, c.if-dist-eq0.false) in (
      record { long = c.write_trail.auto.best ∙ c.requires.0.long; fits = omega (arith, c.requires.1) },
      comes-in _ _ _ _ args.best.now _ k dist _ _
          (elim c.match-size.branch [
            | in-Some+else-held-k+else-held-k-2 w ↦ rw w.in-Some.is (
              w.if-held-k.false,
              λ e. elim w.else-held-k-2.branch [
                | else-held-k-2-via-then-held-k-2+else-not-goes_before v ↦ rw v.from.ensures at (sym v.goes_before.ensures ∙ v.if-not-goes_before.false)
                | else-held-k-2-via-else-held-k-2 v ↦ absurd (v.if-held-k-2.false e)
              ],
            )
            | in_default w ↦ rw w.in_default.is tt
          ])
          (rw c.from-2.ensures at c.write_trail.ensures),
    )
