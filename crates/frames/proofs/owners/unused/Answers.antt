-- The lowest row unused from a row on is found.
use Rattle.std.proofs.Math.Path.{◌≡◌, sym}
use Rattle.std.proofs.Common.{◌∙◌}
use Rattle.std.specs.Prelude.{◌≢◌}
use native.Mathlib.Omega.{arith}
use Rattle.definition.specs.Tables.{owner_at}
use Rattle.frames.specs.Unused.{unused_from, ownerless-here, ownerless-on, ownerless-end}
use Rattle.frames.proofs.owners.unused.Goals as goal

pub loop-o-init : goal.loop-o-init
unfolding unused_from
loop-o-init c = (omega arith, rw c.at-n.ensures)

pub returns-then-owner-eq0 : goal.returns-then-owner-eq0
returns-then-owner-eq0 c =
    let l = c.loop-o in
    let e : owner_at c.args.counts.now l.o ≡ 0 =
    rw (← c.from.ensures) (sym c.owner.ensures ∙ c.if-owner-eq0.true) in
    sym (ownerless-here _ _ _ c.loop-o-test.true e) ∙ l.invariant.1

pub loop-o-preserved : goal.loop-o-preserved
loop-o-preserved c =
    let l = c.loop-o in
    let e : owner_at c.args.counts.now l.o ≢ 0 =
    λ z. c.if-owner-eq0.false (c.owner.ensures ∙ rw c.from.ensures z) in
    (omega arith, sym (ownerless-on _ _ _ c.loop-o-test.true e) ∙ l.invariant.1)

pub returns : goal.returns
returns c =
    let l = c.loop-o in
    let e : c.max.result ≡ l.o = omega arith in
    e ∙ (sym (ownerless-end _ _ _ c.loop-o-test.false) ∙ l.invariant.1)
