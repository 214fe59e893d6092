-- What is looked at beside the newcomer.
use mathlib.Core.Path.{◌≡◌, refl, sym, ◌∙◌}
use mathlib.Core.Bool.{Bool, true, false, not, true≢false}
use mathlib.Core.Logic.{⊎_elim}
use native.Mathlib.Omega.{arith}
use borrow.Author.Tests.{eqb-true}
use Rattle.constraints.proofs.Looks.{first-unlinked, first-linked, no_start}
use Rattle.constraints.proofs.looking.look_first.Goals as goal
use Rattle.constraints.proofs.looking.look_first.Goals.{then-noted-eq0-via-then-noted-eq0, then-noted-eq0-via-else-noted-eq0+then-not-is_end, then-at-eq0, else-at-eq0}

not-true : (b : Bool) → not b ≡ true → b ≡ false
not-true false e = refl
not-true true e = absurd (true≢false (sym e))

pub returns-then-noted-eq0 : goal.returns-then-noted-eq0
returns-then-noted-eq0 c =
    let pre = c.requires in
    let place = c.place-group.ensures.0 in
    elim c.then-noted-eq0.branch [
      | then-noted-eq0-via-then-noted-eq0 w ↦ first-unlinked _ _ _ _ _ _ pre.2 pre.3 (λ e h. absurd (omega (arith, w.if-noted-eq0.true))) (λ e h. absurd (omega (arith, w.if-noted-eq0.true))) pre.5 place
      | then-noted-eq0-via-else-noted-eq0+then-not-is_end w ↦ elim w.if-at-eq0.branch [
        | then-at-eq0 v ↦ first-unlinked _ _ _ _ _ _ pre.2 pre.3
            (rw place at (no_start _ _ _ _ pre.4 (omega (arith, place, pre.3.low c.args.a (omega arith))) (sym w.at.ensures ∙ v.if-at-eq0.true)))
            (rw place at (v.is_end.ensures (not-true _ (sym v.value-is ∙ w.if-not-is_end.true)))) pre.5 place
        | else-at-eq0 v ↦ absurd (v.if-at-eq0.false (eqb-true _ _ (sym v.value-is ∙ w.if-not-is_end.true)))
      ]
    ]

pub returns : goal.returns
returns c =
    let pre = c.requires in
    let around = c.look_around in
    let long = ⊎_elim (λ z. absurd (c.if-noted-eq0.false z)) (λ m. m.queue_long) pre.5.full in
    first-linked _ _ _ _ _ _ around.ensures.0 around.ensures.1 around.ensures.2 (around.auto.queue ∙ long)
