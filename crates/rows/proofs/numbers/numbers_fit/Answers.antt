use Rattle.std.proofs.Common.{refl, sym, ◌∙◌, arith}
use Rattle.definition.specs.Numbers.{tie_numbers_cell, subtype_numbers_cell}
use Rattle.definition.specs.Tables.{number_at}
use Rattle.rows.proofs.Turns.{next-is, next-there, turn-start, turn-tie, turn-subtype, turn-neither, turn-end}
use Rattle.rows.proofs.numbers.numbers_fit.Goals as goal
use Rattle.rows.proofs.numbers.numbers_fit.Goals.{then-eq, else-eq+then-eq-2}

pub loop-k-init : goal.loop-k-init
loop-k-init c = (refl, omega arith, omega arith, turn-start _ _ _ _ (c.from-ties.ensures ∙ c.at.ensures) (c.from-subtypes.ensures ∙ c.at-2.ensures) refl)

pub returns-else-eq-2 : goal.returns-else-eq-2
returns-else-eq-2 c =
    sym (turn-neither _ _ _ _ _ _ _ _ c.loop-k-test.true
    (next-is _ _ _ _ c.number_at.ensures (sym c.eq.ensures ∙ c.if-eq.false))
    (next-is _ _ _ _ c.number_at-else-eq.ensures (sym c.eq-else-eq.ensures ∙ c.if-eq-2.false)))
    ∙ c.loop-k.invariant.3

pub loop-k-preserved : goal.loop-k-preserved
loop-k-preserved c =
    let i = c.loop-k.invariant in
    elim c.if-eq.branch [
      | then-eq w ↦
          let e = next-is _ _ _ _ c.number_at.ensures (sym c.eq.ensures ∙ w.if-eq.true) in
          let l = next-there _ (number_at tie_numbers_cell _) _ _ e in
          rw (w.t-is, w.s-is) (omega arith, omega (arith, l), i.2, sym (turn-tie _ _ _ _ _ _ _ _ c.loop-k-test.true e) ∙ i.3)
      | else-eq+then-eq-2 w ↦
          let e = next-is _ _ _ _ w.number_at-else-eq.ensures (sym w.eq-else-eq.ensures ∙ w.if-eq-2.true) in
          let l = next-there _ (number_at subtype_numbers_cell _) _ _ e in
          rw (w.t-is, w.s-is)
          (omega arith, i.1, omega (arith, l), sym (turn-subtype _ _ _ _ _ _ _ _ c.loop-k-test.true (next-is _ _ _ _ c.number_at.ensures (sym c.eq.ensures ∙ w.if-eq.false)) e) ∙ i.3)
    ]

pub returns : goal.returns
returns c = sym (turn-end _ _ _ _ (omega arith)) ∙ c.loop-k.invariant.3
