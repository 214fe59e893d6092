-- The tables have what is said of the classes before c. Before class c is tested, those from c on are linked exactly if all are.
use mathlib.Core.Bool.{false≢true}
use mathlib.Core.Path.{◌∙◌, ap, sym}
use native.Mathlib.Omega.{arith}
use lib.ListN.{get_or, length, length-set}
use Rattle.layout.specs.Places.{rows_end, rows-hit, rows_on}
use Rattle.resolution.specs.Quick.{quick_base}
use Rattle.resolution.specs.Slots.{slots-past}
use Rattle.store.proofs.Laws.{blank-length, ended-all, ended-first, ended-more, linked-small, quick-many, row-few, row-there, said-unfit, size-said, sized-first, sized-less, sized-more}
use Rattle.store.specs.Checks.{links_fit}
use Rattle.store.proofs.brokenness.links_fit.Goals as goal

pub loop-c-init : goal.loop-c-init
unfolding links_fit
loop-c-init c = (omega arith, ap length c.put.ensures ∙ simp length-set (blank-length _ c.requires.0), rw c.put.ensures (sized-first _ c.args.sizes.now c.requires.0 c.requires.4), rw c.at-n.ensures, blank-length _ c.requires.1, ended-first _ c.args.ends.now c.requires.1)

pub returns-in_default : goal.returns-in_default
returns-in_default c = (sym (rows-hit _ _ _ _ c.loop-c-test.true (said-unfit _ _ (sym c.linked_size.ensures ∙ c.in_default.is))) ∙ c.loop-c.invariant.3, λ h. absurd (false≢true h))

pub overflow_add-row : goal.overflow_add-row
overflow_add-row c = omega (arith, c.super_row-row.ensures, row-few c.args.base.now.counts.now c.args.base.now.classes.now c.args.base.now.kept.now c.args.base.now.cache.now c.from.result, c.requires.3)

pub loop-c-preserved : goal.loop-c-preserved
loop-c-preserved c =
    let loop = c.loop-c.invariant in
    let said = size-said _ _ _ (sym c.linked_size.ensures ∙ c.in-Some.is) in (
      omega arith,
      ap length c.put-in-loop-c.ensures ∙ simp length-set loop.1,
      rw (c.put-in-loop-c.ensures, c.from-in-loop-c.ensures) (sized-more _ c.loop-c.sizes _ _ loop.2 (omega (arith, loop.1, c.loop-c-test.true, c.at-n.ensures, c.requires.2)) said.1 (linked-small _ _ said.0)),
      sym (rows_on _ _ _ _ c.loop-c-test.true said.0) ∙ loop.3,
      ap length c.put-in-loop-c-2.ensures ∙ simp length-set loop.4,
      rw (c.put-in-loop-c-2.ensures, c.from-in-loop-c-2.ensures)
          (ended-more _ c.loop-c.ends _ _ loop.5 (omega (arith, loop.4, c.loop-c-test.true, c.at-n.ensures, c.requires.2)) (row-there _ _ _ _ _ _ _ _ c.from.ensures c.super_row-row.ensures loop.0 c.at-n.ensures c.loop-c-test.true)),
    )

pub returns : goal.returns
returns c = (sym (rows_end _ _ _ _ c.loop-c-test.false) ∙ c.loop-c.invariant.3, λ _. (sized-less (quick_base c.args.base.now.counts.now c.args.base.now.classes.now c.args.base.now.kept.now c.args.base.now.cache.now) c.loop-c.sizes (get_or c.args.base.now.counts.now 0 0) c.loop-c.c c.loop-c.invariant.2 (omega (arith, c.loop-c-test.false, c.at-n.ensures)) (λ x l. ap length (slots-past c.args.base.now.counts.now c.args.base.now.classes.now c.args.base.now.kept.now c.args.base.now.cache.now x l)), ended-all (quick_base c.args.base.now.counts.now c.args.base.now.classes.now c.args.base.now.kept.now c.args.base.now.cache.now) c.loop-c.ends c.loop-c.c c.loop-c.invariant.5 (omega (arith, quick-many c.args.base.now.counts.now c.args.base.now.classes.now c.args.base.now.kept.now c.args.base.now.cache.now, c.loop-c-test.false, c.at-n.ensures))))
