-- What is decided is the call: a refusal and an entry that is there write nothing; another is written behind the last, and counted.
use mathlib.Core.Path.{◌∙◌}
use native.Mathlib.Omega.{arith}
use Rattle.definition.specs.Tables.{tables}
use Rattle.definition.specs.Calls.{done, load_record}
use Rattle.entries.proofs.Offers.{offered-whole}
use Rattle.loading.specs.Plans.{load_of, held, Lent, counts_with, written, Planned}
use Rattle.loading.proofs.Admitted.{planned-new}
use Rattle.loading.proofs.record.Goals as goal

pub admit-admitted-requires : goal.admit-admitted-requires
unfolding Lent
admit-admitted-requires c = tt

pub enter-requires : goal.enter-requires
unfolding load_of held
enter-requires c = let sized = (planned-new _ (rw c.in-Some.is at c.in-Ok.is) (c.decide_entry-plan.ensures c.args.loader c.args.name c.args.class 512 _ _ _ _ c.admit-admitted.ensures)).newly.fits.sized in
    (omega (arith, sized.room), sized.grown)

pub reply_of-requires : goal.reply_of-requires
unfolding load_of held
reply_of-requires c = (planned-new _ (rw c.in-Some.is at c.in-Ok.is) (c.decide_entry-plan.ensures c.args.loader c.args.name c.args.class 512 _ _ _ _ c.admit-admitted.ensures)).newly.fits.sized.class

pub returns-in-Err : goal.returns-in-Err
unfolding load_of held Planned
returns-in-Err c = rw c.in-Err.is at (c.decide_entry-plan.ensures c.args.loader c.args.name c.args.class 512 _ _ _ _ c.admit-admitted.ensures) ∙ offered-whole (load_record c.args.loader c.args.name c.args.class) (tables c.args.counts.now c.args.classes.now c.args.kept.now c.args.cache.now c.args.ties.now c.args.subtypes.now c.args.objects.now c.args.frames.now)

pub returns-in-None : goal.returns-in-None
unfolding load_of held Planned
returns-in-None c = rw (rw c.in-None.is at c.in-Ok.is) at (c.decide_entry-plan.ensures c.args.loader c.args.name c.args.class 512 _ _ _ _ c.admit-admitted.ensures) ∙ offered-whole (load_record c.args.loader c.args.name c.args.class) (tables c.args.counts.now c.args.classes.now c.args.kept.now c.args.cache.now c.args.ties.now c.args.subtypes.now c.args.objects.now c.args.frames.now)

pub returns-in-Some : goal.returns-in-Some
unfolding load_of held written
returns-in-Some c = let counts = c.args.counts.now in
    let n = c.in-Some.n in
    (λ i. done (c.reply_of.ensures i) (tables
    ((c.enter.ensures.counted ∙ (λ j. counts_with n (c.at-number.ensures j) (c.at-end.ensures j) counts)) i)
    c.args.classes.now c.args.kept.now (c.enter.ensures.written i) c.args.ties.now c.args.subtypes.now c.args.objects.now c.args.frames.now))
    ∙ ((planned-new _ (rw c.in-Some.is at c.in-Ok.is) (c.decide_entry-plan.ensures c.args.loader c.args.name c.args.class 512 _ _ _ _ c.admit-admitted.ensures)).whole ∙ offered-whole (load_record c.args.loader c.args.name c.args.class) (tables c.args.counts.now c.args.classes.now c.args.kept.now c.args.cache.now c.args.ties.now c.args.subtypes.now c.args.objects.now c.args.frames.now))
