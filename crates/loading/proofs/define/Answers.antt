-- What is decided is the call: a refusal writes nothing; a class is added by the counts as they were, and its number is the answer.
use mathlib.Core.Path.{refl, ◌∙◌}
use Prim.Native.Nat.{◌+◌}
use native.Mathlib.Omega.{arith}
use lib.ListN.{length}
use Rattle.definition.specs.Tables.{tables}
use Rattle.definition.specs.Calls.{done, load_define}
use Rattle.entries.proofs.Offers.{offered-whole}
use Rattle.loading.specs.Plans.{load_of, held, Lent, file_of, counts_with, grouped_with, written, Planned}
use Rattle.loading.proofs.Admitted.{planned-new}
use Rattle.loading.proofs.define.Goals as goal

pub admit-admitted-requires : goal.admit-admitted-requires
unfolding Lent
admit-admitted-requires c = (refl, refl)

pub write_class-requires : goal.write_class-requires
unfolding load_of held file_of
write_class-requires c = (planned-new _ (rw c.in-Some.is at c.in-Ok.is) (c.decide_class-plan.ensures c.args.loader c.args.file.now 512 _ _ _ _ c.admit-admitted.ensures)).newly.file

pub overflow_add-number : goal.overflow_add-number
unfolding load_of held
overflow_add-number c = omega (arith, c.at-number.ensures, (planned-new _ (rw c.in-Some.is at c.in-Ok.is) (c.decide_class-plan.ensures c.args.loader c.args.file.now 512 _ _ _ _ c.admit-admitted.ensures)).newly.fits.sized.base.classes_few)

pub overflow_cast-end : goal.overflow_cast-end
unfolding load_of held file_of
overflow_cast-end c = omega (arith, (planned-new _ (rw c.in-Some.is at c.in-Ok.is) (c.decide_class-plan.ensures c.args.loader c.args.file.now 512 _ _ _ _ c.admit-admitted.ensures)).newly.file)

pub overflow_add-end : goal.overflow_add-end
unfolding load_of held file_of
overflow_add-end c = let newly = (planned-new _ (rw c.in-Some.is at c.in-Ok.is) (c.decide_class-plan.ensures c.args.loader c.args.file.now 512 _ _ _ _ c.admit-admitted.ensures)).newly in
    omega (arith, c.at.ensures, newly.file, newly.fits.sized.base.kept_few)

pub enter_class-requires : goal.enter_class-requires
unfolding load_of held
enter_class-requires c = let sized = (planned-new _ (rw c.in-Some.is at c.in-Ok.is) (c.decide_class-plan.ensures c.args.loader c.args.file.now 512 _ _ _ _ c.admit-admitted.ensures)).newly.fits.sized in
    (omega (arith, sized.room), sized.grown)

pub reply_of-requires : goal.reply_of-requires
unfolding load_of held
reply_of-requires c = (planned-new _ (rw c.in-Some.is at c.in-Ok.is) (c.decide_class-plan.ensures c.args.loader c.args.file.now 512 _ _ _ _ c.admit-admitted.ensures)).newly.fits.sized.class

pub returns-in-Err : goal.returns-in-Err
unfolding load_of held Planned
returns-in-Err c = rw c.in-Err.is at (c.decide_class-plan.ensures c.args.loader c.args.file.now 512 _ _ _ _ c.admit-admitted.ensures) ∙ offered-whole (load_define c.args.loader c.args.file.now) (tables c.args.counts.now c.args.classes.now c.args.kept.now c.args.cache.now c.args.ties.now c.args.subtypes.now c.args.objects.now c.args.frames.now)

pub returns-in-None : goal.returns-in-None
unfolding load_of held Planned
returns-in-None c = rw (rw c.in-None.is at c.in-Ok.is) at (c.decide_class-plan.ensures c.args.loader c.args.file.now 512 _ _ _ _ c.admit-admitted.ensures) ∙ offered-whole (load_define c.args.loader c.args.file.now) (tables c.args.counts.now c.args.classes.now c.args.kept.now c.args.cache.now c.args.ties.now c.args.subtypes.now c.args.objects.now c.args.frames.now)

pub shape_of-counts-in-Some : goal.shape_of-counts-in-Some
shape_of-counts-in-Some c = c.enter_class.auto.counts

pub shape_of-classes-in-Some : goal.shape_of-classes-in-Some
shape_of-classes-in-Some c = c.write_class.auto.classes

pub shape_of-kept-in-Some : goal.shape_of-kept-in-Some
shape_of-kept-in-Some c = c.write_class.auto.kept

pub shape_of-cache-in-Some : goal.shape_of-cache-in-Some
shape_of-cache-in-Some c = c.enter_class.auto.cache

pub shape_of-ties-in-Some : goal.shape_of-ties-in-Some
shape_of-ties-in-Some c = c.write_class.auto.ties

pub shape_of-subtypes-in-Some : goal.shape_of-subtypes-in-Some
shape_of-subtypes-in-Some c = c.write_class.auto.subtypes

pub returns-in-Some : goal.returns-in-Some
unfolding load_of held written
returns-in-Some c = let counts = c.args.counts.now in
    let file = c.args.file.now in
    let n = c.in-Some.n in
    let class = c.write_class.ensures in
    (λ i. done (c.reply_of.ensures i) (tables
    ((c.enter_class.ensures.counted ∙ (λ j. grouped_with n counts (class.tied j) (counts_with n (c.at-number.ensures j + 1) (c.at.ensures j + length file) counts))) i)
    (class.row i) (class.bytes i) (c.enter_class.ensures.written i) (class.tied i) (class.noted i)
    c.args.objects.now c.args.frames.now))
    ∙ ((planned-new _ (rw c.in-Some.is at c.in-Ok.is) (c.decide_class-plan.ensures c.args.loader c.args.file.now 512 _ _ _ _ c.admit-admitted.ensures)).whole ∙ offered-whole (load_define c.args.loader c.args.file.now) (tables c.args.counts.now c.args.classes.now c.args.kept.now c.args.cache.now c.args.ties.now c.args.subtypes.now c.args.objects.now c.args.frames.now))
