-- What is admitted is offered with the list.
use mathlib.Core.Path.{refl}
use Rattle.definition.specs.Tables.{tables}
use Rattle.definition.specs.Calls.{load_define}
use Rattle.loading.specs.Plans.{load_of, held, Lent}
use Rattle.loading.proofs.Admitted.{admitted-ready}
use Rattle.loading.proofs.try_define.Goals as goal

pub admit-admitted-requires : goal.admit-admitted-requires
unfolding Lent
admit-admitted-requires c = (refl, refl)

pub offer_class-requires : goal.offer_class-requires
unfolding load_of held
offer_class-requires c = admitted-ready (load_define c.args.loader c.args.file.now) (tables c.args.counts.now c.args.classes.now c.args.kept.now c.args.cache.now c.args.ties.now c.args.subtypes.now c.args.objects.now c.args.frames.now) _ _ _ _ c.admit-admitted.ensures

pub returns : goal.returns
unfolding load_of held
returns c = c.offer_class.ensures c.args.loader c.args.file.now _ _ _ _ c.admit-admitted.ensures
