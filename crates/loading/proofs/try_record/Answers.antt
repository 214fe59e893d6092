-- What is admitted is offered with the list.
use Rattle.definition.specs.Tables.{tables}
use Rattle.definition.specs.Calls.{load_record}
use Rattle.loading.specs.Plans.{load_of, held, Lent}
use Rattle.loading.proofs.Admitted.{admitted-ready}
use Rattle.loading.proofs.try_record.Goals as goal

pub admit-admitted-requires : goal.admit-admitted-requires
unfolding Lent
admit-admitted-requires c = tt

pub offer_entry-requires : goal.offer_entry-requires
unfolding load_of held
offer_entry-requires c = admitted-ready (load_record c.args.loader c.args.name c.args.class) (tables c.args.counts.now c.args.classes.now c.args.kept.now c.args.cache.now c.args.ties.now c.args.subtypes.now c.args.objects.now c.args.frames.now) _ _ _ _ c.admit-admitted.ensures

pub returns : goal.returns
unfolding load_of held
returns c = c.offer_entry.ensures c.args.loader c.args.name c.args.class _ _ _ _ c.admit-admitted.ensures
