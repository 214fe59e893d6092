-- The chain that is kept, if there is one, is written into the list.
use mathlib.Core.Path.{sym, ◌∙◌}
use Rattle.constraints.proofs.Finding.{list-unfit, list-none, list-some}
use Rattle.constraints.proofs.reasons.reason.Goals as goal

pub returns-then-not-numbers_fit : goal.returns-then-not-numbers_fit
returns-then-not-numbers_fit c =
    let args = c.args in
    list-unfit args.supers.now args.counts.now args.cache.now args.ties.now args.subtypes.now args.list.now (sym c.numbers_fit.ensures ∙ c.if-not-numbers_fit.true)

pub returns-in_default : goal.returns-in_default
returns-in_default c = list-none c.args.list.now _ (rw c.in_default.is at c.best_chain.ensures.1)

pub returns : goal.returns
returns c = list-some _ c.args.list.now _ _ _ _ (rw c.in-Some.is at c.best_chain.ensures.1) c.from.ensures c.write_list.ensures
