-- The copies hold the store with the newcomer, so the check of them is the definition's.
use mathlib.Core.Path.{◌∙◌}
use Rattle.definition.specs.Constraints.{agrees}
use Rattle.loading.proofs.Copied.{new-names}
use Rattle.loading.proofs.trying.judge.Goals as goal

pub returns : goal.returns
unfolding agrees
returns c =
    let args = c.args in
    let tried = c.try_newcomer.ensures in
    record {
      tried = tried;
      judged = λ nl bl sl g bs f. c.agreed.ensures ∙ (new-names args.base.now.counts.now args.base.now.classes.now args.base.now.kept.now args.base.now.cache.now bs args.n f _ _ _ _ _ _ nl bl sl tried
          args.ties.now args.beside.now args.subtypes.now _ _ _ c.at.ensures c.at-2.ensures g c.check.ensures).exactly;
    }
