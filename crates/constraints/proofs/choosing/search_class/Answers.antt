-- What the search leaves is considered, and of that the best is kept.
use Prim.Native.Nat.{ℕ}
use lib.ListN.{replicate, length-replicate}
use Rattle.constraints.specs.Walks.{ends_in}
use Rattle.constraints.proofs.Choices.{zeroed, dist-low, chosen-for}
use Rattle.constraints.proofs.choosing.search_class.Goals as goal

pub seed-seeds-requires : goal.seed-seeds-requires
seed-seeds-requires c = (c.requires.0, zeroed, length-replicate {A = ℕ} 1280 0)

pub consider_all-requires : goal.consider_all-requires
consider_all-requires c =
    let args = c.args in
    let ends = ends_in args.only args.aboves.now args.stamp args.classes.now args.cached args.c in
    let r = c.spread.ensures ends (c.seed-seeds.ensures (replicate 1280 0) (length-replicate {A = ℕ} 1280 0)) in
    (c.requires.2, dist-low _ _ _ _ _ c.requires.3 _ _ r.1)

pub returns : goal.returns
returns c =
    let args = c.args in
    let pre = c.requires in
    let consider-all = c.consider_all in
    let ends = ends_in args.only args.aboves.now args.stamp args.classes.now args.cached args.c in
    let r = c.spread.ensures ends (c.seed-seeds.ensures (replicate 1280 0) (length-replicate {A = ℕ} 1280 0)) in
    (consider-all.ensures.0, rw consider-all.ensures.1 (chosen-for _ _ _ _ _ pre.3 _ _ r.1 _ _ c.unwrap_or-limit.ensures _ _ _))
