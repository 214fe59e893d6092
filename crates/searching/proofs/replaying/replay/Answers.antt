-- The loop: k loads are made, and those that are left lead from here to where all of them lead from the beginning.
use native.Mathlib.Omega.{arith}
use mathlib.Core.Path.{refl, ◌∙◌}
use Rattle.searching.proofs.Replays.{replay-more, replay-end}
use Rattle.searching.proofs.replaying.replay.Goals as goal

pub loop-k-preserved : goal.loop-k-preserved
loop-k-preserved c = (omega (arith, c.loop-k-test.true), replay-more _ _ _ _ _ _ _ _ _ refl c.load_one.ensures c.loop-k-test.true ∙ c.loop-k.invariant.1, c.load_one.auto.counts ∙ c.loop-k.invariant.2, c.load_one.auto.classes ∙ c.loop-k.invariant.3, c.load_one.auto.kept ∙ c.loop-k.invariant.4, c.load_one.auto.cache ∙ c.loop-k.invariant.5, c.load_one.auto.ties ∙ c.loop-k.invariant.6, c.load_one.auto.subtypes ∙ c.loop-k.invariant.7)

pub returns : goal.returns
returns c = replay-end _ _ _ _ _ _ c.loop-k-test.false ∙ c.loop-k.invariant.1
