-- A request whose class isn't bad changes nothing; another is found and queued.
use Rattle.constraints.specs.Walks.{found}
use Rattle.constraints.proofs.Spreading.{seed-not, seed-put}
use Rattle.constraints.proofs.layers.seed_one.Goals as goal

pub returns-then-not-is_bad : goal.returns-then-not-is_bad
returns-then-not-is_bad c ways = seed-not _ _ _ _ _ _ _ (found _ ways _ _) c.at.ensures _ c.is_bad.ensures c.if-not-is_bad.true

pub returns : goal.returns
returns c ways =
    rw (c.put.ensures, c.put-2.ensures) (seed-put _ _ _ _ _ _ _ (found _ ways _ _) c.at.ensures _ c.is_bad.ensures c.if-not-is_bad.false)
