-- The quote has no share; another task's is used up by as many objects as the limit.
use Rattle.std.proofs.Math.Path.{◌≡◌, refl}
use Rattle.std.specs.Prelude.{◌≢◌}
use Prim.Native.Nat.{ℕ, zero, suc}
use Rattle.std.proofs.Math.Dec.{leb}
use Rattle.definition.specs.Numbers.{share_limit}
use Rattle.frames.specs.Made.{used_share}
use Rattle.frames.proofs.owners.is_share_used.Goals as goal

other : (j m : ℕ) → j ≢ 0 → leb share_limit m ≡ used_share j m
unfolding used_share
other zero m h = absurd (h refl)
other (suc j) m h = refl

pub returns-then-task-ne0 : goal.returns-then-task-ne0
returns-then-task-ne0 c = other _ _ c.if-task-ne0.true

pub returns-else-task-ne0 : goal.returns-else-task-ne0
unfolding used_share
returns-else-task-ne0 c = rw c.if-task-ne0.false
