-- Whose turn it is: the quote's if it has a frame, else the report's. Read off the counts it is the definition's turn.
use Rattle.std.specs.Prelude.{◌≡◌, refl, Bool, true, false, List, ℕ, zero, suc, ◌<◌, get_or, eqb}
use Rattle.std.proofs.Common.{arith}
use Rattle.std.proofs.Math.Dec.{eqb-suc-zero}
use Rattle.definition.specs.Instructions.{pick}
use Rattle.definition.specs.Lists.{stack}
use Rattle.definition.specs.Tables.{Tables, view, view_over, frames_of, frame_in}
use Rattle.definition.specs.Calls as calls
use Rattle.definition.specs.Calls.{turn}

unfoldable pub turn_of : List ℕ → ℕ
turn_of N = pick (eqb (get_or N 6 0) 0) 1 0

pub turn_two : (N : List ℕ) → turn_of N < 2
unfolding turn_of pick
turn_two N = go (eqb (get_or N 6 0) 0)
  where
    go : (u : Bool) → pick u 1 0 < 2
    go true = omega arith
    go false = omega arith

-- the count of the quote's frames is 0 just if the quote has none
pub turn_is : (t : Tables) → turn (view t) ≡ turn_of t.counts
unfolding turn view view_over frames_of calls.turn_of turn_of stack pick
turn_is t = go (get_or t.counts 6 0)
  where
    go : (k : ℕ) → calls.turn_of (stack (frame_in t.frames 0) k) ≡ pick (eqb k 0) 1 0
    go zero = refl
    go (suc k) = rw (eqb-suc-zero k)
