-- The window holds no more than it has room for.
use Rattle.std.proofs.Common.{◌≤◌, length}
use Rattle.boxscript.proofs.talk.Given as goal

abbrev pub invariant-loop : goal.invariant-loop
invariant-loop g l = l.state.held ≤ length l.window
