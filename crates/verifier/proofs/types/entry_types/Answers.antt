-- At point 0 local 0 has the own name and the locals behind it the argument types.
use native.Mathlib.Omega.{arith}
use Rattle.verifier.proofs.TypeLaws.{entry-is}
use Rattle.verifier.proofs.types.entry_types.Goals as goal

pub returns : goal.returns
returns c =
    entry-is _ _ _ _ _ _ _ _ c.from-first.ensures (omega (arith, c.from-first.ensures)) c.argument_local-second.ensures
    c.argument_local-third.ensures c.argument_local-fourth.ensures c.argument_local-fifth.ensures
