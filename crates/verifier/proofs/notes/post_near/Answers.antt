-- A note that is there is not posted again.
use Rattle.verifier.proofs.NoteLaws.{post-there}
use Rattle.verifier.proofs.notes.post_near.Goals as goal

pub returns-in-Some : goal.returns-in-Some
returns-in-Some c = post-there _ _ _ _ c.in-Some.ensures.1
