-- A note is posted if the meeting makes one.
use mathlib.Core.Path.{refl}
use Rattle.rows.specs.Posting.{post_notes}
use Rattle.verifier.specs.Answers.{made}
use Rattle.verifier.proofs.notes.post_flow.Goals as goal

pub returns-in-Unmet : goal.returns-in-Unmet
unfolding made post_notes
returns-in-Unmet c = rw c.in-Unmet.is refl

pub returns-in-Met : goal.returns-in-Met
unfolding made post_notes
returns-in-Met c = rw c.in-Met.is refl

pub returns-in-Noted : goal.returns-in-Noted
unfolding made post_notes
returns-in-Noted c = rw c.in-Noted.is c.post_near.ensures
