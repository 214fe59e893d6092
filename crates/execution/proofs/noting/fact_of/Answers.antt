-- An instruction on a field has the slot that was found; any other has no fact.
use Rattle.execution.proofs.noting.fact_of.Goals as goal

pub returns-in-Getfield : goal.returns-in-Getfield
returns-in-Getfield c = λ f h. rw c.in-Getfield.is (c.slot_found.ensures f h).0

pub returns-in-Putfield : goal.returns-in-Putfield
returns-in-Putfield c = λ f h. rw c.in-Putfield.is (c.slot_found-in-Putfield.ensures f h).0
