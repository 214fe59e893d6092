-- Its names are the inline ones in order.
use Rattle.definition.specs.Instructions.{instruction_of}
use Rattle.verifier.proofs.decoding.putfield_at.Goals as goal

pub returns : goal.returns
unfolding instruction_of
returns c = rw (c.short_at.ensures, c.short_at-2.ensures, c.short_at-3.ensures)
