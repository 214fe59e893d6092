-- A number that is too large is answered at once.
use Rattle.classfile.specs.Searches.{numbered-in, numbered-past}
use Rattle.classfile.proofs.methods.method_place.Goals as goal

pub returns-then-j-method_count : goal.returns-then-j-method_count
returns-then-j-method_count c = rw (c.place_of.ensures, numbered-in _ _ (rw c.method_count.ensures at c.if-j-method_count.true))

pub returns-else-j-method_count : goal.returns-else-j-method_count
returns-else-j-method_count c = rw (numbered-past _ _ (rw c.method_count.ensures at c.if-j-method_count.false))
