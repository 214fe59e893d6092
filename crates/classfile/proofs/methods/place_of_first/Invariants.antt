use Rattle.classfile.specs.Reading.{Placed}
use Rattle.classfile.proofs.methods.place_of_first.Given as goal

abbrev pub invariant-loop-i : goal.invariant-loop-i
invariant-loop-i l = Placed l.bytes l.i l.place
