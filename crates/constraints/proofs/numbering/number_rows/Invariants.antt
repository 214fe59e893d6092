-- The first i rows have their numbers, and what lies below the first of them stays.
use Rattle.constraints.specs.Nodes.{Numbers, Kept}
use Rattle.constraints.proofs.numbering.number_rows.Given as goal

abbrev pub invariant-loop-i : goal.invariant-loop-i
invariant-loop-i l = Numbers l.t l.loader l.name l.i l.numbers l.from × Kept l.initial.numbers l.numbers l.from
