-- Before number k is looked for, k rows were met, t ties and s subtype constraints; the numbers from k on are in turn exactly if all are.
use mathlib.Core.Path.{◌≡◌}
use Prim.Native.Nat.{◌+◌, ◌-◌, ◌≤◌}
use Rattle.definition.specs.Numbers.{tie_numbers_cell, subtype_numbers_cell}
use Rattle.definition.specs.Broken.{in_turn}
use Rattle.definition.specs.Lists.{rows}
use Rattle.definition.specs.Tables.{number_at}
use Rattle.rows.specs.Numbers.{numbers_fit}
use Rattle.rows.proofs.numbers.numbers_fit.Given as goal

abbrev pub invariant-loop-k : goal.invariant-loop-k
invariant-loop-k l = (l.t + l.s ≡ l.k) × (l.t ≤ l.ties) × (l.s ≤ l.subtypes)
    × (in_turn (l.ties + l.subtypes - l.k) l.k (rows (number_at tie_numbers_cell l.counts) (l.ties - l.t) l.t) (rows (number_at subtype_numbers_cell l.counts) (l.subtypes - l.s) l.s) ≡ numbers_fit l.counts)
