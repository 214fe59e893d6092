-- None is left from map j on exactly if there are no more than j.
use mathlib.Core.Path.{sym, ◌∙◌}
use mathlib.Core.Bool.{true, false}
use native.Mathlib.Omega.{arith}
use borrow.Author.Tests.{le-leb, lt-leb}
use Rattle.definition.specs.Instructions.{pick}
use Rattle.classfile.specs.Reading.{map_count}
use mathlib.Core.Path.{ap}
use Rattle.cells.specs.Optional.{optional}
use Rattle.verifier.proofs.PassLaws.{left-none}
use Rattle.verifier.proofs.StopLaws.{at-end}
use Rattle.verifier.proofs.places.stop_at_end.Goals as goal

pub returns-then-map_count-j : goal.returns-then-map_count-j
unfolding pick
returns-then-map_count-j c = let a = c.args in
    ap optional (sym (at-end _ _ true (sym (left-none a.maps.now a.j) ∙ le-leb (map_count a.maps.now) a.j (omega (arith, c.map_count.ensures, c.if-map_count-j.true)))))

pub returns-else-map_count-j : goal.returns-else-map_count-j
unfolding pick
returns-else-map_count-j c = let a = c.args in
    ap optional (sym (at-end _ _ false (sym (left-none a.maps.now a.j) ∙ lt-leb (map_count a.maps.now) a.j (omega (arith, c.map_count.ensures, c.if-map_count-j.false)))))
