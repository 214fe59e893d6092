-- The maps left are as many as lie behind map j.
use mathlib.Core.Path.{sym, ◌∙◌}
use native.Mathlib.Omega.{arith}
use borrow.Author.Tests.{le-leb, lt-leb}
use Rattle.classfile.specs.Reading.{map_count}
use Rattle.verifier.proofs.PassLaws.{left-none}
use Rattle.verifier.proofs.methods.ended.Goals as goal

pub returns-then-map_count-j : goal.returns-then-map_count-j
returns-then-map_count-j c t =
    let a = c.args in
    rw (sym (left-none a.maps.now a.j) ∙ le-leb (map_count a.maps.now) a.j (omega (arith, c.map_count.ensures, c.if-map_count-j.true)))

pub returns-else-map_count-j : goal.returns-else-map_count-j
returns-else-map_count-j c t =
    let a = c.args in
    rw (sym (left-none a.maps.now a.j) ∙ lt-leb (map_count a.maps.now) a.j (omega (arith, c.map_count.ensures, c.if-map_count-j.false)))
