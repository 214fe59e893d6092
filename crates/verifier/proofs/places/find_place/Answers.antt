-- Before method j is checked, the first place from there on is the first of all.
use mathlib.Core.Path.{sym, ◌∙◌}
use native.Mathlib.Omega.{arith}
use Rattle.cells.specs.Optional.{optional-none, optional-some}
use Rattle.verifier.specs.Stops.{place_of}
use Rattle.verifier.proofs.StopLaws.{place-begins, place-ends, place-hit, place-on}
use Rattle.verifier.proofs.places.find_place.Goals as goal

pub loop-j-init : goal.loop-j-init
loop-j-init c = place-begins _ _

pub returns-in-Some : goal.returns-in-Some
unfolding place_of
returns-in-Some c =
    sym (place-hit _ _ _ (omega (arith, c.method_count-j-end.ensures, c.loop-j-test.true)) _ (sym (optional-some _ _ (sym c.check_numbered.ensures ∙ c.in-Some.is))))
    ∙ c.loop-j.invariant

pub loop-j-preserved : goal.loop-j-preserved
loop-j-preserved c =
    sym (place-on _ _ _ (omega (arith, c.method_count-j-end.ensures, c.loop-j-test.true)) (sym (optional-none _ (sym c.check_numbered.ensures ∙ c.in_default.is))))
    ∙ c.loop-j.invariant

pub returns : goal.returns
unfolding place_of
returns c = sym (place-ends _ _ _ (omega (arith, c.method_count-j-end.ensures, c.loop-j-test.false))) ∙ c.loop-j.invariant
