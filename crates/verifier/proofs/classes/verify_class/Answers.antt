-- The methods are verified one by one. What is left of them, with the notes posted so far, is always the whole class.
use mathlib.Core.Path.{refl, sym, ◌∙◌}
use native.Mathlib.Omega.{arith}
use Prim.Native.Nat.{◌<◌}
use Rattle.classfile.specs.Reading.{method_count}
use Rattle.verifier.proofs.PostingLaws.{exits}
use Rattle.verifier.proofs.ClassLaws.{class-goes, class-stops, class-ends, class-begins}
use Rattle.verifier.proofs.classes.verify_class.Goals as goal

pub loop-j-init : goal.loop-j-init
loop-j-init c = class-begins _ _ _

pub returns-in_err-total : goal.returns-in_err-total
returns-in_err-total c =
    let there : c.loop-j.j < method_count c.args.bytes.now = omega (arith, c.method_count-j-end.ensures, c.loop-j-test.true) in
    rw (exits _ _ c.from_residual.ensures.1) (sym (class-stops _ _ _ _ _ _ _ there _ refl c.in_err-total.ensures) ∙ c.loop-j.invariant)

pub loop-j-preserved : goal.loop-j-preserved
loop-j-preserved c =
    sym (class-goes _ _ _ _ _ _ _ ((let it : c.loop-j.j < method_count c.args.bytes.now = omega (arith, c.method_count-j-end.ensures, c.loop-j-test.true) in it)) _ refl c.in_ok-total.ensures) ∙ c.loop-j.invariant

pub returns : goal.returns
returns c = sym (class-ends _ _ _ _ _ _ (omega (arith, c.method_count-j-end.ensures, c.loop-j-test.false))) ∙ c.loop-j.invariant
