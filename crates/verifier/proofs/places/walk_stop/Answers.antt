-- The walk is taken turn by turn. Where what is left of it stops, the whole walk stops.
use Prim.Native.Nat.{◌-◌}
use lib.ListN.{length}
use mathlib.Core.Path.{◌≡◌, refl, sym, ap, ◌∙◌}
use mathlib.Core.List.{[]}
use native.Mathlib.Omega.{arith}
use Rattle.cells.specs.Optional.{optional}
use Rattle.classfile.specs.Reading.{map_place}
use Rattle.verifier.specs.Types.{types_of}
use Rattle.verifier.specs.Answers.{next_of}
use Rattle.verifier.proofs.WalkLaws.{left-all, passed-inside, passed_to}
use Rattle.verifier.proofs.StopLaws.{next-is, stop-out, stop-inside, stop-stop, stop-end, stop-next}
use Rattle.verifier.proofs.places.walk_stop.Goals as goal

pub loop-turn-init : goal.loop-turn-init
unfolding map_place
loop-turn-init c =
    let all : length c.args.code.now - 0 ≡ length c.args.code.now = omega arith in
    record { at = (refl, omega arith); rest = rw (left-all _, all) refl }

pub returns-in_default : goal.returns-in_default
returns-in_default c =
    ap optional
    (sym (stop-inside _ _ _ _ _ _ _ _ (omega (arith, c.loop-turn-test.true)) (passed-inside _ _ (c.pass.ensures _ _ _ _) c.in_default.is)) ∙ c.loop-turn.invariant.rest)

pub returns-in_default-turn_at : goal.returns-in_default-turn_at
returns-in_default-turn_at c =
    ap optional
    (sym (stop-stop _ _ _ _ _ _ _ _ (omega (arith, c.loop-turn-test.true)) _ (passed_to _ _ _ (c.pass.ensures _ _ _ _) c.in-Some.is).0 _ (next-is _ _ _ _ _ c.in_default-turn_at.ensures) refl)
    ∙ c.loop-turn.invariant.rest)

pub returns-in_default-next : goal.returns-in_default-next
unfolding next_of
returns-in_default-next c =
    c.stop_at_end.ensures
    ∙ ap optional
    (sym (stop-end _ _ _ _ _ _ _ _ (omega (arith, c.loop-turn-test.true)) _ (passed_to _ _ _ (c.pass.ensures _ _ _ _) c.in-Some.is).0 _ (next-is _ _ _ _ _ c.in-Ok.ensures) (ap (λ x. next_of x (types_of c.turn_at.new.types)) c.in_default-next.is))
    ∙ c.loop-turn.invariant.rest)

pub loop-turn-preserved : goal.loop-turn-preserved
unfolding next_of
loop-turn-preserved c = record {
  at = (passed_to _ _ _ (c.pass.ensures 0 [] [] 0) c.in-Some.is).1;
  rest = sym (stop-next _ _ _ _ _ _ _ _ (omega (arith, c.loop-turn-test.true)) _ (passed_to _ _ _ (c.pass.ensures _ _ _ _) c.in-Some.is).0 _ (next-is _ _ _ _ _ c.in-Ok.ensures) _ _ _ (omega (arith, c.loop-turn-test.true)) (ap (λ x. next_of x (types_of c.turn_at.new.types)) c.in-Some-next.is))
      ∙ c.loop-turn.invariant.rest;
}

pub returns : goal.returns
returns c = ap optional (sym (stop-out _ _ _ _ _ _ _ _ (omega (arith, c.loop-turn-test.false))) ∙ c.loop-turn.invariant.rest)
