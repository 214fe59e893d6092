-- Where the code from point p on lacks a map, all of it does first.
use Prim.Native.Nat.{◌-◌}
use lib.ListN.{length}
use mathlib.Core.Path.{◌≡◌, sym, ap, ◌∙◌}
use native.Mathlib.Omega.{arith}
use Rattle.cells.specs.Optional.{optional}
use Rattle.verifier.specs.Decoding.{decoded_of}
use Rattle.verifier.proofs.DecodingLaws.{decode_is, decode-at, at-within}
use Rattle.verifier.proofs.StopLaws.{lack-out, lack-unread, lack-here, lack-on, lack-early, lack-late}
use Rattle.verifier.proofs.places.lack_of.Goals as goal

pub returns-then-version-lt-VERSION_TWO : goal.returns-then-version-lt-VERSION_TWO
returns-then-version-lt-VERSION_TWO c = ap optional (sym (lack-early _ _ _ c.if-version-lt-VERSION_TWO.true))

pub loop-turn-init : goal.loop-turn-init
loop-turn-init c =
    let all : length c.args.code.now - 0 ≡ length c.args.code.now = omega arith in
    rw all (sym (lack-late _ _ _ c.if-version-lt-VERSION_TWO.false))

pub returns-in_err-read : goal.returns-in_err-read
unfolding decoded_of
returns-in_err-read c =
    c.from_residual.ensures
    ∙ ap optional
    (sym (lack-unread _ _ _ _ _ _ (omega (arith, c.loop-turn-test.true)) (decode_is _ _ c.decode.ensures ∙ ap decoded_of c.in_err-read.was)) ∙ c.loop-turn.invariant)

pub returns-then-is_lacking : goal.returns-then-is_lacking
returns-then-is_lacking c =
    ap optional
    (sym (lack-here _ _ _ _ _ _ (decode-at _ _ _ _ c.decode.ensures _ c.in_ok-read.was) _ (omega (arith, c.loop-turn-test.true)) (sym c.is_lacking.ensures ∙ c.if-is_lacking.true))
    ∙ c.loop-turn.invariant)

pub overflow_add-p : goal.overflow_add-p
overflow_add-p c = omega (arith, at-within _ _ _ _ c.decode.ensures _ c.in_ok-read.was)

pub loop-turn-preserved : goal.loop-turn-preserved
loop-turn-preserved c =
    rw c.goes_on-wants.ensures
    (sym (lack-on _ _ _ _ _ _ (decode-at _ _ _ _ c.decode.ensures _ c.in_ok-read.was) _ _ (omega (arith, c.loop-turn-test.true)) (sym c.is_lacking.ensures ∙ c.if-is_lacking.false))
    ∙ c.loop-turn.invariant)

pub returns : goal.returns
returns c = ap optional (sym (lack-out _ _ _ _ _ _ (omega (arith, c.loop-turn-test.false))) ∙ c.loop-turn.invariant)
