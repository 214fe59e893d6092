-- An instruction that goes on to a point without a map, by its effect.
use mathlib.Core.Path.{◌≡◌, refl, sym, ◌∙◌}
use native.Mathlib.Omega.{arith}
use lib.ListN.{length}
use Rattle.verifier.proofs.DecodingLaws.{at-within}
use Rattle.verifier.proofs.TurnLaws.{turned-at}
use Rattle.verifier.proofs.QuietLaws.{loud-turn, none-is, targetless, quiet-turn}
use borrow.Author.Rules.{rules}
use Rattle.verifier.proofs.quiet.quiet_at.Goals as goal

pub returns-then-not-may_be_quiet : goal.returns-then-not-may_be_quiet
returns-then-not-may_be_quiet c = loud-turn _ _ _ refl

pub returns-in_err-read : goal.returns-in_err-read
returns-in_err-read c = loud-turn _ _ _ c.from_residual.ensures

pub returns-then-not-goes_on : goal.returns-then-not-goes_on
returns-then-not-goes_on c = loud-turn _ _ _ refl

pub overflow_add-q : goal.overflow_add-q
overflow_add-q c = omega (arith, at-within _ _ _ _ c.decode.ensures _ c.in_ok-read.was)

pub returns-then-is_some-2 : goal.returns-then-is_some-2
returns-then-is_some-2 c = loud-turn _ _ _ refl

pub returns-in_err-effect : goal.returns-in_err-effect
returns-in_err-effect c = loud-turn _ _ _ c.from_residual-in_err-effect.ensures

pub returns : goal.returns
returns c =
    let operands : length c.args.types.operands ≡ 16 = search rules in
    let locals : length c.args.types.locals ≡ 8 = search rules in
    let nowhere = targetless _ _ c.target_of.ensures (sym c.is_some.ensures ∙ c.if-is_some.false) in
    quiet-turn _ _ _ _ c.find_map.ensures (none-is _ (sym c.is_some-2.ensures ∙ c.if-is_some-2.false)) _ nowhere _ c.goes_on.ensures c.if-not-goes_on.false _ _ _ _
    (turned-at _ _ _ _ _ _ _ c.decode.ensures _ c.in_ok-read.was _ c.in_ok-effect.ensures _ refl) (c.quiet_of.ensures _ operands locals)
