-- invokevirtual, once the method is found: a frame is entered in the method selected from the receiver's own class, which stands below the arguments.
use Rattle.std.proofs.Math.Path.{sym}
use Rattle.std.proofs.Common.{◌∙◌}
use Rattle.access.specs.Remainders.{call-few, call-unkind, call-wrong, call-unselected, call_at}
use Rattle.definition.specs.Tables.{object_at}
use Rattle.laws.specs.Inline.{four-arguments}
use Rattle.resolution.specs.Lookups.{selection-at, selection-absent}
use Rattle.access.proofs.methods.call_method.Goals as goal

pub returns-then-top-n : goal.returns-then-top-n
returns-then-top-n c =
    let counted = c.from-n.ensures ∙ c.argument_count.ensures in
    rw c.refuse.ensures (call-few _ _ _ _ _ _ _ _ _ _ _ counted c.if-top-n.true)

pub returns-then-not-are_kinds : goal.returns-then-not-are_kinds
returns-then-not-are_kinds c =
    let counted = c.from-n.ensures ∙ c.argument_count.ensures in
    rw c.refuse-then-not-are_kinds.ensures (call-unkind _ _ _ _ _ _ _ _ _ _ _ counted c.if-top-n.false _ c.are_kinds.ensures c.if-not-are_kinds.true)

pub returns-in_default : goal.returns-in_default
unfolding object_at
returns-in_default c =
    let counted = c.from-n.ensures ∙ c.argument_count.ensures in
    rw c.refuse-in_default.ensures (call-unselected _ _ _ _ _ _ _ _ _ _ _ counted c.if-top-n.false _ c.are_kinds.ensures c.if-not-are_kinds.false _ _ c.operand-x.ensures _ c.received.ensures _ c.in-Ok.is (rw c.object_class-c.ensures at (selection-absent _ (sym c.in_default.ensures))))

pub returns-in-Err : goal.returns-in-Err
returns-in-Err c =
    let counted = c.from-n.ensures ∙ c.argument_count.ensures in
    call-wrong _ _ _ _ _ _ _ _ _ _ _ counted c.if-top-n.false _ c.are_kinds.ensures c.if-not-are_kinds.false _ _ c.operand-x.ensures _ c.received.ensures _ c.in-Err.is

pub returns-in-Some : goal.returns-in-Some
unfolding object_at
returns-in-Some c =
    let counted = c.from-n.ensures ∙ c.argument_count.ensures in
    call_at _ _ _ _ _ _ _ _ _ _ _ counted c.if-top-n.false _ c.are_kinds.ensures c.if-not-are_kinds.false _ _ c.operand-x.ensures _ c.received.ensures _ c.in-Ok.is (rw counted (four-arguments c.args.s.arguments)) _ (rw c.object_class-c.ensures at (selection-at _ _ (sym c.in-Some.ensures)))
