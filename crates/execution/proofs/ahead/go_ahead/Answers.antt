-- The row of the top frame is a part of the frames; it is walked, and every instruction of the walk is a step.
use native.Mathlib.Omega.{arith}
use Rattle.std.proofs.Common.{refl, sym, ap, ◌∙◌}
use lib.ListN.{length}
use Rattle.execution.specs.Ahead.{none_ahead}
use Rattle.execution.specs.Opcodes.{numbers-lent, numbers-length}
use Rattle.execution.specs.Walks.{row_fits, part-size, part-few, ahead-part}
use Rattle.execution.proofs.ahead.go_ahead.Goals as goal

pub returns-then-most-eq0 : goal.returns-then-most-eq0
returns-then-most-eq0 c = (λ E I S w m. rw c.no_walk.ensures (none_ahead _ _ w), omega (arith, c.no_walk.ensures))

pub returns-then-n-eq0 : goal.returns-then-n-eq0
returns-then-n-eq0 c = (λ E I S w m. rw c.no_walk-then-n-eq0.ensures (none_ahead _ _ w), omega (arith, c.no_walk-then-n-eq0.ensures))

pub returns-then-c-ge64 : goal.returns-then-c-ge64
returns-then-c-ge64 c = (λ E I S w m. rw c.no_walk-then-c-ge64.ensures (none_ahead _ _ w), omega (arith, c.no_walk-then-c-ge64.ensures))

pub returns-then-code-gt-CODE_LIMIT : goal.returns-then-code-gt-CODE_LIMIT
returns-then-code-gt-CODE_LIMIT c = (λ E I S w m. rw c.no_walk-then-code-gt-CODE_LIMIT.ensures (none_ahead _ _ w), omega (arith, c.no_walk-then-code-gt-CODE_LIMIT.ensures))

pub slice_bounds-row-end : goal.slice_bounds-row-end
slice_bounds-row-end c = omega (arith, c.row-b.ensures, row_fits _ _ _ _ _ _ _ _ c.requires.0.whole _ _ c.turn-task.ensures c.frame_count-n.ensures c.if-n-eq0.false)

pub slice_bounds-walk-end : goal.slice_bounds-walk-end
slice_bounds-walk-end c = omega (arith, c.first_number-first.ensures.0, ap length c.requires.1 ∙ numbers-length)

pub walk-requires : goal.walk-requires
walk-requires c = (part-size _ _ _ _ _ _ _ _ c.requires.0.whole _ _ c.turn-task.ensures c.frame_count-n.ensures c.if-n-eq0.false _ c.row-b.ensures _ refl, part-few _ _ _ _ _ _ _ _ c.requires.0.whole _ _ c.turn-task.ensures c.frame_count-n.ensures c.if-n-eq0.false _ c.row-b.ensures _ refl, c.if-code-gt-CODE_LIMIT.false, c.key_of-key.ensures.1, (_, numbers-lent _ c.first_number-first.result _ c.requires.1 c.first_number-first.ensures.1))

pub returns : goal.returns
returns c = (λ E I S w m. rw (← c.turn-task.ensures) (ahead-part _ _ _ E I S _ _ w _ _ c.turn-task.ensures c.frame_count-n.ensures c.if-n-eq0.false _ c.row-b.ensures _ _ m _ _ _ _ _ _ c.frame_class-c.ensures c.frame_method-m.ensures c.file_of-file.ensures c.code_of-code.ensures c.version.ensures c.if-m-ge8.false c.key_of-key.ensures.0 (sym c.at.ensures ∙ c.if-at-ne0.false) _ _ _ _ refl (c.walk.ensures.0 _ (numbers-lent _ c.first_number-first.result _ c.requires.1 c.first_number-first.ensures.1))), c.walk.ensures.1)
