-- Each refusal in its order, and else what was selected.
use mathlib.Core.Path.{sym, ◌∙◌}
use native.Mathlib.Omega.{arith}
use Rattle.opening.specs.Openings.{open-no-task, open_unknown, open-busy, open-wanted, open-absent, open-share-used, open_full, open-first, known-loader}
use Rattle.resolution.specs.Lookups.{selection-at, selection-absent}
use Rattle.cells.specs.Optional.{optional-none, optional-some}
use Rattle.opening.proofs.decide.Goals as goal

pub returns-then-task-ge-TASK_LIMIT : goal.returns-then-task-ge-TASK_LIMIT
returns-then-task-ge-TASK_LIMIT c = open-no-task _ _ _ _ _ _ _ _ c.if-task-ge-TASK_LIMIT.true

pub returns-then-not-are_known : goal.returns-then-not-are_known
returns-then-not-are_known c = open_unknown _ _ _ _ _ _ _ _ c.if-task-ge-TASK_LIMIT.false (sym c.are_known.ensures ∙ c.if-not-are_known.true)

pub returns-then-frame_count-ne0 : goal.returns-then-frame_count-ne0
returns-then-frame_count-ne0 c = open-busy _ _ _ _ _ _ _ _ c.if-task-ge-TASK_LIMIT.false (sym c.are_known.ensures ∙ c.if-not-are_known.false) (λ e. c.if-frame_count-ne0.true (c.frame_count.ensures ∙ e))

pub overflow_cast-loader : goal.overflow_cast-loader
overflow_cast-loader c = omega (arith, known-loader c.args.loader c.args.name c.args.method (sym c.are_known.ensures ∙ c.if-not-are_known.false))

pub overflow_cast-result : goal.overflow_cast-result
overflow_cast-result c =
    omega (arith, known-loader c.args.loader c.args.name c.args.method (sym c.are_known.ensures ∙ c.if-not-are_known.false))

pub returns-in_default : goal.returns-in_default
returns-in_default c = open-wanted _ _ _ _ _ _ _ _ c.if-task-ge-TASK_LIMIT.false (sym c.are_known.ensures ∙ c.if-not-are_known.false) (rw c.if-frame_count-ne0.false at (sym c.frame_count.ensures)) (optional-none _ (sym c.in_default.ensures))

pub returns-in_default-select_method : goal.returns-in_default-select_method
returns-in_default-select_method c =
    open-absent _ _ _ _ _ _ _ _ c.if-task-ge-TASK_LIMIT.false (sym c.are_known.ensures ∙ c.if-not-are_known.false) (rw c.if-frame_count-ne0.false at (sym c.frame_count.ensures)) _ (optional-some _ _ (sym c.in-Some.ensures)) (rw c.start_signature.ensures at (selection-absent _ (sym c.in_default-select_method.ensures)))

pub returns-then-is_share_used : goal.returns-then-is_share_used
returns-then-is_share_used c =
    let x = rw c.start_signature.ensures at (selection-at _ _ (sym c.in-Some-select_method.ensures)) in
    open-share-used _ _ _ _ _ _ _ _ c.if-task-ge-TASK_LIMIT.false (sym c.are_known.ensures ∙ c.if-not-are_known.false) (rw c.if-frame_count-ne0.false at (sym c.frame_count.ensures)) _ (optional-some _ _ (sym c.in-Some.ensures)) _ _ x _ c.made_by.ensures (sym c.is_share_used.ensures ∙ c.if-is_share_used.true)

pub returns-then-free-ge-OBJECT_LIMIT : goal.returns-then-free-ge-OBJECT_LIMIT
returns-then-free-ge-OBJECT_LIMIT c =
    let x = rw c.start_signature.ensures at (selection-at _ _ (sym c.in-Some-select_method.ensures)) in
    open_full _ _ _ _ _ _ _ _ c.if-task-ge-TASK_LIMIT.false (sym c.are_known.ensures ∙ c.if-not-are_known.false) (rw c.if-frame_count-ne0.false at (sym c.frame_count.ensures)) _ (optional-some _ _ (sym c.in-Some.ensures)) _ _ x _ c.made_by.ensures (sym c.is_share_used.ensures ∙ c.if-is_share_used.false) _ c.unused-free.ensures c.if-free-ge-OBJECT_LIMIT.true

pub returns : goal.returns
returns c =
    let x = rw c.start_signature.ensures at (selection-at _ _ (sym c.in-Some-select_method.ensures)) in
    open-first _ _ _ _ _ _ _ _ c.if-task-ge-TASK_LIMIT.false (sym c.are_known.ensures ∙ c.if-not-are_known.false) (rw c.if-frame_count-ne0.false at (sym c.frame_count.ensures)) _ (optional-some _ _ (sym c.in-Some.ensures)) _ _ x _ c.made_by.ensures (sym c.is_share_used.ensures ∙ c.if-is_share_used.false) _ c.unused-free.ensures c.if-free-ge-OBJECT_LIMIT.false
