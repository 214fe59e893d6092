-- A broken store is refused, then a task that is not there; another loses its frames by its count.
use mathlib.Core.Path.{sym, ◌∙◌}
use Rattle.loading.proofs.Laws.{drop-broken, drop-unknown, drop-done}
use Rattle.loading.proofs.drop_task.Goals as goal

pub returns-then-is_broken : goal.returns-then-is_broken
returns-then-is_broken c = drop-broken _ _ (sym c.is_broken.ensures ∙ c.if-is_broken.true)

pub returns-then-task-ge-TASK_LIMIT : goal.returns-then-task-ge-TASK_LIMIT
returns-then-task-ge-TASK_LIMIT c = drop-unknown _ _ (sym c.is_broken.ensures ∙ c.if-is_broken.false) c.if-task-ge-TASK_LIMIT.true

pub returns : goal.returns
returns c =
    rw (c.put-2.ensures, c.put.ensures) (drop-done _ _ (sym c.is_broken.ensures ∙ c.if-is_broken.false) c.if-task-ge-TASK_LIMIT.false)
