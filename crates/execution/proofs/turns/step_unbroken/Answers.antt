-- Nobody's turn is idle; else what was chosen is carried out, and that is the step of the task whose turn it is.
use Rattle.std.proofs.Common.{ap, ◌∙◌}
use native.Mathlib.Omega.{arith}
use Rattle.tasks.specs.Turns.{turn_two}
use Rattle.layout.specs.Unbroken.{unbroken}
use Rattle.execution.specs.Carried.{closed_by, still-ready}
use Rattle.definition.specs.Tables.{tables}
use Rattle.resolution.specs.Quick.{loader-quick}
use Rattle.execution.specs.Steps.{usable}
use Rattle.execution.specs.Turns.{turn-idle, turn-count, top-carried}
use Rattle.execution.proofs.turns.step_unbroken.Goals as goal

pub returns-then-n-eq0 : goal.returns-then-n-eq0
returns-then-n-eq0 c = turn-idle _ _ _ _ _ _ _ _ c.requires.0 _ _ c.turn-task.ensures c.frame_count-n.ensures c.if-n-eq0.true

pub top_frame-top-requires : goal.top_frame-top-requires
top_frame-top-requires c =
    let counts = c.args.counts.now in
    let classes = c.args.classes.now in
    let kept = c.args.kept.now in
    let cache = c.args.cache.now in
    λ x. rw (← loader-quick counts classes kept cache x) ((usable (tables counts classes kept cache c.args.ties.now c.args.subtypes.now c.args.objects.now c.args.frames.now) c.requires.0).loaders x)

pub choose-r-requires : goal.choose-r-requires
choose-r-requires c =
    (c.requires.0, rw (c.top_frame-top.ensures.0, c.turn-task.ensures) (turn_two c.args.counts.now), rw (c.top_frame-top.ensures.0, c.top_frame-top.ensures.1) (turn-count _ _ _ _ _ _ _ _ c.requires.0 _ _ c.turn-task.ensures c.frame_count-n.ensures c.if-n-eq0.false), c.top_frame-top.ensures.2, rw (c.top_frame-top.ensures.0, c.turn-task.ensures) c.requires.1)

pub carry_out-answer-requires : goal.carry_out-answer-requires
carry_out-answer-requires c = still-ready _ _ _ _ _ _ _ _ _ _ _ _ _ c.choose-r.ensures.ready _ c.post_ties-before.ensures.counted

pub number_ties-requires : goal.number_ties-requires
number_ties-requires c =
    let few = (unbroken _ c.requires.0).counts in
    (omega (arith, c.post_ties-before.ensures.behind.0, few.ties), omega (arith, c.post_ties-before.ensures.behind.1, few.subtypes))

pub returns : goal.returns
returns c =
    top-carried _ _ _ _ _ _ _ _ c.requires.0 _ _ c.turn-task.ensures c.frame_count-n.ensures c.if-n-eq0.false _ _ c.top_frame-top.ensures.0 c.top_frame-top.ensures.1 _ _ _ _ c.choose-r.ensures _ _ c.post_ties-before.ensures.counted c.post_ties-before.ensures.written _ _ _ _ c.carry_out-answer.ensures _ _ c.post_ties-before.ensures.behind.0 c.post_ties-before.ensures.behind.1 _
    _ (c.close.ensures ∙ ap (closed_by c.carry_out-answer.result) c.number_ties.ensures) c.regroup.ensures
