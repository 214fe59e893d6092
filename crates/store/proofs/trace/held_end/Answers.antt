-- Objects, then the frames of both tasks.
use Rattle.std.proofs.Common.{rules}
use Rattle.store.specs.Tracing.{held_end, highest-start, object_end}
use Rattle.store.proofs.trace.held_end.Goals as goal

pub returns : goal.returns
unfolding held_end
returns c = rw (c.frames_end-2.ensures, c.frames_end.ensures, c.highest-made.ensures (object_end c.args.counts.now c.args.objects.now) (λ i r l p. search rules), c.at-n.ensures, highest-start (object_end c.args.counts.now c.args.objects.now) _ _)
