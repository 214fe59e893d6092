-- The greatest of what the closure answers for each frame.
use Rattle.std.proofs.Common.{rules}
use Rattle.store.specs.Tracing.{frame_end, highest-start}
use Rattle.store.proofs.trace.frames_end.Goals as goal

pub returns : goal.returns
returns c = rw (c.highest.ensures (frame_end c.args.frames.now c.args.task) (λ i r l p. search rules), c.at-n.ensures, c.from.ensures) (highest-start _ _ _)
