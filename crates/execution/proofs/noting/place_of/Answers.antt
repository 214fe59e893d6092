-- The instruction that is read stands there, and the fact was found for it.
use Rattle.std.proofs.Common.{refl}
use Rattle.execution.specs.Steps.{read_at}
use Rattle.execution.specs.Facts.{some-is, fact_of, reads_at}
use Rattle.execution.proofs.noting.place_of.Goals as goal

pub returns : goal.returns
returns c = λ w h. rw (← some-is h) (fact_of _ _ _ _ _ _ _ _ _ _ _ _ c.if-m-ge8.false (reads_at _ _ _ _ _ _ _ _ _ _ _ _ c.version.ensures c.code_of-code.ensures c.file_of-file.ensures refl (read_at _ _ c.decode.ensures _ c.in_ok-read.was)) (rw c.loader_of.ensures at (c.fact_of.ensures _ c.in_ok-fact.was)) _ c.key_of.ensures.0, c.key_of.ensures.1, c.if-p-ge512.false, c.if-r-ge64.false)
