-- A count above 4 can't be read; else the names and the types are the inline ones in order.
use Rattle.verifier.proofs.CallLaws.{call-above, call-read}
use Rattle.verifier.proofs.decoding.call_at.Goals as goal

pub returns-then-count-gt-ARGUMENT_LIMIT : goal.returns-then-count-gt-ARGUMENT_LIMIT
returns-then-count-gt-ARGUMENT_LIMIT c = call-above _ _ _ _ c.if-count-gt-ARGUMENT_LIMIT.true

pub returns : goal.returns
returns c =
    call-read _ _ _ _ c.if-count-gt-ARGUMENT_LIMIT.false _ _ _ _ _ c.short_at-3.ensures c.short_at.ensures c.arguments_at.ensures
    c.from.ensures
    c.short_at-2.ensures
