-- Name after name.
use Rattle.std.proofs.Math.Path.{sym}
use Rattle.std.proofs.Common.{◌∙◌}
use native.Mathlib.Omega.{arith}
use Rattle.definition.specs.Classes.{types_of}
use Rattle.posting.specs.Postings.{among-here, among_later, among-last}
use Rattle.posting.proofs.is_among.Goals as goal

pub returns-then-argument_at-name : goal.returns-then-argument_at-name
returns-then-argument_at-name c =
    sym (among-here _ (types_of c.args.names) _ c.loop-i.i (omega arith) (sym c.argument_at.ensures ∙ c.if-argument_at-name.true)) ∙ c.loop-i.invariant

pub loop-i-preserved : goal.loop-i-preserved
loop-i-preserved c =
    sym (among_later _ (types_of c.args.names) _ c.loop-i.i (omega arith) (λ e. c.if-argument_at-name.false (c.argument_at.ensures ∙ e))) ∙ c.loop-i.invariant

pub returns : goal.returns
returns c = sym (among-last _ (types_of c.args.names) _ c.loop-i.i (omega arith)) ∙ c.loop-i.invariant
