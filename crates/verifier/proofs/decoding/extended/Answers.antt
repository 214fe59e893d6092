-- 16 bits are extended by their sign.
use mathlib.Core.Path.{sym, ap, ◌∙◌}
use Rattle.definition.specs.Instructions.{extend}
use Rattle.verifier.proofs.DecodingLaws.{extend-low, extend-high}
use Rattle.verifier.proofs.decoding.extended.Goals as goal

pub returns-then-wide-lt32768 : goal.returns-then-wide-lt32768
returns-then-wide-lt32768 c = sym (ap extend (sym c.from-wide.ensures) ∙ extend-low _ c.if-wide-lt32768.true)

pub returns-else-wide-lt32768 : goal.returns-else-wide-lt32768
returns-else-wide-lt32768 c = sym (ap extend (sym c.from-wide.ensures) ∙ extend-high _ c.if-wide-lt32768.false)
