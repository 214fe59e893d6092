-- The instruction at a point is read where its opcode and its inline bytes stand before the end.
use mathlib.Core.Path.{sym, ap, ◌∙◌}
use Rattle.definition.specs.Instructions.{opcode_of}
use Rattle.cells.specs.Optional.{optional-none, optional-some}
use Rattle.definition.specs.Instructions.{sized_as}
use Rattle.verifier.specs.Decoding.{reading_of}
use Rattle.verifier.proofs.DecodingLaws.{decode-past, decode-cut, decode-whole}
use Rattle.verifier.proofs.decoding.decode.Goals as goal

pub returns-then-code-p : goal.returns-then-code-p
unfolding reading_of
returns-then-code-p c = rw (decode-past _ _ _ c.if-code-p.true)

pub returns-then-code-p-2 : goal.returns-then-code-p-2
unfolding reading_of
returns-then-code-p-2 c =
    rw
    (decode-cut _ _ _ _ _ (c.opcode_of-o.ensures ∙ ap (opcode_of _) c.at.ensures)
    c.inline_length-n.ensures c.if-code-p.false c.if-code-p-2.true)

pub returns-in_err-instruction : goal.returns-in_err-instruction
unfolding reading_of sized_as
returns-in_err-instruction c =
    rw (
      c.from_residual.ensures,
      decode-whole _ _ _ _ _ (c.opcode_of-o.ensures ∙ ap (opcode_of _) c.at.ensures)
          c.inline_length-n.ensures c.if-code-p.false c.if-code-p-2.false,
      optional-none _ (sym c.instruction_of.ensures ∙ c.in_err-instruction.was),
    )

pub returns : goal.returns
unfolding reading_of sized_as
returns c =
    rw (
      decode-whole _ _ _ _ _ (c.opcode_of-o.ensures ∙ ap (opcode_of _) c.at.ensures)
          c.inline_length-n.ensures c.if-code-p.false c.if-code-p-2.false,
      optional-some _ _ (sym c.instruction_of.ensures ∙ c.in_ok-instruction.was),
    )
