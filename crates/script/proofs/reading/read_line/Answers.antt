-- A line by its first two bytes.
use mathlib.Core.Path.{sym, ap, ◌∙◌}
use lib.ListN.{length, length-drop}
use Rattle.script.specs.Commands.{said, decoded}
use Rattle.script.specs.Calls.{single-keeps}
use Rattle.script.specs.Lines.{line-long, line-one, line-joined, line-call}
use native.Mathlib.Omega.{arith}
use Rattle.script.proofs.reading.read_line.Goals as goal

pub returns-then-n-gt65536 : goal.returns-then-n-gt65536
unfolding said decoded
returns-then-n-gt65536 c = record { command = rw (line-long _ c.if-n-gt65536.true); table = rw (line-long _ c.if-n-gt65536.true) }

pub returns-then-n-eq1 : goal.returns-then-n-eq1
returns-then-n-eq1 c =
    record { command = rw (line-one _ c.if-n-eq1.true, ← c.at-letter.ensures) c.read_single.ensures; table = rw (line-one _ c.if-n-eq1.true) (sym (single-keeps _ _)) }

pub returns-then-at-ne32 : goal.returns-then-at-ne32
unfolding said decoded
returns-then-at-ne32 c =
    let joined = line-joined c.args.line.now c.if-n-eq1.false (λ e. c.if-at-ne32.true (c.at.ensures ∙ e)) in record { command = rw joined; table = rw joined }

pub read_call-requires : goal.read_call-requires
read_call-requires c =
    omega (arith, ap length c.after.ensures, length-drop 2 c.args.line.now, c.if-n-gt65536.false)

pub returns : goal.returns
returns c =
    rw (line-call _ c.if-n-gt65536.false c.if-n-eq1.false (sym c.at.ensures ∙ c.if-at-ne32.false), ← c.at-letter.ensures, ← c.after.ensures) c.read_call.ensures
