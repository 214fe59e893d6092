-- A loader and a file. The table is written only if the whole line reads.
use mathlib.Core.Path.{sym, ap, ◌∙◌}
use lib.ListN.{length, length-drop}
use native.Mathlib.Omega.{arith}
use Rattle.cells.specs.Optional.{optional-none, optional-some}
use Rattle.definition.specs.Maybe.{◌>>=◌}
use Rattle.script.specs.Commands.{said, decoded, command_of, file_onto}
use Rattle.script.specs.Files.{pairs-length, file-quick, file-none}
use Rattle.script.specs.Calls.{with_head, define_line}
use Rattle.script.proofs.reading.read_define.Goals as goal

pub returns-in_err-loader : goal.returns-in_err-loader
unfolding define_line with_head said decoded
returns-in_err-loader c =
    let absent = optional-none _ (sym c.in_err-loader.ensures) in record { command = rw (c.from_residual.ensures, absent); table = rw absent }

pub returns-then-not-is_file : goal.returns-then-not-is_file
unfolding define_line with_head said decoded ◌>>=◌
returns-then-not-is_file c =
    let head = optional-some _ _ (sym c.in_ok-loader.ensures) in
    let bad = file-none _ (sym c.is_file.ensures ∙ c.if-not-is_file.true) in
    record { command = rw (head, ← c.after-t.ensures, bad); table = rw (head, ← c.after-t.ensures, bad) }

pub overflow_cast-result : goal.overflow_cast-result
overflow_cast-result c = omega (arith, ap length c.after-t.ensures, length-drop c.in_ok-loader.loader.rest c.args.s.now, c.requires)

pub returns : goal.returns
unfolding define_line with_head said decoded ◌>>=◌ command_of file_onto
returns c =
    let head = optional-some _ _ (sym c.in_ok-loader.ensures) in
    let good = file-quick _ (sym c.is_file.ensures ∙ c.if-not-is_file.false) in
    record { command = rw (head, ← c.after-t.ensures, good, pairs-length); table = rw (head, ← c.after-t.ensures, good) c.decode.ensures }
