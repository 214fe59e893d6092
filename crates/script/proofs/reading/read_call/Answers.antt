-- The call by its letter. Only a define writes into the table.
use mathlib.Core.Path.{sym}
use native.Mathlib.Omega.{arith}
use Rattle.std.specs.Prelude.{◌≢◌}
use borrow.Author.Tests.{ne_eqb}
use Rattle.script.specs.Commands.{said, decoded}
use Rattle.script.specs.Calls.{drop-line, define-line, record-line, start-line, no_line, drop_keeps, record-keeps, start-keeps}
use Rattle.script.proofs.reading.read_call.Goals as goal

pub returns-in-68 : goal.returns-in-68
returns-in-68 c = rw (c.in-68.is, define-line) c.read_define.ensures

pub returns-in-82 : goal.returns-in-82
returns-in-82 c =
    record { command = rw (c.in-82.is, record-line) c.read_record.ensures; table = rw (c.in-82.is, record-line) (sym (record-keeps _ _)) }

pub returns-in-83 : goal.returns-in-83
returns-in-83 c =
    record { command = rw (c.in-83.is, start-line) c.read_start.ensures; table = rw (c.in-83.is, start-line) (sym (start-keeps _ _)) }

pub returns-in-88 : goal.returns-in-88
returns-in-88 c =
    record { command = rw (c.in-88.is, drop-line) c.read_drop.ensures; table = rw (c.in-88.is, drop-line) (sym (drop_keeps _ _)) }

pub returns-in_default : goal.returns-in_default
unfolding said decoded
returns-in_default c =
    let b = c.args.letter in
    let d : b ≢ 68 = omega arith in
    let r : b ≢ 82 = omega arith in
    let t : b ≢ 83 = omega arith in
    let x : b ≢ 88 = omega arith in
    let other = no_line b c.args.s.now (ne_eqb _ _ d) (ne_eqb _ _ r) (ne_eqb _ _ t) (ne_eqb _ _ x) in
    record { command = rw other; table = rw other }
