-- The call that a command asks for and the size of its file; with the file that was read they are the call of the line.
use Rattle.std.specs.Prelude as Std
use Rattle.std.specs.Prelude.{◌≡◌, refl, Some, None, List, ℕ, ◌+◌, ◌≤◌, length, take, drop, set}
use Rattle.std.proofs.Common.{ap, subst, arith}
use Rattle.std.proofs.Math.Option.{Option, none, some}
use Rattle.std.proofs.Math.Seq.{take-append_seam}
use Rattle.definition.specs.Lists.{write_rows}
use Rattle.definition.specs.Calls as defs
use Rattle.definition.specs.Calls.{row_define, row_record, row_start, row_drop, row_sweep, row_try, row_take_back, call_boot, call_rows, call_define, call_step, call_run}
use Rattle.definition.specs.Script.{Line, read_line}
use Rattle.layout.specs.Cells.{cells-block}
use Rattle.cells.specs.Optional.{optional}
pub use Rattle.script.specs.declared.Command.{Command}
use Rattle.script.specs.declared.Command.TheVariants as commands
use Rattle.script.specs.Commands.{command_of, said, file_onto, decoded, Read}
use Rattle.script.specs.Facts as facts
use Rattle.script.specs.Facts.{line-facts}
use Rattle.calls.specs.declared.Call.{Call}
use Rattle.calls.specs.declared.Call.TheVariants as made
use Rattle.calls.specs.Made.{call_of}

unfoldable pub call_by : Command → Call
call_by (commands.Record l n c) = made.Record l n c
call_by (commands.Define l size) = made.Define l
call_by (commands.Start k l n m v) = made.Start k l n m v
call_by commands.Step = made.Step
call_by (commands.Drop k) = made.Drop k

unfoldable pub file_size : Command → ℕ
file_size (commands.Record l n c) = 0
file_size (commands.Define l size) = size
file_size (commands.Start k l n m v) = 0
file_size commands.Step = 0
file_size (commands.Drop k) = 0

-- the command of a line that was read, with its file at the front of the table `file`; or no line
unfoldable pub Heard : Option Line → Std.Option Command → List ℕ → Type 0
Heard none None file = Unit {0}
Heard none (Some c) file = ⊥
Heard (some l) None file = ⊥
Heard (some l) (Some c) file = (file_size c ≤ length file) × (call_of (call_by c) (take (file_size c) file) ≡ l.call)

-- Laws

-- a file written at the front of a table that has room for it
front : (bs t : List ℕ) → length bs ≤ length t → take (length bs) (write_rows set bs 0 t) ≡ bs
front bs t h = rw (cells-block bs 0 t (omega arith)) (take-append_seam bs (drop (0 + length bs) t))

-- the command that a line says, read off the table after its file was written there
call-heard : (l : Line) (before after : List ℕ) → facts.Asked 32768 l.call → 32768 ≤ length before → after ≡ file_onto l.call before
    → length after ≡ length before → Heard (some l) (optional (command_of l.call)) after
unfolding Heard call_by file_size command_of call_of file_onto
call-heard l before after a h e k = step l.call a e
  where
    step : (c : defs.Call) → facts.Asked 32768 c → after ≡ file_onto c before → Heard (some (record { letter = l.letter; call = c })) (optional (command_of c)) after
    step call_boot a e = absurd a
    step (call_rows (row_define i bs)) a e = (omega arith, ap (call_define i) (rw e (front bs before (omega arith))))
    step (call_rows (row_record i n c)) a e = (omega arith, refl)
    step (call_rows (row_start j i n m v)) a e = (omega arith, refl)
    step call_step a e = (omega arith, refl)
    step (call_run n) a e = absurd a
    step (call_rows (row_drop j)) a e = (omega arith, refl)
    step (call_rows row_sweep) a e = absurd a
    step (call_rows row_take_back) a e = absurd a
    step (call_rows (row_try c m)) a e = absurd a

pub heard : (s : List ℕ) (r : Std.Option Command) (before after : List ℕ) → Read (read_line s) r before after → 32768 ≤ length before → length after ≡ length before
    → Heard (read_line s) r after
unfolding Heard said decoded
heard s r before after p h k = step (read_line s) refl p.command p.table
  where
    step : (o : Option Line) → read_line s ≡ o → r ≡ said o → after ≡ decoded o before → Heard o r after
    step none q e f = rw e tt
    step (some l) q e f = rw e (call-heard l before after (line-facts s l q).asked h f k)

-- a file lies within its table
pub heard-small : (o : Option Line) (r : Std.Option Command) (file : List ℕ) (c : Command) → Heard o r file → r ≡ Some c → file_size c ≤ length file
unfolding Heard
heard-small none r file c h e = absurd (subst (λ (a : Std.Option Command). Heard none a file) e h)
heard-small (some l) r file c h e = (subst (λ (a : Std.Option Command). Heard (some l) a file) e h).0
