-- What a line that was read says, as a command, and what it leaves in the table for a file's bytes.
use Rattle.std.specs.Prelude.{◌≡◌, List, ℕ, length, set}
use Rattle.std.specs.Prelude as P
use Rattle.std.proofs.Math.Option.{Option, none, some}
use Rattle.cells.specs.Optional.{optional}
use Rattle.definition.specs.Lists.{write_rows}
use Rattle.definition.specs.Calls.{row_define, row_record, row_start, row_drop, row_sweep, row_try, row_take_back, Call, call_boot, call_rows, call_step, call_run}
use Rattle.definition.specs.Script.{Line}
pub use Rattle.script.specs.declared.Command.{Command}
pub use Rattle.script.specs.declared.Command.TheVariants.{Record, Define, Start, Step, Drop}

-- a define says its file's length; no line asks for a boot, a run, a sweep or a try
unfoldable pub command_of : Call → Option Command
command_of call_boot = none
command_of (call_rows (row_define l bs)) = some (Define l (length bs))
command_of (call_rows (row_record l n c)) = some (Record l n c)
command_of (call_rows (row_start k l n m i)) = some (Start k l n m i)
command_of call_step = some Step
command_of (call_run n) = none
command_of (call_rows (row_drop k)) = some (Drop k)
command_of (call_rows row_sweep) = none
command_of (call_rows row_take_back) = none
command_of (call_rows (row_try c m)) = none

unfoldable pub said : Option Line → P.Option Command
said none = P.None
said (some l) = optional (command_of l.call)

-- a file's bytes are written from the table's front; other calls leave it
unfoldable pub file_onto : Call → List ℕ → List ℕ
file_onto call_boot t = t
file_onto (call_rows (row_define l bs)) t = write_rows set bs 0 t
file_onto (call_rows (row_record l n c)) t = t
file_onto (call_rows (row_start k l n m i)) t = t
file_onto call_step t = t
file_onto (call_run n) t = t
file_onto (call_rows (row_drop k)) t = t
file_onto (call_rows row_sweep) t = t
file_onto (call_rows row_take_back) t = t
file_onto (call_rows (row_try c m)) t = t

unfoldable pub decoded : Option Line → List ℕ → List ℕ
decoded none t = t
decoded (some l) t = file_onto l.call t

-- what reading a line answers, with the table for a file's bytes before and after
pub record Read (l : Option Line) (r : P.Option Command) (before after : List ℕ) : Type 0 where
  pub command : r ≡ said l
  pub table : after ≡ decoded l before
