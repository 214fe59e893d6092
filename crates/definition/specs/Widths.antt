-- The widths of cells and arguments: bytes, 16-bit numbers and 32-bit numbers.
use Rattle.std.specs.Prelude.{List, [], ◌∷◌, ℕ, ◌<◌}
use Rattle.definition.specs.Numbers.{byte_range, short_range, int_range}
use Rattle.definition.specs.Tables.{Tables}
use Rattle.definition.specs.Calls.{Load, load_define, load_record, RowCall, row_define, row_record, row_start, row_drop, row_sweep, row_try, row_take_back, Call, call_boot, call_rows, call_step, call_run}

-- each number is below w
abbrev pub EachBelow : ℕ → List ℕ → Type 0
EachBelow w [] = Unit {0}
EachBelow w (x ∷ xs) = (x < w) × EachBelow w xs

pub record Widths (t : Tables) : Type 0 where
  pub counts : EachBelow short_range t.counts
  pub classes : EachBelow short_range t.classes
  pub kept : EachBelow byte_range t.kept
  pub cache : EachBelow short_range t.cache
  pub ties : EachBelow short_range t.ties
  pub subtypes : EachBelow short_range t.subtypes
  pub objects : EachBelow int_range t.objects
  pub frames : EachBelow int_range t.frames

-- a call's arguments have their widths: bytes in a file, 16-bit names, an int of 32 bits

abbrev pub FittingLoad : Load → Type 0
FittingLoad (load_define l bs) = EachBelow byte_range bs
FittingLoad (load_record l n c) = n < short_range

abbrev pub FittingRows : RowCall → Type 0
FittingRows (row_define l bs) = FittingLoad (load_define l bs)
FittingRows (row_record l n c) = FittingLoad (load_record l n c)
FittingRows (row_start k l n m v) = v < int_range
FittingRows (row_drop k) = Unit {0}
FittingRows row_sweep = Unit {0}
FittingRows (row_try c n) = FittingLoad c
FittingRows row_take_back = Unit {0}

abbrev pub Fitting : Call → Type 0
Fitting call_boot = Unit {0}
Fitting (call_rows c) = FittingRows c
Fitting call_step = Unit {0}
Fitting (call_run n) = Unit {0}
