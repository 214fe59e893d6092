-- The rows and files of a list of calls fit the tables that a drive takes: cells of 32 bits, and bytes.
use Rattle.std.specs.Prelude.{List, [], ◌∷◌, ℕ, ◌+◌, ◌<◌, length}
use Rattle.std.proofs.Common.{arith, length-append}
use Rattle.definition.specs.Calls.{row_define, row_record, row_start, row_drop, row_sweep, row_try, row_take_back, load_define, load_record, Call, call_boot, call_rows, call_step, call_run}
use Rattle.definition.specs.Widths.{EachBelow, Fitting}
use Rattle.layout.specs.Tests.{All}
use Rattle.widths.specs.Below.{below_both}
use Rattle.driver.specs.Encoding.{file_of, row_of, files_of, cells_of}

-- a call's numbers have 32 bits, as the machine's code takes them
abbrev pub Narrow : Call → Type 0
Narrow call_boot = Unit {0}
Narrow (call_rows (row_define l bs)) = l < 4294967296
Narrow (call_rows (row_record l n c)) = (l < 4294967296) × (n < 4294967296) × (c < 4294967296)
Narrow (call_rows (row_start k l n m v)) = (k < 4294967296) × (l < 4294967296) × (n < 4294967296) × (m < 4294967296) × (v < 4294967296)
Narrow call_step = Unit {0}
Narrow (call_run n) = n < 4294967296
Narrow (call_rows (row_drop k)) = k < 4294967296
Narrow (call_rows row_sweep) = Unit {0}
Narrow (call_rows row_take_back) = Unit {0}
Narrow (call_rows (row_try (load_define l bs) n)) = (l < 4294967296) × (n < 4294967296)
Narrow (call_rows (row_try (load_record l m c) n)) = (l < 4294967296) × (m < 4294967296) × (c < 4294967296) × (n < 4294967296)

row_fits : (c : Call) (s : ℕ) → Narrow c → s + length (file_of c) < 4294967296 → EachBelow 4294967296 (row_of c s)
unfolding row_of file_of
row_fits call_boot s n h = (omega arith, (omega arith, (omega arith, (omega arith, (omega arith, (omega arith, tt))))))
row_fits (call_rows (row_define l bs)) s n h = (omega arith, (n, (omega arith, (omega arith, (omega arith, (omega arith, tt))))))
row_fits (call_rows (row_record l m c)) s n h = (omega arith, (n.0, (n.1, (n.2, (omega arith, (omega arith, tt))))))
row_fits (call_rows (row_start k l m j v)) s n h = (omega arith, (n.0, (n.1, (n.2, (n.3, (n.4, tt))))))
row_fits call_step s n h = (omega arith, (omega arith, (omega arith, (omega arith, (omega arith, (omega arith, tt))))))
row_fits (call_run m) s n h = (omega arith, (n, (omega arith, (omega arith, (omega arith, (omega arith, tt))))))
row_fits (call_rows (row_drop k)) s n h = (omega arith, (n, (omega arith, (omega arith, (omega arith, (omega arith, tt))))))
row_fits (call_rows row_sweep) s n h = (omega arith, (omega arith, (omega arith, (omega arith, (omega arith, (omega arith, tt))))))
row_fits (call_rows row_take_back) s n h = (omega arith, (omega arith, (omega arith, (omega arith, (omega arith, (omega arith, tt))))))
row_fits (call_rows (row_try (load_define l bs) k)) s n h = (omega arith, (n.0, (omega arith, (omega arith, (n.1, (omega arith, tt))))))
row_fits (call_rows (row_try (load_record l m c) k)) s n h = (omega arith, (n.0, (n.1, (n.2, (n.3, (omega arith, tt))))))

cells_fit : (cs : List Call) (s : ℕ) → All Narrow cs → s + length (files_of cs) < 4294967296 → EachBelow 4294967296 (cells_of cs s)
unfolding cells_of files_of
cells_fit [] s n h = tt
cells_fit (c ∷ cs) s n h =
    let e = length-append (file_of c) (files_of cs) in
    below_both 4294967296 (row_of c s) (cells_of cs (s + length (file_of c))) (row_fits c s n.0 (omega (arith, e))) (cells_fit cs (s + length (file_of c)) n.1 (omega (arith, e)))

-- the rows of calls whose numbers have 32 bits, where the files' bytes can be counted with 32 bits
pub encoded-fits : (cs : List Call) → All Narrow cs → length (files_of cs) < 4294967296 → EachBelow 4294967296 (cells_of cs 0)
encoded-fits cs n h = cells_fit cs 0 n (omega arith)

file-fits : (c : Call) → Fitting c → EachBelow 256 (file_of c)
unfolding file_of
file-fits call_boot f = tt
file-fits (call_rows (row_define l bs)) f = f
file-fits (call_rows (row_record l n c)) f = tt
file-fits (call_rows (row_start k l n m v)) f = tt
file-fits call_step f = tt
file-fits (call_run n) f = tt
file-fits (call_rows (row_drop k)) f = tt
file-fits (call_rows row_sweep) f = tt
file-fits (call_rows row_take_back) f = tt
file-fits (call_rows (row_try (load_define l bs) n)) f = f
file-fits (call_rows (row_try (load_record l m c) n)) f = tt

-- the files' bytes
pub files-fit : (cs : List Call) → All Fitting cs → EachBelow 256 (files_of cs)
unfolding files_of
files-fit [] f = tt
files-fit (c ∷ cs) f = below_both 256 (file_of c) (files_of cs) (file-fits c f.0) (files-fit cs f.1)
