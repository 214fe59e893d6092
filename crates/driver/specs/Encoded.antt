-- A list of calls as a table: rows of six cells, a kind and the call's numbers. A define's file, tried or not, is a part of a table of bytes.
use Rattle.std.proofs.Math.Option.{Option, none, some}
use Rattle.std.specs.Prelude.{List, [], ◌∷◌, ℕ, zero, suc, ◌+◌, ◌*◌, ◌/◌, length, get_or, eqb, leb}
use Rattle.definition.specs.Instructions.{pick}
use Rattle.definition.specs.Calls.{Call, call_boot, call_define, call_record, call_start, call_step, call_run, call_drop, call_sweep, call_try, call_take_back, load_define, load_record}
use Rattle.classfile.specs.Reading.{part_of}

-- cells of a row of the list, and of an answer's row
abbrev pub call_cells : ℕ
call_cells = 6

abbrev pub answer_cells : ℕ
answer_cells = 3

-- the kind of row i, and the number in its cell k
unfoldable pub kind_in : List ℕ → ℕ → ℕ
kind_in cells i = get_or cells (i * call_cells) 0

unfoldable pub cell_in : List ℕ → ℕ → ℕ → ℕ
cell_in cells i k = get_or cells (i * call_cells + k) 0

-- the file that row i names by its start and size; no bytes if it lies outside
unfoldable pub file_in : List ℕ → List ℕ → ℕ → List ℕ
file_in cells files i = part_of files (cell_in cells i 2) (cell_in cells i 3)

-- the call of row i; none if the kind is no kind, the file lies outside, or a start's name or method is no 16-bit number
unfoldable pub call_in : List ℕ → List ℕ → ℕ → Option Call
call_in cells files i =
    let k = kind_in cells i in
    let n = cell_in cells i in
    pick (eqb k 0) (some call_boot)
    (pick (eqb k 1) (pick (leb (n 2 + n 3) (length files)) (some (call_define (n 1) (file_in cells files i))) none)
    (pick (eqb k 2) (some (call_record (n 1) (n 2) (n 3)))
    (pick (eqb k 3) (pick (leb (n 3) 65535) (pick (leb (n 4) 65535) (some (call_start (n 1) (n 2) (n 3) (n 4) (n 5))) none) none)
    (pick (eqb k 4) (some call_step)
    (pick (eqb k 5) (some (call_run (n 1)))
    (pick (eqb k 6) (some (call_drop (n 1)))
    (pick (eqb k 7) (some call_sweep)
    (pick (eqb k 8) (pick (leb (n 2 + n 3) (length files)) (some (call_try (load_define (n 1) (file_in cells files i)) (n 4))) none)
    (pick (eqb k 9) (some (call_try (load_record (n 1) (n 2) (n 3)) (n 4)))
    (pick (eqb k 10) (some call_take_back) none))))))))))

-- the calls of k rows from row i on, up to the first that has none
unfoldable pub calls_from : (ℕ → Option Call) → ℕ → ℕ → List Call
calls_from g zero i = []
calls_from g (suc k) i = elim (g i) [ none ↦ [] | some c ↦ c ∷ calls_from g k (suc i) ]

unfoldable pub calls_in : List ℕ → List ℕ → List Call
calls_in cells files = calls_from (call_in cells files) (length cells / call_cells) 0
