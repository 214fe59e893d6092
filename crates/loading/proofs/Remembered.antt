-- A load remembered before its counts are written is remembered as the definition puts it: counts and numbers lie before the trace, so the order makes no difference.
use mathlib.Core.Path.{◌≡◌, refl, sym, ap, ◌∙◌}
use mathlib.Core.List.{List, [], ◌∷◌}
use Prim.Native.Nat.{ℕ, suc, ◌+◌, ◌*◌, ◌-◌, ◌≤◌}
use native.Mathlib.Omega.{arith}
use lib.ListN.{length, get_or, set, take}
use Rattle.definition.specs.Numbers.{tie_numbers_cell, subtype_numbers_cell, loads_cell, trace_cell, level_cells, trace_limit}
use Rattle.definition.specs.Lists.{write_rows, stack, write_stack}
use Rattle.definition.specs.Classes.{Base}
use Rattle.definition.specs.Tables.{Tables, Level, level, level_of, level_at, put_level, put_trace, put_number, class_row_at, entry_at, tie_at, subtype_at, view_over}
use Rattle.definition.specs.Calls.{numbers_from}
use Rattle.layout.specs.Places.{rows-length, Within, within-set, within_both, within-apart}
use Rattle.layout.specs.View.{remembering}
use Rattle.entries.specs.Remembering.{level_in, remembered_in, remembered-before, remembered-put}
use Rattle.loading.specs.declared.loads.Newcomer.{Newcomer}
use Rattle.loading.specs.Writing.{numbers_on, Grown}
use Rattle.loading.specs.Plans.{counts_over, counts_with}

-- what the counts were is read where they are remembered

pub numbers-same : (c : List ℕ) (i j : ℕ) (x : List ℕ) → numbers_on (remembered_in c) i j x ≡ numbers_on c i j x
unfolding numbers_on
numbers-same c i j x = rw (remembered-before c 3 (omega arith), remembered-before c 4 (omega arith))

pub grown-remembered : (c : List ℕ) (i j : ℕ) → Grown c i j → Grown (remembered_in c) i j
grown-remembered c i j g = record {
  ties = omega (arith, g.ties, remembered-before c 3 (omega arith));
  ties_few = g.ties_few;
  subtypes = omega (arith, g.subtypes, remembered-before c 4 (omega arith));
  subtypes_few = g.subtypes_few;
}

-- where each write lies

within-cells : (xs : List ℕ) (i lo hi : ℕ) → lo ≤ i → i + length xs ≤ hi → Within (λ t. write_rows set xs i t) lo hi
unfolding write_rows
within-cells [] i lo hi a b = λ f h t. refl
within-cells (x ∷ xs) i lo hi a b =
    within_both (λ t. set t i x) (λ t. write_rows set xs (suc i) t) lo hi (within-set i x lo hi a (omega arith)) (within-cells xs (suc i) lo hi (omega arith) (omega arith))

within-numbers : (s : ℕ) (xs : List ℕ) (i lo hi : ℕ) → lo ≤ s + i → s + i + length xs ≤ hi → Within (λ t. write_rows (put_number s) xs i t) lo hi
unfolding write_rows put_number
within-numbers s [] i lo hi a b = λ f h t. refl
within-numbers s (x ∷ xs) i lo hi a b =
    within_both (λ t. set t (s + i) x) (λ t. write_rows (put_number s) xs (suc i) t) lo hi (within-set (s + i) x lo hi a (omega arith)) (within-numbers s xs (suc i) lo hi (omega arith) (omega arith))

within_level : (i : ℕ) (l : Level) (lo hi : ℕ) → lo ≤ trace_cell + i * level_cells → trace_cell + i * level_cells + 5 ≤ hi → Within (λ t. put_level t i l) lo hi
unfolding put_level
within_level i l lo hi a b =
    let c : ℕ = trace_cell + i * level_cells in
    within_both (λ t. set t (c + 4) l.subtypes) (λ t. set (set (set (set t c l.classes) (c + 1) l.kept) (c + 2) l.cache) (c + 3) l.ties) lo hi (within-set (c + 4) l.subtypes lo hi (omega arith) (omega arith))
    (within_both (λ t. set t (c + 3) l.ties) (λ t. set (set (set t c l.classes) (c + 1) l.kept) (c + 2) l.cache) lo hi (within-set (c + 3) l.ties lo hi (omega arith) (omega arith))
    (within_both (λ t. set t (c + 2) l.cache) (λ t. set (set t c l.classes) (c + 1) l.kept) lo hi (within-set (c + 2) l.cache lo hi (omega arith) (omega arith))
    (within_both (λ t. set t (c + 1) l.kept) (λ t. set t c l.classes) lo hi (within-set (c + 1) l.kept lo hi (omega arith) (omega arith)) (within-set c l.classes lo hi a (omega arith)))))

within-levels : (ls : List Level) (lo hi : ℕ) → lo ≤ trace_cell → trace_cell + length ls * level_cells ≤ hi → Within (λ t. write_stack put_level ls t) lo hi
unfolding write_stack
within-levels [] lo hi a b = λ f h t. refl
within-levels (l ∷ ls) lo hi a b =
    within_both (λ t. put_level t (length ls) l) (λ t. write_stack put_level ls t) lo hi (within_level (length ls) l lo hi (omega arith) (omega arith)) (within-levels ls lo hi a (omega arith))

within-trace : (ls : List Level) → Within (put_trace ls) loads_cell (trace_cell + length ls * level_cells)
unfolding put_trace
within-trace ls =
    within_both (λ t. write_stack put_level ls t) (λ t. set t loads_cell (length ls)) loads_cell (trace_cell + length ls * level_cells)
    (within-levels ls loads_cell (trace_cell + length ls * level_cells) (omega arith) (omega arith)) (within-set loads_cell (length ls) loads_cell (trace_cell + length ls * level_cells) (omega arith) (omega arith))

module _ (n : Newcomer) (c d : ℕ) (counts : List ℕ) (g : Grown counts n.tied n.noted) where
  within-counts : Within (counts_over n c d counts) 0 loads_cell
  unfolding counts_over numbers_on
  within-counts =
      let five : List ℕ = c ∷ d ∷ (get_or counts 2 0 + 1) ∷ n.tied ∷ n.noted ∷ [] in
      let ts : List ℕ = numbers_from (get_or counts 3 0 + n.noted) (n.tied - get_or counts 3 0) in
      let ss : List ℕ = numbers_from (get_or counts 3 0 + get_or counts 4 0) (n.noted - get_or counts 4 0) in
      within_both (λ t. write_rows (put_number tie_numbers_cell) ts (get_or counts 3 0) t) (λ t. write_rows (put_number subtype_numbers_cell) ss (get_or counts 4 0) (write_rows set five 0 t)) 0 loads_cell
      (within-numbers tie_numbers_cell ts (get_or counts 3 0) 0 loads_cell (omega arith) (omega (arith, rows-length (λ i. i) (n.tied - get_or counts 3 0) (get_or counts 3 0 + n.noted), g.ties, g.ties_few)))
      (within_both (λ t. write_rows (put_number subtype_numbers_cell) ss (get_or counts 4 0) t) (λ t. write_rows set five 0 t) 0 loads_cell
      (within-numbers subtype_numbers_cell ss (get_or counts 4 0) 0 loads_cell (omega arith) (omega (arith, rows-length (λ i. i) (n.noted - get_or counts 4 0) (get_or counts 3 0 + get_or counts 4 0), g.subtypes, g.subtypes_few)))
      (within-cells five 0 0 loads_cell (omega arith) (omega arith)))

-- of a store, whose level is that of its counts
pub counts-remembered : (n : Newcomer) (c d : ℕ) (b : Base) (t : Tables) → Grown t.counts n.tied n.noted → get_or t.counts loads_cell 0 ≤ trace_limit
    → counts_with n c d t.counts ≡ remembering b t (counts_over n c d t.counts t.counts)
unfolding counts_with view_over level_in
counts-remembered n c d b t g few =
    let counts : List ℕ = t.counts in
    let put : List ℕ → List ℕ = counts_over n c d counts in
    let ls : List Level = take trace_limit (level_in counts 0 ∷ stack (level_at counts) (get_or counts loads_cell 0)) in
    let own : level_in counts 0 ≡ level_of (view_over b t) = λ i. level (sym (rows-length (class_row_at t.classes) (get_or counts 0 0) 0) i) (sym (rows-length (λ i. get_or t.kept i 0) (get_or counts 1 0) 0) i)
    (sym (rows-length (entry_at t.cache) (get_or counts 2 0) 0) i) (sym (rows-length (tie_at t.ties) (get_or counts 3 0) 0) i) (sym (rows-length (subtype_at t.subtypes) (get_or counts 4 0) 0) i) in
    ap put (remembered-put counts few)
    ∙ (within-apart put (put_trace ls) 0 loads_cell loads_cell (trace_cell + length ls * level_cells) (within-counts n c d counts g) (within-trace ls) (λ m k a b x y z. omega (arith, z)) counts
    ∙ ap (λ (l : Level). put_trace (take trace_limit (l ∷ stack (level_at counts) (get_or counts loads_cell 0))) (put counts)) own)
