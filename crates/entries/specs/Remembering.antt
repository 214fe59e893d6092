-- A load remembered in the counts: their first five cells stand as the latest level behind the others, and there is one load more; of 32 the oldest goes, and the
-- others move down by a row. More than 32 are no store's, and nothing is written.
use Rattle.std.specs.Prelude.{◌≡◌, ℕ, suc, ◌+◌, ◌*◌, ◌<◌, ◌≤◌, Bool, true, false, List, [], ◌∷◌, length, take, set, nat_le, slice_index, slice_set}
use Rattle.std.proofs.Math.Path.{refl, sym, ap}
use Rattle.std.proofs.Common.{◌∙◌, get_or-set_other, le-leb}
use native.Mathlib.Omega.{arith}
use Rattle.std.proofs.Math.Seq.{set-get_or}
use Rattle.std.proofs.lemmas.Bool.{lt-leb}
use Rattle.definition.specs.Numbers.{loads_cell, trace_cell, level_cells, trace_limit}
use Rattle.definition.specs.Lists.{stack, write_stack}
use Rattle.definition.specs.Tables.{Level, level, level_at, put_level, put_trace}
use Rattle.layout.specs.Places.{write_stack-length}
use Rattle.layout.specs.TracedRows.{put_level-length, put_level-other, put_trace-before, remember-few, remember-full, moved-down, still-above}

-- the level whose five counts stand from a cell on
unfoldable pub level_in : List ℕ → ℕ → Level
level_in c i = level (slice_index c i) (slice_index c (i + 1)) (slice_index c (i + 2)) (slice_index c (i + 3)) (slice_index c (i + 4))

unfoldable pub remembered_in : List ℕ → List ℕ
remembered_in c = elim (nat_le (slice_index c loads_cell) trace_limit) [ true ↦ put_trace (take trace_limit (level_in c 0 ∷ stack (level_at c) (slice_index c loads_cell))) c | false ↦ c ]

-- the rows above the oldest, each moved down by one, the first k of them
unfoldable pub moved_down : List ℕ → ℕ → List ℕ
moved_down c k = write_stack put_level (stack (λ i. level_at c (suc i)) k) c

-- the first five cells stay

same_first : (c d : List ℕ) → ((j : ℕ) → j < 5 → slice_index d j ≡ slice_index c j) → level_in d 0 ≡ level_in c 0
unfolding level_in
same_first c d h = λ i. level (h 0 (omega arith) i) (h 1 (omega arith) i) (h 2 (omega arith) i) (h 3 (omega arith) i) (h 4 (omega arith) i)

pub counted-first : (c : List ℕ) (n : ℕ) → level_in (slice_set c loads_cell n) 0 ≡ level_in c 0
counted-first c n = same_first c (slice_set c loads_cell n) (λ j l. get_or-set_other c loads_cell j n 0 (λ e. omega arith))

levels-first : (ls : List Level) (c : List ℕ) (j : ℕ) → j < 5 → slice_index (write_stack put_level ls c) j ≡ slice_index c j
unfolding write_stack
levels-first [] c j l = refl
levels-first (x ∷ xs) c j l = put_level-other (write_stack put_level xs c) (length xs) x j (λ m h e. omega arith) ∙ levels-first xs c j l

pub moved-first : (c : List ℕ) (k : ℕ) → level_in (moved_down c k) 0 ≡ level_in c 0
unfolding moved_down
moved-first c k = same_first c (moved_down c k) (λ j l. levels-first (stack (λ i. level_at c (suc i)) k) c j l)

module _ (c : List ℕ) (n : ℕ) (loads : n ≡ slice_index c loads_cell) where
  pub remembered-many : trace_limit < n → remembered_in c ≡ c
  unfolding remembered_in
  remembered-many l = rw (lt-leb (slice_index c loads_cell) trace_limit (omega (arith, loads)), remembered_in)

  remembered-within : n ≤ trace_limit → remembered_in c ≡ put_trace (take trace_limit (level_in c 0 ∷ stack (level_at c) n)) c
  unfolding remembered_in
  remembered-within l =
      rw (le-leb (slice_index c loads_cell) trace_limit (omega (arith, loads)), remembered_in) (ap (λ (k : ℕ). put_trace (take trace_limit (level_in c 0 ∷ stack (level_at c) k)) c) (sym loads))

  pub remembered-few : n < trace_limit → put_level (slice_set c loads_cell (n + 1)) n (level_in (slice_set c loads_cell (n + 1)) 0) ≡ remembered_in c
  remembered-few l =
      let e : n + 1 ≡ suc n = omega arith in
      ap (put_level (slice_set c loads_cell (n + 1)) n) (counted-first c (n + 1))
      ∙ (ap (λ (k : ℕ). put_level (slice_set c loads_cell k) n (level_in c 0)) e ∙ sym (remembered-within (omega arith) ∙ remember-few c c (level_in c 0) n l (λ j h. refl)))

  pub remembered-full : n ≤ trace_limit → trace_limit ≤ n → put_level (moved_down c 31) 31 (level_in (moved_down c 31) 0) ≡ remembered_in c
  unfolding moved_down
  remembered-full l m =
      let e : n ≡ trace_limit = omega arith in
      let full : set c loads_cell trace_limit ≡ c = ap (set c loads_cell) (sym e ∙ loads) ∙ set-get_or c loads_cell 0 in
      let all : remembered_in c ≡ put_trace (take trace_limit (level_in c 0 ∷ stack (level_at c) trace_limit)) c =
      remembered-within l ∙ ap (λ (k : ℕ). put_trace (take trace_limit (level_in c 0 ∷ stack (level_at c) k)) c) e in
      ap (put_level (moved_down c 31) 31) (moved-first c 31)
      ∙ sym (all ∙ (remember-full c c (level_in c 0) ∙ ap (λ (d : List ℕ). put_level (write_stack put_level (stack (λ i. level_at c (suc i)) 31) d) 31 (level_in c 0)) full))

-- a row moved down, where the k rows below it have been
pub moved-next : (c d : List ℕ) (k : ℕ) → d ≡ moved_down c k → put_level d k (level_in d (trace_cell + (k + 1) * level_cells)) ≡ moved_down c (k + 1)
unfolding moved_down
moved-next c d k h =
    let e : k + 1 ≡ suc k = omega arith in
    let row : level_in d (trace_cell + (k + 1) * level_cells) ≡ level_at c (suc k) =
    same-level d (k + 1) ∙ (ap (level_at d) e ∙ (ap (λ (x : List ℕ). level_at x (suc k)) h ∙ still-above (λ i. level_at c (suc i)) k (suc k) c (omega arith))) in
    (λ i. put_level (h i) k (row i)) ∙ (sym (moved-down (λ i. level_at c (suc i)) k c) ∙ ap (moved_down c) (sym e))
  where
    same-level : (x : List ℕ) (i : ℕ) → level_in x (trace_cell + i * level_cells) ≡ level_at x i
    same-level x i = unfold level_in level_at in refl

pub moved_none : (c : List ℕ) → c ≡ moved_down c 0
moved_none c = unfold moved_down stack write_stack in refl

pub moved_length : (c : List ℕ) (k : ℕ) → length (moved_down c k) ≡ length c
unfolding moved_down
moved_length c k = write_stack-length put_level put_level-length (stack (λ i. level_at c (suc i)) k) c

pub le_same : {k n : ℕ} → k ≤ n → n ≤ k → k ≡ n
le_same {k} {n} l m = omega arith

-- counts, owners and numbers stay
pub remembered-before : (c : List ℕ) (j : ℕ) → j < loads_cell → slice_index (remembered_in c) j ≡ slice_index c j
unfolding remembered_in
remembered-before c j l = go (nat_le (slice_index c loads_cell) trace_limit)
  where
    ls : List Level
    ls = take trace_limit (level_in c 0 ∷ stack (level_at c) (slice_index c loads_cell))

    go : (b : Bool) → slice_index (elim b as (λ _. List ℕ) [ true ↦ put_trace ls c | false ↦ c ]) j ≡ slice_index c j
    go true = put_trace-before ls c j l
    go false = refl

-- of a store's counts it is the trace put
pub remembered-put : (c : List ℕ) → slice_index c loads_cell ≤ trace_limit → remembered_in c ≡ put_trace (take trace_limit (level_in c 0 ∷ stack (level_at c) (slice_index c loads_cell))) c
remembered-put c l = remembered-within c (slice_index c loads_cell) refl l
