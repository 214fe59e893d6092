-- The trace of loads, the last section of the counts table: what is read and put back changes nothing, no other cell is written, and levels that were put
-- are read back.
use Rattle.std.specs.Prelude.{◌≡◌, refl, List, [], ◌∷◌, ◌≢◌, ℕ, zero, suc, ◌+◌, ◌*◌, ◌<◌, ◌≤◌, length, get_or, set, take}
use Rattle.std.proofs.Common.{sym, ap, ◌∙◌, arith, length-set, take_all, get_or-set_same, get_or-set_other}
use Rattle.std.proofs.lemmas.List.{set-get_or}
use Rattle.definition.specs.Numbers.{loads_cell, trace_cell, level_cells, trace_limit}
use Rattle.definition.specs.Lists.{stack, write_stack}
use Rattle.definition.specs.Tables.{Level, level, level_at, put_level, put_trace}
use Rattle.layout.specs.Places.{stack-cong, stack-length, write_stack-same, write_stack-above, write_stack-length, stack-written}
use Rattle.layout.specs.Rows.{Anything, all-anything}

-- One level

pub level-same : (t : List ℕ) (i : ℕ) → put_level t i (level_at t i) ≡ t
unfolding put_level level_at
level-same t i =
    let c : ℕ = trace_cell + i * level_cells in
    rw (set-get_or t c 0, set-get_or t (c + 1) 0, set-get_or t (c + 2) 0, set-get_or t (c + 3) 0) (set-get_or t (c + 4) 0)

pub put_level-length : (t : List ℕ) (i : ℕ) (l : Level) → length (put_level t i l) ≡ length t
unfolding put_level
put_level-length t i l = simp length-set

-- a cell that isn't one of its five
pub put_level-other : (t : List ℕ) (i : ℕ) (l : Level) (j : ℕ) → ((m : ℕ) → m < level_cells → j ≢ trace_cell + i * level_cells + m) → get_or (put_level t i l) j 0 ≡ get_or t j 0
unfolding put_level
put_level-other t i l j n =
    let c : ℕ = trace_cell + i * level_cells in
    let z : c + 0 ≡ c = omega arith in
    let t1 : List ℕ = set t c l.classes in
    let t2 : List ℕ = set t1 (c + 1) l.kept in
    let t3 : List ℕ = set t2 (c + 2) l.cache in
    let t4 : List ℕ = set t3 (c + 3) l.ties in
    get_or-set_other t4 (c + 4) j l.subtypes 0 (n 4 (omega arith))
    ∙ (get_or-set_other t3 (c + 3) j l.ties 0 (n 3 (omega arith))
    ∙ (get_or-set_other t2 (c + 2) j l.cache 0 (n 2 (omega arith))
    ∙ (get_or-set_other t1 (c + 1) j l.kept 0 (n 1 (omega arith)) ∙ get_or-set_other t c j l.classes 0 (λ e. n 0 (omega arith) (e ∙ sym z)))))

pub level-other : (t : List ℕ) (i j : ℕ) (l : Level) → i ≢ j → level_at (put_level t j l) i ≡ level_at t i
unfolding level_at
level-other t i j l n =
    let c : ℕ = trace_cell + i * level_cells in
    let at : (m : ℕ) → m < level_cells → get_or (put_level t j l) (c + m) 0 ≡ get_or t (c + m) 0 = λ m h. put_level-other t j l (c + m) (λ k g e. omega arith) in
    let z : c + 0 ≡ c = omega arith in
    λ x. level ((rw z at (at 0 (omega arith))) x) (at 1 (omega arith) x) (at 2 (omega arith) x) (at 3 (omega arith) x) (at 4 (omega arith) x)

pub level-back : (t : List ℕ) (i : ℕ) (l : Level) → trace_cell + i * level_cells + level_cells ≤ length t → level_at (put_level t i l) i ≡ l
unfolding level_at put_level
level-back t i l h =
    let c : ℕ = trace_cell + i * level_cells in
    let t1 : List ℕ = set t c l.classes in
    let t2 : List ℕ = set t1 (c + 1) l.kept in
    let t3 : List ℕ = set t2 (c + 2) l.cache in
    let t4 : List ℕ = set t3 (c + 3) l.ties in
    let n1 : length t1 ≡ length t = length-set t c l.classes in
    let n2 : length t2 ≡ length t = length-set t1 (c + 1) l.kept ∙ n1 in
    let n3 : length t3 ≡ length t = length-set t2 (c + 2) l.cache ∙ n2 in
    let n4 : length t4 ≡ length t = length-set t3 (c + 3) l.ties ∙ n3 in
    let past4 : (j : ℕ) → j < c + 4 → get_or (set t4 (c + 4) l.subtypes) j 0 ≡ get_or t4 j 0 = λ j g. get_or-set_other t4 (c + 4) j l.subtypes 0 (λ e. omega arith) in
    let past3 : (j : ℕ) → j < c + 3 → get_or t4 j 0 ≡ get_or t3 j 0 = λ j g. get_or-set_other t3 (c + 3) j l.ties 0 (λ e. omega arith) in
    let past2 : (j : ℕ) → j < c + 2 → get_or t3 j 0 ≡ get_or t2 j 0 = λ j g. get_or-set_other t2 (c + 2) j l.cache 0 (λ e. omega arith) in
    let past1 : (j : ℕ) → j < c + 1 → get_or t2 j 0 ≡ get_or t1 j 0 = λ j g. get_or-set_other t1 (c + 1) j l.kept 0 (λ e. omega arith) in
    λ x. level
    ((past4 c (omega arith) ∙ (past3 c (omega arith) ∙ (past2 c (omega arith) ∙ (past1 c (omega arith) ∙ get_or-set_same t c l.classes 0 (omega arith))))) x)
    ((past4 (c + 1) (omega arith) ∙ (past3 (c + 1) (omega arith) ∙ (past2 (c + 1) (omega arith) ∙ get_or-set_same t1 (c + 1) l.kept 0 (omega (arith, n1, h))))) x)
    ((past4 (c + 2) (omega arith) ∙ (past3 (c + 2) (omega arith) ∙ get_or-set_same t2 (c + 2) l.cache 0 (omega (arith, n2, h)))) x)
    ((past4 (c + 3) (omega arith) ∙ get_or-set_same t3 (c + 3) l.ties 0 (omega (arith, n3, h))) x)
    (get_or-set_same t4 (c + 4) l.subtypes 0 (omega (arith, n4, h)) x)

-- The section

pub put_trace-length : (ls : List Level) (c : List ℕ) → length (put_trace ls c) ≡ length c
unfolding put_trace
put_trace-length ls c = write_stack-length put_level put_level-length ls (set c loads_cell (length ls)) ∙ length-set c loads_cell (length ls)

levels-before : (ls : List Level) (t : List ℕ) (j : ℕ) → j < trace_cell → get_or (write_stack put_level ls t) j 0 ≡ get_or t j 0
unfolding write_stack
levels-before [] t j l = refl
levels-before (x ∷ xs) t j l = put_level-other (write_stack put_level xs t) (length xs) x j (λ m h e. omega arith) ∙ levels-before xs t j l

-- cells behind what is written stay
levels-behind : (ls : List Level) (t : List ℕ) (j : ℕ) → trace_cell + length ls * level_cells ≤ j → get_or (write_stack put_level ls t) j 0 ≡ get_or t j 0
unfolding write_stack
levels-behind [] t j l = refl
levels-behind (x ∷ xs) t j l = put_level-other (write_stack put_level xs t) (length xs) x j (λ m h e. omega arith) ∙ levels-behind xs t j (omega arith)

-- counts, owners and numbers stay
pub put_trace-before : (ls : List Level) (c : List ℕ) (j : ℕ) → j < loads_cell → get_or (put_trace ls c) j 0 ≡ get_or c j 0
unfolding put_trace
put_trace-before ls c j l = levels-before ls (set c loads_cell (length ls)) j (omega arith) ∙ get_or-set_other c loads_cell j (length ls) 0 (λ e. omega arith)

pub put_trace-behind : (ls : List Level) (c : List ℕ) (j : ℕ) → trace_cell + length ls * level_cells ≤ j → get_or (put_trace ls c) j 0 ≡ get_or c j 0
unfolding put_trace
put_trace-behind ls c j l = levels-behind ls (set c loads_cell (length ls)) j l ∙ get_or-set_other c loads_cell j (length ls) 0 (λ e. omega arith)

-- how many there are, and what they are, is read back
pub loads-back : (ls : List Level) (c : List ℕ) → loads_cell < length c → get_or (put_trace ls c) loads_cell 0 ≡ length ls
unfolding put_trace
loads-back ls c h = levels-before ls (set c loads_cell (length ls)) loads_cell (omega arith) ∙ get_or-set_same c loads_cell (length ls) 0 h

pub trace-back : (ls : List Level) (c : List ℕ) → trace_cell + length ls * level_cells ≤ length c → stack (level_at (put_trace ls c)) (length ls) ≡ ls
unfolding put_trace
trace-back ls c h =
    let d : List ℕ = set c loads_cell (length ls) in
    let n : length d ≡ length c = length-set c loads_cell (length ls) in
    stack-written put_level put_level-length level_at Anything (length d) (length ls)
    (λ s i x e k p. level-back s i x (omega (arith, n, e, h, k))) (λ s i j x k p q. level-other s i j x (λ e. omega arith)) ls (omega arith) (all-anything ls) d refl

-- two counts tables say the same of the trace
abbrev pub SameTrace : List ℕ → List ℕ → Type 0
SameTrace c d = (j : ℕ) → loads_cell ≤ j → get_or d j 0 ≡ get_or c j 0

same-levels : (c d : List ℕ) → ((j : ℕ) → trace_cell ≤ j → get_or d j 0 ≡ get_or c j 0) → (i : ℕ) → level_at c i ≡ level_at d i
unfolding level_at
same-levels c d h i =
    let k : ℕ = trace_cell + i * level_cells in
    λ x. level (sym (h k (omega arith)) x) (sym (h (k + 1) (omega arith)) x) (sym (h (k + 2) (omega arith)) x) (sym (h (k + 3) (omega arith)) x) (sym (h (k + 4) (omega arith)) x)

-- a level is read off cells below m alone, if the row's five are
pub level_before : (c d : List ℕ) (m : ℕ) → ((j : ℕ) → j < m → get_or d j 0 ≡ get_or c j 0) → (i : ℕ) → trace_cell + i * level_cells + level_cells ≤ m → level_at d i ≡ level_at c i
unfolding level_at
level_before c d m h i l =
    let k : ℕ = trace_cell + i * level_cells in
    λ x. level (h k (omega (arith, l)) x) (h (k + 1) (omega (arith, l)) x) (h (k + 2) (omega (arith, l)) x) (h (k + 3) (omega (arith, l)) x) (h (k + 4) (omega (arith, l)) x)

-- the trace as it was read off c, written where it is the same
pub trace-kept : (c d : List ℕ) → SameTrace c d → put_trace (stack (level_at c) (get_or c loads_cell 0)) d ≡ d
unfolding put_trace
trace-kept c d h =
    let n : ℕ = get_or c loads_cell 0 in
    let e : get_or d loads_cell 0 ≡ n = h loads_cell (omega arith) in
    rw (stack-length (level_at c) n, ← e, set-get_or d loads_cell 0, stack-cong (level_at c) (level_at d) (get_or d loads_cell 0) (λ i l. same-levels c d (λ j g. h j (omega arith)) i))
    (write_stack-same put_level (level_at d) d (level-same d) (get_or d loads_cell 0))

-- the oldest n of them: the count alone is written
pub trace-fewer : (c d : List ℕ) (n : ℕ) → SameTrace c d → put_trace (stack (level_at c) n) d ≡ set d loads_cell n
unfolding put_trace
trace-fewer c d n h =
    let e : List ℕ = set d loads_cell n in
    let same : (i : ℕ) → i < n → level_at c i ≡ level_at e i =
    λ i _. same-levels c e (λ j g. get_or-set_other d loads_cell j n 0 (λ z. omega arith) ∙ h j (omega arith)) i in
    rw (stack-length (level_at c) n) (ap (λ (ls : List Level). write_stack put_level ls e) (stack-cong (level_at c) (level_at e) n same) ∙ write_stack-same put_level (level_at e) e (level-same e) n)

-- A load is remembered: of fewer than 32 one level more, of 32 the oldest goes and the others move down by a row

pub remember-few : (c d : List ℕ) (l : Level) (n : ℕ) → n < trace_limit → SameTrace c d → put_trace (take trace_limit (l ∷ stack (level_at c) n)) d ≡ put_level (set d loads_cell (suc n)) n l
unfolding put_trace
remember-few c d l n few h =
    let e : List ℕ = set d loads_cell (suc n) in
    let same : (i : ℕ) → i < n → level_at c i ≡ level_at e i =
    λ i _. same-levels c e (λ j g. get_or-set_other d loads_cell j (suc n) 0 (λ z. omega arith) ∙ h j (omega arith)) i in
    let all : take trace_limit (l ∷ stack (level_at c) n) ≡ l ∷ stack (level_at c) n = take_all trace_limit (l ∷ stack (level_at c) n) (omega (arith, stack-length (level_at c) n)) in
    ap (λ (ls : List Level). write_stack put_level ls (set d loads_cell (length ls))) all
    ∙ (ap (λ (m : ℕ). write_stack put_level (l ∷ stack (level_at c) n) (set d loads_cell (suc m))) (stack-length (level_at c) n)
    ∙ (ap (λ (ls : List Level). write_stack put_level (l ∷ ls) e) (stack-cong (level_at c) (level_at e) n same) ∙ write_stack-above put_level (level_at e) e (level-same e) n l))

stack-oldest : {A : Type 0} (g : ℕ → A) (n : ℕ) → take n (stack g (suc n)) ≡ stack (λ i. g (suc i)) n
unfolding stack
stack-oldest g zero = refl
stack-oldest g (suc n) = λ i. g (suc n) ∷ stack-oldest g n i

pub remember-full : (c d : List ℕ) (l : Level)
    → put_trace (take trace_limit (l ∷ stack (level_at c) trace_limit)) d ≡ put_level (write_stack put_level (stack (λ i. level_at c (suc i)) 31) (set d loads_cell trace_limit)) 31 l
unfolding put_trace write_stack
remember-full c d l =
    let g : ℕ → Level = λ i. level_at c (suc i) in
    ap (λ (ls : List Level). write_stack put_level (l ∷ ls) (set d loads_cell (suc (length ls)))) (stack-oldest (level_at c) 31)
    ∙ ap (λ (m : ℕ). put_level (write_stack put_level (stack g 31) (set d loads_cell (suc m))) m l) (stack-length g 31)

-- as a loop moves them: row k is written where the rows before it were, and what lies from row k on is still as it was
pub moved-down : (g : ℕ → Level) (k : ℕ) (e : List ℕ) → write_stack put_level (stack g (suc k)) e ≡ put_level (write_stack put_level (stack g k) e) k (g k)
unfolding write_stack stack
moved-down g k e = ap (λ (m : ℕ). put_level (write_stack put_level (stack g k) e) m (g k)) (stack-length g k)

pub still-above : (g : ℕ → Level) (k j : ℕ) (e : List ℕ) → k ≤ j → level_at (write_stack put_level (stack g k) e) j ≡ level_at e j
unfolding stack write_stack
still-above g zero j e l = refl
still-above g (suc k) j e l =
    ap (λ (s : List ℕ). level_at s j) (moved-down g k e) ∙ (level-other (write_stack put_level (stack g k) e) j k (g k) (λ z. omega arith) ∙ still-above g k j e (omega arith))
