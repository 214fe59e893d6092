-- The numbers of the rows of ties and of subtype constraints. On a store that isn't broken those of k rows are exactly 0 to k − 1 and rise along each table. An
-- accepted define numbers on the subtype constraints that it posts, then its ties; a step numbers on its ties; boot starts with none; every other call leaves every number.
use Rattle.std.specs.Prelude.{◌≡◌, refl, true, false, ℕ, ◌+◌, ◌≤◌, ◌<◌, length, drop}
use Rattle.std.proofs.Common.{sym, ap, ◌∙◌, arith, length-append, take-append-drop}
use mathlib.Core.List.{List, [], ◌∷◌, ◌++◌, append-nil, append_assoc}
use Rattle.definition.specs.declared.Answer.{Answer}
use Rattle.definition.specs.declared.Answer.TheVariants.{Refused}
use Rattle.definition.specs.declared.Reply.{Reply}
use Rattle.definition.specs.declared.Reply.TheVariants.{Denied}
use Rattle.definition.specs.Constraints.{Tie, Subtype, World}
use Rattle.definition.specs.Loading.{started}
use Rattle.definition.specs.Machine.{Objects, Exists, Frame, Progress}
use Rattle.definition.specs.Tables.{Tables, shaped, row_numbers, Level, Rows, cut_to, frames_in, world_of, view}
use Rattle.definition.specs.Broken.{broken}
use Rattle.definition.specs.Calls.{Given, closed, taken_back, boot_rows, boot, numbers_from, numbered_on, progressed, define_rows, record_rows, start_rows, drop_rows, sweep_rows, step_task, step_on, step_rows, RowCall, row_define, row_record, row_start, row_drop, row_sweep, row_try, row_take_back, on_row_call, call_rows, step_tables, run, perform}
use Rattle.laws.specs.Runs.{run-keeps}
use Rattle.laws.specs.Wrapped.{Ok, ok_at, then}
use Rattle.laws.specs.Tried.{try-leaves}
use Rattle.layout.specs.Tests.{All}
use Rattle.layout.specs.Places.{rows_both}
use Rattle.layout.specs.Whole.{Framed, Whole}
use Rattle.layout.specs.InTurn.{InWords, in-turn-words}
use Rattle.layout.specs.NumberedRows.{numbered-on, ties-numbered-on, none-numbered-on}
use Rattle.layout.specs.ReadBack.{shaped-true, view-put}
use Rattle.layout.specs.Unbroken.{broken-false}
use Rattle.unbroken.specs.Accepted.{defined-is}
use Rattle.unbroken.specs.Steps.{Moved, step-moves}
use Rattle.unbroken.specs.WholeRows.{W, N, ready}
use Rattle.unbroken.specs.Calls.{boot-whole, rows_whole, step-whole}
use Rattle.unbroken.specs.Unbroken.{shown}

-- each row has a number, and the numbers are what the paper says
pub record RowsNumbered (r : Rows) : Type 0 where
  pub ties : length r.numbers.ties ≡ length r.ties
  pub subtypes : length r.numbers.subtypes ≡ length r.subtypes
  pub words : InWords r.numbers

pub rows-numbered : (t : Tables) → broken t ≡ false → RowsNumbered (view t)
rows-numbered t h = let n = (broken-false t h).1.numbers in record { ties = n.ties; subtypes = n.subtypes; words = in-turn-words (view t).numbers n.turn }

-- how many rows there are: the next number
abbrev pub next_number : Rows → ℕ
next_number r = length r.ties + length r.subtypes

-- rows posted behind those of r: subtype constraints are numbered on first, then ties
pub record Posts (r s : Rows) : Type 0 where
  pub new_ties : List Tie
  pub new_subtypes : List Subtype
  pub ties : s.ties ≡ r.ties ++ new_ties
  pub subtypes : s.subtypes ≡ r.subtypes ++ new_subtypes
  pub numbers : s.numbers
      ≡ row_numbers (r.numbers.ties ++ numbers_from (next_number r + length new_subtypes) (length new_ties)) (r.numbers.subtypes ++ numbers_from (next_number r) (length new_subtypes))

-- ties alone
pub record PostsTies (r s : Rows) : Type 0 where
  pub new_ties : List Tie
  pub ties : s.ties ≡ r.ties ++ new_ties
  pub subtypes : s.subtypes ≡ r.subtypes
  pub numbers : s.numbers ≡ row_numbers (r.numbers.ties ++ numbers_from (next_number r) (length new_ties)) r.numbers.subtypes

-- none
posts-none : (r : Rows) → Posts r r
posts-none r = record {
  new_ties = [];
  new_subtypes = [];
  ties = sym (append-nil r.ties);
  subtypes = sym (append-nil r.subtypes);
  numbers = sym (none-numbered-on r) ∙ ((λ i. numbered_on (sym (append-nil r.ties) i) (sym (append-nil r.subtypes) i) r) ∙ numbered-on r [] []);
}

posts-no-ties : (r : Rows) → PostsTies r r
posts-no-ties r = record {
  new_ties = [];
  ties = sym (append-nil r.ties);
  subtypes = refl;
  numbers = sym (none-numbered-on r) ∙ (ap (λ (z : List Tie). numbered_on z r.subtypes r) (sym (append-nil r.ties)) ∙ ties-numbered-on r []);
}

define-posts : (l : ℕ) (bs : List ℕ) (r : Rows) → Ok (define_rows l bs r) (λ g. Posts r g.rows)
unfolding define_rows
define-posts l bs r = then P _ _ (λ _ _. then P _ _ (λ f _. then P _ _ (λ v e.
    let d = defined-is _ _ _ v e in
    let ts = ap (λ (w : World). w.ties) d.is in
    let ss = ap (λ (w : World). w.subtypes) d.is in
    record {
      new_ties = _;
      new_subtypes = _;
      ties = sym ts;
      subtypes = sym ss;
      numbers = ap (λ (w : World). numbered_on w.ties w.subtypes r) (sym d.is) ∙ numbered-on r _ _;
    })))
  where
    P : Given Reply → Type 0
    P g = Posts r g.rows

-- a start posts nothing
started-world : (k l n m v : ℕ) (w : World) (os : Objects) (fs : List Frame) → Ok (started k l n m v w os fs) (λ o. o.world ≡ w)
unfolding started
started-world k l n m v w os fs = then S _ _ (λ _ _. then S _ _ (λ _ _. then S _ _ (λ _ _. then S _ _ (λ _ _. then S _ _ (λ _ _. then S _ _ (λ _ _. refl))))))
  where
    S : Progress → Type 0
    S o = o.world ≡ w

abbrev SameNumbers : Rows → Given Reply → Type 0
SameNumbers r g = g.rows.numbers ≡ r.numbers

record-numbers : (l n c : ℕ) (r : Rows) → Ok (record_rows l n c r) (SameNumbers r)
unfolding record_rows
record-numbers l n c r = then (SameNumbers r) _ _ (λ _ _. refl)

start-numbers : (k l n m v : ℕ) (r : Rows) → Ok (start_rows k l n m v r) (SameNumbers r)
unfolding start_rows
start-numbers k l n m v r = then (SameNumbers r) _ _ (λ _ _. then (SameNumbers r) _ _ (λ o e.
    let q = ok_at (λ o. o.world ≡ world_of r) _ (started-world k l n m v (world_of r) r.objects (frames_in k r)) o e in
    ap (λ (w : World). numbered_on w.ties r.subtypes r) q ∙ none-numbered-on r))

drop-numbers : (k : ℕ) (r : Rows) → Ok (drop_rows k r) (SameNumbers r)
unfolding drop_rows
drop-numbers k r = then (SameNumbers r) _ _ (λ _ _. refl)

sweep-numbers : (r : Rows) → Ok (sweep_rows r) (SameNumbers r)
unfolding sweep_rows
sweep-numbers r = refl

-- a step of whole rows posts ties

progress-posts : (k : ℕ) (r : Rows) (w : Whole r) (o : Progress) → Moved (W r w) (N r w) r.objects o → PostsTies r (progressed k r o)
progress-posts k r w o m = record {
  new_ties = m.fresh;
  ties = m.behind;
  subtypes = refl;
  numbers = ap (λ (z : List Tie). numbered_on z r.subtypes r) m.behind ∙ ties-numbered-on r m.fresh;
}

posts-closed : (r s : Rows) → PostsTies r s → PostsTies r (closed s)
posts-closed r s p = record { new_ties = p.new_ties; ties = p.ties; subtypes = p.subtypes; numbers = p.numbers }

step-posts : (r : Rows) → Whole r → Ok (step_rows r) (λ g. PostsTies r g.rows)
unfolding step_rows
step-posts r w = go r.quote r.report w.quote w.report w.limits.quote w.limits.report
  where
    P : Given Answer → Type 0
    P g = PostsTies r g.rows

    task : (k : ℕ) → k < 2 → (f : Frame) (fs : List Frame) → All (Framed (N r w) (Exists r.objects)) (f ∷ fs) → length (f ∷ fs) ≤ 32 → Ok (step_task k (world_of r) f fs r) P
    task k two f fs a c = unfold step_task in
        then P _ _ (λ o e. posts-closed r _ (progress-posts k r w o (ok_at _ _ (step-moves (W r w) (N r w) r.objects (ready r w) k two f fs a c) o e)))

    go : (q p : List Frame) → All (Framed (N r w) (Exists r.objects)) q → All (Framed (N r w) (Exists r.objects)) p → length q ≤ 32 → length p ≤ 32 → Ok (step_on q p (world_of r) r) P
    go (f ∷ fs) p a b c d = unfold step_on in task 0 (omega arith) f fs a c
    go [] (f ∷ fs) a b c d = unfold step_on in task 1 (omega arith) f fs b d
    go [] [] a b c d = unfold step_on in posts-no-ties r

-- Boot starts with none
pub boot-numbers : (t : Tables) → shaped t ≡ true → (view (boot t).tables).numbers ≡ row_numbers [] []
unfolding boot
boot-numbers t h = rw (h, boot) (ap (λ (r : Rows). r.numbers) (view-put boot_rows t (shaped-true t h) boot-whole))

-- A taking back leaves the first of them

pub record FirstNumbers (r s : Rows) : Type 0 where
  pub behind_ties : List ℕ
  pub behind_subtypes : List ℕ
  pub is : r.numbers ≡ row_numbers (s.numbers.ties ++ behind_ties) (s.numbers.subtypes ++ behind_subtypes)

taken-numbers : (ls : List Level) (r : Rows) → Ok (taken_back ls r) (λ g. FirstNumbers r g.rows)
unfolding taken_back cut_to
taken-numbers [] r = tt
taken-numbers (l ∷ ls) r = record {
  behind_ties = drop l.ties r.numbers.ties;
  behind_subtypes = drop l.subtypes r.numbers.subtypes;
  is = λ i. row_numbers (sym (take-append-drop l.ties r.numbers.ties) i) (sym (take-append-drop l.subtypes r.numbers.subtypes) i);
}

-- Every call on rows, and a step, whatever the tables hold

abbrev pub NumbersBy : RowCall → Rows → Rows → Type 0
NumbersBy (row_define l bs) r s = Posts r s
NumbersBy (row_record l n c) r s = s.numbers ≡ r.numbers
NumbersBy (row_start k l n m v) r s = s.numbers ≡ r.numbers
NumbersBy (row_drop k) r s = s.numbers ≡ r.numbers
NumbersBy row_sweep r s = s.numbers ≡ r.numbers
NumbersBy (row_try c n) r s = s.numbers ≡ r.numbers
NumbersBy row_take_back r s = FirstNumbers r s

numbers-same : (c : RowCall) (r : Rows) → NumbersBy c r r
numbers-same (row_define l bs) r = posts-none r
numbers-same (row_record l n c) r = refl
numbers-same (row_start k l n m v) r = refl
numbers-same (row_drop k) r = refl
numbers-same row_sweep r = refl
numbers-same (row_try c n) r = refl
numbers-same row_take_back r = record { behind_ties = []; behind_subtypes = []; is = λ i. row_numbers (sym (append-nil r.numbers.ties) i) (sym (append-nil r.numbers.subtypes) i) }

pub rows-numbers : (c : RowCall) (r : Rows) → Ok (on_row_call c r) (λ g. NumbersBy c r g.rows)
rows-numbers (row_define l bs) r = define-posts l bs r
rows-numbers (row_record l n c) r = record-numbers l n c r
rows-numbers (row_start k l n m v) r = start-numbers k l n m v r
rows-numbers (row_drop k) r = drop-numbers k r
rows-numbers row_sweep r = sweep-numbers r
rows-numbers (row_try c n) r = try-leaves (λ s. s.numbers ≡ r.numbers) c n r refl
rows-numbers row_take_back r = taken-numbers r.trace r

pub call-numbers : (c : RowCall) (t : Tables) → NumbersBy c (view t) (view (perform (call_rows c) t).tables)
unfolding perform
call-numbers c t = shown Denied (on_row_call c) (λ _ s. NumbersBy c (view t) s) t (λ r w. rows_whole r w c) (λ w. numbers-same c (view t))
    (λ _ g e. ok_at (λ (g : Given Reply). NumbersBy c (view t) g.rows) _ (rows-numbers c (view t)) g e)

pub step-numbers : (t : Tables) → PostsTies (view t) (view (step_tables t).tables)
unfolding step_tables
step-numbers t = shown Refused step_rows (λ _ s. PostsTies (view t) s) t step-whole (λ w. posts-no-ties (view t))
    (λ w g e. ok_at (λ (g : Given Answer). PostsTies (view t) g.rows) _ (step-posts (view t) w) g e)

-- so a run posts ties, numbered on in order

posts-then : (r s q : Rows) → PostsTies r s → PostsTies s q → PostsTies r q
posts-then r s q a b = record {
  new_ties = a.new_ties ++ b.new_ties;
  ties = b.ties ∙ (ap (λ (z : List Tie). z ++ b.new_ties) a.ties ∙ append_assoc r.ties a.new_ties b.new_ties);
  subtypes = b.subtypes ∙ a.subtypes;
  numbers = b.numbers ∙ (λ i. row_numbers (ties i) (a.numbers i).subtypes);
}
  where
    j : ℕ
    j = next_number r

    later : next_number s ≡ j + length a.new_ties
    later = omega (arith, ap length a.ties, length-append r.ties a.new_ties, ap length a.subtypes)

    ties : s.numbers.ties ++ numbers_from (next_number s) (length b.new_ties) ≡ r.numbers.ties ++ numbers_from j (length (a.new_ties ++ b.new_ties))
    ties =
        (λ i. (a.numbers i).ties ++ numbers_from (later i) (length b.new_ties))
        ∙ (append_assoc r.numbers.ties (numbers_from j (length a.new_ties)) (numbers_from (j + length a.new_ties) (length b.new_ties))
        ∙ ap (λ (z : List ℕ). r.numbers.ties ++ z)
        (sym (rows_both (λ i. i) (length a.new_ties) (length b.new_ties) j) ∙ ap (numbers_from j) (sym (length-append a.new_ties b.new_ties))))

pub run-numbers : (n : ℕ) (t : Tables) → PostsTies (view t) (view (run n t).tables)
run-numbers n t = run-keeps (λ z. PostsTies (view t) (view z)) (λ z h. posts-then (view t) (view z) (view (step_tables z).tables) h (step-numbers z)) n t (posts-no-ties (view t))
