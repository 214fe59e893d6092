-- What each call leaves, part by part. A load appends to classes, kept files, cache and constraints, and leaves objects and frames as they are. A start, a
-- drop and a step leave classes, kept files, cache, subtype constraints and the other task's frames as they are, and keep each object's number, class and task. A
-- sweep leaves all but objects, and those that are reached. A taking back leaves what a load appends to. An idle step leaves every table.
use Rattle.std.specs.Prelude.{◌≡◌, ◌⊎◌, ℕ, zero, suc, take, drop}
use Rattle.std.proofs.Math.Path.{refl}
use Rattle.std.proofs.Common.{sym, ap, ◌∙◌, inl, inr, take-append-drop}
use Rattle.std.proofs.Math.Option.{some}
use mathlib.Core.List.{List, [], ◌∷◌, ◌++◌}
use Rattle.definition.specs.declared.Answer.{Answer}
use Rattle.definition.specs.declared.Answer.TheVariants.{Idle, Refused}
use Rattle.definition.specs.declared.Reply.{Reply}
use Rattle.definition.specs.declared.Reply.TheVariants.{Denied}
use Rattle.definition.specs.Answers.{ok}
use Rattle.definition.specs.Constraints.{World}
use Rattle.definition.specs.Loading.{started}
use Rattle.definition.specs.Machine.{Object, Objects, existing, Exists, Frame, Progress, new_object}
use Rattle.definition.specs.Sweeping.{Reached, reached}
use Rattle.definition.specs.Tables.{Tables, Level, Rows, of_task, frames_in, with_frames, with_trace, cut_to, world_of, view, put}
use Rattle.definition.specs.Calls.{Given, closed, progressed, define_rows, record_rows, start_rows, drop_rows, sweep_rows, taken_back, step_task, step_on, step_rows, turn_of, turn, RowCall, row_define, row_record, row_start, row_drop, row_sweep, row_try, row_take_back, on_row_call, call_rows, step_tables, perform}
use Rattle.laws.specs.Objects.{Numbered, numbered-same, numbered-made}
use Rattle.laws.specs.Owners.{Leaves, maker_of, maker-swept}
use Rattle.laws.specs.Results.{ok-inj}
use Rattle.laws.specs.Sweeps.{sweep-keeps, sweep-left}
use Rattle.laws.specs.Turns.{idle-empty}
use Rattle.laws.specs.Wrapped.{wrapped, Ok, ok_at, then}
use Rattle.laws.specs.Tried.{try-leaves}
use Rattle.layout.specs.Unbroken.{unbroken}
use Rattle.layout.specs.View.{put_view}
use Rattle.unbroken.specs.Accepted.{Entered, Stood, recorded-is, defined-is}
use Rattle.unbroken.specs.Calls.{rows_whole, step-whole}
use Rattle.unbroken.specs.Progress.{Advances, Loops, step-advances}
use Rattle.unbroken.specs.Unbroken.{shown}

-- the later list is the earlier with some behind it
pub record Longer {A : Type 0} (xs ys : List A) : Type 0 where
  pub new : List A
  pub is : ys ≡ xs ++ new

none-behind : {A : Type 0} (xs : List A) → xs ≡ xs ++ []
none-behind [] = refl
none-behind (x ∷ xs) = λ i. x ∷ none-behind xs i

longer-same : {A : Type 0} (xs : List A) → Longer xs xs
longer-same xs = record { new = []; is = none-behind xs }

-- Loads

pub record Appends (r s : Rows) : Type 0 where
  pub classes : Longer r.classes s.classes
  pub kept : Longer r.kept s.kept
  pub cache : Longer r.cache s.cache
  pub ties : Longer r.ties s.ties
  pub subtypes : Longer r.subtypes s.subtypes
  pub objects : s.objects ≡ r.objects
  pub quote : s.quote ≡ r.quote
  pub report : s.report ≡ r.report

appends-same : (r : Rows) → Appends r r
appends-same r = record {
  classes = longer-same r.classes;
  kept = longer-same r.kept;
  cache = longer-same r.cache;
  ties = longer-same r.ties;
  subtypes = longer-same r.subtypes;
  objects = refl;
  quote = refl;
  report = refl;
}

define-appends : (l : ℕ) (bs : List ℕ) (r : Rows) → Ok (define_rows l bs r) (λ g. Appends r g.rows)
unfolding define_rows
define-appends l bs r = then L _ _ (λ _ _. then L _ _ (λ f _. then L _ _ (λ v e. let d = defined-is _ _ _ v e in record {
  classes = record { new = _; is = refl };
  kept = record { new = bs; is = refl };
  cache = record { new = _; is = sym (ap (λ (w : World). w.base.cache) d.is) };
  ties = record { new = _; is = sym (ap (λ (w : World). w.ties) d.is) };
  subtypes = record { new = _; is = sym (ap (λ (w : World). w.subtypes) d.is) };
  objects = refl;
  quote = refl;
  report = refl;
})))
  where
    L : Given Reply → Type 0
    L g = Appends r g.rows

record-appends : (l n c : ℕ) (r : Rows) → Ok (record_rows l n c r) (λ g. Appends r g.rows)
unfolding record_rows
record-appends l n c r = then (λ (g : Given Reply). Appends r g.rows) _ _ (λ v e. record {
  classes = longer-same r.classes;
  kept = longer-same r.kept;
  cache = cache v (recorded-is l n c (world_of r) v e);
  ties = longer-same r.ties;
  subtypes = longer-same r.subtypes;
  objects = refl;
  quote = refl;
  report = refl;
})
  where
    cache : (v : World) → Stood l n c (world_of r) v ⊎ Entered l n c (world_of r) v → Longer r.cache v.base.cache
    cache v (inl z) = record { new = []; is = sym (ap (λ (w : World). w.base.cache) z.is) ∙ none-behind r.cache }
    cache v (inr x) = record { new = _; is = sym (ap (λ (w : World). w.base.cache) x.is) }

-- Tasks: task k goes on

pub record Goes (k : ℕ) (r s : Rows) : Type 0 where
  pub classes : s.classes ≡ r.classes
  pub kept : s.kept ≡ r.kept
  pub cache : s.cache ≡ r.cache
  pub subtypes : s.subtypes ≡ r.subtypes
  pub objects : Numbered r.objects s.objects
  pub owners : Leaves k r.objects s.objects
  pub others : of_task k s.report s.quote ≡ of_task k r.report r.quote

goes_same : (k : ℕ) (r : Rows) → Goes k r r
goes_same k r = record { classes = refl; kept = refl; cache = refl; subtypes = refl; objects = numbered-same r.objects; owners = inl refl; others = refl }

goes-progressed : (k : ℕ) (r : Rows) (o : Progress) → Numbered r.objects o.objects → Leaves k r.objects o.objects → Goes k r (progressed k r o)
goes-progressed k r o n l = record { classes = refl; kept = refl; cache = refl; subtypes = refl; objects = n; owners = l; others = others k }
  where
    others : (k : ℕ) → of_task k (progressed k r o).report (progressed k r o).quote ≡ of_task k r.report r.quote
    others zero = refl
    others (suc k) = refl

goes_dropped : (k : ℕ) (r : Rows) → Goes k r (with_frames k [] r)
goes_dropped k r = record { classes = refl; kept = refl; cache = refl; subtypes = refl; objects = numbered-same r.objects; owners = inl refl; others = others k }
  where
    others : (k : ℕ) → of_task k (with_frames k [] r).report (with_frames k [] r).quote ≡ of_task k r.report r.quote
    others zero = refl
    others (suc k) = refl

goes-closed : (k : ℕ) (r s : Rows) → Goes k r s → Goes k r (closed s)
goes-closed k r s g = record { classes = g.classes; kept = g.kept; cache = g.cache; subtypes = g.subtypes; objects = g.objects; owners = g.owners; others = g.others }

started-leaves : (k l n m v : ℕ) (w : World) (os : Objects) (fs : List Frame) → Ok (started k l n m v w os fs) (λ o. Numbered os o.objects × Leaves k os o.objects)
unfolding started
started-leaves k l n m v w os fs = then N _ _ (λ _ _. then N _ _ (λ _ _. then N _ _ (λ c _. then N _ _ (λ _ _. then N _ _ (λ _ _. then N _ _ (λ _ _. (numbered-made k (new_object w.base c) os, inr (_, refl))))))))
  where
    N : Progress → Type 0
    N o = Numbered os o.objects × Leaves k os o.objects

start-goes : (k l n m v : ℕ) (r : Rows) → Ok (start_rows k l n m v r) (λ g. Goes k r g.rows)
unfolding start_rows
start-goes k l n m v r =
    then G _ _ (λ _ _. then G _ _ (λ o e.
    let h = ok_at (λ o. Numbered r.objects o.objects × Leaves k r.objects o.objects) _ (started-leaves k l n m v (world_of r) r.objects (frames_in k r)) o e in
    goes-closed k r _ (goes-progressed k r o h.0 h.1)))
  where
    G : Given Reply → Type 0
    G g = Goes k r g.rows

drop-goes : (k : ℕ) (r : Rows) → Ok (drop_rows k r) (λ g. Goes k r g.rows)
unfolding drop_rows
drop-goes k r = then (λ (g : Given Reply). Goes k r g.rows) _ _ (λ _ _. goes-closed k r _ (goes_dropped k r))

-- a step goes on with the task whose turn it is
pub step-goes : (r : Rows) → Ok (step_rows r) (λ g. Goes (turn r) r g.rows)
unfolding step_rows turn
step-goes r = go r.quote r.report
  where
    task : (k : ℕ) (f : Frame) (fs : List Frame) → Ok (step_task k (world_of r) f fs r) (λ g. Goes k r g.rows)
    task k f fs = unfold step_task in then (λ (g : Given Answer). Goes k r g.rows) _ _ (λ o e.
        let h = ok_at (Advances (Loops (world_of r) f) k r.objects (f ∷ fs)) _ (step-advances k (world_of r) r.objects f fs) o e in
        goes-closed k r _ (goes-progressed k r o h.objects h.owners))

    go : (q p : List Frame) → Ok (step_on q p (world_of r) r) (λ g. Goes (turn_of q) r g.rows)
    go (f ∷ fs) p = unfold step_on turn_of in task 0 f fs
    go [] (f ∷ fs) = unfold step_on turn_of in task 1 f fs
    go [] [] = unfold step_on in goes_same (turn_of []) r

-- A sweep ends objects, none that is reached, and changes nothing else

pub record Sweeps (r s : Rows) : Type 0 where
  pub classes : s.classes ≡ r.classes
  pub kept : s.kept ≡ r.kept
  pub cache : s.cache ≡ r.cache
  pub ties : s.ties ≡ r.ties
  pub subtypes : s.subtypes ≡ r.subtypes
  pub quote : s.quote ≡ r.quote
  pub report : s.report ≡ r.report
  pub reached : (o : ℕ) (x : Object) → existing r.objects o ≡ some x → Reached r.objects (r.quote ++ r.report) o → existing s.objects o ≡ some x
  pub left : (o : ℕ) (x : Object) → existing s.objects o ≡ some x → existing r.objects o ≡ some x
  pub makers : (o : ℕ) → Exists s.objects o → maker_of s.objects o ≡ maker_of r.objects o

sweeps-same : (r : Rows) → Sweeps r r
sweeps-same r = record {
  classes = refl;
  kept = refl;
  cache = refl;
  ties = refl;
  subtypes = refl;
  quote = refl;
  report = refl;
  reached = λ o x e _. e;
  left = λ o x e. e;
  makers = λ o _. refl;
}

sweep-sweeps : (r : Rows) → Ok (sweep_rows r) (λ g. Sweeps r g.rows)
unfolding sweep_rows
sweep-sweeps r = record {
  classes = refl;
  kept = refl;
  cache = refl;
  ties = refl;
  subtypes = refl;
  quote = refl;
  report = refl;
  reached = sweep-keeps r.objects (r.quote ++ r.report);
  left = λ o x e. (sweep-left r.objects (r.quote ++ r.report) o x e).0;
  makers = maker-swept (reached r.objects (r.quote ++ r.report)) 0 r.objects;
}

-- A taking back leaves the first rows of what a load appends to

front : {A : Type 0} (n : ℕ) (xs : List A) → Longer (take n xs) xs
front n xs = record { new = drop n xs; is = sym (take-append-drop n xs) }

cut-appends : (l : Level) (ls : List Level) (r : Rows) → Appends (with_trace ls (cut_to l r)) r
unfolding cut_to
cut-appends l ls r = record {
  classes = front l.classes r.classes;
  kept = front l.kept r.kept;
  cache = front l.cache r.cache;
  ties = front l.ties r.ties;
  subtypes = front l.subtypes r.subtypes;
  objects = refl;
  quote = refl;
  report = refl;
}

taken-appends : (ls : List Level) (r : Rows) → Ok (taken_back ls r) (λ g. Appends g.rows r)
unfolding taken_back
taken-appends [] r = tt
taken-appends (l ∷ ls) r = cut-appends l ls r

-- Every call on rows

abbrev pub LeftBy : RowCall → Rows → Rows → Type 0
LeftBy (row_define l bs) r s = Appends r s
LeftBy (row_record l n c) r s = Appends r s
LeftBy (row_start k l n m v) r s = Goes k r s
LeftBy (row_drop k) r s = Goes k r s
LeftBy row_sweep r s = Sweeps r s
LeftBy (row_try c n) r s = s ≡ r
LeftBy row_take_back r s = Appends s r

left-same : (c : RowCall) (r : Rows) → LeftBy c r r
left-same (row_define l bs) r = appends-same r
left-same (row_record l n c) r = appends-same r
left-same (row_start k l n m v) r = goes_same k r
left-same (row_drop k) r = goes_same k r
left-same row_sweep r = sweeps-same r
left-same (row_try c n) r = refl
left-same row_take_back r = appends-same r

pub rows_left : (c : RowCall) (r : Rows) → Ok (on_row_call c r) (λ g. LeftBy c r g.rows)
rows_left (row_define l bs) r = define-appends l bs r
rows_left (row_record l n c) r = record-appends l n c r
rows_left (row_start k l n m v) r = start-goes k l n m v r
rows_left (row_drop k) r = drop-goes k r
rows_left row_sweep r = sweep-sweeps r
rows_left (row_try c n) r = try-leaves (λ s. s ≡ r) c n r refl
rows_left row_take_back r = taken-appends r.trace r

-- On tables, whatever they hold

pub call-leaves : (c : RowCall) (t : Tables) → LeftBy c (view t) (view (perform (call_rows c) t).tables)
unfolding perform
call-leaves c t = shown Denied (on_row_call c) (λ _ s. LeftBy c (view t) s) t (λ r w. rows_whole r w c) (λ w. left-same c (view t))
    (λ _ g e. ok_at (λ (g : Given Reply). LeftBy c (view t) g.rows) _ (rows_left c (view t)) g e)

pub step-leaves : (t : Tables) → Goes (turn (view t)) (view t) (view (step_tables t).tables)
unfolding step_tables
step-leaves t = shown Refused step_rows (λ _ s. Goes (turn (view t)) (view t) s) t step-whole (λ w. goes_same (turn (view t)) (view t))
    (λ _ g e. ok_at (λ (g : Given Answer). Goes (turn (view t)) (view t) g.rows) _ (step-goes (view t)) g e)

idle-rows : (r : Rows) → r.quote ≡ [] → r.report ≡ [] → step_rows r ≡ ok (record { answer = Idle; rows = r })
unfolding step_rows
idle-rows r q p = go r.quote r.report q p
  where
    go : (x y : List Frame) → x ≡ [] → y ≡ [] → step_on x y (world_of r) r ≡ ok (record { answer = Idle; rows = r })
    go x y e d = unfold step_on in rw (e, d) refl

-- an idle step leaves every table
pub idle-same : (t : Tables) → (step_tables t).answer ≡ Idle → (step_tables t).tables ≡ t
unfolding step_tables
idle-same t h =
    let none = idle-empty t h in
    wrapped Refused step_rows t (λ _ z. z ≡ t) (λ _. refl) (λ _ _. refl) (λ b g e.
    ap (λ (x : Given Answer). put x.rows t) (ok-inj (sym e ∙ idle-rows (view t) none.0 none.1)) ∙ put_view t (unbroken t b).groups)
