-- What carrying a plan out writes: the ties that are posted, with their numbers and groups, a field or an object's row with its owner, cells of the task's frames, and their counts. Nothing is
-- asked of the tables but that task k has m frames below its top frame.
use Rattle.std.specs.Prelude.{◌≡◌, Bool, true, false}
use Rattle.std.proofs.Math.Path.{refl, ap}
use Rattle.std.proofs.Common.{sym, ◌∙◌, get_or-set_other}
use Rattle.std.proofs.lemmas.Bool.{false≢true}
use Rattle.std.proofs.Math.Option.{Option, none, some}
use mathlib.Core.List.{List, [], ◌∷◌, map}
use Prim.Native.Nat.{ℕ, suc, ◌+◌, ◌-◌, ◌<◌, ◌≤◌}
use native.Mathlib.Omega.{arith}
use Rattle.std.proofs.Math.ListN.{length, get_or, set}
use Rattle.std.proofs.lemmas.List.{length-map}
use Rattle.std.proofs.Math.Seq.{set-get_or}
use Rattle.definition.specs.declared.Refusal.{Refusal}
use Rattle.definition.specs.declared.Answer.{Answer}
use Rattle.definition.specs.declared.Answer.TheVariants.{Idle, Ran, Finished, Refused}
use Rattle.definition.specs.Answers.{◌>>=◌, take?}
use Rattle.definition.specs.Numbers.{count_ties, tie_numbers_cell, loads_cell}
use Rattle.definition.specs.Lists.{rows, write_rows, stack}
use Rattle.definition.specs.Classes.{Base, Slot, slots}
use Rattle.definition.specs.Constraints.{Tie, posted}
use Rattle.definition.specs.Machine.{Value, object_value, empty_value, Objects, Frame, unused, made, new_object, entry_frame, Progress, give, initial_value}
use Rattle.definition.specs.Tables.{Tables, tables, put_tie, put_number, value_of, object_at, put_object, put_field, size_of, used_fields, operand_at, put_operand, put_local, frame_of, put_frame, frame_base, frame_in, objects_of, view_over, put}
use Rattle.definition.specs.Broken.{grouped}
use Rattle.definition.specs.Calls.{numbers_from, given, closed, progressed, answer_of, Done, done, carried}
use Rattle.laws.specs.Arguments.{filled-length}
use Rattle.layout.specs.Places.{rows-length, rows-map, stack_top}
use Rattle.layout.specs.Cells.{rows_back, cell-rows, moved}
use Rattle.layout.specs.OwnedRows.{rows_with}
use Rattle.layout.specs.NumberedRows.{numbers-behind}
use Rattle.layout.specs.GroupedRows.{SameGroups}
use Rattle.layout.specs.View.{count_at, FillsObjects, FillsTask, objects-fill, object-made, object-set, regrouped, regrouped-none, progress-writes, none_left, top_kept, top_above, top-local, top-given, top-entered}
use Rattle.frames.specs.Initial.{initial_of, initial_object, initial-value}
use Rattle.frames.specs.Unused.{is_used, unused_from, used-row, used-there, unused-is, used-set, unused-set}
use Rattle.resolution.specs.Quick.{quick_base}
use Rattle.resolution.specs.Slots.{slot_type}
use Rattle.access.specs.Accesses.{world_in}
use Rattle.posting.specs.Postings.{Quiet}
use Rattle.instructions.specs.Plans.{meaning, Fit}
use Rattle.frames.specs.declared.Cell.{Cell}
use Rattle.instructions.specs.declared.Invocation.{Invocation}
use Rattle.instructions.specs.declared.Plan.{Plan}
use Rattle.instructions.specs.declared.Plan.TheVariants.{Refuse, Keep, Jump, Above, Local, Give, Finish, Field, Enter, Make}

-- what the machine makes of a plan of task k, which has m frames below its top frame, where the ties us are posted and the frame goes on at point q, unless
-- the plan jumps
unfoldable pub planned : Base → Tables → ℕ → ℕ → ℕ → List Tie → Plan → Done Answer
planned B t k m q us p =
    carried Refused t
    (meaning k (posted (world_in B t) us) (objects_of B t) (stack (frame_in t.frames k) m) t.frames (frame_base k m) q p
    >>= λ o. given (answer_of k o.result) (closed (progressed k (view_over B t) o)))

-- the ties us, posted behind the rows of the counts N, get the next numbers; these are written last
abbrev pub numbered_ties : List ℕ → List Tie → List ℕ → List ℕ
numbered_ties N us x = write_rows (put_number tie_numbers_cell) (numbers_from (get_or N 3 0 + get_or N 4 0) (length us)) (get_or N 3 0) x

-- groups with the ties us, posted behind those of t; where there are none nothing is written
abbrev pub grouped_on : Base → Tables → List Tie → List ℕ → List ℕ
grouped_on B t [] x = x
grouped_on B t (u ∷ us) x = regrouped B t (get_or t.counts 3 0 + get_or t.counts 4 0) (u ∷ us) x

-- groups that are right stay where none was posted
grouped-on : (B : Base) (t : Tables) (us : List Tie) (x : List ℕ) → grouped t ≡ true → SameGroups t.counts x
    → regrouped B t (get_or t.counts 3 0 + get_or t.counts 4 0) us x ≡ grouped_on B t us x
grouped-on B t [] x g s = regrouped-none B t (get_or t.counts 3 0 + get_or t.counts 4 0) x g s
grouped-on B t (u ∷ us) x g s = refl

-- a step that ran or finished closes the loads before it; of the counts that is one cell
abbrev pub closed_by : Answer → List ℕ → List ℕ
closed_by Idle x = x
closed_by (Ran k) x = set x loads_cell 0
closed_by (Finished k n) x = set x loads_cell 0
closed_by (Refused w) x = x

unfoldable pub went_on : Answer → Bool
went_on Idle = false
went_on (Ran k) = true
went_on (Finished k n) = true
went_on (Refused w) = false

pub closed_on : (a : Answer) (x : List ℕ) → went_on a ≡ true → set x loads_cell 0 ≡ closed_by a x
unfolding went_on
closed_on Idle x h = absurd (false≢true h)
closed_on (Ran k) x h = refl
closed_on (Finished k n) x h = refl
closed_on (Refused w) x h = absurd (false≢true h)

pub closed-not : (a : Answer) (x : List ℕ) → went_on a ≡ false → x ≡ closed_by a x
unfolding went_on
closed-not Idle x h = refl
closed-not (Ran k) x h = absurd (false≢true (sym h))
closed-not (Finished k n) x h = absurd (false≢true (sym h))
closed-not (Refused w) x h = refl

-- what carrying out asks: task k has m frames below its top frame, whose row begins at cell b; ties and plan have room
pub record Ready (B : Base) (t : Tables) (k m b : ℕ) (us : List Tie) (p : Plan) : Type 0 where
  pub two : k < 2
  pub count : count_at t (6 + k) ≡ suc m
  pub low : m < 32
  pub row : b ≡ frame_base k m
  pub ties : count_at t 3 + length us ≤ 256
  pub quiet : Quiet us p
  pub fits : Fit B t k m p
  pub groups : grouped t ≡ true

-- The tables after ties were posted, and then n frames of task k and m objects counted

module _ (B : Base) (t : Tables) (k m q : ℕ) (us : List Tie) (two : k < 2) (room : count_at t 3 + length us ≤ 256) (right : grouped t ≡ true) where
  abbrev counts : List ℕ
  counts = set t.counts 3 (count_at t 3 + length us)

  -- what a step else writes of the counts lies before the groups
  same-groups : (x : List ℕ) → SameGroups t.counts x → SameGroups t.counts (set (numbered_ties t.counts us x) loads_cell 0)
  same-groups x s = λ j l.
      get_or-set_other (numbered_ties t.counts us x) loads_cell j 0 0 (λ e. omega arith)
      ∙ (numbers-behind tie_numbers_cell (numbers_from (count_at t 3 + count_at t 4) (length us)) (count_at t 3) x j (omega (arith, rows-length (λ i. i) (length us) (count_at t 3 + count_at t 4), room, l)) ∙ s j l)

  counted-groups : (n : ℕ) → SameGroups t.counts (set counts (6 + k) n)
  counted-groups n = λ j l. get_or-set_other counts (6 + k) j n 0 (λ e. omega arith) ∙ get_or-set_other t.counts 3 j (count_at t 3 + length us) 0 (λ e. omega arith)

  made-groups : (a o w : ℕ) → o < 256 → SameGroups t.counts (set (set counts 5 a) (8 + o) w)
  made-groups a o w h = λ j l.
      get_or-set_other (set counts 5 a) (8 + o) j w 0 (λ e. omega arith)
      ∙ (get_or-set_other counts 5 j a 0 (λ e. omega arith) ∙ get_or-set_other t.counts 3 j (count_at t 3 + length us) 0 (λ e. omega arith))

  regroups : (x : List ℕ) → SameGroups t.counts x
      → regrouped B t (count_at t 3 + count_at t 4) us (set (numbered_ties t.counts us x) loads_cell 0) ≡ grouped_on B t us (set (numbered_ties t.counts us x) loads_cell 0)
  regroups x s = grouped-on B t us (set (numbered_ties t.counts us x) loads_cell 0) right (same-groups x s)

  abbrev ties : List ℕ
  ties = write_rows put_tie us (count_at t 3) t.ties

  abbrev leaves : Objects → List Frame → Option ℕ → Progress
  leaves os fs x = record { world = posted (world_in B t) us; objects = os; frames = fs; result = x }

  -- objects as many as before
  same-objects : (os : Objects) (fs : List Frame) (x : Option ℕ) (n : ℕ) (o u : List ℕ) → FillsObjects os t.counts t.objects (count_at t 5) (λ d. d) o → FillsTask k fs t n u
      → put (closed (progressed k (view_over B t) (leaves os fs x))) t
      ≡ tables (grouped_on B t us (set (numbered_ties t.counts us (set counts (6 + k) n)) loads_cell 0)) t.classes t.kept t.cache ties t.subtypes o u
  same-objects os fs x n o u g h =
      progress-writes B t k (leaves os fs x) us (count_at t 5) n (λ d. d) o u two room refl g h
      ∙ (ap (λ z. tables (regrouped B t (count_at t 3 + count_at t 4) us (set (numbered_ties t.counts us (set z (6 + k) n)) loads_cell 0)) t.classes t.kept t.cache ties t.subtypes o u) five
      ∙ ap (λ z. tables z t.classes t.kept t.cache ties t.subtypes o u) (regroups (set counts (6 + k) n) (counted-groups n)))
    where
      five : set counts 5 (count_at t 5) ≡ counts
      five = rw (← get_or-set_other t.counts 3 5 (count_at t 3 + length us) 0 (λ e. omega arith)) (set-get_or counts 5 0)

  -- the number of frames as before
  frame-count : (n : ℕ) → count_at t (6 + k) ≡ n → set counts (6 + k) n ≡ counts
  frame-count n e = rw (← e, ← get_or-set_other t.counts 3 (6 + k) (count_at t 3 + length us) 0 (λ z. omega arith)) (set-get_or counts (6 + k) 0)

  top_frame : (os : Objects) (fs : List Frame) (o u : List ℕ) → count_at t (6 + k) ≡ suc m → FillsObjects os t.counts t.objects (count_at t 5) (λ d. d) o → FillsTask k fs t (suc m) u
      → put (closed (progressed k (view_over B t) (leaves os fs none))) t
      ≡ tables (grouped_on B t us (set (numbered_ties t.counts us counts) loads_cell 0)) t.classes t.kept t.cache ties t.subtypes o u
  top_frame os fs o u e g h =
      same-objects os fs none (suc m) o u g h ∙ ap (λ z. tables (grouped_on B t us (set (numbered_ties t.counts us z) loads_cell 0)) t.classes t.kept t.cache ties t.subtypes o u) (frame-count (suc m) e)

-- What each plan leaves: C and I are the counts and the ties where the ties us were posted, b is where the top frame's row begins

module _ (B : Base) (N L K E I S O F : List ℕ) (k m b q : ℕ) (us : List Tie) (p : Plan) (r : Ready B (tables N L K E I S O F) k m b us p)
    (C J : List ℕ) (c : C ≡ set N 3 (get_or N 3 0 + length us)) (j : J ≡ write_rows put_tie us (get_or N 3 0) I) where
  abbrev before : Tables
  before = tables N L K E I S O F

  abbrev plans : Done Answer
  plans = planned B before k m q us p

  pub out-refuse : (w : Refusal) → p ≡ Refuse w → done (Refused w) (tables (grouped_on B before us (numbered_ties N us C)) L K E J S O F) ≡ plans
  unfolding planned meaning ◌>>=◌ carried write_rows rows
  out-refuse w e =
      let h : us ≡ [] = rw e at r.quiet in
      let z : get_or N 3 0 + 0 ≡ get_or N 3 0 = omega arith in
      rw (e, c, j, h, z, set-get_or N 3 0)

  pub out-keep : (d : ℕ) (G : List ℕ) → p ≡ Keep d → G ≡ moved F b q d → done (Ran k) (tables (grouped_on B before us (set (numbered_ties N us C) loads_cell 0)) L K E J S O G) ≡ plans
  unfolding planned meaning ◌>>=◌ carried answer_of
  out-keep d G e g =
      rw (e, c, j, g, r.row)
      (ap (done (Ran k)) (sym (top_frame B before k m q us r.two r.ties r.groups (objects_of B before) (frame_of F (frame_base k m) q d ∷ stack (frame_in F k) m) O
      (moved F (frame_base k m) q d) r.count (objects-fill before B) (top_kept before k m r.low q d))))

  pub out-jump : (d x : ℕ) (G : List ℕ) → p ≡ Jump d x → G ≡ moved F b x d → done (Ran k) (tables (grouped_on B before us (set (numbered_ties N us C) loads_cell 0)) L K E J S O G) ≡ plans
  unfolding planned meaning ◌>>=◌ carried answer_of
  out-jump d x G e g =
      rw (e, c, j, g, r.row)
      (ap (done (Ran k)) (sym (top_frame B before k m q us r.two r.ties r.groups (objects_of B before) (frame_of F (frame_base k m) x d ∷ stack (frame_in F k) m) O
      (moved F (frame_base k m) x d) r.count (objects-fill before B) (top_kept before k m r.low x d))))

  pub out-above : (d : ℕ) (v : Cell) (G : List ℕ) → p ≡ Above d v → G ≡ put_operand b (moved F b q (d + 1)) d (value_of v.kind v.bits)
      → done (Ran k) (tables (grouped_on B before us (set (numbered_ties N us C) loads_cell 0)) L K E J S O G) ≡ plans
  unfolding planned meaning ◌>>=◌ carried answer_of
  out-above d v G e g =
      let f : d < 16 = rw e at r.fits in
      rw (e, c, j, g, r.row)
      (ap (done (Ran k)) (sym (top_frame B before k m q us r.two r.ties r.groups (objects_of B before) _ O
      (put_operand (frame_base k m) (moved F (frame_base k m) q (d + 1)) d (value_of v.kind v.bits)) r.count (objects-fill before B) (top_above before k m r.low q d (value_of v.kind v.bits) f))))

  pub out-local : (d i : ℕ) (v : Cell) (G : List ℕ) → p ≡ Local d i v → G ≡ put_local b (moved F b q d) i (value_of v.kind v.bits)
      → done (Ran k) (tables (grouped_on B before us (set (numbered_ties N us C) loads_cell 0)) L K E J S O G) ≡ plans
  unfolding planned meaning ◌>>=◌ carried answer_of
  out-local d i v G e g =
      let f : i < 8 = rw e at r.fits in
      rw (e, c, j, g, r.row)
      (ap (done (Ran k)) (sym (top_frame B before k m q us r.two r.ties r.groups (objects_of B before) _ O
      (put_local (frame_base k m) (moved F (frame_base k m) q d) i (value_of v.kind v.bits)) r.count (objects-fill before B) (top-local before k m r.low q d i (value_of v.kind v.bits) f))))

  pub out-field : (d o i : ℕ) (v : Cell) (G P : List ℕ) → p ≡ Field d o i v → G ≡ moved F b q d → P ≡ put_field o O i (value_of v.kind v.bits)
      → done (Ran k) (tables (grouped_on B before us (set (numbered_ties N us C) loads_cell 0)) L K E J S P G) ≡ plans
  unfolding planned meaning ◌>>=◌ carried answer_of take?
  out-field d o i v G P e g h =
      let f : (is_used N o ≡ true) × (i < used_fields B (object_at B O o).class) = rw e at r.fits in
      let l = used-row N o f.0 in
      rw (e, c, j, g, h, r.row, used-there B before o f.0)
      (ap (done (Ran k)) (sym (top_frame B before k m q us r.two r.ties r.groups _ _ (put_field o O i (value_of v.kind v.bits)) (moved F (frame_base k m) q d) r.count
      (object-set before B o i (value_of v.kind v.bits) l.0 l.1 f.1) (top_kept before k m r.low q d))))

  pub out-enter : (d : ℕ) (x : Invocation) (D G : List ℕ) → p ≡ Enter d x → D ≡ set C (6 + k) (m + 2)
      → G ≡ put_frame (moved F b q d) (frame_base k (m + 1)) (entry_frame x.class x.method x.object (rows (operand_at F b) x.count (d + 1))) → done (Ran k) (tables (grouped_on B before us (set (numbered_ties N us D) loads_cell 0)) L K E J S O G) ≡ plans
  unfolding planned meaning ◌>>=◌ carried answer_of
  out-enter d x D G e f g =
      let h : (suc m < 32) × (x.count ≤ 4) × (d + x.count < 16) = rw e at r.fits in
      let y : m + 2 ≡ suc (suc m) = omega arith in
      let z : m + 1 ≡ suc m = omega arith in
      rw (e, f, g, c, j, r.row, y, z)
      (ap (done (Ran k)) (sym (same-objects B before k m q us r.two r.ties r.groups (objects_of B before) _ none (suc (suc m)) O
      (put_frame (moved F (frame_base k m) q d) (frame_base k (suc m)) (entry_frame x.class x.method x.object (rows (operand_at F (frame_base k m)) x.count (d + 1)))) (objects-fill before B)
      (top-entered before k m r.low q d (entry_frame x.class x.method x.object (rows (operand_at F (frame_base k m)) x.count (d + 1))) h.0 (omega arith)
      (omega (arith, filled-length 8 empty_value (object_value x.object ∷ rows (operand_at F (frame_base k m)) x.count (d + 1))))))))

  -- the count n of objects rises only if row o is the next
  pub out-make : (d s o n : ℕ) (D G P : List ℕ) → p ≡ Make d s o → n ≡ get_or N 5 0 → D ≡ set (set C 5 (rows_with o n)) (8 + o) (suc k)
      → G ≡ put_operand b (moved F b q (d + 1)) d (object_value o) → P ≡ put_object O o (new_object B s) → done (Ran k) (tables (grouped_on B before us (set (numbered_ties N us D) loads_cell 0)) L K E J S P G) ≡ plans
  unfolding planned meaning ◌>>=◌ carried answer_of
  out-make d s o n D G P e a f g h =
      let w : (d < 16) × (o ≡ unused_from N 0) × (o < 256) × (size_of B s ≤ 16) = rw e at r.fits in
      rw (e, f, g, h, a, c, j, r.row)
      (ap (done (Ran k)) (sym (
      progress-writes B before k (leaves B before k m q us r.two r.ties r.groups _ _ none) us (rows_with o (get_or N 5 0)) (suc m) (λ x. set x (8 + o) (suc k)) (put_object O o (new_object B s))
      (put_operand (frame_base k m) (moved F (frame_base k m) q (d + 1)) d (object_value o)) r.two r.ties refl (fills w.2 (w.1 ∙ unused-is B before))
      (top_above before k m r.low q d (object_value o) w.0)
      ∙ (ap (λ z. tables (regrouped B before (get_or N 3 0 + get_or N 4 0) us (set (numbered_ties N us (set z (8 + o) (suc k))) loads_cell 0)) L K E (write_rows put_tie us (get_or N 3 0) I) S (put_object O o (new_object B s)) (put_operand (frame_base k m) (moved F (frame_base k m) q (d + 1)) d (object_value o)))
      (frames (rows_with o (get_or N 5 0)))
      ∙ ap (λ z. tables z L K E (write_rows put_tie us (get_or N 3 0) I) S (put_object O o (new_object B s)) (put_operand (frame_base k m) (moved F (frame_base k m) q (d + 1)) d (object_value o)))
      (regroups B before k m q us r.two r.ties r.groups (set (set (set N 3 (get_or N 3 0 + length us)) 5 (rows_with o (get_or N 5 0))) (8 + o) (suc k))
      (made-groups B before k m q us r.two r.ties r.groups (rows_with o (get_or N 5 0)) o (suc k) w.2))))))
    where
      fills : o < 256 → o ≡ unused (objects_of B before)
          → FillsObjects (made k (new_object B s) (objects_of B before)) N O (rows_with o (get_or N 5 0)) (λ x. set x (8 + o) (suc k)) (put_object O o (new_object B s))
      fills l u = let h : unused (objects_of B before) < 256 = omega arith in rw u (object-made before B k (new_object B s) h)

      frames : (x : ℕ) → set (set (set N 3 (get_or N 3 0 + length us)) 5 x) (6 + k) (suc m) ≡ set (set N 3 (get_or N 3 0 + length us)) 5 x
      frames x =
          let A : List ℕ = set N 3 (get_or N 3 0 + length us) in
          let z : get_or (set A 5 x) (6 + k) 0 ≡ suc m =
          get_or-set_other A 5 (6 + k) x 0 (λ e. omega arith) ∙ (get_or-set_other N 3 (6 + k) (get_or N 3 0 + length us) 0 (λ e. omega arith) ∙ r.count) in
          rw (← z) (set-get_or (set A 5 x) (6 + k) 0)

  pub out-finish : (v : ℕ) (D : List ℕ) → p ≡ Finish v → D ≡ set C (6 + k) 0 → done (Finished k v) (tables (grouped_on B before us (set (numbered_ties N us D) loads_cell 0)) L K E J S O F) ≡ plans
  unfolding planned meaning ◌>>=◌ carried answer_of
  out-finish v D e f =
      rw (e, f, c, j)
      (ap (done (Finished k v)) (sym (same-objects B before k m q us r.two r.ties r.groups (objects_of B before) [] (some v) 0 O F (objects-fill before B) (none_left before k))))

  -- the frame below is at a, with d operands
  pub out-give : (v : Cell) (a d : ℕ) (D G : List ℕ) → p ≡ Give v → a ≡ frame_base k (m - 1) → d ≡ get_or F (a + 3) 0 → D ≡ set C (6 + k) m
      → G ≡ put_operand a (set F (a + 3) (d + 1)) d (value_of v.kind v.bits) → done (Ran k) (tables (grouped_on B before us (set (numbered_ties N us D) loads_cell 0)) L K E J S O G) ≡ plans
  unfolding planned meaning ◌>>=◌ carried answer_of give
  out-give v a d D G e x y f g =
      let h : (0 < m) × (get_or F (frame_base k (m - 1) + 3) 0 < 16) = rw e at r.fits in
      let one : suc (m - 1) ≡ m = omega arith in
      let z : d ≡ get_or F (frame_base k (m - 1) + 3) 0 = rw x at y in
      rw (e, f, g, c, j, x, stack_top (frame_in F k) m h.0)
      (ap (done (Ran k)) (sym (
      same-objects B before k m q us r.two r.ties r.groups (objects_of B before) _ none (suc (m - 1)) O (put_operand (frame_base k (m - 1)) (set F (frame_base k (m - 1) + 3) (d + 1)) d (value_of v.kind v.bits))
      (objects-fill before B) (top-given before k (m - 1) (omega (arith, r.low)) d (value_of v.kind v.bits) z (omega (arith, h.1, z)))
      ∙ ap (λ (n : ℕ). tables (grouped_on B before us (set (numbered_ties N us (set (set N 3 (get_or N 3 0 + length us)) (6 + k) n)) loads_cell 0)) L K E (write_rows put_tie us (get_or N 3 0) I) S O (put_operand (frame_base k (m - 1)) (set F (frame_base k (m - 1) + 3) (d + 1)) d (value_of v.kind v.bits))) one)))

-- A new object's values, by the types of its fields

pub typed-object : (B : Base) (c : ℕ) (ts : List ℕ) → size_of B c ≤ length ts → initial_object c (write_rows set (map slot_type (slots B c)) 0 ts) (size_of B c) ≡ new_object B c
unfolding new_object
typed-object B c ts l =
    let us : List ℕ = write_rows set (map slot_type (slots B c)) 0 ts in
    let n : length (map slot_type (slots B c)) ≡ size_of B c = length-map (slots B c) slot_type in
    let e : rows (λ i. get_or us i 0) (size_of B c) 0 ≡ map slot_type (slots B c) = rw n at (rows_back cell-rows (map slot_type (slots B c)) ts (omega arith)) in
    ap (λ (vs : List Value). record { class = c; values = vs }) (sym (rows-map initial_of (λ i. get_or us i 0) (size_of B c) 0) ∙ (ap (map initial_of) e ∙ initials (slots B c)))
  where
    initials : (xs : List Slot) → map initial_of (map slot_type xs) ≡ map initial_value xs
    initials [] = refl
    initials (x ∷ xs) = rw (initial-value x, initials xs)

-- ties that are posted leave classes and cache as they are
pub quick-posted : (N L K E : List ℕ) (n : ℕ) → quick_base (set N 3 n) L K E ≡ quick_base N L K E
unfolding quick_base
quick-posted N L K E n = rw (get_or-set_other N 3 0 n 0 (λ e. omega arith), get_or-set_other N 3 2 n 0 (λ e. omega arith))

pub written_new : (B : Base) (c o n : ℕ) (O P ts us : List ℕ) → n ≡ size_of B c → us ≡ write_rows set (map slot_type (slots B c)) 0 ts → size_of B c ≤ length ts
    → P ≡ put_object O o (initial_object c us n) → P ≡ put_object O o (new_object B c)
written_new B c o n O P ts us e f l h = h ∙ rw (e, f, typed-object B c ts l)

-- What carrying a plan out leaves: the answer, the counts, the objects and the frames. The top frame of task k is in row m, which begins at cell b, and
-- goes on at point q, unless the plan jumps

abbrev pub Left : Base → List ℕ → List ℕ → List ℕ → ℕ → ℕ → ℕ → ℕ → Plan → Answer → List ℕ → List ℕ → List ℕ → Type 0
Left B N O F k m b q (Refuse r) a C P G = (a ≡ Refused r) × (C ≡ N) × (P ≡ O) × (G ≡ F)
Left B N O F k m b q (Keep d) a C P G = (a ≡ Ran k) × (C ≡ N) × (P ≡ O) × (G ≡ moved F b q d)
Left B N O F k m b q (Jump d x) a C P G = (a ≡ Ran k) × (C ≡ N) × (P ≡ O) × (G ≡ moved F b x d)
Left B N O F k m b q (Above d v) a C P G = (a ≡ Ran k) × (C ≡ N) × (P ≡ O) × (G ≡ put_operand b (moved F b q (d + 1)) d (value_of v.kind v.bits))
Left B N O F k m b q (Local d i v) a C P G = (a ≡ Ran k) × (C ≡ N) × (P ≡ O) × (G ≡ put_local b (moved F b q d) i (value_of v.kind v.bits))
Left B N O F k m b q (Give v) a C P G =
    (a ≡ Ran k) × (C ≡ set N (6 + k) m) × (P ≡ O)
    × (let x = frame_base k (m - 1) in let d = get_or F (x + 3) 0 in G ≡ put_operand x (set F (x + 3) (d + 1)) d (value_of v.kind v.bits))
Left B N O F k m b q (Finish v) a C P G = (a ≡ Finished k v) × (C ≡ set N (6 + k) 0) × (P ≡ O) × (G ≡ F)
Left B N O F k m b q (Field d o i v) a C P G = (a ≡ Ran k) × (C ≡ N) × (P ≡ put_field o O i (value_of v.kind v.bits)) × (G ≡ moved F b q d)
Left B N O F k m b q (Enter d e) a C P G =
    (a ≡ Ran k) × (C ≡ set N (6 + k) (m + 2)) × (P ≡ O) × (G ≡ put_frame (moved F b q d) (frame_base k (m + 1)) (entry_frame e.class e.method e.object (rows (operand_at F b) e.count (d + 1))))
Left B N O F k m b q (Make d s o) a C P G =
    (a ≡ Ran k) × (C ≡ set (set N 5 (rows_with o (get_or N 5 0))) (8 + o) (suc k)) × (P ≡ put_object O o (new_object B s))
    × (G ≡ put_operand b (moved F b q (d + 1)) d (object_value o))

-- Where the ties us were posted first, C and J are the counts and the ties

module _ (N L K E I S O F : List ℕ) (k m b : ℕ) (us : List Tie) (p : Plan) (r : Ready (quick_base N L K E) (tables N L K E I S O F) k m b us p)
    (C : List ℕ) (c : C ≡ set N 3 (get_or N 3 0 + length us)) where
  posted-base : quick_base C L K E ≡ quick_base N L K E
  posted-base = rw c (quick-posted N L K E (get_or N 3 0 + length us))

  posted-number : get_or C 5 0 ≡ get_or N 5 0
  posted-number = rw c (get_or-set_other N 3 5 (get_or N 3 0 + length us) 0 (λ e. omega arith))

  -- no plan writes the number of ties
  pub left-ties : (q : ℕ) (a : Answer) (D P G : List ℕ) → Left (quick_base C L K E) C O F k m b q p a D P G → get_or D count_ties 0 ≡ get_or C count_ties 0
  left-ties q a D P G h = go p h
    where
      same : {x : List ℕ} → x ≡ C → get_or x count_ties 0 ≡ get_or C count_ties 0
      same e = ap (λ (x : List ℕ). get_or x count_ties 0) e

      frame : (n : ℕ) {x : List ℕ} → x ≡ set C (6 + k) n → get_or x count_ties 0 ≡ get_or C count_ties 0
      frame n e = ap (λ (x : List ℕ). get_or x count_ties 0) e ∙ get_or-set_other C (6 + k) count_ties n 0 (λ z. omega arith)

      go : (p : Plan) → Left (quick_base C L K E) C O F k m b q p a D P G → get_or D count_ties 0 ≡ get_or C count_ties 0
      go (Refuse w) h = same h.1
      go (Keep d) h = same h.1
      go (Jump d x) h = same h.1
      go (Above d v) h = same h.1
      go (Local d i v) h = same h.1
      go (Give v) h = frame m h.1
      go (Finish v) h = frame 0 h.1
      go (Field d o i v) h = same h.1
      go (Enter d e) h = frame (m + 2) h.1
      go (Make d s o) h =
          ap (λ (x : List ℕ). get_or x count_ties 0) h.1
          ∙ (get_or-set_other (set C 5 (rows_with o (get_or C 5 0))) (8 + o) count_ties (suc k) 0 (λ z. omega arith) ∙ get_or-set_other C 5 count_ties (rows_with o (get_or C 5 0)) 0 (λ z. omega arith))

  -- a plan that has room still has it
  pub still-ready : (m < 32) × Fit (quick_base C L K E) (tables C L K E [] [] O F) k m p
  still-ready = (r.low, go p r.fits)
    where
      go : (p : Plan) → Fit (quick_base N L K E) (tables N L K E I S O F) k m p → Fit (quick_base C L K E) (tables C L K E [] [] O F) k m p
      go (Refuse w) h = tt
      go (Keep d) h = tt
      go (Jump d x) h = tt
      go (Above d v) h = h
      go (Local d i v) h = h
      go (Give v) h = h
      go (Finish v) h = h
      go (Field d o i v) h = rw (posted-base, c, used-set N 3 (get_or N 3 0 + length us) o (omega arith) (λ e. omega arith)) h
      go (Enter d e) h = h
      go (Make d s o) h = rw (posted-base, c, unused-set N 3 (get_or N 3 0 + length us) 0 (omega arith) (λ e. omega arith)) h

  -- what is left is what the machine makes of the plan
  pub left-planned : (J : List ℕ) → J ≡ write_rows put_tie us (get_or N 3 0) I → (q : ℕ) (a : Answer) (D P G : List ℕ) → Left (quick_base C L K E) C O F k m b q p a D P G
      → done a (tables (grouped_on (quick_base N L K E) (tables N L K E I S O F) us (closed_by a (numbered_ties N us D))) L K E J S P G) ≡ planned (quick_base N L K E) (tables N L K E I S O F) k m q us p
  left-planned J j q a D P G h = go p r h
    where
      go : (p : Plan) → Ready (quick_base N L K E) (tables N L K E I S O F) k m b us p → Left (quick_base C L K E) C O F k m b q p a D P G
          → done a (tables (grouped_on (quick_base N L K E) (tables N L K E I S O F) us (closed_by a (numbered_ties N us D))) L K E J S P G) ≡ planned (quick_base N L K E) (tables N L K E I S O F) k m q us p
      go (Refuse w) r h = rw (h.0, h.1, h.2, h.3) (out-refuse (quick_base N L K E) N L K E I S O F k m b q us (Refuse w) r C J c j w refl)
      go (Keep d) r h = rw (h.0, h.1, h.2) (out-keep (quick_base N L K E) N L K E I S O F k m b q us (Keep d) r C J c j d G refl h.3)
      go (Jump d x) r h = rw (h.0, h.1, h.2) (out-jump (quick_base N L K E) N L K E I S O F k m b q us (Jump d x) r C J c j d x G refl h.3)
      go (Above d v) r h = rw (h.0, h.1, h.2) (out-above (quick_base N L K E) N L K E I S O F k m b q us (Above d v) r C J c j d v G refl h.3)
      go (Local d i v) r h = rw (h.0, h.1, h.2) (out-local (quick_base N L K E) N L K E I S O F k m b q us (Local d i v) r C J c j d i v G refl h.3)
      go (Give v) r h =
          rw (h.0, h.2)
          (out-give (quick_base N L K E) N L K E I S O F k m b q us (Give v) r C J c j v (frame_base k (m - 1)) (get_or F (frame_base k (m - 1) + 3) 0) D G refl refl refl h.1 h.3)
      go (Finish v) r h = rw (h.0, h.2, h.3) (out-finish (quick_base N L K E) N L K E I S O F k m b q us (Finish v) r C J c j v D refl h.1)
      go (Field d o i v) r h = rw (h.0, h.1) (out-field (quick_base N L K E) N L K E I S O F k m b q us (Field d o i v) r C J c j d o i v G P refl h.3 h.2)
      go (Enter d e) r h =
          rw (h.0, h.2) (out-enter (quick_base N L K E) N L K E I S O F k m b q us (Enter d e) r C J c j d e D G refl h.1 h.3)
      go (Make d s o) r h =
          rw h.0
          (out-make (quick_base N L K E) N L K E I S O F k m b q us (Make d s o) r C J c j d s o (get_or C 5 0) D G P refl posted-number h.1 h.3 (rw posted-base at h.2))
