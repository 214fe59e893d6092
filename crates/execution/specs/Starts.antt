-- The start of a task on tables: what is decided on it, and what it writes.
use Rattle.std.specs.Prelude.{◌≡◌, Bool, true, get_or, ltb}
use Rattle.std.proofs.Math.Path.{refl, sym, ap}
use Rattle.std.proofs.Common.{◌∙◌}
use Rattle.std.proofs.Math.Bool.{false}
use Rattle.std.proofs.Math.Option.{none, some}
use mathlib.Core.List.{List, [], ◌∷◌}
use Prim.Native.Nat.{ℕ, suc, ◌+◌, ◌<◌, ◌≤◌}
use native.Mathlib.Omega.{arith}
use Rattle.std.proofs.Math.ListN.{set}
use Rattle.std.proofs.Math.Seq.{set_comm}
use Rattle.definition.specs.Requests.{at}
use Rattle.definition.specs.Classes.{Base, find}
use Rattle.definition.specs.declared.Refusal.{Refusal}
use Rattle.definition.specs.declared.Refusal.TheVariants.{Word}
use Rattle.definition.specs.declared.Reply.{Reply}
use Rattle.definition.specs.declared.Reply.TheVariants.{Accepted, Denied}
use Rattle.definition.specs.Answers.{Result, ◌>>=◌, need}
use Rattle.definition.specs.Machine.{int_value, unused, made, new_object, entry_frame, Progress, object_value, empty_value}
use Rattle.definition.specs.Loading.{started}
use Rattle.definition.specs.Tables.{Tables, tables, Rows, put_object, size_of, put_frame, frame_base, world_of, objects_of, view_over, view, frames_in}
use Rattle.definition.specs.Broken.{broken}
use Rattle.definition.specs.Numbers.{loads_cell}
use Rattle.definition.specs.Calls.{Given, given, closed, progressed, start_rows, done, carried, wrap, call_start, perform}
use Rattle.laws.specs.Arguments.{filled-length}
use Rattle.layout.specs.OwnedRows.{rows_with}
use Rattle.layout.specs.View.{FillsObjects, object-made, quiet-writes, first-entered}
use Rattle.layout.specs.Unbroken.{unbroken}
use Rattle.frames.specs.Unused.{unused_from, unused-is}
use Rattle.resolution.specs.Quick.{quick_base, quick_of}
use Rattle.resolution.specs.Unbroken.{quick-rows}
use Rattle.access.specs.Accesses.{world_in}
use Rattle.std.specs.Prelude as Rust
use Rattle.opening.specs.Openings.{Answered, deny, first, opened_as, Opened}
use Rattle.execution.specs.Steps.{usable}
use Rattle.execution.specs.Turns.{same-world}

sequence : (k l n m v : ℕ) (r : Rows)
    → start_rows k l n m v r
    ≡ ((need (ltb k 2) (Word 3) >>= λ _. started k l n m v (world_of r) r.objects (frames_in k r)) >>= λ o. given Accepted (closed (progressed k r o)))
unfolding start_rows
sequence k l n m v r = go (ltb k 2)
  where
    go : (u : Bool)
        → ◌≡◌ {A = Result (Given Reply)} (need u (Word 3) >>= λ _. started k l n m v (world_of r) r.objects (frames_in k r) >>= λ o. given Accepted (closed (progressed k r o)))
        ((need u (Word 3) >>= λ _. started k l n m v (world_of r) r.objects (frames_in k r)) >>= λ o. given Accepted (closed (progressed k r o)))
    go true = unfold need ◌>>=◌ in refl
    go false = unfold need ◌>>=◌ in refl

pub start-broken : (k l n m v : ℕ) (t : Tables) → broken t ≡ true → done (Denied (Word 1)) t ≡ perform (call_start k l n m v) t
unfolding perform wrap
start-broken k l n m v t h = rw (h, wrap)

module _ (N L K E I S O F : List ℕ) (whole : broken (tables N L K E I S O F) ≡ false) (k l n m v : ℕ) (r : Answered) (opened : Opened N L K E k l n m r) where
  abbrev T : Tables
  T = tables N L K E I S O F

  abbrev base : Base
  base = quick_base N L K E

  starts : perform (call_start k l n m v) T ≡ carried Denied T (opened_as k (world_in base T) (objects_of base T) v r >>= λ o. given Accepted (closed (progressed k (view_over base T) o)))
  unfolding perform wrap
  starts =
      rw (whole, wrap)
      (ap (carried Denied T)
      (sequence k l n m v (view T)
      ∙ ((λ i. (need (ltb k 2) (Word 3) >>= λ _. started k l n m v (same-world T whole i) (sym (quick-rows T whole) i).objects (frames_in k (sym (quick-rows T whole) i)))
      >>= λ o. given Accepted (closed (progressed k (sym (quick-rows T whole) i) o)))
      ∙ ap (λ (x : Result Progress). x >>= λ o. given Accepted (closed (progressed k (view_over base T) o))) (unfold view_over in sym (opened.says I S O F v)))))

  pub start-denied : (w : Refusal) → r ≡ deny w → done (Denied w) T ≡ perform (call_start k l n m v) T
  start-denied w e = sym (starts ∙ (unfold opened_as ◌>>=◌ carried in rw e))

  pub start_first : (c s j o : ℕ) (C P G : List ℕ) → r ≡ first c s j o → C ≡ set (set (set (set N 5 (rows_with o (get_or N 5 0))) (8 + o) (suc k)) (6 + k) 1) loads_cell 0
      → P ≡ put_object O o (new_object base c) → G ≡ put_frame F (frame_base k 0) (entry_frame s j o (int_value v ∷ []))
      → done Accepted (tables C L K E I S P G) ≡ perform (call_start k l n m v) T
  unfolding opened_as ◌>>=◌ carried
  start_first c s j o C P G e x y z =
      let f : (k < 2) × (o ≡ unused_from N 0) × (o < 256) × (find base.cache (at l n) ≡ some c) = rw e at opened.fits in
      let before : List ℕ = set N 5 (rows_with o (get_or N 5 0)) in
      let swap : set (set before (8 + o) (suc k)) (6 + k) 1 ≡ set (set before (6 + k) 1) (8 + o) (suc k) = set_comm before (8 + o) (6 + k) (suc k) 1 (λ q. omega (arith, f.0)) in
      sym (starts ∙ (rw (e, x, y, z, swap) (ap (done Accepted) (
      quiet-writes base T k (record { world = world_in base T; objects = _; frames = _; result = none }) (rows_with o (get_or N 5 0)) 1 (λ d. set d (8 + o) (suc k))
      (put_object O o (new_object base c)) (put_frame F (frame_base k 0) (entry_frame s j o (int_value v ∷ []))) f.0 (unbroken T whole).counts.ties refl
      (fills f.2 (f.1 ∙ unused-is base T)) (first-entered T k (entry_frame s j o (int_value v ∷ [])) (omega arith) (omega (arith, filled-length 8 empty_value (object_value o ∷ int_value v ∷ [])))) (unbroken T whole).groups))))
    where
      fills : o < 256 → o ≡ unused (objects_of base T)
          → FillsObjects (made k (new_object base c) (objects_of base T)) N O (rows_with o (get_or N 5 0)) (λ d. set d (8 + o) (suc k)) (put_object O o (new_object base c))
      fills d u = let h : unused (objects_of base T) < 256 = omega arith in rw u (object-made T base k (new_object base c) h)

-- The decision on a start of any tables

abbrev pub Opens : Tables → ℕ → ℕ → ℕ → ℕ → Answered → Type 0
Opens t k l n m (Rust.Err w) = (v : ℕ) → done (Denied w) t ≡ perform (call_start k l n m v) t
Opens t k l n m (Rust.Ok a) = (broken t ≡ false) × Opened t.counts t.classes t.kept t.cache k l n m (Rust.Ok a)

pub opens : (t : Tables) → broken t ≡ false → (k l n m : ℕ) (r : Answered) → Opened t.counts t.classes t.kept t.cache k l n m r → Opens t k l n m r
opens t h k l n m (Rust.Err w) o =
    λ v. start-denied t.counts t.classes t.kept t.cache t.ties t.subtypes t.objects t.frames h k l n m v (deny w) o w refl
opens t h k l n m (Rust.Ok a) x = (h, x)

-- what beginning the task asks
pub begin-ready : (t : Tables) (k l n m c s j o : ℕ) → Opens t k l n m (first c s j o) → (k < 2) × (o < 256) × (size_of (quick_of t) c ≤ 16)
begin-ready t k l n m c s j o h = let f = h.1.fits in (f.0, f.2, (usable t h.0).sizes _ c f.3)
