-- Where a branch goes, on tables, where the step ran: a goto to its target with nothing popped (`goto-goes`); an ifeq pops an int and goes to its target if it is 0, else past the instruction
-- (`ifeq-goes`); an if_icmplt pops two ints and goes to its target if the lower is less than the upper, as signed ints, else past it (`less-goes`). Nothing else of the frame changes, nor any
-- frame below. And a drop clears its task's frames, lets no load be taken back any more, and changes nothing else (`drop-clears`, `drop-tables`).
use Rattle.std.specs.Prelude.{◌≡◌, refl, Bool, true, false, ℕ, ◌+◌, ◌<◌, set}
use Rattle.std.proofs.Math.Path.{sym, ap, subst}
use Rattle.std.proofs.Common.{◌∙◌, arith, lt-ltb}
use mathlib.Core.List.{List, [], ◌∷◌}
use Rattle.std.proofs.Math.Dec.{eqb}
use Rattle.definition.specs.declared.Answer.TheVariants.{Ran}
use Rattle.definition.specs.declared.Reply.{Reply}
use Rattle.definition.specs.declared.Reply.TheVariants.{Accepted, Denied}
use Rattle.definition.specs.declared.Condition.{Condition}
use Rattle.definition.specs.declared.Condition.TheVariants.{Always, IfZero, IfLess}
use Rattle.definition.specs.declared.Instruction.{Instruction}
use Rattle.definition.specs.declared.Instruction.TheVariants.{Branch}
use Rattle.definition.specs.Numbers.{count_frames, loads_cell}
use Rattle.definition.specs.Answers.{◌>>=◌, ok, need, signed, less}
use Rattle.definition.specs.Instructions.{pick}
use Rattle.definition.specs.Machine.{Value, empty_value, int_value, null_value, object_value, unlisted_value, Frame, Now, Progress, moved, int!, jumps, execute}
use Rattle.definition.specs.Tables.{Tables, tables, world_of, view_base, frames_in, with_frames, view, put}
use Rattle.definition.specs.Broken.{broken}
use Rattle.definition.specs.Calls.{Done, done, carried, closed, drop_rows, call_drop, perform, step_tables, turn}
use Rattle.laws.specs.Results.{bind_ok, ok-inj}
use Rattle.laws.specs.Wrapped.{wrap-carried}
use Rattle.layout.specs.View.{drop-writes}
use Rattle.layout.specs.Unbroken.{unbroken, broken-false}
use Rattle.layout.specs.ReadBack.{view-put}
use Rattle.unbroken.specs.Steps.{pop-is}
use Rattle.unbroken.specs.Cut.{whole-traced}
use Rattle.unbroken.specs.WholeRows.{frames-whole}
use Rattle.unbroken.specs.Sweeping.{Turns, progressed-frames, ran-shows}

-- What a branch with target p leaves of frame f, above the frames fs, where the point past it is next: the frames gs

pub record ByZero (f : Frame) (fs : List Frame) (p next : ℕ) (gs : List Frame) : Type 0 where
  pub value : ℕ
  pub others : List Value
  pub operands : f.operands ≡ int_value value ∷ others
  pub goes : gs ≡ moved f (pick (eqb value 0) p next) others f.locals ∷ fs

pub record ByLess (f : Frame) (fs : List Frame) (p next : ℕ) (gs : List Frame) : Type 0 where
  pub lower : ℕ
  pub upper : ℕ
  pub others : List Value
  pub operands : f.operands ≡ int_value upper ∷ int_value lower ∷ others
  pub goes : gs ≡ moved f (pick (less (signed lower) (signed upper)) p next) others f.locals ∷ fs

an_int : (v : Value) (n : ℕ) → int! v ≡ ok n → v ≡ int_value n
unfolding int!
an_int empty_value n e = absurd (let z : ◌≡◌ {A = ℕ} 0 1 = cc in omega arith)
an_int (int_value m) n e = ap int_value (ok-inj e)
an_int null_value n e = absurd (let z : ◌≡◌ {A = ℕ} 0 1 = cc in omega arith)
an_int (object_value o) n e = absurd (let z : ◌≡◌ {A = ℕ} 0 1 = cc in omega arith)
an_int (unlisted_value k b) n e = absurd (let z : ◌≡◌ {A = ℕ} 0 1 = cc in omega arith)

module _ (t : Tables) (f : Frame) (fs : List Frame) (n : Now) (k p : ℕ) (r : Turns t f fs n) (ran : (step_tables t).answer ≡ Ran k) where
  -- the point past the branch
  abbrev next : ℕ
  next = f.point + n.at.size

  went : (c : Condition) → n.at.instruction ≡ Branch c p → (P : List Frame → Type 0)
      → ((j : record { taken : Bool; more : List Value }) → jumps c f.operands ≡ ok j → P (moved f (pick j.taken p next) j.more f.locals ∷ fs))
      → P (frames_in (turn (view t)) (view (step_tables t).tables))
  unfolding execute
  went c i P h = ran-shows t f fs n k (λ s. P (frames_in (turn (view t)) s)) r ran (λ _ o e.
      let d = bind_ok _ _ (subst (λ (x : Instruction). execute (turn (view t)) (world_of (view t)) (view t).objects f fs n.the_class n.at x ≡ ok o) i e) in
      subst P (ap (λ (o : Progress). o.frames) (ok-inj d.2) ∙ sym (progressed-frames (turn (view t)) (view t) o)) (h d.0 d.1))

  -- the frames that the step leaves its task
  abbrev left : List Frame
  left = frames_in (turn (view t)) (view (step_tables t).tables)

  abbrev Jump : Type 0
  Jump = record { taken : Bool; more : List Value }

  landed : (j j' : Jump) → j ≡ j' → moved f (pick j.taken p next) j.more f.locals ∷ fs ≡ moved f (pick j'.taken p next) j'.more f.locals ∷ fs
  landed j j' e = ap (λ (x : Jump). moved f (pick x.taken p next) x.more f.locals ∷ fs) e

  pub goto-goes : n.at.instruction ≡ Branch Always p → left ≡ moved f p f.operands f.locals ∷ fs
  unfolding jumps pick
  goto-goes i = went Always i (λ gs. gs ≡ moved f p f.operands f.locals ∷ fs) (λ j e. landed j (record { taken = true; more = f.operands }) (sym (ok-inj e)))

  pub ifeq-goes : n.at.instruction ≡ Branch IfZero p → ByZero f fs p next left
  unfolding jumps
  ifeq-goes i = went IfZero i (ByZero f fs p next) (λ j e.
      let a = bind_ok _ _ e in
      let b = bind_ok _ _ a.2 in
      record {
        value = b.0;
        others = a.0.more;
        operands = pop-is f.operands a.0 a.1 ∙ ap (λ (v : Value). v ∷ a.0.more) (an_int a.0.top b.0 b.1);
        goes = landed j (record { taken = eqb b.0 0; more = a.0.more }) (sym (ok-inj b.2));
      })

  pub less-goes : n.at.instruction ≡ Branch IfLess p → ByLess f fs p next left
  unfolding jumps
  less-goes i = went IfLess i (ByLess f fs p next) (λ j e.
      let a = bind_ok _ _ e in
      let b = bind_ok _ _ a.2 in
      let c = bind_ok _ _ b.2 in
      let d = bind_ok _ _ c.2 in
      record {
        lower = d.0;
        upper = c.0;
        others = b.0.more;
        operands = pop-is f.operands a.0 a.1
            ∙ (ap (λ (vs : List Value). a.0.top ∷ vs) (pop-is a.0.more b.0 b.1)
            ∙ (ap (λ (v : Value). v ∷ b.0.top ∷ b.0.more) (an_int a.0.top c.0 c.1) ∙ ap (λ (v : Value). int_value c.0 ∷ v ∷ b.0.more) (an_int b.0.top d.0 d.1)));
        goes = landed j (record { taken = less (signed d.0) (signed c.0); more = b.0.more }) (sym (ok-inj d.2));
      })

-- A drop, on tables that aren't broken

module _ (t : Tables) (k : ℕ) (h : broken t ≡ false) (two : k < 2) where
  drop-done : perform (call_drop k) t ≡ done Accepted (put (closed (with_frames k [] (view t))) t)
  unfolding perform drop_rows
  drop-done = wrap-carried Denied (drop_rows k) t h ∙ rw (lt-ltb k 2 two) (unfold need ◌>>=◌ carried in refl)

  pub drop-accepted : (perform (call_drop k) t).answer ≡ Accepted
  drop-accepted = ap (λ (d : Done Reply). d.answer) drop-done

  -- what the tables show: no frame of its task, no load that can be taken back, all else as it was
  pub drop-clears : view (perform (call_drop k) t).tables ≡ closed (with_frames k [] (view t))
  drop-clears =
      let u = broken-false t h in
      ap (λ (d : Done Reply). view d.tables) drop-done ∙ view-put (closed (with_frames k [] (view t))) t u.0 (whole-traced (with_frames k [] (view t)) [] (omega arith) (frames-whole (view t) u.1 k [] (omega arith) tt))

  -- and of the cells nothing changes but the count of that task's frames and that of the loads
  pub drop-tables : (perform (call_drop k) t).tables ≡ tables (set (set t.counts (count_frames + k) 0) loads_cell 0) t.classes t.kept t.cache t.ties t.subtypes t.objects t.frames
  unfolding view
  drop-tables = ap (λ (d : Done Reply). d.tables) drop-done ∙ drop-writes (view_base t) t k two (unbroken t h).groups
