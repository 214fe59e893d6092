-- Rates, paper 4, on tables. A step is refused with 17 exactly if it divides by 0 (`divisor-refused`, `refused-divisor`); such a step changes nothing and is refused so again (`divisor-again`). An operator that
-- lacks an operand or finds one that is no int is refused with 14 first (`operator-stuck`); else what it makes of the two, where it doesn't refuse, stands in their place (`operator-runs`).
use Rattle.std.proofs.Math.Path.{◌≡◌, refl, ap}
use Rattle.std.proofs.Common.{sym, ◌∙◌, arith, eqb-true}
use Rattle.std.specs.Prelude.{◌≢◌, Bool, true, not, ◌&&◌, ℕ, length}
use Rattle.std.proofs.Math.Bool.{false}
use Rattle.std.proofs.lemmas.Bool.{false≢true}
use Rattle.std.proofs.Math.Option.{Option, none, some}
use mathlib.Core.List.{List, [], ◌∷◌}
use Rattle.std.proofs.Math.ListN.{get_elem?}
use Rattle.definition.specs.declared.Refusal.TheVariants.{Wanted, Word}
use Rattle.definition.specs.declared.Answer.{Answer}
use Rattle.definition.specs.declared.Answer.TheVariants.{Idle, Ran, Finished, Refused}
use Rattle.definition.specs.declared.Reply.TheVariants.{Stepped}
use Rattle.definition.specs.declared.Operator.{Operator}
use Rattle.definition.specs.declared.Operator.TheVariants.{Add, Subtract, Multiply, Divide}
use Rattle.definition.specs.declared.Instruction.{Instruction}
use Rattle.definition.specs.declared.Instruction.TheVariants.{AconstNull, Sipush, Load, Store, Pop, Dup, Arithmetic, Getfield, Putfield, Invokevirtual, New, Return, Branch}
use Rattle.definition.specs.Answers.{number, number_of_step, number_of, Result, ok, ◌>>=◌, take?}
use Rattle.definition.specs.Classes.{Class}
use Rattle.definition.specs.Constraints.{World}
use Rattle.definition.specs.Machine.{Value, empty_value, int_value, null_value, object_value, unlisted_value, Objects, Frame, Progress, Now, now, past, compute, execute, step}
use Rattle.definition.specs.Tables.{Tables, world_of, frames_in, view}
use Rattle.definition.specs.Broken.{broken}
use Rattle.definition.specs.Calls.{Given, Done, call_step, perform, carried, wrap, answer_of, closed, progressed, step_task, step_on, step_rows, step_tables, turn, turn_of}
use Rattle.laws.specs.Refusals.{running}
use Rattle.laws.specs.Refused.{step-refused}
use Rattle.laws.specs.Rates.{computes-on}
use Rattle.laws.specs.Results.{ok-inj}
use Rattle.laws.specs.Wrapped.{wrap-carried}
use Rattle.laws.specs.Causes.{Cause, cause, first, is_some_and, an_int, a_zero, zero_divisor, accessing, instruction_causes, reading, read_causes, frame_causes, causes}
use Rattle.unbroken.specs.Calls.{step-whole}
use Rattle.unbroken.specs.Unbroken.{shown}
use Rattle.unbroken.specs.RefusingSteps.{now-reading}
use Rattle.unbroken.specs.First.{first-applies}
use Rattle.unbroken.specs.Sweeping.{Turns, progressed-frames}

-- operands of an idiv that divides by 0: two ints, the upper one 0
pub record ZeroDivisor (vs : List Value) : Type 0 where
  pub dividend : ℕ
  pub others : List Value
  pub are : vs ≡ int_value 0 ∷ int_value dividend ∷ others

-- the frame whose turn it is stands at an idiv with such operands
pub record DividesByZero (t : Tables) : Type 0 where
  pub frame : Frame
  pub others : List Frame
  pub reads : Now
  pub turns : Turns t frame others reads
  pub divides : reads.at.instruction ≡ Arithmetic Divide
  pub operands : ZeroDivisor frame.operands

-- Of an instruction's causes

last-first : (a b s c d e f g : Bool) → first (cause 5 a ∷ cause 7 b ∷ cause 18 s ∷ cause 10 c ∷ cause 9 d ∷ cause 14 e ∷ cause 11 f ∷ cause 17 g ∷ []) ≡ 17 → (e ≡ false) × (g ≡ true)
unfolding first
last-first true b s c d e f g h = absurd (omega arith)
last-first false true s c d e f g h = absurd (omega arith)
last-first false false true c d e f g h = absurd (omega arith)
last-first false false false true d e f g h = absurd (omega arith)
last-first false false false false true e f g h = absurd (omega arith)
last-first false false false false false true f g h = absurd (omega arith)
last-first false false false false false false true g h = absurd (omega arith)
last-first false false false false false false false true h = (refl, refl)
last-first false false false false false false false false h = absurd (omega arith)

two-ints : (vs : List Value) → not (is_some_and (get_elem? vs 0) an_int && is_some_and (get_elem? vs 1) an_int) ≡ false → is_some_and (get_elem? vs 0) a_zero ≡ true → ZeroDivisor vs
two-ints [] h z = absurd (false≢true z)
two-ints (empty_value ∷ vs) h z = absurd (false≢true z)
two-ints (null_value ∷ vs) h z = absurd (false≢true z)
two-ints (object_value o ∷ vs) h z = absurd (false≢true z)
two-ints (unlisted_value k b ∷ vs) h z = absurd (false≢true z)
two-ints (int_value n ∷ []) h z = absurd (false≢true (sym h))
two-ints (int_value n ∷ empty_value ∷ vs) h z = absurd (false≢true (sym h))
two-ints (int_value n ∷ null_value ∷ vs) h z = absurd (false≢true (sym h))
two-ints (int_value n ∷ object_value o ∷ vs) h z = absurd (false≢true (sym h))
two-ints (int_value n ∷ unlisted_value k b ∷ vs) h z = absurd (false≢true (sym h))
two-ints (int_value n ∷ int_value m ∷ vs) h z = record { dividend = m; others = vs; are = ap (λ (x : ℕ). int_value x ∷ int_value m ∷ vs) (eqb-true n 0 z) }

module _ (task : ℕ) (w : World) (os : Objects) (f : Frame) (fs : List Frame) (k : Class) where
  divisor-zero : (o : Operator) → zero_divisor task w os f fs k o ≡ true → (o ≡ Divide) × (is_some_and (get_elem? f.operands 0) a_zero ≡ true)
  unfolding zero_divisor
  divisor-zero Add h = absurd (false≢true h)
  divisor-zero Subtract h = absurd (false≢true h)
  divisor-zero Multiply h = absurd (false≢true h)
  divisor-zero Divide h = (refl, h)

  instruction-divides : (i : Instruction) → first (instruction_causes task w os f fs k i) ≡ 17 → (i ≡ Arithmetic Divide) × ZeroDivisor f.operands
  unfolding instruction_causes accessing
  instruction-divides AconstNull h = absurd (false≢true (last-first _ _ _ _ _ _ _ _ h).1)
  instruction-divides (Sipush n) h = absurd (false≢true (last-first _ _ _ _ _ _ _ _ h).1)
  instruction-divides (Load kind j) h = absurd (false≢true (last-first _ _ _ _ _ _ _ _ h).1)
  instruction-divides (Store kind j) h = absurd (false≢true (last-first _ _ _ _ _ _ _ _ h).1)
  instruction-divides Pop h = absurd (false≢true (last-first _ _ _ _ _ _ _ _ h).1)
  instruction-divides Dup h = absurd (false≢true (last-first _ _ _ _ _ _ _ _ h).1)
  instruction-divides (Arithmetic o) h =
      let l = last-first false false false false false (not (is_some_and (get_elem? f.operands 0) an_int && is_some_and (get_elem? f.operands 1) an_int)) false (zero_divisor task w os f fs k o) h in
      let d = divisor-zero o l.1 in
      (ap Arithmetic d.0, two-ints f.operands l.0 d.1)
  instruction-divides (Getfield c n t) h = absurd (false≢true (last-first _ _ _ _ _ _ _ _ h).1)
  instruction-divides (Putfield c n t) h = absurd (false≢true (last-first _ _ _ _ _ _ _ _ h).1)
  instruction-divides (Invokevirtual c s) h = absurd (false≢true (last-first _ _ _ _ _ _ _ _ h).1)
  instruction-divides (New c) h = absurd (false≢true (last-first _ _ _ _ _ _ _ _ h).1)
  instruction-divides (Branch c p) h = absurd (false≢true (last-first _ _ _ _ _ _ _ _ h).1)
  instruction-divides (Return kind) h = absurd (false≢true (last-first _ _ _ _ _ _ _ _ h).1)

  divides-first : ZeroDivisor f.operands → first (instruction_causes task w os f fs k (Arithmetic Divide)) ≡ 17
  unfolding instruction_causes zero_divisor first
  divides-first z = rw z.are refl

-- Of a step's

module _ (t : Tables) where
  abbrev step_causes : List Cause
  step_causes = frame_causes (turn (view t)) (world_of (view t)) (view t).objects (running (view t).quote (view t).report)

  last-divides : first step_causes ≡ 17 → DividesByZero t
  unfolding first
  last-divides = go (running (view t).quote (view t).report) refl
    where
      by : (f : Frame) (fs : List Frame) → running (view t).quote (view t).report ≡ f ∷ fs → (o : Option Now) → reading (world_of (view t)) f ≡ o
          → first (read_causes (turn (view t)) (world_of (view t)) (view t).objects f fs o) ≡ 17 → DividesByZero t
      by f fs q none e h = absurd (omega arith)
      by f fs q (some n) e h =
          let d = instruction-divides (turn (view t)) (world_of (view t)) (view t).objects f fs n.the_class n.at.instruction h in
          let z : now (world_of (view t)) f ≡ ok n = now-reading (world_of (view t)) f ∙ ap (λ (o : Option Now). take? o (Word 14)) e ∙ (unfold take? in refl) in
          record { frame = f; others = fs; reads = n; turns = record { frames = q; reads = z }; divides = d.0; operands = d.1 }

      go : (gs : List Frame) → running (view t).quote (view t).report ≡ gs → first (frame_causes (turn (view t)) (world_of (view t)) (view t).objects gs) ≡ 17 → DividesByZero t
      go [] q h = absurd (omega arith)
      go (f ∷ fs) q h = by f fs q (reading (world_of (view t)) f) refl h

  -- the causes of the instruction that is read are the step's, where the store isn't broken
  turn-first : (f : Frame) (fs : List Frame) (n : Now) → Turns t f fs n → broken t ≡ false
      → number_of (Stepped (step_tables t).answer) ≡ first (instruction_causes (turn (view t)) (world_of (view t)) (view t).objects f fs n.the_class n.at.instruction)
  unfolding perform causes first
  turn-first f fs n u q = first-applies call_step t ∙ rw (q, u.frames) (go (reading (world_of (view t)) f) (sym (now-reading (world_of (view t)) f) ∙ u.reads))
    where
      go : (o : Option Now) → take? o (Word 14) ≡ ok n
          → first (read_causes (turn (view t)) (world_of (view t)) (view t).objects f fs o) ≡ first (instruction_causes (turn (view t)) (world_of (view t)) (view t).objects f fs n.the_class n.at.instruction)
      go none e = absurd (let z : ◌≡◌ {A = ℕ} 0 1 = unfold take? in cc in omega arith)
      go (some m) e = let s : m ≡ n = unfold take? in cc in rw s refl

number_word : (w : ℕ) → w ≢ 0 → w ≢ 5 → (a : Answer) → number_of (Stepped a) ≡ w → a ≡ Refused (Word w)
unfolding number_of number_of_step number
number_word w x y Idle h = absurd (x (sym h))
number_word w x y (Ran k) h = absurd (x (sym h))
number_word w x y (Finished k n) h = absurd (x (sym h))
number_word w x y (Refused (Wanted l n)) h = absurd (y (sym h))
number_word w x y (Refused (Word n)) h = ap (λ (m : ℕ). Refused (Word m)) h

-- On tables

-- a step is refused with 17 exactly if the store isn't broken and the step divides by 0
pub divisor-refused : (t : Tables) → (step_tables t).answer ≡ Refused (Word 17) → (broken t ≡ false) × DividesByZero t
unfolding perform number_of number_of_step number causes
divisor-refused t e = go (broken t) refl (sym (first-applies call_step t) ∙ ap (λ (a : Answer). number_of (Stepped a)) e)
  where
    go : (b : Bool) → broken t ≡ b → first (cause 1 b ∷ step_causes t) ≡ 17 → (broken t ≡ false) × DividesByZero t
    go true q h = absurd (let z : ◌≡◌ {A = ℕ} 1 17 = unfold first in h in omega arith)
    go false q h = (q, last-divides t (unfold first in h))

pub refused-divisor : (t : Tables) → broken t ≡ false → DividesByZero t → (step_tables t).answer ≡ Refused (Word 17)
refused-divisor t q d = number_word 17 (λ z. omega arith) (λ z. omega arith) (step_tables t).answer
    (turn-first t d.frame d.others d.reads d.turns q ∙ rw d.divides (divides-first (turn (view t)) (world_of (view t)) (view t).objects d.frame d.others d.reads.the_class d.operands))

-- such a step leaves every table as it was, and is refused so again
pub divisor-again : (t : Tables) → (step_tables t).answer ≡ Refused (Word 17) → ((step_tables t).tables ≡ t) × ((step_tables (step_tables t).tables).answer ≡ Refused (Word 17))
divisor-again t e = let s = (step-refused t (Word 17) e).same in (s, rw s e)

-- An operator on a store that isn't broken

module _ (t : Tables) (h : broken t ≡ false) (f : Frame) (fs : List Frame) (n : Now) (u : Turns t f fs n) (o : Operator) (i : n.at.instruction ≡ Arithmetic o) where
  -- an operand missing, or no int: 14, whatever the divisor is
  pub operator-stuck : (is_some_and (get_elem? f.operands 0) an_int && is_some_and (get_elem? f.operands 1) an_int) ≡ false → (step_tables t).answer ≡ Refused (Word 14)
  operator-stuck s = number_word 14 (λ z. omega arith) (λ z. omega arith) (step_tables t).answer (turn-first t f fs n u h ∙ rw i (unfold instruction_causes first in rw s refl))

  -- else what it makes of them stands in their place, unless it refuses
  module _ (a b m : ℕ) (vs : List Value) (e : f.operands ≡ int_value b ∷ int_value a ∷ vs) (c : compute o a b ≡ ok m) where
    abbrev gone : Progress
    gone = record { world = world_of (view t); objects = (view t).objects; frames = past f n.at (int_value m ∷ vs) f.locals ∷ fs; result = none }

    operator-rows : step_rows (view t) ≡ ok (record { answer = Ran (turn (view t)); rows = closed (progressed (turn (view t)) (view t) gone) })
    unfolding step_rows step_on turn turn_of
    operator-rows = go (view t).quote (view t).report u.frames
      where
        did : (j : ℕ) → step j (world_of (view t)) (view t).objects f fs ≡ ok gone
        did j = unfold step ◌>>=◌ in rw u.reads
            (ap (λ (x : Instruction). execute j (world_of (view t)) (view t).objects f fs n.the_class n.at x) i
            ∙ computes-on j (world_of (view t)) (view t).objects f fs n.the_class n.at o a b vs e ∙ rw c refl)

        one : (j : ℕ) → step_task j (world_of (view t)) f fs (view t) ≡ ok (record { answer = Ran j; rows = closed (progressed j (view t) gone) })
        one j = unfold step_task answer_of ◌>>=◌ in rw (did j) refl

        go : (q p : List Frame) → running q p ≡ f ∷ fs → step_on q p (world_of (view t)) (view t) ≡ ok (record { answer = Ran (turn_of q); rows = closed (progressed (turn_of q) (view t) gone) })
        go (g ∷ gs) p z = let x : g ≡ f = cc in let y : gs ≡ fs = cc in rw (x, y) (one 0)
        go [] (g ∷ gs) z = let x : g ≡ f = cc in let y : gs ≡ fs = cc in rw (x, y) (one 1)
        go [] [] z = absurd (let l : length {A = Frame} [] ≡ length (f ∷ fs) = ap length z in omega arith)

    pub operator-runs : ((step_tables t).answer ≡ Ran (turn (view t))) × (frames_in (turn (view t)) (view (step_tables t).tables) ≡ past f n.at (int_value m ∷ vs) f.locals ∷ fs)
    unfolding step_tables
    operator-runs = (
      ran,
      shown Refused step_rows (λ a s. a ≡ Ran (turn (view t)) → frames_in (turn (view t)) s ≡ gone.frames) t step-whole
          (λ w z. let y : ◌≡◌ {A = ℕ} 0 1 = cc in absurd (omega arith))
          (λ _ g z _. ap (λ (x : Given Answer). frames_in (turn (view t)) x.rows) (ok-inj (sym z ∙ operator-rows)) ∙ progressed-frames (turn (view t)) (view t) gone) ran,
    )
      where
        ran : (wrap Refused step_rows t).answer ≡ Ran (turn (view t))
        ran = ap (λ (d : Done Answer). d.answer) (wrap-carried Refused step_rows t h) ∙ ap (λ (x : Result (Given Answer)). (carried Refused t x).answer) operator-rows ∙ (unfold carried in refl)
