-- Room kept for quotes, from a boot. A quote's new is told 'full' only while 64 or more objects that exist are the quote's, whatever reports do: a frame of such a store
-- has room for the operand, since the verifier found it at that point, so nothing but objects is missing. So too of a run that ends in it.
use Rattle.std.specs.Prelude.{◌≡◌, refl, Bool, true, false, not, ◌&&◌, List, [], ◌∷◌, ℕ, zero, suc, ◌<◌, ◌≤◌, length, ltb}
use Rattle.std.proofs.Common.{sym, ap, subst, ◌∙◌, arith, leb-true, lt-ltb}
use Rattle.std.proofs.Math.Option.{some}
use Rattle.std.proofs.Math.Logic.{inl, inr}
use Rattle.definition.specs.Numbers.{word_full}
use Rattle.definition.specs.declared.Refusal.TheVariants.{Word}
use Rattle.definition.specs.declared.Answer.{Answer}
use Rattle.definition.specs.declared.Answer.TheVariants.{Refused}
use Rattle.definition.specs.declared.Reply.TheVariants.{Stepped, RanFor}
use Rattle.definition.specs.declared.Kind.{Kind}
use Rattle.definition.specs.declared.Instruction.TheVariants.{New, Return}
use Rattle.definition.specs.Answers.{number, number_of_step, number_of, ok, ◌>>=◌, take?}
use Rattle.definition.specs.Classes.{Class, Method}
use Rattle.definition.specs.Broken.{broken}
use Rattle.definition.specs.Lists.{Each}
use Rattle.definition.specs.Machine.{made_by, roomless, Frame, Now, now}
use Rattle.definition.specs.Tables.{Tables, world_of, view}
use Rattle.definition.specs.Verifier.{TypeState, Flow, effect, types_in}
use Rattle.definition.specs.Calls.{turn_of, turn, step_tables, call_step, call_run, perform}
use Rattle.definition.specs.Histories.{ComesFromBoot, after_call}
use Rattle.laws.specs.Causes.{cause, first, instruction_causes, causes}
use Rattle.laws.specs.Options.{bind-some, need-true}
use Rattle.laws.specs.Refusals.{running}
use Rattle.laws.specs.Results.{ok-inj}
use Rattle.laws.specs.Runs.{after, run-ends-refused}
use Rattle.laws.specs.Walk.{Known, known}
use Rattle.unbroken.specs.First.{first-applies}
use Rattle.unbroken.specs.Share.{passed, met, read-causes, quote-full}
use Rattle.unbroken.specs.Sweeping.{Turns}
use Rattle.safety.specs.Safety.{unbroken-from-boot, valid-from-boot}
use Rattle.safety.specs.Valid.{Linked, Stack, Top, Verified}

each-length : {A B : Type 0} (R : A → B → Type 0) (xs : List A) (ys : List B) → Each R xs ys → length xs ≡ length ys
each-length R [] [] h = refl
each-length R [] (y ∷ ys) h = absurd h
each-length R (x ∷ xs) [] h = absurd h
each-length R (x ∷ xs) (y ∷ ys) h = ap (λ (n : ℕ). suc n) (each-length R xs ys h.1)

-- new's effect is known only where there is room for an operand more
effect-room : (c : ℕ) (τ : TypeState) (fl : Flow) → effect (New c) τ ≡ some fl → length τ.operands < 16
unfolding effect
effect-room c τ fl e =
    let a = bind-some _ _ e in
    let b = bind-some _ _ a.2 in
    let l = leb-true (suc (length τ.operands)) 16 (need-true _ b.1) in
    omega (arith, l)

-- the frame on top has as many operands as its point has types
module _ (t : Tables) (lk : Linked (world_of (view t))) (f : Frame) (fs : List Frame) (st : Stack (world_of (view t)) (view t).objects (f ∷ fs)) where
  top-room : (n : Now) (c : ℕ) → now (world_of (view t)) f ≡ ok n → n.at.instruction ≡ New c → length f.operands < 16
  unfolding now take? ◌>>=◌
  top-room n c e i = elim kn.way [
    | inl a ↦ absurd (apart c a.kind (sym is ∙ a.is))
    | inr a ↦ omega (arith, effect-room c tp.τ a.flows (rw is at a.does), each-length _ tp.τ.operands f.operands tp.operands)
  ]
    where
      k : Class
      k = st.0

      m : Method
      m = st.1

      tp : Top (world_of (view t)) (view t).objects f k m
      tp = st.2

      ve : Verified (world_of (view t)) k m
      ve = lk.verified f.class f.method k m tp.typed.is_class tp.typed.is_method

      kn : Known k.version m.code m.maps m.signature.result (types_in k m) ve.notes f.point tp.τ
      kn = known k m ve.notes ve.passes f.point tp.τ tp.typed.types

      reads : now (world_of (view t)) f ≡ ok (record { the_class = k; method = m; at = kn.at })
      reads = rw (tp.typed.is_class, tp.typed.is_method, kn.reads)

      is : kn.at.instruction ≡ New c
      is = ap (λ (x : Now). x.at.instruction) (ok-inj (sym reads ∙ e)) ∙ i

      apart : (c : ℕ) (kind : Kind) → New c ≡ Return kind → ⊥
      apart c kind q = let z : ◌≡◌ {A = ℕ} 0 1 = cc in omega arith

-- the quote's turn is that of its frames
quote-runs : (q p : List Frame) → turn_of q ≡ 0 → running q p ≡ q
unfolding turn_of
quote-runs [] p e = absurd (omega (arith, e))
quote-runs (f ∷ fs) p e = refl

-- what is missing is an object
full-objects : (r : Bool) (n : ℕ) → n < 16 → not (not r && ltb n 16) ≡ true → r ≡ true
full-objects true n l h = refl
full-objects false n l h = rw (lt-ltb n 16 l) at h

pub new-full : (t : Tables) → ComesFromBoot t → (f : Frame) (fs : List Frame) (n : Now) (c : ℕ) → Turns t f fs n → n.at.instruction ≡ New c → turn (view t) ≡ 0
    → (step_tables t).answer ≡ Refused (Word word_full) → 64 ≤ made_by 0 (view t).objects
unfolding turn number_of number_of_step number perform instruction_causes
new-full t b f fs n c r i q h =
    let os = (view t).objects in
    let v = valid-from-boot t b in
    let frames : (view t).quote ≡ f ∷ fs = sym (quote-runs (view t).quote (view t).report q) ∙ r.frames in
    let room = top-room t v.linked f fs (subst (Stack (world_of (view t)) os) frames v.quote) n c r.reads i in
    let w : first (causes call_step t) ≡ 10 = sym (first-applies call_step t) ∙ ap (λ (a : Answer). number_of (Stepped a)) h in
    let p : causes call_step t ≡ cause 1 (broken t) ∷ cause 14 false ∷ instruction_causes 0 (world_of (view t)) os f fs n.the_class (New c) =
    read-causes t f fs n r ∙ rw (q, i) in
    let a = passed 1 _ _ 10 (sym (ap first p) ∙ w) (λ e. omega arith) in
    let d = passed 14 _ _ 10 a.1 (λ e. omega arith) in
    let x = passed 5 _ _ 10 d.1 (λ e. omega arith) in
    let y = passed 7 _ _ 10 x.1 (λ e. omega arith) in
    let u = passed 18 _ _ 10 y.1 (λ e. omega arith) in
    quote-full t (unbroken-from-boot t b) (full-objects (roomless 0 os) (length f.operands) room (met 10 _ _ u.1 (λ e. unfold first in omega (arith, e))))

-- steps of a store that comes from a boot
steps-from-boot : (k : ℕ) (t : Tables) → ComesFromBoot t → ComesFromBoot (after step_tables k t)
unfolding after
steps-from-boot zero t b = b
steps-from-boot (suc k) t b = steps-from-boot k (step_tables t).tables (unfold perform in after_call call_step t b)

-- a run that ends in it, of the tables after the k steps that ran
pub run-full : (t : Tables) → ComesFromBoot t → (j k : ℕ) → (perform (call_run j) t).answer ≡ RanFor k (Refused (Word word_full))
    → (f : Frame) (fs : List Frame) (n : Now) (c : ℕ) → Turns (after step_tables k t) f fs n → n.at.instruction ≡ New c → turn (view (after step_tables k t)) ≡ 0
    → 64 ≤ made_by 0 (view (after step_tables k t)).objects
run-full t b j k e f fs n c r i q =
    let s = after step_tables k t in
    new-full s (steps-from-boot k t b) f fs n c r i q (run-ends-refused j t k (Word word_full) e).answers
