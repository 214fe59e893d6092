-- One instruction, and a start, of both machines on the same objects: the same refusal, or the same constraints, frames and result, with the same objects again.
use Rattle.std.specs.Prelude.{◌≡◌, Bool, ◌&&◌, ℕ, suc, ◌<◌, length}
use Rattle.std.proofs.Math.Path.{refl}
use Rattle.std.proofs.Common.{sym, ap}
use Rattle.std.proofs.Math.Option.{Option, some, none-ne-some}
use mathlib.Core.List.{List, [], ◌∷◌}
use Rattle.std.proofs.Math.ListN.{get_elem?}
use Rattle.std.proofs.Math.Dec.{ltb}
use Rattle.definition.specs.declared.Refusal.TheVariants.{Word}
use Rattle.definition.specs.declared.Signature.{Signature}
use Rattle.definition.specs.declared.Operator.{Operator}
use Rattle.definition.specs.declared.Operator.TheVariants.{Add, Subtract, Multiply, Divide}
use Rattle.definition.specs.declared.Instruction.{Instruction}
use Rattle.definition.specs.declared.Instruction.TheVariants.{AconstNull, Sipush, Load, Store, Pop, Dup, Arithmetic, Getfield, Putfield, Invokevirtual, New, Return, Branch}
use Rattle.definition.specs.Numbers.{word_absent, word_full, word_stuck, name_int, task_limit, frame_limit, operand_limit}
use Rattle.definition.specs.Classes.{Base, Class, Selected, loader_of, selected}
use Rattle.definition.specs.Constraints.{World, post}
use Rattle.definition.specs.Instructions.{Decoded}
use Rattle.definition.specs.Machine.{Value, empty_value, int_value, null_value, object_value, unlisted_value, Object, Objects, Frame, compute, object!, Progress, give, execute, step}
use Rattle.definition.specs.Verifier.{target}
use Rattle.definition.specs.Loading.{started}
use Rattle.definition.specs.Answers.{Result, ◌>>=◌, need, take?}
use Rattle.laws.specs.Single.{Single, by-single}
use Rattle.laws.specs.SingleCalls.{single-call, single-start}
use Rattle.definition.specs.First.Signatures.{first_argument, first_signature, first_selected, first_start_signature}
use Rattle.definition.specs.First.Machine.{first_object!, first_compute, FirstProgress, first_give, first_execute, first_step, first_started}
use Rattle.first.specs.SameObjects.{SameObjects, same-existing, same_next, same-room, same-made, same-changed}
use Rattle.first.specs.Likewise.{Likewise, after, after-in, asked}
use Rattle.first.specs.SameSignatures.{same-selected, same-ties}
use Rattle.first.specs.SameFiles.{Old, Early, Straight}
use Rattle.first.specs.SameBases.{same-now, now-straight}

-- today's progress, but for the objects
abbrev pub plain_progress : List Object → Progress → FirstProgress
plain_progress os o = record { world = o.world; objects = os; frames = o.frames; result = o.result }

pub record SameProgress (p : FirstProgress) (o : Progress) : Type 0 where
  pub rest : p ≡ plain_progress p.objects o
  pub objects : SameObjects p.objects o.objects

abbrev Popped : Type 0
Popped = record { top : Value; more : List Value }

-- after one answer, which both write alike, or otherwise
then : {A : Type 0} (o : Result A) (f : A → Result FirstProgress) (g : A → Result Progress)
    → ((a : A) → Likewise SameProgress (f a) (g a)) → Likewise SameProgress (o >>= f) (o >>= g)
then o = after SameProgress o o refl

then_by : {A : Type 0} (o p : Result A) → o ≡ p → (f : A → Result FirstProgress) (g : A → Result Progress)
    → ((a : A) → Likewise SameProgress (f a) (g a)) → Likewise SameProgress (o >>= f) (p >>= g)
then_by = after SameProgress

-- sum and difference are as they were
same-compute : (o : Operator) → Early o → (a b : ℕ) → first_compute o a b ≡ compute o a b
unfolding first_compute compute
same-compute Add e a b = refl
same-compute Subtract e a b = refl
same-compute Multiply e a b = absurd e
same-compute Divide e a b = absurd e

module _ (os : List Object) (qs : Objects) (h : SameObjects os qs) where
  same-receiver : (b : Base) (e : ℕ) (v : Value) → first_object! b os e v ≡ object! b qs e v
  unfolding first_object! object!
  same-receiver b e empty_value = refl
  same-receiver b e (int_value n) = refl
  same-receiver b e null_value = refl
  same-receiver b e (object_value o) = rw (same-existing os qs h o)
  same-receiver b e (unlisted_value k c) = refl

  same-give : (fs : List Frame) (w : World) (v : Value) → Likewise SameProgress (first_give fs w os v) (give fs w qs v)
  unfolding first_give give
  same-give [] w v = then _ _ _ (λ n. record { rest = refl; objects = h })
  same-give (g ∷ gs) w v = record { rest = refl; objects = h }

  module _ (task : ℕ) (two : task < task_limit) (w : World) (f : Frame) (fs : List Frame) (k : Class) (d : Decoded) where
    -- a call with a list of one does what it did
    one-invoked : (c n a r : ℕ) → Likewise SameProgress (first_execute w os f fs k d (Invokevirtual c (first_signature n a r))) (execute task w qs f fs k d (Invokevirtual c (first_signature n a r)))
    unfolding first_execute first_argument
    one-invoked c n a r = rw (single-call task w qs f fs k d c n a r)
        (then _ _ _ (λ e. then_by _ _ (taken e word_absent) _ _ (λ m. then_by _ _ (ap (post w (ltb (suc (length fs)) frame_limit)) (same-ties w.ties (loader_of w.base m.class) k.loader s one)) _ _ (λ _.
        then _ _ _ (λ (p : Popped). then _ _ _ (λ (q : Popped). then _ _ _ (λ _.
        then_by _ _ (same-receiver w.base e q.top) _ _ (λ o. then_by _ _ (taken o.object.class word_stuck) _ _ (λ m. record { rest = refl; objects = h })))))))))
      where
        s : Signature
        s = first_signature n a r

        one : Single s
        one = (a, refl)

        taken : (e x : ℕ) → take? (first_selected w.base s e) (Word x) ≡ take? (selected w.base s e) (Word x)
        taken e x = ap (λ (y : Option Selected). take? y (Word x)) (same-selected w.base s one e)

    pub same-execute : (i : Instruction) → Straight i → Likewise SameProgress (first_execute w os f fs k d i) (execute task w qs f fs k d i)
    unfolding first_execute execute
    same-execute AconstNull z = then _ _ _ (λ _. record { rest = refl; objects = h })
    same-execute (Sipush n) z = then _ _ _ (λ _. record { rest = refl; objects = h })
    same-execute (Load kind j) z = then _ _ _ (λ _. then _ _ _ (λ v. then _ _ _ (λ _. record { rest = refl; objects = h })))
    same-execute (Store kind j) z = then _ _ _ (λ p. then _ _ _ (λ _. then _ _ _ (λ _. record { rest = refl; objects = h })))
    same-execute Pop z = then _ _ _ (λ p. record { rest = refl; objects = h })
    same-execute Dup z = then _ _ _ (λ _. then _ _ _ (λ p. record { rest = refl; objects = h }))
    same-execute (Arithmetic o) z = then _ _ _ (λ p. then _ _ _ (λ q. then _ _ _ (λ b. then _ _ _ (λ a. then_by _ _ (same-compute o z.early a b) _ _ (λ n. record { rest = refl; objects = h })))))
    same-execute (Getfield c n t) z =
        then _ _ _ (λ e. then _ _ _ (λ _. then _ _ _ (λ _. then _ _ _ (λ (p : Popped).
        then_by _ _ (same-receiver w.base e p.top) _ _ (λ o. then _ _ _ (λ j. then _ _ _ (λ v. record { rest = refl; objects = h })))))))
    same-execute (Putfield c n t) z =
        then _ _ _ (λ e. then _ _ _ (λ _. then _ _ _ (λ _. then _ _ _ (λ p. then _ _ _ (λ (q : Popped). then _ _ _ (λ _.
        then_by _ _ (same-receiver w.base e q.top) _ _ (λ o. then _ _ _ (λ j. record { rest = refl; objects = same-changed os qs h _ _ }))))))))
    same-execute (Invokevirtual c s) z = by-single (λ s. Likewise SameProgress (first_execute w os f fs k d (Invokevirtual c s)) (execute task w qs f fs k d (Invokevirtual c s))) (λ n a r. one-invoked c n a r) s z.one
    same-execute (New c) z =
        then _ _ _ (λ e. asked SameProgress _ _ _ _ (λ _. then_by _ _ (ap (λ (b : Bool). need (b && ltb (length f.operands) operand_limit) (Word word_full)) (same-room task os qs h)) _ _
        (λ _. record { rest = rw (same_next os qs h); objects = same-made task two _ os qs h })))
    same-execute (Branch c p) z = absurd (none-ne-some p (sym (unfold target in z.nowhere)))
    same-execute (Return kind) z = then _ _ _ (λ _. then _ _ _ (λ (p : Popped). then _ _ _ (λ _. same-give fs w p.top)))

  module _ (task : ℕ) (two : task < task_limit) (w : World) where
    pub same_step : ((c : ℕ) (k : Class) → get_elem? w.base.classes c ≡ some k → Old k.version) → (f : Frame) (fs : List Frame) → Likewise SameProgress (first_step w os f fs) (step task w qs f fs)
    unfolding first_step step
    same_step old f fs =
        after-in SameProgress _ _ (same-now w f old) _ _ (λ n e. same-execute task two w f fs n.the_class n.at n.at.instruction (now-straight w f n e))

    pub same-started : (l n m v : ℕ) (fs : List Frame) → Likewise SameProgress (first_started l n m v w os fs) (started task l n m v w qs fs)
    unfolding first_started
    same-started l n m v fs = rw (single-start task l n m v w qs fs)
        (then _ _ _ (λ _. then _ _ _ (λ _. then _ _ _ (λ c. then_by _ _
        (ap (λ (y : Option Selected). take? y (Word word_absent)) (same-selected w.base (first_start_signature m) (name_int, refl) c)) _ _ (λ s.
        asked SameProgress _ _ _ _ (λ _. then_by _ _ (ap (λ (b : Bool). need b (Word word_full)) (same-room task os qs h)) _ _ (λ _. record { rest = rw (same_next os qs h); objects = same-made task two _ os qs h })))))))
