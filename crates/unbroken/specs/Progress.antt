-- What an accepted instruction leaves: every object keeps its number, its class and its task, and unless the task gives a result it has a frame and its frames moved, but for
-- a goto to its own point.
use Rattle.std.proofs.Math.Path.{◌≡◌, refl}
use Rattle.std.proofs.Common.{sym, ap, inr}
use Rattle.std.specs.Prelude.{Bool, ℕ, ◌+◌, ◌<◌, length}
use Rattle.std.proofs.Math.Option.{Option, none, some}
use mathlib.Core.List.{List, [], ◌∷◌}
use Rattle.std.proofs.Math.Logic.{inl}
use native.Mathlib.Omega.{arith}
use Rattle.definition.specs.declared.Instruction.{Instruction}
use Rattle.definition.specs.declared.Condition.{Condition}
use Rattle.definition.specs.declared.Condition.TheVariants.{Always}
use Rattle.definition.specs.declared.Instruction.TheVariants.{AconstNull, Sipush, Load, Store, Pop, Dup, Arithmetic, Getfield, Putfield, Invokevirtual, New, Return, Branch}
use Rattle.definition.specs.Answers.{ok}
use Rattle.definition.specs.Classes.{Class}
use Rattle.definition.specs.Constraints.{World}
use Rattle.definition.specs.Instructions.{Decoded, pick}
use Rattle.definition.specs.Machine.{Value, Objects, Frame, Progress, Now, past, now, jumps, give, execute, step}
use Rattle.laws.specs.Results.{bind_ok, ok-inj, take-ok}
use Rattle.laws.specs.Sized.{sized}
use Rattle.laws.specs.Objects.{Numbered, numbered-same, numbered-changed, numbered-made}
use Rattle.laws.specs.Owners.{Leaves, owners-changed}
use Rattle.laws.specs.Wrapped.{Ok, then}
use Rattle.unbroken.specs.Steps.{object-is, jumps-same}

-- the frame stands at a goto to its own point
pub record Loops (w : World) (f : Frame) : Type 0 where
  pub reads : Now
  pub is_now : now w f ≡ ok reads
  pub itself : reads.at.instruction ≡ Branch Always f.point

-- task k goes on from the objects os and the frames fs, which stand still only if S
pub record Advances (S : Type 0) (k : ℕ) (os : Objects) (fs : List Frame) (o : Progress) : Type 0 where
  pub objects : Numbered os o.objects
  pub owners : Leaves k os o.objects
  pub left : o.result ≡ none → o.frames ≡ [] → ⊥
  pub moved : o.result ≡ none → o.frames ≡ fs → S

-- the point and the operands of the top frame
abbrev point : List Frame → ℕ
point [] = 0
point (g ∷ gs) = g.point

abbrev depth : List Frame → ℕ
depth [] = 0
depth (g ∷ gs) = length g.operands

longer : (fs gs : List Frame) → (length fs ≡ length gs → ⊥) → fs ≡ gs → ⊥
longer fs gs h e = h (ap length e)

module _ (S : Type 0) (task : ℕ) (os : Objects) (f : Frame) (fs : List Frame) (i : Decoded) (size : 0 < i.size) where
  -- the frame stands past its instruction
  goes : (w : World) (qs : Objects) → Numbered os qs → Leaves task os qs → (o l : List Value)
      → Advances S task os (f ∷ fs) (record { world = w; objects = qs; frames = past f i o l ∷ fs; result = none })
  goes w qs n m o l = record { objects = n; owners = m; left = λ _. longer _ _ (λ e. omega arith); moved = λ _ e. absurd (stands (ap point e)) }
    where
      stands : f.point + i.size ≡ f.point → ⊥
      stands e = omega arith

  -- a value given back: one frame less
  gives : (gs : List Frame) (w : World) (v : Value) → Ok (give gs w os v) (Advances S task os (f ∷ gs))
  unfolding give
  gives [] w v = then (Advances S task os (f ∷ [])) _ _ (λ n _. record { objects = numbered-same os; owners = inl refl; left = λ e. absurd (some-none n e); moved = λ e. absurd (some-none n e) })
    where
      some-none : (n : ℕ) → Path (Option ℕ) (some n) none → ⊥
      some-none n e = let z : ◌≡◌ {A = ℕ} 0 1 = cc in omega arith
  gives (g ∷ gs) w v = record { objects = numbered-same os; owners = inl refl; left = λ _. longer _ _ (λ e. omega arith); moved = λ _ e. absurd (longer _ _ (λ e. omega arith) e) }

  module _ (w : World) (k : Class) where
    abbrev Q : Progress → Type 0
    Q = Advances S task os (f ∷ fs)

    on : (o l : List Value) → Advances S task os (f ∷ fs) (record { world = w; objects = os; frames = past f i o l ∷ fs; result = none })
    on o l = goes w os (numbered-same os) (inl refl) o l

    still : (c : Condition) (p : ℕ) (j : record { taken : Bool; more : List Value }) → jumps c f.operands ≡ ok j → length j.more ≡ length f.operands
        → pick j.taken p (f.point + i.size) ≡ f.point → Branch c p ≡ Branch Always f.point
    unfolding pick
    still c p j e d q =
        let a = jumps-same c f.operands j e d in
        let z : p ≡ f.point = rw (a.1, pick) at q in
        rw (a.0, z) refl

    advances : (j : Instruction) → (j ≡ Branch Always f.point → S) → Ok (execute task w os f fs k i j) Q
    unfolding execute
    advances AconstNull h = then Q _ _ (λ _ _. on _ _)
    advances (Sipush n) h = then Q _ _ (λ _ _. on _ _)
    advances (Load kind j) h = then Q _ _ (λ _ _. then Q _ _ (λ _ _. then Q _ _ (λ _ _. on _ _)))
    advances (Store kind j) h = then Q _ _ (λ _ _. then Q _ _ (λ _ _. then Q _ _ (λ _ _. on _ _)))
    advances Pop h = then Q _ _ (λ _ _. on _ _)
    advances Dup h = then Q _ _ (λ _ _. then Q _ _ (λ _ _. on _ _))
    advances (Arithmetic o) h = then Q _ _ (λ _ _. then Q _ _ (λ _ _. then Q _ _ (λ _ _. then Q _ _ (λ _ _. then Q _ _ (λ _ _. on _ _)))))
    advances (Getfield c n t) h = then Q _ _ (λ _ _. then Q _ _ (λ _ _. then Q _ _ (λ v _. then Q _ _ (λ _ _. then Q _ _ (λ _ _. then Q _ _ (λ _ _. then Q _ _ (λ _ _.
        goes v os (numbered-same os) (inl refl) _ _)))))))
    advances (Putfield c n t) h = then Q _ _ (λ e _. then Q _ _ (λ _ _. then Q _ _ (λ v _. then Q _ _ (λ _ _. then Q _ _ (λ q _. then Q _ _ (λ _ _. then Q _ _ (λ o r. then Q _ _ (λ _ _.
        goes v _ (numbered-changed os o.number o.object (record { class = o.object.class; values = _ }) (object-is w.base os e q.top o r) refl) (inl (owners-changed os o.number _)) _ _))))))))
    advances (Invokevirtual c s) h = then Q _ _ (λ _ _. then Q _ _ (λ _ _. then Q _ _ (λ _ _. then Q _ _ (λ _ _. then Q _ _ (λ _ _. then Q _ _ (λ _ _. then Q _ _ (λ _ _. then Q _ _ (λ _ _.
        record { objects = numbered-same os; owners = inl refl; left = λ _. longer _ _ (λ e. omega arith); moved = λ _ e. absurd (longer _ _ (λ e. omega arith) e) }))))))))
    advances (New c) h = then Q _ _ (λ _ _. then Q _ _ (λ _ _. then Q _ _ (λ _ _. goes w _ (numbered-made task _ os) (inr (_, refl)) _ _)))
    advances (Branch c p) h = then Q _ _ (λ j e. record {
      objects = numbered-same os;
      owners = inl refl;
      left = λ _. longer _ _ (λ e. omega arith);
      moved = λ _ q. h (still c p j e (ap depth q) (ap point q));
    })
    advances (Return kind) h = then Q _ _ (λ _ _. then Q _ _ (λ p _. then Q _ _ (λ _ _. gives fs w p.top)))

now-sized : (w : World) (f : Frame) (n : Now) → now w f ≡ ok n → 0 < n.at.size
unfolding now
now-sized w f n e =
    let a = bind_ok _ _ e in
    let b = bind_ok _ _ a.2 in
    let c = bind_ok _ _ b.2 in
    rw (sym (ap (λ (y : Now). y.at) (ok-inj c.2))) (sized a.0.version b.0.code f.point c.0 (take-ok _ _ c.1))

pub step-advances : (task : ℕ) (w : World) (os : Objects) (f : Frame) (fs : List Frame) → Ok (step task w os f fs) (Advances (Loops w f) task os (f ∷ fs))
unfolding step
step-advances task w os f fs = then (Advances (Loops w f) task os (f ∷ fs)) _ _ (λ n e.
    advances (Loops w f) task os f fs n.at (now-sized w f n e) w n.the_class n.at.instruction (λ q. record { reads = n; is_now = e; itself = q }))
