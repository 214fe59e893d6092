-- Which ties a step posts, on tables: those that its instruction names and that weren't there yet, behind those that were (`step-posts`). A getfield and a putfield name one, on the
-- field's type; a call names one on each argument and then one on the result; each between the loader of the class that resolution finds and the frame class's. No other instruction
-- names any.
use Rattle.std.specs.Prelude.{◌≡◌, Bool, ℕ, length}
use Rattle.std.proofs.Math.Path.{refl, ap}
use Rattle.std.proofs.Common.{sym, ◌∙◌, subst, arith}
use Rattle.std.proofs.Math.Bool.{true}
use Rattle.std.proofs.Math.Option.{Option, none, some}
use mathlib.Core.List.{List, [], ◌∷◌, ◌++◌, append-nil}
use Rattle.definition.specs.declared.Answer.{Answer}
use Rattle.definition.specs.declared.Answer.TheVariants.{Refused}
use Rattle.definition.specs.declared.Refusal.{Refusal}
use Rattle.definition.specs.declared.Instruction.{Instruction}
use Rattle.definition.specs.declared.Instruction.TheVariants.{AconstNull, Sipush, Load, Store, Pop, Dup, Arithmetic, Branch, Getfield, Putfield, Invokevirtual, New, Return}
use Rattle.definition.specs.declared.Refusal.TheVariants.{Word}
use Rattle.definition.specs.Answers.{wanted, take?, ok}
use Rattle.definition.specs.Maybe.{◌>>=◌}
use Rattle.definition.specs.Requests.{at}
use Rattle.definition.specs.Superclasses.{nearest}
use Rattle.definition.specs.Numbers.{word_absent}
use Rattle.definition.specs.declared.Signature.{Signature}
use Rattle.definition.specs.Classes.{signature_types, Class, Selected, find, has_field, loader_of, selected, super_of}
use Rattle.definition.specs.Constraints.{Tie, World, new_tie, new_ties, signature_ties, post}
use Rattle.definition.specs.Instructions.{Decoded}
use Rattle.definition.specs.Machine.{Value, Objects, Frame, Now, Progress, give, execute, step}
use Rattle.definition.specs.Tables.{Tables, Rows, world_of, view}
use Rattle.definition.specs.Calls.{Given, step_task, step_on, step_rows, step_tables}
use Rattle.laws.specs.Options.{some-bind}
use Rattle.laws.specs.Results.{bind_ok, ok-inj, take-ok}
use Rattle.laws.specs.Wrapped.{Ok, ok_at, then}
use Rattle.unbroken.specs.Calls.{step-whole}
use Rattle.unbroken.specs.Unbroken.{shown}
use Rattle.laws.specs.Refusals.{running}
use Rattle.unbroken.specs.Sweeping.{Turns}

-- the class that declares the field of a name and a type, found from class c under class k's loader, and the class that declares the method of a signature
unfoldable pub declares_field : World → Class → ℕ → ℕ → ℕ → Option ℕ
declares_field w k c n t = find w.base.cache (at k.loader c) >>= λ e. nearest (super_of w.base) (has_field w.base n t) e

unfoldable pub declares_method : World → Class → ℕ → Signature → Option ℕ
declares_method w k c s = find w.base.cache (at k.loader c) >>= λ e. selected w.base s e >>= λ d. some d.class

-- the ties on these names between the loader of the class that was found and class k's, those that aren't there yet
unfoldable pub ties_with : World → Class → List ℕ → Option ℕ → List Tie
ties_with w k ns none = []
ties_with w k ns (some d) = new_ties w.ties (loader_of w.base d) k.loader ns

-- the ties that an instruction of class k's code names, those that aren't there yet
unfoldable pub ties_of_step : World → Class → Instruction → List Tie
ties_of_step w k AconstNull = []
ties_of_step w k (Sipush n) = []
ties_of_step w k (Load kind j) = []
ties_of_step w k (Store kind j) = []
ties_of_step w k Pop = []
ties_of_step w k Dup = []
ties_of_step w k (Arithmetic o) = []
ties_of_step w k (Getfield c n t) = ties_with w k (t ∷ []) (declares_field w k c n t)
ties_of_step w k (Putfield c n t) = ties_with w k (t ∷ []) (declares_field w k c n t)
ties_of_step w k (Invokevirtual c s) = ties_with w k (signature_types s) (declares_method w k c s)
ties_of_step w k (New c) = []
ties_of_step w k (Branch c p) = []
ties_of_step w k (Return kind) = []

module _ (task : ℕ) (w : World) (os : Objects) (f : Frame) (fs : List Frame) (k : Class) (i : Decoded) where
  abbrev Posts : List Tie → Progress → Type 0
  Posts us o = o.world.ties ≡ w.ties ++ us

  none-posted : w.ties ≡ w.ties ++ []
  none-posted = sym (append-nil w.ties)

  posted-behind : (room : Bool) (us : List Tie) → Ok (post w room us) (λ (z : World). z.ties ≡ w.ties ++ us)
  unfolding post
  posted-behind room us = then P _ _ (λ _ _. then P _ _ (λ _ _. refl))
    where
      P : World → Type 0
      P z = z.ties ≡ w.ties ++ us

  after : (room : Bool) (us : List Tie) (v : World) → post w room us ≡ ok v → v.ties ≡ w.ties ++ us
  after room us v e = ok_at P _ (posted-behind room us) v e
    where
      P : World → Type 0
      P z = z.ties ≡ w.ties ++ us

  with-found : (ns : List ℕ) (d : ℕ) (o : Option ℕ) → o ≡ some d → new_ties w.ties (loader_of w.base d) k.loader ns ≡ ties_with w k ns o
  unfolding ties_with
  with-found ns d o e = rw e refl

  field-posts : (c n t e d : ℕ) → take? (find w.base.cache (at k.loader c)) (wanted (at k.loader c)) ≡ ok e
      → take? (nearest (super_of w.base) (has_field w.base n t) e) (Word word_absent) ≡ ok d
      → (v : World) → post w true (new_tie w.ties (loader_of w.base d) k.loader t) ≡ ok v → v.ties ≡ w.ties ++ ties_with w k (t ∷ []) (declares_field w k c n t)
  unfolding declares_field new_ties
  field-posts c n t e d x y v z = after true _ v z
      ∙ ap (λ (us : List Tie). w.ties ++ us) (sym (append-nil _) ∙ with-found (t ∷ []) d _ (some-bind _ _ (take-ok _ _ x) (take-ok _ _ y)))

  call-posts : (c : ℕ) (s : Signature) (e : ℕ) (d : Selected) → take? (find w.base.cache (at k.loader c)) (wanted (at k.loader c)) ≡ ok e
      → take? (selected w.base s e) (Word word_absent) ≡ ok d
      → (room : Bool) (v : World) → post w room (signature_ties w.ties (loader_of w.base d.class) k.loader s) ≡ ok v
      → v.ties ≡ w.ties ++ ties_with w k (signature_types s) (declares_method w k c s)
  unfolding declares_method signature_ties
  call-posts c s e d x y room v z = after room _ v z
      ∙ ap (λ (us : List Tie). w.ties ++ us) (with-found (signature_types s) d.class _ (some-bind _ _ (take-ok _ _ x) (some-bind _ _ (take-ok _ _ y) refl)))

  gives : (gs : List Frame) (v : Value) → Ok (give gs w os v) (Posts [])
  unfolding give
  gives [] v = then (Posts []) _ _ (λ _ _. none-posted)
  gives (g ∷ gs) v = none-posted

  instruction-posts : (j : Instruction) → Ok (execute task w os f fs k i j) (Posts (ties_of_step w k j))
  unfolding execute ties_of_step
  instruction-posts AconstNull = then (Posts []) _ _ (λ _ _. none-posted)
  instruction-posts (Sipush n) = then (Posts []) _ _ (λ _ _. none-posted)
  instruction-posts (Load kind j) = then (Posts []) _ _ (λ _ _. then (Posts []) _ _ (λ _ _. then (Posts []) _ _ (λ _ _. none-posted)))
  instruction-posts (Store kind j) = then (Posts []) _ _ (λ _ _. then (Posts []) _ _ (λ _ _. then (Posts []) _ _ (λ _ _. none-posted)))
  instruction-posts Pop = then (Posts []) _ _ (λ _ _. none-posted)
  instruction-posts Dup = then (Posts []) _ _ (λ _ _. then (Posts []) _ _ (λ _ _. none-posted))
  instruction-posts (Arithmetic o) = then (Posts []) _ _ (λ _ _. then (Posts []) _ _ (λ _ _. then (Posts []) _ _ (λ _ _. then (Posts []) _ _ (λ _ _. then (Posts []) _ _ (λ _ _. none-posted)))))
  instruction-posts (Getfield c n t) = let Q = Posts (ties_with w k (t ∷ []) (declares_field w k c n t)) in
      then Q _ _ (λ e x. then Q _ _ (λ d y. then Q _ _ (λ v z. then Q _ _ (λ _ _. then Q _ _ (λ _ _. then Q _ _ (λ _ _. then Q _ _ (λ _ _. field-posts c n t e d x y v z)))))))
  instruction-posts (Putfield c n t) = let Q = Posts (ties_with w k (t ∷ []) (declares_field w k c n t)) in
      then Q _ _ (λ e x. then Q _ _ (λ d y. then Q _ _ (λ v z. then Q _ _ (λ _ _. then Q _ _ (λ _ _. then Q _ _ (λ _ _. then Q _ _ (λ _ _. then Q _ _ (λ _ _. field-posts c n t e d x y v z))))))))
  instruction-posts (Invokevirtual c s) = let Q = Posts (ties_with w k (signature_types s) (declares_method w k c s)) in
      then Q _ _ (λ e x. then Q _ _ (λ d y. then Q _ _ (λ v z. then Q _ _ (λ _ _. then Q _ _ (λ _ _. then Q _ _ (λ _ _. then Q _ _ (λ _ _. then Q _ _ (λ _ _. call-posts c s e d x y _ v z))))))))
  instruction-posts (New c) = then (Posts []) _ _ (λ _ _. then (Posts []) _ _ (λ _ _. then (Posts []) _ _ (λ _ _. none-posted)))
  instruction-posts (Branch c p) = then (Posts []) _ _ (λ _ _. none-posted)
  instruction-posts (Return kind) = then (Posts []) _ _ (λ _ _. then (Posts []) _ _ (λ p _. then (Posts []) _ _ (λ _ _. gives fs p.top)))

-- of any tables: a step that isn't refused, of a frame whose instruction is read, leaves the ties that were there and behind them those that the instruction names
pub step-posts : (t : Tables) (f : Frame) (fs : List Frame) (n : Now) → Turns t f fs n → ((w : Refusal) → (step_tables t).answer ≡ Refused w → ⊥)
    → (view (step_tables t).tables).ties ≡ (view t).ties ++ ties_of_step (world_of (view t)) n.the_class n.at.instruction
unfolding step_tables step_rows step_on step_task step
step-posts t f fs n r runs = shown Refused step_rows (λ a s. ((w : Refusal) → a ≡ Refused w → ⊥) → P s) t step-whole (λ w h. absurd (h w refl)) (λ w g e _. go (view t).quote (view t).report r.frames g e) runs
  where
    P : Rows → Type 0
    P s = s.ties ≡ (view t).ties ++ ties_of_step (world_of (view t)) n.the_class n.at.instruction

    task : (j : ℕ) (g : Given Answer) → step_task j (world_of (view t)) f fs (view t) ≡ ok g → P g.rows
    task j g e =
        let a = bind_ok _ _ e in
        let b = bind_ok _ _ a.1 in
        let same : b.0 ≡ n = ok-inj (sym b.1 ∙ r.reads) in
        let did : execute j (world_of (view t)) (view t).objects f fs n.the_class n.at n.at.instruction ≡ ok a.0 =
        subst (λ (x : Now). execute j (world_of (view t)) (view t).objects f fs x.the_class x.at x.at.instruction ≡ ok a.0) same b.2 in
        subst P (ap (λ (x : Given Answer). x.rows) (ok-inj a.2))
        (ok_at _ _ (instruction-posts j (world_of (view t)) (view t).objects f fs n.the_class n.at n.at.instruction) a.0 did)

    go : (q p : List Frame) → running q p ≡ f ∷ fs → (g : Given Answer) → step_on q p (world_of (view t)) (view t) ≡ ok g → P g.rows
    go (h ∷ hs) p z g e = task 0 g (subst (λ (us : List Frame). step_on us p (world_of (view t)) (view t) ≡ ok g) z e)
    go [] (h ∷ hs) z g e = task 1 g (subst (λ (us : List Frame). step_on [] us (world_of (view t)) (view t) ≡ ok g) z e)
    go [] [] z g e = absurd (let l : length {A = Frame} [] ≡ length (f ∷ fs) = ap length z in omega arith)
