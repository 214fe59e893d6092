-- A step appends ties, and leaves the number of classes and of cached names.
use Rattle.std.specs.Prelude.{◌≡◌, refl, Bool, ℕ, length, get_or}
use Rattle.std.proofs.Common.{sym, ap, ◌∙◌}
use mathlib.Core.List.{List, [], ◌∷◌, append-nil}
use Rattle.definition.specs.declared.Answer.{Answer}
use Rattle.definition.specs.declared.Answer.TheVariants.{Refused}
use Rattle.definition.specs.declared.Instruction.{Instruction}
use Rattle.definition.specs.declared.Instruction.TheVariants.{AconstNull, Sipush, Load, Store, Pop, Dup, Arithmetic, Branch, Getfield, Putfield, Invokevirtual, New, Return}
use Rattle.definition.specs.Answers.{ok}
use Rattle.definition.specs.Classes.{Class}
use Rattle.definition.specs.Constraints.{Tie, World, post}
use Rattle.definition.specs.Instructions.{Decoded}
use Rattle.definition.specs.Machine.{Value, Objects, Frame, Progress, give, execute, step}
use Rattle.definition.specs.Tables.{Tables, Rows, class_row_at, entry_at, ties_of, class_rows_of, cache_of, world_of, view_over, view}
use Rattle.definition.specs.Calls.{Given, Done, done, step_task, step_on, step_rows, step_tables}
use Rattle.laws.specs.Wrapped.{Ok, ok_at, then}
use Rattle.layout.specs.Places.{rows-length}
use Rattle.unbroken.specs.Calls.{step-whole}
use Rattle.unbroken.specs.Unbroken.{shown}
use Rattle.unbroken.specs.Parts.{Longer, step-leaves}

same : (xs : List Tie) → Longer xs xs
same xs = record { new = []; is = sym (append-nil xs) }

abbrev More : World → Progress → Type 0
More w o = Longer w.ties o.world.ties

more-posted : (w : World) (room : Bool) (us : List Tie) → Ok (post w room us) (λ v. Longer w.ties v.ties)
unfolding post
more-posted w room us = then Q _ _ (λ _ _. then Q _ _ (λ _ _. record { new = us; is = refl }))
  where
    Q : World → Type 0
    Q v = Longer w.ties v.ties

module _ (task : ℕ) (w : World) (os : Objects) (f : Frame) (fs : List Frame) (k : Class) (i : Decoded) where
  abbrev Q : Progress → Type 0
  Q = More w

  after : (room : Bool) (us : List Tie) (v : World) → post w room us ≡ ok v → Longer w.ties v.ties
  after room us v e = ok_at (λ (z : World). Longer w.ties z.ties) _ (more-posted w room us) v e

  gives : (gs : List Frame) (v : Value) → Ok (give gs w os v) Q
  unfolding give
  gives [] v = then Q _ _ (λ _ _. same w.ties)
  gives (g ∷ gs) v = same w.ties

  pub more-ties : (j : Instruction) → Ok (execute task w os f fs k i j) (More w)
  unfolding execute
  more-ties AconstNull = then Q _ _ (λ _ _. same w.ties)
  more-ties (Sipush n) = then Q _ _ (λ _ _. same w.ties)
  more-ties (Load kind j) = then Q _ _ (λ _ _. then Q _ _ (λ _ _. then Q _ _ (λ _ _. same w.ties)))
  more-ties (Store kind j) = then Q _ _ (λ _ _. then Q _ _ (λ _ _. then Q _ _ (λ _ _. same w.ties)))
  more-ties Pop = then Q _ _ (λ _ _. same w.ties)
  more-ties Dup = then Q _ _ (λ _ _. then Q _ _ (λ _ _. same w.ties))
  more-ties (Arithmetic o) = then Q _ _ (λ _ _. then Q _ _ (λ _ _. then Q _ _ (λ _ _. then Q _ _ (λ _ _. then Q _ _ (λ _ _. same w.ties)))))
  more-ties (Getfield c n t) = then Q _ _ (λ _ _. then Q _ _ (λ _ _. then Q _ _ (λ v e. then Q _ _ (λ _ _. then Q _ _ (λ _ _. then Q _ _ (λ _ _. then Q _ _ (λ _ _. after _ _ v e)))))))
  more-ties (Putfield c n t) =
      then Q _ _ (λ _ _. then Q _ _ (λ _ _. then Q _ _ (λ v e. then Q _ _ (λ _ _. then Q _ _ (λ _ _. then Q _ _ (λ _ _. then Q _ _ (λ _ _. then Q _ _ (λ _ _. after _ _ v e))))))))
  more-ties (Invokevirtual c s) =
      then Q _ _ (λ _ _. then Q _ _ (λ _ _. then Q _ _ (λ v e. then Q _ _ (λ _ _. then Q _ _ (λ _ _. then Q _ _ (λ _ _. then Q _ _ (λ _ _. then Q _ _ (λ _ _. after _ _ v e))))))))
  more-ties (New c) = then Q _ _ (λ _ _. then Q _ _ (λ _ _. then Q _ _ (λ _ _. same w.ties)))
  more-ties (Branch c p) = then Q _ _ (λ _ _. same w.ties)
  more-ties (Return kind) = then Q _ _ (λ _ _. then Q _ _ (λ p _. then Q _ _ (λ _ _. gives fs p.top)))

step-more : (task : ℕ) (w : World) (os : Objects) (f : Frame) (fs : List Frame) → Ok (step task w os f fs) (More w)
unfolding step
step-more task w os f fs = then (More w) _ _ (λ n _. more-ties task w os f fs n.the_class n.at n.at.instruction)

rows_more : (r : Rows) → Ok (step_rows r) (λ g. Longer r.ties g.rows.ties)
unfolding step_rows
rows_more r = go r.quote r.report
  where
    task : (k : ℕ) (f : Frame) (fs : List Frame) → Ok (step_task k (world_of r) f fs r) (λ g. Longer r.ties g.rows.ties)
    task k f fs = unfold step_task in then (λ (g : Given Answer). Longer r.ties g.rows.ties) _ _ (λ o e. ok_at (More (world_of r)) _ (step-more k (world_of r) r.objects f fs) o e)

    go : (q p : List Frame) → Ok (step_on q p (world_of r) r) (λ g. Longer r.ties g.rows.ties)
    go (f ∷ fs) p = unfold step_on in task 0 f fs
    go [] (f ∷ fs) = unfold step_on in task 1 f fs
    go [] [] = unfold step_on in same r.ties

pub step-ties : (t : Tables) → Longer (view t).ties (view (step_tables t).tables).ties
unfolding step_tables
step-ties t = shown Refused step_rows (λ _ s. Longer (view t).ties s.ties) t step-whole (λ w. same (view t).ties)
    (λ _ g e. ok_at (λ (g : Given Answer). Longer (view t).ties g.rows.ties) _ (rows_more (view t)) g e)

-- What a step leaves for what is remembered
pub record Lasting (t u : Tables) : Type 0 where
  pub classes : get_or u.counts 0 0 ≡ get_or t.counts 0 0
  pub cache : get_or u.counts 2 0 ≡ get_or t.counts 2 0
  pub ties : Longer (ties_of t) (ties_of u)

pub step-lasts : (t u : Tables) (a : Answer) → done a u ≡ step_tables t → Lasting t u
unfolding view view_over
step-lasts t u a e =
    let z : (step_tables t).tables ≡ u = sym (ap (λ (d : Done Answer). d.tables) e) in
    let g = step-leaves t in
    let c : class_rows_of u ≡ class_rows_of t = rw z at g.classes in
    let h : cache_of u ≡ cache_of t = rw z at g.cache in
    record {
      classes = sym (rows-length (class_row_at u.classes) (get_or u.counts 0 0) 0) ∙ (ap length c ∙ rows-length (class_row_at t.classes) (get_or t.counts 0 0) 0);
      cache = sym (rows-length (entry_at u.cache) (get_or u.counts 2 0) 0) ∙ (ap length h ∙ rows-length (entry_at t.cache) (get_or t.counts 2 0) 0);
      ties = rw z at (step-ties t);
    }
