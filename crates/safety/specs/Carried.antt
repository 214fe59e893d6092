-- Carried stores: of an old store that comes from the first document's boot, the tables that the changeover fills are sane. Before each call of the old history, and before
-- each step of a run, the old store is carried afresh, so that every object is the quote's and no step or start is told of the report's share.
use Rattle.std.specs.Prelude.{◌≡◌, refl, Bool, true, ◌&&◌, List, [], ◌⊎◌, ℕ, leb}
use Rattle.std.proofs.Math.Path.{sym, ap, subst}
use Rattle.std.proofs.Common.{◌∙◌, arith}
use Rattle.std.proofs.Math.Bool.{false}
use Rattle.std.proofs.Math.Logic.{inl, inr}
use Rattle.definition.specs.declared.Refusal.TheVariants.{Word}
use Rattle.definition.specs.declared.Answer.TheVariants.{Idle}
use Rattle.definition.specs.declared.Reply.TheVariants.{Accepted, Denied}
use Rattle.definition.specs.Answers.{number_of, number_of_step, Result, refused, ok}
use Rattle.definition.specs.Constraints.{World}
use Rattle.definition.specs.Classes.{loader_of, slots}
use Rattle.definition.specs.Verifier.{type_of_name}
use Rattle.definition.specs.Machine.{Frame, Objects, existing}
use Rattle.definition.specs.Tables.{Tables, Level, Rows, base_of, view}
use Rattle.definition.specs.Calls.{Done, done, run_from, step_tables, call_rows, call_step, perform}
use Rattle.definition.specs.Changeover.{carry, changeover}
use Rattle.definition.specs.First.Tables.{FirstTables, FirstRows, first_shaped, first_view, first_put}
use Rattle.definition.specs.First.Broken.{first_broken}
use Rattle.definition.specs.First.Calls.{FirstGiven, FirstReply, first_boot_rows, FirstRowCall, first_row_define, first_row_record, first_row_start, first_row_drop, first_on_row_call, first_define_rows, first_record_rows, first_start_rows, first_drop_rows, first_carried, first_wrap, first_boot, first_step_tables, first_run, FirstCall, first_call_boot, first_call_rows, first_call_step, first_call_run, first_perform, FirstComesFromBoot, first_after_boot, first_after_call}
use Rattle.laws.specs.Options.{each_more}
use Rattle.laws.specs.Results.{take-ok}
use Rattle.laws.specs.Runs.{runs-end}
use Rattle.laws.specs.Wrapped.{Ok, ok_at, then}
use Rattle.layout.specs.Traced.{Back}
use Rattle.layout.specs.Unbroken.{broken-false}
use Rattle.layout.specs.ReadBack.{true-shaped}
use Rattle.first.specs.SameObjects.{same-existing}
use Rattle.first.specs.SameRows.{SameRows, BringsNone, today_row}
use Rattle.first.specs.SameFiles.{later_file, read-early}
use Rattle.first.specs.Carries.{Carries, EarlyTables, carrying, same-shaped, same-broken, same_store}
use Rattle.first.specs.SameCalls.{SameDone, same-boot, same-step-tables, same-rows-call, step-early}
use Rattle.first.specs.KeepsNone.{keeps-early, booted-early}
use Rattle.first.specs.Changeover.{changeover-filled, carried-trace, fresh-share}
use Rattle.safety.specs.Store.{Store}
use Rattle.safety.specs.Valid.{Later, later-conforms, later-stack}
use Rattle.safety.specs.Later.{later_same}
use Rattle.safety.specs.Safe.{Valid}
use Rattle.safety.specs.Sane.{Good, GoodBack, Sane, step-sane, boot-sane, perform-sane}

-- whose the objects are doesn't matter
valid-objects : (w : World) (os qs : Objects) (fs gs : List Frame) → ((o : ℕ) → existing os o ≡ existing qs o) → Valid (record { world = w; objects = os; quote = fs; report = gs })
    → Valid (record { world = w; objects = qs; quote = fs; report = gs })
valid-objects w os qs fs gs e v = record {
  linked = v.linked;
  heap = λ o b h. (let x = v.heap o b (e o ∙ h) in record {
    the_class = x.the_class;
    is_class = x.is_class;
    filled = each_more (λ s y. later-conforms z (loader_of w.base s.owner) (type_of_name s.type) y) (slots w.base b.class) b.values x.filled;
  });
  quote = later-stack z fs v.quote;
  report = later-stack z gs v.report;
}
  where
    z : Later w os w qs
    z = record { grows = (later_same w os).grows; objects = λ o b h. (b, sym (e o) ∙ h, refl) }

-- the store of old rows, with today's objects
abbrev store_over : FirstRows → Objects → Store
store_over r qs = record { world = record { base = base_of r.classes r.kept r.cache; ties = r.ties; subtypes = r.subtypes }; objects = qs; quote = r.quote; report = r.report }

same_good : (r : FirstRows) (q p : Rows) → SameRows r q → SameRows r p → Good q → Good p
same_good r q p s z v =
    subst (λ (x : FirstRows). Valid (store_over x p.objects)) z.rest
    (valid-objects _ q.objects p.objects r.quote r.report (λ o. sym (same-existing r.objects q.objects s.objects o) ∙ same-existing r.objects p.objects z.objects o)
    (subst (λ (x : FirstRows). Valid (store_over x q.objects)) (sym s.rest) v))

-- nothing can be taken back, so nothing more is to be said
no-back : (r : Rows) → r.trace ≡ [] → GoodBack r
no-back r e = subst (λ (z : List Level). Back Good z r) (sym e) tt

-- where today's tables that carry old ones are sane, the old ones carried afresh are
again-sane : (u : FirstTables) (t : Tables) → Carries u t → EarlyTables u → Sane t → Sane (carry u)
again-sane u t h x v =
    let b : first_broken u ≡ false = same-broken u t h x ∙ v.unbroken in
    record {
      unbroken = (carrying u).unbroken b;
      valid = same_good (first_view u) (view t) (view (carry u)) (same_store u t h.fronts x b).rows (same_store u (carry u) (carrying u).fronts x b).rows v.valid;
      back = no-back (view (carry u)) (carried-trace u b);
    }

pub record Carried (u : FirstTables) : Type 0 where
  pub early : EarlyTables u
  pub sane : Sane (carry u)

still-unbroken : (u : FirstTables) → Carried u → first_broken u ≡ false
still-unbroken u c = same-broken u (carry u) (carrying u) c.early ∙ c.sane.unbroken

-- a step
step-carried : (u : FirstTables) → Carried u → Carried (first_step_tables u).tables
unfolding perform number_of
step-carried u c = go (same-step-tables u (carry u) (carrying u) c.early)
  where
    go : SameDone (first_step_tables u) (step_tables (carry u)) ⊎ (number_of_step (step_tables (carry u)).answer ≡ 18) → Carried (first_step_tables u).tables
    go (inr s) = absurd (fresh-share u (still-unbroken u c) call_step s)
    go (inl d) =
        let x = step-early u (carry u) (carrying u) c.early in
        record { early = x; sane = again-sane (first_step_tables u).tables (step_tables (carry u)).tables d.tables x (step-sane (carry u) c.sane).1 }

-- an accepted call on rows brings no later file, and isn't answered with 8
row-early : (c : FirstRowCall) (r : FirstRows) → Ok (first_on_row_call c r) (λ g. BringsNone c × (number_of g.answer ≡ 0))
unfolding first_define_rows first_record_rows first_start_rows first_drop_rows number_of
row-early (first_row_define l bs) r = then E _ _ (λ _ _. then E _ _ (λ f e. then E _ _ (λ v d. (read-early bs f (take-ok _ _ e), refl))))
  where
    E : FirstGiven FirstReply → Type 0
    E g = (later_file bs ≡ false) × (number_of g.answer ≡ 0)
row-early (first_row_record l n c) r = then _ _ _ (λ _ _. (tt, refl))
row-early (first_row_start k l n m v) r = then _ _ _ (λ _ _. then _ _ _ (λ _ _. (tt, refl)))
row-early (first_row_drop k) r = then _ _ _ (λ _ _. (tt, refl))

rows-carried : (c : FirstRowCall) (u : FirstTables) → Carried u → Carried (first_perform (first_call_rows c) u).tables
unfolding first_perform first_wrap perform
rows-carried c u h = go (first_broken u) refl (first_on_row_call c (first_view u)) refl
  where
    W : Bool → Result (FirstGiven FirstReply) → Done FirstReply
    W b o = elim b as (λ _. Done FirstReply) [ true ↦ done (Denied (Word 1)) u | false ↦ first_carried Denied u o ]

    go : (b : Bool) → first_broken u ≡ b → (o : Result (FirstGiven FirstReply)) → first_on_row_call c (first_view u) ≡ o → Carried (W b o).tables
    go true e o f = h
    go false e (refused w) f = unfold first_carried in h
    go false e (ok g) f =
        let same : W (first_broken u) (first_on_row_call c (first_view u)) ≡ W false (ok g) = λ i. W (e i) (f i) in
        let a = ok_at _ _ (row-early c (first_view u)) g f in
        let told : (W (first_broken u) (first_on_row_call c (first_view u))).answer ≡ g.answer = ap (λ (d : Done FirstReply). d.answer) same ∙ (unfold first_carried in refl) in
        subst (λ (z : Done FirstReply). Carried z.tables) same
        (elim (same-rows-call c a.0 u (carry u) (carrying u) h.early (λ n. absurd (omega (arith, sym (ap number_of told) ∙ n, a.1)))) [
          | inl d ↦
              let x = keeps-early (first_call_rows c) u h.early in
              record { early = x; sane = again-sane _ _ d.tables x (perform-sane (call_rows (today_row c)) (carry u) h.sane).1 }
          | inr s ↦ absurd (fresh-share u (still-unbroken u h) (call_rows (today_row c)) s)
        ])

boot-carried : (u : FirstTables) → first_shaped u ≡ true → Carried (first_boot u).tables
boot-carried u s =
    let d = same-boot u (carry u) (carrying u) in
    let x = booted-early u (unfold first_boot in rw (s, first_boot) refl) in
    record { early = x; sane = again-sane (first_boot u).tables _ d.tables x (boot-sane (carry u) (sym (same-shaped u (carry u) (carrying u).fronts) ∙ s)).1 }

-- a run, step by step: within one a report may make more than 192 objects
run-carried : (n : ℕ) (u : FirstTables) → Carried u → Carried (first_run n u).tables
unfolding first_run
run-carried n u h = go (first_broken u) (leb 1 n && leb n 65535)
  where
    go : (b c : Bool) → Carried (elim b as (λ _. Done FirstReply) [
      | true ↦ done (Denied (Word 1)) u
      | false ↦ elim c as (λ _. Done FirstReply) [ true ↦ run_from first_step_tables n 0 Idle u | false ↦ done (Denied (Word 3)) u ]
    ]).tables
    go true c = h
    go false true = (runs-end first_step_tables Carried (λ _. Carried) step-carried (λ t _ i _. step-carried t i) n 0 Idle u h h).holds
    go false false = h

call-carried : (c : FirstCall) (u : FirstTables) → Carried u → Carried (first_perform c u).tables
call-carried (first_call_rows c) u h = rows-carried c u h
call-carried first_call_boot u h = unfold first_perform in boot-carried u (same-shaped u (carry u) (carrying u).fronts ∙ true-shaped (carry u) (broken-false (carry u) h.sane.unbroken).0)
call-carried first_call_step u h = unfold first_perform in step-carried u h
call-carried (first_call_run n) u h = unfold first_perform in run-carried n u h

first-shaped : (u : FirstTables) → (first_boot u).answer ≡ Accepted → first_shaped u ≡ true
unfolding first_boot
first-shaped u = go (first_shaped u)
  where
    go : (b : Bool) → (elim b as (λ _. Done FirstReply) [ true ↦ done Accepted (first_put first_boot_rows u) | false ↦ done (Denied (Word 1)) u ]).answer ≡ Accepted → b ≡ true
    go true e = refl
    go false e = let z : ◌≡◌ {A = ℕ} 0 1 = cc in absurd (omega arith)

pub history-carried : (u : FirstTables) → FirstComesFromBoot u → Carried u
history-carried u (first_after_boot v a) = boot-carried v (first-shaped v a)
history-carried u (first_after_call c v b) = call-carried c v (history-carried v b)

-- a carried store that came from a boot is sane, whatever the new tables held: no value is misplaced
pub filled-sane : (u : FirstTables) (t : Tables) → FirstComesFromBoot u → (changeover u t).answer ≡ Accepted → Sane (changeover u t).tables
filled-sane u t b a = rw (changeover-filled u t a).left (history-carried u b).sane

-- and the changeover of an old store that comes from a boot is refused only for the new tables' lengths
pub history-unbroken : (u : FirstTables) → FirstComesFromBoot u → first_broken u ≡ false
history-unbroken u b = still-unbroken u (history-carried u b)
