-- What taking back writes of the counts: the level's five, how many loads are left, and the groups of the ties left, made anew. It is the call's answer on a store that
-- has a load to take back; on one that has none it is late.
use Rattle.std.specs.Prelude.{◌≡◌, true, false, get_or}
use Rattle.std.proofs.Math.Path.{sym, ap}
use Rattle.std.proofs.Common.{subst, ◌∙◌, arith}
use mathlib.Core.List.{List}
use Prim.Native.Nat.{ℕ, ◌-◌}
use Rattle.std.proofs.Math.ListN.{length, set, length-set}
use Rattle.std.proofs.Math.Seq.{get_or-set_other, get_or-set_same}
use Rattle.definition.specs.declared.Refusal.TheVariants.{Word}
use Rattle.definition.specs.declared.Reply.{Reply}
use Rattle.definition.specs.declared.Reply.TheVariants.{Accepted, Denied}
use Rattle.definition.specs.Numbers.{count_classes, count_kept, count_cache, count_ties, count_subtypes, loads_cell, tie_numbers_cell}
use Rattle.definition.specs.Lists.{rows, stack}
use Rattle.definition.specs.Constraints.{Tie}
use Rattle.definition.specs.Tables.{Tables, tables, Level, level_at, tie_at, number_at, view_over, view}
use Rattle.definition.specs.Broken.{broken}
use Rattle.definition.specs.Calls.{Done, done, on_row_call, row_take_back, call_take_back, perform}
use Rattle.laws.specs.Wrapped.{wrap-broken}
use Rattle.layout.specs.Places.{rows-length}
use Rattle.layout.specs.Unbroken.{unbroken}
use Rattle.unbroken.specs.Unbroken.{kept-unbroken}
use Rattle.unbroken.specs.TakenBack.{taken-late, taken-written}
use Rattle.groups.specs.Numbered.{regrouped}
use Rattle.groups.specs.Kept.{regrouped-kept}

unfoldable pub back_to : Level → ℕ → List ℕ → List ℕ
back_to l n c = set (set (set (set (set (set c count_classes l.classes) count_kept l.kept) count_cache l.cache) count_ties l.ties) count_subtypes l.subtypes) loads_cell n

module _ (t : Tables) where
  pub back-broken : broken t ≡ true → done (Denied (Word 1)) t ≡ perform call_take_back t
  unfolding perform
  back-broken h = sym (wrap-broken Denied (on_row_call row_take_back) t h)

  module _ (h : broken t ≡ false) where
    pub back-late : get_or t.counts loads_cell 0 ≡ 0 → done (Denied (Word 19)) t ≡ perform call_take_back t
    back-late e = sym (taken-late t h (unfold view view_over stack in ap (stack (level_at t.counts)) e))

    -- the level's ties are counted
    ties-left : (l : Level) (n : ℕ) → get_or (back_to l n t.counts) count_ties 0 ≡ l.ties
    unfolding back_to
    ties-left l n =
        let c3 : List ℕ = set (set (set t.counts count_classes l.classes) count_kept l.kept) count_cache l.cache in
        let c4 : List ℕ = set c3 count_ties l.ties in
        let c5 : List ℕ = set c4 count_subtypes l.subtypes in
        let long : length c3 ≡ length t.counts = simp length-set in
        get_or-set_other c5 loads_cell count_ties n 0 (λ e. omega arith)
        ∙ (get_or-set_other c4 count_subtypes count_ties l.subtypes 0 (λ e. omega arith) ∙ get_or-set_same c3 count_ties l.ties 0 (omega (arith, (unbroken t h).lengths.counts, long)))

    -- c are the counts of the level of row n, before the groups
    pub back_done : (n : ℕ) → (get_or t.counts loads_cell 0 ≡ 0 → ⊥) → n ≡ get_or t.counts loads_cell 0 - 1 → (c : List ℕ) → c ≡ back_to (level_at t.counts n) n t.counts
        → done Accepted (tables (regrouped c t.ties (get_or c count_ties 0)) t.classes t.kept t.cache t.ties t.subtypes t.objects t.frames) ≡ perform call_take_back t
    unfolding back_to
    back_done n some e c f =
        let l : Level = level_at t.counts n in
        let ts : List Tie = rows (tie_at t.ties) l.ties 0 in
        let ns : List ℕ = rows (number_at tie_numbers_cell t.counts) l.ties 0 in
        let w = taken-written t h n (omega arith) in
        rw f (
        ap (λ (d : List ℕ). done Accepted (tables d t.classes t.kept t.cache t.ties t.subtypes t.objects t.frames))
        (regrouped-kept ts ns (back_to l n t.counts) t.classes t.kept t.cache t.ties t.subtypes t.objects t.frames
        (subst (λ (d : Done Reply). broken d.tables ≡ false) w (kept-unbroken call_take_back t h)) (rows-length (tie_at t.ties) l.ties 0 ∙ sym (ties-left l n)))
        ∙ sym w)
