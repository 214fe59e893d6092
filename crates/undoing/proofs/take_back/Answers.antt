-- A broken store is refused, then one with no load to take back.
use mathlib.Core.Path.{sym, ap, ◌∙◌}
use Prim.Native.Nat.{ℕ, ◌-◌}
use Rattle.undoing.specs.Back.{back-broken, back_done, back-late}
use Rattle.undoing.proofs.take_back.Goals as goal

pub returns-then-is_broken : goal.returns-then-is_broken
returns-then-is_broken c = back-broken _ (sym c.is_broken.ensures ∙ c.if-is_broken.true)

pub returns-then-loads-eq0 : goal.returns-then-loads-eq0
returns-then-loads-eq0 c = back-late _ (sym c.is_broken.ensures ∙ c.if-is_broken.false) (sym c.at-loads.ensures ∙ c.if-loads-eq0.true)

pub returns : goal.returns
returns c =
    rw c.write_groups.ensures
    (back_done _ (sym c.is_broken.ensures ∙ c.if-is_broken.false) _ (λ e. c.if-loads-eq0.false (c.at-loads.ensures ∙ e)) (ap (λ (n : ℕ). n - 1) c.at-loads.ensures) _ c.take_level.ensures)
