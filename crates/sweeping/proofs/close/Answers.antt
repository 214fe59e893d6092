-- A cell that has 0 has 0 written: the counts are left.
use mathlib.Core.Path.{◌≡◌, sym, ap, ◌∙◌}
use mathlib.Core.List.{List}
use Prim.Native.Nat.{ℕ}
use lib.ListN.{get_or, set}
use lib.Seq.{set-get_or}
use Rattle.sweeping.proofs.close.Goals as goal

left : (c : List ℕ) (i : ℕ) → get_or c i 0 ≡ 0 → c ≡ set c i 0
left c i e = sym (set-get_or c i 0) ∙ ap (set c i) e

pub returns-then-at-eq0 : goal.returns-then-at-eq0
returns-then-at-eq0 c = left _ _ (sym c.at.ensures ∙ c.if-at-eq0.true)
