-- Rows and count of ties that fit, and how many there were. Where there are none both tables are as they were.
use Rattle.std.proofs.Common.{◌≡◌, refl, sym, ap, ◌∙◌}
use mathlib.Core.List.{List, [], ◌∷◌}
use Prim.Native.Nat.{ℕ, ◌+◌}
use native.Mathlib.Omega.{arith}
use lib.ListN.{length, get_or, set}
use lib.Seq.{set-get_or}
use Rattle.definition.specs.Lists.{write_rows}
use Rattle.definition.specs.Constraints.{Tie}
use Rattle.definition.specs.Tables.{put_tie}
use Rattle.execution.proofs.carrying.post_ties.Goals as goal

none_of : (us : List Tie) → length us ≡ 0 → us ≡ []
none_of [] e = refl
none_of (u ∷ us) e = absurd (omega (arith, e))

nothing-posted : (counts ties : List ℕ) (us : List Tie) → length us ≡ 0
    → (counts ≡ set counts 3 (get_or counts 3 0 + length us)) × (ties ≡ write_rows put_tie us (get_or counts 3 0) ties)
unfolding write_rows
nothing-posted counts ties us e =
    let z : get_or counts 3 0 + length us ≡ get_or counts 3 0 = omega (arith, e) in
    (sym (ap (set counts 3) z ∙ set-get_or counts 3 0), sym (ap (λ (x : List Tie). write_rows put_tie x (get_or counts 3 0) ties) (none_of us e)))

pub returns-then-k-eq0 : goal.returns-then-k-eq0
returns-then-k-eq0 c =
    let none = nothing-posted _ _ _ (sym c.tie_number-k.ensures.0 ∙ c.if-k-eq0.true) in
    record { counted = none.0; written = none.1; behind = (c.at-n.ensures, c.at-subtypes.ensures) }
