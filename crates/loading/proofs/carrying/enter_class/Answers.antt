-- The newcomer is entered; then groups are made anew, if it posted ties.
use mathlib.Core.Path.{◌≡◌, refl, sym, ◌∙◌}
use mathlib.Core.List.{List}
use Prim.Native.Nat.{ℕ}
use lib.ListN.{get_or}
use borrow.Author.Tests.{eq-eqb, ne_eqb}
use Rattle.groups.specs.Numbered.{regrouped}
use Rattle.loading.specs.declared.loads.Newcomer.{Newcomer}
use Rattle.loading.specs.Plans.{grouped_with}
use Rattle.loading.proofs.carrying.enter_class.Goals as goal

-- d are the counts c
grouped-not : (n : Newcomer) (counts ties c d : List ℕ) (x : ℕ) → x ≡ get_or counts 3 0 → n.tied ≡ x → d ≡ c → d ≡ grouped_with n counts ties c
unfolding grouped_with
grouped-not n counts ties c d x p q e = rw (e, eq-eqb n.tied (get_or counts 3 0) (q ∙ p), grouped_with) refl

grouped-anew : (n : Newcomer) (counts ties c d : List ℕ) (x : ℕ) → x ≡ get_or counts 3 0 → (n.tied ≡ x → ⊥) → d ≡ c → regrouped d ties (get_or d 3 0) ≡ grouped_with n counts ties c
unfolding grouped_with
grouped-anew n counts ties c d x p q e = rw (e, ne_eqb n.tied (get_or counts 3 0) (λ z. q (z ∙ sym p)), grouped_with) refl

pub enter-requires : goal.enter-requires
enter-requires c = c.requires

pub returns-then-n-tied : goal.returns-then-n-tied
returns-then-n-tied c =
    record { counted = grouped-not _ _ _ _ _ _ c.at-tied.ensures c.if-n-tied.true c.enter.ensures.counted; written = c.enter.ensures.written }

pub returns : goal.returns
returns c =
    record { counted = c.write_groups.ensures ∙ grouped-anew _ _ _ _ _ _ c.at-tied.ensures c.if-n-tied.false c.enter.ensures.counted; written = c.enter.ensures.written }
