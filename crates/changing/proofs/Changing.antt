-- What the changeover leaves, and the lengths that let it fill.
use mathlib.Core.Path.{◌≡◌, sym, ap, ◌∙◌}
use mathlib.Core.Bool.{true, false}
use mathlib.Core.List.{List}
use mathlib.Core.Logic.{◌⊎◌, inl, inr}
use Prim.Native.Nat.{ℕ}
use borrow.Author.Tests.{not-false}
use Rattle.definition.specs.declared.Refusal.TheVariants.{Word}
use Rattle.definition.specs.declared.Reply.TheVariants.{Accepted, Denied}
use Rattle.definition.specs.Numbers.{word_broken}
use Rattle.definition.specs.Tables.{Tables, shaped}
use Rattle.definition.specs.Calls.{done}
use Rattle.definition.specs.Changeover.{with_counts, carry, changeover}
use Rattle.definition.specs.First.Tables.{FirstTables}
use Rattle.definition.specs.First.Broken.{first_whole, first_broken}
use Rattle.layout.specs.Tests.{every_true}
use Rattle.layout.specs.ReadBack.{Lengths, shaped-true}
use Rattle.first.specs.Carries.{carrying, same-shaped}
use Rattle.first.specs.Changeover.{changeover-filled, filled-changeover, refused-changeover}
use Rattle.changing.specs.Judged.{Judged}
use Rattle.copying.specs.Copied.{copied_tables, filled}

module _ (u : FirstTables) (t : Tables) where
  refuses : (shaped t ≡ false) ⊎ (first_broken u ≡ true) → done (Denied (Word word_broken)) t ≡ changeover u t
  refuses w = let r = refused-changeover u t w in λ i. done (sym r.answers i) (sym r.left i)

  pub wrong-lengths : shaped t ≡ false → done (Denied (Word word_broken)) t ≡ changeover u t
  wrong-lengths e = refuses (inl e)

  pub judged-broken : first_broken u ≡ true → done (Denied (Word word_broken)) t ≡ changeover u t
  judged-broken e = refuses (inr e)

  module _ (m : List ℕ) (j : Judged u m) (s : shaped t ≡ true) where
    lengths : Lengths (carry u)
    unfolding first_broken first_whole
    lengths = shaped-true (carry u) (sym (same-shaped u (carry u) (carrying u).fronts) ∙ (every_true _ (not-false _ j.unbroken)).0)

    pub filled-new : (v : Tables) → v ≡ copied_tables (with_counts m u) t → done Accepted v ≡ changeover u t
    filled-new v f =
        let a = filled-changeover u t s j.unbroken in
        let full : v ≡ carry u = f ∙ (ap (λ (c : List ℕ). copied_tables (with_counts c u) t) j.carried ∙ filled (carry u) t lengths (shaped-true t s)) in
        let left : carry u ≡ (changeover u t).tables = sym (changeover-filled u t a).left in
        λ i. done (sym a i) ((full ∙ left) i)
