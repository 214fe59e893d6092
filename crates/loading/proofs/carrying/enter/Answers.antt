-- The row stands behind those that are there; then the load is remembered, and all counts and numbers are written.
use mathlib.Core.Path.{◌∙◌}
use mathlib.Core.List.{[], ◌∷◌}
use Prim.Native.Nat.{◌+◌}
use native.Mathlib.Omega.{arith}
use lib.ListN.{set}
use Rattle.definition.specs.Lists.{write_rows}
use Rattle.definition.specs.Tables.{put_three}
use Rattle.loading.specs.Writing.{numbers_on}
use Rattle.loading.specs.Plans.{counts_over, counts_with}
use Rattle.loading.proofs.Remembered.{grown-remembered, numbers-same}
use Rattle.loading.proofs.carrying.enter.Goals as goal

pub overflow_add-row : goal.overflow_add-row
overflow_add-row c = omega (arith, c.at-row.ensures, c.requires.0)

pub write_counts-requires : goal.write_counts-requires
write_counts-requires c = rw c.remember.ensures (grown-remembered _ _ _ c.requires.1)

pub returns : goal.returns
unfolding counts_with counts_over
returns c =
    let args = c.args in
    let n = args.n in
    let counts = args.counts.now in
    let row = c.at-row.ensures in
    record {
      counted = c.write_counts.ensures
          ∙ ((λ i. numbers_on (c.remember.ensures i) n.tied n.noted (write_rows set (args.classes ∷ args.kept ∷ (row i + 1) ∷ n.tied ∷ n.noted ∷ []) 0 (c.remember.ensures i)))
          ∙ numbers-same counts n.tied n.noted _);
      written = c.put_three.ensures ∙ (λ i. put_three args.cache.now ((c.from.ensures ∙ row) i) (c.from-2.ensures i) n.name n.class);
    }
