-- Tables without a row, as long as n rows need.
use Prim.Native.Nat.{ℕ}
use native.Mathlib.Omega.{arith}
use lib.ListN.{length-replicate, get_or-replicate}
use borrow.Author.Rules.{rules}
use Rattle.groups.proofs.grouping.list_groups.Goals as goal

pub list_named-requires : goal.list_named-requires
list_named-requires c = (c.requires, search rules, c.number_few.ensures, omega (arith, c.if-n-le-FEW_ROWS.true, length-replicate {A = ℕ} 256 0), λ x h. get_or-replicate {A = ℕ} 256 x 0 0 (omega (arith, h, length-replicate {A = ℕ} 256 0)))

pub number_names-requires : goal.number_names-requires
number_names-requires c = (c.requires.0, c.requires.1, length-replicate {A = ℕ} 256 0, omega (arith, c.requires.0, length-replicate {A = ℕ} 4096 255), λ x h. get_or-replicate {A = ℕ} 4096 x 255 0 (omega (arith, h, length-replicate {A = ℕ} 4096 255)))

pub list_named-requires-else-n-le-FEW_ROWS : goal.list_named-requires-else-n-le-FEW_ROWS
list_named-requires-else-n-le-FEW_ROWS c = (c.requires, search rules, c.number_names.ensures, omega (arith, c.requires.0, length-replicate {A = ℕ} 4096 0), λ x h. get_or-replicate {A = ℕ} 4096 x 0 0 (omega (arith, h, length-replicate {A = ℕ} 4096 0)))
