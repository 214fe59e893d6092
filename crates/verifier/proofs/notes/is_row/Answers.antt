-- The part of the table is the row alone.
use mathlib.Core.Path.{sym, ap, ◌∙◌}
use Prim.Native.Nat.{ℕ, ◌+◌, ◌*◌, ◌-◌}
use native.Mathlib.Omega.{arith}
use Rattle.definition.specs.Loading.{subtype_is}
use Rattle.rows.specs.Posting.{note}
use Rattle.verifier.proofs.NoteLaws.{row-alone}
use Rattle.verifier.proofs.notes.is_row.Goals as goal

pub returns-then-end-subtypes : goal.returns-then-end-subtypes
returns-then-end-subtypes c = λ h. sym (row-alone (subtype_is c.args.loader (note c.args.low c.args.high)) c.args.subtypes.now c.args.i (c.from-start.result * 3) (c.from-start.result * 3 + 3 - c.from-start.result * 3) (ap (λ (x : ℕ). x * 3) c.from-start.ensures) (omega arith)) ∙ sym c.subtype_known.ensures ∙ h
