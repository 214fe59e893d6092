-- The class that is cached, and the nearest from it on that declares the field.
use Rattle.std.proofs.Math.Path.{refl, sym}
use Rattle.std.proofs.Common.{inl, inr}
use Rattle.cells.specs.Optional.{optional-none, optional-some}
use Rattle.access.proofs.fields.find_field.Goals as goal

pub returns-in_default : goal.returns-in_default
returns-in_default c = inl (refl, rw c.from.ensures at (optional-none _ (sym c.in_default.ensures)))

pub returns-in_default-nearest_field : goal.returns-in_default-nearest_field
returns-in_default-nearest_field c = inr (refl, (_, rw c.from.ensures at (optional-some _ _ (sym c.in-Some.ensures)), optional-none _ (sym c.in_default-nearest_field.ensures)))

pub returns : goal.returns
returns c = (rw c.from.ensures at (optional-some _ _ (sym c.in-Some.ensures)), optional-some _ _ (sym c.in-Some-nearest_field.ensures))
