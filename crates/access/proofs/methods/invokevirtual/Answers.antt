-- invokevirtual is refused if its class is not loaded under the loader or declares no such method, itself or upward; else a frame is entered.
use Rattle.std.proofs.Math.Path.{sym}
use Rattle.std.proofs.Common.{◌∙◌}
use Rattle.access.specs.Members.{invoke-uncached, invoke-undeclared, invoke-right}
use Rattle.cells.specs.Optional.{optional-none, optional-some}
use Rattle.resolution.specs.Lookups.{selection-at, selection-absent}
use Rattle.resolution.specs.Quick.{loader-quick}
use Rattle.access.proofs.methods.invokevirtual.Goals as goal

pub returns-in_default : goal.returns-in_default
returns-in_default c = invoke-uncached _ _ _ _ _ _ _ _ _ _ (rw c.from.ensures at (optional-none _ (sym c.in_default.ensures))) _

pub returns-in_default-select_method : goal.returns-in_default-select_method
returns-in_default-select_method c = invoke-undeclared _ _ _ _ _ _ _ _ _ _ _ (rw c.from.ensures at (optional-some _ _ (sym c.in-Some.ensures))) _ (selection-absent _ (sym c.in_default-select_method.ensures))

pub returns : goal.returns
returns c =
    invoke-right _ _ _ _ _ _ _ _ _ _ _ (rw c.from.ensures at (optional-some _ _ (sym c.in-Some.ensures))) _ _ (c.loader_of.ensures ∙ sym (loader-quick c.args.base.now.counts.now c.args.base.now.classes.now c.args.base.now.kept.now c.args.base.now.cache.now _)) _ _ _ (selection-at _ _ (sym c.in-Some-select_method.ensures)) c.call_method.ensures
