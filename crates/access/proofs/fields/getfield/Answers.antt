-- getfield is refused if its class is not loaded under the loader or declares no such field, itself or upward; else the field is read.
use Rattle.std.proofs.Math.Path.{sym}
use Rattle.std.proofs.Common.{◌∙◌}
use Rattle.std.proofs.lemmas.Result.{err_from_is_err_and}
use Rattle.access.specs.Members.{getfield-refused, getfield-right}
use Rattle.resolution.specs.Quick.{loader-quick}
use Rattle.access.proofs.fields.getfield.Goals as goal

pub returns-in_err-field : goal.returns-in_err-field
returns-in_err-field c =
    let p = err_from_is_err_and c.from_residual.result c.from_residual.ensures.1 in
    rw (p.1, p.2) (getfield-refused _ _ _ _ _ _ _ _ _ _ _ _ _ c.in_err-field.ensures)

pub read_field-requires : goal.read_field-requires
read_field-requires c = c.in_ok-field.ensures.1

pub returns : goal.returns
returns c =
    let base = c.args.base.now in
    getfield-right _ _ _ _ _ _ _ _ _ _ _ c.in_ok-field.ensures.0 _ _ (c.loader_of.ensures ∙ sym (loader-quick base.counts.now base.classes.now base.kept.now base.cache.now _)) _ _ _ c.in_ok-field.ensures.1 c.read_field.ensures
