-- A superclass that is refused ends the decision; another is what the constraints are decided for.
use mathlib.Core.Path.{refl, sym, ◌∙◌}
use Rattle.std.proofs.lemmas.Result.{err_from_is_err_and}
use Rattle.cells.specs.Optional.{resulting-err, resulting-ok}
use Rattle.classfile.specs.Reading.{quick_file}
use Rattle.loading.specs.Stages.{Decided}
use Rattle.loading.proofs.Defined.{super-cached, super-words, placed-refused, placed_below, decided-same}
use Rattle.loading.proofs.admitting.admit_class.Goals as goal

pub admit_constraints-requires : goal.admit_constraints-requires
unfolding quick_file
admit_constraints-requires c =
    let pre = c.requires in
    (pre.0, pre.1, pre.2, pre.3, super-cached _ _ _ (sym (resulting-ok _ _ (sym c.find_super.ensures ∙ c.in_ok-p.was))))

pub returns-in_err-p : goal.returns-in_err-p
unfolding Decided
returns-in_err-p c =
    let p = err_from_is_err_and c.from_residual.result c.from_residual.ensures.1 in
    let h = sym (resulting-err _ _ (sym c.find_super.ensures ∙ c.in_err-p.was)) in
    λ ns e. rw (p.1, p.2) (placed-refused _ _ _ _ _ h, super-words _ _ _ h)

pub returns : goal.returns
returns c =
    λ ns e. decided-same _ _ _ _ _ _ _ _ (placed_below _ _ _ _ _ (sym (resulting-ok _ _ (sym c.find_super.ensures ∙ c.in_ok-p.was)))) refl (c.admit_constraints.ensures ns e)
