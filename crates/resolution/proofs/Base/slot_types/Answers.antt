-- A walk upward.
use Rattle.std.proofs.Math.Path.{refl, sym}
use Rattle.std.proofs.Common.{◌∙◌}
use Rattle.cells.specs.Optional.{optional-none, optional-some}
use Rattle.laws.specs.Agreement.{super-falls}
use Rattle.resolution.proofs.Laws.{rest-last, rest_up, rest-within, types-none, types_up}
use Rattle.resolution.proofs.Base.slot_types.Goals as goal

pub loop-p-init : goal.loop-p-init
loop-p-init c = (refl, c.size_of-size.ensures.0)

pub overflow_sub-end : goal.overflow_sub-end
overflow_sub-end c = rest-within _ _ _ _ _ _ 0 _ c.own_size-end.ensures.0 c.loop-p.invariant.1

pub returns-in_default : goal.returns-in_default
returns-in_default c =
    (c.size_of-size.ensures.0, rw (c.write_types.ensures, c.file_of.ensures) (sym (types-none _ _ _ _ _ _ _ (rest-last _ _ _ _ _ _ 0 _ c.own_size-end.ensures.0 (optional-none _ (sym c.in_default.ensures)) c.loop-p.invariant.1) (optional-none _ (sym c.in_default.ensures))) ∙ c.loop-p.invariant.0))

pub loop-p-smaller : goal.loop-p-smaller
loop-p-smaller c = super-falls _ _ _ (optional-some _ _ (sym c.in-Some.ensures))

pub loop-p-preserved : goal.loop-p-preserved
loop-p-preserved c =
    (rw (c.write_types.ensures, c.file_of.ensures) (sym (types_up _ _ _ _ _ _ _ _ (rest_up _ _ _ _ _ _ 0 _ c.own_size-end.ensures.0 _ (optional-some _ _ (sym c.in-Some.ensures)) c.loop-p.invariant.1) (optional-some _ _ (sym c.in-Some.ensures))) ∙ c.loop-p.invariant.0), rest_up _ _ _ _ _ _ 0 _ c.own_size-end.ensures.0 _ (optional-some _ _ (sym c.in-Some.ensures)) c.loop-p.invariant.1)
