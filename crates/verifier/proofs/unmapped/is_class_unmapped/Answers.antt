-- Before method j is read, one of the methods from j on is unmapped exactly if one of all is.
use mathlib.Core.Path.{sym, ap, ◌∙◌}
use Rattle.definition.specs.Lists.{any}
use Rattle.layout.specs.Places.{rows_start, any-hit, any-on, any-end}
use Rattle.classfile.specs.Reading.{quick_methods}
use Rattle.verifier.specs.Lookups.{unmapped_in}
use Rattle.verifier.proofs.unmapped.is_class_unmapped.Goals as goal

pub loop-j-init : goal.loop-j-init
unfolding quick_methods
loop-j-init c = rw c.method_count-j-end.ensures (ap (any (unmapped_in _)) (rows_start _ _))

pub returns-then-is_numbered_unmapped : goal.returns-then-is_numbered_unmapped
returns-then-is_numbered_unmapped c =
    let found = sym c.is_numbered_unmapped.ensures ∙ c.if-is_numbered_unmapped.true in
    sym (any-hit _ _ _ _ c.loop-j-test.true found) ∙ c.loop-j.invariant

pub loop-j-preserved : goal.loop-j-preserved
loop-j-preserved c =
    let other = sym c.is_numbered_unmapped.ensures ∙ c.if-is_numbered_unmapped.false in
    sym (any-on _ _ _ _ c.loop-j-test.true other) ∙ c.loop-j.invariant

pub returns : goal.returns
returns c = sym (any-end _ _ _ _ c.loop-j-test.false) ∙ c.loop-j.invariant
