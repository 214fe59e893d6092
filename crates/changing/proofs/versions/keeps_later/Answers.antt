-- Before class c is looked at, one of those from c on is of a later version exactly if one of all is.
use mathlib.Core.Path.{ap, sym, ◌∙◌}
use Rattle.definition.specs.Lists.{any}
use Rattle.layout.specs.Places.{rows_start, any-hit, any-on, any-end}
use Rattle.first.specs.SameBases.{later_row}
use Rattle.changing.proofs.versions.keeps_later.Goals as goal

pub loop-c-init : goal.loop-c-init
loop-c-init c = rw (c.at-bytes.ensures, c.at-n.ensures) (ap (any (later_row _)) (rows_start _ _))

pub returns-then-later_row : goal.returns-then-later_row
returns-then-later_row c = sym (any-hit _ _ _ _ c.loop-c-test.true (sym c.later_row.ensures ∙ c.if-later_row.true)) ∙ c.loop-c.invariant

pub loop-c-preserved : goal.loop-c-preserved
loop-c-preserved c = sym (any-on _ _ _ _ c.loop-c-test.true (sym c.later_row.ensures ∙ c.if-later_row.false)) ∙ c.loop-c.invariant

pub returns : goal.returns
returns c = sym (any-end _ _ _ _ c.loop-c-test.false) ∙ c.loop-c.invariant
