-- The fields are searched from the given one on. Before field i is compared, the search from field i on finds what the whole search finds.
use mathlib.Core.Path.{sym, ◌∙◌}
use borrow.Author.Tests.{eq-eqb, ne_eqb}
use Rattle.layout.specs.Places.{any-hit, any-on, any-end}
use Rattle.classfile.specs.Reading.{field_named}
use Rattle.classfile.proofs.fields.named_from.Goals as goal

pub returns-then-field_name-name : goal.returns-then-field_name-name
unfolding field_named
returns-then-field_name-name c =
    let found = eq-eqb _ _ (rw c.field_name.ensures at c.if-field_name-name.true) in
    sym (any-hit _ _ _ _ c.loop-i-test.true found) ∙ c.loop-i.invariant

pub loop-i-preserved : goal.loop-i-preserved
unfolding field_named
loop-i-preserved c =
    let other = ne_eqb _ _ (rw c.field_name.ensures at c.if-field_name-name.false) in
    sym (any-on _ _ _ _ c.loop-i-test.true other) ∙ c.loop-i.invariant

pub returns : goal.returns
returns c = sym (any-end _ _ _ _ c.loop-i-test.false) ∙ c.loop-i.invariant
