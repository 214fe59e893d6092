-- The count of the arguments first, names and types, then the code, then the maps.
use mathlib.Core.Path.{sym, ◌∙◌}
use Rattle.classfile.specs.Lists.{every_first, every-fails, every-last}
use Rattle.classfile.specs.Rules.{whole_method}
use Rattle.classfile.proofs.rules.is_whole_method.Goals as goal

pub returns-then-not-is_listed_method : goal.returns-then-not-is_listed_method
unfolding whole_method
returns-then-not-is_listed_method c = sym (every-fails _ _ (sym c.is_listed_method.ensures ∙ c.if-not-is_listed_method.true))

pub returns-then-not-is_named_method : goal.returns-then-not-is_named_method
unfolding whole_method
returns-then-not-is_named_method c =
    let listed = sym c.is_listed_method.ensures ∙ c.if-not-is_listed_method.false in
    let unnamed = sym c.is_named_method.ensures ∙ c.if-not-is_named_method.true in
    sym (every_first _ _ listed ∙ every-fails _ _ unnamed)

pub returns-then-not-is_coded_method : goal.returns-then-not-is_coded_method
unfolding whole_method
returns-then-not-is_coded_method c =
    let listed = sym c.is_listed_method.ensures ∙ c.if-not-is_listed_method.false in
    let named = sym c.is_named_method.ensures ∙ c.if-not-is_named_method.false in
    let uncoded = sym c.is_coded_method.ensures ∙ c.if-not-is_coded_method.true in
    sym (every_first _ _ listed ∙ every_first _ _ named ∙ every-fails _ _ uncoded)

pub returns : goal.returns
unfolding whole_method
returns c =
    let listed = sym c.is_listed_method.ensures ∙ c.if-not-is_listed_method.false in
    let named = sym c.is_named_method.ensures ∙ c.if-not-is_named_method.false in
    let coded = sym c.is_coded_method.ensures ∙ c.if-not-is_coded_method.false in
    rw c.is_mapped_method.ensures (sym (every_first _ _ listed ∙ every_first _ _ named ∙ every_first _ _ coded ∙ every-last _))
