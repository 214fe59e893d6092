-- The rules are tested one after another, and the first that fails is answered; those that passed before it are known.
use mathlib.Core.Path.{◌≡◌, sym, ap, ◌∙◌}
use mathlib.Core.Bool.{true, not}
use Rattle.classfile.specs.Lists.{every_first, every-fails, every-last}
use Rattle.classfile.specs.Rules.{sized, titled, named_fields, whole_methods, readable}
use Rattle.classfile.specs.Laws.{reads_as}
use Rattle.classfile.proofs.rules.reads.Goals as goal

pub returns-then-not-is_sized : goal.returns-then-not-is_sized
unfolding readable
returns-then-not-is_sized c =
    let no-sizes = sym c.is_sized.ensures ∙ c.if-not-is_sized.true in
    sym (reads_as _ ∙ every-fails _ _ no-sizes)

pub returns-then-not-is_titled : goal.returns-then-not-is_titled
unfolding readable
returns-then-not-is_titled c =
    let no-titles = sym c.is_titled.ensures ∙ c.if-not-is_titled.true in
    sym (reads_as _ ∙ every_first _ _ ((let it : sized c.args.bytes.now ≡ true = sym c.is_sized.ensures ∙ c.if-not-is_sized.false in it)) ∙ every-fails _ _ no-titles)

pub returns-then-not-are_fields_named : goal.returns-then-not-are_fields_named
unfolding readable
returns-then-not-are_fields_named c =
    let no_fields = sym c.are_fields_named.ensures ∙ c.if-not-are_fields_named.true in
    sym
    (reads_as _
    ∙ every_first _ _ ((let it : sized c.args.bytes.now ≡ true = sym c.is_sized.ensures ∙ c.if-not-is_sized.false in it))
    ∙ every_first _ _ ((let it : titled c.args.bytes.now ≡ true = sym c.is_titled.ensures ∙ c.if-not-is_titled.false in it))
    ∙ every-fails _ _ no_fields)

pub returns-then-not-are_methods_whole : goal.returns-then-not-are_methods_whole
unfolding readable
returns-then-not-are_methods_whole c =
    let no-methods = sym c.are_methods_whole.ensures ∙ c.if-not-are_methods_whole.true in
    sym
    (reads_as _
    ∙ every_first _ _ ((let it : sized c.args.bytes.now ≡ true = sym c.is_sized.ensures ∙ c.if-not-is_sized.false in it))
    ∙ every_first _ _ ((let it : titled c.args.bytes.now ≡ true = sym c.is_titled.ensures ∙ c.if-not-is_titled.false in it))
    ∙ every_first _ _ ((let it : named_fields c.args.bytes.now ≡ true = sym c.are_fields_named.ensures ∙ c.if-not-are_fields_named.false in it))
    ∙ every-fails _ _ no-methods)

pub returns-then-is_field_doubled : goal.returns-then-is_field_doubled
unfolding readable
returns-then-is_field_doubled c =
    let twice = ap not (sym c.is_field_doubled.ensures ∙ c.if-is_field_doubled.true) in
    sym
    (reads_as _
    ∙ every_first _ _ ((let it : sized c.args.bytes.now ≡ true = sym c.is_sized.ensures ∙ c.if-not-is_sized.false in it))
    ∙ every_first _ _ ((let it : titled c.args.bytes.now ≡ true = sym c.is_titled.ensures ∙ c.if-not-is_titled.false in it))
    ∙ every_first _ _ ((let it : named_fields c.args.bytes.now ≡ true = sym c.are_fields_named.ensures ∙ c.if-not-are_fields_named.false in it))
    ∙ every_first _ _ ((let it : whole_methods c.args.bytes.now ≡ true = sym c.are_methods_whole.ensures ∙ c.if-not-are_methods_whole.false in it))
    ∙ every-fails _ _ twice)

pub returns : goal.returns
unfolding readable
returns c =
    let once = ap not (sym c.is_field_doubled.ensures ∙ c.if-is_field_doubled.false) in
    rw c.is_method_doubled.ensures
    (sym
    (reads_as _
    ∙ every_first _ _ ((let it : sized c.args.bytes.now ≡ true = sym c.is_sized.ensures ∙ c.if-not-is_sized.false in it))
    ∙ every_first _ _ ((let it : titled c.args.bytes.now ≡ true = sym c.is_titled.ensures ∙ c.if-not-is_titled.false in it))
    ∙ every_first _ _ ((let it : named_fields c.args.bytes.now ≡ true = sym c.are_fields_named.ensures ∙ c.if-not-are_fields_named.false in it))
    ∙ every_first _ _ ((let it : whole_methods c.args.bytes.now ≡ true = sym c.are_methods_whole.ensures ∙ c.if-not-are_methods_whole.false in it))
    ∙ every_first _ _ once
    ∙ every-last _))
