-- Before version 3 the three parts are looked at where they stand, from there on the signature.
use mathlib.Core.Path.{ap, ◌∙◌}
use Rattle.definition.specs.Classes.{is_named}
use Rattle.classfile.specs.Reading.{method_at}
use Rattle.classfile.specs.Rules.{named_method}
use Rattle.classfile.proofs.rules.is_named_method.Goals as goal

pub returns : goal.returns
unfolding named_method method_at
returns c = c.is_named.ensures ∙ ap is_named c.list_signature.ensures
