-- The search from method 0 on.
use mathlib.Core.Path.{ap, ◌∙◌}
use Rattle.classfile.specs.Lists.{find-start}
use Rattle.classfile.specs.Reading.{quick_methods, method_found}
use Rattle.classfile.proofs.methods.find_method.Goals as goal

pub returns : goal.returns
unfolding quick_methods
returns c = c.alike_from.ensures ∙ ap (method_found _) (find-start _ _ _)
