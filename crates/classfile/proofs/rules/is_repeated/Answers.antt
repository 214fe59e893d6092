-- The methods after method j are searched for one alike to it.
use mathlib.Core.Path.{◌≡◌, ap, ◌∙◌}
use Rattle.std.specs.Option.{is_some}
use Rattle.definition.specs.Classes.{alike}
use Rattle.definition.specs.File.{same_method}
use Rattle.classfile.proofs.Laws.{placed-next}
use Rattle.classfile.specs.Reading.{method_in}
use Rattle.classfile.specs.Searches.{method-some}
use Rattle.classfile.proofs.rules.is_repeated.Goals as goal

pub alike_from-requires : goal.alike_from-requires
alike_from-requires c = placed-next _ _ _ _ c.requires.0 c.next_place.ensures.0 c.next_place.ensures.1

pub returns : goal.returns
unfolding same_method method_in
returns c =
    let same : same_method (method_in c.args.bytes.now c.args.j) ≡ alike c.method_signature-s.result = rw (c.method_signature-s.ensures, c.requires.0.place) in
    rw same (c.is_some.ensures ∙ ap is_some c.alike_from.ensures ∙ method-some _ _ _ _)
