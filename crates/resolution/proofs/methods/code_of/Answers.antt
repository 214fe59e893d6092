-- A number that is not below the count of methods has no code.
use Rattle.std.proofs.Math.Path.{◌≡◌, sym}
use Rattle.std.proofs.Common.{◌∙◌}
use Prim.Native.Nat.{◌≤◌}
use native.Mathlib.Omega.{arith}
use Rattle.classfile.specs.Reading.{field_count, field_place, method_at, method_count}
use Rattle.classfile.specs.Searches.{method-numbered, method-past, method-unnumbered}
use Rattle.resolution.specs.Lookups.{code-none, code-some}
use Rattle.resolution.proofs.methods.code_of.Goals as goal

pub returns-in_default : goal.returns-in_default
unfolding method_count
returns-in_default c =
    let bytes = c.args.file.now in
    let past : method_count bytes ≤ c.args.j = omega (arith, c.in_default.ensures, c.type_inv.file (field_place (field_count bytes))) in
    sym (code-none _ _ (method-past _ _ past))

pub returns-in-Some : goal.returns-in-Some
unfolding method_at
returns-in-Some c =
    let e : c.in-Ok.number ≡ c.args.j = omega (arith, c.in-Ok.ensures) in
    rw (← e) (c.code.ensures ∙ sym (code-some _ _ _ (method-numbered _ _ _ (sym c.in-Some.ensures))))

pub returns-in-None : goal.returns-in-None
returns-in-None c =
    let e : c.in-Ok.number ≡ c.args.j = omega (arith, c.in-Ok.ensures) in
    rw (← e) (sym (code-none _ _ (method-unnumbered _ _ (sym c.in-None.ensures))))
