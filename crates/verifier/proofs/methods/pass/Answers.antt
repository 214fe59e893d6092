-- The first map left lies at the point, behind it, or before it; or none is left.
use mathlib.Core.Path.{◌≡◌, sym, ap, ◌∙◌}
use mathlib.Core.List.{List}
use Prim.Native.Nat.{ℕ}
use native.Mathlib.Omega.{arith}
use Rattle.definition.specs.Instructions.{short_at}
use Rattle.classfile.specs.Reading.{map_of, map_numbered, map_place}
use Rattle.verifier.specs.Answers.{Passes}
use Rattle.verifier.proofs.LookupLaws.{map_next}
use Rattle.verifier.proofs.PassLaws.{pass-none, pass-at, pass-inside, pass-before}
use Rattle.verifier.proofs.methods.pass.Goals as goal

-- the offset that is read is that of the first map left
offset-is : (ms : List ℕ) (i r x : ℕ) → r ≡ map_place ms i → x ≡ short_at ms r → (map_numbered ms i).offset ≡ x
unfolding map_numbered map_of
offset-is ms i r x here read = ap (short_at ms) (sym here) ∙ sym read

pub returns-then-map_count-i : goal.returns-then-map_count-i
unfolding Passes
returns-then-map_count-i c = λ v b a r. (pass-none v b a r _ _ _ (omega (arith, c.map_count.ensures, c.if-map_count-i.true)), c.requires)

pub returns-then-offset-p : goal.returns-then-offset-p
unfolding Passes
returns-then-offset-p c =
    λ v b a r. (
      pass-at v b a r _ _ _ (omega (arith, c.map_count.ensures, c.if-map_count-i.false)) (offset-is _ _ _ _ c.requires.0 (c.from-offset.ensures ∙ c.map_offset.ensures) ∙ c.if-offset-p.true),
      (map_next _ _ _ _ c.requires.0 c.map_size.ensures.0, omega (arith, c.requires.1, c.map_size.ensures.1)),
    )

pub returns-then-offset-p-2 : goal.returns-then-offset-p-2
unfolding Passes
returns-then-offset-p-2 c =
    λ v b a r. pass-inside v b a r _ _ _ (omega (arith, c.map_count.ensures, c.if-map_count-i.false)) (omega (arith, offset-is _ _ _ _ c.requires.0 (c.from-offset.ensures ∙ c.map_offset.ensures), c.if-offset-p-2.true))

pub returns-else-offset-p-2 : goal.returns-else-offset-p-2
unfolding Passes
returns-else-offset-p-2 c =
    λ v b a r. (pass-before v b a r _ _ _ (omega (arith, c.map_count.ensures, c.if-map_count-i.false)) (omega (arith, offset-is _ _ _ _ c.requires.0 (c.from-offset.ensures ∙ c.map_offset.ensures), c.if-offset-p.false, c.if-offset-p-2.false)), c.requires)
