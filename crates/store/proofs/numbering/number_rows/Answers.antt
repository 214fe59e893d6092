-- Before a row is numbered, the rows behind it are.
use mathlib.Core.Path.{◌∙◌, ◌≡◌, refl, sym, ap}
use native.Mathlib.Omega.{arith}
use lib.ListN.{length, length-set}
use Rattle.store.specs.Numbering.{numbered-few, numbered-many}
use Rattle.store.proofs.Numbered.{number-none, number_more, number-all}
use Rattle.store.proofs.numbering.number_rows.Goals as goal

pub returns-then-from-gt-NUMBERS : goal.returns-then-from-gt-NUMBERS
returns-then-from-gt-NUMBERS c = sym (numbered-many _ _ _ _ _ (omega (arith, c.if-from-gt-NUMBERS.true, c.from.ensures, c.from-2.ensures)))

pub loop-i-init : goal.loop-i-init
loop-i-init c =
    (omega arith, omega (arith, c.from-3.ensures, c.from-4.ensures), refl, number-none _ _ _ _ _, omega (arith, c.if-from-gt-NUMBERS.false, c.from-2.ensures, c.from.ensures))

pub loop-i-preserved : goal.loop-i-preserved
loop-i-preserved c =
    let i = c.loop-i.invariant in
    (omega (arith, i.0), i.1, ap length c.put.ensures ∙ simp length-set i.2, rw (c.put.ensures, c.from-in-loop-i.ensures, i.1) (number_more _ _ _ _ _ _ _ c.loop-i-test.true i.0 i.3), i.4)

pub returns : goal.returns
returns c =
    let z : c.loop-i.i ≡ 0 = omega (arith, c.loop-i-test.false) in
    (rw z at c.loop-i.invariant.3) ∙ (number-all _ _ _ _ _ ∙ sym (numbered-few _ _ _ _ _ c.loop-i.invariant.4))
