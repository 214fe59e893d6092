-- The methods are searched from the given one on. Before method j is compared, its place is known, and the search from method j on finds what
-- the whole search finds.
use mathlib.Core.Path.{sym, ap, ◌∙◌}
use Rattle.classfile.specs.Lists.{find-here, find-later, find-end}
use Rattle.classfile.proofs.Laws.{placed-next}
use Rattle.classfile.specs.Reading.{method_in, method_found}
use Prim.Native.Nat.{ℕ}
use Rattle.std.specs.Prelude.{Some}
use Rattle.classfile.proofs.methods.alike_from.Goals as goal

pub returns-then-is_alike : goal.returns-then-is_alike
unfolding method_found method_in
returns-then-is_alike c =
    let at = c.loop-j in
    let found = sym c.is_alike.ensures ∙ c.if-is_alike.true in
    ap (λ (p : ℕ). Some (record { number = at.j; place = p })) at.invariant.at.place
    ∙ ap (method_found _) (sym (find-here _ _ _ _ c.loop-j-test.true (rw (← at.invariant.at.place) found)) ∙ at.invariant.found)

pub loop-j-preserved : goal.loop-j-preserved
unfolding method_in
loop-j-preserved c =
    let at = c.loop-j in
    let other = sym c.is_alike.ensures ∙ c.if-is_alike.false in record {
      at = placed-next _ _ _ _ c.loop-j.invariant.at c.next_place-place.ensures.0 c.next_place-place.ensures.1;
      found = sym (find-later _ _ _ _ c.loop-j-test.true (rw (← at.invariant.at.place) other)) ∙ at.invariant.found;
    }

pub returns : goal.returns
unfolding method_found
returns c = ap (method_found _) (sym (find-end _ _ _ _ c.loop-j-test.false) ∙ c.loop-j.invariant.found)
