-- What was written lies within the output, what was read within the input.
use mathlib.Core.Path.{sym}
use native.Mathlib.Omega.{arith}
use lib.Seq.{length-take-le}
use Rattle.lines.specs.Told.{told-within}
use mathlib.Core.Bool.{Bool, true, false}
use Prim.Native.Nat.{ℕ, ◌≤◌}
use Rattle.std.specs.Bool.{then_some}
use Rattle.std.specs.Option.{IfSome}
use Rattle.boxscript.proofs.carry.Goals as goal

within : (t : Bool) (n m : ℕ) → n ≤ m → IfSome (then_some t n) (λ k. k ≤ m)
within true n m h = h
within false n m h = tt

pub slice_bounds-write_all-end : goal.slice_bounds-write_all-end
slice_bounds-write_all-end g c =
    let w = told-within c.args.last c.args.input.now c.args.out.now _ _ _ _ c.carry_lines-progress.ensures in omega (arith, w.written, c.carry_lines-progress.auto.out)

pub slice_bounds-write_all-end-2 : goal.slice_bounds-write_all-end-2
slice_bounds-write_all-end-2 g c =
    let w = told-within c.args.last c.args.input.now c.args.out.now _ _ _ _ c.carry_lines-progress.ensures in
    sym (length-take-le _ _ (omega (arith, w.written, c.carry_lines-progress.auto.out)))

pub returns : goal.returns
returns g c =
    rw c.then_some.ensures (within _ _ _ (told-within c.args.last c.args.input.now c.args.out.now _ _ _ _ c.carry_lines-progress.ensures).read)
