-- A new object's row is written: its class, and what each of its fields begins as.
use Prim.Native.Nat.{◌-◌}
use Rattle.std.proofs.Math.Path.{◌≡◌, sym}
use Rattle.std.proofs.Common.{◌∙◌}
use Rattle.std.proofs.Math.ListN.{get_or}
use native.Mathlib.Omega.{arith}
use Rattle.frames.proofs.Laws.{write_rows-none, write_rows-down}
use Rattle.frames.specs.Initial.{initial_of}
use Rattle.definition.specs.Tables.{put_field, put_object}
use Rattle.frames.proofs.write_object.Goals as goal

pub loop-i-init : goal.loop-i-init
loop-i-init c = write_rows-none (put_field c.args.o) (λ j. initial_of (get_or c.args.types.now j 0)) c.args.n _

pub loop-i-preserved : goal.loop-i-preserved
loop-i-preserved c =
    rw (c.write_initial.ensures, c.at.ensures, c.from.ensures, c.loop-i.invariant)
    (sym (write_rows-down (put_field c.args.o) (λ j. initial_of (get_or c.args.types.now j 0)) c.args.n c.loop-i.i _ (omega arith) (omega arith)))

pub returns : goal.returns
unfolding put_object
returns c = let z : c.loop-i.i ≡ 0 = omega arith in let e : c.args.n - 0 ≡ c.args.n = omega arith in c.loop-i.invariant ∙ rw (z, e, c.put.ensures)
