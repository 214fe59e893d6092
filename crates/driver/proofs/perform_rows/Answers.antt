use Prim.Native.Nat.{◌/◌}
use mathlib.Core.Path.{◌≡◌, ◌∙◌}
use native.Mathlib.Omega.{arith}
use lib.ListN.{length}
use Rattle.driver.specs.Encoded.{call_in}
use Rattle.driver.specs.Laws.{row_within, drive-begins, drive-ends, drive-stops, drive-on}
use Rattle.driver.proofs.perform_rows.Goals as goal

pub loop-i-init : goal.loop-i-init
loop-i-init c = drive-begins _ _ _ _

pub perform_row-requires : goal.perform_row-requires
perform_row-requires c = row_within (length c.args.list.now) c.loop-i.i c.loop-i-test.true

pub returns-then-not-perform_row : goal.returns-then-not-perform_row
returns-then-not-perform_row c =
    drive-stops (call_in c.args.list.now c.args.files.now) _ _ _ _ _ _ _ c.perform_row.ensures c.loop-i-test.true c.if-not-perform_row.true ∙ c.loop-i.invariant

pub loop-i-preserved : goal.loop-i-preserved
loop-i-preserved c =
    drive-on (call_in c.args.list.now c.args.files.now) _ _ _ _ _ _ _ c.perform_row.ensures c.loop-i-test.true c.if-not-perform_row.false ∙ c.loop-i.invariant

pub returns : goal.returns
returns c =
    let last : length c.args.list.now / 6 ≡ c.loop-i.i = omega arith in
    rw last (drive-ends (call_in c.args.list.now c.args.files.now) _ _ _ _ c.loop-i-test.false ∙ c.loop-i.invariant)
