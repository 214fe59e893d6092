-- The last is written first, as write_rows does.
use Rattle.std.proofs.Math.Path.{◌≡◌, ap}
use Rattle.std.proofs.Common.{◌∙◌}
use mathlib.Core.List.{map}
use Prim.Native.Nat.{◌+◌}
use native.Mathlib.Omega.{arith}
use Rattle.std.proofs.Math.ListN.{length}
use Rattle.definition.specs.Lists.{write_rows}
use Rattle.definition.specs.Classes.{types_of}
use Rattle.definition.specs.Tables.{tie, put_tie}
use Rattle.posting.specs.Postings.{to_post, writes-none, writes_more, writes-all, writes-last}
use Rattle.posting.proofs.write_names.Goals as goal

pub loop-i-init : goal.loop-i-init
loop-i-init c = writes-none _ _ (types_of c.args.new.names) _ _ c.argument_count-count.result (omega arith)

pub loop-i-preserved : goal.loop-i-preserved
loop-i-preserved c =
    rw (c.write_tie-in-loop-i.ensures, c.from-in-loop-i.ensures, c.from-in-loop-i-2.ensures, c.argument_at.ensures)
    (writes_more _ _ (types_of c.args.new.names) _ _ c.loop-i.i _ c.loop-i-test.true (omega arith) c.loop-i.invariant)

pub returns : goal.returns
unfolding to_post
returns c =
    let new = c.args.new in
    let k = c.from.result + c.from-2.result in
    let z : c.loop-i.i ≡ 0 = omega arith in
    let place : k ≡ c.args.n + length (types_of new.names) = omega arith in
    (rw z at c.loop-i.invariant)
    ∙ (writes-all new.one new.two (types_of new.names) c.args.n _
    ∙ (ap (write_rows put_tie (map (tie new.one new.two) (types_of new.names)) c.args.n) c.write_tie.ensures
    ∙ writes-last new.one new.two (types_of new.names) new.last c.args.n k c.args.ties.now place))
