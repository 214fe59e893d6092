-- Name after name, and then the last.
use Rattle.std.proofs.Math.Path.{refl, sym, ap}
use mathlib.Core.List.{◌++◌}
use native.Mathlib.Omega.{arith}
use Rattle.std.proofs.Math.ListN.{length}
use Rattle.std.proofs.Common.{length-append}
use Rattle.definition.specs.Lists.{rows}
use Rattle.definition.specs.Classes.{types_of}
use Rattle.definition.specs.Constraints.{new_tie}
use Rattle.definition.specs.Tables.{tie_at}
use Rattle.rows.specs.Laws.{tie-few}
use Rattle.posting.specs.Postings.{to_post, names_of, few-names, ties-same, first-left, next-left, last-left}
use Rattle.posting.proofs.new_ties.Goals as goal

pub returns-then-one-two : goal.returns-then-one-two
unfolding to_post
returns-then-one-two c = sym (ties-same _ _ _ _ c.if-one-two.true)

pub loop-i-init : goal.loop-i-init
unfolding to_post names_of
loop-i-init c =
    let a = c.args in
    (refl, omega arith, first-left (rows (tie_at a.ties.now) a.count 0) a.one a.two (types_of a.names) a.last)

pub add_name-posting-requires : goal.add_name-posting-requires
add_name-posting-requires c =
    (c.if-one-two.false, c.loop-i.invariant.0, omega (arith, few-names c.args.names))

pub loop-i-preserved : goal.loop-i-preserved
loop-i-preserved c =
    let a = c.args in
    let i = c.loop-i.invariant in
    let p = to_post c.loop-i.posting in
    let e = c.add_name-posting.ensures in
    let ts = rows (tie_at a.ties.now) a.count 0 in
    let u = new_tie (ts ++ p) a.one a.two c.argument_at.result in (
      e.0,
      omega (arith, i.1, ap length e.1, length-append p u, tie-few (ts ++ p) a.one a.two c.argument_at.result),
      next-left ts a.one a.two (types_of a.names) a.last p _ _ _ (omega arith) c.argument_at.ensures i.2 e.1,
    )

pub add_name-requires : goal.add_name-requires
add_name-requires c = (c.if-one-two.false, c.loop-i.invariant.0, omega (arith, few-names c.args.names))

pub returns : goal.returns
returns c =
    let a = c.args in
    last-left (rows (tie_at a.ties.now) a.count 0) a.one a.two (types_of a.names) a.last (to_post c.loop-i.posting) _ c.loop-i.i (omega arith) c.loop-i.invariant.2 c.add_name.ensures.1
