-- What is known, or to be posted already, is not added; else the name is the new last.
use Rattle.std.proofs.Math.Path.{sym}
use Rattle.std.proofs.Common.{◌∙◌}
use native.Mathlib.Omega.{arith}
use Rattle.definition.specs.Lists.{rows}
use Rattle.definition.specs.Tables.{tie_at}
use Rattle.posting.specs.Postings.{adds-known, adds-among, adds-first, adds-next, names-counted}
use Rattle.posting.proofs.add_name.Goals as goal

pub returns-then-not-is_new : goal.returns-then-not-is_new
returns-then-not-is_new c = adds-known _ _ _ _ _ c.requires.0 c.requires.1 (sym c.is_new.ensures ∙ c.if-not-is_new.true)

pub returns-then-is_among : goal.returns-then-is_among
returns-then-is_among c =
    let before = c.in-Some.before in
    adds-among (rows (tie_at c.args.ties.now) c.args.count 0) _ _ _ _ c.requires.0 c.requires.1 before.one before.two before.names before.last c.in-Some.is (sym c.is_among.ensures ∙ c.if-is_among.true)

pub with_name-names-requires : goal.with_name-names-requires
with_name-names-requires c =
    let before = c.in-Some.before in
    omega (arith, names-counted _ before.one before.two before.names before.last c.in-Some.is, c.requires.2)

pub returns-in-None : goal.returns-in-None
returns-in-None c = adds-first _ _ _ _ _ c.requires.0 c.requires.1 c.in-None.is (sym c.is_new.ensures ∙ c.if-not-is_new.false)

pub returns-else-is_among : goal.returns-else-is_among
returns-else-is_among c =
    let before = c.in-Some.before in
    adds-next _ _ _ _ _ c.requires.0 c.requires.1 before.one before.two before.names _ before.last c.in-Some.is (sym c.is_new.ensures ∙ c.if-not-is_new.false) (sym c.is_among.ensures ∙ c.if-is_among.false) c.with_name-names.ensures
