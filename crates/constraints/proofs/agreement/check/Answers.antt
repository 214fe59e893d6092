-- Without constraints nothing is named; else what is found of the places of the tables is what their rows make of it.
use Prim.Native.Nat.{◌+◌}
use mathlib.Core.Path.{refl}
use native.Mathlib.Omega.{arith}
use Rattle.constraints.specs.Agreement.{super_in}
use Rattle.constraints.proofs.Agreeing.{agree_same, breaks-same}
use Rattle.constraints.proofs.Naming.{names, names-alone, names-counted, pair_fits}
use Rattle.constraints.proofs.Labelling.{rooted-by}
use borrow.Author.Rules.{rules}
use Rattle.constraints.proofs.agreement.check.Goals as goal

pub returns-then-tied-noted-eq0 : goal.returns-then-tied-noted-eq0
returns-then-tied-noted-eq0 c =
    let args = c.args in
    let cached = c.at_most-cached in
    let tied = c.at_most-tied in
    let noted = c.at_most-noted in
    names-counted _ args.cache.now args.ties.now args.beside.now args.subtypes.now cached.result tied.result noted.result _ _ _ _ _ _ cached.ensures.0 tied.ensures.0
    noted.ensures.0 refl (names-alone (super_in args.supers.now) args.cache.now args.ties.now args.beside.now args.subtypes.now cached.result tied.result noted.result _ c.if-tied-noted-eq0.true)

pub group_places-requires : goal.group_places-requires
group_places-requires c =
    let nodes = c.number_nodes in
    let ones = c.at_most-cached.result + c.at_most-noted.result + c.at_most-noted.result in
    let tied = c.at_most-tied.result in
    (omega arith, search rules, search rules, search rules, search rules, λ p h. (nodes.ensures p h).low, (rooted-by _ nodes.new.nodes (ones + tied + tied) ones (omega arith) nodes.ensures).top)

pub find_break-requires : goal.find_break-requires
find_break-requires c =
    let ones = c.at_most-cached.result + c.at_most-noted.result + c.at_most-noted.result in
    (c.at_most-cached.ensures.1, c.at_most-noted.ensures.1, rooted-by _ _ ones ones (omega arith) c.group_places.ensures.is_group, search rules, search rules)

pub tell-requires : goal.tell-requires
tell-requires c = pair_fits _ c.at_most-cached.ensures.1 c.find_break.ensures

pub returns : goal.returns
returns c =
    let args = c.args in
    let cached = c.at_most-cached in
    let tied = c.at_most-tied in
    let noted = c.at_most-noted in
    let numbers = c.number_places in
    let nodes = c.number_nodes in
    let classes = c.list_classes in
    let groups = c.group_places in
    rw c.tell.ensures
    (names-counted _ args.cache.now args.ties.now args.beside.now args.subtypes.now cached.result tied.result noted.result _ _ _ _ _ _ cached.ensures.0 tied.ensures.0
    noted.ensures.0 c.from.ensures
    (names (super_in args.supers.now) args.cache.now cached.result _ _ _ _ noted.result
    (agree_same args.cache.now cached.result args.ties.now tied.result args.subtypes.now noted.result args.beside.now
    numbers.new.numbers nodes.new.nodes classes.new.classes groups.new.groups (omega (arith, cached.ensures.1, tied.ensures.1, noted.ensures.1)) numbers.ensures nodes.ensures
    classes.ensures groups.ensures (super_in args.supers.now))
    (breaks-same args.cache.now cached.result args.ties.now tied.result args.subtypes.now noted.result args.beside.now
    numbers.new.numbers nodes.new.nodes classes.new.classes groups.new.groups (omega (arith, cached.ensures.1, tied.ensures.1, noted.ensures.1)) numbers.ensures nodes.ensures
    classes.ensures groups.ensures (super_in args.supers.now))
    _ c.find_break.ensures))
