use mathlib.Core.Path.{sym, ◌∙◌}
use native.Mathlib.Omega.{arith}
use native.Mathlib.Numerals.{add-one}
use Rattle.constraints.proofs.Supers.{super-falls}
use Rattle.constraints.proofs.Pairing.{tested-next, tested-all, turn-fits, apart-any, judged-fine, right-on}
use Rattle.constraints.proofs.agreement.find_pair.Goals as goal

pub look-span-requires : goal.look-span-requires
look-span-requires c =
    let pre = c.requires in
    let done = c.pairs.invariant.tested in
    (pre.0, pre.1, c.pairs-test.true, turn-fits c.args.newcomer done.is_new c.pairs-test.true c.request_at-a.ensures, pre.2, pre.3, done.tables)

pub loop-next-preserved : goal.loop-next-preserved
loop-next-preserved c =
    let i = c.loop-next.invariant in
    let next = c.next_met-next-in-Some.ensures in
    let here = judged-fine _ _ _ _ _ _ _ _ _ (rw c.beside-lead.ensures at c.pair_at-pair.ensures) (sym c.is_some.ensures ∙ c.if-is_some.false) in
    record {
      found = i.found;
      fits = λ x e. (omega (arith, next.fits x e, i.fits _ c.in-Some.is), (next.fits x e).1);
      fine = right-on _ (rw c.in-Some.is at i.fine) here next;
    }

pub returns-then-is_some : goal.returns-then-is_some
returns-then-is_some c =
    let pre = c.requires in
    let done = c.pairs.invariant.tested in
    apart-any _ (super-falls c.args.supers.now) _ _ _ _ pre.2 (omega arith) pre.3 _ c.request_at-a.ensures (turn-fits c.args.newcomer done.is_new c.pairs-test.true c.request_at-a.ensures) done.fresh
    c.look-span.ensures (c.loop-next.invariant.fits _ c.in-Some.is).1
    (rw (add-one _) at (rw c.beside-lead.ensures at c.pair_at-pair.ensures)) (sym c.is_some.ensures ∙ c.if-is_some.true)

pub pairs-preserved : goal.pairs-preserved
pairs-preserved c =
    let pre = c.requires in
    let done = c.loop-next.invariant in
    record {
      found = done.found;
      tested = tested-next _ (super-falls c.args.supers.now) _ _ _ _ pre.2 (omega arith) pre.3 _ c.request_at-a.ensures c.pairs.invariant.tested c.look-span.ensures
          (λ p h. rw (add-one _) at ((rw c.in_default.is at done.fine) p h)) c.next_turn-turn.ensures;
    }

pub returns-after-pairs : goal.returns-after-pairs
returns-after-pairs c = rw c.pairs.invariant.found (tested-all _ (super-falls c.args.supers.now) _ _ _ _ c.requires.2 (omega arith) c.pairs.invariant.tested)
