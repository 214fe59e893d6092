use Prim.Native.Nat.{◌*◌, ◌<◌, ◌≤◌}
use native.Mathlib.Omega.{arith}
use lib.ListN.{length}
use Rattle.groups.proofs.Rooting.{root-low, root-top, root-tops}
use Rattle.groups.proofs.Claiming.{claimed-none, claim-long}
use Rattle.groups.proofs.Tying.{key-fits, one-first, one-lead, one-claimed, two-first, two-claimed}
use Rattle.groups.proofs.claims.claim_rows.Goals as goal

pub loop-i-init : goal.loop-i-init
loop-i-init c = rw c.requires.7 (claimed-none _ _ _ c.requires.6 (λ j x d. omega (arith, d.0)))

pub claim-low-requires : goal.claim-low-requires
claim-low-requires c =
    let ties = c.args.ties.now in
    let nodes = c.args.nodes.now in
    let h = c.loop-i-test.true in
    let long : c.args.n * 16 ≤ length c.loop-i.firsts = omega (arith, c.requires.5, c.loop-i.auto.firsts) in
    let fits : c.key_of.result < length c.loop-i.firsts = omega (arith, c.key_of.ensures, (key-fits ties nodes c.args.n c.requires.3 c.requires.4 c.loop-i.i h).0, long) in
    (fits, c.loop-i.invariant.ups_long, omega (arith, h, c.requires.0), one-lead ties nodes c.args.n c.requires.3 c.requires.4 c.requires.0 c.loop-i.i h long c.loop-i.invariant, one-first ties nodes c.args.n c.requires.3 c.requires.4 c.requires.0 c.loop-i.i h long c.loop-i.invariant _ fits)

pub claim-requires : goal.claim-requires
claim-requires c =
    let ties = c.args.ties.now in
    let nodes = c.args.nodes.now in
    let h = c.loop-i-test.true in
    let long : c.args.n * 16 ≤ length c.loop-i.firsts = omega (arith, c.requires.5, c.loop-i.auto.firsts) in
    let s = one-claimed ties nodes c.args.n c.requires.3 c.requires.4 c.requires.0 c.loop-i.i h long c.loop-i.invariant _ c.key_of.ensures c.claim-low.ensures in
    let long2 = claim-long c.claim-low.ensures in
    let room = (key-fits ties nodes c.args.n c.requires.3 c.requires.4 c.loop-i.i h).1 in
    (omega (arith, c.key_of-in-loop-i.ensures, room, long, long2), s.0.ups_long, omega (arith, root-low s.1, h, c.requires.0), root-tops (root-top s.1), two-first ties nodes c.args.n c.requires.3 c.requires.4 c.requires.0 c.loop-i.i h long c.loop-i.invariant _ _ c.key_of.ensures (omega (arith, long, long2)) s.0 s.1 _ (omega (arith, c.key_of-in-loop-i.ensures, room, long, long2)))

pub loop-i-preserved : goal.loop-i-preserved
loop-i-preserved c =
    let ties = c.args.ties.now in
    let nodes = c.args.nodes.now in
    let h = c.loop-i-test.true in
    let long : c.args.n * 16 ≤ length c.loop-i.firsts = omega (arith, c.requires.5, c.loop-i.auto.firsts) in
    let s = one-claimed ties nodes c.args.n c.requires.3 c.requires.4 c.requires.0 c.loop-i.i h long c.loop-i.invariant _ c.key_of.ensures c.claim-low.ensures in
    let long2 = claim-long c.claim-low.ensures in
    two-claimed ties nodes c.args.n c.requires.3 c.requires.4 c.requires.0 c.loop-i.i h long c.loop-i.invariant _ _ c.key_of.ensures (omega (arith, long, long2)) s.0 s.1 _ c.key_of-in-loop-i.ensures c.claim.ensures
