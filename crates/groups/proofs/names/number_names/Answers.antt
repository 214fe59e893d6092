use Prim.Native.Nat.{ℕ, ◌+◌, ◌*◌, ◌<◌, ◌/◌}
use native.Mathlib.Omega.{arith}
use lib.ListN.{length, replicate, length-replicate, get_or-replicate}
use Rattle.groups.specs.Firsts.{First, name_in, HasLow, HasName}
use Rattle.groups.proofs.Filling.{fill_more, firsts-none, low-entered, name-entered}
use Rattle.groups.proofs.names.number_names.Goals as goal

pub loop-p-init : goal.loop-p-init
loop-p-init c = (λ q h. absurd (omega arith), firsts-none (HasLow c.args.ties.now) (replicate 4096 255) (λ x h. get_or-replicate {A = ℕ} 4096 x 255 0 (omega (arith, h, length-replicate {A = ℕ} 4096 255))), firsts-none (HasName c.args.ties.now) c.args.blocks.now c.requires.4)

pub loop-p-preserved : goal.loop-p-preserved
loop-p-preserved c =
    let ties = c.args.ties.now in
    let h = c.loop-p-test.true in
    let few : c.loop-p.p < 256 = omega (arith, h, c.requires.0) in
    let low = low-entered ties c.loop-p.p c.from-name.result c.from-name.ensures few (omega arith) (omega arith) c.loop-p.invariant.1 c.first_of-block.ensures in
    let room : c.first_of-block.result * 16 + c.from-name.result / 4096 < length c.loop-p.blocks = omega (arith, low.1.low, h, c.requires.3) in
    let named = name-entered ties c.loop-p.p c.from-name.result c.from-name.ensures few (omega arith) low.1 room c.loop-p.invariant.2 c.first_of-node.ensures in (
      fill_more (λ q. q) (λ q v. First (name_in ties) q v) c.loop-p.nodes c.loop-p.p c.first_of-node.result (omega arith) (λ q k r. omega arith) c.loop-p.invariant.0 named.1,
      low.0,
      named.0,
    )
