-- Each of the later opcodes is told from the others, and any other byte is unknown; version 1 has none.
use native.Mathlib.Omega.{arith}
use borrow.Author.Tests.{ne_eqb, le-leb, lt-leb}
use Rattle.definition.specs.Instructions.{pick}
use Rattle.verifier.specs.Decoding.{later_of}
use Rattle.verifier.proofs.decoding.later_of.Goals as goal

pub returns-then-version-lt-VERSION_TWO : goal.returns-then-version-lt-VERSION_TWO
unfolding later_of pick
returns-then-version-lt-VERSION_TWO c = rw (lt-leb _ _ c.if-version-lt-VERSION_TWO.true)

pub returns-in-104 : goal.returns-in-104
unfolding later_of pick
returns-in-104 c = rw (le-leb _ _ c.if-version-lt-VERSION_TWO.false, c.in-104.is)

pub returns-in-108 : goal.returns-in-108
unfolding later_of pick
returns-in-108 c = rw (le-leb _ _ c.if-version-lt-VERSION_TWO.false, c.in-108.is)

pub returns-in-153 : goal.returns-in-153
unfolding later_of pick
returns-in-153 c = rw (le-leb _ _ c.if-version-lt-VERSION_TWO.false, c.in-153.is)

pub returns-in-161 : goal.returns-in-161
unfolding later_of pick
returns-in-161 c = rw (le-leb _ _ c.if-version-lt-VERSION_TWO.false, c.in-161.is)

pub returns-in-167 : goal.returns-in-167
unfolding later_of pick
returns-in-167 c = rw (le-leb _ _ c.if-version-lt-VERSION_TWO.false, c.in-167.is)

pub returns-in_default : goal.returns-in_default
unfolding later_of pick
returns-in_default c =
    rw (
      le-leb _ _ c.if-version-lt-VERSION_TWO.false,
      ne_eqb c.args.b 104 (λ e. omega arith),
      ne_eqb c.args.b 108 (λ e. omega arith),
      ne_eqb c.args.b 153 (λ e. omega arith),
      ne_eqb c.args.b 161 (λ e. omega arith),
      ne_eqb c.args.b 167 (λ e. omega arith),
    )
