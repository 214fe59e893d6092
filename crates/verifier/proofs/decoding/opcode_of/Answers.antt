-- Each opcode byte is told from the others, and any other byte is one of the later opcodes or unknown.
use native.Mathlib.Omega.{arith}
use borrow.Author.Tests.{ne_eqb}
use Rattle.definition.specs.Instructions.{pick, opcode_of}
use Rattle.verifier.specs.Decoding.{later_of}
use Rattle.verifier.proofs.decoding.opcode_of.Goals as goal

pub returns-in-1 : goal.returns-in-1
returns-in-1 c = unfold opcode_of pick in rw c.in-1.is

pub returns-in-17 : goal.returns-in-17
returns-in-17 c = unfold opcode_of pick in rw c.in-17.is

pub returns-in-21 : goal.returns-in-21
returns-in-21 c = unfold opcode_of pick in rw c.in-21.is

pub returns-in-25 : goal.returns-in-25
returns-in-25 c = unfold opcode_of pick in rw c.in-25.is

pub returns-in-54 : goal.returns-in-54
returns-in-54 c = unfold opcode_of pick in rw c.in-54.is

pub returns-in-58 : goal.returns-in-58
returns-in-58 c = unfold opcode_of pick in rw c.in-58.is

pub returns-in-87 : goal.returns-in-87
returns-in-87 c = unfold opcode_of pick in rw c.in-87.is

pub returns-in-89 : goal.returns-in-89
returns-in-89 c = unfold opcode_of pick in rw c.in-89.is

pub returns-in-96 : goal.returns-in-96
returns-in-96 c = unfold opcode_of pick in rw c.in-96.is

pub returns-in-100 : goal.returns-in-100
returns-in-100 c = unfold opcode_of pick in rw c.in-100.is

pub returns-in-180 : goal.returns-in-180
returns-in-180 c = unfold opcode_of pick in rw c.in-180.is

pub returns-in-181 : goal.returns-in-181
returns-in-181 c = unfold opcode_of pick in rw c.in-181.is

pub returns-in-182 : goal.returns-in-182
returns-in-182 c = rw c.in-182.is c.invokevirtual_of.ensures

pub returns-in-187 : goal.returns-in-187
returns-in-187 c = unfold opcode_of pick in rw c.in-187.is

pub returns-in-172 : goal.returns-in-172
returns-in-172 c = unfold opcode_of pick in rw c.in-172.is

pub returns-in-176 : goal.returns-in-176
returns-in-176 c = unfold opcode_of pick in rw c.in-176.is

pub returns-in_default : goal.returns-in_default
unfolding opcode_of later_of pick
returns-in_default c =
    rw (
      ne_eqb c.args.b 1 (λ e. omega arith),
      ne_eqb c.args.b 17 (λ e. omega arith),
      ne_eqb c.args.b 21 (λ e. omega arith),
      ne_eqb c.args.b 25 (λ e. omega arith),
      ne_eqb c.args.b 54 (λ e. omega arith),
      ne_eqb c.args.b 58 (λ e. omega arith),
      ne_eqb c.args.b 87 (λ e. omega arith),
      ne_eqb c.args.b 89 (λ e. omega arith),
      ne_eqb c.args.b 96 (λ e. omega arith),
      ne_eqb c.args.b 100 (λ e. omega arith),
      ne_eqb c.args.b 180 (λ e. omega arith),
      ne_eqb c.args.b 181 (λ e. omega arith),
      ne_eqb c.args.b 182 (λ e. omega arith),
      ne_eqb c.args.b 187 (λ e. omega arith),
      ne_eqb c.args.b 172 (λ e. omega arith),
      ne_eqb c.args.b 176 (λ e. omega arith),
    )
    c.later_of.ensures
