-- Each instruction has a byte or more, and stands within the code.
use Rattle.std.specs.Prelude.{◌≡◌, refl, Bool, true, false, List, ℕ, suc, ◌+◌, ◌<◌, length, get_or, leb}
use Rattle.std.proofs.Common.{ap, arith, leb-true}
use Rattle.std.proofs.Math.Option.{Option, none, some, none-ne-some, some-injective}
use Rattle.definition.specs.declared.Instruction.{Instruction}
use Rattle.definition.specs.Instructions.{opcode_of, inline_length, instruction_of, Decoded, sized_as, decode}

sized-as : (n : ℕ) (o : Option Instruction) (i : Decoded) → sized_as (suc n) o ≡ some i → 0 < i.size
unfolding sized_as
sized-as n none i e = absurd (none-ne-some i e)
sized-as n (some j) i e = let z : suc n ≡ i.size = ap (λ (d : Decoded). d.size) (some-injective _ _ e) in omega arith

pub within : (v : ℕ) (s : List ℕ) (p : ℕ) (i : Decoded) → decode v s p ≡ some i → p < length s
unfolding decode
within v s p i h = go (leb (p + suc (inline_length s (p + 1) (opcode_of v (get_or s p 0)))) (length s)) refl h
  where
    go : (t : Bool) → leb (p + suc (inline_length s (p + 1) (opcode_of v (get_or s p 0)))) (length s) ≡ t
        → (elim t as (λ _. Option Decoded) [ true ↦ sized_as (suc (inline_length s (p + 1) (opcode_of v (get_or s p 0)))) (instruction_of s (p + 1) (opcode_of v (get_or s p 0))) | false ↦ none ]) ≡ some i → p < length s
    go true q e = let l = leb-true (p + suc (inline_length s (p + 1) (opcode_of v (get_or s p 0)))) (length s) q in omega arith
    go false q e = absurd (none-ne-some i e)

pub sized : (v : ℕ) (s : List ℕ) (p : ℕ) (i : Decoded) → decode v s p ≡ some i → 0 < i.size
unfolding decode
sized v s p i h = go (leb (p + suc (inline_length s (p + 1) (opcode_of v (get_or s p 0)))) (length s)) h
  where
    go : (t : Bool) → (elim t as (λ _. Option Decoded) [ true ↦ sized_as (suc (inline_length s (p + 1) (opcode_of v (get_or s p 0)))) (instruction_of s (p + 1) (opcode_of v (get_or s p 0))) | false ↦ none ]) ≡ some i → 0 < i.size
    go true e = sized-as _ _ i e
    go false e = absurd (none-ne-some i e)
