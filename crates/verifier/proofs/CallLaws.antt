-- A call inline: its two forms differ in where the argument types begin and in how many there are.
use mathlib.Core.Path.{◌≡◌, refl}
use mathlib.Core.Option.{Option, none, some}
use mathlib.Core.List.{List}
use Prim.Native.Nat.{ℕ, ◌+◌, ◌*◌, ◌<◌, ◌≤◌}
use native.Mathlib.Omega.{arith}
use lib.ListN.{get_or}
use borrow.Author.Tests.{le-leb, lt-leb}
use Rattle.definition.specs.declared.Arguments.{Arguments}
use Rattle.definition.specs.declared.Opcode.TheVariants.{OpInvokevirtual, OpInvokevirtualList}
use Rattle.definition.specs.declared.Instruction.TheVariants.{Invokevirtual}
use Rattle.definition.specs.Numbers.{argument_limit}
use Rattle.definition.specs.Maybe.{◌>>=◌, need}
use Rattle.definition.specs.Classes.{arguments_of, signature}
use Rattle.definition.specs.Instructions.{short_at, shorts_at, list_signature_at, instruction_of}
use Rattle.cells.specs.Listed.{list_at, list_read}
use Rattle.cells.specs.Optional.{optional}
use Rattle.std.specs.Prelude.{Some, None}
use Rattle.verifier.specs.Decoding.{call_at}

-- The two forms

regrouped : {A B C : Type 0} (m : Option A) (f : A → Option B) (g : B → Option C) → ((m >>= f) >>= g) ≡ (m >>= λ a. f a >>= g)
unfolding ◌>>=◌
regrouped none f g = refl
regrouped (some a) f g = refl

module _ (s : List ℕ) (i : ℕ) where
  -- one type, behind two names
  pub call-inline : call_at s i (i + 4) 1 ≡ instruction_of s i OpInvokevirtual
  unfolding call_at instruction_of need ◌>>=◌ arguments_of shorts_at
  call-inline =
      let a : i + 2 + 2 ≡ i + 4 = omega arith in
      let b : i + 2 + 4 ≡ i + 4 + 2 * 1 = omega arith in
      rw (a, b) refl

  -- a list, behind two names and the byte with its count
  pub call-list : call_at s i (i + 5) (get_or s (i + 4) 0) ≡ instruction_of s i OpInvokevirtualList
  unfolding call_at instruction_of list_signature_at
  call-list =
      let a : i + 2 + 3 ≡ i + 5 = omega arith in
      rw (a, regrouped, regrouped) (unfold ◌>>=◌ in refl)

-- What is read of one

module _ (s : List ℕ) (i place count : ℕ) where
  -- more than four types can't be read
  pub call-above : argument_limit < count → None ≡ optional (call_at s i place count)
  unfolding call_at need ◌>>=◌
  call-above h = rw (lt-leb count argument_limit h)

  -- four at most are a list of arguments, and the result stands behind them
  pub call-read :
      count ≤ argument_limit → (k x w y : ℕ) (a : Arguments) → k ≡ short_at s i → x ≡ short_at s (i + 2) → a ≡ list_at s place count → w ≡ count →
      y ≡ short_at s (place + 2 * w) → Some (Invokevirtual k (signature x a y)) ≡ optional (call_at s i place count)
  unfolding call_at need ◌>>=◌
  call-read h k x w y a p q r t u = rw (le-leb count argument_limit h, list_read s place count h, ← r, u, t, p, q)
