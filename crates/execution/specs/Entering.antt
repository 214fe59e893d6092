-- A call's arguments, where a frame is entered with them: they stand among the operands of the frame below in their order, and fill the locals behind this.
use Rattle.std.specs.Prelude.{◌≡◌, [], ◌∷◌, ltb}
use Rattle.std.proofs.Math.Path.{refl}
use Prim.Native.Nat.{ℕ, zero, suc, ◌+◌, ◌≤◌}
use Rattle.std.proofs.Common.{arith}
use Rattle.definition.specs.Lists.{rows, filled}
use Rattle.definition.specs.Instructions.{pick}
use Rattle.definition.specs.Machine.{Value, empty_value, entry_frame}

-- argument i of n, of which the first is operand k; empty where there is none
unfoldable pub argument_or : (ℕ → Value) → ℕ → ℕ → ℕ → Value
argument_or g k n i = pick (ltb i n) (g (k + i)) empty_value

-- A frame is entered alike with n arguments and with four, of which those past the n are empty: the locals past the arguments are empty too
module _ (g : ℕ → Value) (k c j o : ℕ) where
  zeroth : k + 0 ≡ k
  zeroth = omega arith

  next : (i : ℕ) → k + suc i ≡ suc (k + i)
  next i = omega arith

  pub entered : (n : ℕ) → n ≤ 4 → entry_frame c j o (argument_or g k n 0 ∷ argument_or g k n 1 ∷ argument_or g k n 2 ∷ argument_or g k n 3 ∷ []) ≡ entry_frame c j o (rows g n k)
  unfolding argument_or pick filled rows
  entered zero h = refl
  entered (suc zero) h = rw zeroth
  entered (suc (suc zero)) h = rw (next 0, zeroth)
  entered (suc (suc (suc zero))) h = rw (next 1, next 0, zeroth)
  entered (suc (suc (suc (suc zero)))) h = rw (next 2, next 1, next 0, zeroth)
  entered (suc (suc (suc (suc (suc n))))) h = absurd (omega arith)
