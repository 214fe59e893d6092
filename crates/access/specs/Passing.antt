-- A call's arguments, where they stand: among the operands in their order, the last of them on top. What is popped for them, and whether each is of its own
-- type's kind.
use Rattle.std.specs.Prelude.{◌≡◌, Bool, List, get_or}
use Rattle.std.proofs.Math.Path.{refl}
use Rattle.std.proofs.Common.{◌∙◌}
use Rattle.std.proofs.Math.Bool.{true, false}
use Rattle.std.proofs.Math.Option.{none, some}
use Prim.Native.Nat.{ℕ, zero, suc, ◌+◌, ◌-◌, ◌<◌, ◌≤◌}
use Rattle.std.proofs.Math.Numerals.{add-one}
use native.Mathlib.Omega.{arith}
use Rattle.std.proofs.Math.ListN.{length}
use Rattle.std.proofs.Math.Seq.{take_all}
use Rattle.std.proofs.Math.Dec.{ltb}
use borrow.Author.Tests.{ltb-true, ltb-false}
use Rattle.definition.specs.Lists.{rows, stack}
use Rattle.definition.specs.Maybe as maybe
use Rattle.definition.specs.declared.Arguments.{Arguments}
use Rattle.definition.specs.Classes.{types_of}
use Rattle.definition.specs.Verifier.{pop, pop_all}
use Rattle.definition.specs.declared.Refusal.TheVariants.{Word}
use Rattle.definition.specs.Answers.{Result, refused, ok, ◌>>=◌, take?}
use Rattle.definition.specs.Machine.{Value, pop!, pop_all!, kind!, kinds! }
use Rattle.definition.specs.Tables.{value_of, operand_at}
use Rattle.layout.specs.Places.{rows_last, rows_take}
use Rattle.instructions.specs.Operands.{is_kind, pop-none, kind-is, kind-not}

-- Popping n of d operands

pub popped : {A : Type 0} (g : ℕ → A) (n d : ℕ) → n ≤ d → pop_all n (stack g d) ≡ some (record { all = rows g n (d - n); more = stack g (d - n) })
unfolding pop_all pop stack rows maybe.◌>>=◌
popped g zero d h = let e : d - 0 ≡ d = omega arith in rw e
popped g (suc n) zero h = absurd (omega arith)
popped g (suc n) (suc d) h =
    let e : suc d - suc n ≡ d - n = omega arith in
    let f : d - n + n ≡ d = omega arith in
    rw (e, popped g n d (omega arith), rows_last g n (d - n), f)

pub unpopped : {A : Type 0} (g : ℕ → A) (n d : ℕ) → d < n → pop_all n (stack g d) ≡ none
unfolding pop_all pop stack maybe.◌>>=◌
unpopped g zero d h = absurd (omega arith)
unpopped g (suc n) zero h = refl
unpopped g (suc n) (suc d) h = rw (unpopped g n d (omega arith))

module _ (g : ℕ → Value) (n d : ℕ) where
  pub pop-all : n ≤ d → pop_all! n (stack g d) ≡ ok (record { all = rows g n (d - n); more = stack g (d - n) })
  unfolding pop_all! take?
  pop-all h = rw (popped g n d h)

  -- no more operands than are popped: there is none below them
  pub pop-few : d ≤ n → {B : Type 0} (f : record { all : List Value; more : List Value } → record { top : Value; more : List Value } → Result B)
      → (pop_all! n (stack g d) >>= λ p. pop! p.more >>= f p) ≡ refused (Word 14)
  unfolding pop_all! take? ◌>>=◌
  pop-few h {B} f = go (ltb d n) refl
    where
      go : (u : Bool) → ltb d n ≡ u → (pop_all! n (stack g d) >>= λ p. pop! p.more >>= f p) ≡ refused (Word 14)
      go true q = rw (unpopped g n d (ltb-true d n q))
      go false q = let z : d - n ≡ 0 = omega arith in rw (pop-all (omega (arith, ltb-false d n q)), pop-none g (d - n) z)

-- Kinds, argument by argument; the first is operand k

module _ (F : List ℕ) (b : ℕ) (list : Arguments) (k : ℕ) where
  -- of the arguments from i on
  unfoldable pub kinds_from : ℕ → Result (Unit {0})
  kinds_from i =
      let n = length (types_of list) - i in kinds! (rows (λ j. get_or (types_of list) j 0) n i) (rows (operand_at F b) n (k + i))

  pub kinds-all : kinds_from 0 ≡ kinds! (types_of list) (rows (operand_at F b) (length (types_of list)) k)
  unfolding kinds_from
  kinds-all =
      let e : length (types_of list) - 0 ≡ length (types_of list) = omega arith in
      let f : k + 0 ≡ k = omega arith in
      rw (e, f, rows_take (types_of list) (length (types_of list)) (omega arith), take_all (length (types_of list)) (types_of list) (omega arith))

  pub kinds-none : (i : ℕ) → length (types_of list) ≤ i → kinds_from i ≡ ok tt
  unfolding kinds_from kinds! rows
  kinds-none i h = let e : length (types_of list) - i ≡ 0 = omega arith in rw e

  module _ (i : ℕ) (there : i < length (types_of list)) where
    kinds-next : kinds_from i ≡ (kind! (get_or (types_of list) i 0) (operand_at F b (k + i)) >>= λ _. kinds_from (i + 1))
    unfolding kinds_from kinds! rows
    kinds-next =
        let e : length (types_of list) - i ≡ suc (length (types_of list) - (i + 1)) = omega arith in
        let f : k + suc i ≡ suc (k + i) = omega arith in
        rw (e, add-one i, f)

    module _ (x y : ℕ) (reads : value_of x y ≡ operand_at F b (k + i)) where
      pub kinds-on : is_kind (get_or (types_of list) i 0) x y ≡ true → kinds_from i ≡ kinds_from (i + 1)
      unfolding ◌>>=◌
      kinds-on h = kinds-next ∙ rw (← reads, kind-is x y (get_or (types_of list) i 0) h)

      pub kinds-off : is_kind (get_or (types_of list) i 0) x y ≡ false → kinds_from i ≡ refused (Word 14)
      unfolding ◌>>=◌
      kinds-off h = kinds-next ∙ rw (← reads, kind-not x y (get_or (types_of list) i 0) h)
