-- The offers of an order by its number's digits, and the calls of their loads.
use Rattle.std.specs.Prelude.{◌≡◌, refl, true, List, [], ◌∷◌, ℕ, zero, suc, ◌+◌, ◌*◌, ◌/◌, ◌%◌, ◌<◌, length}
use Rattle.std.proofs.Common.{ap, ◌∙◌, arith}
use Rattle.definition.specs.Lists.{is_some}
use Rattle.definition.specs.Calls.{load_call, Call, call_rows}
use Rattle.definition.specs.Offers.{offers_in}
use Rattle.definition.specs.Searching.{calls_of}
use Rattle.layout.specs.Tests.{All}
use Rattle.searching.specs.Offered.{load_at, offers_of, offered}
use Rattle.searching.specs.Ordering.{digits}

-- the first n digits to the base 8, the lowest first
unfoldable pub numbers_in : ℕ → ℕ → List ℕ
numbers_in zero c = []
numbers_in (suc n) c = (c % 8) ∷ numbers_in n (c / 8)

pub numbers-back : (is : List ℕ) → All (λ i. i < 8) is → numbers_in (length is) (digits is) ≡ is
unfolding numbers_in digits
numbers-back [] h = refl
numbers-back (i ∷ is) (l, h) =
    let a : (i + 8 * digits is) % 8 ≡ i = omega (arith, l) in
    let b : (i + 8 * digits is) / 8 ≡ digits is = omega (arith, l) in
    (λ j. a j ∷ numbers_in (length is) (b j)) ∙ ap (λ (js : List ℕ). i ∷ js) (numbers-back is h)

-- the calls of the loads of these rows
unfoldable pub loads_at : List ℕ → List ℕ → List ℕ → List Call
loads_at cells files [] = []
loads_at cells files (i ∷ is) = call_rows (load_call (load_at cells files i)) ∷ loads_at cells files is

-- of offers, their calls
pub loads-calls : (cells files : List ℕ) → is_some (offers_in cells files) ≡ true → (is : List ℕ) → All (λ i. i < length cells / 4) is → loads_at cells files is ≡ calls_of (offers_of cells files) is
unfolding loads_at calls_of
loads-calls cells files reads [] h = refl
loads-calls cells files reads (i ∷ is) (l, h) = rw (offered cells files reads i l, calls_of) (ap (λ (cs : List Call). call_rows (load_call (load_at cells files i)) ∷ cs) (loads-calls cells files reads is h))
