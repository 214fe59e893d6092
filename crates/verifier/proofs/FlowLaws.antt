-- A map's types, one after another.
use mathlib.Core.Path.{◌≡◌, refl, sym, ap, ◌∙◌}
use mathlib.Core.Bool.{Bool, true, false, ◌&&◌}
use mathlib.Core.Logic.{◌≢◌, ⊎_elim}
use mathlib.Core.Option.{Option, none, some}
use mathlib.Core.List.{List, [], ◌∷◌, map, reverse, reverse-append, reverse-reverse}
use Prim.Native.Nat.{ℕ, zero, suc, ◌+◌, ◌-◌, ◌≤◌, ◌<◌}
use native.Mathlib.Omega.{arith}
use lib.ListN.{length, set}
use lib.Seq.{get_or-set_same, get_or-set_other}
use Rattle.classfile.specs.Lists.{le-or-lt}
use Rattle.definition.specs.Lists.{rows, stack}
use Rattle.definition.specs.Verifier.{VerifierType, Note, type_of_name, meet_local, meets}
use Rattle.definition.specs.Instructions.{pick}
use Rattle.definition.specs.Classes.{Map}
use borrow.Author.Tests.{eq-eqb, ne_eqb, leb-true}
use Rattle.layout.specs.Places.{rows_last, rows-cong, rows-length, rows-map, stack-length}
use Rattle.classfile.specs.Reading.{map_depth, type_at, map_of}
use Rattle.verifier.specs.Types.{type_of, local_at, operand_at, locals_of, types_of}
use Rattle.rows.specs.Posting.{Noted, post_notes}
use Rattle.verifier.specs.Trace.{Trace, refusing, accepting, after, followed, meet_each, meet_from, fits, meet_trace, Verification, verification, posting}
use Rattle.verifier.specs.declared.types.Types.{Types}
use Rattle.verifier.specs.declared.flows.Part.TheVariants.{Locals, Operands}
use Rattle.verifier.specs.Answers.{meet_at}
use Rattle.verifier.proofs.PostingLaws.{posting-after}

-- the operand at place i is set, where those below it are known
pub operand-set : (o : List ℕ) (i a t : ℕ) (f : ℕ → VerifierType) → a ≡ i → i < length o → type_of t ≡ f i → ((j : ℕ) → j < i → operand_at o j ≡ f j)
    → (j : ℕ) → j < i + 1 → operand_at (set o a t) j ≡ f j
unfolding operand_at
operand-set o i a t f q l e h j m = rw q (⊎_elim here below (le-or-lt i j))
  where
    here : i ≤ j → operand_at (set o i t) j ≡ f j
    here k = let s : j ≡ i = omega arith in rw (s, get_or-set_same o i t 0 l) e

    below : j < i → operand_at (set o i t) j ≡ f j
    below k = rw (get_or-set_other o i j t 0 (λ z. omega arith)) (h j k)

-- a stack is read from the lowest as rows are
stack_rows : {A : Type 0} (g : ℕ → A) (k : ℕ) → stack g k ≡ reverse (rows g k 0)
unfolding stack rows
stack_rows g zero = refl
stack_rows g (suc k) =
    let z : 0 + k ≡ k = omega arith in
    sym (rw (rows_last g k 0, reverse-append (rows g k 0) (g (0 + k) ∷ []), z) (ap (λ xs. g k ∷ xs) (sym (stack_rows g k))))

-- the operands of a map
pub operands-mapped : (o ms : List ℕ) (p : ℕ) → ((j : ℕ) → j < map_depth ms p → operand_at o j ≡ type_of_name (type_at ms (p + 19) j))
    → stack (operand_at o) (map_depth ms p) ≡ reverse (map type_of_name (map_of ms p).operands)
unfolding map_of
operands-mapped o ms p h =
    let k : ℕ = map_depth ms p in
    stack_rows (operand_at o) k
    ∙ ap reverse
    (rows-cong (operand_at o) (λ j. type_of_name (type_at ms (p + 19) j)) k 0 (λ m a b. h m (omega arith))
    ∙ sym (rows-map type_of_name (type_at ms (p + 19)) k 0))

-- Demands, one after another

module _ (f : ℕ → Option (List Note)) (n i : ℕ) where
  pub places-end : n ≤ i → meet_from f (n - i) i ≡ accepting
  unfolding meet_from
  places-end h = let z : n - i ≡ 0 = omega arith in rw z refl

  module _ (h : i < n) where
    one : n - i ≡ suc (n - (i + 1))
    one = omega arith

    pub places-unmet : f i ≡ none → meet_from f (n - i) i ≡ refusing
    unfolding meet_from
    places-unmet e = rw (one, meet_from, e) refl

    pub places-met : (a : List Note) → f i ≡ some a → meet_from f (n - i) i ≡ after a (meet_from f (n - (i + 1)) (i + 1))
    unfolding meet_from
    places-met a e = let s : i + 1 ≡ suc i = omega arith in rw (one, meet_from, e, s) refl

-- and their notes posted

pub meet-start : (l : ℕ) (f : ℕ → Option (List Note)) (n : ℕ) (k : Noted) → posting l (meet_from f (n - 0) 0) k ≡ posting l (meet_from f n 0) k
meet-start l f n k = let z : n - 0 ≡ n = omega arith in rw z refl

module _ (l : ℕ) (f : ℕ → Option (List Note)) (n i : ℕ) (k : Noted) where
  abbrev posted : Trace → Verification
  posted w = posting l w k

  pub meet-end : n ≤ i → posting l (meet_from f (n - i) i) k ≡ verification true k
  unfolding posting post_notes
  meet-end h = ap posted (places-end f n i h)

  module _ (h : i < n) where
    pub meet-unmet : f i ≡ none → posting l (meet_from f (n - i) i) k ≡ verification false k
    unfolding posting post_notes
    meet-unmet e = ap posted (places-unmet f n i h e)

    pub meet-met : (a : List Note) → f i ≡ some a → posting l (meet_from f (n - i) i) k ≡ posting l (meet_from f (n - (i + 1)) (i + 1)) (post_notes l a k)
    meet-met a e = ap posted (places-met f n i h a e) ∙ posting-after l a (meet_from f (n - (i + 1)) (i + 1)) k

-- places one after another are the lists' members one after another
pub from_each : {A : Type 0} (g : A → ℕ → Option (List Note)) (a : ℕ → A) (b : ℕ → ℕ) (k i : ℕ) → meet_from (λ (j : ℕ). g (a j) (b j)) k i ≡ meet_each g (rows a k i) (rows b k i)
unfolding meet_from meet_each rows
from_each g a b zero i = refl
from_each g a b (suc k) i = ap (λ (t : Trace). elim (g (a i) (b i)) as (λ _. Trace) [ none ↦ refusing | some x ↦ after x t ]) (from_each g a b k (suc i))

-- The types against a map

module _ (s : Types) (ms : List ℕ) (p : ℕ) where
  abbrev m : Map
  m = map_of ms p

  depth-there : length (types_of s).operands ≡ s.depth
  unfolding types_of
  depth-there = stack-length (operand_at s.operands) s.depth

  depth-wanted : length m.operands ≡ map_depth ms p
  unfolding map_of
  depth-wanted = rows-length (type_at ms (p + 19)) (map_depth ms p) 0

  pub fits-few : fits m ≡ true → map_depth ms p ≤ 16
  unfolding fits
  fits-few e = omega (arith, leb-true (length m.operands) 16 e, depth-wanted)

  pub map-unfit : fits m ≡ false → meet_trace (types_of s) m ≡ refusing
  unfolding meet_trace pick
  map-unfit e = rw e refl

  pub map_other : s.depth ≢ map_depth ms p → meet_trace (types_of s) m ≡ refusing
  unfolding meet_trace pick
  map_other h = rw (depth-there, depth-wanted, ne_eqb s.depth (map_depth ms p) h) (go (fits m))
    where
      go : (b : Bool) → pick (b && false) (followed (meet_each meet_local (types_of s).locals m.locals) (meet_each meets (reverse (types_of s).operands) m.operands)) refusing ≡ refusing
      go true = refl
      go false = refl

  module _ (e : fits m ≡ true) (h : s.depth ≡ map_depth ms p) where
    both : meet_trace (types_of s) m ≡ followed (meet_each meet_local (types_of s).locals m.locals) (meet_each meets (reverse (types_of s).operands) m.operands)
    unfolding meet_trace pick
    both = rw (e, depth-there, depth-wanted, eq-eqb s.depth (map_depth ms p) h) refl

    locals : meet_each meet_local (types_of s).locals m.locals ≡ meet_from (meet_at ms p s.locals Locals) 8 0
    unfolding types_of locals_of map_of meet_at
    locals = sym (from_each meet_local (local_at s.locals) (type_at ms (p + 2)) 8 0)

    operands : meet_each meets (reverse (types_of s).operands) m.operands ≡ meet_from (meet_at ms p s.operands Operands) (map_depth ms p) 0
    unfolding types_of map_of meet_at
    operands =
        ap (λ (o : List VerifierType). meet_each meets o m.operands)
        (ap reverse (stack_rows (operand_at s.operands) s.depth) ∙ reverse-reverse (rows (operand_at s.operands) s.depth 0) ∙ ap (λ (d : ℕ). rows (operand_at s.operands) d 0) h)
        ∙ sym (from_each meets (operand_at s.operands) (type_at ms (p + 19)) (map_depth ms p) 0)

    pub map-parts : (d : ℕ) → d ≡ map_depth ms p → meet_trace (types_of s) m ≡ followed (meet_from (meet_at ms p s.locals Locals) 8 0) (meet_from (meet_at ms p s.operands Operands) d 0)
    map-parts d w = rw w (both ∙ (λ i. followed (locals i) (operands i)))
