-- Types that flow into a map: the definition says what the code's walk says. The walk rejects a map with more than 16 operands, and so this holds of a map that
-- has no more.
use mathlib.Core.Path.{◌≡◌, refl, sym, ap, ◌∙◌}
use mathlib.Core.Logic.{◌≢◌}
use mathlib.Core.Bool.{Bool, true, false}
use mathlib.Core.Option.{Option, none, some}
use mathlib.Core.List.{List, [], ◌∷◌, ◌++◌, reverse}
use Prim.Native.Nat.{ℕ, suc, ◌≤◌}
use lib.ListN.{length, length-reverse}
use lib.Dec.{eqb}
use borrow.Author.Tests.{le-leb, eqb-false}
use Rattle.definition.specs.Instructions.{pick}
use Rattle.definition.specs.Maybe.{◌>>=◌}
use Rattle.definition.specs.Classes.{Map}
use Rattle.definition.specs.Verifier.{Note, TypeState, meet_all, meet_map, meet_local, meets}
use Rattle.verifier.specs.Trace.{Trace, refusing, after, followed, meet_each, fits, meet_trace, granted, accepted_notes}

-- One walk after another

pub granted-after : (ns : List Note) (t : Trace) → accepted_notes (after ns t) ≡ (accepted_notes t >>= λ ms. some (ns ++ ms))
unfolding accepted_notes after granted ◌>>=◌
granted-after ns t = go t.accepts
  where
    go : (b : Bool) → granted b (ns ++ t.notes) ≡ (granted b t.notes >>= λ ms. some (ns ++ ms))
    go true = refl
    go false = refl

pub both_say : (w v : Trace) → accepted_notes (followed w v) ≡ (accepted_notes w >>= λ ns. accepted_notes v >>= λ rs. some (ns ++ rs))
unfolding followed accepted_notes granted pick ◌>>=◌
both_say w v = go w.accepts refl
  where
    go : (b : Bool) → w.accepts ≡ b → accepted_notes (followed w v) ≡ (accepted_notes w >>= λ ns. accepted_notes v >>= λ rs. some (ns ++ rs))
    go true e = rw e (granted-after w.notes v)
    go false e = rw e

-- The flow into a map

-- nothing comes of what ends in nothing
never : {A B : Type 0} (o : Option A) → ◌>>=◌ {B = B} o (λ _. none) ≡ none
unfolding ◌>>=◌
never none = refl
never (some a) = refl

module _ {A : Type 0} (f : A → ℕ → Option (List Note)) where
  pub each-says : (xs : List A) (ns : List ℕ) → accepted_notes (meet_each f xs ns) ≡ meet_all f xs ns
  unfolding meet_each meet_all accepted_notes granted ◌>>=◌
  each-says [] [] = refl
  each-says [] (n ∷ ns) = refl
  each-says (x ∷ xs) [] = refl
  each-says (x ∷ xs) (n ∷ ns) = rw (← (each-says xs ns)) (go (f x n))
    where
      go : (o : Option (List Note)) → accepted_notes (elim o [ none ↦ refusing | some a ↦ after a (meet_each f xs ns) ])
          ≡ (o >>= λ a. accepted_notes (meet_each f xs ns) >>= λ b. some (a ++ b))
      go none = refl
      go (some a) = granted-after a (meet_each f xs ns)

  -- nothing, where the numbers differ
  all-differ : (xs : List A) (ns : List ℕ) → length xs ≢ length ns → meet_all f xs ns ≡ none
  unfolding meet_all ◌>>=◌
  all-differ [] [] h = absurd (h refl)
  all-differ [] (n ∷ ns) h = refl
  all-differ (x ∷ xs) [] h = refl
  all-differ (x ∷ xs) (n ∷ ns) h = rw (all-differ xs ns (λ e. h (ap suc e))) (never (f x n))

module _ (s : TypeState) (m : Map) (few : length m.operands ≤ 16) where
  abbrev locals : Trace
  locals = meet_each meet_local s.locals m.locals

  abbrev operands : Trace
  operands = meet_each meets (reverse s.operands) m.operands

  pub map-says : accepted_notes (meet_trace s m) ≡ meet_map s m
  unfolding meet_trace meet_map fits pick accepted_notes granted ◌>>=◌
  map-says = rw (le-leb (length m.operands) 16 few) (go (eqb (length s.operands) (length m.operands)) refl)
    where
      go : (t : Bool) → eqb (length s.operands) (length m.operands) ≡ t → accepted_notes (pick t (followed locals operands) refusing) ≡ meet_map s m
      go true e =
          rw (← (each-says meet_local s.locals m.locals), ← (each-says meets (reverse s.operands) m.operands)) (both_say locals operands)
      go false e =
          let d : length (reverse s.operands) ≢ length m.operands = λ z. eqb-false _ _ e (sym (length-reverse s.operands) ∙ z) in
          rw (all-differ meets (reverse s.operands) m.operands d) (sym (never (meet_all meet_local s.locals m.locals)))
