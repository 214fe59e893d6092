-- What the two searches leave is why the store of the tables doesn't agree, and so is what is listed of it.
use mathlib.Core.Path.{◌≡◌, sym, ap, ◌∙◌}
use mathlib.Core.Bool.{true, false}
use mathlib.Core.Option.{Option, none}
use mathlib.Core.List.{List, ◌++◌}
use Prim.Native.Nat.{min, ℕ, ◌+◌, ◌≤◌}
use native.Mathlib.Omega.{arith}
use lib.ListN.{get_or, set}
use Rattle.definition.specs.Numbers.{cache_limit, tie_limit, subtype_limit, count_cache, count_ties, count_subtypes, tie_numbers_cell, subtype_numbers_cell}
use Rattle.definition.specs.Lists.{rows, write_rows}
use Rattle.definition.specs.declared.Reply.{Reply}
use Rattle.definition.specs.Tables.{entry_at, tie_at, subtype_at, number_at}
use Rattle.definition.specs.Reasons.{tie_links, subtype_links, reason_over, tries, listed}
use Rattle.laws.specs.Earlier.{row_before}
use Rattle.layout.specs.Places.{rows-length}
use Rattle.rows.specs.Numbers.{numbers_fit}
use Rattle.constraints.specs.Agreement.{super_in}
use Rattle.constraints.specs.Nodes.{AllNumbered, NodesOf, ClassesOf}
use Rattle.std.specs.Prelude as P
use Rattle.constraints.specs.Choosing.{held, BestOf}
use Rattle.constraints.specs.Linking.{Linked, Labelled, reason_in}
use Rattle.constraints.proofs.Bridges.{best-reason}

-- a count that is held to a limit is no more than it was
pub at-most-low : (limit n : ℕ) → min n limit ≤ n
at-most-low limit n = omega arith

-- the reason of so many rows
abbrev reason_for : List ℕ → List ℕ → List ℕ → List ℕ → List ℕ → ℕ → ℕ → ℕ → Option (List ℕ)
reason_for supers counts cache ties subtypes n tied noted =
    let T = tie_links (rows (tie_at ties) tied 0) (rows (number_at tie_numbers_cell counts) tied 0) in
    reason_over row_before (super_in supers) (rows (entry_at cache) n 0) T (T ++ subtype_links (rows (subtype_at subtypes) noted 0) (rows (number_at subtype_numbers_cell counts) noted 0))

-- where the numbers fit, the reason is that of the first rows
reason-fits : (supers counts cache ties subtypes : List ℕ) → numbers_fit counts ≡ true
    → reason_in supers counts cache ties subtypes
    ≡ reason_for supers counts cache ties subtypes (min (get_or counts count_cache 0) cache_limit) (min (get_or counts count_ties 0) tie_limit) (min (get_or counts count_subtypes 0) subtype_limit)
unfolding reason_in
reason-fits supers counts cache ties subtypes h = rw (h, reason_in)

module _ {cache ties subtypes numbers : List ℕ} {n tied noted : ℕ} (put : AllNumbered cache n ties tied subtypes noted numbers) (nodes classes : List ℕ)
    (is_node : NodesOf numbers (n + noted + noted + tied + tied) nodes) (is_class : ClassesOf cache nodes n classes) (counts froms tos labels : List ℕ)
    (linked : Linked nodes n noted tied froms tos) (labelled : Labelled counts noted tied labels) where
  -- the searches by ties, from none on, and then by all links, leave the reason
  pub held-reason : (supers : List ℕ) → n ≡ min (get_or counts count_cache 0) cache_limit → tied ≡ min (get_or counts count_ties 0) tie_limit
      → noted ≡ min (get_or counts count_subtypes 0) subtype_limit → numbers_fit counts ≡ true → (new : Option (List ℕ))
      → BestOf froms tos labels (tied + tied) (tied + tied + noted) classes n (super_in supers) new
      → new ≡ reason_in supers counts cache ties subtypes
  held-reason supers a b c fit new best =
      best-reason put nodes classes is_node is_class counts froms tos labels linked labelled (super_in supers) new best
      ∙ ((λ i. reason_for supers counts cache ties subtypes (a i) (b i) (c i)) ∙ sym (reason-fits supers counts cache ties subtypes fit))

-- What is listed

-- where the numbers don't fit, there is no reason
reason-unfit : (supers counts cache ties subtypes : List ℕ) → numbers_fit counts ≡ false → reason_in supers counts cache ties subtypes ≡ none
unfolding reason_in
reason-unfit supers counts cache ties subtypes h = rw (h, reason_in)

-- then nothing is listed
pub list-unfit : (supers counts cache ties subtypes list : List ℕ) → numbers_fit counts ≡ false → (a : Reply) → tries a 0 list ≡ listed a (reason_in supers counts cache ties subtypes) list
unfolding listed
list-unfit supers counts cache ties subtypes list h a = ap (λ (x : Option (List ℕ)). listed a x list) (sym (reason-unfit supers counts cache ties subtypes h))

-- nor where no chain is kept
pub list-none : (list : List ℕ) (o : Option (List ℕ)) → none ≡ o → (a : Reply) → tries a 0 list ≡ listed a o list
unfolding listed
list-none list o h a = ap (λ (x : Option (List ℕ)). listed a x list) h

-- one is listed as it was written
pub list-some : (best list new : List ℕ) (size wide : ℕ) (o : Option (List ℕ)) → held best (P.Some size) ≡ o → wide ≡ size
    → new ≡ write_rows set (rows (λ i. get_or best i 0) wide 0) 0 list → (a : Reply) → tries a size new ≡ listed a o list
unfolding listed
list-some best list new size wide o e w q a =
    let count : size ≡ _ = sym (rows-length (λ i. get_or best i 0) size 0) in
    let cells : new ≡ write_rows set (rows (λ i. get_or best i 0) size 0) 0 list = q ∙ ap (λ (x : ℕ). write_rows set (rows (λ i. get_or best i 0) x 0) 0 list) w in
    (λ i. tries a (count i) (cells i)) ∙ ap (λ (x : Option (List ℕ)). listed a x list) e
