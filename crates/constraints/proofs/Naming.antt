-- What is found of places, told as requests, is what the check names: places of the cache break agreement exactly if their requests do, and a request in a pair
-- that breaks it has a place.
use mathlib.Core.Path.{◌≡◌, refl, sym, ap, ◌∙◌}
use mathlib.Core.Bool.{Bool, true, false, not, false≢true}
use mathlib.Core.Option.{Option, none, some, none-ne-some, some-injective}
use mathlib.Core.List.{List, ◌++◌}
use mathlib.Core.Logic.{◌⊎◌, inl, inr}
use Prim.Native.Nat.{min, ℕ, zero, suc, ◌+◌, ◌<◌, ◌≤◌}
use native.Mathlib.Omega.{arith}
use lib.ListN.{get_or}
use lib.Dec.{ltb, eqb}
use borrow.Author.Tests.{ltb-true}
use Rattle.definition.specs.Lists.{rows}
use Rattle.definition.specs.Chains.{Edge, has, reach}
use Rattle.definition.specs.Requests.{Request, at, same_request}
use Rattle.definition.specs.Superclasses.{below}
use Rattle.definition.specs.Classes.{Entry, find}
use Rattle.definition.specs.Constraints.{subtype_edges, pair_agrees, agrees_over}
use Rattle.definition.specs.declared.Check.{Check}
use Rattle.definition.specs.declared.Check.TheVariants.{Agreed, Breaking}
use Rattle.definition.specs.Checks.{breaks_over, agreed, breaking, OneOf, NamesOver}
use Rattle.definition.specs.Tables.{entry_at, tie_at, subtype_at}
use Rattle.laws.specs.Agreement.{find-row, agrees-alone}
use Rattle.constraints.specs.Shared.{ends_of, shared_all, shared_edges}
use Rattle.constraints.specs.Agreement.{entries_in, shared_in, led_in, new_of, new_in, told_of}
use Rattle.std.specs.Prelude as P
use Rattle.constraints.specs.Pairs.{Found, pair_on, agree_on, Fresh, Finding, agree, apart}
use Rattle.constraints.proofs.Rows.{rows_in}
use Rattle.constraints.proofs.Pairing.{pair-unfit}

-- the requests of a pair that is named

abbrev from_of : Check → Request
from_of Agreed = at 0 0
from_of (Breaking l m k n) = at l m

abbrev to_of : Check → Request
to_of Agreed = at 0 0
to_of (Breaking l m k n) = at k n

none_named : (a b : Request) → Agreed ≡ breaking a b → ⊥
unfolding agreed
none_named a b e = false≢true (sym (ap agreed e))

module _ (sup : ℕ → Option ℕ) (cache : List ℕ) (n : ℕ) (ts es : List (Edge Request)) where
  abbrev the_cache : List Entry
  the_cache = rows (entry_at cache) n 0

  abbrev request : ℕ → Request
  request i = (entry_at cache i).request

  abbrev Placed : Request → Type 0
  Placed a = (i : ℕ) × (i < n) × (request i ≡ a)

  abbrev breaks : Request → Request → Bool
  breaks = breaks_over sup the_cache ts es

  found-placed : (a : Request) (c : ℕ) → find the_cache a ≡ some c → Placed a
  found-placed a c h =
      let r = find-row the_cache a c h in
      let p = rows_in (entry_at cache) n 0 r.0 r.1 in
      (p.number, omega (arith, p.high), ap (λ (e : Entry). e.request) (sym p.is) ∙ r.2)

  -- both requests of a pair that breaks agreement have a place
  broken-placed : (a b : Request) → breaks a b ≡ true → Placed a × Placed b
  unfolding breaks_over pair_agrees
  broken-placed a b h = one (find the_cache a) refl h
    where
      two : (c : ℕ) (o : Option ℕ) → find the_cache b ≡ o
          → not (elim o as (λ _. Bool) [ none ↦ true | some d ↦ elim (has same_request b (reach same_request ts a)) as (λ _. Bool) [ true ↦ eqb c d | false ↦ elim (has same_request b (reach same_request es a)) as (λ _. Bool) [ true ↦ below sup c d | false ↦ true ] ] ]) ≡ true
          → Placed b
      two c none e q = absurd (false≢true q)
      two c (some d) e q = found-placed b d e

      one : (o : Option ℕ) → find the_cache a ≡ o
          → (elim o as (λ _. Bool) [ none ↦ false | some c ↦ not (pair_agrees sup the_cache c (reach same_request ts a) (reach same_request es a) b) ]) ≡ true
          → Placed a × Placed b
      one none e q = absurd (false≢true q)
      one (some c) e q = (found-placed a c e, two c (find the_cache b) refl q)

  module _ (groups classes : List ℕ) (noted : ℕ) (whole : agrees_over sup the_cache ts es ≡ agree_on sup groups classes n noted)
      (same : (a b : ℕ) → a < n → b < n → breaks (request a) (request b) ≡ not (pair_on sup groups classes n noted a b)) where
    -- a newcomer that is in no pair of places that breaks agreement is in none of requests
    fresh-requests : (new : ℕ) → new < n → Fresh sup groups classes n noted new → (a b : Request) → breaks a b ≡ true → OneOf (request new) a b → ⊥
    fresh-requests new h f a b q (inl e) =
        let p = (broken-placed a b q).1 in
        false≢true (sym (ap not (f p.0 p.1).0) ∙ sym (same new p.0 h p.1) ∙ rw (p.2, sym e) q)
    fresh-requests new h f a b q (inr e) =
        let p = (broken-placed a b q).0 in
        false≢true (sym (ap not (f p.0 p.1).1) ∙ sym (same p.0 new p.1 h) ∙ rw (p.2, sym e) q)

    pub names : (new : ℕ) {r : Found} → Finding sup groups classes n noted new r
        → NamesOver sup the_cache ts es (new_of cache n new) (told_of cache r)
    unfolding told_of agreed new_of
    names new (agree h) = record {
      exactly = sym (whole ∙ h);
      breaks = λ a b e. absurd (none_named a b e);
      new_first = λ a b e. absurd (none_named a b e);
    }
    names new (apart a b f g h side) = record {
      exactly = sym (whole ∙ pair-unfit sup groups classes n noted a b f g h);
      breaks = λ p q e. rw (sym (ap from_of e), sym (ap to_of e)) (same a b f g ∙ ap not h);
      new_first = λ p q e x is c d k o. rw (sym (ap from_of e), sym (ap to_of e)) (go side x (ltb new n) refl is c d k o);
    }
      where
        go : ((a ≡ new) ⊎ (b ≡ new)) ⊎ (new < n → Fresh sup groups classes n noted new) → (x : Request) (t : Bool) → ltb new n ≡ t
            → (elim t as (λ _. Option Request) [ true ↦ some (request new) | false ↦ none ]) ≡ some x → (c d : Request) → breaks c d ≡ true → OneOf x c d
            → OneOf x (request a) (request b)
        go side x false l is c d k o = absurd (none-ne-some x is)
        go (inl (inl e)) x true l is c d k o = inl (ap (λ (i : ℕ). request i) e ∙ some-injective (request new) x is)
        go (inl (inr e)) x true l is c d k o = inr (ap (λ (i : ℕ). request i) e ∙ some-injective (request new) x is)
        go (inr f) x true l is c d k o =
            let h = ltb-true new n l in
            absurd (fresh-requests new h (f h) c d k (rw (some-injective (request new) x is) o))

-- the places of a pair
pub pair_fits : {sup : ℕ → Option ℕ} {groups classes : List ℕ} {n noted new : ℕ} {r : Found} (limit : ℕ) → n ≤ limit → Finding sup groups classes n noted new r
    → P.IfSome r (λ p. (p.from < limit) × (p.to < limit))
pair_fits limit l (agree h) = tt
pair_fits limit l (apart a b f g h side) = (omega arith, omega arith)

-- the same, where the counts are given by their values
pub names-counted : (sup : ℕ → Option ℕ) (cache ties beside subtypes : List ℕ) (n tied noted new entries tie_count subtype_count newcomer : ℕ) (r : Check) → n ≡ min entries 256
    → tied ≡ min tie_count 256 → noted ≡ min subtype_count 256 → new ≡ newcomer
    → NamesOver sup (rows (entry_at cache) n 0) (shared_edges (rows (tie_at ties) tied 0) (rows (λ i. get_or beside i 0) tied 0)) (shared_edges (rows (tie_at ties) tied 0) (rows (λ i. get_or beside i 0) tied 0) ++ subtype_edges (rows (subtype_at subtypes) noted 0))
    (new_of cache n new) r
    → NamesOver sup (entries_in cache entries) (shared_in ties beside tie_count) (led_in ties beside tie_count subtypes subtype_count) (new_in cache entries newcomer) r
names-counted sup cache ties beside subtypes n tied noted new entries tie_count subtype_count newcomer r p q s t h = rw (sym p, sym q, sym s, sym t) h

-- where there are no rows of constraints, none is named
pub names-alone : (sup : ℕ → Option ℕ) (cache ties beside subtypes : List ℕ) (n tied noted new : ℕ) → tied + noted ≡ 0
    → NamesOver sup (rows (entry_at cache) n 0) (shared_edges (rows (tie_at ties) tied 0) (rows (λ i. get_or beside i 0) tied 0)) (shared_edges (rows (tie_at ties) tied 0) (rows (λ i. get_or beside i 0) tied 0) ++ subtype_edges (rows (subtype_at subtypes) noted 0))
    (new_of cache n new) Agreed
unfolding rows shared_edges shared_all ends_of subtype_edges agreed
names-alone sup cache ties beside subtypes n zero zero new h = record {
  exactly = sym (agrees-alone sup (rows (entry_at cache) n 0));
  breaks = λ a b e. absurd (none_named a b e);
  new_first = λ a b e. absurd (none_named a b e);
}
names-alone sup cache ties beside subtypes n zero (suc noted) new h = absurd (omega arith)
names-alone sup cache ties beside subtypes n (suc tied) noted new h = absurd (omega arith)
