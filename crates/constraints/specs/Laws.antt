-- Laws for callers: agreement of tables as agreement of a store's rows.
use Rattle.std.specs.Prelude.{◌≡◌, refl, Bool, true, List, ◌++◌, ℕ, ◌≤◌, length, get_or, min}
use Rattle.std.proofs.Common.{arith, sym, subst, ◌∙◌, le-leb}
use Rattle.std.proofs.Math.Option.{Option, some}
use Rattle.std.proofs.Math.ListN.{get_elem?}
use Rattle.definition.specs.Lists.{rows, all}
use Rattle.definition.specs.Classes.{Entry, super_of}
use Rattle.definition.specs.Requests.{Request}
use Rattle.definition.specs.Chains.{Edge}
use Rattle.definition.specs.Constraints.{World, Tie, tie_edges, subtype_edges, edges}
use Rattle.definition.specs.declared.Check.{Check}
use Rattle.definition.specs.Checks.{NamesOver, Names}
use Rattle.definition.specs.Groups.{groups_of}
use Rattle.definition.specs.Broken.{tie_fits}
use Rattle.definition.specs.Tables.{entry_at, tie_at, subtype_at}
use Rattle.layout.specs.Places.{rows-length}
use Rattle.groups.specs.Lowest as lowest
use Rattle.groups.specs.Laws.{there-row}
use Rattle.constraints.specs.Shared.{shared_edges, SameChains, shared-tied, tied-shared, shared-led, led-shared, names-alike}
use Rattle.constraints.specs.Agreement.{super_in, entries_in, shared_in, led_in}

-- a count within the limit
pub within : (limit n : ℕ) → n ≤ limit → min n limit ≡ n
within limit n h = omega arith

-- the groups beside the first ties are the definition's, by numbers of which none stands twice
pub record Beside (ties groups : List ℕ) (tied : ℕ) : Type 0 where
  pub numbers : List ℕ
  pub long : length numbers ≡ length (rows (tie_at ties) tied 0)
  pub once : (i j n : ℕ) → get_elem? numbers i ≡ some n → get_elem? numbers j ≡ some n → i ≡ j
  pub are : rows (λ i. get_or groups i 0) tied 0 ≡ groups_of (rows (tie_at ties) tied 0) numbers

-- so are those made of ties that lie between loaders
pub beside-made : (ties old new : List ℕ) (n : ℕ) (r : Bool) → n ≤ 256 → n ≤ length old → all tie_fits (rows (tie_at ties) n 0) ≡ true
    → lowest.RowGroups ties (min n 256) old r new → Beside ties new n
beside-made ties old new n r few room fits made = record {
  numbers = rows (λ i. i) n 0;
  long = rows-length (λ i. i) n 0 ∙ sym (rows-length (tie_at ties) n 0);
  once = λ i j m p q. sym (there-row (λ x. x) n i m p).1 ∙ (there-row (λ x. x) n j m q).1;
  are = g.groups (g.fits ∙ rw (le-leb n (length old) room, fits) refl);
}
  where
    g : lowest.RowGroups ties n old r new
    g = subst (λ (k : ℕ). lowest.RowGroups ties k old r new) (within 256 n few) made

-- the check of tables is that of the store, where the counts are within their limits, the table of superclasses has the store's, and the groups beside the ties are right
pub names-store : (w : World) (supers cache ties groups subtypes : List ℕ) (n tied noted : ℕ) (new : Option Request) (r : Check)
    → ((c : ℕ) → super_in supers c ≡ super_of w.base c) → w.base.cache ≡ rows (entry_at cache) n 0 → w.ties ≡ rows (tie_at ties) tied 0
    → w.subtypes ≡ rows (subtype_at subtypes) noted 0 → n ≤ 256 → tied ≤ 256 → noted ≤ 256 → Beside ties groups tied
    → NamesOver (super_in supers) (entries_in cache n) (shared_in ties groups tied) (led_in ties groups tied subtypes noted) new r → Names w new r
unfolding edges
names-store w supers cache ties groups subtypes n tied noted new r s p q t h k l g m =
    subst (λ (es : List Entry). NamesOver (super_of w.base) es (tie_edges w.ties) (edges w) new r) (sym p)
    (rw (q, t) (subst (λ (f : ℕ → Option ℕ). NamesOver f (rows (entry_at cache) n 0) (tie_edges ts) (tie_edges ts ++ ss) new r) (λ i c. s c i)
    (names-alike (super_in supers) (rows (entry_at cache) n 0) (shared_edges ts gs) (shared_edges ts gs ++ ss) (tie_edges ts) (tie_edges ts ++ ss) tied-same led-same new r
    (subst (λ (xs : List ℕ). NamesOver (super_in supers) (rows (entry_at cache) n 0) (shared_edges ts xs) (shared_edges ts xs ++ ss) new r) g.are (rw (within 256 n h, within 256 tied k, within 256 noted l) at m)))))
  where
    ts : List Tie
    ts = rows (tie_at ties) tied 0

    gs : List ℕ
    gs = groups_of ts g.numbers

    ss : List (Edge Request)
    ss = subtype_edges (rows (subtype_at subtypes) noted 0)

    tied-same : SameChains (shared_edges ts gs) (tie_edges ts)
    tied-same a b = (shared-tied ts g.numbers g.long g.once, tied-shared ts g.numbers g.long g.once)

    led-same : SameChains (shared_edges ts gs ++ ss) (tie_edges ts ++ ss)
    led-same a b = (shared-led ts g.numbers g.long g.once ss, led-shared ts g.numbers g.long g.once ss)
