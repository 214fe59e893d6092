-- What is the first of the chains that the search is for is the reason, and where there are none, there is no reason.
use Rattle.std.proofs.Math.Path.{◌≡◌, refl, ap}
use Rattle.std.proofs.Common.{sym, inl, inr, arith}
use Rattle.std.specs.Prelude.{Bool, ℕ, suc, ◌≤◌}
use Rattle.std.proofs.Math.Option.{Option, none, some}
use mathlib.Core.List.{List, ◌∷◌, map, Memᴰ}
use Rattle.std.proofs.Math.ListN.{length}
use Rattle.std.proofs.lemmas.List.{length-map}
use Rattle.definition.specs.Requests.{Request}
use Rattle.definition.specs.Classes.{Entry}
use Rattle.definition.specs.Reasons.{Link, Upward, Distinct, shortest, reason_over}
use Rattle.laws.specs.Earlier.{Order, neither-before}
use Rattle.laws.specs.Clashes.{ClashingOver, First, shortest-first, shortest-none}
use Rattle.laws.specs.Chosen.{distinct-length, up_more, least-distinct, up_ends}

-- rows that lead upward through requests none of which stands twice are no more than the links
distinct-rows : (L : List Link) (a : Request) (qs : List Request) (ns : List ℕ) (b : Request) → Upward L a qs ns b → Distinct (a ∷ qs) → length ns ≤ length L
distinct-rows L a qs ns b u d =
    let r = up_ends L a qs ns b u in
    omega (arith, r.0, distinct-length qs (map (λ (l : Link). l.edge.to) L) d.1 r.1, length-map L (λ (l : Link). l.edge.to))

module _ {before : ℕ → ℕ → Bool} (order : Order before) (sup : ℕ → Option ℕ) (cache : List Entry) (T L : List Link) where
  -- every link of T is one of L, so that the first chain has no more rows than there are links
  module _ (within : (l : Link) → Memᴰ l T → Memᴰ l L) where
    first-length : (ns : List ℕ) → First order sup cache T L 0 ns → length ns ≤ length L
    first-length ns f = go f.clashes
      where
        go : ClashingOver sup cache T L ns → length ns ≤ length L
        go (inl l) =
            let k = l.led in
            distinct-rows L l.first k.through ns k.last (up_more T L l.first k.through ns k.last within k.upward)
            (least-distinct T l.first k.through ns k.last k.upward (λ ps ms u.
            f.least ms (inl (record { first = l.first; low = l.low; means = l.means; led = record { through = ps; last = k.last; high = k.high; upward = u; means = k.means; is_bad = k.is_bad } })) (omega arith)))
        go (inr l) =
            let k = l.led in
            distinct-rows L l.first k.through ns k.last k.upward
            (least-distinct L l.first k.through ns k.last k.upward (λ ps ms u.
            f.least ms (inr (record { first = l.first; low = l.low; means = l.means; led = record { through = ps; last = k.last; high = k.high; upward = u; means = k.means; is_bad = k.is_bad } })) (omega arith)))

    pub first-reason : (ns : List ℕ) → First order sup cache T L 0 ns → reason_over before sup cache T L ≡ some ns
    unfolding reason_over
    first-reason ns f = go (shortest before sup cache T L (suc (length L)) 0) refl
      where
        go : (o : Option (List ℕ)) → shortest before sup cache T L (suc (length L)) 0 ≡ o → o ≡ some ns
        go none e = absurd (omega (arith, shortest-none order sup cache T L (suc (length L)) 0 e ns f.clashes (omega arith), first-length ns f))
        go (some ms) e =
            let g = shortest-first order sup cache T L (suc (length L)) 0 ms e in
            let l : length ms ≡ length ns = omega (arith, g.least ns f.clashes (omega arith), f.least ms g.clashes (omega arith)) in
            ap (λ (x : List ℕ). some x) (neither-before order ms ns (f.not_later ms g.clashes l) (g.not_later ns f.clashes (sym l)))

  pub none-reason : ((ns : List ℕ) → ClashingOver sup cache T L ns → ⊥) → reason_over before sup cache T L ≡ none
  unfolding reason_over
  none-reason h = go (shortest before sup cache T L (suc (length L)) 0) refl
    where
      go : (o : Option (List ℕ)) → shortest before sup cache T L (suc (length L)) 0 ≡ o → ◌≡◌ {A = Option (List ℕ)} o none
      go none e = refl
      go (some ms) e = absurd (h ms (shortest-first order sup cache T L (suc (length L)) 0 ms e).clashes)
