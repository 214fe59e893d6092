-- What the search for a reason finds: of n rows, the first list that leads from a loaded request to one whose class is bad for it. A list that leads there is
-- found, or one that it isn't before.
use Rattle.std.proofs.Math.Path.{◌≡◌, refl, ap}
use Rattle.std.proofs.Common.{sym, ◌∙◌, eqb-true}
use Rattle.std.specs.Prelude.{Bool, not, ◌⊎◌, eqb}
use Rattle.std.proofs.Math.Bool.{true, false}
use Rattle.std.proofs.Math.Option.{Option, none, some, none-ne-some, some-injective}
use mathlib.Core.List.{List, [], ◌∷◌, Memᴰ}
use Rattle.std.proofs.Math.Logic.{inl, inr}
use Prim.Native.Nat.{ℕ, zero, suc, ◌+◌, ◌≤◌}
use native.Mathlib.Omega.{arith}
use Rattle.std.proofs.Math.ListN.{length}
use Rattle.std.proofs.lemmas.Bool.{eqb-false}
use Rattle.definition.specs.Maybe.{◌>>=◌}
use Rattle.definition.specs.Requests.{Request, same_request}
use Rattle.definition.specs.Classes.{Entry, find, super_of}
use Rattle.definition.specs.Constraints.{World}
use Rattle.definition.specs.Superclasses.{below}
use Rattle.definition.specs.Tables.{RowNumbers}
use Rattle.definition.specs.Reasons.{Link, link, Upward, ties_only, links, ended, along, best, best_from, first_of, of_length, shortest}
use Rattle.laws.specs.Options.{bind-some, some-bind}
use Rattle.laws.specs.Chains.{requests}
use Rattle.laws.specs.Agreement.{find-row}
use Rattle.laws.specs.Earlier.{Order, NotBefore, Has, same_head, has_on, earlier-from, earlier-one, earlier-two, first-from, first-has, not_itself}

-- the rows ns lead upward from q to a loaded request whose class is bad for c
pub record Led (cache : List Entry) (L : List Link) (bad : ℕ → ℕ → Bool) (c : ℕ) (q : Request) (ns : List ℕ) : Type 0 where
  pub through : List Request
  pub last : Request
  pub high : ℕ
  pub upward : Upward L q through ns last
  pub means : find cache last ≡ some high
  pub is_bad : bad c high ≡ true

-- from a loaded request
pub record Leads (cache : List Entry) (L : List Link) (bad : ℕ → ℕ → Bool) (ns : List ℕ) : Type 0 where
  pub first : Request
  pub low : ℕ
  pub means : find cache first ≡ some low
  pub led : Led cache L bad low first ns

module _ {before : ℕ → ℕ → Bool} (order : Order before) (cache : List Entry) (L : List Link) (bad : ℕ → ℕ → Bool) where
  pub best-led : (n c : ℕ) (q : Request) (ns : List ℕ) → best before cache L bad n c q ≡ some ns → Led cache L bad c q ns × (length ns ≡ n)
  unfolding best ended along
  best-led zero c q ns h = let r = bind-some (find cache q) (λ d. elim (bad c d) as (λ _. Option (List ℕ)) [ true ↦ some [] | false ↦ none ]) h in go r.0 r.1 (bad c r.0) refl r.2
    where
      go : (d : ℕ) → find cache q ≡ some d → (t : Bool) → bad c d ≡ t → (elim t as (λ _. Option (List ℕ)) [ true ↦ some [] | false ↦ none ]) ≡ some ns → Led cache L bad c q ns × (length ns ≡ 0)
      go d p true e k = rw (sym (some-injective [] ns k)) (record { through = []; last = q; high = d; upward = refl; means = p; is_bad = e }, refl)
      go d p false e k = absurd (none-ne-some ns k)
  best-led (suc n) c q ns h = let r = first-from order (along before cache L bad (best before cache L bad n c) q) L ns h in go r.0 r.1 (same_request r.0.edge.from q) refl r.2 (best-led n c)
    where
      go : (l : Link) → Memᴰ l L → (t : Bool) → same_request l.edge.from q ≡ t
          → (elim t as (λ _. Option (List ℕ)) [ true ↦ best before cache L bad n c l.edge.to >>= (λ ms. some (l.row ∷ ms)) | false ↦ none ]) ≡ some ns
          → ((p : Request) (ms : List ℕ) → best before cache L bad n c p ≡ some ms → Led cache L bad c p ms × (length ms ≡ n)) → Led cache L bad c q ns × (length ns ≡ suc n)
      go l m true e k f =
          let b = bind-some (best before cache L bad n c l.edge.to) (λ ms. some (l.row ∷ ms)) k in
          let g = f l.edge.to b.0 b.1 in
          rw (sym (some-injective (l.row ∷ b.0) ns b.2)) (
            record { through = l.edge.to ∷ g.0.through; last = g.0.last; high = g.0.high; upward = (rw (requests.same-eq l.edge.from q e) at m, g.0.upward); means = g.0.means; is_bad = g.0.is_bad },
            ap suc g.1,
          )
      go l m false e k f = absurd (none-ne-some ns k)

  up-best : (c : ℕ) (q : Request) (qs : List Request) (ns : List ℕ) (b : Request) (d : ℕ) → Upward L q qs ns b → find cache b ≡ some d → bad c d ≡ true → Has order (best before cache L bad (length ns) c q) ns
  unfolding best ended along ◌>>=◌
  up-best c q [] [] b d u p h = ([], rw (u, p, ◌>>=◌) (rw h refl), not_itself order [])
  up-best c q [] (n ∷ ns) b d u p h = absurd u
  up-best c q (x ∷ qs) [] b d u p h = absurd u
  up-best c q (x ∷ qs) (n ∷ ns) b d u p h =
      let r = up-best c x qs ns b d u.1 p h in
      has_on order (best before cache L bad (suc (length ns)) c q) (n ∷ ns) (n ∷ r.0) (same_head order n ns r.0 r.2)
      (first-has order (along before cache L bad (best before cache L bad (length ns) c) q) L (link n q x) (n ∷ r.0) u.0
      (rw (requests.same_refl q, along) (some-bind (best before cache L bad (length ns) c x) (λ ms. some (n ∷ ms)) r.1 refl)))

  pub leads-from : (n : ℕ) (ns : List ℕ) → first_of before (best_from before cache L bad n) cache ≡ some ns → Leads cache L bad ns × (length ns ≡ n)
  unfolding best_from
  leads-from n ns h =
      let r = first-from order (best_from before cache L bad n) cache ns h in
      let b = bind-some (find cache r.0.request) (λ c. best before cache L bad n c r.0.request) r.2 in
      let g = best-led n b.0 r.0.request ns b.2 in
      (record { first = r.0.request; low = b.0; means = b.1; led = g.0 }, g.1)

  pub leads-has : (ns : List ℕ) → Leads cache L bad ns → Has order (first_of before (best_from before cache L bad (length ns)) cache) ns
  unfolding best_from
  leads-has ns l =
      let k = l.led in
      let r = up-best l.low l.first k.through ns k.last k.high k.upward k.means k.is_bad in
      let e = find-row cache l.first l.low l.means in
      has_on order (first_of before (best_from before cache L bad (length ns)) cache) ns r.0 r.2
      (first-has order (best_from before cache L bad (length ns)) cache e.0 r.0 e.1
      (rw e.2 (some-bind (find cache l.first) (λ c. best before cache L bad (length ns) c l.first) l.means r.1)))

-- Both kinds together: ties alone between different classes, or all links to a class that the first isn't or isn't below

abbrev pub other : ℕ → ℕ → Bool
other c d = not (eqb c d)

abbrev pub not_below : (ℕ → Option ℕ) → ℕ → ℕ → Bool
not_below sup c d = not (below sup c d)

abbrev pub ClashingOver : (ℕ → Option ℕ) → List Entry → List Link → List Link → List ℕ → Type 0
ClashingOver sup cache T L ns = Leads cache T other ns ⊎ Leads cache L (not_below sup) ns

abbrev pub Clashing : World → RowNumbers → List ℕ → Type 0
Clashing w m ns = ClashingOver (super_of w.base) w.base.cache (ties_only w m) (links w m) ns

module _ {before : ℕ → ℕ → Bool} (order : Order before) (sup : ℕ → Option ℕ) (cache : List Entry) (T L : List Link) where
  pub length_from : (n : ℕ) (ns : List ℕ) → of_length before sup cache T L n ≡ some ns → ClashingOver sup cache T L ns × (length ns ≡ n)
  unfolding of_length
  length_from n ns h = elim (earlier-from order _ _ ns h) [
    | inl e ↦ (let r = leads-from order cache T other n ns e in (inl r.0, r.1))
    | inr e ↦ (let r = leads-from order cache L (not_below sup) n ns e in (inr r.0, r.1))
  ]

  pub length_has : (ns : List ℕ) → ClashingOver sup cache T L ns → Has order (of_length before sup cache T L (length ns)) ns
  unfolding of_length
  length_has ns (inl l) = let r = leads-has order cache T other ns l in has_on order (of_length before sup cache T L (length ns)) ns r.0 r.2 (earlier-one order _ _ r.0 r.1)
  length_has ns (inr l) = let r = leads-has order cache L (not_below sup) ns l in has_on order (of_length before sup cache T L (length ns)) ns r.0 r.2 (earlier-two order _ _ r.0 r.1)

  -- The shortest: none that clashes is shorter, and none as long is before it

  pub record First (n : ℕ) (ns : List ℕ) : Type 0 where
    pub clashes : ClashingOver sup cache T L ns
    pub least : (ms : List ℕ) → ClashingOver sup cache T L ms → n ≤ length ms → length ns ≤ length ms
    pub not_later : (ms : List ℕ) → ClashingOver sup cache T L ms → length ms ≡ length ns → NotBefore order ms ns

  -- where no list of n rows is found, one that clashes is longer
  longer : (n : ℕ) → of_length before sup cache T L n ≡ none → (ms : List ℕ) → ClashingOver sup cache T L ms → n ≤ length ms → suc n ≤ length ms
  longer n e ms c l = go (eqb n (length ms)) refl (length_has ms c)
    where
      go : (t : Bool) → eqb n (length ms) ≡ t → Has order (of_length before sup cache T L (length ms)) ms → suc n ≤ length ms
      go true q r = absurd (none-ne-some r.0 (sym e ∙ (ap (of_length before sup cache T L) (eqb-true n (length ms) q) ∙ r.1)))
      go false q r = omega (arith, eqb-false n (length ms) q)

  pub shortest-first : (k n : ℕ) (ns : List ℕ) → shortest before sup cache T L k n ≡ some ns → First n ns
  unfolding shortest
  shortest-first zero n ns h = absurd (none-ne-some ns h)
  shortest-first (suc k) n ns h = go (of_length before sup cache T L n) refl h (shortest-first k (suc n) ns)
    where
      go : (o : Option (List ℕ)) → of_length before sup cache T L n ≡ o → (elim o as (λ _. Option (List ℕ)) [ none ↦ shortest before sup cache T L k (suc n) | some x ↦ some x ]) ≡ some ns
          → (shortest before sup cache T L k (suc n) ≡ some ns → First (suc n) ns) → First n ns
      go none e r f = let g = f r in record { clashes = g.clashes; least = λ ms c l. g.least ms c (longer n e ms c l); not_later = g.not_later }
      go (some x) e r f =
          let g = length_from n ns (e ∙ r) in
          record { clashes = g.0; least = λ ms c l. omega (arith, g.1); not_later = λ ms c l. found ms (length_has ms c) (ap (of_length before sup cache T L) (l ∙ g.1) ∙ (e ∙ r)) }
        where
          found : (ms : List ℕ) → Has order (of_length before sup cache T L (length ms)) ms → of_length before sup cache T L (length ms) ≡ some ns → NotBefore order ms ns
          found ms c q = rw (some-injective c.0 ns (sym c.1 ∙ q)) at c.2

  -- where none is found, none of those lengths clashes
  pub shortest-none : (k n : ℕ) → shortest before sup cache T L k n ≡ none → (ms : List ℕ) → ClashingOver sup cache T L ms → n ≤ length ms → n + k ≤ length ms
  unfolding shortest
  shortest-none zero n h ms c l = omega arith
  shortest-none (suc k) n h ms c l = go (of_length before sup cache T L n) refl h (λ r q. shortest-none k (suc n) r ms c q)
    where
      go : (o : Option (List ℕ)) → of_length before sup cache T L n ≡ o → ◌≡◌ {A = Option (List ℕ)} (elim o as (λ _. Option (List ℕ)) [ none ↦ shortest before sup cache T L k (suc n) | some x ↦ some x ]) none
          → (shortest before sup cache T L k (suc n) ≡ none → suc n ≤ length ms → suc n + k ≤ length ms) → n + suc k ≤ length ms
      go none e r f = omega (arith, f r (longer n e ms c l))
      go (some x) e r f = absurd (none-ne-some x (sym r))
