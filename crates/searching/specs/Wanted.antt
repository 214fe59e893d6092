-- Where no offer is for the wanted request no load gives it: the order that is found is the empty one, or there is none.
use Rattle.std.specs.Prelude.{◌≡◌, true, false, ℕ, zero, suc, ◌/◌, ◌<◌, length}
use Rattle.std.proofs.Math.Path.{refl, sym, ap}
use Rattle.std.proofs.Common.{◌∙◌, arith}
use Rattle.std.proofs.Math.Option.{Option, none, some, none-ne-some}
use mathlib.Core.List.{List, [], ◌∷◌}
use Rattle.std.proofs.Math.ListN.{get_elem?}
use Rattle.definition.specs.Lists.{is_some}
use Rattle.definition.specs.Requests.{Request}
use Rattle.definition.specs.Classes.{find}
use Rattle.definition.specs.Tables.{Rows}
use Rattle.definition.specs.Calls.{Load}
use Rattle.definition.specs.Offers.{offers_in, loaded_at, AcceptedTo, order}
use Rattle.laws.specs.Options.{bind-some}
use Rattle.laws.specs.Orders.{order-cached, order-works}
use Rattle.searching.specs.Offered.{is_for_at, offers_of, offers-count}
use Rattle.searching.specs.Ordering.{leaves_at, cached_order}

-- no offer is for the request
abbrev pub NoneFor : List ℕ → List ℕ → Request → Type 0
NoneFor cells files q = (i : ℕ) → i < length cells / 4 → is_for_at cells files q i ≡ false

module _ (cells files : List ℕ) (q : Request) (reads : is_some (offers_in cells files) ≡ true) (h : NoneFor cells files q) where
  offer-there : (xs : List Load) (i : ℕ) (c : Load) → get_elem? xs i ≡ some c → i < length xs
  offer-there [] i c e = absurd (none-ne-some c e)
  offer-there (x ∷ xs) zero c e = omega arith
  offer-there (x ∷ xs) (suc i) c e = omega (arith, offer-there xs i c e)

  stays : (is : List ℕ) (r s : Rows) → AcceptedTo (offers_of cells files) r is s → find s.cache q ≡ find r.cache q
  unfolding loaded_at
  stays [] r s a = ap (λ (x : Rows). find x.cache q) (sym a)
  stays (i ∷ is) r s (x, l, a) =
      let b = bind-some (get_elem? (offers_of cells files) i) _ l in
      let m = offer-there (offers_of cells files) i b.0 b.1 in
      stays is x s a ∙ leaves_at cells files q i r x (h i (omega (arith, m, offers-count cells files reads))) l

  pub order-unwanted : (r : Rows) → order (offers_of cells files) q r ≡ cached_order (find r.cache q)
  unfolding cached_order
  order-unwanted r = go (find r.cache q) refl (order (offers_of cells files) q r) refl
    where
      go : (o : Option ℕ) → find r.cache q ≡ o → (p : Option (List ℕ)) → order (offers_of cells files) q r ≡ p → p ≡ cached_order o
      go (some c) e p f = sym f ∙ order-cached (offers_of cells files) q r c e
      go none e none f = refl
      go none e (some is) f =
          let w = order-works (offers_of cells files) q r is f in
          absurd (none-ne-some w.class (sym e ∙ (sym (stays is r w.left w.accepted) ∙ w.cached)))
