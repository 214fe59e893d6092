-- Ties posted one method after another behind the rows that a table has: the rows that were written, and the ties that they stand for.
use mathlib.Core.Path.{◌≡◌, refl, sym, ap, ◌∙◌}
use mathlib.Core.Option.{Option, none, some}
use mathlib.Core.List.{List, [], ◌++◌}
use Prim.Native.Nat.{ℕ, ◌+◌, ◌*◌, ◌-◌, ◌≤◌, ◌<◌}
use native.Mathlib.Omega.{arith}
use lib.ListN.{length, length-append}
use Rattle.definition.specs.declared.Signature.{Signature}
use Rattle.definition.specs.Lists.{rows, write_rows}
use Rattle.definition.specs.Classes.{Base, Method, signature_types, loader_of, Selected, selected}
use Rattle.definition.specs.Constraints.{Tie, new_ties, signature_ties}
use Rattle.definition.specs.Loading.{override_tie, override_ties}
use Rattle.definition.specs.Tables.{tie_at, put_tie}
use Rattle.layout.specs.Places.{rows_step, rows_none, rows_start, write_rows-length}
use Rattle.layout.specs.Cells.{rows-parts, rows-after-more, tie-rows}
use Rattle.loading.specs.Posting.{TiesPosted}
use Rattle.laws.specs.Inline.{five-ties}

-- At most five ties are new for a method

override-few : (b : Base) (l p : ℕ) (ts : List Tie) (s : Signature) → length (override_tie b l p ts s) ≤ 5
unfolding override_tie
override-few b l p ts s = go (selected b s p)
  where
    go : (o : Option Selected) → length {A = Tie} (elim o as (λ _. List Tie) [ none ↦ [] | some y ↦ signature_ties ts l (loader_of b y.class) s ]) ≤ 5
    go none = omega arith
    go (some y) = five-ties ts l (loader_of b y.class) s

-- One method

module _ (b : Base) (l p : ℕ) (s : Signature) (t : List ℕ) (k : ℕ) where
  abbrev ts : List Tie
  ts = rows (tie_at t) k 0

  -- no superclass has a method alike
  pub posts-none : selected b s p ≡ none → TiesPosted (override_tie b l p ts s) t k t k
  unfolding override_tie write_rows
  posts-none e = rw (e, override_tie) (record { count = sym (omega arith); cells = refl })

  -- one has: the ties of the signature
  pub posts-all : (y : Selected) (m : ℕ) (u : List ℕ) (j : ℕ) → selected b s p ≡ some y → loader_of b y.class ≡ m → j ≡ k + length (new_ties ts l m (signature_types s))
      → u ≡ write_rows put_tie (new_ties ts l m (signature_types s)) k t → TiesPosted (override_tie b l p ts s) t k u j
  unfolding override_tie signature_ties
  posts-all y m u j e q c w = rw (e, override_tie) (rw q (record { count = c; cells = w }))

-- One method after another: N rows that leave X are what the methods from j on post behind the k rows of t

module _ (b : Base) (l p : ℕ) (g : ℕ → Method) (n : ℕ) where
  abbrev left : List ℕ → ℕ → ℕ → List Tie
  left t k j = override_ties b l p (rows (tie_at t) k 0) (rows g (n - j) j)

  pub posts-start : (t : List ℕ) (k : ℕ)
      → TiesPosted (left t k 0) t k (write_rows put_tie (override_ties b l p (rows (tie_at t) k 0) (rows g n 0)) k t) (k + length (override_ties b l p (rows (tie_at t) k 0) (rows g n 0)))
  posts-start t k = rw (rows_start g n) (record { count = refl; cells = refl })

  pub posts-on : (t u X : List ℕ) (k i j N : ℕ) → j < n → (k + 5) * 3 ≤ length t → TiesPosted (left t k j) t k X N
      → TiesPosted (override_tie b l p (rows (tie_at t) k 0) (g j).signature) t k u i → TiesPosted (left u i (j + 1)) u i X N
  unfolding override_ties
  posts-on t u X k i j N h room inv one = record { count = count; cells = cells }
    where
      ts : List Tie
      ts = rows (tie_at t) k 0

      us : List Tie
      us = override_tie b l p ts (g j).signature

      vs : List Tie
      vs = override_ties b l p (ts ++ us) (rows g (n - (j + 1)) (j + 1))

      few : length us ≤ 5
      few = override-few b l p ts (g j).signature

      all : left t k j ≡ us ++ vs
      all = ap (override_ties b l p ts) (rows_step g n j h)

      same : rows (tie_at u) i 0 ≡ ts ++ us
      same =
          ap (λ (x : List ℕ). rows (tie_at x) i 0) one.cells
          ∙ (ap (λ (x : ℕ). rows (tie_at (write_rows put_tie us k t)) x 0) one.count ∙ rows-after-more tie-rows us t k (omega (arith, few)))

      rest : left u i (j + 1) ≡ vs
      rest = ap (λ (x : List Tie). override_ties b l p x (rows g (n - (j + 1)) (j + 1))) same

      count : N ≡ i + length (left u i (j + 1))
      count = omega (arith, inv.count, one.count, ap length rest, ap length all, length-append us vs)

      cells : X ≡ write_rows put_tie (left u i (j + 1)) i u
      cells =
          inv.cells
          ∙ (ap (λ (x : List Tie). write_rows put_tie x k t) all
          ∙ (rows-parts tie-rows us vs k t ∙ (λ x. write_rows put_tie (sym rest x) (sym one.count x) (sym one.cells x))))

  pub posts-end : (t X : List ℕ) (k j N : ℕ) → n ≤ j → TiesPosted (left t k j) t k X N → (k ≡ N) × (t ≡ X)
  unfolding override_ties write_rows
  posts-end t X k j N h inv =
      let e : left t k j ≡ [] = ap (override_ties b l p (rows (tie_at t) k 0)) (rows_none g n j h) in
      (omega (arith, inv.count, ap length e), sym (inv.cells ∙ ap (λ (x : List Tie). write_rows put_tie x k t) e))

-- so many that they can be counted
pub few-new : (ts : List Tie) (l m : ℕ) (s : Signature) (k j : ℕ) → j ≡ k + length (new_ties ts l m (signature_types s)) → j ≤ k + 5
unfolding signature_ties
few-new ts l m s k j e = omega (arith, e, five-ties ts l m s)

-- what a method posts: at most five rows, and the table keeps its length
pub posted-few : (b : Base) (l p : ℕ) (ts : List Tie) (s : Signature) (t : List ℕ) (k : ℕ) (u : List ℕ) (j : ℕ) → TiesPosted (override_tie b l p ts s) t k u j → j ≤ k + 5
posted-few b l p ts s t k u j h = omega (arith, h.count, override-few b l p ts s)

pub posted-long : (us : List Tie) (t : List ℕ) (k : ℕ) (u : List ℕ) (j : ℕ) → TiesPosted us t k u j → length u ≡ length t
posted-long us t k u j h = ap length h.cells ∙ write_rows-length put_tie tie-rows.long us k t
