-- What a host is told of a search: the kind, the refusal's number, how many loads, and of an order that is found eight cells more, the numbers of its offers and 0 behind them.
use Rattle.std.specs.Prelude as code
use Rattle.std.specs.Prelude.{◌≡◌, Ok, Err, Some, None, List, [], ◌∷◌, ◌++◌, ℕ, zero, suc, ◌+◌, ◌-◌, ◌/◌, ◌%◌, ◌<◌, ◌≤◌, length, get_or, set}
use Rattle.std.proofs.Math.Path.{refl}
use Rattle.std.proofs.Common.{sym, ap, ◌∙◌, arith, add-one}
use Rattle.definition.specs.Numbers.{offer_limit}
use Rattle.definition.specs.Lists.{rows, write_rows}
use Rattle.definition.specs.Answers.{number, number_of}
use Rattle.definition.specs.declared.Refusal.{Refusal}
use Rattle.definition.specs.declared.Reply.TheVariants.{Denied}
use Rattle.definition.specs.Tables.{Tables}
use Rattle.definition.specs.Searching.{Sought, found, not_found, denied_search, Searched, searched, search}
use Rattle.layout.specs.Cells.{cell-rows, rows-first, rows-parts}
use Rattle.searching.specs.declared.Order.{Order}
use Rattle.searching.specs.Replayed.{numbers_in}
use Rattle.searching.specs.Found.{sought_by}
use Rattle.host.specs.Answers.{answer_cells, Reported}

abbrev pub six_cells : ℕ → ℕ → List ℕ
six_cells kind one = kind ∷ 0 ∷ one ∷ 0 ∷ 0 ∷ 0 ∷ []

abbrev pub order_cells : List ℕ → List ℕ
order_cells is = rows (λ i. get_or is i 0) offer_limit 0

unfoldable pub sought_cells : Sought → List ℕ
sought_cells (found is) = six_cells 6 (length is) ++ order_cells is
sought_cells not_found = six_cells 7 0
sought_cells (denied_search w) = answer_cells 0 (Denied w)

unfoldable pub sought_number : Sought → ℕ
sought_number (found is) = 0
sought_number not_found = 0
sought_number (denied_search w) = number w

-- the answer table before and after, and the number returned
pub record Told (s : Sought) (before after : List ℕ) (r : ℕ) : Type 0 where
  pub answer : after ≡ write_rows set (sought_cells s) 0 before
  pub number : r ≡ sought_number s

-- a search on the box's tables t with a second store s leaves u of that, and is told
pub record SearchedOn (l n : ℕ) (cells files : List ℕ) (t s u : Tables) (before after : List ℕ) (r : ℕ) : Type 0 where
  pub second : u ≡ (search l n cells files t s).second
  pub told : Told (search l n cells files t s).answer before after r

-- Laws

pub searched-on : (l n : ℕ) (cells files : List ℕ) (t s u : Tables) (before after : List ℕ) (f : code.Result (code.Option Order) Refusal) (r : ℕ) → searched (sought_by f) u ≡ search l n cells files t s
    → Told (sought_by f) before after r → SearchedOn l n cells files t s u before after r
searched-on l n cells files t s u before after f r e d = record {
  second = ap (λ (x : Searched). x.second) e;
  told = record {
    answer = d.answer ∙ ap (λ (x : Searched). write_rows set (sought_cells x.answer) 0 before) e;
    number = d.number ∙ ap (λ (x : Searched). sought_number x.answer) e;
  };
}

numbers-length : (n c : ℕ) → length (numbers_in n c) ≡ n
unfolding numbers_in
numbers-length zero c = refl
numbers-length (suc n) c = ap suc (numbers-length n (c / 8))

pub told-found : (before middle after : List ℕ) (n c r : ℕ) → middle ≡ write_rows set (six_cells 6 n) 0 before → after ≡ write_rows set (order_cells (numbers_in n c)) 6 middle → r ≡ 0
    → Told (sought_by (Ok (Some (record { loads = n; code = c })))) before after r
unfolding sought_by sought_cells sought_number
told-found before middle after n c r e d z = record {
  answer = d
      ∙ (ap (write_rows set (order_cells (numbers_in n c)) 6) (e ∙ ap (λ (m : ℕ). write_rows set (six_cells 6 m) 0 before) (sym (numbers-length n c)))
      ∙ sym (rows-parts cell-rows (six_cells 6 (length (numbers_in n c))) (order_cells (numbers_in n c)) 0 before));
  number = z;
}

pub told_none : (before after : List ℕ) (r : ℕ) → after ≡ write_rows set (six_cells 7 0) 0 before → r ≡ 0 → Told (sought_by (Ok None)) before after r
unfolding sought_by sought_cells sought_number
told_none before after r d z = record { answer = d; number = z }

pub told-refused : (before after : List ℕ) (w : Refusal) (r : ℕ) → Reported 0 (Denied w) before after r → Told (sought_by (Err w)) before after r
unfolding sought_by sought_cells sought_number number_of
told-refused before after w r d = record { answer = d.answer; number = d.number }

-- The order's cells, one after another: of an order by its number, its first digit is the next cell

pub digit-there : (n i c : ℕ) → i < n → c % 8 ≡ get_or (numbers_in (n - i) c) 0 0
unfolding numbers_in
digit-there n i c l = let e : n - i ≡ suc (n - (i + 1)) = omega (arith, l) in sym (ap (λ (m : ℕ). get_or (numbers_in m c) 0 0) e)

pub digit-past : (n i c : ℕ) → n ≤ i → 0 ≡ get_or (numbers_in (n - i) c) 0 0
unfolding numbers_in
digit-past n i c l = let e : n - i ≡ 0 = omega (arith, l) in sym (ap (λ (m : ℕ). get_or (numbers_in m c) 0 0) e)

digits-later : (c a b : ℕ) → b ≡ a - 1 → (j : ℕ) → get_or (numbers_in a c) (suc j) 0 ≡ get_or (numbers_in b (c / 8)) j 0
unfolding numbers_in
digits-later c zero b f j = let z : b ≡ 0 = omega (arith, f) in sym (ap (λ (m : ℕ). get_or (numbers_in m (c / 8)) j 0) z)
digits-later c (suc a) b f j = let z : b ≡ a = omega (arith, f) in sym (ap (λ (m : ℕ). get_or (numbers_in m (c / 8)) j 0) z)

module _ (n c : ℕ) where
  abbrev cell_at : ℕ → ℕ
  cell_at i = get_or (numbers_in n c) i 0

  pub record Writing (i rest : ℕ) (before now : List ℕ) : Type 0 where
    pub few : i ≤ offer_limit
    pub digits : (j : ℕ) → cell_at (i + j) ≡ get_or (numbers_in (n - i) rest) j 0
    pub written : write_rows set (rows cell_at (offer_limit - i) i) (6 + i) now ≡ write_rows set (order_cells (numbers_in n c)) 6 before

  pub writing_start : (before : List ℕ) → Writing 0 c before before
  writing_start before = record {
    few = omega arith;
    digits = λ j. let z : n - 0 ≡ n = omega arith in let w : 0 + j ≡ j = omega arith in ap cell_at w ∙ sym (ap (λ (m : ℕ). get_or (numbers_in m c) j 0) z);
    written = refl;
  }

  pub writing_more : (i rest : ℕ) (before now after : List ℕ) (v : ℕ) → Writing i rest before now → i < offer_limit → v ≡ get_or (numbers_in (n - i) rest) 0 0 → after ≡ set now (6 + i) v
      → Writing (i + 1) (rest / 8) before after
  writing_more i rest before now after v w l e d = record {
    few = omega (arith, l);
    digits = λ j. let z : i + 1 + j ≡ i + suc j = omega arith in ap cell_at z ∙ (w.digits (suc j) ∙ digits-later rest (n - i) (n - (i + 1)) (omega arith) j);
    written =
        let z : offer_limit - i ≡ suc (offer_limit - (i + 1)) = omega (arith, l) in
        let y : i + 0 ≡ i = omega arith in
        let p : v ≡ cell_at i = e ∙ (sym (w.digits 0) ∙ ap cell_at y) in
        let q : 6 + (i + 1) ≡ suc (6 + i) = omega arith in
        (λ k. write_rows set (rows cell_at (offer_limit - (i + 1)) (add-one i k)) (q k) ((d ∙ ap (set now (6 + i)) p) k))
        ∙ (sym (rows-first cell-rows (cell_at i) (rows cell_at (offer_limit - (i + 1)) (suc i)) (6 + i) now)
        ∙ (sym (ap (λ (m : ℕ). write_rows set (rows cell_at m i) (6 + i) now) z ∙ more) ∙ w.written));
  }
    where
      more : write_rows set (rows cell_at (suc (offer_limit - (i + 1))) i) (6 + i) now ≡ write_rows set (cell_at i ∷ rows cell_at (offer_limit - (i + 1)) (suc i)) (6 + i) now
      more = unfold rows in refl

  pub writing-end : (i rest : ℕ) (before now : List ℕ) → Writing i rest before now → offer_limit ≤ i → now ≡ write_rows set (order_cells (numbers_in n c)) 6 before
  writing-end i rest before now w l = let z : offer_limit - i ≡ 0 = omega (arith, l) in sym (ap (λ (m : ℕ). write_rows set (rows cell_at m i) (6 + i) now) z ∙ none) ∙ w.written
    where
      none : write_rows set (rows cell_at 0 i) (6 + i) now ≡ now
      none = unfold rows write_rows in refl
