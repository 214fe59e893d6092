-- The loads of an order, one after another.
use mathlib.Core.Path.{◌≡◌, sym, ap, ◌∙◌}
use mathlib.Core.Bool.{Bool}
use mathlib.Core.List.{List}
use Prim.Native.Nat.{ℕ, suc, ◌+◌, ◌-◌, ◌/◌, ◌%◌, ◌<◌, ◌≤◌}
use native.Mathlib.Omega.{arith}
use Rattle.definition.specs.Tables.{Tables}
use Rattle.definition.specs.Calls.{Done, done, load_call, call_rows, perform, perform_all}
use Rattle.searching.specs.Offered.{load_at}
use Rattle.searching.specs.Ordering.{taken_of}
use Rattle.searching.specs.Replayed.{numbers_in, loads_at}

module _ (cells files : List ℕ) (n k c : ℕ) where
  pub replay-more : (t u : Tables) (b : Bool) (i : ℕ) → i ≡ c % 8 → done b u ≡ taken_of (perform (call_rows (load_call (load_at cells files i))) t) → k < n
      → (perform_all (loads_at cells files (numbers_in (n - (k + 1)) (c / 8))) u).tables ≡ (perform_all (loads_at cells files (numbers_in (n - k) c)) t).tables
  unfolding numbers_in loads_at perform_all
  replay-more t u b i e d l =
      let s : n - k ≡ suc (n - (k + 1)) = omega (arith, l) in
      let v : u ≡ (perform (call_rows (load_call (load_at cells files (c % 8)))) t).tables =
      ap (λ (x : Done Bool). x.tables) d ∙ ap (λ (j : ℕ). (perform (call_rows (load_call (load_at cells files j))) t).tables) e in
      ap (λ (x : Tables). (perform_all (loads_at cells files (numbers_in (n - (k + 1)) (c / 8))) x).tables) v
      ∙ sym (ap (λ (m : ℕ). (perform_all (loads_at cells files (numbers_in m c)) t).tables) s)

  pub replay-end : (t : Tables) → n ≤ k → t ≡ (perform_all (loads_at cells files (numbers_in (n - k) c)) t).tables
  unfolding numbers_in loads_at perform_all
  replay-end t l = let s : n - k ≡ 0 = omega (arith, l) in sym (ap (λ (m : ℕ). (perform_all (loads_at cells files (numbers_in m c)) t).tables) s)

pub replay-start : (cells files : List ℕ) (n c : ℕ) (t : Tables) → (perform_all (loads_at cells files (numbers_in (n - 0) c)) t).tables ≡ (perform_all (loads_at cells files (numbers_in n c)) t).tables
replay-start cells files n c t = let s : n - 0 ≡ n = omega arith in ap (λ (m : ℕ). (perform_all (loads_at cells files (numbers_in m c)) t).tables) s
