-- The first byte of a kept file, read at its place.
use mathlib.Core.Path.{◌≡◌, refl, ap, sym, ◌∙◌}
use mathlib.Core.Bool.{false, ◌&&◌}
use mathlib.Core.List.{List, [], ◌∷◌}
use Prim.Native.Nat.{ℕ, zero, suc, ◌+◌, ◌*◌, ◌<◌, ◌≤◌}
use native.Mathlib.Omega.{arith}
use lib.ListN.{length, get_or, take, drop}
use lib.Seq.{take-nil}
use lib.Dec.{leb}
use borrow.Author.Tests.{le-leb, lt-leb}
use Rattle.definition.specs.Numbers.{version_two, version_three, row_cells}
use Rattle.definition.specs.Lists.{rows}
use Rattle.definition.specs.Changeover.{later_file}
use Rattle.definition.specs.Tables.{class_row_at}
use Rattle.layout.specs.Places.{rows-length, rows-get_d}
use Rattle.first.specs.SameBases.{later_row}

later-past : (bs : List ℕ) (p s : ℕ) → length bs ≤ p → later_file (take s (drop p bs)) ≡ false
unfolding later_file
later-past [] zero s l = ap later_file (take-nil s)
later-past [] (suc p) s l = ap later_file (take-nil s)
later-past (b ∷ bs) zero s l = absurd (omega arith)
later-past (b ∷ bs) (suc p) s l = later-past bs p s (omega arith)

later-there : (bs : List ℕ) (p s : ℕ) → p < length bs → later_file (take (suc s) (drop p bs)) ≡ (leb version_two (get_or bs p 0) && leb (get_or bs p 0) version_three)
unfolding later_file
later-there [] p s l = absurd (omega arith)
later-there (b ∷ bs) zero s l = refl
later-there (b ∷ bs) (suc p) s l = later-there bs p s (omega arith)

-- class c, where n bytes are kept: no size, a start past the bytes, or its first byte
module _ (classes kept : List ℕ) (n c : ℕ) where
  abbrev bytes : List ℕ
  bytes = rows (λ i. get_or kept i 0) n 0

  pub no-file : get_or classes (c * row_cells + 2) 0 ≡ 0 → false ≡ later_row bytes (class_row_at classes c)
  unfolding later_row class_row_at later_file
  no-file e = sym (ap (λ (s : ℕ). later_file (take s (drop (get_or classes (c * row_cells + 1) 0) bytes))) e)

  pub past-kept : n ≤ get_or classes (c * row_cells + 1) 0 → false ≡ later_row bytes (class_row_at classes c)
  unfolding later_row class_row_at
  past-kept l = sym (later-past bytes (get_or classes (c * row_cells + 1) 0) (get_or classes (c * row_cells + 2) 0) (omega (arith, rows-length (λ i. get_or kept i 0) n 0)))

  module _ (some : get_or classes (c * row_cells + 2) 0 ≡ 0 → ⊥) (l : get_or classes (c * row_cells + 1) 0 < n) where
    first_byte : later_row bytes (class_row_at classes c) ≡ (leb version_two (get_or kept (get_or classes (c * row_cells + 1) 0) 0) && leb (get_or kept (get_or classes (c * row_cells + 1) 0) 0) version_three)
    unfolding later_row class_row_at
    first_byte = go (get_or classes (c * row_cells + 2) 0) some
      where
        p : ℕ
        p = get_or classes (c * row_cells + 1) 0

        at_p : get_or bytes p 0 ≡ get_or kept p 0
        at_p = rows-get_d (λ i. get_or kept i 0) n 0 p 0 l ∙ (let z : 0 + p ≡ p = omega arith in ap (λ (i : ℕ). get_or kept i 0) z)

        go : (s : ℕ) → (s ≡ 0 → ⊥) → later_file (take s (drop p bytes)) ≡ (leb version_two (get_or kept p 0) && leb (get_or kept p 0) version_three)
        go zero h = absurd (h refl)
        go (suc s) h = later-there bytes p s (omega (arith, rows-length (λ i. get_or kept i 0) n 0)) ∙ ap (λ (v : ℕ). leb version_two v && leb v version_three) at_p

    pub early-byte : (v : ℕ) → v ≡ get_or kept (get_or classes (c * row_cells + 1) 0) 0 → v < version_two → false ≡ later_row bytes (class_row_at classes c)
    early-byte v e h = sym (first_byte ∙ (ap (λ (v : ℕ). leb version_two v && leb v version_three) (sym e) ∙ rw (lt-leb version_two v h) refl))

    pub late-byte : (v : ℕ) → v ≡ get_or kept (get_or classes (c * row_cells + 1) 0) 0 → version_two ≤ v → leb v version_three ≡ later_row bytes (class_row_at classes c)
    late-byte v e h = sym (first_byte ∙ (ap (λ (v : ℕ). leb version_two v && leb v version_three) (sym e) ∙ rw (le-leb version_two v h) refl))
