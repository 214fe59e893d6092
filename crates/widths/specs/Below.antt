-- Numbers below a bound: cells read and set, parts of a list, rows and stacks written.
use mathlib.Core.List.{List, [], ◌∷◌, ◌++◌, map}
use Prim.Native.Nat.{ℕ, zero, suc, ◌<◌}
use Rattle.std.specs.Prelude.{get_or, set, take, drop}
use Rattle.definition.specs.Lists.{rows, write_rows, write_stack}
use Rattle.definition.specs.Widths.{EachBelow}
use Rattle.layout.specs.Tests.{All, From}

-- What holds of each

pub all-zip : {A : Type 0} (P Q R : A → Type 0) → ((x : A) → P x → Q x → R x) → (xs : List A) → All P xs → All Q xs → All R xs
all-zip P Q R f [] a b = tt
all-zip P Q R f (x ∷ xs) a b = (f x a.0 b.0, all-zip P Q R f xs a.1 b.1)

pub all_map : {A B : Type 0} (P : B → Type 0) (f : A → B) → ((x : A) → P (f x)) → (xs : List A) → All P (map f xs)
all_map P f h [] = tt
all_map P f h (x ∷ xs) = (h x, all_map P f h xs)

-- what holds of each with its place, with the place forgotten
pub from_all : {A : Type 0} (P : ℕ → A → Type 0) (Q : A → Type 0) → ((c : ℕ) (x : A) → P c x → Q x) → (c : ℕ) (xs : List A) → From P c xs → All Q xs
from_all P Q f c [] h = tt
from_all P Q f c (x ∷ xs) h = (f c x h.0, from_all P Q f (suc c) xs h.1)

-- Lists of numbers below w

module _ (w : ℕ) where
  pub below-cell : (t : List ℕ) (i : ℕ) → 0 < w → EachBelow w t → get_or t i 0 < w
  below-cell [] i l h = l
  below-cell (x ∷ t) zero l h = h.0
  below-cell (x ∷ t) (suc i) l h = below-cell t i l h.1

  pub below_set : (t : List ℕ) (i v : ℕ) → EachBelow w t → v < w → EachBelow w (set t i v)
  below_set [] i v h l = tt
  below_set (x ∷ t) zero v h l = (l, h.1)
  below_set (x ∷ t) (suc i) v h l = (h.0, below_set t i v h.1 l)

  pub below_both : (s t : List ℕ) → EachBelow w s → EachBelow w t → EachBelow w (s ++ t)
  below_both [] t h k = k
  below_both (x ∷ s) t h k = (h.0, below_both s t h.1 k)

  pub below-take : (n : ℕ) (t : List ℕ) → EachBelow w t → EachBelow w (take n t)
  below-take zero t h = tt
  below-take (suc n) [] h = tt
  below-take (suc n) (x ∷ t) h = (h.0, below-take n t h.1)

  pub below-drop : (n : ℕ) (t : List ℕ) → EachBelow w t → EachBelow w (drop n t)
  below-drop zero t h = h
  below-drop (suc n) [] h = tt
  below-drop (suc n) (x ∷ t) h = below-drop n t h.1

  pub below-read : (g : ℕ → ℕ) → ((i : ℕ) → g i < w) → (k i : ℕ) → EachBelow w (rows g k i)
  unfolding rows
  below-read g h zero i = tt
  below-read g h (suc k) i = (h i, below-read g h k (suc i))

  pub each_all : (t : List ℕ) → EachBelow w t → All (λ x. x < w) t
  each_all [] h = tt
  each_all (x ∷ t) h = (h.0, each_all t h.1)

  -- what is written where each row writes numbers below w; P is what holds of each row
  module _ {A : Type 0} (p : List ℕ → ℕ → A → List ℕ) (P : A → Type 0) (row : (t : List ℕ) (i : ℕ) (x : A) → P x → EachBelow w t → EachBelow w (p t i x)) where
    pub below_rows : (xs : List A) (i : ℕ) (t : List ℕ) → All P xs → EachBelow w t → EachBelow w (write_rows p xs i t)
    unfolding write_rows
    below_rows [] i t a h = h
    below_rows (x ∷ xs) i t a h = row (write_rows p xs (suc i) t) i x a.0 (below_rows xs (suc i) t a.1 h)

    pub below-stack : (xs : List A) (t : List ℕ) → All P xs → EachBelow w t → EachBelow w (write_stack p xs t)
    unfolding write_stack
    below-stack [] t a h = h
    below-stack (x ∷ xs) t a h = row (write_stack p xs t) _ x a.0 (below-stack xs t a.1 h)
