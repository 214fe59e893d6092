-- Numbered places of a table: what is read there as a list, and a list written there. Every table's laws come from these.
use Rattle.std.specs.Prelude.{◌≡◌, Bool, true, false, ◌≢◌, get_or, set, take, drop, eqb}
use Rattle.std.proofs.Math.Path.{refl, ap}
use Rattle.std.proofs.Common.{sym, ◌∙◌, set-set, take-suc, length-take-le, eqb-true}
use Rattle.std.proofs.Math.Option.{none, some}
use mathlib.Core.List.{List, [], ◌∷◌, ◌++◌, map}
use Prim.Native.Nat.{ℕ, zero, suc, ◌+◌, ◌-◌, ◌<◌, ◌≤◌}
use native.Mathlib.Omega.{arith}
use Rattle.std.proofs.Math.Numerals.{add-one}
use Rattle.std.proofs.Math.ListN.{length, get_elem?}
use Rattle.std.proofs.lemmas.List.{set_comm}
use Rattle.std.proofs.lemmas.Bool.{eqb-false}
use Rattle.definition.specs.Lists.{all, any, rows, write_rows, stack, write_stack}
use Rattle.layout.specs.Tests.{All}

-- Reading: rows upward from a place, a stack downward from the last place

module _ {A : Type 0} (g : ℕ → A) where
  pub rows-length : (k i : ℕ) → length (rows g k i) ≡ k
  unfolding rows
  rows-length zero i = refl
  rows-length (suc k) i = ap suc (rows-length k (suc i))

  pub rows_at : (k i j : ℕ) → j < k → get_elem? (rows g k i) j ≡ some (g (i + j))
  unfolding rows
  rows_at zero i j l = absurd (omega arith)
  rows_at (suc k) i zero l = let e : i + 0 ≡ i = omega arith in rw e
  rows_at (suc k) i (suc j) l = let e : i + suc j ≡ suc i + j = omega arith in rw e (rows_at k (suc i) j (omega arith))

  pub rows-past : (k i j : ℕ) → k ≤ j → get_elem? (rows g k i) j ≡ none
  unfolding rows
  rows-past zero i j l = refl
  rows-past (suc k) i zero l = absurd (omega arith)
  rows-past (suc k) i (suc j) l = rows-past k (suc i) j (omega arith)

  pub rows-get_d : (k i j : ℕ) (d : A) → j < k → get_or (rows g k i) j d ≡ g (i + j)
  unfolding rows
  rows-get_d zero i j d l = absurd (omega arith)
  rows-get_d (suc k) i zero d l = let e : i + 0 ≡ i = omega arith in rw e
  rows-get_d (suc k) i (suc j) d l = let e : i + suc j ≡ suc i + j = omega arith in rw e (rows-get_d k (suc i) j d (omega arith))

  pub rows-there : (k j : ℕ) → j < k → get_elem? (rows g k 0) j ≡ some (g j)
  rows-there k j l = let e : 0 + j ≡ j = omega arith in rw e at (rows_at k 0 j l)

  -- a scan's step: the rows from place i on, of n in all
  pub rows_step : (n i : ℕ) → i < n → rows g (n - i) i ≡ g i ∷ rows g (n - (i + 1)) (i + 1)
  unfolding rows
  rows_step n i h = let e : n - i ≡ suc (n - (i + 1)) = omega arith in rw (e, add-one i)

  pub rows_none : (n i : ℕ) → n ≤ i → rows g (n - i) i ≡ []
  unfolding rows
  rows_none n i h = let e : n - i ≡ 0 = omega arith in rw e

  pub rows_start : (n : ℕ) → rows g (n - 0) 0 ≡ rows g n 0
  rows_start n = let e : n - 0 ≡ n = omega arith in rw e

  pub rows_both : (k m i : ℕ) → rows g (k + m) i ≡ rows g k i ++ rows g m (i + k)
  unfolding rows
  rows_both zero m i = let e : 0 + m ≡ m = omega arith in let f : i + 0 ≡ i = omega arith in rw (e, f)
  rows_both (suc k) m i = let e : suc k + m ≡ suc (k + m) = omega arith in let f : i + suc k ≡ suc i + k = omega arith in rw (e, f, rows_both k m (suc i))

  pub rows_last : (k i : ℕ) → rows g (suc k) i ≡ rows g k i ++ (g (i + k) ∷ [])
  unfolding rows
  rows_last k i = let e : suc k ≡ k + 1 = omega arith in ap (λ (z : ℕ). rows g z i) e ∙ rows_both k 1 i

  -- rows of rows: n of them from place s on
  pub rows-part : (k s n i : ℕ) → s + n ≤ k → take n (drop s (rows g k i)) ≡ rows g n (i + s)
  unfolding rows
  rows-part k zero zero i h = refl
  rows-part zero zero (suc n) i h = absurd (omega arith)
  rows-part (suc k) zero (suc n) i h = let e : i + 0 ≡ i = omega arith in let f : suc i + 0 ≡ suc i = omega arith in rw (e, rows-part k 0 n (suc i) (omega arith), f)
  rows-part zero (suc s) n i h = absurd (omega arith)
  rows-part (suc k) (suc s) n i h = let e : i + suc s ≡ suc i + s = omega arith in rw e (rows-part k s n (suc i) (omega arith))

  pub stack-length : (k : ℕ) → length (stack g k) ≡ k
  unfolding stack
  stack-length zero = refl
  stack-length (suc k) = ap suc (stack-length k)

  pub stack_top : (k : ℕ) → 0 < k → stack g k ≡ g (k - 1) ∷ stack g (k - 1)
  unfolding stack
  stack_top zero h = absurd (omega arith)
  stack_top (suc k) h = let e : suc k - 1 ≡ k = omega arith in rw e

-- two readings that agree at the places in question

pub rows-cong : {A : Type 0} (g h : ℕ → A) (k i : ℕ) → ((m : ℕ) → i ≤ m → m < i + k → g m ≡ h m) → rows g k i ≡ rows h k i
unfolding rows
rows-cong g h zero i e = refl
rows-cong g h (suc k) i e = rw (e i (omega arith) (omega arith), rows-cong g h k (suc i) (λ m a b. e m (omega arith) (omega arith)))

pub stack-cong : {A : Type 0} (g h : ℕ → A) (k : ℕ) → ((i : ℕ) → i < k → g i ≡ h i) → stack g k ≡ stack h k
unfolding stack
stack-cong g h zero e = refl
stack-cong g h (suc k) e = rw (e k (omega arith), stack-cong g h k (λ i l. e i (omega arith)))

pub rows-map : {A B : Type 0} (f : A → B) (g : ℕ → A) (k i : ℕ) → map f (rows g k i) ≡ rows (λ j. f (g j)) k i
unfolding rows
rows-map f g zero i = refl
rows-map f g (suc k) i = rw (rows-map f g k (suc i))

-- one place differs
pub rows-set : {A : Type 0} (g h : ℕ → A) (k i j : ℕ) (x : A) → h (i + j) ≡ x → ((m : ℕ) → m ≢ i + j → h m ≡ g m) → rows h k i ≡ set (rows g k i) j x
unfolding rows
rows-set g h zero i j x e o = refl
rows-set g h (suc k) i zero x e o =
    let z : i + 0 ≡ i = omega arith in
    rw (rw z at e, rows-cong h g k (suc i) (λ m a b. o m (λ q. omega arith)))
rows-set g h (suc k) i (suc j) x e o =
    let z : i + suc j ≡ suc i + j = omega arith in
    rw (o i (λ q. omega arith), rows-set g h k (suc i) j x (rw z at e) (λ m q. o m (λ r. q (r ∙ z))))

-- a row set to what it is
pub set_there : {A : Type 0} (g : ℕ → A) (k j : ℕ) → set (rows g k 0) j (g j) ≡ rows g k 0
set_there g k j = sym (rows-set g g k 0 j (g j) (let e : 0 + j ≡ j = omega arith in rw e) (λ m q. refl))

-- a list is the rows of its cells
pub rows_take : (t : List ℕ) (n : ℕ) → n ≤ length t → rows (λ i. get_or t i 0) n 0 ≡ take n t
unfolding rows
rows_take t zero h = refl
rows_take [] (suc n) h = absurd (omega arith)
rows_take (x ∷ t) (suc n) h = rw (shifted n 0 ∙ rows_take t n (omega arith))
  where
    shifted : (k i : ℕ) → rows (λ j. get_or (x ∷ t) j 0) k (suc i) ≡ rows (λ j. get_or t j 0) k i
    shifted zero i = refl
    shifted (suc k) i = rw (shifted k (suc i))

-- What holds of each row

pub all-rows : {A : Type 0} (P : A → Type 0) (g : ℕ → A) (k i : ℕ) → All P (rows g k i) → (m : ℕ) → m < k → P (g (i + m))
unfolding rows
all-rows P g zero i a m l = absurd (omega arith)
all-rows P g (suc k) i a zero l = let e : i + 0 ≡ i = omega arith in rw e a.0
all-rows P g (suc k) i a (suc m) l = let e : i + suc m ≡ suc i + m = omega arith in rw e (all-rows P g k (suc i) a.1 m (omega arith))

pub all-from : {A : Type 0} (P : A → Type 0) (g : ℕ → A) (k i : ℕ) → All P (rows g k i) → (m : ℕ) → i ≤ m → m < i + k → P (g m)
all-from P g k i a m h l = let e : i + (m - i) ≡ m = omega arith in rw e at (all-rows P g k i a (m - i) (omega arith))

pub rows_all : {A : Type 0} (P : A → Type 0) (g : ℕ → A) (k i : ℕ) → ((m : ℕ) → i ≤ m → m < i + k → P (g m)) → All P (rows g k i)
unfolding rows
rows_all P g zero i h = tt
rows_all P g (suc k) i h = (h i (omega arith) (omega arith), rows_all P g k (suc i) (λ m a b. h m (omega arith) (omega arith)))

pub all-stack : {A : Type 0} (P : A → Type 0) (g : ℕ → A) (k : ℕ) → All P (stack g k) → (i : ℕ) → i < k → P (g i)
unfolding stack
all-stack P g zero a i l = absurd (omega arith)
all-stack P g (suc k) a i l = go (eqb i k) refl (λ h. all-stack P g k a.1 i h)
  where
    less : i ≢ k → i < k
    less n = omega arith

    go : (u : Bool) → eqb i k ≡ u → (i < k → P (g i)) → P (g i)
    go true e r = rw (eqb-true i k e) a.0
    go false e r = r (less (eqb-false i k e))

pub stack-all : {A : Type 0} (P : A → Type 0) (g : ℕ → A) (k : ℕ) → ((i : ℕ) → i < k → P (g i)) → All P (stack g k)
unfolding stack
stack-all P g zero h = tt
stack-all P g (suc k) h = (h k (omega arith), stack-all P g k (λ i l. h i (omega arith)))

-- Scans

module _ {A : Type 0} (f : A → Bool) (g : ℕ → A) where
  pub rows-hit : (n i : ℕ) → i < n → f (g i) ≡ false → all f (rows g (n - i) i) ≡ false
  unfolding all
  rows-hit n i h e = rw (rows_step g n i h, e, all)

  pub rows_on : (n i : ℕ) → i < n → f (g i) ≡ true → all f (rows g (n - i) i) ≡ all f (rows g (n - (i + 1)) (i + 1))
  unfolding all
  rows_on n i h e = ap (all f) (rows_step g n i h) ∙ rw (e, all)

  pub rows_end : (n i : ℕ) → n ≤ i → all f (rows g (n - i) i) ≡ true
  unfolding all
  rows_end n i h = rw (rows_none g n i h)

  pub any-hit : (n i : ℕ) → i < n → f (g i) ≡ true → any f (rows g (n - i) i) ≡ true
  unfolding any
  any-hit n i h e = rw (rows_step g n i h, e, any)

  pub any-on : (n i : ℕ) → i < n → f (g i) ≡ false → any f (rows g (n - i) i) ≡ any f (rows g (n - (i + 1)) (i + 1))
  unfolding any
  any-on n i h e = ap (any f) (rows_step g n i h) ∙ rw (e, any)

  pub any-end : (n i : ℕ) → n ≤ i → any f (rows g (n - i) i) ≡ false
  unfolding any
  any-end n i h = rw (rows_none g n i h)

  pub stack-hit : (i : ℕ) → 0 < i → f (g (i - 1)) ≡ false → all f (stack g i) ≡ false
  unfolding all
  stack-hit i h e = rw (stack_top g i h, e, all)

  pub stack-on : (i : ℕ) → 0 < i → f (g (i - 1)) ≡ true → all f (stack g i) ≡ all f (stack g (i - 1))
  unfolding all
  stack-on i h e = ap (all f) (stack_top g i h) ∙ rw (e, all)

  pub stack-end : (i : ℕ) → i ≤ 0 → all f (stack g i) ≡ true
  unfolding all stack
  stack-end i h = let z : i ≡ 0 = omega arith in rw z

-- Writing where it was read

module _ {A : Type 0} (p : List ℕ → ℕ → A → List ℕ) (g : ℕ → A) (t : List ℕ) (same : (i : ℕ) → p t i (g i) ≡ t) where
  -- what is written back as it was read changes nothing
  pub write_stack-same : (k : ℕ) → write_stack p (stack g k) t ≡ t
  unfolding write_stack stack
  write_stack-same zero = refl
  write_stack-same (suc k) = rw (write_stack-same k, stack-length g k) (same k)

  -- a new top: one place written
  pub write_stack-above : (k : ℕ) (x : A) → write_stack p (x ∷ stack g k) t ≡ p t k x
  unfolding write_stack
  write_stack-above k x = rw (write_stack-same k, stack-length g k)

  pub write_stack-two : (k : ℕ) (x y : A) → write_stack p (y ∷ x ∷ stack g k) t ≡ p (p t k x) (suc k) y
  unfolding write_stack
  write_stack-two k x y = rw (write_stack-same k, stack-length g k)

  pub write_rows-same : (k i : ℕ) → write_rows p (rows g k i) i t ≡ t
  unfolding write_rows rows
  write_rows-same zero i = refl
  write_rows-same (suc k) i = rw (write_rows-same k (suc i)) (same i)

  -- one of the rows replaced: one place written, if rows below it are then still there
  pub write_rows-set : (k i j : ℕ) (x : A) → j < k → ((m : ℕ) → m < i + j → p (p t (i + j) x) m (g m) ≡ p t (i + j) x) → write_rows p (set (rows g k i) j x) i t
      ≡ p t (i + j) x
  unfolding write_rows rows
  write_rows-set zero i j x l other = absurd (omega arith)
  write_rows-set (suc k) i zero x l other = let e : i + 0 ≡ i = omega arith in rw (write_rows-same k (suc i), e)
  write_rows-set (suc k) i (suc j) x l other =
      let e : i + suc j ≡ suc i + j = omega arith in
      rw e (rw (write_rows-set k (suc i) j x (omega arith) (λ m h. rw e at (other m (omega arith)))) (rw e at (other i (omega arith))))

  pub write_rows-put : (k j : ℕ) (x : A) → j < k → ((m : ℕ) → m < j → p (p t j x) m (g m) ≡ p t j x) → write_rows p (set (rows g k 0) j x) 0 t ≡ p t j x
  write_rows-put k j x l other = let e : 0 + j ≡ j = omega arith in rw e at (write_rows-set k 0 j x l (λ m h. rw e (other m (omega arith))))

  -- rows appended: only they are written, if those before them are then still there
  pub write_rows-more : (k i : ℕ) (xs : List A) → ((m : ℕ) → m < i + k → p (write_rows p xs (i + k) t) m (g m) ≡ write_rows p xs (i + k) t)
      → write_rows p (rows g k i ++ xs) i t ≡ write_rows p xs (i + k) t
  unfolding write_rows rows
  write_rows-more zero i xs other = let e : i + 0 ≡ i = omega arith in rw e
  write_rows-more (suc k) i xs other =
      let e : i + suc k ≡ suc i + k = omega arith in
      rw e (rw (write_rows-more k (suc i) xs (λ m h. rw e at (other m (omega arith)))) (rw e at (other i (omega arith))))

-- Rows that writes above them leave as they are: no hypothesis is left

module _ {A : Type 0} (p : List ℕ → ℕ → A → List ℕ) (g : List ℕ → ℕ → A)
    (same : (t : List ℕ) (i : ℕ) → p t i (g t i) ≡ t) (below : (t : List ℕ) (i j : ℕ) (x : A) → i < j → g (p t j x) i ≡ g t i) where
  pub write_rows-below : (xs : List A) (i j : ℕ) (t : List ℕ) → i < j → g (write_rows p xs j t) i ≡ g t i
  unfolding write_rows
  write_rows-below [] i j t l = refl
  write_rows-below (x ∷ xs) i j t l = below (write_rows p xs (suc j) t) i j x l ∙ write_rows-below xs i (suc j) t (omega arith)

  -- rows appended to the first n: they alone are written
  pub write_rows-append : (t : List ℕ) (n : ℕ) (xs : List A) → write_rows p (rows (g t) n 0 ++ xs) 0 t ≡ write_rows p xs n t
  write_rows-append t n xs =
      let e : 0 + n ≡ n = omega arith in
      rw e at (write_rows-more p (g t) t (same t) n 0 xs (λ m h. rw e (let u : List ℕ = write_rows p xs n t in rw (← write_rows-below xs m n t (omega arith)) (same u m))))

  pub write_rows-last : (t : List ℕ) (n : ℕ) (x : A) → write_rows p (rows (g t) n 0 ++ (x ∷ [])) 0 t ≡ p t n x
  unfolding write_rows
  write_rows-last t n x = write_rows-append t n (x ∷ [])

  -- one row replaced: it alone is written
  pub write_rows-replace : (t : List ℕ) (n j : ℕ) (x : A) → j < n → write_rows p (set (rows (g t) n 0) j x) 0 t ≡ p t j x
  write_rows-replace t n j x l = write_rows-put p (g t) t (same t) n j x l (λ m h. rw (← below t m j x h) (same (p t j x) m))

-- Writes in any order, where they commute: a loop may write from the first on

module _ {A : Type 0} (p : List ℕ → ℕ → A → List ℕ) (comm : (t : List ℕ) (i j : ℕ) (x y : A) → i < j → p (p t j y) i x ≡ p (p t i x) j y) where
  pub write_rows-after : (xs : List A) (i j : ℕ) (x : A) (t : List ℕ) → i < j → p (write_rows p xs j t) i x ≡ write_rows p xs j (p t i x)
  unfolding write_rows
  write_rows-after [] i j x t l = refl
  write_rows-after (y ∷ xs) i j x t l = comm (write_rows p xs (suc j) t) i j x y l ∙ ap (λ (s : List ℕ). p s j y) (write_rows-after xs i (suc j) x t (omega arith))

  pub write_rows-first : (x : A) (xs : List A) (i : ℕ) (t : List ℕ) → write_rows p (x ∷ xs) i t ≡ write_rows p xs (suc i) (p t i x)
  unfolding write_rows
  write_rows-first x xs i t = write_rows-after xs i (suc i) x t (omega arith)

  pub write_rows-snoc : (xs : List A) (x : A) (i : ℕ) (t : List ℕ) → write_rows p (xs ++ (x ∷ [])) i t ≡ p (write_rows p xs i t) (i + length xs) x
  unfolding write_rows
  write_rows-snoc [] x i t = let e : i + 0 ≡ i = omega arith in rw e
  write_rows-snoc (y ∷ xs) x i t =
      let e : i + suc (length xs) ≡ suc i + length xs = omega arith in
      rw (e, write_rows-snoc xs x (suc i) t) (comm (write_rows p xs (suc i) t) i (suc i + length xs) y x (omega arith))

  -- a list copied element by element: the next is written behind those that are there
  pub write_rows-copy : (xs : List A) (d : A) (i j : ℕ) (t : List ℕ) → j < length xs → write_rows p (take (suc j) xs) i t
      ≡ p (write_rows p (take j xs) i t) (i + j) (get_or xs j d)
  write_rows-copy xs d i j t l =
      let e : length (take j xs) ≡ j = length-take-le j xs (omega arith) in
      rw (take-suc xs j d l, write_rows-snoc (take j xs) (get_or xs j d) i t, e)

-- single cells: one of the list set is one cell set
pub written-set : (xs : List ℕ) (i j x : ℕ) (t : List ℕ) → j < length xs → write_rows set (set xs j x) i t ≡ set (write_rows set xs i t) (i + j) x
unfolding write_rows
written-set [] i j x t l = absurd (omega arith)
written-set (y ∷ xs) i zero x t l = let e : i + 0 ≡ i = omega arith in rw e (sym (set-set (write_rows set xs (suc i) t) i y x))
written-set (y ∷ xs) i (suc j) x t l =
    let e : i + suc j ≡ suc i + j = omega arith in
    rw (e, written-set xs (suc i) j x t (omega arith)) (set_comm (write_rows set xs (suc i) t) (suc i + j) i x y (λ q. omega arith))

-- Reading what was written

module _ {A : Type 0} (p : List ℕ → ℕ → A → List ℕ) where
  -- what no write changes is unchanged; P is what holds of each that is written
  pub write_stack-keeps : {B : Type 0} (r : List ℕ → B) (P : A → Type 0) (n : ℕ) → ((t : List ℕ) (j : ℕ) (x : A) → j < n → P x → r (p t j x) ≡ r t)
      → (xs : List A) → length xs ≤ n → All P xs → (t : List ℕ) → r (write_stack p xs t) ≡ r t
  unfolding write_stack
  write_stack-keeps r P n keep [] l a t = refl
  write_stack-keeps r P n keep (x ∷ xs) l a t = keep (write_stack p xs t) (length xs) x (omega arith) a.0 ∙ write_stack-keeps r P n keep xs (omega arith) a.1 t

  -- a list's length, whatever is written
  module _ (long : (t : List ℕ) (j : ℕ) (x : A) → length (p t j x) ≡ length t) where
    pub write_stack-length : (xs : List A) (t : List ℕ) → length (write_stack p xs t) ≡ length t
    unfolding write_stack
    write_stack-length [] t = refl
    write_stack-length (x ∷ xs) t = long (write_stack p xs t) (length xs) x ∙ write_stack-length xs t

    pub write_rows-length : (xs : List A) (i : ℕ) (t : List ℕ) → length (write_rows p xs i t) ≡ length t
    unfolding write_rows
    write_rows-length [] i t = refl
    write_rows-length (x ∷ xs) i t = long (write_rows p xs (suc i) t) i x ∙ write_rows-length xs (suc i) t

    -- a written stack of at most n is read back, in a table of w cells
    pub stack-written : (g : List ℕ → ℕ → A) (P : A → Type 0) (w n : ℕ)
        → ((t : List ℕ) (i : ℕ) (x : A) → length t ≡ w → i < n → P x → g (p t i x) i ≡ x)
        → ((t : List ℕ) (i j : ℕ) (x : A) → i < j → P x → P (g t i) → g (p t j x) i ≡ g t i)
        → (xs : List A) → length xs ≤ n → All P xs → (t : List ℕ) → length t ≡ w → stack (g (write_stack p xs t)) (length xs) ≡ xs
    unfolding stack write_stack
    stack-written g P w n hit under [] l a t e = refl
    stack-written g P w n hit under (x ∷ xs) l a t e =
        let u : List ℕ = write_stack p xs t in
        let ih : stack (g u) (length xs) ≡ xs = stack-written g P w n hit under xs (omega arith) a.1 t e in
        let each : All P (stack (g u) (length xs)) = rw ih a.1 in
        rw (
          hit u (length xs) x (write_stack-length xs t ∙ e) (omega arith) a.0,
          stack-cong (g (p u (length xs) x)) (g u) (length xs) (λ i h. under u i (length xs) x h a.0 (all-stack P (g u) (length xs) each i h)),
          ih,
        )

    -- and so are written rows
    pub rows_written : (g : List ℕ → ℕ → A) (P : A → Type 0) (w n : ℕ)
        → ((t : List ℕ) (i : ℕ) (x : A) → length t ≡ w → i < n → P x → g (p t i x) i ≡ x)
        → ((t : List ℕ) (i j : ℕ) (x : A) → j < i → P x → P (g t i) → g (p t j x) i ≡ g t i)
        → (xs : List A) (i : ℕ) → i + length xs ≤ n → All P xs → (t : List ℕ) → length t ≡ w → rows (g (write_rows p xs i t)) (length xs) i ≡ xs
    unfolding rows write_rows
    rows_written g P w n hit above [] i l a t e = refl
    rows_written g P w n hit above (x ∷ xs) i l a t e =
        let u : List ℕ = write_rows p xs (suc i) t in
        let ih : rows (g u) (length xs) (suc i) ≡ xs = rows_written g P w n hit above xs (suc i) (omega arith) a.1 t e in
        let each : All P (rows (g u) (length xs) (suc i)) = rw ih a.1 in
        rw (
          hit u i x (write_rows-length xs (suc i) t ∙ e) (omega arith) a.0,
          rows-cong (g (p u i x)) (g u) (length xs) (suc i) (λ m h k. above u m i x (omega arith) a.0 (all-from P (g u) (length xs) (suc i) each m h k)),
          ih,
        )

-- Writes into one range of cells: g sets cells from lo up to hi alone, so it can be taken before or after what such a set can be taken before or after

abbrev pub Within : (List ℕ → List ℕ) → ℕ → ℕ → Type 0
Within g lo hi = (f : List ℕ → List ℕ) → ((t : List ℕ) (m v : ℕ) → lo ≤ m → m < hi → f (set t m v) ≡ set (f t) m v) → (t : List ℕ) → f (g t) ≡ g (f t)

pub within-set : (c x lo hi : ℕ) → lo ≤ c → c < hi → Within (λ t. set t c x) lo hi
within-set c x lo hi a b = λ f h t. h t c x a b

pub within_both : (g k : List ℕ → List ℕ) (lo hi : ℕ) → Within g lo hi → Within k lo hi → Within (λ t. g (k t)) lo hi
within_both g k lo hi a b = λ f h t. a f h (k t) ∙ ap g (b f h t)

-- writes into ranges that have no cell in common commute
pub within-apart : (g k : List ℕ → List ℕ) (lo hi from to : ℕ) → Within g lo hi → Within k from to
    → ((m n : ℕ) → lo ≤ m → m < hi → from ≤ n → n < to → m ≢ n) → (t : List ℕ) → g (k t) ≡ k (g t)
within-apart g k lo hi from to a b apart t =
    b g (λ s m v x y. sym (a (λ u. set u m v) (λ u n w p q. set_comm u n m w v (apart n m p q x y)) s)) t
