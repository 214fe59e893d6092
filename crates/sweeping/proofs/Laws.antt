-- Laws of marking and freeing, one turn of a loop for each: an object, values upward and downward, frames, the work list, and the rows that are freed.
use mathlib.Core.Path.{◌≡◌, refl, sym, ap, ◌∙◌}
use mathlib.Core.Bool.{Bool, true, false}
use mathlib.Core.List.{List, [], ◌∷◌, ◌++◌, append_assoc}
use Prim.Native.Nat.{ℕ, zero, suc, ◌+◌, ◌*◌, ◌-◌, ◌<◌, ◌≤◌}
use native.Mathlib.Numerals.{add-one}
use native.Mathlib.Omega.{arith}
use lib.ListN.{replicate, get_or, set}
use lib.Dec.{eqb, ltb}
use borrow.Author.Tests.{eq-eqb, ne_eqb, lt-ltb, le-ltb, ltb-true}
use Rattle.definition.specs.Lists.{every, rows, stack}
use Rattle.definition.specs.Instructions.{pick}
use Rattle.definition.specs.Machine.{Value, empty_value, int_value, null_value, object_value, unlisted_value, Frame}
use Rattle.definition.specs.Sweeping.{named, roots}
use Rattle.definition.specs.Tables.{value_of, field_at, local_at, operand_at, frame_of, frame_at, owner_at}
use Rattle.layout.specs.Places.{rows_start, rows_step, rows_none, rows-cong, stack_top}
use Rattle.sweeping.specs.Marking.{Work, work, added, mark, mark_all, mark_value, value_from, field_names, follow, roots_of, marked, dead, freed, free_rows}

-- An object: marked before, no room, or marked now

module _ (w : Work) (o : ℕ) where
  pub mark-again : (get_or w.marks o 0 ≡ 0 → ⊥) → mark w o ≡ w
  unfolding mark
  mark-again h = rw (ne_eqb (get_or w.marks o 0) 0 h, mark)

  pub mark-full : get_or w.marks o 0 ≡ 0 → 256 ≤ w.size → mark w o ≡ w
  unfolding mark
  mark-full h l = rw (eq-eqb (get_or w.marks o 0) 0 h, le-ltb w.size 256 l, mark)

  pub mark-new : get_or w.marks o 0 ≡ 0 → w.size < 256 → mark w o ≡ added w o
  unfolding mark
  mark-new h l = rw (eq-eqb (get_or w.marks o 0) 0 h, lt-ltb w.size 256 l, mark)

-- A value's cells

module _ (w : Work) (k b : ℕ) where
  pub value-object : k ≡ 3 → mark_value w (value_of k b) ≡ mark w b
  unfolding mark_value value_of pick
  value-object e = rw e

  pub value-other : (k ≡ 3 → ⊥) → mark_value w (value_of k b) ≡ w
  unfolding mark_value value_of pick
  value-other h = rw (ne_eqb k 3 h) (go (eqb k 1) (eqb b 0) (eqb k 0) (eqb k 2))
    where
      go : (s t u v : Bool) → mark_value w (pick s (int_value b) (pick t (pick u empty_value (pick v null_value (unlisted_value k b))) (unlisted_value k b))) ≡ w
      go true t u v = refl
      go false true true v = refl
      go false true false true = refl
      go false true false false = refl
      go false false u v = refl

-- Lists of objects and values

pub mark-both : (w : Work) (os ps : List ℕ) → mark_all w (os ++ ps) ≡ mark_all (mark_all w os) ps
unfolding mark_all
mark-both w [] ps = refl
mark-both w (o ∷ os) ps = mark-both (mark w o) os ps

mark-named : (w : Work) (v : Value) (vs : List Value) → mark_all w (named (v ∷ vs)) ≡ mark_all (mark_value w v) (named vs)
unfolding mark_all mark_value named
mark-named w empty_value vs = refl
mark-named w (int_value n) vs = refl
mark-named w null_value vs = refl
mark-named w (object_value o) vs = refl
mark-named w (unlisted_value k b) vs = refl

mark-none : (w : Work) → mark_all w (named []) ≡ w
unfolding mark_all named
mark-none w = refl

-- w becomes v in a turn that marks the value x
module _ (g : ℕ → Value) (w v : Work) (x : Value) (turn : v ≡ mark_value w x) where
  pub values-turn : (n i : ℕ) → i < n → x ≡ g i → mark_all v (named (rows g (n - (i + 1)) (i + 1))) ≡ mark_all w (named (rows g (n - i) i))
  values-turn n i l e = sym (ap (λ (vs : List Value). mark_all w (named vs)) (rows_step g n i l) ∙ mark-named w (g i) _ ∙ rw (turn, e))

  pub stack-turn : (k : ℕ) → 0 < k → x ≡ g (k - 1) → mark_all v (named (stack g (k - 1))) ≡ mark_all w (named (stack g k))
  stack-turn k l e = sym (ap (λ (vs : List Value). mark_all w (named vs)) (stack_top g k l) ∙ mark-named w (g (k - 1)) _ ∙ rw (turn, e))

module _ (g : ℕ → Value) (w : Work) where
  pub values-start : (n : ℕ) → mark_all w (named (rows g (n - 0) 0)) ≡ mark_all w (named (rows g n 0))
  values-start n = ap (λ (vs : List Value). mark_all w (named vs)) (rows_start g n)

  pub values-end : (n i : ℕ) → n ≤ i → mark_all w (named (rows g (n - i) i)) ≡ w
  values-end n i l = ap (λ (vs : List Value). mark_all w (named vs)) (rows_none g n i l) ∙ mark-none w

  pub stack-end : (k : ℕ) → k ≤ 0 → mark_all w (named (stack g k)) ≡ w
  unfolding stack
  stack-end zero l = mark-none w
  stack-end (suc k) l = absurd (omega arith)

-- locals and fields are values from a cell on

locals-from : (t : List ℕ) (b : ℕ) → rows (value_from t (b + 4)) 8 0 ≡ rows (local_at t b) 8 0
unfolding value_from local_at
locals-from t b = rows-cong (value_from t (b + 4)) (local_at t b) 8 0 (λ m a c. (let e : b + 4 + 2 * m ≡ b + (4 + 2 * m) = omega arith in rw e))

fields-from : (t : List ℕ) (o k : ℕ) → rows (value_from t (o * 33 + 1)) k 0 ≡ rows (field_at t o) k 0
unfolding value_from field_at
fields-from t o k = rows-cong (value_from t (o * 33 + 1)) (field_at t o) k 0 (λ m a c. (let e : o * 33 + 1 + 2 * m ≡ o * 33 + (1 + 2 * m) = omega arith in rw e))

pub fields-named : (w : Work) (sizes t : List ℕ) (o r k : ℕ) → r ≡ o → k ≡ get_or sizes (get_or t (o * 33) 0) 0
    → mark_all w (named (rows (value_from t (r * 33 + 1)) k 0)) ≡ mark_all w (field_names sizes t o)
unfolding field_names
fields-named w sizes t o r k e q = rw (e, q) (ap (λ (vs : List Value). mark_all w (named vs)) (fields-from t o (get_or sizes (get_or t (o * 33) 0) 0)))

pub frame-named : (w v : Work) (t : List ℕ) (b r d : ℕ) → r ≡ b → d ≡ get_or t (b + 3) 0 → v ≡ mark_all w (named (stack (operand_at t b) d))
    → mark_all v (named (rows (value_from t (r + 4)) 8 0)) ≡ mark_all w (named (frame_at t b).operands ++ named (frame_at t b).locals)
unfolding frame_at frame_of
frame-named w v t b r d e q turn =
    rw (turn, e, q) (ap (λ (vs : List Value). mark_all (mark_all w (named (stack (operand_at t b) (get_or t (b + 3) 0)))) (named vs)) (locals-from t b)
    ∙ sym (mark-both w (named (stack (operand_at t b) (get_or t (b + 3) 0))) (named (rows (local_at t b) 8 0))))

-- Frames, from the top

module _ (h : ℕ → Frame) (w : Work) where
  pub frames-turn : (v : Work) (k : ℕ) → 0 < k → v ≡ mark_all w (named (h (k - 1)).operands ++ named (h (k - 1)).locals)
      → mark_all v (roots (stack h (k - 1))) ≡ mark_all w (roots (stack h k))
  unfolding roots
  frames-turn v k l e =
      let f = h (k - 1) in
      let rest = roots (stack h (k - 1)) in
      ap (λ (z : Work). mark_all z rest) e
      ∙ (sym (mark-both w (named f.operands ++ named f.locals) rest)
      ∙ (ap (mark_all w) (append_assoc (named f.operands) (named f.locals) rest) ∙ ap (λ (fs : List Frame). mark_all w (roots fs)) (sym (stack_top h k l))))

  pub frames-end : (k : ℕ) → k ≤ 0 → mark_all w (roots (stack h k)) ≡ w
  unfolding stack roots mark_all
  frames-end zero l = refl
  frames-end (suc k) l = absurd (omega arith)

-- The work list: never more than 256

mark-few : (w : Work) (o : ℕ) → w.size ≤ 256 → (mark w o).size ≤ 256
unfolding mark
mark-few w o l = go (eqb (get_or w.marks o 0) 0) (ltb w.size 256) refl
  where
    go : (s t : Bool) → ltb w.size 256 ≡ t
        → (elim s as (λ _. Work) [ true ↦ elim t as (λ _. Work) [ true ↦ added w o | false ↦ w ] | false ↦ w ]).size ≤ 256
    go true true e = omega (arith, ltb-true w.size 256 e)
    go true false e = l
    go false t e = l

pub all-few : (w : Work) (os : List ℕ) → w.size ≤ 256 → (mark_all w os).size ≤ 256
unfolding mark_all
all-few w [] l = l
all-few w (o ∷ os) l = all-few (mark w o) os (mark-few w o l)

pub few-kept : (w v : Work) (os : List ℕ) → v ≡ mark_all w os → w.size ≤ 256 → v.size ≤ 256
few-kept w v os e l = rw e (all-few w os l)

module _ (names : ℕ → List ℕ) (w : Work) where
  pub follow-turn : (v : Work) (i : ℕ) → i < w.size → i < 256 → v ≡ mark_all w (names (get_or w.list i 0)) → follow names (256 - (i + 1)) (i + 1) v ≡ follow names (256 - i) i w
  unfolding follow
  follow-turn v i l m e =
      let k : 256 - i ≡ suc (256 - (i + 1)) = omega arith in
      rw (k, add-one i) (rw (lt-ltb i w.size l, follow, e))

  pub follow-end : (k i : ℕ) → w.size ≤ i → follow names k i w ≡ w
  unfolding follow
  follow-end zero i l = refl
  follow-end (suc k) i l = rw (le-ltb i w.size l, follow)

pub marked_by : (sizes counts objects frames marks : List ℕ) (u v w : Work) → u ≡ mark_all (work marks (replicate 256 0) 0) (roots_of counts frames 0)
    → v ≡ mark_all u (roots_of counts frames 1) → w ≡ follow (field_names sizes objects) 256 0 v → w.marks ≡ (marked sizes counts objects frames marks).marks
unfolding marked
marked_by sizes counts objects frames marks u v w e f g =
    ap (λ (z : Work). z.marks) (g ∙ ap (follow (field_names sizes objects) 256 0) (f ∙ ap (λ (z : Work). mark_all z (roots_of counts frames 1)) e))

-- Freeing: a row that is free, one in use, and a turn for each

module _ (marks c : List ℕ) (o : ℕ) where
  pub dead-free : owner_at c o ≡ 0 → dead marks c o ≡ false
  unfolding dead every
  dead-free e = rw (e, every)

  pub dead-used : (owner_at c o ≡ 0 → ⊥) → dead marks c o ≡ eqb (get_or marks o 0) 0
  unfolding dead every
  dead-used h = rw (lt-ltb 0 (owner_at c o) (omega (arith, h)), every) (last (eqb (get_or marks o 0) 0))
    where
      last : (t : Bool) → every (t ∷ []) ≡ t
      last true = refl
      last false = refl

module _ (marks c : List ℕ) (n o m : ℕ) (l : o < n) where
  pub free-turn : dead marks c o ≡ true → free_rows marks (n - (o + 1)) (o + 1) (set c (8 + o) 0) (m + 1) ≡ free_rows marks (n - o) o c m
  unfolding free_rows
  free-turn h = let k : n - o ≡ suc (n - (o + 1)) = omega arith in rw (k, add-one o) (rw (h, free_rows))

  pub keep-turn : dead marks c o ≡ false → free_rows marks (n - (o + 1)) (o + 1) c m ≡ free_rows marks (n - o) o c m
  unfolding free_rows
  keep-turn h = let k : n - o ≡ suc (n - (o + 1)) = omega arith in rw (k, add-one o) (rw (h, free_rows))

pub free-start : (marks c : List ℕ) (n k m : ℕ) → k ≡ n → free_rows marks (k - 0) 0 c m ≡ free_rows marks n 0 c m
free-start marks c n k m e = let z : k - 0 ≡ n = omega arith in rw z

pub free-end : (marks c : List ℕ) (n o m : ℕ) → n ≤ o → free_rows marks (n - o) o c m ≡ freed c m
unfolding free_rows
free-end marks c n o m l = let k : n - o ≡ 0 = omega arith in rw k
