-- A frame's row: class, method, point, operand count, 8 locals, operands. It keeps the law of rows (`frame-rows`).
use Rattle.std.specs.Prelude.{◌≡◌, ◌≢◌, length, set}
use Rattle.std.proofs.Common.{sym, ◌∙◌, length-set, get_or-set_same, get_or-set_other}
use mathlib.Core.List.{List, ◌∷◌}
use Prim.Native.Nat.{ℕ, suc, ◌+◌, ◌*◌, ◌<◌, ◌≤◌}
use native.Mathlib.Omega.{arith}
use Rattle.std.proofs.Math.ListN.{get_or}
use Rattle.std.proofs.lemmas.List.{set-get_or}
use Rattle.definition.specs.Numbers.{operand_limit, local_count, value_cells, frame_cells, method_cell, point_cell, depth_cell, locals_cell, operands_cell}
use Rattle.definition.specs.Lists.{rows, write_rows, stack, write_stack}
use Rattle.definition.specs.Machine.{Value, Frame}
use Rattle.definition.specs.Tables.{value_of, value_at, local_at, put_local, operand_at, put_operand, frame, frame_of, frame_at, put_head, put_frame, frame_base, frame_in, put_frame_in}
use Rattle.layout.specs.Tests.{All}
use Rattle.layout.specs.Places.{rows-cong, stack-length, stack-cong, write_rows-same, write_stack-same, write_stack-above, write_rows-length, Within, within-set, within_both, within-apart}
use Rattle.layout.specs.Rows.{RowLaws}
use Rattle.layout.specs.Values.{Proper, Unread, place-length, place_same, place_set, place_at, places-back, put_place, stacked-back, unread-cell, unread-places, unread-stacked, value_at-other, value_at-set, within-places, within-stacked}

-- Frames: class, method, point, operand count, 8 locals, operands

-- the point and the operand count written
abbrev pub moved : List ℕ → ℕ → ℕ → ℕ → List ℕ
moved t b p d = set (set t (b + point_cell) p) (b + depth_cell) d

-- the same class and method with other operands and locals
abbrev pub frame_with : List ℕ → ℕ → ℕ → List Value → List Value → Frame
frame_with t b p o l = frame (get_or t b 0) (get_or t (b + method_cell) 0) p o l

-- a frame with a value above its operands
abbrev pub with_value : Frame → Value → Frame
with_value f v = frame f.class f.method f.point (v ∷ f.operands) f.locals

-- locals and operands read on where other cells of the row were written
module _ (t : List ℕ) (b : ℕ) where
  place-moved : (c i p d : ℕ) → locals_cell ≤ c → place_at b c t i ≡ place_at b c (moved t b p d) i
  place-moved c i p d h =
      sym (value_at-set (set t (b + point_cell) p) (b + (c + value_cells * i)) (b + depth_cell) d (λ e. omega arith) (λ e. omega arith)
      ∙ value_at-set t (b + (c + value_cells * i)) (b + point_cell) p (λ e. omega arith) (λ e. omega arith))

  operand-local : (i j : ℕ) (x : Value) → j < local_count → place_at b operands_cell t i ≡ place_at b operands_cell (put_place b locals_cell t j x) i
  operand-local i j x h = sym (value_at-other t (b + (operands_cell + value_cells * i)) (b + (locals_cell + value_cells * j)) x (λ e. omega arith) (λ e. omega arith) (λ e. omega arith))

  head-moved : (p d : ℕ) → put_head t b (get_or t b 0) (get_or t (b + method_cell) 0) p d ≡ moved t b p d
  head-moved p d = rw (set-get_or t b 0, set-get_or t (b + method_cell) 0)

-- point p and k operands of the row at b; nothing is asked of the row
module _ (t : List ℕ) (b p k : ℕ) where
  locals-moved : (d : ℕ) → rows (place_at b locals_cell t) local_count 0 ≡ rows (place_at b locals_cell (moved t b p d)) local_count 0
  locals-moved d = rows-cong (place_at b locals_cell t) (place_at b locals_cell (moved t b p d)) local_count 0 (λ i h l. place-moved t b locals_cell i p d (omega arith))

  operands-moved : (d : ℕ) → stack (place_at b operands_cell t) k ≡ stack (place_at b operands_cell (moved t b p d)) k
  operands-moved d = stack-cong (place_at b operands_cell t) (place_at b operands_cell (moved t b p d)) k (λ i l. place-moved t b operands_cell i p d (omega arith))

  locals-kept : (d : ℕ) → write_rows (put_place b locals_cell) (rows (place_at b locals_cell t) local_count 0) 0 (moved t b p d) ≡ moved t b p d
  locals-kept d = rw (locals-moved d) (write_rows-same (put_place b locals_cell) (place_at b locals_cell (moved t b p d)) (moved t b p d) (place_same b locals_cell (moved t b p d)) local_count 0)

  -- the lowest k operands kept: two cells
  pub frame-kept : put_frame t b (frame_of t b p k) ≡ moved t b p k
  unfolding put_frame frame_of put_operand operand_at put_local local_at
  frame-kept =
      rw (stack-length (place_at b operands_cell t) k, head-moved t b p k, locals-kept k, operands-moved k)
      (write_stack-same (put_place b operands_cell) (place_at b operands_cell (moved t b p k)) (moved t b p k) (place_same b operands_cell (moved t b p k)) k)

  -- and a value above them: two cells more
  pub frame-above : (v : Value) → put_frame t b (frame_with t b p (v ∷ stack (operand_at t b) k) (rows (local_at t b) local_count 0)) ≡ put_operand b (moved t b p (suc k)) k v
  unfolding put_frame put_operand operand_at put_local local_at
  frame-above v =
      rw (stack-length (place_at b operands_cell t) k, head-moved t b p (suc k), locals-kept (suc k), operands-moved (suc k))
      (write_stack-above (put_place b operands_cell) (place_at b operands_cell (moved t b p (suc k))) (moved t b p (suc k)) (place_same b operands_cell (moved t b p (suc k))) k v)

  -- the lowest k operands kept and a local set
  pub frame-local : (j : ℕ) (v : Value) → j < local_count → put_frame t b (frame_with t b p (stack (operand_at t b) k) (set (rows (local_at t b) local_count 0) j v))
      ≡ put_local b (moved t b p k) j v
  unfolding put_frame put_operand operand_at put_local local_at
  frame-local j v h =
      let u : List ℕ = moved t b p k in
      let s : List ℕ = put_place b locals_cell u j v in
      rw (
        stack-length (place_at b operands_cell t) k,
        head-moved t b p k,
        locals-moved k,
        place_set b locals_cell u local_count j v h,
        operands-moved k,
        stack-cong (place_at b operands_cell u) (place_at b operands_cell s) k (λ i l. operand-local u b i j v h),
      )
      (write_stack-same (put_place b operands_cell) (place_at b operands_cell s) s (place_same b operands_cell s) k)

pub frame_same : (t : List ℕ) (b : ℕ) → put_frame t b (frame_at t b) ≡ t
unfolding frame_at
frame_same t b = frame-kept t b (get_or t (b + point_cell) 0) (get_or t (b + depth_cell) 0) ∙ rw (set-get_or t (b + point_cell) 0) (set-get_or t (b + depth_cell) 0)

-- a value given to a waiting frame: its operand count and two cells
pub frame-given : (t : List ℕ) (b d : ℕ) (v : Value) → d ≡ get_or t (b + depth_cell) 0
    → put_frame t b (with_value (frame_at t b) v) ≡ put_operand b (set t (b + depth_cell) (suc d)) d v
unfolding frame_at frame_of
frame-given t b d v e = rw (← e, frame-above t b (get_or t (b + point_cell) 0) d v, set-get_or t (b + point_cell) 0)

pub frame_in-same : (t : List ℕ) (k i : ℕ) → put_frame_in k t i (frame_in t k i) ≡ t
unfolding put_frame_in frame_in
frame_in-same t k i = frame_same t (frame_base k i)

-- a frame reads its row alone, upward from its first cell
frame-cells : (t u : List ℕ) (b : ℕ) → ((c : ℕ) → c < operands_cell + value_cells * get_or t (b + depth_cell) 0 → get_or u (b + c) 0 ≡ get_or t (b + c) 0) → frame_at u b ≡ frame_at t b
unfolding frame_at frame_of operand_at local_at value_at
frame-cells t u b e =
    let z : b + 0 ≡ b = omega arith in
    let c0 : get_or u b 0 ≡ get_or t b 0 = rw z at (e 0 (omega arith)) in
    rw (
      c0,
      e 1 (omega arith),
      e 2 (omega arith),
      e 3 (omega arith),
      stack-cong (operand_at u b) (operand_at t b) (get_or t (b + depth_cell) 0) (λ i h. two (operands_cell + value_cells * i) (omega arith)),
      rows-cong (local_at u b) (local_at t b) local_count 0 (λ i h l. two (locals_cell + value_cells * i) (omega arith)),
    )
  where
    two : (c : ℕ) → c + 1 < operands_cell + value_cells * get_or t (b + depth_cell) 0 → value_of (get_or u (b + c) 0) (get_or u (b + c + 1) 0) ≡ value_of (get_or t (b + c) 0) (get_or t (b + c + 1) 0)
    two c h = let a : b + c + 1 ≡ b + (c + 1) = omega arith in rw (a, e c (omega arith), e (c + 1) h)

pub frame-unread : (b lo hi : ℕ) → hi ≤ b → Unread (λ s. frame_at s b) lo hi
frame-unread b lo hi h = λ t m v a k. frame-cells t (set t m v) b (λ c l. get_or-set_other t m (b + c) v 0 (λ e. omega arith))

-- what is read elsewhere stays where a frame is put
pub unread-frame : {B : Type 0} (r : List ℕ → B) (b hi : ℕ) → Unread r b hi → (f : Frame) → b + locals_cell ≤ hi → b + (locals_cell + value_cells * length f.locals) ≤ hi
    → b + (operands_cell + value_cells * length f.operands) ≤ hi
    → (t : List ℕ) → r (put_frame t b f) ≡ r t
unfolding put_frame put_operand put_local
unread-frame r b hi un f l m n t =
    let h : List ℕ = put_head t b f.class f.method f.point (length f.operands) in
    unread-stacked b operands_cell r b hi un f.operands (write_rows (put_place b locals_cell) f.locals 0 h) (omega arith) n
    ∙ (unread-places b locals_cell r b hi un f.locals 0 h (omega arith) (omega arith)
    ∙ (un (set (set (set t b f.class) (b + method_cell) f.method) (b + point_cell) f.point) (b + depth_cell) (length f.operands) (omega arith) (omega arith)
    ∙ (un (set (set t b f.class) (b + method_cell) f.method) (b + point_cell) f.point (omega arith) (omega arith)
    ∙ (un (set t b f.class) (b + method_cell) f.method (omega arith) (omega arith) ∙ un t b f.class (omega arith) (omega arith)))))

pub put_frame-length : (t : List ℕ) (b : ℕ) (f : Frame) → length (put_frame t b f) ≡ length t
put_frame-length t b f =
    unread-frame length b (b + (operands_cell + value_cells * length f.locals + 2 * length f.operands)) (λ s m v a k. length-set s m v) f (omega arith) (omega arith) (omega arith) t

-- a frame that fits its row
pub record FrameProper (f : Frame) : Type 0 where
  pub few : length f.operands ≤ operand_limit
  pub eight : length f.locals ≡ local_count
  pub operands : All Proper f.operands
  pub locals : All Proper f.locals

-- its row
unread-row : {B : Type 0} (r : List ℕ → B) (b : ℕ) → Unread r b (b + frame_cells) → (f : Frame) → FrameProper f → (t : List ℕ) → r (put_frame t b f) ≡ r t
unread-row r b un f h t = unread-frame r b (b + frame_cells) un f (omega arith) (omega (arith, h.eight)) (omega (arith, h.few)) t

module _ (t : List ℕ) (b : ℕ) (f : Frame) (room : b + frame_cells ≤ length t) (fits : FrameProper f) where
  abbrev head : List ℕ
  head = put_head t b f.class f.method f.point (length f.operands)

  abbrev located : List ℕ
  located = write_rows (put_place b locals_cell) f.locals 0 head

  -- the first four cells
  head-cell : (c : ℕ) → c < locals_cell → get_or (put_frame t b f) (b + c) 0 ≡ get_or head (b + c) 0
  unfolding put_frame put_operand put_local
  head-cell c l =
      unread-stacked b operands_cell (λ s. get_or s (b + c) 0) (b + locals_cell) (b + frame_cells) (unread-cell (b + c) (b + locals_cell) (b + frame_cells) (λ m j k e. omega arith))
      f.operands located (omega arith) (omega (arith, fits.few))
      ∙ unread-places b locals_cell (λ s. get_or s (b + c) 0) (b + locals_cell) (b + frame_cells) (unread-cell (b + c) (b + locals_cell) (b + frame_cells) (λ m j k e. omega arith))
      f.locals 0 head (omega arith) (omega (arith, fits.eight))

  head-length : length head ≡ length t
  head-length = simp length-set

  located-length : length located ≡ length t
  located-length = write_rows-length (put_place b locals_cell) (place-length b locals_cell) f.locals 0 head ∙ head-length

  head-class : get_or head b 0 ≡ f.class
  head-class =
      get_or-set_other (set (set (set t b f.class) (b + method_cell) f.method) (b + point_cell) f.point) (b + depth_cell) b (length f.operands) 0 (λ e. omega arith)
      ∙ (get_or-set_other (set (set t b f.class) (b + method_cell) f.method) (b + point_cell) b f.point 0 (λ e. omega arith)
      ∙ (get_or-set_other (set t b f.class) (b + method_cell) b f.method 0 (λ e. omega arith) ∙ get_or-set_same t b f.class 0 (omega arith)))

  head-method : get_or head (b + method_cell) 0 ≡ f.method
  head-method =
      get_or-set_other (set (set (set t b f.class) (b + method_cell) f.method) (b + point_cell) f.point) (b + depth_cell) (b + method_cell) (length f.operands) 0 (λ e. omega arith)
      ∙ (get_or-set_other (set (set t b f.class) (b + method_cell) f.method) (b + point_cell) (b + method_cell) f.point 0 (λ e. omega arith)
      ∙ get_or-set_same (set t b f.class) (b + method_cell) f.method 0 (simp length-set (omega arith)))

  head-point : get_or head (b + point_cell) 0 ≡ f.point
  head-point =
      get_or-set_other (set (set (set t b f.class) (b + method_cell) f.method) (b + point_cell) f.point) (b + depth_cell) (b + point_cell) (length f.operands) 0 (λ e. omega arith)
      ∙ get_or-set_same (set (set t b f.class) (b + method_cell) f.method) (b + point_cell) f.point 0 (simp length-set (omega arith))

  head-depth : get_or head (b + depth_cell) 0 ≡ length f.operands
  head-depth = get_or-set_same (set (set (set t b f.class) (b + method_cell) f.method) (b + point_cell) f.point) (b + depth_cell) (length f.operands) 0 (simp length-set (omega arith))

  operands-back : stack (operand_at (put_frame t b f) b) (length f.operands) ≡ f.operands
  unfolding put_frame operand_at put_operand put_local
  operands-back = stacked-back b operands_cell f.operands located (omega (arith, located-length, fits.few)) fits.operands

  locals-back : rows (local_at (put_frame t b f) b) local_count 0 ≡ f.locals
  unfolding put_frame local_at put_local put_operand
  locals-back =
      rows-cong (local_at (put_frame t b f) b) (place_at b locals_cell located) local_count 0 (λ i h l.
      unread-stacked b operands_cell (λ s. place_at b locals_cell s i) (b + operands_cell) (b + frame_cells)
      (λ s m v j k. value_at-set s (b + (locals_cell + value_cells * i)) m v (λ e. omega arith) (λ e. omega arith)) f.operands located (omega arith) (omega (arith, fits.few)))
      ∙ (rw fits.eight at (places-back b locals_cell f.locals head (omega (arith, head-length, fits.eight)) fits.locals))

  -- a frame that was put is read back
  frame_back : frame_at (put_frame t b f) b ≡ f
  unfolding frame_at frame_of
  frame_back =
      let z : b + 0 ≡ b = omega arith in
      let c0 : get_or (put_frame t b f) b 0 ≡ f.class = (rw z at (head-cell 0 (omega arith))) ∙ head-class in
      rw (c0, head-cell 1 (omega arith) ∙ head-method, head-cell 2 (omega arith) ∙ head-point, head-cell 3 (omega arith) ∙ head-depth, operands-back, locals-back)

-- Frames that fit keep the law of rows

within-frame : (b : ℕ) (f : Frame) → FrameProper f → Within (λ t. put_frame t b f) b (b + frame_cells)
unfolding put_frame put_operand put_local
within-frame b f h =
    let n : ℕ = b + frame_cells in
    within_both (λ t. write_stack (put_place b operands_cell) f.operands t) (λ t. write_rows (put_place b locals_cell) f.locals 0 (put_head t b f.class f.method f.point (length f.operands))) b n
    (within-stacked b operands_cell f.operands b n (omega arith) (omega (arith, h.few)))
    (within_both (λ t. write_rows (put_place b locals_cell) f.locals 0 t) (λ t. put_head t b f.class f.method f.point (length f.operands)) b n
    (within-places b locals_cell f.locals 0 b n (omega arith) (omega (arith, h.eight)))
    (within_both (λ t. set t (b + depth_cell) (length f.operands)) (λ t. set (set (set t b f.class) (b + method_cell) f.method) (b + point_cell) f.point) b n
    (within-set (b + depth_cell) (length f.operands) b n (omega arith) (omega arith))
    (within_both (λ t. set t (b + point_cell) f.point) (λ t. set (set t b f.class) (b + method_cell) f.method) b n
    (within-set (b + point_cell) f.point b n (omega arith) (omega arith))
    (within_both (λ t. set t (b + method_cell) f.method) (λ t. set t b f.class) b n
    (within-set (b + method_cell) f.method b n (omega arith) (omega arith)) (within-set b f.class b n (omega arith) (omega arith))))))

frame-other : (t : List ℕ) (i j : ℕ) (f : Frame) → i ≢ j → FrameProper f → FrameProper (frame_at t (i * frame_cells))
    → frame_at (put_frame t (j * frame_cells) f) (i * frame_cells) ≡ frame_at t (i * frame_cells)
frame-other t i j f n p q =
    let b : ℕ = i * frame_cells in
    let d : get_or t (b + depth_cell) 0 ≤ operand_limit = depth t b q in
    frame-cells t (put_frame t (j * frame_cells) f) b (λ c h.
    unread-row (λ s. get_or s (b + c) 0) (j * frame_cells) (unread-cell (b + c) (j * frame_cells) (j * frame_cells + frame_cells) (λ m a k e. omega arith)) f p t)
  where
    depth : (t : List ℕ) (b : ℕ) → FrameProper (frame_at t b) → get_or t (b + depth_cell) 0 ≤ operand_limit
    depth t b q = unfold frame_at frame_of in rw (stack-length (operand_at t b) (get_or t (b + depth_cell) 0)) at q.few

pub frame-rows : RowLaws (λ t i. frame_at t (i * frame_cells)) (λ t i f. put_frame t (i * frame_cells) f) frame_cells FrameProper
frame-rows = record {
  same = λ t i. frame_same t (i * frame_cells);
  back = λ t i f l p. frame_back t (i * frame_cells) f l p;
  other = frame-other;
  long = λ t i f. put_frame-length t (i * frame_cells) f;
  commute = λ t i j f g l p q.
      within-apart (λ s. put_frame s (i * frame_cells) f) (λ s. put_frame s (j * frame_cells) g) (i * frame_cells) (i * frame_cells + frame_cells) (j * frame_cells) (j * frame_cells + frame_cells)
      (within-frame (i * frame_cells) f p) (within-frame (j * frame_cells) g q) (λ m n a c d e r. omega arith) t;
}
