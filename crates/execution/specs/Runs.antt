-- A run, step by step: it stops at the first answer other than ran, or when its steps are used up. What a new object asks for is carried along.
use Rattle.std.specs.Prelude as Rust
use Rattle.definition.specs.declared.Refusal.{Refusal}
use Rattle.std.specs.Prelude.{◌≡◌, refl, Bool, true, false, List, [], ◌≢◌, eqb}
use Rattle.std.proofs.Math.Path.{sym, ap}
use Rattle.std.proofs.Common.{◌∙◌, true≢false, add-one}
use Rattle.std.proofs.lemmas.Bool.{false≢true}
use Prim.Native.Nat.{ℕ, zero, suc, ◌+◌, ◌-◌, ◌<◌, ◌≤◌}
use native.Mathlib.Omega.{arith}
use borrow.Author.Tests.{eqb-true, eqb-false, le-leb, lt-leb}
use Rattle.definition.specs.declared.Answer.{Answer}
use Rattle.definition.specs.declared.Answer.TheVariants.{Idle, Ran, Finished, Refused}
use Rattle.definition.specs.declared.Reply.{Reply}
use Rattle.definition.specs.declared.Reply.TheVariants.{RanFor, Denied}
use Rattle.definition.specs.declared.Refusal.TheVariants.{Word}
use Rattle.definition.specs.Instructions.{pick}
use Rattle.definition.specs.Machine.{Objects, unused, made_by}
use Rattle.definition.specs.Tables.{Tables, tables, view_base, objects_of, view_over, view}
use Rattle.definition.specs.Broken.{broken}
use Rattle.definition.specs.Calls.{Done, done, step_tables, go_on, run_from, run}
use Rattle.laws.specs.Objects.{unused-lowest, Numbered, numbered-exists}
use Rattle.laws.specs.Owners.{Leaves, leaves-still, leaves-quote, leaves-report}
use Rattle.unbroken.specs.Unbroken.{step-unbroken}
use Rattle.unbroken.specs.Parts.{step-leaves}
use Rattle.unbroken.specs.Share.{share-kept}
use Rattle.frames.specs.Unused.{unused_from, unused-is, unused-on}
use Rattle.frames.specs.Made.{made_in, made-by-is}
use Rattle.tasks.specs.Turns.{turn_of, turn_two, turn_is}
use Rattle.execution.specs.Decisions.{RoomFor}

-- a run goes on after this answer
abbrev pub goes_on : Answer → Bool
goes_on Idle = false
goes_on (Ran k) = true
goes_on (Finished k n) = false
goes_on (Refused w) = false

-- the lowest number unused, and how many objects the report made
abbrev pub RoomIn : List ℕ → ℕ → ℕ → Type 0
RoomIn N free number = (free ≡ unused_from N 0) × (number ≡ made_in N 1)

-- the same carried over a step of task k: the report made one more if it was its turn and the lowest number unused moved
unfoldable pub made_next : ℕ → ℕ → ℕ → ℕ → ℕ
made_next k free number next = pick (eqb k 0) number (pick (eqb next free) number (suc number))

abbrev pub RoomAfter : List ℕ → ℕ → ℕ → ℕ → ℕ → ℕ → Type 0
RoomAfter N k free number next left = (next ≡ unused_from N free) × (left ≡ made_next k free number next)

-- of n steps k ran, the last answer was a, and the tables are t
module _ (n k : ℕ) (a b : Answer) (t u : Tables) (steps : done b u ≡ step_tables t) where
  one_more : k < n → run_from step_tables (n - k) k a t ≡ go_on (run_from step_tables (n - (k + 1))) k b u
  unfolding run_from
  one_more l =
      let e : n - k ≡ suc (n - (k + 1)) = omega arith in
      ap (λ (z : ℕ). run_from step_tables z k a t) e ∙ (λ i. go_on (run_from step_tables (n - (k + 1))) k (sym steps i).answer (sym steps i).tables)

  pub run-stops : k < n → goes_on b ≡ false → done (RanFor k b) u ≡ run_from step_tables (n - k) k a t
  run-stops l h = sym (one_more l ∙ go b h)
    where
      go : (b : Answer) → goes_on b ≡ false → go_on (run_from step_tables (n - (k + 1))) k b u ≡ done (RanFor k b) u
      go Idle e = refl
      go (Ran j) e = absurd (true≢false e)
      go (Finished j v) e = refl
      go (Refused w) e = refl

  pub run_on : k < n → goes_on b ≡ true → run_from step_tables (n - (k + 1)) (k + 1) b u ≡ run_from step_tables (n - k) k a t
  run_on l h = sym (one_more l ∙ go b h)
    where
      go : (b : Answer) → goes_on b ≡ true → go_on (run_from step_tables (n - (k + 1))) k b u ≡ run_from step_tables (n - (k + 1)) (k + 1) b u
      go Idle e = absurd (false≢true e)
      go (Ran j) e = rw (add-one k)
      go (Finished j v) e = absurd (false≢true e)
      go (Refused w) e = absurd (false≢true e)

  -- a store that is not broken stays so
  pub still-whole : broken t ≡ false → broken u ≡ false
  still-whole h = rw (← ap (λ (d : Done Answer). d.tables) steps) at (step-unbroken t h)

  -- a step frees no row: those below the lowest unused stay in use, and the next is sought from there on
  pub next-unused : unused_from u.counts (unused_from t.counts 0) ≡ unused_from u.counts 0
  unfolding view view_over
  next-unused =
      let os : Objects = objects_of (view_base t) t in
      let lasts : Numbered os (objects_of (view_base u) u) = rw (← ap (λ (d : Done Answer). d.tables) steps) at (step-leaves t).objects in
      rw (unused-is (view_base t) t)
      (unused-on (view_base u) u (unused os) (λ o l. numbered-exists os (objects_of (view_base u) u) lasts o (unused-lowest os o l)) ∙ sym (unused-is (view_base u) u))

  -- and the report's objects are counted along
  pub next-room : (free number next left : ℕ) → RoomIn t.counts free number → RoomAfter u.counts (turn_of t.counts) free number next left → RoomIn u.counts next left
  unfolding made_next pick
  next-room free number next left r h = (e, h.1 ∙ counted)
    where
      os : Objects
      os = objects_of (view_base t) t

      qs : Objects
      qs = objects_of (view_base u) u

      e : next ≡ unused_from u.counts 0
      e = h.0 ∙ rw r.0 next-unused

      leaves : Leaves (turn_of t.counts) os qs
      leaves = unfold view view_over in (rw (← ap (λ (d : Done Answer). d.tables) steps) at (rw (turn_is t) at (step-leaves t).owners))

      counted : made_next (turn_of t.counts) free number next ≡ made_in u.counts 1
      counted =
          rw (e, r.0, r.1, made-by-is (view_base t) t 1, made-by-is (view_base u) u 1, unused-is (view_base t) t, unused-is (view_base u) u)
          (go (turn_of t.counts) (turn_two t.counts) leaves)
        where
          go : (k : ℕ) → k < 2 → Leaves k os qs → made_next k (unused os) (made_by 1 os) (unused qs) ≡ made_by 1 qs
          go k two l = task (eqb k 0) refl
            where
              moved : k ≢ 0 → (b : Bool) → eqb (unused qs) (unused os) ≡ b → pick b (made_by 1 os) (suc (made_by 1 os)) ≡ made_by 1 qs
              moved n true q = sym (leaves-still k os qs two l (eqb-true _ _ q))
              moved n false q = sym (leaves-report k os qs two l n (eqb-false _ _ q))

              task : (b : Bool) → eqb k 0 ≡ b → pick b (made_by 1 os) (pick (eqb (unused qs) (unused os)) (made_by 1 os) (suc (made_by 1 os))) ≡ made_by 1 qs
              task true q = sym (leaves-quote k os qs two l (eqb-true k 0 q))
              task false q = moved (eqb-false k 0 q) (eqb (unused qs) (unused os)) refl

-- sought from itself on it is found again
pub unused-again : (N : List ℕ) → unused_from N (unused_from N 0) ≡ unused_from N 0
unused-again N =
    let t : Tables = tables N [] [] [] [] [] [] [] in
    let os : Objects = objects_of (view_base t) t in
    rw (unused-is (view_base t) t) (unused-on (view_base t) t (unused os) (λ o l. unused-lowest os o l))

-- a step may begin with it
pub room_for : (N : List ℕ) (free number : ℕ) → RoomIn N free number → RoomFor N (turn_of N) free number
room_for N free number r = (rw r.0 (unused-again N), λ n. r.1 ∙ ap (made_in N) (first (turn_of N) (turn_two N) n))
  where
    first : (k : ℕ) → k < 2 → k ≢ 0 → 1 ≡ k
    first zero l n = absurd (n refl)
    first (suc k) l n = omega arith

-- the report has few objects
pub room-few : (t : Tables) → broken t ≡ false → (free number : ℕ) → RoomIn t.counts free number → number < 256
room-few t h free number r = omega (arith, r.1, made-by-is (view_base t) t 1, few)
  where
    few : made_by 1 (objects_of (view_base t) t) ≤ 192
    few = unfold view view_over in share-kept t h

pub run_ends : (n k : ℕ) (a : Answer) (t : Tables) → n ≤ k → done (RanFor k a) t ≡ run_from step_tables (n - k) k a t
unfolding run_from
run_ends n k a t l = let e : n - k ≡ 0 = omega arith in rw e

pub run-begins : (n : ℕ) (t : Tables) → run_from step_tables (n - 0) 0 Idle t ≡ run_from step_tables n 0 Idle t
run-begins n t = let e : n - 0 ≡ n = omega arith in rw e

-- Run

module _ (n : ℕ) (t : Tables) where
  pub run-broken : broken t ≡ true → done (Denied (Word 1)) t ≡ run n t
  unfolding run
  run-broken h = rw (h, run)

  module _ (whole : broken t ≡ false) where
    pub run_none : n ≡ 0 → done (Denied (Word 3)) t ≡ run n t
    unfolding run
    run_none e = rw (whole, run, e)

    pub run-many : 65535 < n → done (Denied (Word 3)) t ≡ run n t
    unfolding run
    run-many e = rw (whole, run, le-leb 1 n (omega arith), lt-leb n 65535 e)

    run-some : n ≢ 0 → n ≤ 65535 → (d : Done Reply) → d ≡ run_from step_tables n 0 Idle t → d ≡ run n t
    unfolding run
    run-some e l d h = h ∙ rw (whole, run, le-leb 1 n (omega arith), le-leb n 65535 l)

-- How many steps a run of n may take, or its refusal

abbrev pub Ruled : Tables → ℕ → Rust.Result ℕ Refusal → Type 0
Ruled t n (Rust.Ok k) = (broken t ≡ false) × (n ≢ 0) × (n ≤ 65535) × (k ≡ n)
Ruled t n (Rust.Err r) = done (Denied r) t ≡ run n t

-- a run that is not refused
pub run-allowed : (n : ℕ) (t : Tables) (k : ℕ) → Ruled t n (Rust.Ok k) → (d : Done Reply) → d ≡ run_from step_tables k 0 Idle t → d ≡ run n t
run-allowed n t k a d q = run-some n t a.0 a.1 a.2 d (rw a.3 at q)
