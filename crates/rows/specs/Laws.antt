-- Laws for callers: what posting leaves.
use Rattle.std.specs.Prelude.{◌≡◌, Bool, ◌||◌, eqb}
use Rattle.std.proofs.Math.Path.{refl, ap}
use Rattle.std.proofs.Common.{sym, ◌∙◌, le-leb, leb-true, leb-false}
use Rattle.std.proofs.Math.Bool.{true, false}
use mathlib.Core.List.{List, [], ◌∷◌, ◌++◌}
use Prim.Native.Nat.{ℕ, suc, ◌+◌, ◌<◌, ◌≤◌}
use native.Mathlib.Omega.{arith}
use Rattle.std.proofs.Math.ListN.{length}
use Rattle.std.proofs.Math.Dec.{leb}
use Rattle.std.proofs.lemmas.Bool.{lt-leb}
use Rattle.definition.specs.Lists.{any, rows, write_rows}
use Rattle.definition.specs.Constraints.{Tie, Subtype, tie_is, new_tie}
use Rattle.definition.specs.Loading.{subtype_is, subtype_of, new_subtypes}
use Rattle.definition.specs.Verifier.{Note}
use Rattle.definition.specs.Tables.{subtype_at, put_subtype}
use Rattle.layout.specs.Places.{write_rows-length}
use Rattle.layout.specs.Cells.{subtype-rows, rows-after-last, rows-parts}
use Rattle.rows.specs.Posting.{new_subtypes_in, subtypes_after, Noted, noted, post_note, post_notes}

-- Ties

-- at most one tie is added
pub tie-few : (ts : List Tie) (l m n : ℕ) → length (new_tie ts l m n) ≤ 1
unfolding new_tie
tie-few ts l m n = go (eqb l m || eqb n 1 || any (tie_is l m n) ts)
  where
    go : (t : Bool) → length {A = Tie} (elim t as (λ _. List Tie) [ true ↦ [] | false ↦ record { one = l; two = m; name = n } ∷ [] ]) ≤ 1
    go true = omega arith
    go false = omega arith

-- Notes posted one after the other

pub post-append : (l : ℕ) (xs ys : List Note) (k : Noted) → post_notes l (xs ++ ys) k ≡ post_notes l ys (post_notes l xs k)
unfolding post_notes
post-append l [] ys k = refl
post-append l (x ∷ xs) ys k = post-append l xs ys (post_note l x k)

note-few : (ss : List Subtype) (l : ℕ) (n : Note) → length (new_subtypes ss l (n ∷ [])) ≤ 1
unfolding new_subtypes
note-few ss l n = go (any (subtype_is l n) ss)
  where
    go : (b : Bool) → length {A = Subtype} (elim b as (λ _. List Subtype) [ true ↦ [] | false ↦ subtype_of l n ∷ [] ]) ≤ 1
    go true = omega arith
    go false = omega arith

module _ (l : ℕ) (n : Note) (t : List ℕ) (c : ℕ) where
  pub new-few : length (new_subtypes_in t c l (n ∷ [])) ≤ 1
  unfolding new_subtypes_in
  new-few = note-few (rows (subtype_at t) c 0) l n

  abbrev posted : Noted
  posted = noted (subtypes_after t c (new_subtypes_in t c l (n ∷ []))) (c + length (new_subtypes_in t c l (n ∷ [])))

  by-room : (b : Bool) → leb c 256 ≡ b → post_note l n (noted t c) ≡ elim b as (λ _. Noted) [ true ↦ posted | false ↦ noted t c ]
  unfolding post_note
  by-room b e = rw (e, post_note) refl

  pub post-room : c ≤ 256 → post_note l n (noted t c) ≡ posted
  post-room h = by-room true (le-leb c 256 h)

  -- once there are too many, nothing more is posted
  pub post-over : 256 < c → post_note l n (noted t c) ≡ noted t c
  post-over h = by-room false (lt-leb c 256 h)

  pub post-few : c ≤ 257 → (post_note l n (noted t c)).count ≤ 257
  post-few h = go (leb c 256) refl
    where
      go : (b : Bool) → leb c 256 ≡ b → (post_note l n (noted t c)).count ≤ 257
      go true e = let o : c ≤ 256 = leb-true c 256 e in rw (post-room o) (omega (arith, new-few))
      go false e = rw (post-over (leb-false c 256 e)) h

  pub post-length : length (post_note l n (noted t c)).table ≡ length t
  unfolding subtypes_after
  post-length = go (leb c 256) refl
    where
      go : (b : Bool) → leb c 256 ≡ b → length (post_note l n (noted t c)).table ≡ length t
      go true e = ap (λ (k : Noted). length k.table) (by-room true e) ∙ write_rows-length put_subtype subtype-rows.long (new_subtypes_in t c l (n ∷ [])) c t
      go false e = ap (λ (k : Noted). length k.table) (by-room false e)

pub posts-few : (l : ℕ) (ns : List Note) (k : Noted) → k.count ≤ 257 → (post_notes l ns k).count ≤ 257
unfolding post_notes
posts-few l [] k h = h
posts-few l (n ∷ ns) k h = posts-few l ns (post_note l n k) (post-few l n k.table k.count h)

pub posts-length : (l : ℕ) (ns : List Note) (k : Noted) → length (post_notes l ns k).table ≡ length k.table
unfolding post_notes
posts-length l [] k = refl
posts-length l (n ∷ ns) k = posts-length l ns (post_note l n k) ∙ post-length l n k.table k.count

posts-over : (l : ℕ) (ns : List Note) (t : List ℕ) (c : ℕ) → 256 < c → post_notes l ns (noted t c) ≡ noted t c
unfolding post_notes
posts-over l [] t c h = refl
posts-over l (n ∷ ns) t c h = ap (post_notes l ns) (post-over l n t c h) ∙ posts-over l ns t c h

-- The rows that notes leave in a table with room for 256: those that were there and the new ones, or more than 256
pub record Posts (l : ℕ) (ns : List Note) (t : List ℕ) (c : ℕ) : Type 0 where
  pub fit : c + length (new_subtypes_in t c l ns) ≤ 256
      → post_notes l ns (noted t c) ≡ noted (subtypes_after t c (new_subtypes_in t c l ns)) (c + length (new_subtypes_in t c l ns))
  pub full : 256 < c + length (new_subtypes_in t c l ns) → 256 < (post_notes l ns (noted t c)).count

module _ (l : ℕ) (n : Note) (ns : List Note) (t : List ℕ) (c : ℕ) (room : 768 ≤ length t) (h : c ≤ 256)
    (again : (u : List ℕ) (d : ℕ) → 768 ≤ length u → d ≤ 256 → Posts l ns u d) where
  abbrev old : List Subtype
  old = rows (subtype_at t) c 0

  abbrev x : Subtype
  x = subtype_of l n

  abbrev more : List Subtype
  more = new_subtypes (old ++ (x ∷ [])) l ns

  there : any (subtype_is l n) old ≡ true → Posts l (n ∷ ns) t c
  unfolding new_subtypes_in new_subtypes subtypes_after write_rows post_notes
  there e =
      let same : new_subtypes old l (n ∷ ns) ≡ new_subtypes old l ns = rw (e, new_subtypes) refl in
      let one : new_subtypes old l (n ∷ []) ≡ [] = rw (e, new_subtypes) refl in
      let z : c + 0 ≡ c = omega arith in
      let first : post_note l n (noted t c) ≡ noted t c = post-room l n t c h ∙ rw (one, z) refl in
      let all : post_notes l (n ∷ ns) (noted t c) ≡ post_notes l ns (noted t c) = ap (post_notes l ns) first in
      let p = again t c room h in
      record { fit = rw (same, all) p.fit; full = rw (same, all) p.full }

  module _ (e : any (subtype_is l n) old ≡ false) where
    same : new_subtypes old l (n ∷ ns) ≡ x ∷ more
    unfolding new_subtypes
    same = rw (e, new_subtypes) refl

    first : post_note l n (noted t c) ≡ noted (put_subtype t c x) (c + 1)
    unfolding new_subtypes_in new_subtypes subtypes_after write_rows
    first = let one : new_subtypes old l (n ∷ []) ≡ x ∷ [] = rw (e, new_subtypes) refl in post-room l n t c h ∙ rw one refl

    all : post_notes l (n ∷ ns) (noted t c) ≡ post_notes l ns (noted (put_subtype t c x) (c + 1))
    unfolding post_notes
    all = ap (post_notes l ns) first

    last : 256 ≤ c → Posts l (n ∷ ns) t c
    unfolding new_subtypes_in
    last k =
        let o : 256 < c + 1 = omega arith in
        record {
          fit = λ f. absurd (omega (arith, ap length same));
          full = λ _. rw (all, posts-over l ns (put_subtype t c x) (c + 1) o) o;
        }

    on : c < 256 → Posts l (n ∷ ns) t c
    unfolding new_subtypes_in subtypes_after write_rows
    on k =
        let s : c + 1 ≡ suc c = omega arith in
        let p = again (put_subtype t c x) (c + 1) (omega (arith, subtype-rows.long t c x)) (omega arith) in
        let seen : rows (subtype_at (put_subtype t c x)) (c + 1) 0 ≡ old ++ (x ∷ []) = rw s (rows-after-last subtype-rows t c x (omega arith)) in
        let count : c + 1 + length more ≡ c + suc (length more) = omega arith in
        record {
          fit = λ f. rw (same, all)
              ((rw (seen, count) at (p.fit (rw seen (omega (arith, ap length same)))))
              ∙ ap (λ (u : List ℕ). noted u (c + suc (length more))) (sym (rows-parts subtype-rows (x ∷ []) more c t)));
          full = λ f. rw all (p.full (rw seen (omega (arith, ap length same))));
        }

  one_more : Posts l (n ∷ ns) t c
  one_more = go (any (subtype_is l n) old) refl (leb 256 c) refl
    where
      go : (b : Bool) → any (subtype_is l n) old ≡ b → (d : Bool) → leb 256 c ≡ d → Posts l (n ∷ ns) t c
      go true e d q = there e
      go false e true q = last e (leb-true 256 c q)
      go false e false q = on e (leb-false 256 c q)

pub posts : (l : ℕ) (ns : List Note) (t : List ℕ) (c : ℕ) → 768 ≤ length t → c ≤ 256 → Posts l ns t c
unfolding new_subtypes_in new_subtypes subtypes_after write_rows post_notes
posts l [] t c room h = let z : c + 0 ≡ c = omega arith in record { fit = λ _. rw z refl; full = λ o. absurd (omega arith) }
posts l (n ∷ ns) t c room h = one_more l n ns t c room h (λ u d. posts l ns u d)
