-- What a drive from an accepted boot leaves is safe, and its answers' cells say so.
use Rattle.std.specs.Prelude as Std
use Rattle.std.specs.Prelude.{◌≡◌, refl, Bool, true, false, List, [], ◌∷◌, ◌≢◌, ℕ, zero, suc, ◌+◌, ◌*◌, ◌<◌, ◌≤◌, length, get_or, ltb}
use Rattle.std.proofs.Common.{sym, ap, subst, ◌∙◌, arith, length-set, get_or-set_same, ltb-true, ltb-false}
use Rattle.std.proofs.Math.Option.{some}
use Rattle.std.proofs.Math.ListN.{get_elem?, set, get_or-eq_default}
use Rattle.std.proofs.Math.Seq.{get_or-set_other}
use Rattle.definition.specs.Lists.{write_rows}
use Rattle.definition.specs.declared.Reply.{Reply}
use Rattle.definition.specs.declared.Reply.TheVariants.{Accepted}
use Rattle.definition.specs.Answers.{number_of, ends_in, count_of}
use Rattle.definition.specs.Tables.{Tables}
use Rattle.definition.specs.Calls.{Done, done, Call, boot, perform, perform_all}
use Rattle.definition.specs.Safety.{Safe}
use Rattle.safety.specs.Safety.{safety}
use Rattle.driver.specs.Driven.{put_reply, is_accepted, Driven, driven, performed, drive, SafelyDriven}
use Rattle.driver.specs.Laws.{drive-after}

-- a cell that a number other than 14 is written into, if there is such a cell, does not read 14
cell-not : (s : List ℕ) (m v : ℕ) → v ≢ 14 → get_or (set s m v) m 0 ≢ 14
cell-not s m v h e = go (ltb m (length s)) refl
  where
    go : (b : Bool) → ltb m (length s) ≡ b → ⊥
    go true q = h (sym (get_or-set_same s m v 0 (ltb-true m (length s) q)) ∙ e)
    go false q =
        let past : length (set s m v) ≤ m = omega (arith, length-set s m v, ltb-false m (length s) q) in
        let z : ◌≡◌ {A = ℕ} 0 14 = sym (get_or-eq_default (set s m v) 0 past) ∙ e in
        omega arith

module _ (s : List ℕ) (i : ℕ) (r : Reply) where
  number-not : number_of r ≢ 14 → get_or (put_reply s i r) (i * 3) 0 ≢ 14
  unfolding put_reply
  number-not h e =
      let a = set s (i * 3) (number_of r) in
      let b = set a (i * 3 + 1) (ends_in r) in
      cell-not s (i * 3) (number_of r) h
      (sym (get_or-set_other b (i * 3 + 2) (i * 3) (count_of r) 0 (λ q. omega arith) ∙ get_or-set_other a (i * 3 + 1) (i * 3) (ends_in r) 0 (λ q. omega arith)) ∙ e)

  end-not : ends_in r ≢ 14 → get_or (put_reply s i r) (i * 3 + 1) 0 ≢ 14
  unfolding put_reply
  end-not h e =
      let a = set s (i * 3) (number_of r) in
      let b = set a (i * 3 + 1) (ends_in r) in
      cell-not a (i * 3 + 1) (ends_in r) h (sym (get_or-set_other b (i * 3 + 2) (i * 3 + 1) (count_of r) 0 (λ q. omega arith)) ∙ e)

  reply-other : (m : ℕ) → m ≢ i * 3 → m ≢ i * 3 + 1 → m ≢ i * 3 + 2 → get_or (put_reply s i r) m 0 ≡ get_or s m 0
  unfolding put_reply
  reply-other m a b c = rw (get_or-set_other _ _ _ _ _ c, get_or-set_other _ _ _ _ _ b, get_or-set_other _ _ _ _ _ a)

-- none of the answers written is told as 14
replies-told : (rs : List Reply) (j : ℕ) (s : List ℕ) → ((i : ℕ) (a : Reply) → get_elem? rs i ≡ some a → (number_of a ≢ 14) × (ends_in a ≢ 14)) → (i : ℕ) → i < length rs
    → (get_or (write_rows put_reply rs j s) ((j + i) * 3) 0 ≢ 14) × (get_or (write_rows put_reply rs j s) ((j + i) * 3 + 1) 0 ≢ 14)
unfolding write_rows
replies-told [] j s h i l = absurd (omega arith)
replies-told (r ∷ rs) j s h zero l =
    let e : j + 0 ≡ j = omega arith in
    let t = write_rows put_reply rs (suc j) s in
    rw e (number-not t j r (h 0 r refl).0, end-not t j r (h 0 r refl).1)
replies-told (r ∷ rs) j s h (suc i) l =
    let t = write_rows put_reply rs (suc j) s in
    let e : j + suc i ≡ suc j + i = omega arith in
    let m = (suc j + i) * 3 in
    let first = reply-other t j r m (λ q. omega arith) (λ q. omega arith) (λ q. omega arith) in
    let second = reply-other t j r (m + 1) (λ q. omega arith) (λ q. omega arith) (λ q. omega arith) in
    rw (e, first, second) (replies-told rs (suc j) s (λ k a. h (suc k) a) i (omega arith))

answers-length : (cs : List Call) (t : Tables) → length (perform_all cs t).answer ≡ length cs
unfolding perform_all
answers-length [] t = refl
answers-length (c ∷ cs) t = ap suc (answers-length cs (perform c t).tables)

pub drive-safe : (cs : List Call) (t u : Tables) (before after : List ℕ) (r : Std.Option ℕ) → driven r u after ≡ drive cs t before
    → (driven r u after ≡ drive cs t before) × ((boot t).answer ≡ Accepted → SafelyDriven cs t u after)
unfolding performed
drive-safe cs t u before after r e = (e, λ h. safely (e ∙ drive-after cs t before (ap is_accepted h)) (safety t h cs))
  where
    d : Done (List Reply)
    d = perform_all cs (boot t).tables

    safely : driven r u after ≡ performed cs 0 (boot t).tables before → Safe d → SafelyDriven cs t u after
    safely q s = record {
      safe = subst (λ (z : Tables). Safe (done d.answer z)) (sym (ap (λ (x : Driven). x.tables) q)) s;
      told = λ i l.
          let z : 0 + i ≡ i = omega arith in
          rw (ap (λ (x : Driven). x.answers) q) (rw z at (replies-told d.answer 0 before s.not_stuck i (rw (answers-length cs (boot t).tables) l)));
    }
