-- What is decided on a start: a refusal, or an object's class and number and the first frame's method.
use Rattle.std.specs.Prelude.{◌≡◌, refl, Bool, true, false, ◌&&◌, List, [], ◌∷◌, ◌≢◌, ℕ, zero, suc, ◌+◌, ◌<◌, ◌≤◌, length, get_or, leb, ltb}
use Rattle.std.proofs.Common.{sym, ◌∙◌, arith}
use Rattle.std.proofs.lemmas.Bool.{false≢true}
use Rattle.std.proofs.Math.Option.{none, some}
use borrow.Author.Tests.{lt-ltb, le-ltb, lt-leb, ltb-true}
use Rattle.definition.specs.Requests.{at}
use Rattle.definition.specs.Classes.{Base, find, selected, start_signature}
use Rattle.definition.specs.Constraints.{World}
use Rattle.definition.specs.declared.Refusal.TheVariants.{Wanted, Word}
use Rattle.definition.specs.Answers.{Result, refused, ok, ◌>>=◌, need, take?}
use Rattle.definition.specs.Machine.{int_value, Objects, unused, made, share_used, new_object, entry_frame, Progress}
use Rattle.definition.specs.Loading.{started}
use Rattle.definition.specs.Tables.{Tables, tables, frame_in, objects_of, frames_of, view_over, frames_in}
use Rattle.layout.specs.Places.{stack-length}
use Rattle.layout.specs.View.{count_at}
use Rattle.frames.specs.Unused.{unused_from, unused-is}
use Rattle.frames.specs.Made.{made_in, used_share, made-by-is, share-used-is}
use Rattle.resolution.specs.Quick.{quick_base}
use Rattle.access.specs.Accesses.{world_in}
use Rattle.access.specs.Makings.{room-left}
use Rattle.std.specs.Prelude as Rust
use Rattle.definition.specs.declared.Refusal.{Refusal}
use Rattle.opening.specs.declared.Opening.{Opening}

-- a refusal, or what a start makes: an object of class c with number o and a first frame in method j of class s
abbrev pub Answered : Type 0
Answered = Rust.Result Opening Refusal

abbrev pub deny : Refusal → Answered
deny r = Rust.Err r

abbrev pub first : ℕ → ℕ → ℕ → ℕ → Answered
first c s j o = Rust.Ok (record { class = c; method = record { class = s; place = j }; object = o })

-- an answer's meaning for task k: a refusal, or an object of class c with number o and a first frame in method j of class s
unfoldable pub opened_as : ℕ → World → Objects → ℕ → Answered → Result Progress
opened_as k w os v (Rust.Err r) = refused r
opened_as k w os v (Rust.Ok a) =
    ok (record { world = w; objects = made k (new_object w.base a.class) os; frames = entry_frame a.method.class a.method.place a.object (int_value v ∷ []) ∷ []; result = none })

-- what carrying it out asks: the number is the lowest unused
abbrev pub OpeningFits : List ℕ → Base → ℕ → ℕ → ℕ → Answered → Type 0
OpeningFits N B k l n (Rust.Err r) = Unit {0}
OpeningFits N B k l n (Rust.Ok a) = (k < 2) × (a.object ≡ unused_from N 0) × (a.object < 256) × (find B.cache (at l n) ≡ some a.class)

-- The answer r is right for a start of task k in method m of class n under loader l, whatever constraints, objects and frames there are

pub record Opened (N L K E : List ℕ) (k l n m : ℕ) (r : Answered) : Type 0 where
  pub says : (I S O F : List ℕ) (v : ℕ)
      → (let B = quick_base N L K E in let t = tables N L K E I S O F in
      opened_as k (world_in B t) (objects_of B t) v r
      ≡ (need (ltb k 2) (Word 3) >>= λ _. started k l n m v (world_in B t) (objects_of B t) (frames_in k (view_over B t))))
  pub fits : OpeningFits N (quick_base N L K E) k l n r

-- how many frames a task has
frames-count : (B : Base) (t : Tables) (k : ℕ) → k < 2 → length (frames_in k (view_over B t)) ≡ count_at t (6 + k)
unfolding view_over frames_of
frames-count B t zero h = stack-length (frame_in t.frames 0) (count_at t 6)
frames-count B t (suc zero) h = stack-length (frame_in t.frames 1) (count_at t 7)
frames-count B t (suc (suc k)) h = absurd (omega arith)

-- The cases, in order

module _ (N L K E : List ℕ) (k l n m : ℕ) where
  abbrev B : Base
  B = quick_base N L K E

  pub open-no-task : 2 ≤ k → Opened N L K E k l n m (deny (Word 3))
  unfolding opened_as need ◌>>=◌
  open-no-task h = record { says = λ I S O F v. rw (le-ltb k 2 h); fits = tt }

  module _ (two : k < 2) where
    pub open_unknown : (ltb l 16 && leb 2 n && leb 1 m) ≡ false → Opened N L K E k l n m (deny (Word 3))
    unfolding opened_as need ◌>>=◌ started
    open_unknown h = record { says = λ I S O F v. rw (lt-ltb k 2 two, h); fits = tt }

    module _ (known : (ltb l 16 && leb 2 n && leb 1 m) ≡ true) where
      pub open-busy : get_or N (6 + k) 0 ≢ 0 → Opened N L K E k l n m (deny (Word 12))
      unfolding opened_as need ◌>>=◌ started
      open-busy h = record {
        says = λ I S O F v. rw (lt-ltb k 2 two, known, frames-count B (tables N L K E I S O F) k two, lt-leb (get_or N (6 + k) 0) 0 (omega arith));
        fits = tt;
      }

      module _ (free : get_or N (6 + k) 0 ≡ 0) where
        pub open-wanted : find B.cache (at l n) ≡ none → Opened N L K E k l n m (deny (Wanted l n))
        unfolding opened_as need ◌>>=◌ take? started
        open-wanted h = record { says = λ I S O F v. rw (lt-ltb k 2 two, known, frames-count B (tables N L K E I S O F) k two, free, h); fits = tt }

        module _ (c : ℕ) (there : find B.cache (at l n) ≡ some c) where
          pub open-absent : selected B (start_signature m) c ≡ none → Opened N L K E k l n m (deny (Word 7))
          unfolding opened_as need ◌>>=◌ take? started
          open-absent h = record { says = λ I S O F v. rw (lt-ltb k 2 two, known, frames-count B (tables N L K E I S O F) k two, free, there, h); fits = tt }

          module _ (s j : ℕ) (selects : selected B (start_signature m) c ≡ some (record { class = s; place = j })) where
            module _ (number : ℕ) (counted : number ≡ made_in N k) where
              share : (I S O F : List ℕ) → share_used k (objects_of B (tables N L K E I S O F)) ≡ used_share k number
              share I S O F = let t = tables N L K E I S O F in sym (share-used-is k number (objects_of B t) (λ _. counted ∙ made-by-is B t k))

              pub open-share-used : used_share k number ≡ true → Opened N L K E k l n m (deny (Word 18))
              unfolding opened_as need ◌>>=◌ take? started
              open-share-used h = record {
                says = λ I S O F v. rw (lt-ltb k 2 two, known, frames-count B (tables N L K E I S O F) k two, free, there, selects, share I S O F ∙ h);
                fits = tt;
              }

              module _ (left : used_share k number ≡ false) (o : ℕ) (lowest : o ≡ unused_from N 0) where
                is-unused : (I S O F : List ℕ) → o ≡ unused (objects_of B (tables N L K E I S O F))
                is-unused I S O F = lowest ∙ unused-is B (tables N L K E I S O F)

                pub open_full : 256 ≤ o → Opened N L K E k l n m (deny (Word 10))
                unfolding opened_as need ◌>>=◌ take? started
                open_full h = record {
                  says = λ I S O F v.
                      rw (
                        lt-ltb k 2 two,
                        known,
                        frames-count B (tables N L K E I S O F) k two,
                        free,
                        there,
                        selects,
                        share I S O F ∙ left,
                        room-left k (objects_of B (tables N L K E I S O F)) o (is-unused I S O F),
                        le-ltb o 256 h,
                      );
                  fits = tt;
                }

                pub open-first : o < 256 → Opened N L K E k l n m (first c s j o)
                unfolding opened_as need ◌>>=◌ take? started
                open-first h = record {
                  says = λ I S O F v.
                      rw (
                        lt-ltb k 2 two,
                        known,
                        frames-count B (tables N L K E I S O F) k two,
                        free,
                        there,
                        selects,
                        share I S O F ∙ left,
                        room-left k (objects_of B (tables N L K E I S O F)) o (is-unused I S O F),
                        lt-ltb o 256 h,
                        ← is-unused I S O F,
                      );
                  fits = (two, lowest, h, there);
                }

-- a loader that is there
pub known-loader : (l n m : ℕ) → (ltb l 16 && leb 2 n && leb 1 m) ≡ true → l < 16
known-loader l n m h = go (ltb l 16) refl h
  where
    go : (u : Bool) → ltb l 16 ≡ u → (u && leb 2 n && leb 1 m) ≡ true → l < 16
    go true e q = ltb-true l 16 e
    go false e q = absurd (false≢true q)
