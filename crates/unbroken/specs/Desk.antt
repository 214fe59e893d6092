-- The publishers' desk says what a define would: its 2, 15 or 6 is the word that a define of those bytes gives on a store that isn't broken, by any loader;
-- where it says 0, no define of them is refused with 2, 15 or 6.
use Rattle.std.specs.Prelude.{◌≡◌, Bool, List, [], ◌∷◌, ltb}
use Rattle.std.proofs.Math.Path.{refl}
use Rattle.std.proofs.Common.{ap, ◌∙◌, arith, lt-ltb}
use Rattle.std.proofs.Math.Bool.{true, false, false≢true, not}
use Rattle.std.proofs.Math.Option.{Option, none, some}
use Prim.Native.Nat.{ℕ, suc, ◌<◌}
use Rattle.definition.specs.Lists.{any, is_none}
use Rattle.definition.specs.Answers.{number_of}
use Rattle.definition.specs.Classes.{Method}
use Rattle.definition.specs.Verifier.{Note, unmapped, notes_of}
use Rattle.definition.specs.File.{File, read_file, class_of}
use Rattle.definition.specs.Tables.{Tables}
use Rattle.definition.specs.Broken.{broken}
use Rattle.definition.specs.Calls.{call_define, perform}
use Rattle.definition.specs.Desk.{verifier_number, desk_number}
use Rattle.laws.specs.Walk.{notes-by-name}
use Rattle.laws.specs.Causes.{cause, first, define_causes, row_causes, causes}
use Rattle.unbroken.specs.First.{found, applied, first-applies}

-- the verifier doesn't ask for the loader
notes-same : (l : ℕ) (f : File) (ms : List Method) → notes_of (class_of l f) ms ≡ notes_of (class_of 0 f) ms
unfolding notes_of
notes-same l f [] = refl
notes-same l f (m ∷ ms) = rw (notes-by-name (class_of l f) (class_of 0 f) m refl refl, notes-same l f ms) refl

unmapped-same : (l : ℕ) (f : File) (ms : List Method) → any (unmapped (class_of l f)) ms ≡ any (unmapped (class_of 0 f)) ms
unfolding any unmapped
unmapped-same l f [] = refl
unmapped-same l f (m ∷ ms) = ap (λ (b : Bool). elim (unmapped (class_of 0 f) m) as (λ _. Bool) [ true ↦ true | false ↦ b ]) (unmapped-same l f ms)

-- the number of a file that can be read
abbrev judged : Bool → Option (List Note) → ℕ
judged u o = elim u as (λ _. ℕ) [ true ↦ 15 | false ↦ elim o as (λ _. ℕ) [ none ↦ 6 | some _ ↦ 0 ] ]

module _ (l : ℕ) (bs : List ℕ) (t : Tables) where
  module _ (h : broken t ≡ false) (small : l < 16) where
    unread : read_file bs ≡ none → first (causes (call_define l bs) t) ≡ 2
    unfolding causes row_causes define_causes is_none
    unread e = rw e (found (cause 1 (broken t) ∷ cause 3 (not (ltb l 16)) ∷ []) 2 _ (h, (ap not (lt-ltb l 16 small), tt)))

    unmaps : (f : File) → read_file bs ≡ some f → any (unmapped (class_of 0 f)) f.methods ≡ true → first (causes (call_define l bs) t) ≡ 15
    unfolding causes row_causes define_causes is_none
    unmaps f e q = rw e (rw (unmapped-same l f f.methods ∙ q) (found (cause 1 (broken t) ∷ cause 3 (not (ltb l 16)) ∷ cause 2 false ∷ []) 15 _ (h, (ap not (lt-ltb l 16 small), (refl, tt)))))

    unverified : (f : File) → read_file bs ≡ some f → any (unmapped (class_of 0 f)) f.methods ≡ false → notes_of (class_of 0 f) f.methods ≡ none → first (causes (call_define l bs) t) ≡ 6
    unfolding causes row_causes define_causes is_none
    unverified f e u q = rw e (rw (unmapped-same l f f.methods ∙ u, notes-same l f f.methods ∙ q)
        (found (cause 1 (broken t) ∷ cause 3 (not (ltb l 16)) ∷ cause 2 false ∷ cause 15 false ∷ []) 6 _ (h, (ap not (lt-ltb l 16 small), (refl, (refl, tt))))))

    -- 2, 15 or 6
    pub desk-refuses : (n : ℕ) → desk_number bs ≡ suc n → number_of (perform (call_define l bs) t).answer ≡ suc n
    unfolding desk_number verifier_number
    desk-refuses n d = first-applies (call_define l bs) t ∙ go (read_file bs) refl d
      where
        noted : (f : File) → read_file bs ≡ some f → (u : Bool) → any (unmapped (class_of 0 f)) f.methods ≡ u → (o : Option (List Note)) → notes_of (class_of 0 f) f.methods ≡ o
            → judged u o ≡ suc n → first (causes (call_define l bs) t) ≡ suc n
        noted f e true r o q d = unmaps f e r ∙ d
        noted f e false r none q d = unverified f e r q ∙ d
        noted f e false r (some ns) q d = absurd (omega arith)

        go : (o : Option File) → read_file bs ≡ o → ◌≡◌ {A = ℕ} (elim o as (λ _. ℕ) [ none ↦ 2 | some f ↦ judged (any (unmapped (class_of 0 f)) f.methods) (notes_of (class_of 0 f) f.methods) ]) (suc n)
            → first (causes (call_define l bs) t) ≡ suc n
        go none e d = unread e ∙ d
        go (some f) e d = noted f e (any (unmapped (class_of 0 f)) f.methods) refl (notes_of (class_of 0 f) f.methods) refl d

  abbrev Is : ℕ → Type 0
  Is n = first (causes (call_define l bs) t) ≡ n

  module _ (f : File) (e : read_file bs ≡ some f) where
    read : Is 2 → ⊥
    unfolding causes row_causes define_causes any is_none
    read q = false≢true (rw e at (applied (causes (call_define l bs) t) 1 q))

    maps : any (unmapped (class_of 0 f)) f.methods ≡ false → Is 15 → ⊥
    unfolding causes row_causes define_causes any is_none
    maps u q = false≢true (rw (e, unmapped-same l f f.methods ∙ u) at (applied (causes (call_define l bs) t) 14 q))

    verified : (ns : List Note) → notes_of (class_of 0 f) f.methods ≡ some ns → Is 6 → ⊥
    unfolding causes row_causes define_causes any is_none
    verified ns n q = false≢true (rw (e, notes-same l f f.methods ∙ n) at (applied (causes (call_define l bs) t) 5 q))

  -- 0
  pub desk-passes : desk_number bs ≡ 0
      → (number_of (perform (call_define l bs) t).answer ≡ 2 → ⊥) × (number_of (perform (call_define l bs) t).answer ≡ 15 → ⊥) × (number_of (perform (call_define l bs) t).answer ≡ 6 → ⊥)
  unfolding desk_number verifier_number
  desk-passes d = rw (first-applies (call_define l bs) t) (go (read_file bs) refl d)
    where
      noted : (f : File) → read_file bs ≡ some f → (u : Bool) → any (unmapped (class_of 0 f)) f.methods ≡ u → (o : Option (List Note)) → notes_of (class_of 0 f) f.methods ≡ o
          → judged u o ≡ 0 → (Is 2 → ⊥) × (Is 15 → ⊥) × (Is 6 → ⊥)
      noted f e true r o q d = absurd (omega arith)
      noted f e false r none q d = absurd (omega arith)
      noted f e false r (some ns) q d = (read f e, maps f e r, verified f e ns q)

      go : (o : Option File) → read_file bs ≡ o → ◌≡◌ {A = ℕ} (elim o as (λ _. ℕ) [ none ↦ 2 | some f ↦ judged (any (unmapped (class_of 0 f)) f.methods) (notes_of (class_of 0 f) f.methods) ]) 0
          → (Is 2 → ⊥) × (Is 15 → ⊥) × (Is 6 → ⊥)
      go none e d = absurd (omega arith)
      go (some f) e d = noted f e (any (unmapped (class_of 0 f)) f.methods) refl (notes_of (class_of 0 f) f.methods) refl d
