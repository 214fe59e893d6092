-- A file of version 1 has the notes and the types that it had, at every point of every method, verified or not; and the desk gives the number that it gave.
use Rattle.std.specs.Prelude.{◌≡◌, Bool, length, eqb}
use Rattle.std.proofs.Math.Path.{refl}
use Rattle.std.proofs.Common.{sym, ap, ◌∙◌}
use Rattle.std.proofs.Math.Bool.{true, false}
use Rattle.std.proofs.Math.Option.{Option, none, some}
use mathlib.Core.List.{List, [], ◌∷◌, Memᴰ}
use Prim.Native.Nat.{ℕ, zero, suc, ◌+◌}
use Rattle.definition.specs.declared.Kind.{Kind}
use Rattle.definition.specs.declared.Instruction.{Instruction}
use Rattle.definition.specs.Maybe.{◌>>=◌}
use Rattle.definition.specs.Classes.{Class, Method}
use Rattle.definition.specs.File.{File, read_file, class_of}
use Rattle.definition.specs.Instructions.{Decoded}
use Rattle.definition.specs.Verifier.{Flow, Note, Onward, Turn, TypeState, after, effect, entry_types, finished, flow_into, map_at, map_types, maps_past, notes_of, notes_of_method, onto, return_kind, returns, start_at, turn, types_at, types_in}
use Rattle.definition.specs.Numbers.{word_file, word_unverified}
use Rattle.definition.specs.Desk.{verifier_number, desk_number}
use Rattle.laws.specs.Options.{Holds}
use Rattle.laws.specs.Walk.{return-is}
use Rattle.layout.specs.Tests.{All}
use Rattle.definition.specs.First.Files.{first_read_file, first_decode}
use Rattle.definition.specs.First.Verifier.{first_effect, first_types_at, first_types_in, first_notes_of_method, first_notes_of, first_desk_number}
use Rattle.first.specs.SameFiles.{Old, OldMethod, Straight, after-straight, decode-straight, later_file, none_unmapped, read-old, same-all-notes, same-decode, same_effect, same-entry, same-notes, same_read}

module _ (version : ℕ) (code : List ℕ) (result : ℕ) (old : Old version) (q : ℕ) where
  -- where the walk goes on after a turn
  abbrev onwards : ℕ → Turn → Option TypeState
  onwards n t = elim t.next as (λ _. Option TypeState) [ finished ↦ none | onto r u ↦ types_at version code [] result n r [] u q ]

  -- nowhere after a return, which has no effect either
  after-return : (n p : ℕ) (t : Bool) (r : Option (List Note))
      → none ≡ ((r >>= λ ns. (elim t as (λ _. Option Onward) [ true ↦ some finished | false ↦ map_at [] p >>= λ m. some (onto p (map_types m)) ]) >>= λ o. some (record { notes = ns; next = o })) >>= onwards n)
  unfolding ◌>>=◌ map_at
  after-return n p true none = refl
  after-return n p true (some ns) = refl
  after-return n p false none = refl
  after-return n p false (some ns) = refl

  no-effect : (i : Instruction) (kind : Kind) (s : TypeState) → return_kind i ≡ some kind → effect i s ≡ none
  no-effect i kind s e = rw (return-is i kind e) (unfold effect in refl)

  same-types-at : (n p : ℕ) (s : TypeState) → first_types_at code result n p s q ≡ types_at version code [] result n p [] s q
  unfolding first_types_at types_at maps_past turn start_at ◌>>=◌
  same-types-at zero p s = refl
  same-types-at (suc n) p s = here (eqb p q) (λ r u. same-types-at n r u)
    where
      Later : Type 0
      Later = (r : ℕ) (u : TypeState) → first_types_at code result n r u q ≡ types_at version code [] result n r [] u q

      effects : (i : Decoded) → Straight i.instruction → return_kind i.instruction ≡ none → Later → (x : Option Flow)
          → (x >>= λ f. first_types_at code result n (p + i.size) f.types q) ≡ ((x >>= λ f. after version code [] result i.instruction (p + i.size) f) >>= onwards n)
      effects i h e ih none = unfold ◌>>=◌ in refl
      effects i h e ih (some f) = unfold ◌>>=◌ in rw (after-straight version code result old i.instruction (p + i.size) f h e) (ih (p + i.size) f.types)

      kinds : (i : Decoded) → Straight i.instruction → Later → (x : Option Kind) → return_kind i.instruction ≡ x
          → (first_effect i.instruction s >>= λ f. first_types_at code result n (p + i.size) f.types q) ≡ ((elim x as (λ _. Option Turn) [
            | some kind ↦ returns kind result s >>= λ ns. start_at version code [] result (p + i.size) >>= λ o. some (record { notes = ns; next = o })
            | none ↦ effect i.instruction s >>= λ f. after version code [] result i.instruction (p + i.size) f
          ]) >>= onwards n)
      kinds i h ih (some kind) e = rw (same_effect i.instruction h.one s, no-effect i.instruction kind s e) (after-return n (p + i.size) (eqb (p + i.size) (length code)) (returns kind result s))
      kinds i h ih none e = rw (same_effect i.instruction h.one s) (effects i h e ih (effect i.instruction s))

      go : (x : Option Decoded) → Holds x (λ i. Straight i.instruction) → Later
          → (x >>= λ i. first_effect i.instruction s >>= λ f. first_types_at code result n (p + i.size) f.types q) ≡ ((x >>= λ i. elim (return_kind i.instruction) as (λ _. Option Turn) [
            | some kind ↦ returns kind result s >>= λ ns. start_at version code [] result (p + i.size) >>= λ o. some (record { notes = ns; next = o })
            | none ↦ effect i.instruction s >>= λ f. after version code [] result i.instruction (p + i.size) f
          ]) >>= onwards n)
      go none h ih = unfold ◌>>=◌ in refl
      go (some i) h ih = unfold ◌>>=◌ in kinds i h ih (return_kind i.instruction) refl

      here : (b : Bool) → Later → ◌≡◌ {A = Option TypeState}
          (elim b as (λ _. Option TypeState) [ true ↦ some s | false ↦ first_decode code p >>= λ i. first_effect i.instruction s >>= λ f. first_types_at code result n (p + i.size) f.types q ])
          (elim b as (λ _. Option TypeState) [ true ↦ some s | false ↦ turn version code [] result p s >>= onwards n ])
      here true ih = refl
      here false ih = rw (sym (same-decode version code p old)) (go (first_decode code p) (decode-straight code p) ih)

same-types : (k : Class) (m : Method) → Old k.version → OldMethod m → (q : ℕ) → first_types_in k m q ≡ types_in k m q
unfolding first_types_in types_in
same-types k m old e q = rw (same-entry k m e.1, e.0, same-types-at k.version m.code m.signature.result old q (length m.code) 0 (entry_types k m)) (unfold flow_into map_at ◌>>=◌ in refl)

old-at : (ms : List Method) → All OldMethod ms → (m : Method) → Memᴰ m ms → OldMethod m
old-at [] h m never = elim never [ ]
old-at (x ∷ ms) h m (Memᴰ.head z) = rw z h.0
old-at (x ∷ ms) h m (Memᴰ.tail t) = old-at ms h.1 m t

-- A file that today reads, of version 1: the first document read it as the same file, with these notes and these types

pub notes-kept : (l : ℕ) (bs : List ℕ) → later_file bs ≡ false → (f : File) → read_file bs ≡ some f
    → (first_read_file bs ≡ some f) × (first_notes_of (class_of l f) f.methods ≡ notes_of (class_of l f) f.methods)
notes-kept l bs h f e = let o = read-old l bs h f e in (same_read bs h ∙ e, same-all-notes (class_of l f) f.methods o.0 o.1)

pub types-kept : (l : ℕ) (bs : List ℕ) → later_file bs ≡ false → (f : File) → read_file bs ≡ some f → (m : Method) → Memᴰ m f.methods
    → (first_notes_of_method (class_of l f) m ≡ notes_of_method (class_of l f) m) × ((q : ℕ) → first_types_in (class_of l f) m q ≡ types_in (class_of l f) m q)
types-kept l bs h f e m t =
    let o = read-old l bs h f e in
    let n = old-at f.methods o.1 m t in
    (same-notes (class_of l f) m o.0 n, same-types (class_of l f) m o.0 n)

-- the desk gives the number that it gave
pub desk-kept : (bs : List ℕ) → later_file bs ≡ false → first_desk_number bs ≡ desk_number bs
unfolding first_desk_number desk_number verifier_number
desk-kept bs h = ap numbered (same_read bs h) ∙ go (read_file bs) refl
  where
    numbered : Option File → ℕ
    numbered o = elim o as (λ _. ℕ) [ none ↦ word_file | some f ↦ elim (first_notes_of (class_of 0 f) f.methods) as (λ _. ℕ) [ none ↦ word_unverified | some _ ↦ 0 ] ]

    go : (o : Option File) → read_file bs ≡ o → numbered o ≡ (elim o as (λ _. ℕ) [ none ↦ word_file | some f ↦ verifier_number f ])
    go none e = refl
    go (some f) e = let o = read-old 0 bs h f e in
        ap (λ (x : Option (List Note)). elim x as (λ _. ℕ) [ none ↦ word_unverified | some _ ↦ 0 ]) (same-all-notes (class_of 0 f) f.methods o.0 o.1)
        ∙ (rw (none_unmapped (class_of 0 f) f.methods o.0, verifier_number) refl)
