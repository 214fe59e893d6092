-- How types meet demands, by their numbers, and what instructions that read a local come to.
use mathlib.Core.Path.{◌≡◌, refl, sym, ap, ◌∙◌}
use mathlib.Core.Bool.{Bool, true, false, not, ◌&&◌}
use mathlib.Core.Option.{Option, none, some}
use mathlib.Core.List.{List, [], ◌∷◌, ◌++◌}
use mathlib.Core.Logic.{◌≢◌}
use Prim.Native.Nat.{ℕ, ◌%◌, ◌<◌}
use native.Mathlib.Omega.{arith}
use lib.ListN.{get_elem?}
use lib.Dec.{eqb, leb}
use borrow.Author.Tests.{eq-eqb, ne_eqb, eqb-true, eqb-false, lt-leb, le-leb, not-true, not-false}
use Rattle.definition.specs.Instructions.{pick}
use Rattle.definition.specs.Lists.{stack}
use Rattle.definition.specs.Maybe.{◌>>=◌, need}
use Rattle.definition.specs.declared.Arguments.TheVariants.{NoArguments}
use Rattle.definition.specs.declared.Kind.{Kind}
use Rattle.definition.specs.declared.Kind.TheVariants.{IntKind, ReferenceKind}
use Rattle.definition.specs.declared.Instruction.TheVariants.{AconstNull, Sipush, Load}
use Rattle.definition.specs.Verifier.{VerifierType, type_null, type_class, Note, TypeState, Flow, flow, meet_class, meet_int, meets, meet_kind, effect}
use Rattle.verifier.specs.declared.types.Types.{Types}
use Rattle.verifier.specs.declared.effects.Meeting.{Meeting}
use Rattle.verifier.specs.declared.effects.Meeting.TheVariants.{Unmet, Met, Noted}
use Rattle.verifier.specs.declared.effects.Effect.TheVariants.{Pushed}
use Rattle.verifier.specs.Types.{type_of, local_of, operand_at, locals_of, types_of, known_local}
use Rattle.verifier.specs.Effects.{notes_in, going}
use Rattle.verifier.specs.Trace.{meet_from, values_trace}
use Rattle.std.specs.Prelude as P
use Rattle.verifier.specs.Answers.{outcome_of}
use Rattle.verifier.proofs.TypeLaws.{type-int, type-null, type-class, local-set}

-- A class that is demanded, and a class that stands there

module _ (a b : ℕ) where
  pub by_name : (t : Bool) → eqb a b ≡ t → meet_class b (type_class a) ≡ pick t (some []) (some (record { low = a; high = b } ∷ []))
  unfolding meet_class pick
  by_name true e = rw (meet_class, e)
  by_name false e = rw (meet_class, e)

  pub class_same : a ≡ b → meet_class b (type_class a) ≡ some []
  unfolding pick
  class_same h = by_name true (eq-eqb _ _ h)

  pub class-other : a ≢ b → meet_class b (type_class a) ≡ some (record { low = a; high = b } ∷ [])
  unfolding pick
  class-other h = by_name false (ne_eqb _ _ h)

-- A name that is demanded

module _ (t : VerifierType) (b : ℕ) where
  pub by_kind : (u : Bool) → eqb b 1 ≡ u → meets t b ≡ pick u (meet_int t) (meet_class b t)
  unfolding meets pick
  by_kind true e = rw (meets, e)
  by_kind false e = rw (meets, e)

  pub meets-int : b ≡ 1 → meets t b ≡ meet_int t
  unfolding pick
  meets-int h = by_kind true (eq-eqb _ _ h)

  pub meets-class : b ≢ 1 → meets t b ≡ meet_class b t
  unfolding pick
  meets-class h = by_kind false (ne_eqb _ _ h)

-- Numbers that are int, and others

module _ (t : ℕ) where
  pub int_is : t ≡ 65536 → meet_int (type_of t) ≡ some []
  unfolding meet_int
  int_is h = rw (type-int t h)

  -- any other number is null or a class
  other : (P : VerifierType → Type 0) → P type_null → P (type_class (t % 65536)) → t ≢ 65536 → P (type_of t)
  other P n k h = go (eqb t 65537) refl
    where
      go : (u : Bool) → eqb t 65537 ≡ u → P (type_of t)
      go true e = rw (type-null t (eqb-true t 65537 e)) n
      go false e = rw (type-class t h (eqb-false t 65537 e)) k

  pub int-not : t ≢ 65536 → meet_int (type_of t) ≡ none
  unfolding meet_int
  int-not h = other (λ u. meet_int u ≡ none) refl refl h

  -- a kind is demanded
  pub int-kind : meet_kind IntKind (type_of t) ≡ need (eqb t 65536)
  unfolding meet_kind need
  int-kind = go (eqb t 65536) refl
    where
      go : (u : Bool) → eqb t 65536 ≡ u → meet_kind IntKind (type_of t) ≡ need u
      go true e = rw (type-int t (eqb-true t 65536 e))
      go false e = other (λ x. meet_kind IntKind x ≡ none) refl refl (eqb-false t 65536 e)

  pub reference-kind : meet_kind ReferenceKind (type_of t) ≡ need (not (eqb t 65536))
  unfolding meet_kind need
  reference-kind = go (eqb t 65536) refl
    where
      go : (u : Bool) → eqb t 65536 ≡ u → meet_kind ReferenceKind (type_of t) ≡ need (not u)
      go true e = rw (type-int t (eqb-true t 65536 e))
      go false e = other (λ x. meet_kind ReferenceKind x ≡ some tt) refl refl (eqb-false t 65536 e)

-- a test of the kind, passed or not
module _ (kind : Kind) (t : ℕ) (r : Bool) (e : meet_kind kind (type_of t) ≡ need r) where
  pub of-kind : not r ≡ false → meet_kind kind (type_of t) ≡ some tt
  unfolding need
  of-kind h = e ∙ ap need (not-false r h)

  pub off-kind : not r ≡ true → meet_kind kind (type_of t) ≡ none
  unfolding need
  off-kind h = e ∙ ap need (not-true r h)

-- An instruction that reads a local, by the number of its type

join : {A B : Type 0} (m : Option (Option A)) (k : A → Option B) → (m >>= λ x. x >>= k) ≡ ((m >>= λ x. x) >>= k)
unfolding ◌>>=◌
join none k = refl
join (some x) k = refl

module _ (types : Types) (kind : Kind) (i t : ℕ) (e : local_of t ≡ known_local (locals_of types.locals) i) where
  abbrev s : TypeState
  s = types_of types

  load-known : effect (Load kind i) s ≡ (local_of t >>= λ u. meet_kind kind u >>= λ _. flow (u ∷ s.operands) s.locals [])
  unfolding effect known_local types_of
  load-known = join (get_elem? s.locals i) _ ∙ ap (λ m. m >>= λ u. meet_kind kind u >>= λ _. flow (u ∷ s.operands) s.locals []) (sym e)

  pub load-unset : t ≡ 65538 → effect (Load kind i) s ≡ none
  unfolding local_of pick ◌>>=◌
  load-unset h = load-known ∙ rw h

  pub load_set : t ≢ 65538 → effect (Load kind i) s ≡ (meet_kind kind (type_of t) >>= λ _. flow (type_of t ∷ s.operands) s.locals [])
  unfolding ◌>>=◌
  load_set h = load-known ∙ rw (local-set t h)

-- Inline names

pub positive : (n : ℕ) → n ≢ 0 → leb 1 n ≡ true
positive n h = le-leb 1 n (omega arith)

module _ (c n t : ℕ) where
  pub class_low : c < 2 → (leb 2 c && leb 1 n && leb 1 t) ≡ false
  class_low h = rw (lt-leb 2 c h)

  pub name-none : n ≡ 0 → (leb 2 c && leb 1 n && leb 1 t) ≡ false
  name-none h = rw h (go (leb 2 c))
    where
      go : (u : Bool) → (u && false && leb 1 t) ≡ false
      go true = refl
      go false = refl

-- A receiver alone

alone : (a : Meeting) (k : List Note → Option Flow) → (notes_in a >>= λ x. k (x ++ [])) ≡ (notes_in a >>= k)
unfolding notes_in ◌>>=◌
alone Unmet k = refl
alone Met k = refl
alone (Noted l h) k = refl

pub pushed-alone :
    (types : Types) (d t : ℕ) (a : Meeting) →
    outcome_of types (P.Some (Pushed d t a NoArguments)) ≡ going (notes_in a >>= λ x. flow (type_of t ∷ stack (operand_at types.operands) d) (locals_of types.locals) x)
unfolding outcome_of values_trace meet_from
pushed-alone types d t a = ap going (alone a _)

-- Constants

module _ (types : Types) where
  pub pushed-null : outcome_of types (P.Some (Pushed types.depth 65537 Met NoArguments)) ≡ going (effect AconstNull (types_of types))
  unfolding outcome_of effect types_of notes_in values_trace meet_from ◌>>=◌
  pushed-null = rw (type-null 65537 refl)

  pub pushed-int : (n : ℕ) → outcome_of types (P.Some (Pushed types.depth 65536 Met NoArguments)) ≡ going (effect (Sipush n) (types_of types))
  unfolding outcome_of effect types_of notes_in values_trace meet_from ◌>>=◌
  pushed-int n = rw (type-int 65536 refl)
