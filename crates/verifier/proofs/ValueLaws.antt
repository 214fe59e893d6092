-- The values above a receiver: taken off the operands, and met one after another.
use mathlib.Core.Path.{◌≡◌, refl, sym, ap, ◌∙◌}
use mathlib.Core.Bool.{Bool, true, false}
use mathlib.Core.Option.{Option, none, some, none-ne-some, some-injective}
use mathlib.Core.List.{List, [], ◌∷◌, ◌++◌, append-nil}
use Prim.Native.Nat.{ℕ, zero, suc, ◌+◌, ◌-◌, ◌<◌, ◌≤◌}
use native.Mathlib.Omega.{arith}
use lib.ListN.{length, get_or, set}
use lib.Seq.{take-length, get_or-set_other}
use borrow.Author.Tests.{le-leb}
use Rattle.definition.specs.declared.Signature.{Signature}
use Rattle.definition.specs.declared.Instruction.TheVariants.{Invokevirtual}
use Rattle.definition.specs.Lists.{rows, stack}
use Rattle.definition.specs.Maybe.{◌>>=◌, need}
use Rattle.definition.specs.declared.Arguments.{Arguments}
use Rattle.definition.specs.declared.Arguments.TheVariants.{OneArgument}
use Rattle.definition.specs.Classes.{types_of as names_of, argument_types, is_named}
use Rattle.definition.specs.Verifier.{VerifierType, Note, flow, pop, pop_all, meets, meet_all, meet_class, type_of_name, effect}
use Rattle.layout.specs.Places.{stack-length, rows_last, rows-cong, rows_take}
use Rattle.rows.specs.Posting.{Noted}
use Rattle.verifier.specs.declared.types.Types.{Types}
use Rattle.verifier.specs.declared.effects.Meeting.{Meeting}
use Rattle.verifier.specs.declared.effects.Effect.TheVariants.{Pushed}
use Rattle.verifier.specs.Types.{type_of, operand_at, locals_of, types_of}
use Rattle.verifier.specs.Effects.{notes_in, meet_value, going}
use Rattle.std.specs.Prelude as P
use Rattle.verifier.specs.Answers.{outcome_of}
use Rattle.verifier.specs.Trace.{Trace, meet_each, meet_from, values_trace, granted, accepted_notes, posting}
use Rattle.verifier.proofs.MeetLaws.{each-says}
use Rattle.verifier.proofs.FlowLaws.{from_each}

-- Taken off a stack

-- n from place k on, in the order in which they were pushed
all-popped : {A : Type 0} (g : ℕ → A) (n k m : ℕ) → m ≡ k + n → pop_all n (stack g m) ≡ some (record { all = rows g n k; more = stack g k })
unfolding pop_all pop stack rows ◌>>=◌
all-popped g zero k m e = let z : m ≡ k = omega arith in rw z
all-popped g (suc n) k zero e = absurd (omega arith)
all-popped g (suc n) k (suc m) e =
    let z : m ≡ k + n = omega arith in
    rw (all-popped g n k m z) (ap (λ xs. some (record { all = xs; more = stack g k })) (ap (λ x. rows g n k ++ (g x ∷ [])) z ∙ sym (rows_last g n k)))

-- none is left below them, where there are no more than n
none_below : {A B : Type 0} (g : ℕ → A) (n m : ℕ) (f : record { all : List A; more : List A } → record { top : A; more : List A } → Option B)
    → m ≤ n → (pop_all n (stack g m) >>= λ p. pop p.more >>= f p) ≡ none
unfolding pop_all pop stack ◌>>=◌
none_below g zero zero f h = refl
none_below g zero (suc m) f h = absurd (omega arith)
none_below g (suc n) zero f h = refl
none_below {A} {B} g (suc n) (suc m) f h = over (pop_all n (stack g m)) ∙ none_below g n m (λ p. f (more p)) (omega arith)
  where
    more : record { all : List A; more : List A } → record { all : List A; more : List A }
    more p = record { all = p.all ++ (g m ∷ []); more = p.more }

    over : (o : Option (record { all : List A; more : List A }))
        → ◌≡◌ {A = Option B} ((o >>= λ q. some (more q)) >>= λ p. pop p.more >>= f p) (o >>= λ p. pop p.more >>= f (more p))
    over none = refl
    over (some q) = refl

-- a type that was popped stood on top
stood : (g : ℕ → VerifierType) (m d : ℕ) (t : VerifierType) → pop (stack g m) ≡ some (record { top = t; more = stack g d }) → (m ≡ suc d) × (t ≡ g d)
unfolding pop stack
stood g zero d t e = absurd (none-ne-some _ e)
stood g (suc m) d t e =
    let p = some-injective _ _ e in
    let z : m ≡ d = sym (stack-length g m) ∙ (ap (λ r. length r.more) p ∙ stack-length g d) in
    (ap suc z, sym (ap (λ r. r.top) p) ∙ ap g z)

-- Met one after another

-- the values above place d, as many as there are names, each where its own is demanded
unfoldable pub meet_values : List ℕ → ℕ → Arguments → Option (List Note)
meet_values o d a = meet_all meets (rows (operand_at o) (length (names_of a)) (d + 1)) (names_of a)

pub values-start : (o : List ℕ) (d : ℕ) (a : Arguments) (n : ℕ) → n ≡ length (names_of a) → meet_from (meet_value o d a) (n - 0) 0 ≡ values_trace o d a
unfolding values_trace
values-start o d a n e = let z : n - 0 ≡ length (names_of a) = omega arith in rw z refl

pub values-posted : (l : ℕ) (o : List ℕ) (d : ℕ) (a : Arguments) (n : ℕ) (k : Noted) → n ≡ length (names_of a)
    → posting l (meet_from (meet_value o d a) (n - 0) 0) k ≡ posting l (values_trace o d a) k
values-posted l o d a n k e = ap (λ (w : Trace). posting l w k) (values-start o d a n e)

shifted : {A : Type 0} (g : ℕ → A) (k n i : ℕ) → rows (λ j. g (k + j)) n i ≡ rows g n (k + i)
unfolding rows
shifted g k zero i = refl
shifted g k (suc n) i = let z : k + suc i ≡ suc (k + i) = omega arith in rw (shifted g k n (suc i), z)

values-each : (o : List ℕ) (d : ℕ) (a : Arguments) → values_trace o d a ≡ meet_each meets (rows (operand_at o) (length (names_of a)) (d + 1)) (names_of a)
unfolding values_trace meet_value
values-each o d a =
    let n : ℕ = length (names_of a) in
    let z : d + 1 + 0 ≡ d + 1 = omega arith in
    from_each meets (λ j. operand_at o (d + 1 + j)) (λ j. get_or (names_of a) j 0) n 0
    ∙ (λ i. meet_each meets ((shifted (operand_at o) (d + 1) n 0 ∙ ap (rows (operand_at o) n) z) i) ((rows_take (names_of a) n (omega arith) ∙ take-length (names_of a)) i))

-- by whether all are met
pub values-by : (o : List ℕ) (d : ℕ) (a : Arguments) (b : Bool) → b ≡ (values_trace o d a).accepts → meet_values o d a ≡ granted b (values_trace o d a).notes
unfolding meet_values accepted_notes
values-by o d a b e =
    sym (ap accepted_notes (values-each o d a) ∙ each-says meets (rows (operand_at o) (length (names_of a)) (d + 1)) (names_of a))
    ∙ ap (λ (t : Bool). granted t (values_trace o d a).notes) (sym e)

-- a type pushed at the receiver's place leaves them as they are
pub values-kept : (o : List ℕ) (d t : ℕ) (a : Arguments) → values_trace (set o d t) d a ≡ values_trace o d a
unfolding operand_at
values-kept o d t a =
    values-each (set o d t) d a
    ∙ (ap (λ xs. meet_each meets xs (names_of a))
    (rows-cong (operand_at (set o d t)) (operand_at o) (length (names_of a)) (d + 1) (λ m l h. ap type_of (get_or-set_other o d m t 0 (λ q. omega arith))))
    ∙ sym (values-each o d a))

-- one value, popped before the receiver
pub one_value : (o : List ℕ) (n m d e : ℕ) (t u : VerifierType) → pop (stack (operand_at o) m) ≡ some (record { top = t; more = stack (operand_at o) d })
    → pop (stack (operand_at o) d) ≡ some (record { top = u; more = stack (operand_at o) e })
    → (b v : Bool) → b ≡ (values_trace o e (OneArgument n)).accepts → b ≡ v → meets t n ≡ granted v (values_trace o e (OneArgument n)).notes
unfolding meet_values meet_all rows ◌>>=◌
one_value o n m d e t u p q b v h k = sym alone ∙ values-by o e (OneArgument n) v (sym k ∙ h)
  where
    go : (r : Option (List Note)) → (r >>= λ a. some (a ++ [])) ≡ r
    go none = refl
    go (some a) = ap some (append-nil a)

    alone : meet_values o e (OneArgument n) ≡ meets t n
    alone =
        let z : d ≡ e + 1 = omega (arith, (stood (operand_at o) d e u q).0) in
        rw (← z, ← (stood (operand_at o) m d t p).1) (go (meets t n))

-- nothing comes of what ends in nothing
pub nothing : {A B : Type 0} (m : Option A) → ◌≡◌ {A = Option B} (m >>= λ _. none) none
unfolding ◌>>=◌
nothing none = refl
nothing (some a) = refl

-- A call

module _ (types : Types) (c : ℕ) (s : Signature) (low : 2 ≤ c) (names : is_named s ≡ true) where
  abbrev operands : ℕ → VerifierType
  operands = operand_at types.operands

  pub call-few : types.depth ≤ length (argument_types s) → effect (Invokevirtual c s) (types_of types) ≡ none
  unfolding effect types_of ◌>>=◌ need
  call-few h = rw (le-leb 2 c low, names) (none_below operands (length (argument_types s)) types.depth _ h)

  -- n arguments, the receiver at place d below them, and whether all are met
  module _ (n d : ℕ) (b : Bool) (e : n ≡ length (argument_types s)) (h : n < types.depth) (q : d ≡ types.depth - n - 1)
      (g : b ≡ (values_trace types.operands d s.arguments).accepts) where
    call-is : effect (Invokevirtual c s) (types_of types) ≡ (meet_class c (operands d) >>= λ a. granted b (values_trace types.operands d s.arguments).notes >>= λ r.
        flow (type_of_name s.result ∷ stack operands d) (locals_of types.locals) (a ++ r))
    unfolding effect types_of meet_values stack pop ◌>>=◌ need
    call-is =
        let z : types.depth ≡ (d + 1) + n = omega arith in
        let y : d + 1 ≡ suc d = omega arith in
        rw (le-leb 2 c low, names, ← (values-by types.operands d s.arguments b g), sym e, all-popped operands n (d + 1) types.depth z, y)

    pub call-unmet : b ≡ false → effect (Invokevirtual c s) (types_of types) ≡ none
    unfolding granted ◌>>=◌
    call-unmet f = call-is ∙ rw f (nothing (meet_class c (operands d)))

    pub call_met : b ≡ true → (x t : ℕ) (a : Meeting) → x ≡ get_or types.operands d 0 → notes_in a ≡ meet_class c (type_of x) → type_of t ≡ type_of_name s.result
        → outcome_of types (P.Some (Pushed d t a s.arguments)) ≡ going (effect (Invokevirtual c s) (types_of types))
    unfolding outcome_of operand_at granted ◌>>=◌
    call_met f x t a w m r = rw (m, r, w) (ap going (sym (call-is ∙ rw f)))
