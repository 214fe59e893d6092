-- Files of version 1 are read and verified as they were, and defined but for hidden fields, which the first document refused. A file of a later version begins with a 2 or a 3. Methods and calls of version 1
-- have a list of one argument, on which the definitions that lists changed are what they were.
use Rattle.std.specs.Prelude.{◌≡◌, Bool, not, ◌&&◌, ◌⊎◌, length, drop, get_or, eqb, leb, ltb}
use Rattle.std.proofs.Math.Path.{refl, ap}
use Rattle.std.proofs.Common.{sym, ◌∙◌, inl, inr, arith, eqb-true, leb-true, leb-false}
use Rattle.std.proofs.Math.Bool.{true, false}
use Rattle.std.proofs.lemmas.Bool.{false≢true, eqb-false}
use Rattle.std.proofs.Math.Option.{Option, none, some, none-ne-some, some-injective}
use mathlib.Core.List.{List, [], ◌∷◌, ◌++◌, append-nil}
use Prim.Native.Nat.{ℕ, zero, suc, ◌+◌}
use Rattle.definition.specs.declared.Refusal.{Refusal}
use Rattle.definition.specs.declared.Refusal.TheVariants.{Word}
use Rattle.definition.specs.declared.Kind.{Kind}
use Rattle.definition.specs.declared.Operator.{Operator}
use Rattle.definition.specs.declared.Operator.TheVariants.{Add, Subtract, Multiply, Divide}
use Rattle.definition.specs.declared.Signature.{Signature}
use Rattle.definition.specs.declared.Opcode.{Opcode}
use Rattle.definition.specs.declared.Opcode.TheVariants.{OpAconstNull, OpSipush, OpLoad, OpStore, OpPop, OpDup, OpArithmetic, OpGetfield, OpPutfield, OpInvokevirtual, OpInvokevirtualList, OpNew, OpReturn, OpBranch, OpUnknown}
use Rattle.definition.specs.declared.Instruction.{Instruction}
use Rattle.definition.specs.declared.Instruction.TheVariants.{AconstNull, Sipush, Load, Store, Pop, Dup, Arithmetic, Getfield, Putfield, Invokevirtual, New, Return, Branch}
use Rattle.definition.specs.Numbers.{word_hidden, word_clash, word_full, version_one, version_two, version_three, class_limit, cache_limit, tie_limit, subtype_limit, field_limit}
use Rattle.definition.specs.Lists.{every, any}
use Rattle.definition.specs.Maybe.{◌>>=◌, need}
use Rattle.definition.specs.Answers as Answers
use Rattle.definition.specs.Classes.{Class, Map, Method, slots}
use Rattle.definition.specs.Constraints.{Tie, World, agrees}
use Rattle.definition.specs.File.{File, Got, byte, signature_in, maps_in, methods_in, read_file, class_of}
use Rattle.definition.specs.Instructions.{pick, opcode_of, inline_length, short_at, instruction_of, Decoded, sized_as, decode}
use Rattle.definition.specs.Verifier.{Flow, Note, Onward, Turn, TypeState, after, effect, entry_types, finished, flow_into, flow_to_target, goes_on, map_at, map_types, maps_past, notes_of, notes_of_method, onto, return_kind, returns, start_at, target, turn, unmapped, verify}
use Rattle.definition.specs.Loading.{new_subtypes, with_class, define}
use Rattle.laws.specs.Options.{bind-some, need-true, Holds, holds-past, holds_on, holds-need, holds_at}
use Rattle.laws.specs.Single.{Single, Singles, by-single, single_signature_in, single-signature, SingleIn, single-entry, single-effect}
use Rattle.layout.specs.Tests.{All}
unfoldable pub use Rattle.definition.specs.Changeover.{later_file}
use Rattle.definition.specs.First.Signatures.{first_argument, first_is_named}
use Rattle.definition.specs.First.Files.{first_signature_in, first_methods_in, first_read_file, first_opcode_of, first_inline_length, first_decode}
use Rattle.definition.specs.First.Verifier.{first_entry_types, first_effect, first_verify, first_notes_of_method, first_notes_of, first_define}
use Rattle.first.specs.SameSignatures.{same-doubled, same-overrides}

-- a version before 2
abbrev pub Old : ℕ → Type 0
Old version = leb version_two version ≡ false

abbrev pub NoMaps : Method → Type 0
NoMaps m = m.maps ≡ []

-- a method of version 1: no maps, and a list of one argument
abbrev pub OldMethod : Method → Type 0
OldMethod m = NoMaps m × Single m.signature

abbrev pub OldClass : Class → Type 0
OldClass k = Old k.version × All OldMethod k.methods

old-singles : (ms : List Method) → All OldMethod ms → Singles ms
old-singles [] h = tt
old-singles (m ∷ ms) h = (h.0.1, old-singles ms h.1)

-- In sequence

pub bind-eq : {A B : Type 0} (o p : Option A) → o ≡ p → (f g : A → Option B) → ((a : A) → f a ≡ g a) → (o >>= f) ≡ (p >>= g)
unfolding ◌>>=◌
bind-eq none p e f g k = rw (← e) refl
bind-eq (some a) p e f g k = rw (← e) (k a)

bind-same : {A B : Type 0} (o : Option A) (f g : A → Option B) → ((a : A) → f a ≡ g a) → (o >>= f) ≡ (o >>= g)
bind-same o = bind-eq o o refl

pub bind-in : {A B : Type 0} (o : Option A) (f g : A → Option B) → ((a : A) → o ≡ some a → f a ≡ g a) → (o >>= f) ≡ (o >>= g)
unfolding ◌>>=◌
bind-in none f g k = refl
bind-in (some a) f g k = k a refl

bind-eq-in : {A B : Type 0} (o p : Option A) → o ≡ p → (f g : A → Option B) → ((a : A) → o ≡ some a → f a ≡ g a) → (o >>= f) ≡ (p >>= g)
bind-eq-in o p e f g k = bind-in o f g k ∙ ap (λ x. x >>= g) e

bind-known : {A B : Type 0} (o : Option A) (a : A) → o ≡ some a → (f : A → Option B) (x : Option B) → x ≡ f a → x ≡ (o >>= f)
unfolding ◌>>=◌
bind-known o a e f x k = rw e k

need-eq : {B : Type 0} (t u : Bool) → u ≡ t → (f g : Unit {0} → Option B) → (t ≡ true → f tt ≡ g tt) → (need t >>= f) ≡ (need u >>= g)
unfolding ◌>>=◌ need
need-eq true u e f g k = rw e (k refl)
need-eq false u e f g k = rw e refl

-- Reading

no-maps : (bs : List ℕ) → maps_in version_one bs ≡ some (record { value = []; more = bs })
unfolding maps_in
no-maps bs = refl

same-signature-in : (bs : List ℕ) → first_signature_in bs ≡ signature_in version_one bs
unfolding first_signature_in single_signature_in
same-signature-in bs = sym (single-signature version_one bs refl)

same-methods : (k : ℕ) (bs : List ℕ) → first_methods_in k bs ≡ methods_in version_one k bs
unfolding first_methods_in methods_in
same-methods zero bs = refl
same-methods (suc k) bs = bind-eq _ _ (same-signature-in bs) _ _ (λ s. bind-same _ _ _ (λ (l : Got ℕ). bind-same _ _ _ (λ _.
    bind-known _ _ (no-maps (drop l.value l.more)) _ _ (bind-eq _ _ (same-methods k (drop l.value l.more)) _ _ (λ ms. refl)))))

tested : (b : ℕ) (t : Bool) → eqb b version_one ≡ t → (leb version_two b && leb b version_three) ≡ false → (leb version_one b && leb b version_three) ≡ t
tested b true e n = rw (eqb-true b version_one e) refl
tested b false e n = go (leb version_one b) refl (leb b version_three) refl (leb version_two b) refl n
  where
    go : (x : Bool) → leb version_one b ≡ x → (y : Bool) → leb b version_three ≡ y → (z : Bool) → leb version_two b ≡ z → (z && y) ≡ false → (x && y) ≡ false
    go true q true r true s h = absurd (false≢true (sym h))
    go true q true r false s h = absurd (eqb-false b version_one e (omega (arith, leb-true version_one b q, leb-false version_two b s)))
    go true q false r z s h = refl
    go false q y r z s h = refl

not-later : (bs : List ℕ) (v : Got ℕ) → later_file bs ≡ false → byte bs ≡ some v → (leb version_two v.value && leb v.value version_three) ≡ false
unfolding later_file byte
not-later [] v h e = absurd (none-ne-some v e)
not-later (b ∷ bs) v h e = rw (sym (some-injective _ _ e)) h

signature-one : (bs : List ℕ) → Holds (first_signature_in bs) (λ g. Single g.value)
unfolding first_signature_in
signature-one bs = holds-past Q _ _ (λ n. holds-past Q _ _ (λ a. holds-past Q _ _ (λ r. (a.value, refl))))
  where
    Q : Got Signature → Type 0
    Q g = Single g.value

methods-one : (k : ℕ) (bs : List ℕ) → Holds (first_methods_in k bs) (λ g. All OldMethod g.value)
unfolding first_methods_in
methods-one zero bs = tt
methods-one (suc k) bs = holds_on (λ g. Single g.value) Q _ _ (signature-one bs) (λ s d. holds-past Q _ _ (λ l. holds-past Q _ _ (λ _. holds_on Q Q _ _ (methods-one k (drop l.value l.more)) (λ ms h. ((refl, d), h)))))
  where
    Q : Got (List Method) → Type 0
    Q g = All OldMethod g.value

pub same_read : (bs : List ℕ) → later_file bs ≡ false → first_read_file bs ≡ read_file bs
unfolding first_read_file read_file
same_read bs h = bind-same _ _ _ (λ _. bind-in _ _ _ (λ v q. need-eq (eqb v.value version_one) _ (tested v.value (eqb v.value version_one) refl (not-later bs v h q)) _ _ (λ e.
    bind-same _ _ _ (λ n. bind-same _ _ _ (λ _. bind-same _ _ _ (λ c. bind-same _ _ _ (λ s. bind-same _ _ _ (λ k. bind-same _ _ _ (λ fs. bind-same _ _ _ (λ (j : Got ℕ).
    bind-eq-in _ _ (same-methods j.value j.more ∙ ap (λ (y : ℕ). methods_in y j.value j.more) (sym (eqb-true v.value version_one e))) _ _ (λ ms d.
    bind-same _ _ _ (λ _. bind-same _ _ _ (λ _.
    ap (λ (t : Bool). need (not t) >>= λ _. some (record { version = v.value; name = c.value; super = s.value; fields = fs.value; methods = ms.value }))
    (same-doubled ms.value (old-singles ms.value (holds_at (λ g. All OldMethod g.value) _ ms (methods-one j.value j.more) d))))))))))))))))

-- what the first document reads as a file is of version 1
pub read-early : (bs : List ℕ) (f : File) → first_read_file bs ≡ some f → later_file bs ≡ false
unfolding first_read_file later_file byte
read-early [] f e = refl
read-early (b ∷ bs) f e =
    let a = bind-some _ _ e in
    let v = bind-some _ _ a.2 in
    let n = bind-some _ _ v.2 in
    let z : b ≡ v.0.value = ap (λ (g : Got ℕ). g.value) (some-injective _ _ v.1) in
    rw (z ∙ eqb-true v.0.value version_one (need-true _ n.1)) refl

file-old : (l : ℕ) (bs : List ℕ) → Holds (first_read_file bs) (λ f. OldClass (class_of l f))
unfolding first_read_file
file-old l bs =
    holds-past Q _ _ (λ _. holds-past Q _ _ (λ v. holds-need Q _ _ (λ e. holds-past Q _ _ (λ n. holds-past Q _ _ (λ _. holds-past Q _ _ (λ c. holds-past Q _ _ (λ s.
    holds-past Q _ _ (λ k. holds-past Q _ _ (λ fs. holds-past Q _ _ (λ j. holds_on (λ g. All OldMethod g.value) Q _ _ (methods-one j.value j.more) (λ ms h.
    holds-past Q _ _ (λ _. holds-past Q _ _ (λ _. holds-past Q _ _ (λ _. (old v.value e, h)))))))))))))))
  where
    Q : File → Type 0
    Q f = OldClass (class_of l f)

    old : (v : ℕ) → eqb v version_one ≡ true → Old v
    old v e = rw (eqb-true v version_one e) refl

-- a class of such a file
pub read-old : (l : ℕ) (bs : List ℕ) → later_file bs ≡ false → (f : File) → read_file bs ≡ some f → OldClass (class_of l f)
read-old l bs h f e = holds_at (λ g. OldClass (class_of l g)) (first_read_file bs) f (file-old l bs) (same_read bs h ∙ e)

-- The first document reads no method with another list of arguments than of one, and decodes no call with another

pub read_one : (bs : List ℕ) (f : File) → first_read_file bs ≡ some f → Singles f.methods
read_one bs f e = old-singles f.methods (holds_at (λ g. OldClass (class_of 0 g)) (first_read_file bs) f (file-old 0 bs) e).1

-- Instructions: no branch, imul or idiv, and no call with a list

old-three : (version : ℕ) → Old version → leb version_three version ≡ false
old-three version h = go (leb version_three version) refl
  where
    go : (t : Bool) → leb version_three version ≡ t → t ≡ false
    go true e = absurd (omega (arith, leb-true version_three version e, leb-false version_two version h))
    go false e = refl

same-opcode : (version b : ℕ) → Old version → first_opcode_of b ≡ opcode_of version b
unfolding first_opcode_of opcode_of
same-opcode version b h = rw (h, old-three version h) (unfold pick in refl)

-- the decoded instruction, where n bytes follow inline
abbrev decoded_by : List ℕ → ℕ → Opcode → ℕ → Option Decoded
decoded_by code p o n = elim (leb (p + suc n) (length code)) as (λ _. Option Decoded) [ true ↦ sized_as (suc n) (instruction_of code (p + 1) o) | false ↦ none ]

-- an operator of version 1
abbrev pub Early : Operator → Type 0
Early Add = Unit {0}
Early Subtract = Unit {0}
Early Multiply = ⊥
Early Divide = ⊥

abbrev PlainCode : Opcode → Type 0
PlainCode OpAconstNull = Unit {0}
PlainCode OpSipush = Unit {0}
PlainCode (OpLoad k) = Unit {0}
PlainCode (OpStore k) = Unit {0}
PlainCode OpPop = Unit {0}
PlainCode OpDup = Unit {0}
PlainCode (OpArithmetic o) = Early o
PlainCode OpGetfield = Unit {0}
PlainCode OpPutfield = Unit {0}
PlainCode OpInvokevirtual = Unit {0}
PlainCode OpInvokevirtualList = ⊥
PlainCode OpNew = Unit {0}
PlainCode (OpReturn k) = Unit {0}
PlainCode (OpBranch c) = ⊥
PlainCode OpUnknown = Unit {0}

-- if it computes, then with such an operator
abbrev pub EarlyIn : Instruction → Type 0
EarlyIn AconstNull = Unit {0}
EarlyIn (Sipush n) = Unit {0}
EarlyIn (Load kind j) = Unit {0}
EarlyIn (Store kind j) = Unit {0}
EarlyIn Pop = Unit {0}
EarlyIn Dup = Unit {0}
EarlyIn (Arithmetic o) = Early o
EarlyIn (Getfield c n t) = Unit {0}
EarlyIn (Putfield c n t) = Unit {0}
EarlyIn (Invokevirtual c s) = Unit {0}
EarlyIn (New c) = Unit {0}
EarlyIn (Branch c p) = Unit {0}
EarlyIn (Return kind) = Unit {0}

-- it goes on to the next point alone, if it is no return, is no imul or idiv, and calls with a list of one
pub record Straight (i : Instruction) : Type 0 where
  pub nowhere : target i ≡ none
  pub on : return_kind i ≡ none → goes_on i ≡ true
  pub early : EarlyIn i
  pub one : SingleIn i

pick-plain : (t : Bool) (a b : Opcode) → PlainCode a → PlainCode b → PlainCode (pick t a b)
unfolding pick
pick-plain true a b x y = x
pick-plain false a b x y = y

opcode-plain : (b : ℕ) → PlainCode (first_opcode_of b)
unfolding first_opcode_of
opcode-plain b =
    pick-plain _ _ _ tt (pick-plain _ _ _ tt (pick-plain _ _ _ tt (pick-plain _ _ _ tt (pick-plain _ _ _ tt (pick-plain _ _ _ tt (pick-plain _ _ _ tt (pick-plain _ _ _ tt
    (pick-plain _ _ _ tt (pick-plain _ _ _ tt (pick-plain _ _ _ tt (pick-plain _ _ _ tt (pick-plain _ _ _ tt (pick-plain _ _ _ tt (pick-plain _ _ _ tt (pick-plain _ _ _ tt tt)))))))))))))))

-- the same bytes follow inline
same-inline : (s : List ℕ) (i : ℕ) (o : Opcode) → PlainCode o → first_inline_length o ≡ inline_length s i o
unfolding first_inline_length inline_length
same-inline s i OpAconstNull h = refl
same-inline s i OpSipush h = refl
same-inline s i (OpLoad k) h = refl
same-inline s i (OpStore k) h = refl
same-inline s i OpPop h = refl
same-inline s i OpDup h = refl
same-inline s i (OpArithmetic o) h = refl
same-inline s i OpGetfield h = refl
same-inline s i OpPutfield h = refl
same-inline s i OpInvokevirtual h = refl
same-inline s i OpInvokevirtualList h = absurd h
same-inline s i OpNew h = refl
same-inline s i (OpReturn k) h = refl
same-inline s i (OpBranch c) h = absurd h
same-inline s i OpUnknown h = refl

pub same-decode : (version : ℕ) (code : List ℕ) (p : ℕ) → Old version → first_decode code p ≡ decode version code p
unfolding first_decode decode
same-decode version code p h =
    ap (decoded_by code p (first_opcode_of (get_or code p 0))) (same-inline code (p + 1) (first_opcode_of (get_or code p 0)) (opcode-plain (get_or code p 0)))
    ∙ ap (λ (o : Opcode). decoded_by code p o (inline_length code (p + 1) o)) (same-opcode version (get_or code p 0) h)

instruction-straight : (s : List ℕ) (i : ℕ) (o : Opcode) → PlainCode o → Holds (instruction_of s i o) Straight
unfolding instruction_of target goes_on return_kind
instruction-straight s i OpAconstNull h = record { nowhere = refl; on = λ _. refl; early = tt; one = tt }
instruction-straight s i OpSipush h = record { nowhere = refl; on = λ _. refl; early = tt; one = tt }
instruction-straight s i (OpLoad k) h = record { nowhere = refl; on = λ _. refl; early = tt; one = tt }
instruction-straight s i (OpStore k) h = record { nowhere = refl; on = λ _. refl; early = tt; one = tt }
instruction-straight s i OpPop h = record { nowhere = refl; on = λ _. refl; early = tt; one = tt }
instruction-straight s i OpDup h = record { nowhere = refl; on = λ _. refl; early = tt; one = tt }
instruction-straight s i (OpArithmetic o) h = record { nowhere = refl; on = λ _. refl; early = h; one = tt }
instruction-straight s i OpGetfield h = record { nowhere = refl; on = λ _. refl; early = tt; one = tt }
instruction-straight s i OpPutfield h = record { nowhere = refl; on = λ _. refl; early = tt; one = tt }
instruction-straight s i OpInvokevirtual h = record { nowhere = refl; on = λ _. refl; early = tt; one = (short_at s (i + 2 + 2), refl) }
instruction-straight s i OpInvokevirtualList h = absurd h
instruction-straight s i OpNew h = record { nowhere = refl; on = λ _. refl; early = tt; one = tt }
instruction-straight s i (OpReturn k) h = record { nowhere = refl; on = λ e. absurd (none-ne-some k (sym e)); early = tt; one = tt }
instruction-straight s i (OpBranch c) h = absurd h
instruction-straight s i OpUnknown h = tt

pub decode-straight : (code : List ℕ) (p : ℕ) → Holds (first_decode code p) (λ i. Straight i.instruction)
unfolding first_decode
decode-straight code p = go (leb (p + suc (first_inline_length o)) (length code)) (instruction_of code (p + 1) o) (instruction-straight code (p + 1) o (opcode-plain (get_or code p 0)))
  where
    o : Opcode
    o = first_opcode_of (get_or code p 0)

    go : (t : Bool) (x : Option Instruction) → Holds x Straight → Holds {A = Decoded} (elim t as (λ _. Option Decoded) [ true ↦ sized_as (suc (first_inline_length o)) x | false ↦ none ]) (λ i. Straight i.instruction)
    go true none h = unfold sized_as in tt
    go true (some j) h = unfold sized_as in h
    go false x h = tt

pub decode-one : (code : List ℕ) (p : ℕ) (i : Decoded) → first_decode code p ≡ some i → SingleIn i.instruction
decode-one code p i e = (holds_at (λ j. Straight j.instruction) (first_decode code p) i (decode-straight code p) e).one

-- The verifier, without maps. A call with a list of one has the effect that it had, and point 0 the types

call-effect : (c : ℕ) (t : TypeState) (m : Signature) → Single m → first_effect (Invokevirtual c m) t ≡ effect (Invokevirtual c m) t
unfolding first_effect first_argument first_is_named
call-effect c t = by-single (λ m. first_effect (Invokevirtual c m) t ≡ effect (Invokevirtual c m) t) (λ n a r. sym (single-effect c n a r t))

pub same_effect : (i : Instruction) → SingleIn i → (t : TypeState) → first_effect i t ≡ effect i t
unfolding first_effect
same_effect AconstNull h t = refl
same_effect (Sipush n) h t = refl
same_effect (Load kind j) h t = refl
same_effect (Store kind j) h t = refl
same_effect Pop h t = refl
same_effect Dup h t = refl
same_effect (Arithmetic o) h t = refl
same_effect (Getfield c n f) h t = refl
same_effect (Putfield c n f) h t = refl
same_effect (Invokevirtual c m) h t = call-effect c t m h
same_effect (New c) h t = refl
same_effect (Branch c p) h t = refl
same_effect (Return kind) h t = refl

pub same-entry : (k : Class) (m : Method) → Single m.signature → first_entry_types k m ≡ entry_types k m
unfolding first_argument
same-entry k m h = rw (single-entry k m h.0 h.1, h.1) refl

module _ (version : ℕ) (code : List ℕ) (result : ℕ) (old : Old version) where
  -- what the walk does with a turn
  abbrev onwards : ℕ → Turn → Option (List Note)
  onwards n t = elim t.next as (λ _. Option (List Note)) [
    | finished ↦ need (leb (length {A = Map} []) 0) >>= λ _. some t.notes
    | onto q u ↦ verify version code [] result n q [] u >>= λ ns. some (t.notes ++ ns)
  ]

  same-return : (n p : ℕ) (t : Bool) (r : Option (List Note)) → (need t >>= λ _. r)
      ≡ ((r >>= λ ns. (elim t as (λ _. Option Onward) [ true ↦ some finished | false ↦ map_at [] p >>= λ m. some (onto p (map_types m)) ]) >>= λ o. some (record { notes = ns; next = o })) >>= onwards n)
  unfolding ◌>>=◌ need map_at
  same-return n p true none = refl
  same-return n p true (some ns) = refl
  same-return n p false none = refl
  same-return n p false (some ns) = refl

  pub after-straight : (i : Instruction) (p : ℕ) (f : Flow) → Straight i → return_kind i ≡ none → after version code [] result i p f ≡ some (record { notes = f.notes ++ []; next = onto p f.types })
  unfolding after
  after-straight i p f h e = rw (h.nowhere, h.on e) (unfold flow_to_target flow_into map_at ◌>>=◌ in refl)

  same-verify : (n p : ℕ) (s : TypeState) → first_verify code result n p s ≡ verify version code [] result n p [] s
  unfolding first_verify verify maps_past turn start_at ◌>>=◌
  same-verify zero p s = refl
  same-verify (suc n) p s = rw (sym (same-decode version code p old)) (go (first_decode code p) (decode-straight code p) (λ q u. same-verify n q u))
    where
      effects : (i : Decoded) → Straight i.instruction → return_kind i.instruction ≡ none → ((q : ℕ) (u : TypeState) → first_verify code result n q u ≡ verify version code [] result n q [] u) → (x : Option Flow)
          → (x >>= λ f. first_verify code result n (p + i.size) f.types >>= λ ns. some (f.notes ++ ns)) ≡ ((x >>= λ f. after version code [] result i.instruction (p + i.size) f) >>= onwards n)
      effects i h e ih none = unfold ◌>>=◌ in refl
      effects i h e ih (some f) = unfold ◌>>=◌ in rw (after-straight i.instruction (p + i.size) f h e)
          (bind-eq _ _ (ih (p + i.size) f.types) _ _ (λ ns. ap (λ (z : List Note). some (z ++ ns)) (sym (append-nil f.notes))))

      kinds : (i : Decoded) → Straight i.instruction → ((q : ℕ) (u : TypeState) → first_verify code result n q u ≡ verify version code [] result n q [] u) → (x : Option Kind) → return_kind i.instruction ≡ x
          → (elim x as (λ _. Option (List Note)) [
            | some kind ↦ need (eqb (p + i.size) (length code)) >>= λ _. returns kind result s
            | none ↦ first_effect i.instruction s >>= λ f. first_verify code result n (p + i.size) f.types >>= λ ns. some (f.notes ++ ns)
          ]) ≡ ((elim x as (λ _. Option Turn) [
            | some kind ↦ returns kind result s >>= λ ns. start_at version code [] result (p + i.size) >>= λ o. some (record { notes = ns; next = o })
            | none ↦ effect i.instruction s >>= λ f. after version code [] result i.instruction (p + i.size) f
          ]) >>= onwards n)
      kinds i h ih (some kind) e = same-return n (p + i.size) (eqb (p + i.size) (length code)) (returns kind result s)
      kinds i h ih none e = rw (same_effect i.instruction h.one s) (effects i h e ih (effect i.instruction s))

      go : (x : Option Decoded) → Holds x (λ i. Straight i.instruction) → ((q : ℕ) (u : TypeState) → first_verify code result n q u ≡ verify version code [] result n q [] u)
          → (x >>= λ i. elim (return_kind i.instruction) as (λ _. Option (List Note)) [
            | some kind ↦ need (eqb (p + i.size) (length code)) >>= λ _. returns kind result s
            | none ↦ first_effect i.instruction s >>= λ f. first_verify code result n (p + i.size) f.types >>= λ ns. some (f.notes ++ ns)
          ]) ≡ ((x >>= λ i. elim (return_kind i.instruction) as (λ _. Option Turn) [
            | some kind ↦ returns kind result s >>= λ ns. start_at version code [] result (p + i.size) >>= λ o. some (record { notes = ns; next = o })
            | none ↦ effect i.instruction s >>= λ f. after version code [] result i.instruction (p + i.size) f
          ]) >>= onwards n)
      go none h ih = unfold ◌>>=◌ in refl
      go (some i) h ih = unfold ◌>>=◌ in kinds i h ih (return_kind i.instruction) refl

pub same-notes : (k : Class) (m : Method) → Old k.version → OldMethod m → first_notes_of_method k m ≡ notes_of_method k m
unfolding first_notes_of_method notes_of_method
same-notes k m old e = rw (same-entry k m e.1, e.0, same-verify k.version m.code m.signature.result old (length m.code) 0 (entry_types k m)) (unfold flow_into map_at ◌>>=◌ in go _)
  where
    go : (x : Option (List Note)) → x ≡ (x >>= λ ns. some ([] ++ ns))
    go none = unfold ◌>>=◌ in refl
    go (some ns) = unfold ◌>>=◌ in refl

pub same-all-notes : (k : Class) (ms : List Method) → Old k.version → All OldMethod ms → first_notes_of k ms ≡ notes_of k ms
unfolding first_notes_of notes_of
same-all-notes k [] old h = refl
same-all-notes k (m ∷ ms) old h = bind-eq _ _ (same-notes k m old h.0) _ _ (λ ns. bind-eq _ _ (same-all-notes k ms old h.1) _ _ (λ rs. refl))

pub is_mapped : (k : Class) (m : Method) → Old k.version → unmapped k m ≡ false
unfolding unmapped
is_mapped k m old = rw old refl

pub none_unmapped : (k : Class) (ms : List Method) → Old k.version → any (unmapped k) ms ≡ false
unfolding any
none_unmapped k [] old = refl
none_unmapped k (m ∷ ms) old = rw (is_mapped k m old, any) (none_unmapped k ms old)

-- One test more: it refuses with w, or it makes no difference

abbrev But : {A : Type 0} → Refusal → Answers.Result A → Answers.Result A → Type 0
But w o p = (o ≡ Answers.refused w) ⊎ (o ≡ p)

but-test : {A : Type 0} (t : Bool) (w : Refusal) (o p : Answers.Result A) → o ≡ p → But w (Answers.◌>>=◌ (Answers.need t w) (λ _. o)) p
unfolding Answers.◌>>=◌ Answers.need
but-test true w o p e = inr e
but-test false w o p e = inl refl

but-then : {A B : Type 0} (w : Refusal) (o : Answers.Result A) (f g : A → Answers.Result B) → ((a : A) → But w (f a) (g a)) → But w (Answers.◌>>=◌ o f) (Answers.◌>>=◌ o g)
unfolding Answers.◌>>=◌
but-then w (Answers.refused v) f g k = inr refl
but-then w (Answers.ok a) f g k = k a

-- a test of the other alone, which passes
but-passed : {A : Type 0} (w v : Refusal) (t : Bool) (o : Answers.Result A) (f : Unit {0} → Answers.Result A) → t ≡ true → But w o (f tt) → But w o (Answers.◌>>=◌ (Answers.need t v) f)
unfolding Answers.◌>>=◌ Answers.need
but-passed w v true o f e h = h
but-passed w v false o f e h = absurd (false≢true e)

-- what a define comes to where its class, below p, makes the notes ns and posts the ties us
abbrev with_ties : Bool → Class → World → ℕ → List Note → List Tie → Answers.Result World
with_ties room k w p ns us =
    let ss = new_subtypes w.subtypes k.loader ns in
    Answers.◌>>=◌ (Answers.need (every
    (room
    ∷ ltb (length w.base.classes) class_limit
    ∷ ltb (length w.base.cache) cache_limit
    ∷ leb (length (w.ties ++ us)) tie_limit
    ∷ leb (length (w.subtypes ++ ss)) subtype_limit
    ∷ leb (length (slots w.base p) + length k.fields) field_limit
    ∷ [])) (Word word_full)) (λ _. Answers.◌>>=◌ (Answers.need (agrees (with_class w k us ss)) (Word word_clash)) (λ _. Answers.ok (with_class w k us ss)))

-- define of a class of version 1 gives the same, but where the first document's refuses a field name that a superclass has
hidden-or-same : (room : Bool) (k : Class) (w : World) → OldClass k → But (Word word_hidden) (first_define room k w) (define room k w)
unfolding first_define define
hidden-or-same room k w h = rw (same-all-notes k k.methods h.0 h.1) (but-passed _ _ _ _ _ (ap not (none_unmapped k k.methods h.0))
    (but-then _ _ _ _ (λ ns. but-then _ _ _ _ (λ _. but-then _ _ _ _ (λ p. but-test _ _ _ _
    (ap (with_ties room k w p ns) (same-overrides w.base k.loader p w.ties k.methods (old-singles k.methods h.1))))))))

pub same-define : (room : Bool) (k : Class) (w : World) → OldClass k → (first_define room k w ≡ Answers.refused (Word word_hidden) → ⊥) → first_define room k w ≡ define room k w
same-define room k w h n = elim (hidden-or-same room k w h) [ inl e ↦ absurd (n e) | inr e ↦ e ]
