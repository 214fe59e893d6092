-- What paper 7 changed is, for lists of one, what it was. Before version 3 each method that is read and each call that is decoded has a list of one argument (`read-single`, `decode-single`); and
-- each definition that the paper changed equals its text from before the paper: how files are read (`single-signature`, `single-read`) and code is decoded (`single-decode`), which methods are alike
-- (`single-alike`; none with another list, `single-apart`), what is popped for an argument and met (`single-pop`, `single-meets`), the types at point 0 (`single-entry`), the effect of a call on
-- types (`single-effect`), and ties (`single-ties`). What a call does is in laws/SingleCalls; what that says of files of versions 1 and 2 in laws/SingleFiles.
use Rattle.std.specs.Prelude.{◌≡◌, Bool, not, ◌&&◌, ℕ, zero, suc, ◌+◌, length, take, drop, get_or, eqb, leb}
use Rattle.std.proofs.Math.Path.{refl, ap}
use Rattle.std.proofs.Common.{sym, ◌∙◌, subst, arith, leb-true, leb-false}
use Rattle.std.proofs.Math.Bool.{true, false}
use Rattle.std.proofs.Math.Option.{Option, none, some, none-ne-some, some-injective}
use mathlib.Core.List.{List, [], ◌∷◌, ◌++◌, append-nil}
use Rattle.std.proofs.lemmas.Bool.{eqb-false}
use Rattle.definition.specs.declared.Kind.TheVariants.{IntKind, ReferenceKind}
use Rattle.definition.specs.declared.Operator.TheVariants.{Add, Subtract, Multiply, Divide}
use Rattle.definition.specs.declared.Condition.TheVariants.{Always, IfZero, IfLess}
use Rattle.definition.specs.declared.Arguments.{Arguments}
use Rattle.definition.specs.declared.Arguments.TheVariants.{NoArguments, OneArgument, TwoArguments, ThreeArguments, FourArguments}
use Rattle.definition.specs.declared.Signature.{Signature}
use Rattle.definition.specs.declared.Opcode.{Opcode}
use Rattle.definition.specs.declared.Opcode.TheVariants.{OpAconstNull, OpSipush, OpLoad, OpStore, OpPop, OpDup, OpArithmetic, OpGetfield, OpPutfield, OpInvokevirtual, OpInvokevirtualList, OpNew, OpReturn, OpBranch, OpUnknown}
use Rattle.definition.specs.declared.Instruction.{Instruction}
use Rattle.definition.specs.declared.Instruction.TheVariants.{AconstNull, Sipush, Load, Store, Pop, Dup, Arithmetic, Getfield, Putfield, Invokevirtual, New, Return, Branch}
use Rattle.definition.specs.Numbers.{name_object, version_one, version_two, version_three, file_limit, code_limit}
use Rattle.definition.specs.Lists.{all, any, same_list, doubled, filled}
use Rattle.definition.specs.Maybe.{◌>>=◌, need}
use Rattle.definition.specs.Classes.{types_of, signature, signature_types, is_named, Class, Method, same_signature, alike}
use Rattle.definition.specs.Constraints.{Tie, new_tie, new_ties, signature_ties}
use Rattle.definition.specs.File.{File, Got, byte, short, name, count, fields_in, one_in, arguments_in, signature_in, maps_in, methods_in, ends, same_field, same_method, read_file}
use Rattle.definition.specs.Instructions.{pick, opcode_of, inline_length, short_at, instruction_of, Decoded, sized_as, decode}
use Rattle.definition.specs.Verifier.{Note, VerifierType, type_class, TypeState, Flow, type_of_name, entry_types, meet_class, meets, pop, pop_all, meet_all, flow, effect}
use Rattle.laws.specs.Options.{Holds, holds-past, holds_on, holds-need, holds_at}
use Rattle.laws.specs.Inline.{one-in}

-- A signature with a list of one

abbrev pub single_signature : ℕ → ℕ → ℕ → Signature
single_signature n a r = signature n (OneArgument a) r

abbrev pub Single : Signature → Type 0
Single s = (a : ℕ) × (s.arguments ≡ OneArgument a)

pub by-single : (P : Signature → Type 0) → ((n a r : ℕ) → P (single_signature n a r)) → (s : Signature) → Single s → P s
by-single P k s h = subst P (λ i. record { name = s.name; arguments = sym h.1 i; result = s.result }) (k s.name h.0 s.result)

pub single-types : (n a r : ℕ) → signature_types (single_signature n a r) ≡ a ∷ r ∷ []
single-types n a r = refl

pub single-named : (n a r : ℕ) → is_named (single_signature n a r) ≡ (leb 1 n && leb 1 a && leb 1 r)
unfolding is_named all
single-named n a r = ap (λ (t : Bool). leb 1 n && t && leb 1 r) (go (leb 1 a))
  where
    go : (t : Bool) → (elim t as (λ _. Bool) [ true ↦ true | false ↦ false ]) ≡ t
    go true = refl
    go false = refl

-- Two signatures with lists of one are alike as they were; with another list none of them is alike

same-one : (a b : ℕ) → same_list (a ∷ []) (b ∷ []) ≡ eqb a b
unfolding same_list
same-one a b = go (eqb a b)
  where
    go : (t : Bool) → (elim t as (λ _. Bool) [ true ↦ true | false ↦ false ]) ≡ t
    go true = refl
    go false = refl

pub single-same : (n a r m b q : ℕ) → same_signature (single_signature n a r) (single_signature m b q) ≡ (eqb n m && eqb a b && eqb r q)
unfolding same_signature
single-same n a r m b q = ap (λ (t : Bool). eqb n m && t && eqb r q) (same-one a b)

pub single-alike : (n a r : ℕ) (m : Method) (b : ℕ) → m.signature.arguments ≡ OneArgument b → alike (single_signature n a r) m ≡ (eqb m.signature.name n && eqb b a && eqb m.signature.result r)
unfolding alike same_signature
single-alike n a r m b e = rw e (ap (λ (t : Bool). eqb m.signature.name n && t && eqb m.signature.result r) (same-one b a))

pub single-apart : (n a r : ℕ) (m : Method) → (Single m.signature → ⊥) → alike (single_signature n a r) m ≡ false
unfolding alike same_signature
single-apart n a r m h = go m.signature.arguments refl
  where
    nor : (t u : Bool) → (t && false && u) ≡ false
    nor true u = refl
    nor false u = refl

    more : (x : Bool) → (elim x as (λ _. Bool) [ true ↦ false | false ↦ false ]) ≡ false
    more true = refl
    more false = refl

    Apart : List ℕ → Type 0
    Apart ts = (eqb m.signature.name n && same_list ts (a ∷ []) && eqb m.signature.result r) ≡ false

    apart : (ts : List ℕ) → same_list ts (a ∷ []) ≡ false → Apart ts
    apart ts e = rw e (nor (eqb m.signature.name n) (eqb m.signature.result r))

    go : (b : Arguments) → m.signature.arguments ≡ b → Apart (types_of b)
    go NoArguments e = apart [] (unfold same_list in refl)
    go (OneArgument b) e = absurd (h (b, e))
    go (TwoArguments b c) e = apart (b ∷ c ∷ []) (unfold same_list in more (eqb b a))
    go (ThreeArguments b c d) e = apart (b ∷ c ∷ d ∷ []) (unfold same_list in more (eqb b a))
    go (FourArguments b c d f) e = apart (b ∷ c ∷ d ∷ f ∷ []) (unfold same_list in more (eqb b a))

-- Files. A signature as it was read: name, argument type, result type

unfoldable pub single_signature_in : List ℕ → Option (Got Signature)
single_signature_in bs = name 1 bs >>= λ n. name 1 n.more >>= λ a. name 1 a.more >>= λ r. some (record { value = single_signature n.value a.value r.value; more = r.more })

bind-twice : {A B C : Type 0} (o : Option A) (f : A → Option B) (g : B → Option C) → (o >>= f >>= g) ≡ (o >>= λ a. f a >>= g)
unfolding ◌>>=◌
bind-twice none f g = refl
bind-twice (some a) f g = refl

pub single-signature : (version : ℕ) (bs : List ℕ) → leb version_three version ≡ false → signature_in version bs ≡ single_signature_in bs
unfolding signature_in single_signature_in one_in ◌>>=◌
single-signature version bs h = ap (λ (f : Got ℕ → Option (Got Signature)). name 1 bs >>= f) (λ i n. go n i)
  where
    go : (n : Got ℕ)
        → ◌≡◌ {A = Option (Got Signature)} (arguments_in version n.more >>= λ a. name 1 a.more >>= λ r. some (record { value = signature n.value a.value r.value; more = r.more }))
        (name 1 n.more >>= λ a. name 1 a.more >>= λ r. some (record { value = single_signature n.value a.value r.value; more = r.more }))
    go n = rw (one-in version n.more h) (unfold one_in in bind-twice (name 1 n.more) _ _)

-- its methods: for each its signature, code length (1 to 512), code, maps
unfoldable pub single_methods_in : ℕ → ℕ → List ℕ → Option (Got (List Method))
single_methods_in version zero bs = some (record { value = []; more = bs })
single_methods_in version (suc k) bs =
    single_signature_in bs >>= λ s. short s.more >>= λ l.
    need (leb 1 l.value && leb l.value code_limit && leb l.value (length l.more)) >>= λ _.
    maps_in version (drop l.value l.more) >>= λ maps. single_methods_in version k maps.more >>= λ ms.
    some (record { value = record { signature = s.value; code = take l.value l.more; maps = maps.value } ∷ ms.value; more = ms.more })

pub single-methods : (version k : ℕ) (bs : List ℕ) → leb version_three version ≡ false → methods_in version k bs ≡ single_methods_in version k bs
unfolding methods_in single_methods_in
single-methods version zero bs h = refl
single-methods version (suc k) bs h = λ i. ◌>>=◌ {B = Got (List Method)} (single-signature version bs h i) (λ s. short s.more >>= λ l.
    need (leb 1 l.value && leb l.value code_limit && leb l.value (length l.more)) >>= λ _.
    maps_in version (drop l.value l.more) >>= λ maps. single-methods version k maps.more h i >>= λ ms.
    some (record { value = record { signature = s.value; code = take l.value l.more; maps = maps.value } ∷ ms.value; more = ms.more }))

-- each with a list of one

abbrev pub Singles : List Method → Type 0
Singles [] = Unit {0}
Singles (m ∷ ms) = Single m.signature × Singles ms

signature-is : (bs : List ℕ) → Holds (single_signature_in bs) (λ g. Single g.value)
unfolding single_signature_in
signature-is bs = holds-past Q _ _ (λ n. holds-past Q _ _ (λ a. holds-past Q _ _ (λ r. (a.value, refl))))
  where
    Q : Got Signature → Type 0
    Q g = Single g.value

methods-are : (version k : ℕ) (bs : List ℕ) → Holds (single_methods_in version k bs) (λ g. Singles g.value)
unfolding single_methods_in
methods-are version zero bs = tt
methods-are version (suc k) bs = holds_on (λ g. Single g.value) Q _ _ (signature-is bs) (λ s d. holds-past Q _ _ (λ l. holds-past Q _ _ (λ _. holds-past Q _ _ (λ maps.
    holds_on Q Q _ _ (methods-are version k maps.more) (λ ms h. (d, h))))))
  where
    Q : Got (List Method) → Type 0
    Q g = Singles g.value

pub methods-single : (version k : ℕ) (bs : List ℕ) → leb version_three version ≡ false → Holds (methods_in version k bs) (λ g. Singles g.value)
methods-single version k bs h = rw (single-methods version k bs h) (methods-are version k bs)

-- two of them alike in name and both types; the argument type of a list of one, 0 for another list, which these methods don't have

unfoldable pub argument_of : Arguments → ℕ
argument_of NoArguments = 0
argument_of (OneArgument a) = a
argument_of (TwoArguments a b) = 0
argument_of (ThreeArguments a b c) = 0
argument_of (FourArguments a b c d) = 0

unfoldable pub single_same_method : Method → Method → Bool
single_same_method m n =
    eqb n.signature.name m.signature.name && eqb (argument_of n.signature.arguments) (argument_of m.signature.arguments)
    && eqb n.signature.result m.signature.result

same-method : (m n : Method) → Single m.signature → Single n.signature → same_method m n ≡ single_same_method m n
unfolding same_method single_same_method alike same_signature argument_of
same-method m n h k = rw (h.1, k.1) (ap (λ (t : Bool). eqb n.signature.name m.signature.name && t && eqb n.signature.result m.signature.result) (same-one k.0 h.0))

single-doubled : (ms : List Method) → Singles ms → doubled same_method ms ≡ doubled single_same_method ms
unfolding doubled any
single-doubled [] h = refl
single-doubled (m ∷ ms) h = λ i. elim (go ms h.1 i) as (λ _. Bool) [ true ↦ true | false ↦ single-doubled ms h.1 i ]
  where
    go : (ns : List Method) → Singles ns → any (same_method m) ns ≡ any (single_same_method m) ns
    go [] k = unfold any in refl
    go (n ∷ ns) k = unfold any in λ i. elim (same-method m n h.0 k.0 i) as (λ _. Bool) [ true ↦ true | false ↦ go ns k.1 i ]

-- the bytes begin with version 3
unfoldable pub third_file : List ℕ → Bool
third_file [] = false
third_file (b ∷ bs) = eqb b version_three

-- a file of version 1 or 2
unfoldable pub single_read_file : List ℕ → Option File
single_read_file bs =
    need (leb (length bs) file_limit) >>= λ _. byte bs >>= λ v. need (leb version_one v.value && leb v.value version_two) >>= λ _.
    short v.more >>= λ n. need (eqb n.value (length n.more)) >>= λ _.
    name name_object n.more >>= λ c. name name_object c.more >>= λ s.
    count s.more >>= λ k. fields_in k.value k.more >>= λ fs.
    count fs.more >>= λ j. single_methods_in v.value j.value j.more >>= λ ms. need (ends ms.more) >>= λ _.
    need (not (doubled same_field fs.value)) >>= λ _. need (not (doubled single_same_method ms.value)) >>= λ _.
    some (record { version = v.value; name = c.value; super = s.value; fields = fs.value; methods = ms.value })

below-three : (v : ℕ) → leb v version_two ≡ true → leb version_three v ≡ false
below-three v h = go (leb version_three v) refl
  where
    go : (t : Bool) → leb version_three v ≡ t → t ≡ false
    go true e = absurd (omega (arith, leb-true version_three v e, leb-true v version_two h))
    go false e = refl

within-three : (v : ℕ) → eqb v version_three ≡ false → leb v version_three ≡ leb v version_two
within-three v h = go (leb v version_three) refl (leb v version_two) refl
  where
    go : (t : Bool) → leb v version_three ≡ t → (u : Bool) → leb v version_two ≡ u → t ≡ u
    go true d true e = refl
    go true d false e = absurd (omega (arith, leb-true v version_three d, leb-false v version_two e, eqb-false v version_three h))
    go false d true e = absurd (omega (arith, leb-false v version_three d, leb-true v version_two e))
    go false d false e = refl

byte-not-third : (bs : List ℕ) (v : Got ℕ) → third_file bs ≡ false → byte bs ≡ some v → eqb v.value version_three ≡ false
unfolding third_file byte
byte-not-third [] v h e = absurd (none-ne-some v e)
byte-not-third (b ∷ bs) v h e = rw (sym (some-injective _ _ e)) h

bind-in : {A B : Type 0} (o : Option A) (f g : A → Option B) → ((a : A) → o ≡ some a → f a ≡ g a) → (o >>= f) ≡ (o >>= g)
unfolding ◌>>=◌
bind-in none f g k = refl
bind-in (some a) f g k = k a refl

tested : {B : Type 0} (t u : Bool) → t ≡ u → (f g : Unit {0} → Option B) → (u ≡ true → f tt ≡ g tt) → (need t >>= f) ≡ (need u >>= g)
unfolding ◌>>=◌ need
tested t true e f g k = rw e (k refl)
tested t false e f g k = rw e refl

and_right : (t u : Bool) → (t && u) ≡ true → u ≡ true
and_right true u e = e
and_right false true e = refl
and_right false false e = e

-- bytes that don't begin with version 3 are read as they were, into a file or into none
pub single-read : (bs : List ℕ) → third_file bs ≡ false → read_file bs ≡ single_read_file bs
unfolding read_file single_read_file
single-read bs h = bind-in _ _ _ (λ _ _. bind-in _ _ _ (λ v q.
    tested (leb version_one v.value && leb v.value version_three) (leb version_one v.value && leb v.value version_two)
    (ap (λ (t : Bool). leb version_one v.value && t) (within-three v.value (byte-not-third bs v h q))) _ _ (λ e.
    bind-in _ _ _ (λ n _. bind-in _ _ _ (λ _ _. bind-in _ _ _ (λ c _. bind-in _ _ _ (λ s _. bind-in _ _ _ (λ k _. bind-in _ _ _ (λ fs _. bind-in _ _ _ (λ (j : Got ℕ) _.
    (let b : leb version_three v.value ≡ false = below-three v.value (and_right (leb version_one v.value) (leb v.value version_two) e) in
    rw (← single-methods v.value j.value j.more b) (bind-in _ _ _ (λ ms d. bind-in _ _ _ (λ _ _. bind-in _ _ _ (λ _ _.
    ap (λ (t : Bool). need (not t) >>= λ _. some (record { version = v.value; name = c.value; super = s.value; fields = fs.value; methods = ms.value }))
    (single-doubled ms.value (holds_at (λ g. Singles g.value) _ ms (methods-single v.value j.value j.more b) d)))))))))))))))))

-- and the file's version is before 3

file-before : (bs : List ℕ) → Holds (single_read_file bs) (λ f. leb version_three f.version ≡ false)
unfolding single_read_file
file-before bs =
    holds-past Q _ _ (λ _. holds-past Q _ _ (λ v. holds-need Q _ _ (λ e. holds-past Q _ _ (λ n. holds-past Q _ _ (λ _. holds-past Q _ _ (λ c. holds-past Q _ _ (λ s.
    holds-past Q _ _ (λ k. holds-past Q _ _ (λ fs. holds-past Q _ _ (λ j. holds-past Q _ _ (λ ms. holds-past Q _ _ (λ _. holds-past Q _ _ (λ _. holds-past Q _ _ (λ _.
    below-three v.value (and_right (leb version_one v.value) (leb v.value version_two) e)))))))))))))))
  where
    Q : File → Type 0
    Q f = leb version_three f.version ≡ false

pub version-before : (bs : List ℕ) (f : File) → third_file bs ≡ false → read_file bs ≡ some f → leb version_three f.version ≡ false
version-before bs f h e = holds_at (λ g. leb version_three g.version ≡ false) (single_read_file bs) f (file-before bs) (sym (single-read bs h) ∙ e)

-- each method of a file that is read, of a version before 3, has a list of one

file-is : (bs : List ℕ) → Holds (read_file bs) (λ f. leb version_three f.version ≡ false → Singles f.methods)
unfolding read_file
file-is bs =
    holds-past Q _ _ (λ _. holds-past Q _ _ (λ v. holds-past Q _ _ (λ _. holds-past Q _ _ (λ n. holds-past Q _ _ (λ _. holds-past Q _ _ (λ c. holds-past Q _ _ (λ s.
    holds-past Q _ _ (λ k. holds-past Q _ _ (λ fs. holds-past Q _ _ (λ j. holds-with (methods_in v.value j.value j.more) _ (λ ms e.
    holds-past Q _ _ (λ _. holds-past Q _ _ (λ _. holds-past Q _ _ (λ _. λ h. holds_at (λ g. Singles g.value) _ ms (methods-single v.value j.value j.more h) e))))))))))))))
  where
    Q : File → Type 0
    Q f = leb version_three f.version ≡ false → Singles f.methods

    holds-with : {A : Type 0} (o : Option A) (f : A → Option File) → ((a : A) → o ≡ some a → Holds (f a) Q) → Holds (o >>= f) Q
    holds-with none f k = unfold ◌>>=◌ in tt
    holds-with (some a) f k = unfold ◌>>=◌ in k a refl

pub read-single : (bs : List ℕ) (f : File) → read_file bs ≡ some f → leb version_three f.version ≡ false → Singles f.methods
read-single bs f e = holds_at (λ g. leb version_three g.version ≡ false → Singles g.methods) (read_file bs) f (file-is bs) e

-- Code. The decision over opcode bytes as it was

unfoldable pub single_opcode_of : ℕ → ℕ → Opcode
single_opcode_of version b =
    pick (eqb b 0x01) OpAconstNull (pick (eqb b 0x11) OpSipush
    (pick (eqb b 0x15) (OpLoad IntKind) (pick (eqb b 0x19) (OpLoad ReferenceKind) (pick (eqb b 0x36) (OpStore IntKind) (pick (eqb b 0x3A) (OpStore ReferenceKind)
    (pick (eqb b 0x57) OpPop (pick (eqb b 0x59) OpDup (pick (eqb b 0x60) (OpArithmetic Add) (pick (eqb b 0x64) (OpArithmetic Subtract)
    (pick (eqb b 0xB4) OpGetfield (pick (eqb b 0xB5) OpPutfield (pick (eqb b 0xB6) OpInvokevirtual (pick (eqb b 0xBB) OpNew
    (pick (eqb b 0xAC) (OpReturn IntKind) (pick (eqb b 0xB0) (OpReturn ReferenceKind)
    (pick (leb version_two version)
    (pick (eqb b 0x68) (OpArithmetic Multiply) (pick (eqb b 0x6C) (OpArithmetic Divide)
    (pick (eqb b 0x99) (OpBranch IfZero) (pick (eqb b 0xA1) (OpBranch IfLess) (pick (eqb b 0xA7) (OpBranch Always) OpUnknown))))) OpUnknown))))))))))))))))

pub single-opcode : (version b : ℕ) → leb version_three version ≡ false → opcode_of version b ≡ single_opcode_of version b
unfolding opcode_of single_opcode_of
single-opcode version b h = rw h (unfold pick in refl)

-- how many bytes follow inline, whatever they are; no byte says a call with a list
unfoldable pub single_inline_length : Opcode → ℕ
single_inline_length OpAconstNull = 0
single_inline_length OpSipush = 2
single_inline_length (OpLoad k) = 1
single_inline_length (OpStore k) = 1
single_inline_length OpPop = 0
single_inline_length OpDup = 0
single_inline_length (OpArithmetic o) = 0
single_inline_length OpGetfield = 6
single_inline_length OpPutfield = 6
single_inline_length OpInvokevirtual = 8
single_inline_length OpInvokevirtualList = 0
single_inline_length OpNew = 2
single_inline_length (OpReturn k) = 0
single_inline_length (OpBranch c) = 2
single_inline_length OpUnknown = 0

-- it says no call with a list
abbrev pub NoList : Opcode → Type 0
NoList OpAconstNull = Unit {0}
NoList OpSipush = Unit {0}
NoList (OpLoad k) = Unit {0}
NoList (OpStore k) = Unit {0}
NoList OpPop = Unit {0}
NoList OpDup = Unit {0}
NoList (OpArithmetic o) = Unit {0}
NoList OpGetfield = Unit {0}
NoList OpPutfield = Unit {0}
NoList OpInvokevirtual = Unit {0}
NoList OpInvokevirtualList = ⊥
NoList OpNew = Unit {0}
NoList (OpReturn k) = Unit {0}
NoList (OpBranch c) = Unit {0}
NoList OpUnknown = Unit {0}

pub single-inline : (s : List ℕ) (i : ℕ) (o : Opcode) → NoList o → inline_length s i o ≡ single_inline_length o
unfolding inline_length single_inline_length
single-inline s i OpAconstNull h = refl
single-inline s i OpSipush h = refl
single-inline s i (OpLoad k) h = refl
single-inline s i (OpStore k) h = refl
single-inline s i OpPop h = refl
single-inline s i OpDup h = refl
single-inline s i (OpArithmetic o) h = refl
single-inline s i OpGetfield h = refl
single-inline s i OpPutfield h = refl
single-inline s i OpInvokevirtual h = refl
single-inline s i OpInvokevirtualList h = absurd h
single-inline s i OpNew h = refl
single-inline s i (OpReturn k) h = refl
single-inline s i (OpBranch c) h = refl
single-inline s i OpUnknown h = refl

pick-none : (t : Bool) (a b : Opcode) → NoList a → NoList b → NoList (pick t a b)
unfolding pick
pick-none true a b x y = x
pick-none false a b x y = y

opcode-none : (version b : ℕ) → NoList (single_opcode_of version b)
unfolding single_opcode_of
opcode-none version b =
    pick-none _ _ _ tt (pick-none _ _ _ tt (pick-none _ _ _ tt (pick-none _ _ _ tt (pick-none _ _ _ tt (pick-none _ _ _ tt (pick-none _ _ _ tt (pick-none _ _ _ tt
    (pick-none _ _ _ tt (pick-none _ _ _ tt (pick-none _ _ _ tt (pick-none _ _ _ tt (pick-none _ _ _ tt (pick-none _ _ _ tt (pick-none _ _ _ tt (pick-none _ _ _ tt
    (pick-none _ _ _ (pick-none _ _ _ tt (pick-none _ _ _ tt (pick-none _ _ _ tt (pick-none _ _ _ tt (pick-none _ _ _ tt tt))))) tt))))))))))))))))

-- the instruction at point p
unfoldable pub single_decode : ℕ → List ℕ → ℕ → Option Decoded
single_decode version code p =
    let o = single_opcode_of version (get_or code p 0) in
    elim (leb (p + suc (single_inline_length o)) (length code)) [ true ↦ sized_as (suc (single_inline_length o)) (instruction_of code (p + 1) o) | false ↦ none ]

abbrev decoded_by : List ℕ → ℕ → Opcode → ℕ → Option Decoded
decoded_by code p o n = elim (leb (p + suc n) (length code)) as (λ _. Option Decoded) [ true ↦ sized_as (suc n) (instruction_of code (p + 1) o) | false ↦ none ]

pub single-decode : (version : ℕ) (code : List ℕ) (p : ℕ) → leb version_three version ≡ false → decode version code p ≡ single_decode version code p
unfolding decode single_decode
single-decode version code p h =
    ap (λ (o : Opcode). decoded_by code p o (inline_length code (p + 1) o)) (single-opcode version (get_or code p 0) h)
    ∙ ap (decoded_by code p (single_opcode_of version (get_or code p 0))) (single-inline code (p + 1) (single_opcode_of version (get_or code p 0)) (opcode-none version (get_or code p 0)))

-- if it is a call, then with a list of one
abbrev pub SingleIn : Instruction → Type 0
SingleIn AconstNull = Unit {0}
SingleIn (Sipush n) = Unit {0}
SingleIn (Load kind j) = Unit {0}
SingleIn (Store kind j) = Unit {0}
SingleIn Pop = Unit {0}
SingleIn Dup = Unit {0}
SingleIn (Arithmetic o) = Unit {0}
SingleIn (Getfield c n t) = Unit {0}
SingleIn (Putfield c n t) = Unit {0}
SingleIn (Invokevirtual c s) = Single s
SingleIn (New c) = Unit {0}
SingleIn (Branch c p) = Unit {0}
SingleIn (Return kind) = Unit {0}

instruction-single : (s : List ℕ) (i : ℕ) (o : Opcode) → NoList o → Holds (instruction_of s i o) SingleIn
unfolding instruction_of
instruction-single s i OpAconstNull h = tt
instruction-single s i OpSipush h = tt
instruction-single s i (OpLoad k) h = tt
instruction-single s i (OpStore k) h = tt
instruction-single s i OpPop h = tt
instruction-single s i OpDup h = tt
instruction-single s i (OpArithmetic o) h = tt
instruction-single s i OpGetfield h = tt
instruction-single s i OpPutfield h = tt
instruction-single s i OpInvokevirtual h = (short_at s (i + 2 + 2), refl)
instruction-single s i OpInvokevirtualList h = absurd h
instruction-single s i OpNew h = tt
instruction-single s i (OpReturn k) h = tt
instruction-single s i (OpBranch c) h = tt
instruction-single s i OpUnknown h = tt

pub decode-single : (version : ℕ) (code : List ℕ) (p : ℕ) → leb version_three version ≡ false → Holds (decode version code p) (λ i. SingleIn i.instruction)
unfolding single_decode
decode-single version code p h =
    rw (single-decode version code p h) (go (leb (p + suc (single_inline_length o)) (length code)) (instruction_of code (p + 1) o) (instruction-single code (p + 1) o (opcode-none version (get_or code p 0))))
  where
    o : Opcode
    o = single_opcode_of version (get_or code p 0)

    go : (t : Bool) (x : Option Instruction) → Holds x SingleIn → Holds {A = Decoded} (elim t as (λ _. Option Decoded) [ true ↦ sized_as (suc (single_inline_length o)) x | false ↦ none ]) (λ i. SingleIn i.instruction)
    go true none k = unfold sized_as in tt
    go true (some j) k = unfold sized_as in k
    go false x k = tt

-- Types. One pop, one that is met

pub single-pop : {A : Type 0} (xs : List A) → ◌≡◌ {A = Option (record { all : List A; more : List A })} (pop_all 1 xs) (pop xs >>= λ p. some (record { all = p.top ∷ []; more = p.more }))
unfolding pop_all pop ◌>>=◌
single-pop [] = refl
single-pop (x ∷ xs) = refl

pub single-meets : {A : Type 0} (f : A → ℕ → Option (List Note)) (x : A) (n : ℕ) → meet_all f (x ∷ []) (n ∷ []) ≡ f x n
unfolding meet_all
single-meets f x n = go (f x n)
  where
    go : (o : Option (List Note)) → (o >>= λ a. some [] >>= λ b. some (a ++ b)) ≡ o
    go none = unfold ◌>>=◌ in refl
    go (some a) = unfold ◌>>=◌ in ap (λ (z : List Note). some z) (append-nil a)

-- point 0: local 0 the class's own name, local 1 the argument type, the rest unset
abbrev pub single_entry : Class → ℕ → TypeState
single_entry k a = record { operands = []; locals = some (type_class k.name) ∷ some (type_of_name a) ∷ none ∷ none ∷ none ∷ none ∷ none ∷ none ∷ [] }

pub single-entry : (k : Class) (m : Method) (a : ℕ) → m.signature.arguments ≡ OneArgument a → entry_types k m ≡ single_entry k a
unfolding filled
single-entry k m a e = rw e refl

-- the effect of a call: the argument is popped, then the receiver; notes on the receiver before those on the argument
pub single-effect : (c n a r : ℕ) (s : TypeState) → effect (Invokevirtual c (single_signature n a r)) s
    ≡ (need (leb name_object c && (leb 1 n && leb 1 a && leb 1 r)) >>= λ _. pop s.operands >>= λ p. pop p.more >>= λ q.
    meet_class c q.top >>= λ x. meets p.top a >>= λ b. flow (type_of_name r ∷ q.more) s.locals (x ++ b))
unfolding effect
single-effect c n a r s = λ i. need (leb name_object c && single-named n a r i) >>= λ _. go s.operands i
  where
    went : (p : VerifierType) (q : record { top : VerifierType; more : List VerifierType }) → ◌≡◌ {A = Option Flow}
        (meet_class c q.top >>= λ x. meet_all meets (p ∷ []) (a ∷ []) >>= λ b. flow (type_of_name r ∷ q.more) s.locals (x ++ b))
        (meet_class c q.top >>= λ x. meets p a >>= λ b. flow (type_of_name r ∷ q.more) s.locals (x ++ b))
    went p q = ap (λ (o : Option (List Note)). meet_class c q.top >>= λ x. o >>= λ b. flow (type_of_name r ∷ q.more) s.locals (x ++ b)) (single-meets meets p a)

    go : (xs : List VerifierType) → ◌≡◌ {A = Option Flow}
        (pop_all 1 xs >>= λ p. pop p.more >>= λ q. meet_class c q.top >>= λ x. meet_all meets p.all (a ∷ []) >>= λ b. flow (type_of_name r ∷ q.more) s.locals (x ++ b))
        (pop xs >>= λ p. pop p.more >>= λ q. meet_class c q.top >>= λ x. meets p.top a >>= λ b. flow (type_of_name r ∷ q.more) s.locals (x ++ b))
    go [] = unfold pop_all pop ◌>>=◌ in refl
    go (x ∷ xs) = unfold pop_all pop in (unfold ◌>>=◌ in λ i. pop xs >>= λ q. went x q i)

-- Ties: on the argument, then on the result

pub single-ties : (ts : List Tie) (l m n a r : ℕ) → signature_ties ts l m (single_signature n a r) ≡ new_tie ts l m a ++ new_tie (ts ++ new_tie ts l m a) l m r
unfolding signature_ties new_ties
single-ties ts l m n a r = ap (λ (us : List Tie). new_tie ts l m a ++ us) (append-nil (new_tie (ts ++ new_tie ts l m a) l m r))
