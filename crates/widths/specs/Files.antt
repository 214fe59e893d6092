-- What is read of bytes has its width: names of a file, those in its maps too, 16 bits, bytes of a method's code 8, and an instruction's inline numbers their own.
use Rattle.std.specs.Prelude.{◌≡◌, Bool, ◌&&◌, List, [], ◌∷◌, map, length, take, drop, get_or, leb, ltb}
use Rattle.std.proofs.Math.Path.{refl}
use Rattle.std.proofs.Math.Bool.{true, false}
use Rattle.std.proofs.Math.Option.{Option, none, some}
use Prim.Native.Nat.{ℕ, zero, suc, ◌+◌, ◌*◌, ◌<◌, ◌≤◌}
use native.Mathlib.Omega.{arith}
use Rattle.std.proofs.Math.ListN.{get_elem?}
use Rattle.std.proofs.Common.{length-take, leb-true}
use Rattle.definition.specs.declared.Arguments.{Arguments}
use Rattle.definition.specs.declared.Signature.{Signature}
use Rattle.definition.specs.declared.Opcode.{Opcode}
use Rattle.definition.specs.declared.Opcode.TheVariants.{OpAconstNull, OpSipush, OpLoad, OpStore, OpPop, OpDup, OpArithmetic, OpGetfield, OpPutfield, OpInvokevirtual, OpInvokevirtualList, OpNew, OpReturn, OpBranch, OpUnknown}
use Rattle.definition.specs.declared.Instruction.{Instruction}
use Rattle.definition.specs.declared.Instruction.TheVariants.{AconstNull, Sipush, Load, Store, Pop, Dup, Arithmetic, Getfield, Putfield, Invokevirtual, New, Return, Branch}
use Rattle.definition.specs.Maybe.{◌>>=◌, need}
use Rattle.definition.specs.Classes.{Base, Class, Map, Method, arguments_of, methods_of, signature_types, types_of}
use Rattle.definition.specs.File.{File, Got, byte, short, name, count, fields_in, names_in, map_in, maps_from, maps_in, methods_in, read_file, class_of, object_class, one_in, list_in, arguments_in, signature_in}
use Rattle.definition.specs.Instructions.{opcode_of, inline_length, short_at, shorts_at, list_signature_at, extend, instruction_of, Decoded, sized_as, decode}
use Rattle.definition.specs.Tables.{ClassRow, file_at, class_at}
use Rattle.definition.specs.Widths.{EachBelow}
use Rattle.laws.specs.Members.{types-of}
use Rattle.laws.specs.Tests.{and-true}
use Rattle.layout.specs.Tests.{All, all_both}
use Rattle.unbroken.specs.Steps.{all-nth}
use Rattle.widths.specs.Below.{all_map, below-cell, below-take, below-drop}

-- Readings in sequence: what holds of what was read, if it was read

abbrev pub Read : {A : Type 0} → Option A → (A → Type 0) → Type 0
Read none Q = Unit {0}
Read (some a) Q = Q a

pub read-on : {A B : Type 0} (P : A → Type 0) (Q : B → Type 0) (o : Option A) (f : A → Option B) → Read o P → ((a : A) → P a → Read (f a) Q) → Read (o >>= f) Q
unfolding ◌>>=◌
read-on P Q none f h k = tt
read-on P Q (some a) f h k = k a h

-- where nothing of the first reading counts
pub read_past : {A B : Type 0} (Q : B → Type 0) (o : Option A) (f : A → Option B) → ((a : A) → Read (f a) Q) → Read (o >>= f) Q
unfolding ◌>>=◌
read_past Q none f k = tt
read_past Q (some a) f k = k a

pub read-need : {B : Type 0} (Q : B → Type 0) (b : Bool) (f : Unit {0} → Option B) → (b ≡ true → Read (f tt) Q) → Read (need b >>= f) Q
unfolding ◌>>=◌ need
read-need Q true f k = k refl
read-need Q false f k = tt

pub read-nth : {A : Type 0} (P : A → Type 0) (xs : List A) (i : ℕ) → All P xs → Read (get_elem? xs i) P
read-nth P [] i h = tt
read-nth P (x ∷ xs) zero h = h.0
read-nth P (x ∷ xs) (suc i) h = read-nth P xs i h.1

-- Bytes and 16-bit numbers

-- what was read has P, and the rest are bytes
pub record GotFits {A : Type 0} (P : A → Type 0) (g : Got A) : Type 0 where
  pub value : P g.value
  pub more : EachBelow 256 g.more

abbrev Any : {A : Type 0} → A → Type 0
Any a = Unit {0}

abbrev Short : ℕ → Type 0
Short n = n < 65536

byte_fits : (bs : List ℕ) → EachBelow 256 bs → Read (byte bs) (GotFits (λ b. b < 256))
unfolding byte
byte_fits [] h = tt
byte_fits (b ∷ bs) h = record { value = h.0; more = h.1 }

short-fits : (bs : List ℕ) → EachBelow 256 bs → Read (short bs) (GotFits Short)
unfolding short
short-fits bs h =
    read-on (GotFits (λ b. b < 256)) (GotFits Short) _ _ (byte_fits bs h) (λ a x.
    read-on (GotFits (λ b. b < 256)) (GotFits Short) _ _ (byte_fits a.more x.more) (λ b y. record { value = omega (arith, x.value, y.value); more = y.more }))

name-fits : (n : ℕ) (bs : List ℕ) → EachBelow 256 bs → Read (name n bs) (GotFits Short)
unfolding name
name-fits n bs h = read-on (GotFits Short) (GotFits Short) _ _ (short-fits bs h) (λ x g. read-need (GotFits Short) _ _ (λ _. g))

-- a count is at most 8
count_fits : (bs : List ℕ) → EachBelow 256 bs → Read (count bs) (GotFits (λ n. n ≤ 8))
unfolding count
count_fits bs h = read-on (GotFits (λ b. b < 256)) (GotFits (λ n. n ≤ 8)) _ _ (byte_fits bs h) (λ x g.
    read-need (GotFits (λ n. n ≤ 8)) _ _ (λ e. record { value = leb-true _ _ e; more = g.more }))

fields_fit : (k : ℕ) (bs : List ℕ) → EachBelow 256 bs → Read (fields_in k bs) (GotFits Any)
unfolding fields_in
fields_fit zero bs h = record { value = tt; more = h }
fields_fit (suc k) bs h =
    read-on (GotFits Short) (GotFits Any) _ _ (name-fits 1 bs h) (λ n x.
    read-on (GotFits Short) (GotFits Any) _ _ (name-fits 1 n.more x.more) (λ t y.
    read-on (GotFits Any) (GotFits Any) _ _ (fields_fit k t.more y.more) (λ fs z. record { value = tt; more = z.more })))

-- a signature: types of 16 bits
abbrev pub SignatureFits : Signature → Type 0
SignatureFits s = All Short (signature_types s)

-- a map: an offset and types of 16 bits
pub record MapFits (m : Map) : Type 0 where
  pub offset : m.offset < 65536
  pub locals : All Short m.locals
  pub operands : All Short m.operands

-- a method: types of 16 bits, code of at most 512 bytes, and maps that fit
pub record MethodFits (m : Method) : Type 0 where
  pub types : SignatureFits m.signature
  pub code : EachBelow 256 m.code
  pub short : length m.code ≤ 512
  pub maps : All MapFits m.maps

-- so many methods, each of which fits
pub record MethodsFit (k : ℕ) (ms : List Method) : Type 0 where
  pub many : length ms ≤ k
  pub each : All MethodFits ms

names-fit : (n k : ℕ) (bs : List ℕ) → EachBelow 256 bs → Read (names_in n k bs) (GotFits (All Short))
unfolding names_in
names-fit n zero bs h = record { value = tt; more = h }
names-fit n (suc k) bs h =
    read-on (GotFits Short) (GotFits (All Short)) _ _ (name-fits n bs h) (λ t x.
    read-on (GotFits (All Short)) (GotFits (All Short)) _ _ (names-fit n k t.more x.more) (λ ts y. record { value = (x.value, y.value); more = y.more }))

-- arguments of a list of types
arguments-fit : (ts : List ℕ) → All Short ts → Read (arguments_of ts) (λ a. All Short (types_of a))
arguments-fit ts h = go (arguments_of ts) refl
  where
    go : (o : Option Arguments) → arguments_of ts ≡ o → Read o (λ a. All Short (types_of a))
    go none e = tt
    go (some a) e = rw (types-of ts a e) h

arguments-in-fit : (version : ℕ) (bs : List ℕ) → EachBelow 256 bs → Read (arguments_in version bs) (GotFits (λ a. All Short (types_of a)))
unfolding arguments_in list_in one_in
arguments-in-fit version bs h = go (leb 3 version)
  where
    A : Arguments → Type 0
    A a = All Short (types_of a)

    go : (t : Bool) → Read (elim t as (λ _. Option (Got Arguments)) [ true ↦ list_in bs | false ↦ one_in bs ]) (GotFits A)
    go true = read-on (GotFits (λ b. b < 256)) (GotFits A) _ _ (byte_fits bs h) (λ k x. read-need (GotFits A) _ _ (λ _.
        read-on (GotFits (All Short)) (GotFits A) _ _ (names-fit 1 k.value k.more x.more) (λ ts y.
        read-on A (GotFits A) _ _ (arguments-fit ts.value y.value) (λ a z. record { value = z; more = y.more }))))
    go false = read-on (GotFits Short) (GotFits A) _ _ (name-fits 1 bs h) (λ a x. record { value = (x.value, tt); more = x.more })

signature-fits : (version : ℕ) (bs : List ℕ) → EachBelow 256 bs → Read (signature_in version bs) (GotFits SignatureFits)
unfolding signature_in
signature-fits version bs h =
    read-on (GotFits Short) (GotFits SignatureFits) _ _ (name-fits 1 bs h) (λ n x.
    read-on (GotFits (λ a. All Short (types_of a))) (GotFits SignatureFits) _ _ (arguments-in-fit version n.more x.more) (λ a y.
    read-on (GotFits Short) (GotFits SignatureFits) _ _ (name-fits 1 a.more y.more) (λ r z.
    record { value = all_both Short (types_of a.value) (r.value ∷ []) y.value (z.value, tt); more = z.more })))

map-fits : (o : ℕ) (bs : List ℕ) → EachBelow 256 bs → Read (map_in o bs) (GotFits MapFits)
unfolding map_in
map-fits o bs h =
    read-on (GotFits Short) (GotFits MapFits) _ _ (name-fits o bs h) (λ p x.
    read-on (GotFits (All Short)) (GotFits MapFits) _ _ (names-fit 0 8 p.more x.more) (λ ls y.
    read-on (GotFits (λ b. b < 256)) (GotFits MapFits) _ _ (byte_fits ls.more y.more) (λ d z. read-need (GotFits MapFits) _ _ (λ _.
    read-on (GotFits (All Short)) (GotFits MapFits) _ _ (names-fit 1 d.value d.more z.more) (λ os w.
    record { value = record { offset = x.value; locals = y.value; operands = w.value }; more = w.more })))))

maps-from-fit : (o k : ℕ) (bs : List ℕ) → EachBelow 256 bs → Read (maps_from o k bs) (GotFits (All MapFits))
unfolding maps_from
maps-from-fit o zero bs h = record { value = tt; more = h }
maps-from-fit o (suc k) bs h =
    read-on (GotFits MapFits) (GotFits (All MapFits)) _ _ (map-fits o bs h) (λ m x.
    read-on (GotFits (All MapFits)) (GotFits (All MapFits)) _ _ (maps-from-fit (suc m.value.offset) k m.more x.more) (λ ms y. record { value = (x.value, y.value); more = y.more }))

maps-fit : (version : ℕ) (bs : List ℕ) → EachBelow 256 bs → Read (maps_in version bs) (GotFits (All MapFits))
unfolding maps_in
maps-fit version bs h = go (leb 2 version)
  where
    go : (b : Bool) → Read (elim b as (λ _. Option (Got (List Map))) [ true ↦ byte bs >>= λ k. maps_from 0 k.value k.more | false ↦ some (record { value = []; more = bs }) ]) (GotFits (All MapFits))
    go true = read-on (GotFits (λ b. b < 256)) (GotFits (All MapFits)) _ _ (byte_fits bs h) (λ k x. maps-from-fit 0 k.value k.more x.more)
    go false = record { value = tt; more = h }

methods-fit : (version k : ℕ) (bs : List ℕ) → EachBelow 256 bs → Read (methods_in version k bs) (GotFits (MethodsFit k))
unfolding methods_in
methods-fit version zero bs h = record { value = record { many = omega arith; each = tt }; more = h }
methods-fit version (suc k) bs h =
    read-on (GotFits SignatureFits) G _ _ (signature-fits version bs h) (λ s x.
    read-on (GotFits Short) G _ _ (short-fits s.more x.more) (λ l w.
    read-need G _ _ (λ e.
    read-on (GotFits (All MapFits)) G _ _ (maps-fit version (drop l.value l.more) (below-drop 256 l.value l.more w.more)) (λ maps z.
    read-on (GotFits (MethodsFit k)) G _ _ (methods-fit version k maps.more z.more) (λ ms v.
    let q : l.value ≤ 512 = at-most l.value (length l.more) e in
    record {
      value = record {
        many = omega (arith, v.value.many);
        each = (
          record {
            types = x.value;
            code = below-take 256 l.value l.more w.more;
            short = omega (arith, length-take l.value l.more);
            maps = z.value;
          },
          v.value.each,
        );
      };
      more = v.more;
    })))))
  where
    G : Got (List Method) → Type 0
    G = GotFits (MethodsFit (suc k))

    at-most : (n m : ℕ) → (leb 1 n && leb n 512 && leb n m) ≡ true → n ≤ 512
    at-most n m e = leb-true n 512 (and-true (leb 1 n) (leb n 512) (and-true (leb 1 n && leb n 512) (leb n m) e).0).1

-- a class's name, and its methods
pub record ClassFits (k : Class) : Type 0 where
  pub name : k.name < 65536
  pub methods : MethodsFit 8 k.methods

pub file-fits : (l : ℕ) (bs : List ℕ) → EachBelow 256 bs → Read (read_file bs) (λ f. ClassFits (class_of l f))
unfolding read_file
file-fits l bs h =
    read-need Q _ _ (λ _.
    read-on (GotFits (λ b. b < 256)) Q _ _ (byte_fits bs h) (λ v xv. read-need Q _ _ (λ _.
    read-on (GotFits Short) Q _ _ (short-fits v.more xv.more) (λ n xn. read-need Q _ _ (λ _.
    read-on (GotFits Short) Q _ _ (name-fits 2 n.more xn.more) (λ c xc.
    read-on (GotFits Short) Q _ _ (name-fits 2 c.more xc.more) (λ s xs.
    read-on (GotFits (λ n. n ≤ 8)) Q _ _ (count_fits s.more xs.more) (λ k xk.
    read-on (GotFits Any) Q _ _ (fields_fit k.value k.more xk.more) (λ fs xf.
    read-on (GotFits (λ n. n ≤ 8)) Q _ _ (count_fits fs.more xf.more) (λ j xj.
    read-on (GotFits (MethodsFit j.value)) Q _ _ (methods-fit v.value j.value j.more xj.more) (λ ms xm.
    read-need Q _ _ (λ _. read-need Q _ _ (λ _. read-need Q _ _ (λ _.
    record { name = xc.value; methods = record { many = omega (arith, xm.value.many, xj.value); each = xm.value.each } }))))))))))))))
  where
    Q : File → Type 0
    Q f = ClassFits (class_of l f)

object-fits : ClassFits object_class
object-fits = record { name = omega arith; methods = record { many = omega arith; each = tt } }

-- a class whose file is kept
pub class-fits : (bs : List ℕ) → EachBelow 256 bs → (k : ClassRow) → ClassFits (class_at bs k)
unfolding class_at file_at
class-fits bs h k = go (file_at bs k) kept
  where
    Q : File → Type 0
    Q f = ClassFits (class_of k.loader f)

    kept : Read (file_at bs k) Q
    kept = read-need Q _ _ (λ _. file-fits k.loader (take k.size (drop k.start bs)) (below-take 256 k.size (drop k.start bs) (below-drop 256 k.start bs h)))

    go : (o : Option File) → Read o Q → ClassFits (elim o as (λ _. Class) [ none ↦ object_class | some f ↦ class_of k.loader f ])
    go none x = object-fits
    go (some f) x = x

pub classes-fit : (bs : List ℕ) → EachBelow 256 bs → (ks : List ClassRow) → All ClassFits (map (class_at bs) ks)
classes-fit bs h ks = all_map ClassFits (class_at bs) (class-fits bs h) ks

pub methods-of-fit : (b : Base) → All ClassFits b.classes → (c : ℕ) → MethodsFit 8 (methods_of b c)
unfolding methods_of
methods-of-fit b h c = go (get_elem? b.classes c) refl
  where
    go : (o : Option Class) → get_elem? b.classes c ≡ o → MethodsFit 8 (elim o as (λ _. List Method) [ none ↦ [] | some k ↦ k.methods ])
    go none e = record { many = omega arith; each = tt }
    go (some k) e = (all-nth ClassFits b.classes h c k e).methods

-- Instructions

abbrev pub InstructionFits : Instruction → Type 0
InstructionFits AconstNull = Unit {0}
InstructionFits (Sipush n) = n < 4294967296
InstructionFits (Load kind i) = Unit {0}
InstructionFits (Store kind i) = Unit {0}
InstructionFits Pop = Unit {0}
InstructionFits Dup = Unit {0}
InstructionFits (Arithmetic o) = Unit {0}
InstructionFits (Getfield c f t) = (c < 65536) × (t < 65536)
InstructionFits (Putfield c f t) = (c < 65536) × (t < 65536)
InstructionFits (Invokevirtual c s) = (c < 65536) × SignatureFits s
InstructionFits (New c) = c < 65536
InstructionFits (Branch c p) = p < 65536
InstructionFits (Return kind) = Unit {0}

module _ (code : List ℕ) (h : EachBelow 256 code) where
  short-at : (i : ℕ) → short_at code i < 65536
  unfolding short_at
  short-at i = omega (arith, below-cell 256 code i (omega arith) h, below-cell 256 code (i + 1) (omega arith) h)

  extended : (n : ℕ) → n < 65536 → extend n < 4294967296
  unfolding extend
  extended n l = go (ltb n 32768)
    where
      go : (b : Bool) → (elim b as (λ _. ℕ) [ true ↦ n | false ↦ n + 4294901760 ]) < 4294967296
      go true = omega arith
      go false = omega arith

  shorts-at : (i n : ℕ) → All Short (shorts_at code i n)
  unfolding shorts_at
  shorts-at i zero = tt
  shorts-at i (suc n) = (short-at i, shorts-at (i + 2) n)

  list-fits : (i n : ℕ) → Read (list_signature_at code i n) SignatureFits
  unfolding list_signature_at
  list-fits i n = read-need SignatureFits _ _ (λ _. read-on (λ a. All Short (types_of a)) SignatureFits _ _ (arguments-fit (shorts_at code (i + 3) n) (shorts-at (i + 3) n)) (λ a h.
      all_both Short (types_of a) (short_at code (i + 3 + 2 * n) ∷ []) h (short-at (i + 3 + 2 * n), tt)))

  instruction-fits : (i : ℕ) (o : Opcode) → Read (instruction_of code i o) InstructionFits
  unfolding instruction_of
  instruction-fits i OpAconstNull = tt
  instruction-fits i OpSipush = extended (short_at code i) (short-at i)
  instruction-fits i (OpLoad kind) = tt
  instruction-fits i (OpStore kind) = tt
  instruction-fits i OpPop = tt
  instruction-fits i OpDup = tt
  instruction-fits i (OpArithmetic o) = tt
  instruction-fits i OpGetfield = (short-at i, short-at (i + 4))
  instruction-fits i OpPutfield = (short-at i, short-at (i + 4))
  instruction-fits i OpInvokevirtual = (short-at i, (short-at (i + 2 + 2), (short-at (i + 2 + 4), tt)))
  instruction-fits i OpInvokevirtualList = read-on SignatureFits InstructionFits _ _ (list-fits (i + 2) (get_or code (i + 4) 0)) (λ m h. (short-at i, h))
  instruction-fits i OpNew = short-at i
  instruction-fits i (OpReturn kind) = tt
  instruction-fits i (OpBranch c) = short-at i
  instruction-fits i OpUnknown = tt

  -- what is decoded at point p ends within the code
  pub record DecodedFits (p : ℕ) (i : Decoded) : Type 0 where
    pub instruction : InstructionFits i.instruction
    pub inside : p + i.size ≤ length code

  pub decode-fits : (v p : ℕ) → Read (decode v code p) (DecodedFits p)
  unfolding decode sized_as
  decode-fits v p = go (leb (p + suc (inline_length code (p + 1) (opcode_of v (get_or code p 0)))) (length code)) refl
    where
      n : ℕ
      n = suc (inline_length code (p + 1) (opcode_of v (get_or code p 0)))

      sized : p + n ≤ length code → (o : Option Instruction) → Read o InstructionFits → Read (sized_as n o) (DecodedFits p)
      sized l none x = tt
      sized l (some i) x = record { instruction = x; inside = l }

      go : (b : Bool) → leb (p + n) (length code) ≡ b
          → Read (elim b as (λ _. Option Decoded) [ true ↦ sized_as n (instruction_of code (p + 1) (opcode_of v (get_or code p 0))) | false ↦ none ]) (DecodedFits p)
      go true e = sized (leb-true (p + n) (length code) e) (instruction_of code (p + 1) (opcode_of v (get_or code p 0))) (instruction-fits (p + 1) (opcode_of v (get_or code p 0)))
      go false e = tt
