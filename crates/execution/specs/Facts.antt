-- What a run remembers of a place: the slot of the field that is named there, for receivers of a class. It stays right while a run steps.
use Rattle.std.specs.Prelude.{◌≡◌, refl, true, List, [], ◌∷◌, ℕ, zero, suc, ◌+◌, ◌*◌, ◌<◌, ◌≤◌, length, get_or, set, replicate}
use Rattle.std.specs.Prelude as Rust
use Rattle.std.proofs.Common.{sym, ap, ◌∙◌, arith, eq-eqb}
use Rattle.std.proofs.Math.Option.{some, some-injective}
use Rattle.definition.specs.Lists.{rows, index_of}
use Rattle.definition.specs.Requests.{at}
use Rattle.definition.specs.Superclasses.{nearest, below}
use Rattle.definition.specs.Classes.{find, super_of, has_field, slots, slot_is}
use Rattle.definition.specs.Constraints.{Tie, new_tie, new_ties}
use Rattle.definition.specs.declared.Instruction.{Instruction}
use Rattle.definition.specs.declared.Instruction.TheVariants.{AconstNull, Sipush, Load, Store, Pop, Dup, Arithmetic, Branch, Getfield, Putfield, Invokevirtual, New, Return}
use Rattle.definition.specs.Instructions.{Decoded, decode}
use Rattle.definition.specs.Tables.{tables, tie_at, used_fields}
use Rattle.definition.specs.declared.Answer.{Answer}
use Rattle.definition.specs.Calls.{done, step_tables}
use Rattle.classfile.specs.Reading.{file_version, quick_methods}
use Rattle.resolution.specs.Quick.{quick_base, file_in, loader_in, loader-quick}
use Rattle.resolution.specs.Lookups.{code_in}
use Rattle.instructions.specs.Plans.{decoded}
use Rattle.access.specs.Members.{field-used, ties-one}
use Rattle.execution.specs.Memory.{Right, tag_of, right-more, right-cleared}
use Rattle.execution.specs.Memory as memory
use Rattle.execution.specs.Remembered.{FieldFact, field-lasts}
use Rattle.execution.specs.Ties.{Lasting, step-lasts}

-- for receivers of class r: the field c, n, t under a loader is slot j, of an object's used fields
pub record Slot (N L K E I : List ℕ) (loader c n t r j : ℕ) : Type 0 where
  pub fact : FieldFact (quick_base N L K E) (rows (tie_at I) (get_or N 3 0) 0) loader c n t r j
  pub used : j < used_fields (quick_base N L K E) r

-- what is there is one
pub some-is : {X : Type 0} {x y : X} → Rust.Some x ≡ Rust.Some y → x ≡ y
some-is h = cc

-- f is right for the instruction, of a class with that loader, and receivers of class r
abbrev pub FactOf : List ℕ → List ℕ → List ℕ → List ℕ → List ℕ → ℕ → Instruction → ℕ → ℕ → Type 0
FactOf N L K E I loader AconstNull r f = ⊥
FactOf N L K E I loader (Sipush n) r f = ⊥
FactOf N L K E I loader (Load k j) r f = ⊥
FactOf N L K E I loader (Store k j) r f = ⊥
FactOf N L K E I loader Pop r f = ⊥
FactOf N L K E I loader Dup r f = ⊥
FactOf N L K E I loader (Arithmetic o) r f = ⊥
FactOf N L K E I loader (Branch c p) r f = ⊥
FactOf N L K E I loader (Getfield c n t) r f = Slot N L K E I loader c n t r f
FactOf N L K E I loader (Putfield c n t) r f = Slot N L K E I loader c n t r f
FactOf N L K E I loader (Invokevirtual c s) r f = ⊥
FactOf N L K E I loader (New c) r f = ⊥
FactOf N L K E I loader (Return k) r f = ⊥

-- the code of method m of class c
abbrev pub code_of : List ℕ → List ℕ → List ℕ → ℕ → ℕ → List ℕ
code_of N L K c m = code_in (quick_methods (file_in N L K c)) m

-- the instruction that stands at point p of method m of class c
abbrev pub Reads : List ℕ → List ℕ → List ℕ → ℕ → ℕ → ℕ → Instruction → ℕ → Type 0
Reads N L K c m p i s = decode (file_version (file_in N L K c)) (code_of N L K c m) p ≡ some (decoded i s)

-- f is right for the instruction at point p of the method with that number, and receivers of class r
pub record Fact (N L K E I : List ℕ) (key p r f : ℕ) : Type 0 where
  pub holds : (c m : ℕ) → m < 8 → key ≡ 8 * c + m → (i : Instruction) (s : ℕ) → Reads N L K c m p i s → FactOf N L K E I (loader_in N L c) i r f

-- the same of a place that is remembered
abbrev pub Noted : List ℕ → List ℕ → List ℕ → List ℕ → List ℕ → ℕ → ℕ → ℕ → ℕ → Type 0
Noted N L K E I key p r f = Fact N L K E I key p r f × (key < 512) × (p < 512) × (r < 64)

-- every fact that is recalled is right
pub record Minds (N L K E I T A : List ℕ) : Type 0 where
  pub right : Right (Fact N L K E I) T A

-- the instruction at a point is one
reads-one : (N L K : List ℕ) (c m p : ℕ) (i j : Instruction) (s z : ℕ) → Reads N L K c m p i s → Reads N L K c m p j z → i ≡ j
reads-one N L K c m p i j s z a b = ap (λ (d : Decoded). d.instruction) (some-injective (decoded i s) (decoded j z) (sym a ∙ b))

pub fact_of : (N L K E I : List ℕ) (c m p r f : ℕ) (i : Instruction) (s : ℕ) → m < 8 → Reads N L K c m p i s → FactOf N L K E I (loader_in N L c) i r f → (key : ℕ) → key ≡ 8 * c + m → Fact N L K E I key p r f
fact_of N L K E I c m p r f i s l d h key q = record {
  holds = λ a j g e.
      let x : a ≡ c = omega (arith, e, q, g, l) in
      let y : j ≡ m = omega (arith, e, q, g, l) in
      rw (x, y) (λ k z b. rw (reads-one N L K c m p k i z s b d) h);
}

-- the instruction as it was read
pub reads_at : (N L K : List ℕ) (c m p at v : ℕ) (file code : List ℕ) (i : Instruction) (s : ℕ) → v ≡ file_version file → code ≡ code_in (quick_methods file) m → file ≡ file_in N L K c → at ≡ p
    → decode v code at ≡ some (decoded i s) → Reads N L K c m p i s
reads_at N L K c m p at v file code i s e f g h d = rw (← g, ← e, ← f, ← h) d

-- Counts and ties that a step leaves

module _ (N M L K E I J S O P F G : List ℕ) (h : Lasting (tables N L K E I S O F) (tables M L K E J S P G)) where
  base_same : quick_base M L K E ≡ quick_base N L K E
  unfolding quick_base
  base_same = rw (h.classes, h.cache)

  file-same : (c : ℕ) → file_in M L K c ≡ file_in N L K c
  unfolding file_in
  file-same c = rw (h.classes, file_in)

  loader-same : (c : ℕ) → loader_in M L c ≡ loader_in N L c
  unfolding loader_in
  loader-same c = rw (h.classes, loader_in)

  slot-lasts : (l c n t r j : ℕ) → Slot N L K E I l c n t r j → Slot M L K E J l c n t r j
  slot-lasts l c n t r j s = record {
    fact = rw (base_same, h.ties.is) (field-lasts (quick_base N L K E) (rows (tie_at I) (get_or N 3 0) 0) h.ties.new l c n t r j s.fact);
    used = rw base_same s.used;
  }

  of_lasts : (l : ℕ) (i : Instruction) (r f : ℕ) → FactOf N L K E I l i r f → FactOf M L K E J l i r f
  of_lasts l AconstNull r f s = s
  of_lasts l (Sipush n) r f s = s
  of_lasts l (Load k j) r f s = s
  of_lasts l (Store k j) r f s = s
  of_lasts l Pop r f s = s
  of_lasts l Dup r f s = s
  of_lasts l (Arithmetic o) r f s = s
  of_lasts l (Branch c p) r f s = s
  of_lasts l (Getfield c n t) r f s = slot-lasts l c n t r f s
  of_lasts l (Putfield c n t) r f s = slot-lasts l c n t r f s
  of_lasts l (Invokevirtual c g) r f s = s
  of_lasts l (New c) r f s = s
  of_lasts l (Return k) r f s = s

  fact-lasts : (key p r f : ℕ) → Fact N L K E I key p r f → Fact M L K E J key p r f
  fact-lasts key p r f s = record { holds = λ c m l e i z. rw (file-same c, loader-same c) (λ d. of_lasts (loader_in N L c) i r f (s.holds c m l e i z d)) }

  pub right-lasts : (T A : List ℕ) → Right (Fact N L K E I) T A → Right (Fact M L K E J) T A
  right-lasts T A s key p r a b e = fact-lasts key p r _ (s key p r a b e)

-- A fact that was looked up

none-new : (xs : List Tie) → length xs ≡ 0 → xs ≡ []
none-new [] h = refl
none-new (x ∷ xs) h = absurd (omega arith)

pub old-same : (ts : List Tie) (l m n : ℕ) → l ≡ m → new_tie ts l m n ≡ []
unfolding new_tie
old-same ts l m n e = rw (eq-eqb l m e, new_tie)

pub old-found : (ts : List Tie) (l m n c : ℕ) (us : List Tie) → us ≡ new_ties ts l m (n ∷ []) → c ≡ length us → c ≡ 0 → new_tie ts l m n ≡ []
old-found ts l m n c us e f g = none-new (new_tie ts l m n) (ap length (sym (ties-one ts l m n) ∙ sym e) ∙ (sym f ∙ g))

module _ (N L K E I : List ℕ) (loader c n t r e s j one : ℕ) where
  pub slot-made : find (quick_base N L K E).cache (at loader c) ≡ some e → nearest (super_of (quick_base N L K E)) (has_field (quick_base N L K E) n t) e ≡ some s
      → index_of (slot_is s n t) (slots (quick_base N L K E) s) ≡ some j → below (super_of (quick_base N L K E)) r e ≡ true → one ≡ loader_in N L s
      → new_tie (rows (tie_at I) (get_or N 3 0) 0) one loader t ≡ [] → j < 16 → Slot N L K E I loader c n t r j
  slot-made there near slot under of quiet few = record {
    fact = record { class = e; declarer = s; finds = there; near = near; quiet = rw (loader-quick N L K E s, ← of) quiet; under = under; slot = slot };
    used = field-used (quick_base N L K E) r e s n t j under near slot few;
  }

-- one that is remembered
pub noted : (N L K E I T A U B : List ℕ) → 512 ≤ length T → 512 ≤ length A → Minds N L K E I T A → (key p r f : ℕ) → p < 512 → r < 64 → Fact N L K E I key p r f
    → U ≡ set T (memory.index_of key p r) (tag_of key p r) → B ≡ set A (memory.index_of key p r) f → Minds N L K E I U B
noted N L K E I T A U B n m h key p r f a b right x y = record { right = rw (x, y) (right-more (Fact N L K E I) T A n m h.right key p r f a b right) }

-- nothing is remembered at first
abbrev blanks : ℕ → List ℕ
blanks n = replicate n 0

zeros : (n i : ℕ) → get_or (blanks n) i 0 ≡ 0
zeros zero i = refl
zeros (suc n) zero = refl
zeros (suc n) (suc i) = zeros n i

pub none-noted : (N L K E I A : List ℕ) (n : ℕ) → Minds N L K E I (blanks n) A
none-noted N L K E I A n = record { right = right-cleared (Fact N L K E I) (blanks n) A (zeros n) }

-- and a step leaves it right
pub minds-step : (N M L K E I J S O P F G T A : List ℕ) (a : Answer) → done a (tables M L K E J S P G) ≡ step_tables (tables N L K E I S O F) → Minds N L K E I T A → Minds M L K E J T A
minds-step N M L K E I J S O P F G T A a e h =
    record { right = right-lasts N M L K E I J S O P F G (step-lasts (tables N L K E I S O F) (tables M L K E J S P G) a e) T A h.right }
