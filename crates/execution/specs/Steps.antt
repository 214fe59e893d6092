-- A step on tables: the instruction that is read, the decision on it, and what is asked of tables that are not broken.
use Rattle.std.specs.Prelude.{◌≡◌, Bool, List, [], ◌∷◌, length, get_or, take, drop, leb}
use Rattle.std.proofs.Math.Path.{refl, sym, ap}
use Rattle.std.proofs.Common.{◌∙◌, length-take, length-drop, leb-true, ltb-true, ltb-false}
use Rattle.std.proofs.Math.Bool.{true, false}
use Rattle.std.proofs.Math.Option.{Option, none, some, none-ne-some, some-injective}
use Prim.Native.Nat.{ℕ, zero, suc, ◌+◌, ◌<◌, ◌≤◌}
use native.Mathlib.Omega.{arith}
use Rattle.std.proofs.Math.ListN.{get_elem?}
use Rattle.std.proofs.Math.Dec.{ltb}
use Rattle.std.proofs.lemmas.Bool.{lt-leb}
use Rattle.definition.specs.Lists.{rows, stack}
use Rattle.definition.specs.Requests.{Request, same_request}
use Rattle.definition.specs.Classes.{Base, Class, Method, Entry, find, loader_of, methods_of}
use Rattle.definition.specs.Constraints.{World, posted}
use Rattle.definition.specs.declared.Instruction.{Instruction}
use Rattle.definition.specs.Instructions.{Decoded, opcode_of, inline_length, sized_as, instruction_of, decode}
use Rattle.definition.specs.declared.Refusal.TheVariants.{Word}
use Rattle.definition.specs.Answers.{Result, refused, ok, ◌>>=◌, take?}
use Rattle.definition.specs.Machine.{Objects, Frame, Progress, Now, now, execute, step}
use Rattle.definition.specs.Tables.{Tables, tables, tie_at, class_row_at, size_of, operand_at, frame_of, frame_at, frame_base, frame_in, class_rows_of, kept_of, cache_of, view_base, objects_of, frames_of, view_over, view}
use Rattle.definition.specs.Broken.{broken}
use Rattle.layout.specs.Places.{rows_at, rows-past, stack-length}
use Rattle.layout.specs.Whole.{All, Between, Listed, Frames}
use Rattle.layout.specs.Unbroken.{Unbroken, unbroken}
use Rattle.layout.specs.ReadBack.{size_small}
use Rattle.layout.specs.View.{count_at, frames-top}
use Rattle.classfile.specs.Reading.{file_version, method_count, method_place, code_length, code_place, code_at, method_at, method_in, quick_methods, part_of}
use Rattle.resolution.specs.Quick.{quick_base, quick_of, file_in, loader_in, version_of, loader-quick, methods-quick, version-quick}
use Rattle.resolution.specs.Unbroken.{quick-base, row_first, row_other}
use Rattle.execution.specs.Decisions.{Usable, Acted}
use Rattle.verifier.specs.declared.decoding.Reading.{Reading}
use Rattle.verifier.specs.Decoding.{reading_of, decoded_of}
use Rattle.resolution.specs.Lookups.{code_in}
use Rattle.frames.specs.declared.Top.{Top}
use Rattle.instructions.specs.declared.Plan.{Plan}
use Rattle.instructions.specs.declared.Plan.TheVariants.{Refuse}
use Rattle.instructions.specs.Plans.{decoded, meaning, Fit}
use Rattle.access.specs.Accesses.{world_in}
use Rattle.std.specs.Prelude as Rust
use Rattle.posting.specs.Postings.{Posting, to_post, Quiet}
use Rattle.execution.specs.Carried.{Ready}

-- The code of a frame's method, none if there is no such class or method

unfoldable pub code_of : Base → Frame → List ℕ
code_of b f = code_in (methods_of b f.class) f.method

decode-nothing : (v p : ℕ) → decode v [] p ≡ none
unfolding decode
decode-nothing v p = rw (lt-leb (p + suc (inline_length [] (p + 1) (opcode_of v 0))) 0 (omega arith), decode)

module _ (task : ℕ) (w : World) (os : Objects) (f : Frame) (fs : List Frame) where
  -- no instruction can be read
  pub step-unreadable : decode (version_of w.base f.class) (code_of w.base f) f.point ≡ none → step task w os f fs ≡ refused (Word 14)
  unfolding step now take? ◌>>=◌ code_of code_in methods_of version_of
  step-unreadable h = class (get_elem? w.base.classes f.class) h
    where
      finish : Now → Result Progress
      finish n = execute task w os f fs n.the_class n.at n.at.instruction

      method : (k : Class) (o : Option Method) → decode k.version (elim o as (λ _. List ℕ) [ none ↦ [] | some m ↦ m.code ]) f.point ≡ none
          → ((take? o (Word 14) >>= λ m. take? (decode k.version m.code f.point) (Word 14) >>= λ i. ok (record { the_class = k; method = m; at = i })) >>= finish) ≡ refused (Word 14)
      method k none e = refl
      method k (some m) e = rw e

      class : (o : Option Class)
          → decode (elim o as (λ _. ℕ) [ none ↦ 0 | some k ↦ k.version ]) (elim (get_elem? {A = Method} (elim o as (λ _. List Method) [ none ↦ [] | some k ↦ k.methods ]) f.method) as (λ _. List ℕ) [ none ↦ [] | some m ↦ m.code ]) f.point ≡ none
          → ((take? o (Word 14) >>= λ k. take? (get_elem? k.methods f.method) (Word 14) >>= λ m.
          take? (decode k.version m.code f.point) (Word 14) >>= λ i. ok (record { the_class = k; method = m; at = i })) >>= finish) ≡ refused (Word 14)
      class none e = refl
      class (some k) e = method k (get_elem? k.methods f.method) e

  -- the instruction that is read, of a class with the frame class's loader
  pub step-readable : (i : Decoded) → decode (version_of w.base f.class) (code_of w.base f) f.point ≡ some i
      → (k : Class) × (k.loader ≡ loader_of w.base f.class) × (step task w os f fs ≡ execute task w os f fs k i i.instruction)
  unfolding step now take? ◌>>=◌ code_of code_in methods_of version_of loader_of
  step-readable i h = class (get_elem? w.base.classes f.class) h
    where
      finish : Now → Result Progress
      finish n = execute task w os f fs n.the_class n.at n.at.instruction

      method : (k : Class) (o : Option Method) → decode k.version (elim o as (λ _. List ℕ) [ none ↦ [] | some m ↦ m.code ]) f.point ≡ some i
          → ((take? o (Word 14) >>= λ m. take? (decode k.version m.code f.point) (Word 14) >>= λ i. ok (record { the_class = k; method = m; at = i })) >>= finish)
          ≡ execute task w os f fs k i i.instruction
      method k none e = absurd (none-ne-some i (sym (decode-nothing k.version f.point) ∙ e))
      method k (some m) e = rw e

      class : (o : Option Class)
          → decode (elim o as (λ _. ℕ) [ none ↦ 0 | some k ↦ k.version ]) (elim (get_elem? {A = Method} (elim o as (λ _. List Method) [ none ↦ [] | some k ↦ k.methods ]) f.method) as (λ _. List ℕ) [ none ↦ [] | some m ↦ m.code ]) f.point ≡ some i
          → (k : Class) × (k.loader ≡ (elim o as (λ _. ℕ) [ none ↦ 0 | some k ↦ k.loader ]))
          × (((take? o (Word 14) >>= λ k. take? (get_elem? k.methods f.method) (Word 14) >>= λ m.
          take? (decode k.version m.code f.point) (Word 14) >>= λ i. ok (record { the_class = k; method = m; at = i })) >>= finish) ≡ execute task w os f fs k i i.instruction)
      class none e = absurd (none-ne-some i (sym (decode-nothing 0 f.point) ∙ e))
      class (some k) e = (k, refl, method k (get_elem? k.methods f.method) e)

-- What is known of tables that are not broken

find-class : (n : ℕ) (es : List Entry) (r : Request) (e : ℕ) → All (Listed n) es → find es r ≡ some e → e < n
unfolding find
find-class n [] r e h q = absurd (none-ne-some e q)
find-class n (x ∷ es) r e h q = go (same_request x.request r) q (find-class n es r e h.1)
  where
    go : (u : Bool) → (elim u as (λ _. Option ℕ) [ true ↦ some x.class | false ↦ find es r ]) ≡ some e → (find es r ≡ some e → e < n) → e < n
    go true p ih = omega (arith, h.0.class, some-injective x.class e p)
    go false p ih = ih p

module _ (t : Tables) (h : broken t ≡ false) where
  abbrev facts : Unbroken t
  facts = unbroken t h

  sizes : (r : Request) (e : ℕ) → find (quick_of t).cache r ≡ some e → size_of (quick_of t) e ≤ 16
  unfolding view view_over
  sizes r e q =
      let z : find (cache_of t) r ≡ some e = rw (quick-base t h) at q in
      rw (quick-base t h)
      (size_small (cache_of t) (kept_of t) (class_rows_of t) facts.sounds.classes e (find-class (length (class_rows_of t)) (cache_of t) r e facts.sounds.cache z))

  row-loader : (c : ℕ) → c < count_at t 0 → (class_row_at t.classes c).loader < 16
  unfolding view view_over
  row-loader zero l = omega (arith, (row_first (view_base t) (kept_of t) (class_row_at t.classes) (count_at t 0) facts.sounds.classes l).loader)
  row-loader (suc c) l = (row_other (view_base t) (kept_of t) (class_row_at t.classes) (count_at t 0) facts.sounds.classes (suc c) (omega arith) l).loader

  loaders : (c : ℕ) → loader_of (quick_of t) c < 16
  unfolding loader_in
  loaders c = rw (loader-quick t.counts t.classes t.kept t.cache c) (go (ltb c (count_at t 0)) refl)
    where
      go : (u : Bool) → ltb c (count_at t 0) ≡ u → (elim u as (λ _. ℕ) [ true ↦ (class_row_at t.classes c).loader | false ↦ 0 ]) < 16
      go true e = row-loader c (ltb-true c (count_at t 0) e)
      go false e = omega arith

  between : All Between (rows (tie_at t.ties) (count_at t 3) 0)
  unfolding view view_over
  between = facts.sounds.ties

  -- that of a frame's class among them
  pub loader-there : (c l : ℕ) → l ≡ loader_in t.counts t.classes c → l < 16
  loader-there c l e = rw (e ∙ sym (loader-quick t.counts t.classes t.kept t.cache c)) (loaders c)

  pub usable : Usable t.counts t.classes t.kept t.cache t.ties
  usable = record { counts = facts.counts; ties = facts.lengths.ties; between = between; sizes = sizes; loaders = loaders }

  -- a top frame, in row m of task k
  module _ (k m : ℕ) (two : k < 2) (count : count_at t (6 + k) ≡ suc m) where
    pub row_low : m < 32
    row_low = go k two count
      where
        go : (k : ℕ) → k < 2 → count_at t (6 + k) ≡ suc m → m < 32
        go zero l e = omega (arith, facts.counts.quote)
        go (suc zero) l e = omega (arith, facts.counts.report)
        go (suc (suc k)) l e = absurd (omega arith)

    pub depth-few : get_or t.frames (frame_base k m + 3) 0 ≤ 16
    depth-few = go k two (frames-top t k m count)
      where
        few : (k n : ℕ) (X : ℕ → Type 0) → Frames n X (frame_in t.frames k m) → get_or t.frames (frame_base k m + 3) 0 ≤ 16
        few k n X f = unfold frame_in frame_at frame_of in rw (stack-length (operand_at t.frames (frame_base k m)) (get_or t.frames (frame_base k m + 3) 0)) at f.depth

        go : (k : ℕ) → k < 2 → frames_of t k ≡ frame_in t.frames k m ∷ stack (frame_in t.frames k) m → get_or t.frames (frame_base k m + 3) 0 ≤ 16
        go zero l e = unfold view view_over in few 0 _ _ (rw e at facts.sounds.quote).0
        go (suc zero) l e = unfold view view_over in few 1 _ _ (rw e at facts.sounds.report).0
        go (suc (suc k)) l e = absurd (omega arith)

-- A method's code lies within the kept bytes, and an instruction within its code

code-length : (bs : List ℕ) (j : ℕ) → length (code_in (quick_methods bs) j) ≤ length bs
unfolding code_in quick_methods
code-length bs j = go (get_elem? (rows (method_in bs) (method_count bs) 0) j) refl
  where
    part : (m n : ℕ) → length (take m (drop n bs)) ≤ length bs
    part m n = omega (arith, length-take m (drop n bs), length-drop n bs)

    go : (o : Option Method) → get_elem? (rows (method_in bs) (method_count bs) 0) j ≡ o → length {A = ℕ} (elim o as (λ _. List ℕ) [ none ↦ [] | some m ↦ m.code ]) ≤ length bs
    go none e = omega arith
    go (some m) e = within (ltb j (method_count bs)) refl
      where
        within : (u : Bool) → ltb j (method_count bs) ≡ u → length m.code ≤ length bs
        within true q =
            let z : 0 + j ≡ j = omega arith in
            let r : method_in bs j ≡ m = some-injective (method_in bs j) m ((rw z at (sym (rows_at (method_in bs) (method_count bs) 0 j (ltb-true j (method_count bs) q)))) ∙ e) in
            rw (← r) (unfold method_in method_at code_at in part (code_length bs (method_place bs j)) (code_place bs (method_place bs j)))
        within false q = absurd (none-ne-some m (sym (rows-past (method_in bs) (method_count bs) 0 j (ltb-false j (method_count bs) q)) ∙ e))

file-length : (N L K : List ℕ) (c : ℕ) → length (file_in N L K c) ≤ length K
unfolding file_in part_of
file-length N L K c = go (ltb c (get_or N 0 0))
  where
    part : (s n : ℕ) (u : Bool) → length {A = ℕ} (elim u as (λ _. List ℕ) [ true ↦ take n (drop s K) | false ↦ [] ]) ≤ length K
    part s n true = omega (arith, length-take n (drop s K), length-drop s K)
    part s n false = omega arith

    go : (u : Bool) → length {A = ℕ} (elim u as (λ _. List ℕ) [ true ↦ part_of K (class_row_at L c).start (class_row_at L c).size | false ↦ [] ]) ≤ length K
    go true = part (class_row_at L c).start (class_row_at L c).size (leb ((class_row_at L c).start + (class_row_at L c).size) (length K))
    go false = omega arith

pub decode-within : (v : ℕ) (code : List ℕ) (p : ℕ) (i : Decoded) → decode v code p ≡ some i → p + i.size ≤ length code
unfolding decode
decode-within v code p i h = go (leb (p + suc (inline_length code (p + 1) (opcode_of v (get_or code p 0)))) (length code)) refl h
  where
    n : ℕ
    n = suc (inline_length code (p + 1) (opcode_of v (get_or code p 0)))

    sized : (o : Option Instruction) → sized_as n o ≡ some i → i.size ≡ n
    sized none e = unfold sized_as in absurd (none-ne-some i e)
    sized (some x) e = unfold sized_as in ap (λ (d : Decoded). d.size) (sym (some-injective (record { instruction = x; size = n }) i e))

    go : (u : Bool) → leb (p + n) (length code) ≡ u
        → (elim u as (λ _. Option Decoded) [ true ↦ sized_as n (instruction_of code (p + 1) (opcode_of v (get_or code p 0))) | false ↦ none ]) ≡ some i → p + i.size ≤ length code
    go true e q = omega (arith, leb-true (p + n) (length code) e, sized (instruction_of code (p + 1) (opcode_of v (get_or code p 0))) q)
    go false e q = absurd (none-ne-some i q)

-- so the next point is a number of 32 bits
pub next_small : (N L K : List ℕ) (v c j p : ℕ) (i : Decoded) → length K ≡ 16384 → decode v (code_in (quick_methods (file_in N L K c)) j) p ≡ some i → p + i.size < 4294967296
next_small N L K v c j p i e h = omega (
  arith,
  decode-within v (code_in (quick_methods (file_in N L K c)) j) p i h,
  code-length (file_in N L K c) j,
  file-length N L K c,
)

-- An answer of decoding, and what was decoded

module _ (o : Option Decoded) (r : Rust.Option Reading) (reads : r ≡ reading_of o) where
  back : decoded_of r ≡ o
  unfolding decoded_of reading_of
  back = rw reads (go o)
    where
      go : (o : Option Decoded) → decoded_of (reading_of o) ≡ o
      go none = refl
      go (some d) = refl

  pub unread : r ≡ Rust.None → o ≡ none
  unfolding decoded_of
  unread e = sym back ∙ rw e

  pub read_at : (d : Reading) → r ≡ Rust.Some d → o ≡ some (decoded d.instruction d.size)
  unfolding decoded_of
  read_at d e = sym back ∙ rw e

-- A top frame as its cells say: where its row begins, its number of operands, and the loader of its class
abbrev pub IsTop : List ℕ → List ℕ → List ℕ → Top → Type 0
IsTop N L F t = (t.base ≡ frame_base t.task t.row) × (t.depth ≡ get_or F (t.base + 3) 0) × (t.loader ≡ loader_in N L (get_or F t.base 0))

-- What a step chooses for the top frame of task k, in row m, which begins at cell b: ties, a plan, the next point

pub record Chosen (N L K E I S O F : List ℕ) (k m b : ℕ) (x : Posting) (p : Plan) (q : ℕ) : Type 0 where
  pub says : (let B = quick_base N L K E in let t = tables N L K E I S O F in
      meaning k (posted (world_in B t) (to_post x)) (objects_of B t) (stack (frame_in F k) m) F (frame_base k m) q p
      ≡ step k (world_in B t) (objects_of B t) (frame_in F k m) (stack (frame_in F k) m))
  pub ready : Ready (quick_base N L K E) (tables N L K E I S O F) k m b (to_post x) p

module _ (N L K E I S O F : List ℕ) (whole : broken (tables N L K E I S O F) ≡ false) (k m b : ℕ) (two : k < 2) (count : get_or N (6 + k) 0 ≡ suc m) (row : b ≡ frame_base k m) where
  abbrev B : Base
  B = quick_base N L K E

  abbrev T : Tables
  T = tables N L K E I S O F

  ready : (x : Posting) (p : Plan) → get_or N 3 0 + length (to_post x) ≤ 256 → Quiet (to_post x) p → Fit B T k m p → Ready B T k m b (to_post x) p
  ready x p l h f = record { two = two; count = count; low = row_low T whole k m two count; row = row; ties = l; quiet = h; fits = f; groups = (unbroken T whole).groups }

  -- the code that is read is the frame's, and the version its class's
  code_read : (c j : ℕ) → c ≡ get_or F b 0 → j ≡ get_or F (b + 1) 0 → code_in (quick_methods (file_in N L K c)) j ≡ code_of B (frame_in F k m)
  unfolding code_of frame_in frame_at frame_of
  code_read c j e f = rw (e, f, row, methods-quick N L K E (get_or F (frame_base k m) 0))

  version-read : (c : ℕ) → c ≡ get_or F b 0 → file_version (file_in N L K c) ≡ version_of B (frame_in F k m).class
  unfolding frame_in frame_at frame_of
  version-read c e = rw (e, row, version-quick N L K E (get_or F (frame_base k m) 0))

  module _ (c j p v : ℕ) (code : List ℕ) (class : c ≡ get_or F b 0) (method : j ≡ get_or F (b + 1) 0) (point : p ≡ get_or F (b + 2) 0)
      (source : code ≡ code_in (quick_methods (file_in N L K c)) j) (version : v ≡ file_version (file_in N L K c)) where
    here : decode (version_of B (frame_in F k m).class) (code_of B (frame_in F k m)) (frame_in F k m).point ≡ decode v code p
    unfolding frame_in frame_at frame_of
    here = rw (version, version-read c class, source, code_read c j class method, point, row)

    pub chosen-unreadable : (q : ℕ) → decode v code p ≡ none → Chosen N L K E I S O F k m b Rust.None (Refuse (Word 14)) q
    unfolding meaning to_post
    chosen-unreadable q h = record {
      says = sym (step-unreadable k (world_in B T) (objects_of B T) (frame_in F k m) (stack (frame_in F k) m) (here ∙ h));
      ready = ready Rust.None (Refuse (Word 14)) (omega (arith, (usable T whole).counts.ties)) refl tt;
    }

    -- the point after the instruction is a number of 32 bits
    pub next_fits : (i : Instruction) (n : ℕ) → decode v code p ≡ some (decoded i n) → p + n < 4294967296
    next_fits i n h = next_small N L K v c j p (decoded i n) (unbroken T whole).lengths.kept (rw (← source) h)

    pub chosen : (i : Instruction) (n d loader : ℕ) (x : Posting) (r : Plan) → decode v code p ≡ some (decoded i n) → d ≡ get_or F (b + 3) 0 → loader ≡ loader_in N L c
        → Acted N L K E I S O F k m b d loader i x r → Chosen N L K E I S O F k m b x r (p + n)
    chosen i n d loader x r h e l a =
        let s = step-readable k (world_in B T) (objects_of B T) (frame_in F k m) (stack (frame_in F k) m) (decoded i n) (here ∙ h) in
        record {
          says = rw (← row) (a.says s.0 p n (s.1 ∙ loads) ∙ (framed s.0 ∙ sym s.2));
          ready = ready x r a.ties a.quiet (a.fits (rw (e, row) (depth-few T whole k m two count)));
        }
      where
        loads : loader_of B (frame_in F k m).class ≡ loader
        loads = unfold frame_in frame_at frame_of in rw (l, class, row) (loader-quick N L K E (get_or F (frame_base k m) 0))

        framed : (a : Class) → execute k (world_in B T) (objects_of B T) (frame_of F b p d) (stack (frame_in F k) m) a (decoded i n) i
            ≡ execute k (world_in B T) (objects_of B T) (frame_in F k m) (stack (frame_in F k) m) a (decoded i n) i
        framed a = unfold frame_in frame_at in rw (point, e, row)
