-- A walk in the row of a top frame and the objects is as many steps of the machine.
use Rattle.std.specs.Prelude.{◌≡◌, false, ◌≢◌, length, set, take, drop}
use Rattle.std.proofs.Math.Path.{refl, ap, subst⁻¹}
use Rattle.std.proofs.Common.{sym, ◌∙◌, subst, length-drop, length-take-le, get_or-take, get_or-drop}
use Rattle.std.proofs.Math.Option.{some}
use mathlib.Core.List.{List, ◌++◌}
use Prim.Native.Nat.{ℕ, zero, suc, ◌+◌, ◌-◌, ◌*◌, ◌<◌, ◌≤◌}
use native.Mathlib.Omega.{arith}
use Rattle.std.proofs.Math.ListN.{get_or}
use Rattle.std.proofs.Math.Seq.{set-get_or}
use borrow.Rule.Slice.PartMut.{put_same}
use Rattle.definition.specs.Numbers.{loads_cell}
use Rattle.definition.specs.Lists.{rows, write_rows}
use Rattle.definition.specs.declared.Answer.{Answer}
use Rattle.definition.specs.declared.Answer.TheVariants.{Ran}
use Rattle.definition.specs.declared.Instruction.{Instruction}
use Rattle.definition.specs.declared.Instruction.TheVariants.{Getfield, Putfield}
use Rattle.definition.specs.Instructions.{pick, short_at, decode}
use Rattle.definition.specs.Machine.{object_value}
use Rattle.definition.specs.Tables.{Tables, tables, frame_base, value_of, operand_at}
use Rattle.definition.specs.Broken.{broken}
use Rattle.definition.specs.Calls.{done, step_tables, run_from}
use Rattle.layout.specs.Unbroken.{unbroken}
use Rattle.classfile.specs.Reading.{file_version, quick_methods}
use Rattle.resolution.specs.Quick.{quick_base, file_in, loader_in}
use Rattle.resolution.specs.Lookups.{code_in}
use Rattle.tasks.specs.Turns.{turn_of, turn_two}
use Rattle.instructions.specs.declared.Plan.{Plan}
use Rattle.instructions.specs.declared.Plan.TheVariants.{Refuse, Keep, Jump, Above, Local, Give, Finish, Field, Enter, Make}
use Rattle.instructions.specs.Plans.{decoded, Fit, FrameOnly}
use Rattle.instructions.specs.Operands.{positive}
use Rattle.std.specs.Prelude as Rust
use Rattle.posting.specs.Postings.{to_post}
use Rattle.execution.specs.Decisions.{Acted, acted-frame}
use Rattle.execution.specs.Carried.{Left}
use Rattle.execution.specs.Steps.{Chosen, chosen, usable, row_low, depth-few}
use Rattle.execution.specs.Turns.{turn-carried, turn-count}
use Rattle.execution.specs.Runs.{run_on, still-whole}
use Rattle.execution.specs.Memory.{recalled-right}
use Rattle.execution.specs.Facts.{FactOf, Fact, Minds}
use Rattle.execution.specs.Known.{acted-get, acted-put}
use Rattle.execution.specs.RowCells.{IsRow, operand_row}
use Rattle.execution.specs.Plain as plain
use Rattle.execution.specs.Plain.{Wrote, Cells}
use Rattle.execution.specs.Reaches.{Known, Got, Put, Step, within, got, wrote, Walked, step-cells}
use Rattle.execution.specs.Ahead.{last_of, Ahead}
use Rattle.execution.specs.Parts.{pasted, paste-row, paste-moved, paste-operand, paste-local}

-- the row of the top frame lies within the table
pub row_fits : (N L K E I S O F : List ℕ) → broken (tables N L K E I S O F) ≡ false → (k n : ℕ) → k ≡ turn_of N → n ≡ get_or N (6 + k) 0 → n ≢ 0 → frame_base k (n - 1) + 52 ≤ length F
row_fits N L K E I S O F whole k n turns frames some-n =
    let t : Tables = tables N L K E I S O F in
    let two : k < 2 = rw turns (turn_two N) in
    omega (
      arith,
      (unbroken t whole).lengths.frames,
      row_low t whole k (n - 1) two (turn-count N L K E I S O F whole k n turns frames some-n),
      two,
    )

-- cells of an object
object-is : (k b : ℕ) → k ≡ 3 → object_value b ≡ value_of k b
unfolding value_of pick
object-is k b e = rw e

-- Task k, whose turn it is, has n frames; the row of its top frame begins at cell b of frames that otherwise are F; what is remembered is right
module _ (N L K E I S F : List ℕ) (k n b v : ℕ) (code : List ℕ) (turns : k ≡ turn_of N) (frames : n ≡ get_or N (6 + k) 0) (some-n : n ≢ 0) (row : b ≡ frame_base k (n - 1))
    (fits : b + 52 ≤ length F) (closed : get_or N loads_cell 0 ≡ 0) (T A : List ℕ) (right : Minds N L K E I T A) (key : ℕ) where
  abbrev store : List ℕ → List ℕ → Tables
  store R O = tables N L K E I S O (pasted F b R)

  -- the store with the row R and the objects O is not broken, and the frame's code is `code`, of version v
  pub record Standing (R O : List ℕ) : Type 0 where
    pub size : length R ≡ 52
    pub whole : broken (store R O) ≡ false
    pub source : code ≡ code_in (quick_methods (file_in N L K (get_or R 0 0))) (get_or R 1 0)
    pub version : v ≡ file_version (file_in N L K (get_or R 0 0))
    pub method : get_or R 1 0 < 8
    pub number : key ≡ 8 * get_or R 0 0 + get_or R 1 0

  -- a cell of the row
  cell : (R O : List ℕ) → Standing R O → (i : ℕ) → i < 52 → get_or R i 0 ≡ get_or (pasted F b R) (b + i) 0
  cell R O s = paste-row F b fits R s.size

  class-cell : (R O : List ℕ) → Standing R O → get_or R 0 0 ≡ get_or (pasted F b R) b 0
  class-cell R O s = let e : b + 0 ≡ b = omega arith in cell R O s 0 (omega arith) ∙ ap (λ (z : ℕ). get_or (pasted F b R) z 0) e

  -- what a plan leaves of the row is what it leaves of the table
  left : (R O : List ℕ) → length R ≡ 52 → (q : ℕ) (x : Plan) (p d : ℕ) (G : List ℕ) → Fit (quick_base N L K E) (store R O) k (n - 1) x → Wrote R q x p d G
      → Left (quick_base N L K E) N O (pasted F b R) k (n - 1) b q x (Ran k) N O (pasted F b G)
  left R O s q (Refuse r) p d G f w = absurd w
  left R O s q (Keep e) p d G f w = (refl, refl, refl, rw w.3 (paste-moved F b fits R s q e))
  left R O s q (Jump e a) p d G f w = (refl, refl, refl, rw w.3 (paste-moved F b fits R s a e))
  left R O s q (Above e c) p d G f w = (refl, refl, refl, rw w.3 (paste-operand F b fits R s q (e + 1) e _ f))
  left R O s q (Local e j c) p d G f w = (refl, refl, refl, rw w.3 (paste-local F b fits R s q e j _ f))
  left R O s q (Give c) p d G f w = absurd w
  left R O s q (Finish c) p d G f w = absurd w
  left R O s q (Field e o j c) p d G f w = absurd w
  left R O s q (Enter e c) p d G f w = absurd w
  left R O s q (Make e c o) p d G f w = absurd w

  two : k < 2
  two = rw turns (turn_two N)

  count : (R O : List ℕ) → Standing R O → get_or N (6 + k) 0 ≡ suc (n - 1)
  count R O s = turn-count N L K E I S O (pasted F b R) s.whole k n turns frames some-n

  few : (R O : List ℕ) → Standing R O → (d : ℕ) → d ≡ get_or R 3 0 → d ≤ 16
  few R O st d deep =
      let x : d ≡ get_or (pasted F b R) (b + 3) 0 = deep ∙ cell R O st 3 (omega arith) in
      let y : get_or (pasted F b R) (b + 3) 0 ≡ get_or (pasted F b R) (frame_base k (n - 1) + 3) 0 = ap (λ (z : ℕ). get_or (pasted F b R) (z + 3) 0) row in
      omega (arith, x, y, depth-few (store R O) st.whole k (n - 1) two (count R O st))

  -- an instruction that was read, the decision on it, and what it leaves
  record Does (R O : List ℕ) (p d : ℕ) (G P : List ℕ) : Type 0 where
    pub instruction : Instruction
    pub size : ℕ
    pub plan : Plan
    pub reads : decode v code p ≡ some (decoded instruction size)
    pub acted : Acted N L K E I S O (pasted F b R) k (n - 1) b d (loader_in N L (get_or R 0 0)) instruction Rust.None plan
    pub leaves : Left (quick_base N L K E) N O (pasted F b R) k (n - 1) b (p + size) plan (Ran k) N P (pasted F b G)

  -- what is remembered of the instruction at point p, for the receiver
  fact : (R O : List ℕ) → Standing R O → (p kind bits j : ℕ) → Known T A N O key p kind bits j → (i : Instruction) (s : ℕ) → decode v code p ≡ some (decoded i s)
      → FactOf N L K E I (loader_in N L (get_or R 0 0)) i (get_or O (bits * 33) 0) j
  fact R O st p kind bits j h i s d =
      let f : Fact N L K E I key p (get_or O (bits * 33) 0) j =
      recalled-right (Fact N L K E I) T A right.right key p (get_or O (bits * 33) 0) j h.place h.class h.fact in
      f.holds (get_or R 0 0) (get_or R 1 0) st.method st.number i s (rw (← st.source, ← st.version) d)

  module _ (R O G P : List ℕ) (st : Standing R O) (p d : ℕ) (deep : d ≡ get_or R 3 0) (q e : ℕ) where
    is_row : IsRow (pasted F b R) b R
    is_row = paste-row F b fits R st.size

    low : get_or N 3 0 ≤ 256
    low = (usable (store R O) st.whole).counts.ties

    does-within : plain.Step v code R p d q e G → P ≡ O → Does R O p d G P
    does-within s z =
        let only : FrameOnly (pasted F b R) b d s.instruction s.plan = s.only (pasted F b R) b is_row in
        record {
          instruction = s.instruction;
          size = s.size;
          plan = s.plan;
          reads = s.reads;
          acted = acted-frame N L K E I S O (pasted F b R) k (n - 1) b d (loader_in N L (get_or R 0 0)) s.instruction s.plan low only;
          leaves = rw z (left R O st.size (p + s.size) s.plan q e G (only.fits (few R O st d deep) (quick_base N L K E) (store R O) k (n - 1)) s.wrote);
        }

    does-got : Got T A N key v code R O p d q e G → P ≡ O → Does R O p d G P
    does-got s z =
        let i : d - 1 < 16 = omega (arith, s.few, positive d s.some-d) in
        let top : object_value s.object.bits ≡ operand_at (pasted F b R) b (d - 1) =
        object-is s.object.kind s.object.bits s.known.is ∙ (s.top ∙ operand_row (pasted F b R) b R is_row (d - 1) i) in
        record {
          instruction = Getfield (short_at code (p + 1)) (short_at code (p + 3)) (short_at code (p + 5));
          size = 7;
          plan = Above (d - 1) s.value;
          reads = s.reads;
          acted = acted-get N L K E I S O (pasted F b R) k (n - 1) b d (loader_in N L (get_or R 0 0)) (short_at code (p + 1)) (short_at code (p + 3)) (short_at code (p + 5))
              (get_or O (s.object.bits * 33) 0) s.slot low (fact R O st p s.object.kind s.object.bits s.slot s.known _ _ s.reads)
              s.some-d s.object.bits top s.known.made refl s.value s.field;
          leaves = rw z (left R O st.size (p + 7) (Above (d - 1) s.value) q e G i s.wrote);
        }

    does-put : Put T A N key v code R O p d q e G P → Does R O p d G P
    does-put s =
        let i : d - 1 < 16 = omega (arith, s.few, s.two) in
        let j : d - 1 - 1 < 16 = omega (arith, s.few, s.two) in
        let top : object_value s.object.bits ≡ operand_at (pasted F b R) b (d - 1 - 1) =
        object-is s.object.kind s.object.bits s.known.is ∙ (s.top ∙ operand_row (pasted F b R) b R is_row (d - 1 - 1) j) in
        record {
          instruction = Putfield (short_at code (p + 1)) (short_at code (p + 3)) (short_at code (p + 5));
          size = 7;
          plan = Field (d - 1 - 1) s.object.bits s.slot s.value;
          reads = s.reads;
          acted = acted-put N L K E I S O (pasted F b R) k (n - 1) b d (loader_in N L (get_or R 0 0)) (short_at code (p + 1)) (short_at code (p + 3)) (short_at code (p + 5))
              (get_or O (s.object.bits * 33) 0) s.slot low (fact R O st p s.object.kind s.object.bits s.slot s.known _ _ s.reads)
              s.two s.object.bits s.value (s.last ∙ operand_row (pasted F b R) b R is_row (d - 1) i) s.kind top s.known.made refl;
          leaves = (refl, refl, s.left, rw s.wrote.3 (paste-moved F b fits R st.size (p + 7) (d - 1 - 1)));
        }

    does : Step T A N key v code R O p d q e G P → Does R O p d G P
    does (within s z) = does-within s z
    does (got s z) = does-got s z
    does (wrote s) = does-put s

    module _ (at : p ≡ get_or R 2 0) (s : Step T A N key v code R O p d q e G P) where
      done-as : Does R O p d G P
      done-as = does s

      choice : Chosen N L K E I S O (pasted F b R) k (n - 1) b Rust.None done-as.plan (p + done-as.size)
      choice =
          chosen N L K E I S O (pasted F b R) st.whole k (n - 1) b two (count R O st) row (get_or R 0 0) (get_or R 1 0) p v code (class-cell R O st) (cell R O st 1 (omega arith))
          (at ∙ cell R O st 2 (omega arith)) st.source st.version done-as.instruction done-as.size d (loader_in N L (get_or R 0 0)) Rust.None done-as.plan done-as.reads
          (deep ∙ cell R O st 3 (omega arith)) refl done-as.acted

      -- the instruction is a step of the machine
      stepped : done (Ran k) (store G P) ≡ step_tables (store R O)
      unfolding to_post write_rows rows
      stepped =
          let z : get_or N 3 0 + 0 ≡ get_or N 3 0 = omega arith in
          turn-carried N L K E I S O (pasted F b R) st.whole k n turns frames some-n b (p + done-as.size) Rust.None done-as.plan choice
          N I (sym (ap (set N 3) z ∙ set-get_or N 3 0)) refl (Ran k) N P (pasted F b G) done-as.leaves (get_or N 3 0) (get_or N 4 0) refl refl
          N (sym (set-get_or N loads_cell 0) ∙ ap (set N loads_cell) closed)

      -- and leaves the frame with its code
      standing : Standing G P
      standing =
          let c : Cells R q e G = (step-cells T A N key v code R O p d q e G P st.size s).0 in
          record {
            size = c.size ∙ st.size;
            whole = still-whole 1 0 (Ran k) (Ran k) (store R O) (store G P) stepped st.whole;
            source = rw (c.class, c.method) st.source;
            version = rw c.class st.version;
            method = rw c.method st.method;
            number = rw (c.class, c.method) st.number;
          }

  -- what a walk leaves
  pub record Gone (R O : List ℕ) (r : ℕ) (G P : List ℕ) : Type 0 where
    pub stands : Standing G P
    pub runs : (m j : ℕ) (a : Answer) → j + r ≤ m → run_from step_tables (m - (j + r)) (j + r) (last_of r k a) (store G P) ≡ run_from step_tables (m - j) j a (store R O)

  gone : (R O : List ℕ) → Standing R O → (r : ℕ) (G P : List ℕ) → Walked T A N key v code R O r G P → Gone R O r G P
  unfolding Walked last_of
  gone R O st zero G P w = rw (w.0, w.1) (record { stands = st; runs = λ m j a l. let e : j + 0 ≡ j = omega arith in rw e })
  gone R O st (suc r) G P w =
      let M : List ℕ = w.0 in
      let Q : List ℕ = w.1 in
      let g : Gone R O r M Q = gone R O st r M Q w.2 in
      let s : Step T A N key v code M Q (get_or M 2 0) (get_or M 3 0) (get_or G 2 0) (get_or G 3 0) G P = w.3 in
      record {
        stands = standing M Q G P g.stands (get_or M 2 0) (get_or M 3 0) refl (get_or G 2 0) (get_or G 3 0) refl s;
        runs = λ m j a l.
            let e : j + suc r ≡ j + r + 1 = omega arith in
            ap (λ (c : ℕ). run_from step_tables (m - c) c (Ran k) (store G P)) e
            ∙ (run_on m (j + r) (last_of r k a) (Ran k) (store M Q) (store G P) (stepped M Q G P g.stands (get_or M 2 0) (get_or M 3 0) refl (get_or G 2 0) (get_or G 3 0) refl s) (omega arith) refl
            ∙ g.runs m j a (omega arith));
      }

  pub walked-ahead : (R O : List ℕ) → Standing R O → (r : ℕ) (G P : List ℕ) → Walked T A N key v code R O r G P → Ahead k r (store R O) (store G P)
  walked-ahead R O st r G P w = let g : Gone R O r G P = gone R O st r G P w in record { runs = g.runs; whole = g.stands.whole }

-- The row as the part of the frames that is lent: it is walked, and what it then holds is put back
module _ (N L K E I S O F : List ℕ) (whole : broken (tables N L K E I S O F) ≡ false) (k n : ℕ) (turns : k ≡ turn_of N) (frames : n ≡ get_or N (6 + k) 0) (some-n : n ≢ 0) (b : ℕ)
    (row : b ≡ frame_base k (n - 1)) where
  abbrev part : List ℕ
  part = take 52 (drop b F)

  within-frames : b + 52 ≤ length F
  within-frames = rw row (row_fits N L K E I S O F whole k n turns frames some-n)

  part_length : length part ≡ 52
  part_length = length-take-le 52 (drop b F) (omega (arith, length-drop b F, within-frames))

  pub part-size : (from : ℕ) → from ≡ b → length (take (from + 52 - from) (drop from F)) ≡ 52
  part-size from e =
      let z : from + 52 - from ≡ 52 = omega arith in
      subst⁻¹ (λ (m : ℕ). length (take m (drop from F)) ≡ 52) z (subst⁻¹ (λ (f : ℕ). length (take 52 (drop f F)) ≡ 52) e part_length)

  part-cell : (i : ℕ) → i < 52 → get_or part i 0 ≡ get_or F (b + i) 0
  part-cell i l = get_or-take 52 (drop b F) i 0 l ∙ get_or-drop b F i 0

  -- the frame has few operands
  pub part-few : (from : ℕ) → from ≡ b → get_or (take (from + 52 - from) (drop from F)) 3 0 ≤ 16
  part-few from e =
      let z : from + 52 - from ≡ 52 = omega arith in
      let t : Tables = tables N L K E I S O F in
      let few : get_or F (frame_base k (n - 1) + 3) 0 ≤ 16 = depth-few t whole k (n - 1) (rw turns (turn_two N)) (turn-count N L K E I S O F whole k n turns frames some-n) in
      let y : get_or part 3 0 ≡ get_or F (frame_base k (n - 1) + 3) 0 = part-cell 3 (omega arith) ∙ ap (λ (x : ℕ). get_or F (x + 3) 0) row in
      subst⁻¹ (λ (m : ℕ). get_or (take m (drop from F)) 3 0 ≤ 16) z (subst⁻¹ (λ (f : ℕ). get_or (take 52 (drop f F)) 3 0 ≤ 16) e (subst⁻¹ (λ (x : ℕ). x ≤ 16) y few))

  same : pasted F b part ≡ F
  same = put_same b 52 F

  module _ (T A : List ℕ) (right : Minds N L K E I T A) (c j v key : ℕ) (file code : List ℕ) (class : c ≡ get_or F b 0) (method : j ≡ get_or F (b + 1) 0) (read : file ≡ file_in N L K c) (source : code ≡ code_in (quick_methods file) j)
      (version : v ≡ file_version file) (few-methods : j < 8) (number : key ≡ 8 * c + j) (closed : get_or N loads_cell 0 ≡ 0) where
    stands : Standing N L K E I S F k n b v code turns frames some-n row within-frames closed T A right key part O
    stands =
        let e : b + 0 ≡ b = omega arith in
        let x : get_or part 0 0 ≡ c = part-cell 0 (omega arith) ∙ (ap (λ (z : ℕ). get_or F z 0) e ∙ sym class) in
        let y : get_or part 1 0 ≡ j = part-cell 1 (omega arith) ∙ sym method in
        record {
          size = part_length;
          whole = rw same whole;
          source = rw (x, y, ← read) source;
          version = rw (x, ← read) version;
          method = rw y few-methods;
          number = rw (x, y) number;
        }

    ahead-row : (r : ℕ) (G P : List ℕ) → Walked T A N key v code part O r G P → Ahead k r (tables N L K E I S O F) (tables N L K E I S P (pasted F b G))
    ahead-row r G P w = subst (λ (t : List ℕ). Ahead k r (tables N L K E I S O t) (tables N L K E I S P (pasted F b G))) same
        (walked-ahead N L K E I S F k n b v code turns frames some-n row within-frames closed T A right key part O stands r G P w)

    pub ahead-part : (from r : ℕ) (G P : List ℕ) → from ≡ b → Walked T A N key v code (take (from + 52 - from) (drop from F)) O r G P
        → Ahead k r (tables N L K E I S O F) (tables N L K E I S P (take from F ++ (G ++ drop (from + 52 - from) (drop from F))))
    ahead-part from r G P e w =
        let z : from + 52 - from ≡ 52 = omega arith in
        let w' : Walked T A N key v code part O r G P = subst (λ (f : ℕ). Walked T A N key v code (take 52 (drop f F)) O r G P) e (subst (λ (m : ℕ). Walked T A N key v code (take m (drop from F)) O r G P) z w) in
        subst⁻¹ (λ (m : ℕ). Ahead k r (tables N L K E I S O F) (tables N L K E I S P (take from F ++ (G ++ drop m (drop from F))))) z
        (subst⁻¹ (λ (f : ℕ). Ahead k r (tables N L K E I S O F) (tables N L K E I S P (take f F ++ (G ++ drop 52 (drop f F))))) e (ahead-row r G P w'))
