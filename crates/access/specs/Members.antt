-- Laws of fields and methods that were looked up: where a field stands in an object, what a receiver is, and the instructions case by case.
use Rattle.std.specs.Prelude.{◌≡◌, Bool, List, [], ◌∷◌, ◌≢◌, ℕ, suc, ◌+◌, ◌<◌, ◌≤◌, length, get_or, eqb, leb}
use Rattle.std.proofs.Math.Path.{refl, sym, ap}
use Rattle.std.proofs.Common.{◌∙◌, ⊎_elim, append-nil, eqb-true, ne_eqb, ltb-true}
use Rattle.std.proofs.Math.Bool.{true, false}
use Rattle.std.proofs.Math.Option.{none, some}
use Rattle.definition.specs.declared.Signature.{Signature}
use Rattle.definition.specs.Lists.{index_of}
use Rattle.definition.specs.Requests.{at}
use Rattle.definition.specs.Superclasses.{Below, nearest, below}
use Rattle.definition.specs.Classes.{Base, Class, find, super_of, loader_of, slots, slot_is, has_field, signature_types, Selected, selected}
use Rattle.definition.specs.Constraints.{Tie, World, new_tie, new_ties, post, signature_ties}
use Rattle.definition.specs.declared.Instruction.TheVariants.{Getfield, Putfield, Invokevirtual}
use Rattle.definition.specs.declared.Instruction.{Instruction}
use Rattle.definition.specs.Instructions.{Decoded, pick}
use Rattle.definition.specs.declared.Refusal.{Refusal}
use Rattle.definition.specs.declared.Refusal.TheVariants.{Word, Wanted}
use Rattle.definition.specs.Answers.{Result, refused, ok, ◌>>=◌, need, take?}
use Rattle.definition.specs.Machine.{empty_value, int_value, null_value, unlisted_value, Objects, Frame, object!, Progress, execute}
use Rattle.definition.specs.Tables.{Tables, tables, value_of, object_at, used_fields, size_of, frame_of, objects_of, ties_of}
use Rattle.laws.specs.Agreement.{super-falls}
use Rattle.laws.specs.Upward.{nearest-below, below_true, below-trans}
use Rattle.laws.specs.Slots.{slots-below}
use Rattle.laws.specs.Tests.{index-found}
use Rattle.laws.specs.Growth.{nth-lt}
use Rattle.frames.specs.Unused.{is_used, used-there, used-none}
use Rattle.instructions.specs.declared.Plan.{Plan}
use Rattle.instructions.specs.Plans.{decoded, meaning, Fit}
use Rattle.resolution.specs.Quick.{quick_base}
use Rattle.std.specs.Prelude as Rust
use Rattle.std.specs.Prelude.{◌⊎◌}
use Rattle.access.specs.declared.DeclaredField.{DeclaredField}
use Rattle.access.specs.Declarers.{declaring_loader, loader-missing, loader-absent, loader-there, class-absent, class-there, selected_class}
use Rattle.access.specs.Accesses.{resolved, world_in, ties_on, accessed, Accessing, always, frame_room, read_field, write_field, call_method}

-- The field of name n and type t of the class c that is cached under loader l: what is missing, or the class that is cached and the one that declares it

abbrev pub Declares : Base → ℕ → ℕ → ℕ → ℕ → Rust.Result DeclaredField Refusal → Type 0
Declares B l c n t (Rust.Err r) =
    ((r ≡ Wanted l c) × (find B.cache (at l c) ≡ none)) ⊎ ((r ≡ Word 7) × ((e : ℕ) × (find B.cache (at l c) ≡ some e) × (nearest (super_of B) (has_field B n t) e ≡ none)))
Declares B l c n t (Rust.Ok d) = (find B.cache (at l c) ≡ some d.from) × (nearest (super_of B) (has_field B n t) d.from ≡ some d.class)

-- Ties on one type

pub ties-one : (ts : List Tie) (l m n : ℕ) → ties_on ts l m (n ∷ []) ≡ new_tie ts l m n
unfolding new_ties
ties-one ts l m n = append-nil (new_tie ts l m n)

-- what was found means its ties posted and the rest of the instruction
resolved-means : (task : ℕ) (w : World) (os : Objects) (fs : List Frame) (F : List ℕ) (b q : ℕ) (room : Bool) (one two : ℕ) (types : List ℕ) (p : Plan) (us : List Tie) (rest : World → Result Progress)
    → ties_on w.ties one two types ≡ us → ((z : World) → meaning task z os fs F b q p ≡ rest z)
    → accessed task w os fs F b q room two types (resolved one p) ≡ (post w room us >>= rest)
unfolding accessed
resolved-means task w os fs F b q room one two types p us rest e h = (λ i. post w room (e i) >>= λ z. h z i)

-- Where a field stands in an object

-- a field that class s declares stands in every object of a class c below e, from which s was found
pub field-used : (B : Base) (c e s n t j : ℕ) → below (super_of B) c e ≡ true → nearest (super_of B) (has_field B n t) e ≡ some s → index_of (slot_is s n t) (slots B s) ≡ some j
    → j < 16 → j < used_fields B c
unfolding used_fields pick
field-used B c e s n t j h g i few = go (leb (size_of B c) 16) refl
  where
    declared : Below (super_of B) c s
    declared =
        below-trans (below_true (super_of B) (super-falls B) c e h) (nearest-below (super_of B) (super-falls B) (has_field B n t) e s g).0

    sized : j < size_of B c
    sized = let x = index-found (slot_is s n t) (slots B s) j i in nth-lt (slots B c) j x.0 (slots-below B declared j x.0 x.1)

    go : (u : Bool) → leb (size_of B c) 16 ≡ u → j < pick u (size_of B c) 16
    go true q = sized
    go false q = few

-- Receivers

-- the word for cells that are no object's
unfoldable pub no_object : ℕ → ℕ → ℕ
no_object k b = pick (eqb k 2) (pick (eqb b 0) 11 14) 14

module _ (B : Base) (os : Objects) (e k b : ℕ) where
  pub object-word : k ≢ 3 → object! B os e (value_of k b) ≡ refused (Word (no_object k b))
  unfolding object! value_of pick no_object
  object-word h = rw (ne_eqb k 3 h) (two (eqb k 2) refl)
    where
      null : (n : ℕ) (u : Bool) → object! B os e (pick u null_value (unlisted_value n b)) ≡ refused (Word (pick u 11 14))
      null n true = refl
      null n false = refl

      empty : (u : Bool) → object! B os e (pick u empty_value (unlisted_value k b)) ≡ refused (Word 14)
      empty true = refl
      empty false = refl

      bare : (u : Bool) → object! B os e (pick u (pick (eqb k 0) empty_value (unlisted_value k b)) (unlisted_value k b)) ≡ refused (Word 14)
      bare true = empty (eqb k 0)
      bare false = refl

      int : (u : Bool) → object! B os e (pick u (int_value b) (pick (eqb b 0) (pick (eqb k 0) empty_value (unlisted_value k b)) (unlisted_value k b))) ≡ refused (Word 14)
      int true = refl
      int false = bare (eqb b 0)

      two : (u : Bool) → eqb k 2 ≡ u
          → object! B os e (pick (eqb k 1) (int_value b) (pick (eqb b 0) (pick (eqb k 0) empty_value (pick (eqb k 2) null_value (unlisted_value k b))) (unlisted_value k b)))
          ≡ refused (Word (pick (eqb k 2) (pick (eqb b 0) 11 14) 14))
      two true q = let z : k ≡ 2 = eqb-true k 2 q in rw z (null 2 (eqb b 0))
      two false q = rw q (int (eqb k 1))

module _ (B : Base) (t : Tables) (e k o : ℕ) (is : k ≡ 3) where
  pub object-missing : is_used t.counts o ≡ false → object! B (objects_of B t) e (value_of k o) ≡ refused (Word 14)
  unfolding object! value_of pick take? ◌>>=◌
  object-missing l = rw (is, used-none B t o l)

  pub object-above : is_used t.counts o ≡ true → below (super_of B) (object_at B t.objects o).class e ≡ false → object! B (objects_of B t) e (value_of k o) ≡ refused (Word 14)
  unfolding object! value_of pick take? ◌>>=◌ need
  object-above l h = rw (is, used-there B t o l, h)

  pub object-right : is_used t.counts o ≡ true → below (super_of B) (object_at B t.objects o).class e ≡ true
      → object! B (objects_of B t) e (value_of k o) ≡ ok (record { number = o; object = object_at B t.objects o })
  unfolding object! value_of pick take? ◌>>=◌ need
  object-right l h = rw (is, used-there B t o l, h)

-- The instructions, case by case

module _ (task : ℕ) (w : World) (os : Objects) (f : Frame) (fs : List Frame) (k : Class) (i : Decoded) (c n t : ℕ) where
  pub getfield-wanted : find w.base.cache (at k.loader c) ≡ none → execute task w os f fs k i (Getfield c n t) ≡ refused (Wanted k.loader c)
  unfolding execute take? ◌>>=◌
  getfield-wanted h = rw h

  pub putfield-wanted : find w.base.cache (at k.loader c) ≡ none → execute task w os f fs k i (Putfield c n t) ≡ refused (Wanted k.loader c)
  unfolding execute take? ◌>>=◌
  putfield-wanted h = rw h

  module _ (e : ℕ) (there : find w.base.cache (at k.loader c) ≡ some e) where
    pub getfield-absent : nearest (super_of w.base) (has_field w.base n t) e ≡ none → execute task w os f fs k i (Getfield c n t) ≡ refused (Word 7)
    unfolding execute take? ◌>>=◌
    getfield-absent h = rw (there, h)

    pub putfield-absent : nearest (super_of w.base) (has_field w.base n t) e ≡ none → execute task w os f fs k i (Putfield c n t) ≡ refused (Word 7)
    unfolding execute take? ◌>>=◌
    putfield-absent h = rw (there, h)

    module _ (s : ℕ) (found : nearest (super_of w.base) (has_field w.base n t) e ≡ some s) where
      pub getfield-found : execute task w os f fs k i (Getfield c n t)
          ≡ (post w true (new_tie w.ties (loader_of w.base s) k.loader t) >>= read_field w.base os f fs i e s n t)
      unfolding execute take? ◌>>=◌ read_field
      getfield-found = rw (there, found)

      pub putfield-found : execute task w os f fs k i (Putfield c n t)
          ≡ (post w true (new_tie w.ties (loader_of w.base s) k.loader t) >>= write_field w.base os f fs i e s n t)
      unfolding execute take? ◌>>=◌ write_field
      putfield-found = rw (there, found)

module _ (task : ℕ) (w : World) (os : Objects) (f : Frame) (fs : List Frame) (k : Class) (i : Decoded) (c : ℕ) (s : Signature) where
  pub invoke-wanted : find w.base.cache (at k.loader c) ≡ none → execute task w os f fs k i (Invokevirtual c s) ≡ refused (Wanted k.loader c)
  unfolding execute take? ◌>>=◌
  invoke-wanted h = rw h

  module _ (e : ℕ) (there : find w.base.cache (at k.loader c) ≡ some e) where
    pub invoke-absent : selected w.base s e ≡ none → execute task w os f fs k i (Invokevirtual c s) ≡ refused (Word 7)
    unfolding execute take? ◌>>=◌
    invoke-absent h = rw (there, h)

    pub invoke-found : (m : Selected) → selected w.base s e ≡ some m
        → execute task w os f fs k i (Invokevirtual c s)
        ≡ (post w (frame_room fs) (signature_ties w.ties (loader_of w.base m.class) k.loader s) >>= call_method w.base os f fs i e s)
    unfolding execute take? ◌>>=◌ call_method
    invoke-found m found = rw (there, found)

-- What is left once the ties are posted: a plan that means it; `limit` is what it asks of the number of frames below

abbrev pub unlimited : ℕ → Type 0
unlimited m = Unit {0}

abbrev pub frames_left : ℕ → Type 0
frames_left m = suc m < 32

pub record Rest (N L K E O F : List ℕ) (b d : ℕ) (limit : ℕ → Type 0) (rest : Base → Objects → Frame → List Frame → Decoded → World → Result Progress) (r : Plan) : Type 0 where
  pub says : (I S : List ℕ) (task : ℕ) (fs : List Frame) (w : World) (p : ℕ) (i : Decoded)
      → (let B = quick_base N L K E in let os = objects_of B (tables N L K E I S O F) in
      meaning task w os fs F b (p + i.size) r ≡ rest B os (frame_of F b p d) fs i w)
  pub fits : d ≤ 16 → (I S : List ℕ) (k m : ℕ) → limit m → Fit (quick_base N L K E) (tables N L K E I S O F) k m r

module _ (N L K E O F : List ℕ) (b d loader c : ℕ) where
  abbrev B : Base
  B = quick_base N L K E

  -- nothing was found: every constraint and frame gives the same refusal
  pub unresolved : (room : List Frame → Bool) (types : List ℕ) (i : Instruction) (r : Refusal)
      → ((I S : List ℕ) (task : ℕ) (fs : List Frame) (k : Class) (p n : ℕ) → k.loader ≡ loader
      → (let t = tables N L K E I S O F in execute task (world_in B t) (objects_of B t) (frame_of F b p d) fs k (decoded i n) i ≡ refused r))
      → declaring_loader B loader i ≡ none
      → Accessing N L K E O F b d loader room types i (Rust.Err r)
  unfolding accessed
  unresolved room types i r h o = record { says = λ I S task fs k p n e. sym (h I S task fs k p n e); fits = λ few I S k gs l. tt; declared = sym o }

  module _ (missing : find B.cache (at loader c) ≡ none) where
    pub getfield-uncached : (n t : ℕ) → Accessing N L K E O F b d loader always (t ∷ []) (Getfield c n t) (Rust.Err (Wanted loader c))
    getfield-uncached n t = unresolved always (t ∷ []) (Getfield c n t) (Wanted loader c) (λ I S task fs k p m z.
        rw (← z) (getfield-wanted task (world_in B (tables N L K E I S O F)) (objects_of B (tables N L K E I S O F)) (frame_of F b p d) fs k (decoded (Getfield c n t) m) c n t (rw z missing)))
        (loader-missing B loader c (nearest (super_of B) (has_field B n t)) missing)

    pub putfield-uncached : (n t : ℕ) → Accessing N L K E O F b d loader always (t ∷ []) (Putfield c n t) (Rust.Err (Wanted loader c))
    putfield-uncached n t = unresolved always (t ∷ []) (Putfield c n t) (Wanted loader c) (λ I S task fs k p m z.
        rw (← z) (putfield-wanted task (world_in B (tables N L K E I S O F)) (objects_of B (tables N L K E I S O F)) (frame_of F b p d) fs k (decoded (Putfield c n t) m) c n t (rw z missing)))
        (loader-missing B loader c (nearest (super_of B) (has_field B n t)) missing)

    pub invoke-uncached : (s : Signature) → Accessing N L K E O F b d loader frame_room (signature_types s) (Invokevirtual c s) (Rust.Err (Wanted loader c))
    invoke-uncached s = unresolved frame_room (signature_types s) (Invokevirtual c s) (Wanted loader c) (λ I S task fs k p m z.
        rw (← z) (invoke-wanted task (world_in B (tables N L K E I S O F)) (objects_of B (tables N L K E I S O F)) (frame_of F b p d) fs k (decoded (Invokevirtual c s) m) c s (rw z missing)))
        (loader-missing B loader c (selected_class B s) missing)

  module _ (e : ℕ) (there : find B.cache (at loader c) ≡ some e) where
    pub getfield-undeclared : (n t : ℕ) → nearest (super_of B) (has_field B n t) e ≡ none → Accessing N L K E O F b d loader always (t ∷ []) (Getfield c n t) (Rust.Err (Word 7))
    getfield-undeclared n t h = unresolved always (t ∷ []) (Getfield c n t) (Word 7) (λ I S task fs k p m z.
        getfield-absent task (world_in B (tables N L K E I S O F)) (objects_of B (tables N L K E I S O F)) (frame_of F b p d) fs k (decoded (Getfield c n t) m) c n t e (rw z there) h)
        (loader-absent B loader c (nearest (super_of B) (has_field B n t)) e there h)

    pub putfield-undeclared : (n t : ℕ) → nearest (super_of B) (has_field B n t) e ≡ none → Accessing N L K E O F b d loader always (t ∷ []) (Putfield c n t) (Rust.Err (Word 7))
    putfield-undeclared n t h = unresolved always (t ∷ []) (Putfield c n t) (Word 7) (λ I S task fs k p m z.
        putfield-absent task (world_in B (tables N L K E I S O F)) (objects_of B (tables N L K E I S O F)) (frame_of F b p d) fs k (decoded (Putfield c n t) m) c n t e (rw z there) h)
        (loader-absent B loader c (nearest (super_of B) (has_field B n t)) e there h)

    pub invoke-undeclared : (s : Signature) → selected B s e ≡ none
        → Accessing N L K E O F b d loader frame_room (signature_types s) (Invokevirtual c s) (Rust.Err (Word 7))
    invoke-undeclared s h = unresolved frame_room (signature_types s) (Invokevirtual c s) (Word 7) (λ I S task fs k p m z.
        invoke-absent task (world_in B (tables N L K E I S O F)) (objects_of B (tables N L K E I S O F)) (frame_of F b p d) fs k (decoded (Invokevirtual c s) m) c s e (rw z there) h)
        (loader-absent B loader c (selected_class B s) e there (class-absent B s e h))

  -- a field that is missing
  module _ (n t : ℕ) (r : Refusal) (missing : Declares B loader c n t (Rust.Err r)) where
    pub getfield-refused : Accessing N L K E O F b d loader always (t ∷ []) (Getfield c n t) (Rust.Err r)
    getfield-refused = ⊎_elim (λ h. rw h.0 (getfield-uncached h.1 n t)) (λ h. rw h.0 (getfield-undeclared h.1.0 h.1.1 n t h.1.2)) missing

    pub putfield-refused : Accessing N L K E O F b d loader always (t ∷ []) (Putfield c n t) (Rust.Err r)
    putfield-refused = ⊎_elim (λ h. rw h.0 (putfield-uncached h.1 n t)) (λ h. rw h.0 (putfield-undeclared h.1.0 h.1.1 n t h.1.2)) missing

  module _ (e : ℕ) (there : find B.cache (at loader c) ≡ some e) (s one : ℕ) (declares : one ≡ loader_of B s) (p : Plan) where
    pub getfield-right : (n t : ℕ) → nearest (super_of B) (has_field B n t) e ≡ some s → Rest N L K E O F b d unlimited (λ B os f fs i. read_field B os f fs i e s n t) p
        → Accessing N L K E O F b d loader always (t ∷ []) (Getfield c n t) (resolved one p)
    getfield-right n t found q = record {
      says = λ I S task fs k x y z.
          let T : Tables = tables N L K E I S O F in
          resolved-means task (world_in B T) (objects_of B T) fs F b (x + y) true one loader (t ∷ []) p (new_tie (ties_of T) one loader t)
          (read_field B (objects_of B T) (frame_of F b x d) fs (decoded (Getfield c n t) y) e s n t) (ties-one (ties_of T) one loader t)
          (λ w. q.says I S task fs w x (decoded (Getfield c n t) y))
          ∙ rw (declares, ← z) (sym (getfield-found task (world_in B T) (objects_of B T) (frame_of F b x d) fs k (decoded (Getfield c n t) y) c n t e (rw z there) s found));
      fits = λ few I S k gs l. q.fits few I S k (length gs) tt;
      declared = ap some declares ∙ sym (loader-there B loader c (nearest (super_of B) (has_field B n t)) e there s found);
    }

    pub putfield-right : (n t : ℕ) → nearest (super_of B) (has_field B n t) e ≡ some s → Rest N L K E O F b d unlimited (λ B os f fs i. write_field B os f fs i e s n t) p
        → Accessing N L K E O F b d loader always (t ∷ []) (Putfield c n t) (resolved one p)
    putfield-right n t found q = record {
      says = λ I S task fs k x y z.
          let T : Tables = tables N L K E I S O F in
          resolved-means task (world_in B T) (objects_of B T) fs F b (x + y) true one loader (t ∷ []) p (new_tie (ties_of T) one loader t)
          (write_field B (objects_of B T) (frame_of F b x d) fs (decoded (Putfield c n t) y) e s n t) (ties-one (ties_of T) one loader t)
          (λ w. q.says I S task fs w x (decoded (Putfield c n t) y))
          ∙ rw (declares, ← z) (sym (putfield-found task (world_in B T) (objects_of B T) (frame_of F b x d) fs k (decoded (Putfield c n t) y) c n t e (rw z there) s found));
      fits = λ few I S k gs l. q.fits few I S k (length gs) tt;
      declared = ap some declares ∙ sym (loader-there B loader c (nearest (super_of B) (has_field B n t)) e there s found);
    }

    pub invoke-right : (g : Signature) (j : ℕ) → selected B g e ≡ some (record { class = s; place = j }) → Rest N L K E O F b d frames_left (λ B os f fs i. call_method B os f fs i e g) p
        → Accessing N L K E O F b d loader frame_room (signature_types g) (Invokevirtual c g) (resolved one p)
    unfolding signature_ties
    invoke-right g j found q = record {
      says = λ I S task fs k x y z.
          let T : Tables = tables N L K E I S O F in
          resolved-means task (world_in B T) (objects_of B T) fs F b (x + y) (frame_room fs) one loader (signature_types g) p (signature_ties (ties_of T) one loader g)
          (call_method B (objects_of B T) (frame_of F b x d) fs (decoded (Invokevirtual c g) y) e g) refl
          (λ w. q.says I S task fs w x (decoded (Invokevirtual c g) y))
          ∙ rw (declares, ← z)
          (sym (invoke-found task (world_in B T) (objects_of B T) (frame_of F b x d) fs k (decoded (Invokevirtual c g) y) c g e (rw z there) _ found));
      fits = λ few I S k gs l. q.fits few I S k (length gs) (ltb-true (suc (length gs)) 32 l);
      declared = ap some declares ∙ sym (loader-there B loader c (selected_class B g) e there s (class-there B g e s j found));
    }
