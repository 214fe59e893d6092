-- A step refuses with the first cause that applies.
use Rattle.std.proofs.Math.Path.{◌≡◌, refl, sym, ap}
use Rattle.std.proofs.Common.{◌∙◌, arith}
use Rattle.std.specs.Prelude.{Bool, not, ◌&&◌, ◌||◌, set, eqb, leb}
use Rattle.std.proofs.Math.Bool.{true, false, not-not}
use Rattle.std.proofs.Math.Option.{Option, none, some}
use mathlib.Core.List.{List, [], ◌∷◌, ◌++◌, reverse_aux}
use Prim.Native.Nat.{ℕ, ◌+◌}
use Rattle.std.proofs.Math.ListN.{length, get_elem?}
use Rattle.std.proofs.Math.Dec.{ltb}
use Rattle.definition.specs.declared.Signature.{Signature}
use Rattle.definition.specs.declared.Refusal.TheVariants.{Word}
use Rattle.definition.specs.declared.Kind.{Kind}
use Rattle.definition.specs.declared.Kind.TheVariants.{IntKind, ReferenceKind}
use Rattle.definition.specs.declared.Operator.{Operator}
use Rattle.definition.specs.declared.Operator.TheVariants.{Add, Subtract, Multiply, Divide}
use Rattle.definition.specs.declared.Instruction.{Instruction}
use Rattle.definition.specs.declared.Condition.{Condition}
use Rattle.definition.specs.declared.Condition.TheVariants.{Always, IfZero, IfLess}
use Rattle.definition.specs.declared.Instruction.TheVariants.{AconstNull, Sipush, Load, Store, Pop, Dup, Arithmetic, Getfield, Putfield, Invokevirtual, New, Return, Branch}
use Rattle.definition.specs.Requests.{Request, at}
use Rattle.definition.specs.Superclasses.{Below, below, nearest}
use Rattle.definition.specs.Answers.{number, wanted, Result, refused, ok, ◌>>=◌, need, take?}
use Rattle.definition.specs.Classes.{Class, argument_types, find, super_of, slots, slot_is, has_field, selected}
use Rattle.definition.specs.Constraints.{Tie, World, posted, agrees_after, post}
use Rattle.definition.specs.Instructions.{Decoded}
use Rattle.definition.specs.Lists.{index_of, is_some, is_none}
use Rattle.definition.specs.Machine.{Value, empty_value, int_value, null_value, object_value, unlisted_value, Object, Objects, Exists, changed, Frame, Progress, Now, existing, pop!, pop_all!, int!, reference!, of_kind!, kind!, kinds!, compute, jumps, room!, object!, past, entry_frame, now, under!, give, execute, step, roomless, share_used}
use Rattle.definition.specs.Verifier.{pop, pop_all}
use Rattle.definition.specs.Maybe as Maybe
use Rattle.laws.specs.Agreement.{super-falls}
use Rattle.laws.specs.Arguments.{PoppedAll, aux-nth, nth_past, popped-is, popped-few}
use Rattle.laws.specs.Growth.{nth-lt}
use Rattle.laws.specs.Members.{FieldPlace, field-place}
use Rattle.laws.specs.Upward.{nearest-below, below_true, below-trans}
use Rattle.laws.specs.Causes.{Cause, cause, first, is_some_and, an_int, a_null, a_reference, a_value_of, of_kind, is_empty, no_room, no_room_below, receives, selects, field_ties, method_ties, plainly, branches, zero_divisor, arguments_fit, accessing, reading, read_causes, frame_causes, instruction_causes}
use Rattle.unbroken.specs.Steps.{Ready, object-at}
use Rattle.unbroken.specs.WholeRows.{nth-there}
use Rattle.unbroken.specs.Refusing.{number_in, first-need, first-unless, first-take, first-skip, number-on, number_ok, number-there}

-- Two causes of one word, and the causes of an instruction that names no class

first-and : (n : ℕ) (a b : Bool) (cs : List Cause) → first (cause n (not (a && b)) ∷ cs) ≡ first (cause n (not a) ∷ cause n (not b) ∷ cs)
unfolding first
first-and n true b cs = refl
first-and n false b cs = refl

-- one that doesn't apply
first_past : (c : Cause) (n : ℕ) (cs : List Cause) → first (c ∷ cause n false ∷ cs) ≡ first (c ∷ cs)
unfolding first
first_past c n cs = refl

bind-bind : {A B C : Type 0} (r : Result A) (f : A → Result B) (g : B → Result C) → ((r >>= f) >>= g) ≡ (r >>= λ a. f a >>= g)
unfolding ◌>>=◌
bind-bind (refused x) f g = refl
bind-bind (ok a) f g = refl

-- Values

abbrev Popped : Type 0
Popped = record { top : Value; more : List Value }

module _ {B : Type 0} (cs : List Cause) where
  first-int : (v : Value) (g : ℕ → Result B) → ((n : ℕ) → v ≡ int_value n → number_in (g n) ≡ first cs) → number_in (int! v >>= g) ≡ first (cause 14 (not (an_int v)) ∷ cs)
  unfolding number_in first int! ◌>>=◌ number
  first-int empty_value g h = refl
  first-int (int_value n) g h = h n refl
  first-int null_value g h = refl
  first-int (object_value o) g h = refl
  first-int (unlisted_value α β) g h = refl

  first-of-kind : (kind : Kind) (v : Value) (g : Unit {0} → Result B) → number_in (g tt) ≡ first cs → number_in (of_kind! kind v >>= g) ≡ first (cause 14 (not (a_value_of kind v)) ∷ cs)
  unfolding number_in first of_kind! int! reference! ◌>>=◌ number
  first-of-kind IntKind empty_value g h = refl
  first-of-kind IntKind (int_value n) g h = h
  first-of-kind IntKind null_value g h = refl
  first-of-kind IntKind (object_value o) g h = refl
  first-of-kind IntKind (unlisted_value α β) g h = refl
  first-of-kind ReferenceKind empty_value g h = refl
  first-of-kind ReferenceKind (int_value n) g h = refl
  first-of-kind ReferenceKind null_value g h = h
  first-of-kind ReferenceKind (object_value o) g h = h
  first-of-kind ReferenceKind (unlisted_value α β) g h = refl

  first_kind : (t : ℕ) (v : Value) (g : Unit {0} → Result B) → number_in (g tt) ≡ first cs → number_in (kind! t v >>= g) ≡ first (cause 14 (not (of_kind t v)) ∷ cs)
  unfolding kind! of_kind
  first_kind t v g h = go (eqb t 1)
    where
      go : (b : Bool) → number_in ((elim b as (λ _. Result (Unit {0})) [ true ↦ of_kind! IntKind v | false ↦ of_kind! ReferenceKind v ]) >>= g)
          ≡ first (cause 14 (not (elim b as (λ _. Bool) [ true ↦ an_int v | false ↦ a_reference v ])) ∷ cs)
      go true = first-of-kind IntKind v g h
      go false = first-of-kind ReferenceKind v g h

  -- what is there, said by is_some
  first-there : {A : Type 0} (o : Option A) (g : A → Result B) → ((a : A) → o ≡ some a → number_in (g a) ≡ first cs) → number_in (take? o (Word 14) >>= g) ≡ first (cause 14 (not (is_some o)) ∷ cs)
  unfolding number_in first take? ◌>>=◌ is_some number
  first-there none g h = refl
  first-there (some a) g h = h a refl

  -- a value that is there and passes
  first_passes : {A : Type 0} (o : Option A) (test : A → Bool) (g : A → Result B) → ((a : A) → number_in (g a) ≡ first (cause 14 (not (test a)) ∷ cs))
      → number_in (take? o (Word 14) >>= g) ≡ first (cause 14 (not (is_some_and o test)) ∷ cs)
  unfolding number_in first take? ◌>>=◌ number
  first_passes none test g h = refl
  first_passes (some a) test g h = h a

  -- the operand on top, there or passing a test
  first-pop : (vs : List Value) (g : Popped → Result B) → ((p : Popped) → number_in (g p) ≡ first cs) → number_in (pop! vs >>= g) ≡ first (cause 14 (is_none (get_elem? vs 0)) ∷ cs)
  unfolding number_in first pop! pop take? ◌>>=◌ is_none number
  first-pop [] g h = refl
  first-pop (v ∷ vs) g h = h (record { top = v; more = vs })

  first-top : (vs : List Value) (test : Value → Bool) (g : Popped → Result B) → ((v : Value) (us : List Value) → vs ≡ v ∷ us → number_in (g (record { top = v; more = us })) ≡ first (cause 14 (not (test v)) ∷ cs))
      → number_in (pop! vs >>= g) ≡ first (cause 14 (not (is_some_and (get_elem? vs 0) test)) ∷ cs)
  unfolding number_in first pop! pop take? ◌>>=◌ number
  first-top [] test g h = refl
  first-top (v ∷ vs) test g h = h v vs refl

  -- two operands, each passing a test; the one below is looked for before the upper is tested
  first_two : (vs : List Value) (one two : Value → Bool) (g : Popped → Popped → Result B)
      → ((v u : Value) (us : List Value) → vs ≡ v ∷ u ∷ us → number_in (g (record { top = v; more = u ∷ us }) (record { top = u; more = us })) ≡ first (cause 14 (not (one v)) ∷ cause 14 (not (two u)) ∷ cs))
      → number_in (pop! vs >>= λ p. pop! p.more >>= λ q. g p q) ≡ first (cause 14 (not (is_some_and (get_elem? vs 0) one)) ∷ cause 14 (not (is_some_and (get_elem? vs 1) two)) ∷ cs)
  unfolding number_in first pop! pop take? ◌>>=◌ number
  first_two [] one two g h = refl
  first_two (v ∷ []) one two g h = go (one v)
    where
      go : (b : Bool) → ◌≡◌ {A = ℕ} 14 (first (cause 14 (not b) ∷ cause 14 true ∷ cs))
      go true = refl
      go false = refl
  first_two (v ∷ u ∷ us) one two g h = h v u us refl

-- Ties, and the object behind a receiver

module _ {B : Type 0} (w : World) (os : Objects) where
  first-post : (cs : List Cause) (room : Bool) (us : List Tie) (g : World → Result B) → number_in (g (posted w us)) ≡ first cs
      → number_in (post w room us >>= g) ≡ first (cause 10 (not (leb (length (w.ties ++ us)) 256 && room)) ∷ cause 9 (not (agrees_after w us)) ∷ cs)
  unfolding number_in first post need ◌>>=◌ number
  first-post cs room us g h = go (leb (length (w.ties ++ us)) 256 && room) (agrees_after w us)
    where
      go : (t u : Bool) → number_in ((need t (Word 10) >>= λ _. need u (Word 9) >>= λ _. ok (posted w us)) >>= g) ≡ first (cause 10 (not t) ∷ cause 9 (not u) ∷ cs)
      go true true = h
      go true false = refl
      go false u = refl

  -- one more test of the object, which null passes
  first-object : (e : ℕ) (v : Value) (more : Value → Bool) (g : record { number : ℕ; object : Object } → Result B) → more null_value ≡ true
      → ((o : ℕ) (b : Object) → existing os o ≡ some b → Below (super_of w.base) b.class e → number_in (g (record { number = o; object = b })) ≡ first (cause 14 (not (more (object_value o))) ∷ []))
      → number_in (object! w.base os e v >>= g) ≡ first (cause 14 (not (receives w os e v)) ∷ cause 14 (not (more v)) ∷ cause 11 (a_null v) ∷ [])
  unfolding number_in first object! need take? ◌>>=◌ number
  first-object e empty_value more g n h = refl
  first-object e (int_value x) more g n h = refl
  first-object e null_value more g n h = rw n refl
  first-object e (object_value o) more g n h = go (existing os o) refl
    where
      tested : (b : Object) → existing os o ≡ some b → (t : Bool) → below (super_of w.base) b.class e ≡ t
          → number_in ((need t (Word 14) >>= λ _. ok (record { number = o; object = b })) >>= g) ≡ first (cause 14 (not t) ∷ cause 14 (not (more (object_value o))) ∷ cause 11 false ∷ [])
      tested b q true l = h o b q (below_true (super_of w.base) (super-falls w.base) b.class e l)
      tested b q false l = refl

      go : (x : Option Object) → existing os o ≡ x → number_in ((take? x (Word 14) >>= λ b. need (below (super_of w.base) b.class e) (Word 14) >>= λ _. ok (record { number = o; object = b })) >>= g)
          ≡ first (cause 14 (not (is_some_and x (λ b. below (super_of w.base) b.class e))) ∷ cause 14 (not (more (object_value o))) ∷ cause 11 false ∷ [])
      go none q = refl
      go (some b) q = tested b q (below (super_of w.base) b.class e) refl
  first-object e (unlisted_value α β) more g n h = refl

-- One instruction

module _ (task : ℕ) (w : World) (n : ℕ) (os : Objects) (rd : Ready w n os) (f : Frame) (fs : List Frame) (k : Class) (i : Decoded) where
  no-divisor : (stuck null : Bool) → first (cause 14 stuck ∷ cause 11 null ∷ []) ≡ first (cause 14 stuck ∷ cause 11 null ∷ cause 17 false ∷ [])
  unfolding first
  no-divisor stuck null = refl

  -- it names a class and looks upward from it
  first-access : {A B : Type 0} (o : Option ℕ) (looks : ℕ → Option A) (ties : A → List Tie) (room : Bool) (fits : ℕ → Bool) (null : Bool) (r : Request) (g : ℕ → A → World → Result B)
      → ((e : ℕ) (d : A) → looks e ≡ some d → number_in (g e d (posted w (ties d))) ≡ first (cause 14 (not (fits e)) ∷ cause 11 null ∷ []))
      → number_in (take? o (wanted r) >>= λ e. take? (looks e) (Word 7) >>= λ d. post w room (ties d) >>= g e d) ≡ first (accessing w k o looks ties room fits null)
  unfolding accessing Maybe.◌>>=◌ number
  first-access o looks ties room fits null r g h = first-take _ o (wanted r) _ (λ e q. rw q (first-take _ (looks e) (Word 7) _ (λ d p. rw p (first-post w os _ room (ties d) (g e d) (h e d p ∙ no-divisor (not (fits e)) null) ∙ sym (first-skip 18 _)))))

  -- the operand on top, and the one below it, is there and passes
  abbrev upper : (Value → Bool) → Bool
  upper test = is_some_and (get_elem? f.operands 0) test

  abbrev lower : (Value → Bool) → Bool
  lower test = is_some_and (get_elem? f.operands 1) test

  -- it names no class
  plain : (full stuck : Bool) → first (plainly full stuck) ≡ first (cause 10 full ∷ cause 14 stuck ∷ [])
  unfolding first
  plain full stuck = refl

  plain-stuck : (stuck : Bool) → first (plainly false stuck) ≡ first (cause 14 stuck ∷ [])
  unfolding first
  plain-stuck stuck = refl

  only-full : (share full : Bool) → first (cause 7 false ∷ cause 18 share ∷ cause 10 full ∷ cause 9 false ∷ cause 14 false ∷ cause 11 false ∷ cause 17 false ∷ []) ≡ first (cause 18 share ∷ cause 10 full ∷ [])
  unfolding first
  only-full share full = refl

  -- an operator, which refuses a divisor 0 alone
  plain-divisor : (stuck zero : Bool)
      → first (cause 5 false ∷ cause 7 false ∷ cause 18 false ∷ cause 10 false ∷ cause 9 false ∷ cause 14 stuck ∷ cause 11 false ∷ cause 17 zero ∷ []) ≡ first (cause 14 stuck ∷ cause 17 zero ∷ [])
  unfolding first
  plain-divisor stuck zero = refl

  compute-first : (o : Operator) (a b : ℕ) (us : List Value) → f.operands ≡ int_value b ∷ us → number_in (compute o a b) ≡ first (cause 17 (zero_divisor task w os f fs k o) ∷ [])
  unfolding compute zero_divisor number
  compute-first Add a b us e = number_ok _ ∙ sym (first-skip 17 [])
  compute-first Subtract a b us e = number_ok _ ∙ sym (first-skip 17 [])
  compute-first Multiply a b us e = number_ok _ ∙ sym (first-skip 17 [])
  compute-first Divide a b us e = rw e (first-unless [] (eqb b 0) (Word 17) _ (number_ok _))

  -- a value given back
  first_under : (gs : List Frame) (cs : List Cause) (g : Unit {0} → Result Progress) → number_in (g tt) ≡ first cs → number_in (under! gs >>= g) ≡ first (cause 10 (no_room_below gs) ∷ cs)
  unfolding under! no_room ◌>>=◌ room! number
  first_under [] cs g h = h ∙ sym (first-skip 10 cs)
  first_under (x ∷ gs) cs g h = first-need cs (ltb (length x.operands) 16) (Word 10) g (λ _. h)

  give-first : (gs : List Frame) (v : Value) → number_in (give gs w os v) ≡ first (cause 14 (not (not (is_empty gs) || an_int v)) ∷ [])
  unfolding give
  give-first [] v = first-int [] v _ (λ _ _. number_ok _)
  give-first (x ∷ gs) v = number_ok _ ∙ sym (first-skip 14 [])

  -- in an object of class e or below it stands the field that is found upward of e
  module _ (e d x t : ℕ) (b : Object) (o : ℕ) (q : existing os o ≡ some b) (l : Below (super_of w.base) b.class e) (p : nearest (super_of w.base) (has_field w.base x t) e ≡ some d) where
    place : FieldPlace w.base b.class d x t
    place = let u = nearest-below (super_of w.base) (super-falls w.base) (has_field w.base x t) e d p in field-place w.base b.class d x t u.1 (below-trans l u.0)

    stored : (v : Value) × (get_elem? b.values place.place ≡ some v)
    stored = nth-there b.values place.place (omega (arith, nth-lt (slots w.base b.class) place.place place.slot place.is_slot, (object-at w.base n (Exists os) os rd.each o b q).size))

  -- once the ties are posted
  getfield-first : (x t e d : ℕ) → nearest (super_of w.base) (has_field w.base x t) e ≡ some d → (v : World) → number_in {A = Progress} (pop! f.operands >>= λ p. object! w.base os e p.top >>= λ o.
      take? (index_of (slot_is d x t) (slots w.base d)) (Word 14) >>= λ j. take? (get_elem? o.object.values j) (Word 14) >>= λ z.
      ok (record { world = v; objects = os; frames = past f i (z ∷ p.more) f.locals ∷ fs; result = none }))
      ≡ first (cause 14 (not (upper (receives w os e))) ∷ cause 11 (upper a_null) ∷ [])
  getfield-first x t e d p v =
      first-top (cause 11 (upper a_null) ∷ []) f.operands (receives w os e) _ (λ y us q. rw q (first-object w os e y (λ _. true) _ refl (λ o b h l.
      let z = place e d x t b o h l p in
      number-there [] _ (Word 14) _ z.index (number-there [] _ (Word 14) _ (stored e d x t b o h l p).1 (number_ok _)) ∙ sym (first-skip 14 [])) ∙ first_past _ 14 _))

  putfield-first : (x t e d : ℕ) → nearest (super_of w.base) (has_field w.base x t) e ≡ some d → (v : World) → number_in {A = Progress} (pop! f.operands >>= λ p. pop! p.more >>= λ q. kind! t p.top >>= λ _.
      object! w.base os e q.top >>= λ o. take? (index_of (slot_is d x t) (slots w.base d)) (Word 14) >>= λ j.
      ok (record { world = v; objects = changed os o.number (record { class = o.object.class; values = set o.object.values j p.top }); frames = past f i q.more f.locals ∷ fs; result = none }))
      ≡ first (cause 14 (not (upper (of_kind t) && lower (receives w os e))) ∷ cause 11 (lower a_null) ∷ [])
  putfield-first x t e d p v =
      first_two (cause 11 (lower a_null) ∷ []) f.operands (of_kind t) (receives w os e) _ (λ y u us q. rw q (first_kind _ t y _ (first-object w os e u (λ _. true) _ refl (λ o b h l.
      number-there [] _ (Word 14) _ (place e d x t b o h l p).index (number_ok _) ∙ sym (first-skip 14 [])) ∙ first_past _ 14 _))) ∙ sym (first-and 14 (upper (of_kind t)) (lower (receives w os e)) (cause 11 (lower a_null) ∷ []))

  -- the arguments of a call are those popped: each passes its own test exactly if its operand does
  first-kinds : {B : Type 0} (cs : List Cause) (ts : List ℕ) (vs more : List Value) → length vs ≡ length ts → f.operands ≡ reverse_aux vs more → (g : Unit {0} → Result B) → number_in (g tt) ≡ first cs
      → number_in (kinds! ts vs >>= g) ≡ first (cause 14 (not (arguments_fit task w os f fs k ts)) ∷ cs)
  unfolding kinds! arguments_fit ◌>>=◌
  first-kinds cs [] [] more l e g h = h ∙ sym (first-skip 14 cs)
  first-kinds cs [] (v ∷ vs) more l e g h = absurd (omega (arith, l))
  first-kinds cs (t ∷ ts) [] more l e g h = absurd (omega (arith, l))
  first-kinds cs (t ∷ ts) (v ∷ vs) more l e g h =
      let z : length vs + 0 ≡ length ts = omega (arith, l) in
      let there : get_elem? f.operands (length ts) ≡ some v = ap (get_elem? f.operands) (sym z) ∙ ap (λ (us : List Value). get_elem? us (length vs + 0)) e ∙ aux-nth vs (v ∷ more) 0 in
      ap number_in (bind-bind (kind! t v) (λ _. kinds! ts vs) g)
      ∙ first_kind (cause 14 (not (arguments_fit task w os f fs k ts)) ∷ cs) t v (λ _. kinds! ts vs >>= g) (first-kinds cs ts vs (v ∷ more) (omega (arith, l)) e g h)
      ∙ sym (first-and 14 (of_kind t v) (arguments_fit task w os f fs k ts) cs)
      ∙ ap (λ (o : Option Value). first (cause 14 (not (is_some_and o (of_kind t) && arguments_fit task w os f fs k ts)) ∷ cs)) (sym there)

  invoke-first : (s : Signature) (e : ℕ) (v : World) → number_in {A = Progress} (pop_all! (length (argument_types s)) f.operands >>= λ p. pop! p.more >>= λ q. kinds! (argument_types s) p.all >>= λ _.
      object! w.base os e q.top >>= λ o. take? (selected w.base s o.object.class) (Word 14) >>= λ m.
      ok (record { world = v; objects = os; frames = entry_frame m.class m.place o.number p.all ∷ past f i q.more f.locals ∷ fs; result = none }))
      ≡ first (cause 14 (not (arguments_fit task w os f fs k (argument_types s) && is_some_and (get_elem? f.operands (length (argument_types s))) (λ v. receives w os e v && selects w os s v)))
      ∷ cause 11 (is_some_and (get_elem? f.operands (length (argument_types s))) a_null) ∷ [])
  unfolding pop_all! take? ◌>>=◌
  invoke-first s e v = go (pop_all (length ts) f.operands) refl
    where
      ts : List ℕ
      ts = argument_types s

      fits : Bool
      fits = arguments_fit task w os f fs k ts

      test : Value → Bool
      test u = receives w os e u && selects w os s u

      -- the receiver isn't there
      stuck : (b : Bool) (o : Option Value) → o ≡ none → ◌≡◌ {A = ℕ} 14 (first (cause 14 (not (b && is_some_and o test)) ∷ cause 11 (is_some_and o a_null) ∷ []))
      stuck b o q = unfold first in rw q (unfold first in both b)
        where
          both : (b : Bool) → ◌≡◌ {A = ℕ} 14 (first (cause 14 (not (b && false)) ∷ cause 11 false ∷ []))
          both true = unfold first in refl
          both false = unfold first in refl

      rest : (p : PoppedAll Value) (q : Popped) → Result Progress
      rest p q = kinds! ts p.all >>= λ _. object! w.base os e q.top >>= λ o. take? (selected w.base s o.object.class) (Word 14) >>= λ m.
          ok (record { world = v; objects = os; frames = entry_frame m.class m.place o.number p.all ∷ past f i q.more f.locals ∷ fs; result = none })

      below : (p : PoppedAll Value) (us : List Value) → p.more ≡ us → length p.all ≡ length ts → f.operands ≡ reverse_aux p.all p.more
          → number_in (pop! us >>= rest p) ≡ first (cause 14 (not (fits && is_some_and (get_elem? us 0) test)) ∷ cause 11 (is_some_and (get_elem? us 0) a_null) ∷ [])
      below p [] m l q = unfold pop! pop number_in number in stuck fits none refl
      below p (u ∷ us) m l q = unfold pop! pop in
          first-kinds (cause 14 (not (test u)) ∷ cause 11 (a_null u) ∷ []) ts p.all p.more l q _
          (first-object w os e u (selects w os s) _ refl (λ o b h l. rw h (first-there [] (selected w.base s b.class) _ (λ _ _. number_ok _)))
          ∙ sym (first-and 14 (receives w os e u) (selects w os s u) (cause 11 (a_null u) ∷ [])))
          ∙ sym (first-and 14 fits (test u) (cause 11 (a_null u) ∷ []))

      go : (o : Option (PoppedAll Value)) → pop_all (length ts) f.operands ≡ o
          → number_in (take? o (Word 14) >>= λ p. pop! p.more >>= rest p)
          ≡ first (cause 14 (not (fits && is_some_and (get_elem? f.operands (length ts)) test)) ∷ cause 11 (is_some_and (get_elem? f.operands (length ts)) a_null) ∷ [])
      go none q = unfold number_in number in stuck fits (get_elem? f.operands (length ts)) (nth_past f.operands (length ts) (popped-few (length ts) f.operands q))
      go (some p) q =
          let a = popped-is (length ts) f.operands p q in
          let z : length p.all + 0 ≡ length ts = omega (arith, a.0) in
          let there : get_elem? f.operands (length ts) ≡ get_elem? p.more 0 = ap (get_elem? f.operands) (sym z) ∙ ap (λ (us : List Value). get_elem? us (length p.all + 0)) a.1 ∙ aux-nth p.all p.more 0 in
          below p p.more refl a.0 a.1 ∙ ap (λ (o : Option Value). first (cause 14 (not (fits && is_some_and o test)) ∷ cause 11 (is_some_and o a_null) ∷ [])) (sym there)

  jumps-first : (c : Condition) → number_in (jumps c f.operands) ≡ first (cause 14 (not (branches task w os f fs k c)) ∷ [])
  unfolding jumps branches
  jumps-first Always = number_ok _ ∙ sym (first-skip 14 [])
  jumps-first IfZero = first-top [] f.operands an_int _ (λ v us _. first-int [] v _ (λ _ _. number_ok _))
  jumps-first IfLess =
      first_two [] f.operands an_int an_int _ (λ v u us _. first-int _ v _ (λ b _. first-int [] u _ (λ a _. number_ok _))) ∙ sym (first-and 14 (upper an_int) (lower an_int) [])

  execute-first : (j : Instruction) → number_in (execute task w os f fs k i j) ≡ first (instruction_causes task w os f fs k j)
  unfolding execute instruction_causes room! no_room number
  execute-first AconstNull = first-need _ (ltb (length f.operands) 16) (Word 10) _ (λ _. number_ok _ ∙ sym (first-skip 14 [])) ∙ sym (plain _ _)
  execute-first (Sipush x) = first-need _ (ltb (length f.operands) 16) (Word 10) _ (λ _. number_ok _ ∙ sym (first-skip 14 [])) ∙ sym (plain _ _)
  execute-first (Load kind j) =
      first-need _ (ltb (length f.operands) 16) (Word 10) _ (λ _. first_passes [] (get_elem? f.locals j) (a_value_of kind) _ (λ v. first-of-kind [] kind v _ (number_ok _))) ∙ sym (plain _ _)
  execute-first (Store kind j) =
      first-top _ f.operands (a_value_of kind) _ (λ v us _. first-of-kind _ kind v _ (first-there [] (get_elem? f.locals j) _ (λ _ _. number_ok _)))
      ∙ sym (first-and 14 (upper (a_value_of kind)) (is_some (get_elem? f.locals j)) []) ∙ sym (plain-stuck _)
  execute-first Pop = first-pop [] f.operands _ (λ _. number_ok _) ∙ sym (plain-stuck _)
  execute-first Dup = first-need _ (ltb (length f.operands) 16) (Word 10) _ (λ _. first-pop [] f.operands _ (λ _. number_ok _)) ∙ sym (plain _ _)
  execute-first (Arithmetic o) =
      let cs : List Cause = cause 17 (zero_divisor task w os f fs k o) ∷ [] in
      first_two cs f.operands an_int an_int _
      (λ v u us q. first-int _ v _ (λ b e. first-int cs u _ (λ a _. number-on (compute o a b) _ ∙ compute-first o a b (u ∷ us) (q ∙ ap (λ (x : Value). x ∷ u ∷ us) e))))
      ∙ sym (first-and 14 (upper an_int) (lower an_int) cs) ∙ sym (plain-divisor _ _)
  execute-first (Getfield c x t) = first-access _ _ _ true _ _ _ _ (λ e d p. getfield-first x t e d p (posted w (field_ties w k t d)))
  execute-first (Putfield c x t) = first-access _ _ _ true _ _ _ _ (λ e d p. putfield-first x t e d p (posted w (field_ties w k t d)))
  execute-first (Invokevirtual c s) = first-access _ _ _ _ _ _ _ _ (λ e d p. invoke-first s e (posted w (method_ties w k s d)))
  execute-first (New c) = first-take _ (find w.base.cache (at k.loader c)) (wanted (at k.loader c)) _ (λ e _.
      first-need _ (not (share_used task os)) (Word 18) _ (λ _. first-need [] _ (Word 10) _ (λ _. number_ok _))
      ∙ ap (λ (b : Bool). first (cause 18 b ∷ cause 10 (not (not (roomless task os) && ltb (length f.operands) 16)) ∷ [])) (not-not (share_used task os)) ∙ sym (only-full _ _))
  execute-first (Branch c p) = number-on (jumps c f.operands) _ ∙ jumps-first c ∙ sym (plain-stuck _)
  execute-first (Return kind) =
      first_under fs _ _ (first-top (cause 14 (not (not (is_empty fs) || upper an_int)) ∷ []) f.operands (a_value_of kind) _ (λ v us q. rw q (first-of-kind _ kind v _ (give-first fs v)))
      ∙ sym (first-and 14 (upper (a_value_of kind)) (not (is_empty fs) || upper an_int) [])) ∙ sym (plain _ _)

-- A step: what can't be read, then the instruction

read_join : {A C : Type 0} (o : Option A) (f : A → Option C) (g : A → Result C) → ((a : A) → g a ≡ take? (f a) (Word 14)) → (take? o (Word 14) >>= g) ≡ take? (Maybe.◌>>=◌ o f) (Word 14)
unfolding take? ◌>>=◌ Maybe.◌>>=◌
read_join none f g h = refl
read_join (some a) f g h = h a

pub now-reading : (w : World) (f : Frame) → now w f ≡ take? (reading w f) (Word 14)
unfolding now reading take?
now-reading w f = read_join _ _ _ (λ k. read_join _ _ _ (λ m. read_join _ _ _ (λ i. refl)))

pub step-first : (task : ℕ) (w : World) (n : ℕ) (os : Objects) → Ready w n os → (f : Frame) (fs : List Frame) → number_in (step task w os f fs) ≡ first (frame_causes task w os (f ∷ fs))
unfolding step
step-first task w n os rd f fs = ap (λ (o : Result Now). number_in (o >>= λ z. execute task w os f fs z.the_class z.at z.at.instruction)) (now-reading w f) ∙ go (reading w f)
  where
    go : (o : Option Now) → number_in (take? o (Word 14) >>= λ z. execute task w os f fs z.the_class z.at z.at.instruction) ≡ first (read_causes task w os f fs o)
    go none = unfold number_in first take? ◌>>=◌ number in refl
    go (some z) = unfold take? ◌>>=◌ in execute-first task w n os rd f fs z.the_class z.at z.at.instruction ∙ sym (first-skip 14 (instruction_causes task w os f fs z.the_class z.at.instruction))
