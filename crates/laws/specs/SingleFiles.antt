-- Files of versions 1 and 2 behave as they did before paper 7. By the version of its file: how a class is read (`single-read`, laws/Single) and decoded (`single-decode`), the effect of an
-- instruction on types (`effect-before`), the types at point 0 (`entry-before`), the notes of a method (`notes-before`), the types at each of its points (`types-before`), whether it is unmapped
-- (`unmapped-before`), a define (`define-before`), the desk's number (`desk-before`), and a step of a frame of that class, whatever the versions of other classes are (`step-before`), equal their texts from before the paper. Those
-- texts have the argument type, `argument_of`, where a signature now has a list. Which methods a signature selects is said by `single-alike` and `single-apart`.
use Rattle.std.proofs.Math.Path.{◌≡◌, refl, ap}
use Rattle.std.proofs.Common.{sym, ◌∙◌}
use Rattle.std.specs.Prelude.{Bool, not, ◌&&◌, ◌||◌, length, eqb, ltb}
use Rattle.std.proofs.Math.Bool.{true, false}
use Rattle.std.proofs.Math.Option.{Option, none, some}
use mathlib.Core.List.{List, [], ◌∷◌, ◌++◌, Memᴰ}
use Prim.Native.Nat.{ℕ, zero, suc, ◌+◌}
use Rattle.std.proofs.Math.ListN.{get_elem?}
use Rattle.std.proofs.Math.Dec.{leb}
use Rattle.definition.specs.declared.Refusal.TheVariants.{Word}
use Rattle.definition.specs.declared.Signature.{Signature}
use Rattle.definition.specs.declared.Instruction.{Instruction}
use Rattle.definition.specs.declared.Instruction.TheVariants.{AconstNull, Sipush, Load, Store, Pop, Dup, Arithmetic, Getfield, Putfield, Invokevirtual, New, Return, Branch}
use Rattle.definition.specs.Numbers.{word_file, word_taken, word_unverified, word_absent, word_clash, word_full, word_stuck, word_unmapped, name_object, class_limit, cache_limit, tie_limit, subtype_limit, frame_limit, field_limit, version_two, version_three}
use Rattle.definition.specs.Lists.{every, any, is_none, to_list}
use Rattle.definition.specs.Requests.{at}
use Rattle.definition.specs.Maybe.{◌>>=◌, need}
use Rattle.definition.specs.Answers as Answers
use Rattle.definition.specs.Classes.{Base, Class, Method, Map, find, loader_of, slots, selected}
use Rattle.definition.specs.Constraints.{Tie, World, agrees, new_ties, post, signature_ties}
use Rattle.definition.specs.File.{File, read_file, class_of}
use Rattle.definition.specs.Instructions.{Decoded, decode}
use Rattle.definition.specs.Verifier.{Note, TypeState, Flow, finished, onto, Turn, type_of_name, entry_types, meet_class, meets, pop, flow, effect, return_kind, returns, target, goes_on, map_at, flow_into, start_at, after, turn, maps_past, verify, types_at, unmapped_from, notes_of_method, types_in, unmapped, notes_of}
use Rattle.definition.specs.Machine.{Objects, Frame, pop!, kind!, object!, Progress, Now, now, past, execute, step}
use Rattle.definition.specs.Desk.{verifier_number, desk_number}
use Rattle.definition.specs.Loading.{new_subtypes, override_tie, override_ties, with_class, define}
use Rattle.laws.specs.Options.{Holds, holds_at}
use Rattle.laws.specs.Results.{bind_ok, take-ok, ok-inj}
use Rattle.laws.specs.Single.{Single, Singles, SingleIn, argument_of, by-single, single_decode, single-decode, decode-single, single_entry, single-entry, single-effect, third_file, single_read_file, single-read, version-before, read-single}
use Rattle.laws.specs.SingleCalls.{single_frame, single-call}

-- a version before 3
abbrev pub Before : ℕ → Type 0
Before version = leb version_three version ≡ false

-- Types. The effect of an instruction, its call as it was

unfoldable pub single_effect : Instruction → TypeState → Option Flow
single_effect (Invokevirtual c m) s =
    need (leb name_object c && (leb 1 m.name && leb 1 (argument_of m.arguments) && leb 1 m.result)) >>= λ _. pop s.operands >>= λ p. pop p.more >>= λ q.
    meet_class c q.top >>= λ a. meets p.top (argument_of m.arguments) >>= λ b. flow (type_of_name m.result ∷ q.more) s.locals (a ++ b)
single_effect AconstNull s = effect AconstNull s
single_effect (Sipush n) s = effect (Sipush n) s
single_effect (Load kind i) s = effect (Load kind i) s
single_effect (Store kind i) s = effect (Store kind i) s
single_effect Pop s = effect Pop s
single_effect Dup s = effect Dup s
single_effect (Arithmetic o) s = effect (Arithmetic o) s
single_effect (Getfield c f t) s = effect (Getfield c f t) s
single_effect (Putfield c f t) s = effect (Putfield c f t) s
single_effect (New c) s = effect (New c) s
single_effect (Branch c p) s = effect (Branch c p) s
single_effect (Return kind) s = effect (Return kind) s

effect-call : (c : ℕ) (s : TypeState) (m : Signature) → Single m → effect (Invokevirtual c m) s ≡ single_effect (Invokevirtual c m) s
unfolding single_effect argument_of
effect-call c s = by-single (λ m. effect (Invokevirtual c m) s ≡ single_effect (Invokevirtual c m) s) (λ n a r. single-effect c n a r s)

effect_is : (i : Instruction) → SingleIn i → (s : TypeState) → effect i s ≡ single_effect i s
unfolding single_effect
effect_is AconstNull h s = refl
effect_is (Sipush n) h s = refl
effect_is (Load kind j) h s = refl
effect_is (Store kind j) h s = refl
effect_is Pop h s = refl
effect_is Dup h s = refl
effect_is (Arithmetic o) h s = refl
effect_is (Getfield c n t) h s = refl
effect_is (Putfield c n t) h s = refl
effect_is (Invokevirtual c m) h s = effect-call c s m h
effect_is (New c) h s = refl
effect_is (Branch c p) h s = refl
effect_is (Return kind) h s = refl

pub effect-before : (version : ℕ) → Before version → (code : List ℕ) (p : ℕ) (i : Decoded) → decode version code p ≡ some i → (s : TypeState) → effect i.instruction s ≡ single_effect i.instruction s
effect-before version h code p i e s = effect_is i.instruction (holds_at (λ j. SingleIn j.instruction) (decode version code p) i (decode-single version code p h) e) s

-- the types at point 0 of a method of such a file

single-at : (ms : List Method) → Singles ms → (m : Method) → Memᴰ m ms → Single m.signature
single-at [] h m never = elim never [ ]
single-at (x ∷ ms) h m (Memᴰ.head z) = rw z h.0
single-at (x ∷ ms) h m (Memᴰ.tail t) = single-at ms h.1 m t

abbrev pub single_entry_types : Class → Method → TypeState
single_entry_types k m = single_entry k (argument_of m.signature.arguments)

entry-is : (k : Class) (m : Method) → Single m.signature → entry_types k m ≡ single_entry_types k m
unfolding argument_of
entry-is k m h = single-entry k m h.0 h.1 ∙ rw h.1 refl

-- The walk, over code as it was decoded, with effects as they were

module _ (version : ℕ) (code : List ℕ) (maps : List Map) (result : ℕ) where
  -- the instruction at point p, where the types are s
  unfoldable pub single_turn : ℕ → TypeState → Option Turn
  single_turn p s = single_decode version code p >>= λ i. elim (return_kind i.instruction) [
    | some kind ↦ returns kind result s >>= λ ns. start_at version code maps result (p + i.size) >>= λ o. some (record { notes = ns; next = o })
    | none ↦ single_effect i.instruction s >>= λ f. after version code maps result i.instruction (p + i.size) f
  ]

  -- the notes of the code from point p on
  unfoldable pub single_verify : ℕ → ℕ → List Map → TypeState → Option (List Note)
  single_verify zero p left s = none
  single_verify (suc k) p left s = maps_past version code maps result p left >>= λ more. single_turn p s >>= λ t. elim t.next [
    | finished ↦ need (leb (length more) 0) >>= λ _. some t.notes
    | onto q u ↦ single_verify k q more u >>= λ ns. some (t.notes ++ ns)
  ]

  -- the types at the point q
  unfoldable pub single_types_at : ℕ → ℕ → List Map → TypeState → ℕ → Option TypeState
  single_types_at zero p left s q = none
  single_types_at (suc k) p left s q = maps_past version code maps result p left >>= λ more. elim (eqb p q) [
    | true ↦ some s
    | false ↦ single_turn p s >>= λ t. elim t.next [ finished ↦ none | onto r u ↦ single_types_at k r more u q ]
  ]

  -- word 15
  unfoldable pub single_unmapped_from : ℕ → ℕ → Bool → Bool
  single_unmapped_from zero p wants = false
  single_unmapped_from (suc k) p wants = elim (single_decode version code p) [
    | none ↦ false
    | some i ↦ (wants && is_none (map_at maps p)) || any (λ q. is_none (map_at maps q)) (to_list (target i.instruction)) || single_unmapped_from k (p + i.size) (not (goes_on i.instruction))
  ]

  module _ (h : Before version) where
    turn-before : (p : ℕ) (s : TypeState) → turn version code maps result p s ≡ single_turn p s
    unfolding turn single_turn
    turn-before p s = rw (sym (single-decode version code p h)) (go (decode version code p) (decode-single version code p h))
      where
        go : (x : Option Decoded) → Holds x (λ i. SingleIn i.instruction) → ◌≡◌ {A = Option Turn}
            (x >>= λ i. elim (return_kind i.instruction) as (λ _. Option Turn) [
              | some kind ↦ returns kind result s >>= λ ns. start_at version code maps result (p + i.size) >>= λ o. some (record { notes = ns; next = o })
              | none ↦ effect i.instruction s >>= λ f. after version code maps result i.instruction (p + i.size) f
            ])
            (x >>= λ i. elim (return_kind i.instruction) as (λ _. Option Turn) [
              | some kind ↦ returns kind result s >>= λ ns. start_at version code maps result (p + i.size) >>= λ o. some (record { notes = ns; next = o })
              | none ↦ single_effect i.instruction s >>= λ f. after version code maps result i.instruction (p + i.size) f
            ])
        go none k = unfold ◌>>=◌ in refl
        go (some i) k = unfold ◌>>=◌ in λ j. elim (return_kind i.instruction) as (λ _. Option Turn) [
          | some kind ↦ returns kind result s >>= λ ns. start_at version code maps result (p + i.size) >>= λ o. some (record { notes = ns; next = o })
          | none ↦ effect_is i.instruction k s j >>= λ f. after version code maps result i.instruction (p + i.size) f
        ]

    verify-before : (n p : ℕ) (left : List Map) (s : TypeState) → verify version code maps result n p left s ≡ single_verify n p left s
    unfolding verify single_verify
    verify-before zero p left s = refl
    verify-before (suc n) p left s = λ i. ◌>>=◌ {B = List Note} (maps_past version code maps result p left) (λ more. turn-before p s i >>= λ t. elim t.next as (λ _. Option (List Note)) [
      | finished ↦ need (leb (length more) 0) >>= λ _. some t.notes
      | onto q u ↦ verify-before n q more u i >>= λ ns. some (t.notes ++ ns)
    ])

    types-at-before : (n p : ℕ) (left : List Map) (s : TypeState) (q : ℕ) → types_at version code maps result n p left s q ≡ single_types_at n p left s q
    unfolding types_at single_types_at
    types-at-before zero p left s q = refl
    types-at-before (suc n) p left s q = λ i. ◌>>=◌ {B = TypeState} (maps_past version code maps result p left) (λ more. elim (eqb p q) as (λ _. Option TypeState) [
      | true ↦ some s
      | false ↦ turn-before p s i >>= λ t. elim t.next as (λ _. Option TypeState) [ finished ↦ none | onto r u ↦ types-at-before n r more u q i ]
    ])

    unmapped-from-before : (n p : ℕ) (wants : Bool) → unmapped_from version code maps result n p wants ≡ single_unmapped_from n p wants
    unfolding unmapped_from single_unmapped_from
    unmapped-from-before zero p wants = refl
    unmapped-from-before (suc n) p wants = λ j. elim (single-decode version code p h j) as (λ _. Bool) [
      | none ↦ false
      | some i ↦ (wants && is_none (map_at maps p)) || any (λ q. is_none (map_at maps q)) (to_list (target i.instruction)) || unmapped-from-before n (p + i.size) (not (goes_on i.instruction)) j
    ]

-- What was said of a method

unfoldable pub single_notes_of_method : Class → Method → Option (List Note)
single_notes_of_method k m =
    flow_into k.version m.code m.maps m.signature.result 0 (single_entry_types k m) >>= λ f.
    single_verify k.version m.code m.maps m.signature.result (length m.code) 0 m.maps f.types >>= λ ns. some (f.notes ++ ns)

unfoldable pub single_types_in : Class → Method → ℕ → Option TypeState
single_types_in k m q =
    flow_into k.version m.code m.maps m.signature.result 0 (single_entry_types k m) >>= λ f.
    single_types_at k.version m.code m.maps m.signature.result (length m.code) 0 m.maps f.types q

unfoldable pub single_unmapped : Class → Method → Bool
single_unmapped k m = leb version_two k.version && single_unmapped_from k.version m.code m.maps m.signature.result (length m.code) 0 false

module _ (k : Class) (h : Before k.version) (m : Method) (o : Single m.signature) where
  notes-is : notes_of_method k m ≡ single_notes_of_method k m
  unfolding notes_of_method single_notes_of_method
  notes-is = λ i. ◌>>=◌ {B = List Note} (flow_into k.version m.code m.maps m.signature.result 0 (entry-is k m o i)) (λ g.
      verify-before k.version m.code m.maps m.signature.result h (length m.code) 0 m.maps g.types i >>= λ ns. some (g.notes ++ ns))

  types-is : (q : ℕ) → types_in k m q ≡ single_types_in k m q
  unfolding types_in single_types_in
  types-is q = λ i. flow_into k.version m.code m.maps m.signature.result 0 (entry-is k m o i) >>= λ g.
      types-at-before k.version m.code m.maps m.signature.result h (length m.code) 0 m.maps g.types q i

  unmapped-is : unmapped k m ≡ single_unmapped k m
  unfolding unmapped single_unmapped
  unmapped-is = ap (λ (b : Bool). leb version_two k.version && b) (unmapped-from-before k.version m.code m.maps m.signature.result h (length m.code) 0 false)

-- a method of a file that is read, of a version before 3, under any loader
module _ (l : ℕ) (bs : List ℕ) (f : File) (e : read_file bs ≡ some f) (h : Before f.version) (m : Method) (t : Memᴰ m f.methods) where
  m-single : Single m.signature
  m-single = single-at f.methods (read-single bs f e h) m t

  pub entry-before : entry_types (class_of l f) m ≡ single_entry_types (class_of l f) m
  entry-before = entry-is (class_of l f) m m-single

  pub notes-before : notes_of_method (class_of l f) m ≡ single_notes_of_method (class_of l f) m
  notes-before = notes-is (class_of l f) h m m-single

  pub types-before : (q : ℕ) → types_in (class_of l f) m q ≡ single_types_in (class_of l f) m q
  types-before = types-is (class_of l f) h m m-single

  pub unmapped-before : unmapped (class_of l f) m ≡ single_unmapped (class_of l f) m
  unmapped-before = unmapped-is (class_of l f) h m m-single

-- Define: notes in order of method, then point; ties on argument and result for each method that overrides another

unfoldable pub single_notes_of : Class → List Method → Option (List Note)
single_notes_of k [] = some []
single_notes_of k (m ∷ ms) = single_notes_of_method k m >>= λ ns. single_notes_of k ms >>= λ rs. some (ns ++ rs)

unfoldable pub single_override_tie : Base → ℕ → ℕ → List Tie → Signature → List Tie
single_override_tie b l p ts s = elim (selected b s p) [ none ↦ [] | some y ↦ new_ties ts l (loader_of b y.class) (argument_of s.arguments ∷ s.result ∷ []) ]

unfoldable pub single_override_ties : Base → ℕ → ℕ → List Tie → List Method → List Tie
single_override_ties b l p ts [] = []
single_override_ties b l p ts (m ∷ ms) = let us = single_override_tie b l p ts m.signature in us ++ single_override_ties b l p (ts ++ us) ms

-- define, of a file that was read as the class k; `room` is whether its bytes can be kept. Refusals: 15 6 4 5 10 9
unfoldable pub single_define : Bool → Class → World → Answers.Result World
single_define room k w =
    Answers.◌>>=◌ (Answers.need (not (any (single_unmapped k) k.methods)) (Word word_unmapped)) (λ _.
    Answers.◌>>=◌ (Answers.take? (single_notes_of k k.methods) (Word word_unverified)) (λ ns.
    Answers.◌>>=◌ (Answers.need (is_none (find w.base.cache (at k.loader k.name))) (Word word_taken)) (λ _.
    Answers.◌>>=◌ (Answers.take? (find w.base.cache (at k.loader k.super)) (Answers.wanted (at k.loader k.super))) (λ p.
    (let us = single_override_ties w.base k.loader p w.ties k.methods in
    let ss = new_subtypes w.subtypes k.loader ns in
    Answers.◌>>=◌ (Answers.need (every
    (room
    ∷ ltb (length w.base.classes) class_limit
    ∷ ltb (length w.base.cache) cache_limit
    ∷ leb (length (w.ties ++ us)) tie_limit
    ∷ leb (length (w.subtypes ++ ss)) subtype_limit
    ∷ leb (length (slots w.base p) + length k.fields) field_limit
    ∷ [])) (Word word_full)) (λ _.
    Answers.◌>>=◌ (Answers.need (agrees (with_class w k us ss)) (Word word_clash)) (λ _. Answers.ok (with_class w k us ss))))))))

all-notes-are : (k : Class) → Before k.version → (ms : List Method) → Singles ms → notes_of k ms ≡ single_notes_of k ms
unfolding notes_of single_notes_of
all-notes-are k h [] o = refl
all-notes-are k h (m ∷ ms) o = λ i. ◌>>=◌ {B = List Note} (notes-is k h m o.0 i) (λ ns. all-notes-are k h ms o.1 i >>= λ rs. some (ns ++ rs))

any-unmapped-is : (k : Class) → Before k.version → (ms : List Method) → Singles ms → any (unmapped k) ms ≡ any (single_unmapped k) ms
unfolding any
any-unmapped-is k h [] o = refl
any-unmapped-is k h (m ∷ ms) o = λ i. elim (unmapped-is k h m o.0 i) as (λ _. Bool) [ true ↦ true | false ↦ any-unmapped-is k h ms o.1 i ]

override-is : (b : Base) (l p : ℕ) (ts : List Tie) (s : Signature) → Single s → override_tie b l p ts s ≡ single_override_tie b l p ts s
unfolding override_tie single_override_tie signature_ties argument_of
override-is b l p ts = by-single (λ s. override_tie b l p ts s ≡ single_override_tie b l p ts s) (λ n a r. refl)

overrides-are : (b : Base) (l p : ℕ) (ts : List Tie) (ms : List Method) → Singles ms → override_ties b l p ts ms ≡ single_override_ties b l p ts ms
unfolding override_ties single_override_ties
overrides-are b l p ts [] o = refl
overrides-are b l p ts (m ∷ ms) o =
    ap (λ (us : List Tie). us ++ override_ties b l p (ts ++ us) ms) (override-is b l p ts m.signature o.0)
    ∙ ap (λ (vs : List Tie). single_override_tie b l p ts m.signature ++ vs) (overrides-are b l p (ts ++ single_override_tie b l p ts m.signature) ms o.1)

define-is : (room : Bool) (k : Class) (w : World) → Before k.version → Singles k.methods → define room k w ≡ single_define room k w
unfolding define single_define
define-is room k w h o = λ i.
    Answers.◌>>=◌ {B = World} (Answers.need (not (any-unmapped-is k h k.methods o i)) (Word word_unmapped)) (λ _.
    Answers.◌>>=◌ (Answers.take? (all-notes-are k h k.methods o i) (Word word_unverified)) (λ ns.
    Answers.◌>>=◌ (Answers.need (is_none (find w.base.cache (at k.loader k.name))) (Word word_taken)) (λ _.
    Answers.◌>>=◌ (Answers.take? (find w.base.cache (at k.loader k.super)) (Answers.wanted (at k.loader k.super))) (λ p.
    (let us = overrides-are w.base k.loader p w.ties k.methods o i in
    let ss = new_subtypes w.subtypes k.loader ns in
    Answers.◌>>=◌ (Answers.need (every
    (room
    ∷ ltb (length w.base.classes) class_limit
    ∷ ltb (length w.base.cache) cache_limit
    ∷ leb (length (w.ties ++ us)) tie_limit
    ∷ leb (length (w.subtypes ++ ss)) subtype_limit
    ∷ leb (length (slots w.base p) + length k.fields) field_limit
    ∷ [])) (Word word_full)) (λ _.
    Answers.◌>>=◌ (Answers.need (agrees (with_class w k us ss)) (Word word_clash)) (λ _. Answers.ok (with_class w k us ss))))))))

pub define-before : (l : ℕ) (bs : List ℕ) (f : File) → read_file bs ≡ some f → Before f.version → (room : Bool) (w : World) → define room (class_of l f) w ≡ single_define room (class_of l f) w
define-before l bs f e h room w = define-is room (class_of l f) w h (read-single bs f e h)

-- The desk's number, of any bytes that don't begin with version 3

unfoldable pub single_desk_number : List ℕ → ℕ
single_desk_number bs = elim (single_read_file bs) [
  | none ↦ word_file
  | some f ↦ elim (any (single_unmapped (class_of 0 f)) f.methods) [
    | true ↦ word_unmapped
    | false ↦ elim (single_notes_of (class_of 0 f) f.methods) [ none ↦ word_unverified | some _ ↦ 0 ]
  ]
]

pub desk-before : (bs : List ℕ) → third_file bs ≡ false → desk_number bs ≡ single_desk_number bs
unfolding desk_number single_desk_number verifier_number
desk-before bs h = go (read_file bs) refl ∙ ap answered (single-read bs h)
  where
    numbered : Bool → Option (List Note) → ℕ
    numbered t o = elim t as (λ _. ℕ) [ true ↦ word_unmapped | false ↦ elim o as (λ _. ℕ) [ none ↦ word_unverified | some _ ↦ 0 ] ]

    answered : Option File → ℕ
    answered x = elim x as (λ _. ℕ) [ none ↦ word_file | some f ↦ numbered (any (single_unmapped (class_of 0 f)) f.methods) (single_notes_of (class_of 0 f) f.methods) ]

    go : (x : Option File) → read_file bs ≡ x
        → ◌≡◌ {A = ℕ} (elim x as (λ _. ℕ) [ none ↦ word_file | some f ↦ numbered (any (unmapped (class_of 0 f)) f.methods) (notes_of (class_of 0 f) f.methods) ]) (answered x)
    go none e = refl
    go (some f) e =
        let v = version-before bs f h e in
        let o = read-single bs f e v in
        λ i. numbered (any-unmapped-is (class_of 0 f) v f.methods o i) (all-notes-are (class_of 0 f) v f.methods o i)

-- A step of a frame of such a class

module _ (task : ℕ) (w : World) (os : Objects) (f : Frame) (fs : List Frame) where
  -- an instruction, its call as it was
  unfoldable pub single_execute : Class → Decoded → Instruction → Answers.Result Progress
  single_execute k i (Invokevirtual c s) =
      Answers.◌>>=◌ (Answers.take? (find w.base.cache (at k.loader c)) (Answers.wanted (at k.loader c))) (λ e.
      Answers.◌>>=◌ (Answers.take? (selected w.base s e) (Word word_absent)) (λ d.
      Answers.◌>>=◌ (post w (ltb (suc (length fs)) frame_limit) (new_ties w.ties (loader_of w.base d.class) k.loader (argument_of s.arguments ∷ s.result ∷ []))) (λ w'.
      Answers.◌>>=◌ (pop! f.operands) (λ p. Answers.◌>>=◌ (pop! p.more) (λ q. Answers.◌>>=◌ (kind! (argument_of s.arguments) p.top) (λ _.
      Answers.◌>>=◌ (object! w.base os e q.top) (λ o. Answers.◌>>=◌ (Answers.take? (selected w.base s o.object.class) (Word word_stuck)) (λ m.
      Answers.ok (record { world = w'; objects = os; frames = single_frame m.class m.place o.number p.top ∷ past f i q.more f.locals ∷ fs; result = none })))))))))
  single_execute k i AconstNull = execute task w os f fs k i AconstNull
  single_execute k i (Sipush n) = execute task w os f fs k i (Sipush n)
  single_execute k i (Load kind j) = execute task w os f fs k i (Load kind j)
  single_execute k i (Store kind j) = execute task w os f fs k i (Store kind j)
  single_execute k i Pop = execute task w os f fs k i Pop
  single_execute k i Dup = execute task w os f fs k i Dup
  single_execute k i (Arithmetic o) = execute task w os f fs k i (Arithmetic o)
  single_execute k i (Getfield c n t) = execute task w os f fs k i (Getfield c n t)
  single_execute k i (Putfield c n t) = execute task w os f fs k i (Putfield c n t)
  single_execute k i (New c) = execute task w os f fs k i (New c)
  single_execute k i (Branch c p) = execute task w os f fs k i (Branch c p)
  single_execute k i (Return kind) = execute task w os f fs k i (Return kind)

  execute-call : (k : Class) (i : Decoded) (c : ℕ) (s : Signature) → Single s → execute task w os f fs k i (Invokevirtual c s) ≡ single_execute k i (Invokevirtual c s)
  unfolding single_execute argument_of signature_ties
  execute-call k i c = by-single (λ s. execute task w os f fs k i (Invokevirtual c s) ≡ single_execute k i (Invokevirtual c s)) (λ n a r. single-call task w os f fs k i c n a r)

  execute-is : (k : Class) (d : Decoded) (i : Instruction) → SingleIn i → execute task w os f fs k d i ≡ single_execute k d i
  unfolding single_execute
  execute-is k d AconstNull h = refl
  execute-is k d (Sipush n) h = refl
  execute-is k d (Load kind j) h = refl
  execute-is k d (Store kind j) h = refl
  execute-is k d Pop h = refl
  execute-is k d Dup h = refl
  execute-is k d (Arithmetic o) h = refl
  execute-is k d (Getfield c n t) h = refl
  execute-is k d (Putfield c n t) h = refl
  execute-is k d (Invokevirtual c s) h = execute-call k d c s h
  execute-is k d (New c) h = refl
  execute-is k d (Branch c p) h = refl
  execute-is k d (Return kind) h = refl

  unfoldable pub single_now : Answers.Result Now
  single_now =
      Answers.◌>>=◌ (Answers.take? (get_elem? w.base.classes f.class) (Word word_stuck)) (λ k. Answers.◌>>=◌ (Answers.take? (get_elem? k.methods f.method) (Word word_stuck)) (λ m.
      Answers.◌>>=◌ (Answers.take? (single_decode k.version m.code f.point) (Word word_stuck)) (λ i. Answers.ok (record { the_class = k; method = m; at = i }))))

  unfoldable pub single_step : Answers.Result Progress
  single_step = Answers.◌>>=◌ single_now (λ n. single_execute n.the_class n.at n.at.instruction)

  module _ (h : (k : Class) → get_elem? w.base.classes f.class ≡ some k → Before k.version) where
    now-before : now w f ≡ single_now
    unfolding now single_now
    now-before = go (get_elem? w.base.classes f.class) refl
      where
        go : (x : Option Class) → get_elem? w.base.classes f.class ≡ x → ◌≡◌ {A = Answers.Result Now}
            (Answers.◌>>=◌ (Answers.take? x (Word word_stuck)) (λ k. Answers.◌>>=◌ (Answers.take? (get_elem? k.methods f.method) (Word word_stuck)) (λ m.
            Answers.◌>>=◌ (Answers.take? (decode k.version m.code f.point) (Word word_stuck)) (λ i. Answers.ok (record { the_class = k; method = m; at = i })))))
            (Answers.◌>>=◌ (Answers.take? x (Word word_stuck)) (λ k. Answers.◌>>=◌ (Answers.take? (get_elem? k.methods f.method) (Word word_stuck)) (λ m.
            Answers.◌>>=◌ (Answers.take? (single_decode k.version m.code f.point) (Word word_stuck)) (λ i. Answers.ok (record { the_class = k; method = m; at = i })))))
        go none e = unfold Answers.take? Answers.◌>>=◌ in refl
        go (some k) e = unfold Answers.take? Answers.◌>>=◌ in λ j. Answers.◌>>=◌ {B = Now} (Answers.take? (get_elem? k.methods f.method) (Word word_stuck)) (λ m.
            Answers.◌>>=◌ (Answers.take? (single-decode k.version m.code f.point (h k e) j) (Word word_stuck)) (λ i. Answers.ok (record { the_class = k; method = m; at = i })))

    now-is : (n : Now) → now w f ≡ Answers.ok n → SingleIn n.at.instruction
    unfolding now
    now-is n e =
        let a = bind_ok _ _ e in
        let b = bind_ok _ _ a.2 in
        let c = bind_ok _ _ b.2 in
        rw (sym (ap (λ (y : Now). y.at) (ok-inj c.2))) (holds_at (λ i. SingleIn i.instruction) (decode a.0.version b.0.code f.point) c.0
        (decode-single a.0.version b.0.code f.point (h a.0 (take-ok _ _ a.1))) (take-ok _ _ c.1))

    pub step-before : step task w os f fs ≡ single_step
    unfolding step single_step
    step-before = rw (sym now-before) (go (now w f) refl)
      where
        go : (x : Answers.Result Now) → now w f ≡ x → Answers.◌>>=◌ x (λ n. execute task w os f fs n.the_class n.at n.at.instruction) ≡ Answers.◌>>=◌ x (λ n. single_execute n.the_class n.at n.at.instruction)
        go (Answers.refused v) e = unfold Answers.◌>>=◌ in refl
        go (Answers.ok n) e = unfold Answers.◌>>=◌ in execute-is n.the_class n.at n.at.instruction (now-is n e)
