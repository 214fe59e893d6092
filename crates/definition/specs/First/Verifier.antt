-- The first document's verifier, a straight walk over the code, with the effect of a call of one argument, and its define and desk, which don't ask for maps. Its define refuses a field name that a
-- superclass has, and posts the ties of one argument and a result for each method that overrides another.
use Rattle.std.specs.Prelude.{Bool, true, false, not, ◌&&◌, List, [], ◌∷◌, ◌++◌, ℕ, zero, suc, ◌+◌, length, eqb, leb, ltb}
use Rattle.std.proofs.Math.Option.{Option, none, some}
use Rattle.definition.specs.declared.Refusal.TheVariants.{Word}
use Rattle.definition.specs.declared.Instruction.{Instruction}
use Rattle.definition.specs.declared.Instruction.TheVariants.{AconstNull, Sipush, Load, Store, Pop, Dup, Arithmetic, Getfield, Putfield, Invokevirtual, New, Return, Branch}
use Rattle.definition.specs.Numbers.{word_file, word_taken, word_unverified, word_hidden, word_clash, word_full, name_object, class_limit, cache_limit, tie_limit, subtype_limit, field_limit}
use Rattle.definition.specs.Lists.{every, any, is_none}
use Rattle.definition.specs.Maybe as Maybe
use Rattle.definition.specs.Requests.{at}
use Rattle.definition.specs.Classes.{Base, Class, Field, Method, find, slots}
use Rattle.definition.specs.File.{class_of}
use Rattle.definition.specs.Constraints.{World, agrees}
use Rattle.definition.specs.Verifier.{Note, type_class, TypeState, Flow, type_of_name, meet_class, meets, pop, flow, effect, returns, return_kind}
use Rattle.definition.specs.Loading.{new_subtypes, with_class}
use Rattle.definition.specs.Answers.{wanted, Result, ok, ◌>>=◌, need, take?}
use Rattle.definition.specs.First.Signatures.{first_argument, first_is_named, first_override_ties}
use Rattle.definition.specs.First.Files.{first_read_file, first_decode}

-- point 0: local 0 the class's own name, local 1 the argument type, the rest unset
abbrev pub first_entry_types : Class → Method → TypeState
first_entry_types k m = record {
  operands = [];
  locals = some (type_class k.name) ∷ first_argument m.signature none (λ a. some (type_of_name a)) ∷ none ∷ none ∷ none ∷ none ∷ none ∷ none ∷ [];
}

-- the effect of an instruction that is no return; of a call the argument is popped, then the receiver, with the notes on the receiver before those on the argument
unfoldable pub first_effect : Instruction → TypeState → Option Flow
first_effect (Invokevirtual c m) s = first_argument m none (λ t.
    Maybe.◌>>=◌ (Maybe.need (leb name_object c && first_is_named m)) (λ _. Maybe.◌>>=◌ (pop s.operands) (λ p. Maybe.◌>>=◌ (pop p.more) (λ q.
    Maybe.◌>>=◌ (meet_class c q.top) (λ a. Maybe.◌>>=◌ (meets p.top t) (λ b. flow (type_of_name m.result ∷ q.more) s.locals (a ++ b)))))))
first_effect AconstNull s = effect AconstNull s
first_effect (Sipush n) s = effect (Sipush n) s
first_effect (Load kind i) s = effect (Load kind i) s
first_effect (Store kind i) s = effect (Store kind i) s
first_effect Pop s = effect Pop s
first_effect Dup s = effect Dup s
first_effect (Arithmetic o) s = effect (Arithmetic o) s
first_effect (Getfield c f t) s = effect (Getfield c f t) s
first_effect (Putfield c f t) s = effect (Putfield c f t) s
first_effect (New c) s = effect (New c) s
first_effect (Branch c p) s = effect (Branch c p) s
first_effect (Return kind) s = effect (Return kind) s

module _ (code : List ℕ) (result : ℕ) where
  -- the notes of the code from point p on, where the types are s; a return is the last instruction and nowhere else.
  -- Each instruction has a byte or more, so that as many steps as bytes are enough.
  unfoldable pub first_verify : ℕ → ℕ → TypeState → Option (List Note)
  first_verify zero p s = none
  first_verify (suc k) p s = Maybe.◌>>=◌ (first_decode code p) (λ i. elim (return_kind i.instruction) [
    | some kind ↦ Maybe.◌>>=◌ (Maybe.need (eqb (p + i.size) (length code))) (λ _. returns kind result s)
    | none ↦ Maybe.◌>>=◌ (first_effect i.instruction s) (λ f. Maybe.◌>>=◌ (first_verify k (p + i.size) f.types) (λ ns. some (f.notes ++ ns)))
  ])

  -- the types at the point q
  unfoldable pub first_types_at : ℕ → ℕ → TypeState → ℕ → Option TypeState
  first_types_at zero p s q = none
  first_types_at (suc k) p s q = elim (eqb p q) [
    | true ↦ some s
    | false ↦ Maybe.◌>>=◌ (first_decode code p) (λ i. Maybe.◌>>=◌ (first_effect i.instruction s) (λ f. first_types_at k (p + i.size) f.types q))
  ]

unfoldable pub first_notes_of_method : Class → Method → Option (List Note)
first_notes_of_method k m = first_verify m.code m.signature.result (length m.code) 0 (first_entry_types k m)

unfoldable pub first_types_in : Class → Method → ℕ → Option TypeState
first_types_in k m q = first_types_at m.code m.signature.result (length m.code) 0 (first_entry_types k m) q

-- notes in order of method, then point
unfoldable pub first_notes_of : Class → List Method → Option (List Note)
first_notes_of k [] = some []
first_notes_of k (m ∷ ms) = Maybe.◌>>=◌ (first_notes_of_method k m) (λ ns. Maybe.◌>>=◌ (first_notes_of k ms) (λ rs. some (ns ++ rs)))

-- a superclass has a field of that name
unfoldable pub first_hides : Base → ℕ → Field → Bool
first_hides b p f = any (λ s. eqb s.name f.name) (slots b p)

-- define, of a file that was read as the class k; `room` is whether its bytes can be kept. Refusals: 6 4 5 8 10 9
unfoldable pub first_define : Bool → Class → World → Result World
first_define room k w =
    take? (first_notes_of k k.methods) (Word word_unverified) >>= λ ns.
    need (is_none (find w.base.cache (at k.loader k.name))) (Word word_taken) >>= λ _.
    take? (find w.base.cache (at k.loader k.super)) (wanted (at k.loader k.super)) >>= λ p.
    need (not (any (first_hides w.base p) k.fields)) (Word word_hidden) >>= λ _.
    (let us = first_override_ties w.base k.loader p w.ties k.methods in
    let ss = new_subtypes w.subtypes k.loader ns in
    need (every
    (room
    ∷ ltb (length w.base.classes) class_limit
    ∷ ltb (length w.base.cache) cache_limit
    ∷ leb (length (w.ties ++ us)) tie_limit
    ∷ leb (length (w.subtypes ++ ss)) subtype_limit
    ∷ leb (length (slots w.base p) + length k.fields) field_limit
    ∷ [])) (Word word_full) >>= λ _.
    need (agrees (with_class w k us ss)) (Word word_clash) >>= λ _. ok (with_class w k us ss))

-- the desk: 0, 2 or 6
unfoldable pub first_desk_number : List ℕ → ℕ
first_desk_number bs = elim (first_read_file bs) [ none ↦ word_file | some f ↦ elim (first_notes_of (class_of 0 f) f.methods) [ none ↦ word_unverified | some _ ↦ 0 ] ]
