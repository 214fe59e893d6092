-- One turn, by what is found: whether the next point and the target have maps, and what the instruction leaves.
use mathlib.Core.Path.{◌≡◌, refl, sym, ap, ◌∙◌}
use mathlib.Core.Bool.{Bool, true, false, ◌&&◌}
use mathlib.Core.Option.{Option, none, some}
use mathlib.Core.List.{List, ◌++◌}
use mathlib.Core.Logic.{◌≢◌}
use Prim.Native.Nat.{ℕ, ◌+◌, ◌≤◌}
use lib.ListN.{length}
use lib.Dec.{eqb}
use borrow.Author.Tests.{eq-eqb, ne_eqb}
use Rattle.definition.specs.declared.Instruction.{Instruction}
use Rattle.definition.specs.Instructions.{decode, pick}
use Rattle.definition.specs.Classes.{Map}
use Rattle.definition.specs.Verifier.{Note, TypeState, Flow, map_at, map_types, target, goes_on}
use Rattle.classfile.specs.Reading.{map_depth, map_of, maps_of}
use Rattle.rows.specs.Posting.{Noted, post_notes}
use Rattle.rows.specs.Laws.{post-append}
use Rattle.verifier.specs.declared.types.Types.{Types}
use Rattle.verifier.specs.declared.changes.Change.{Change}
use Rattle.verifier.specs.Types.{types_of}
use Rattle.std.specs.Prelude as P
use Rattle.verifier.specs.Lookups.{map_found}
use Rattle.verifier.specs.declared.decoding.Reading.{Reading}
use Rattle.verifier.specs.Decoding.{reading_of, decoded_of}
use Rattle.verifier.specs.Effects.{Outcome, outcome, left_by, leaves}
use Rattle.verifier.specs.Trace.{Trace, refusing, values_trace, fits, meet_trace, Onward, refused, accepted, onto, Turned, bound, once, target_trace, into_turn, start_turn, next_turn, flowing, turned_to, turned, turned_by, Verification, verification, posting, Turning, turning, taking}
use Rattle.verifier.specs.Answers.{made, change_of}
use Rattle.verifier.proofs.DecodingLaws.{decode_is, decode-at}
use Rattle.verifier.proofs.PostingLaws.{taking-once-on}
use Rattle.verifier.proofs.FlowLaws.{fits-few}

-- a map that is met has at most 16 operands
pub met-few : (s : Types) (ms : List ℕ) (p l : ℕ) (k j : Noted) (a : Bool) → verification a j ≡ posting l (meet_trace (types_of s) (map_of ms p)) k → a ≡ true → map_depth ms p ≤ 16
unfolding posting meet_trace pick
met-few s ms p l k j a e h = fits-few s ms p (go (fits (map_of ms p)) _ (sym (ap (λ (v : Verification). v.accepts) e) ∙ h))
  where
    go : (b : Bool) (t : Trace) → (pick (b && eqb (length (types_of s).operands) (length (map_of ms p).operands)) t refusing).accepts ≡ true → b ≡ true
    go true t q = refl
    go false t q = q

module _ (ms : List ℕ) (n q : ℕ) (o : P.Option ℕ) (e : map_found ms o ≡ map_at (maps_of ms) q) where
  none-there : o ≡ P.None → map_at (maps_of ms) q ≡ none
  unfolding map_found
  none-there h = sym e ∙ rw h refl

  map-there : (r : ℕ) → o ≡ P.Some r → map_at (maps_of ms) q ≡ some (map_of ms r)
  unfolding map_found
  map-there r h = sym e ∙ rw h refl

  module _ (h : o ≡ P.None) where
    pub into-bare : (s : TypeState) → into_turn n (maps_of ms) q s ≡ bound (onto q s)
    unfolding into_turn
    into-bare s = rw (none-there h, into_turn) refl

    pub target-bare : (t : Option ℕ) (x : ℕ) (s : TypeState) → t ≡ some x → q ≡ x → target_trace n (maps_of ms) t s ≡ refusing
    unfolding target_trace
    target-bare t x s d f = rw (d, ← f, target_trace, none-there h) refl

    pub start-bare : q ≢ n → start_turn n (maps_of ms) q ≡ bound refused
    unfolding start_turn pick
    start-bare d = rw (ne_eqb q n d, none-there h, start_turn) refl

  module _ (r : ℕ) (h : o ≡ P.Some r) where
    pub into-mapped : (s : TypeState) → into_turn n (maps_of ms) q s ≡ once (meet_trace s (map_of ms r)) (bound (onto q (map_types (map_of ms r))))
    unfolding into_turn
    into-mapped s = rw (map-there r h, into_turn) refl

    pub target-mapped : (t : Option ℕ) (x : ℕ) (s : TypeState) → t ≡ some x → q ≡ x → target_trace n (maps_of ms) t s ≡ meet_trace s (map_of ms r)
    unfolding target_trace
    target-mapped t x s d f = rw (d, ← f, target_trace, map-there r h) refl

    pub start-unfit : q ≢ n → fits (map_of ms r) ≡ false → start_turn n (maps_of ms) q ≡ bound refused
    unfolding start_turn pick
    start-unfit d f = rw (ne_eqb q n d, map-there r h, start_turn, f) refl

    pub start-mapped : q ≢ n → fits (map_of ms r) ≡ true → start_turn n (maps_of ms) q ≡ bound (onto q (map_types (map_of ms r)))
    unfolding start_turn pick
    start-mapped d f = rw (ne_eqb q n d, map-there r h, start_turn, f) refl

pub start-end : (n : ℕ) (maps : List Map) (q : ℕ) → q ≡ n → start_turn n maps q ≡ bound accepted
unfolding start_turn pick
start-end n maps q e = rw (eq-eqb q n e) refl

-- a turn without notes leaves the rows as they are
pub taken-bound : (l : ℕ) (t : Turned) (o : Onward) (k : Noted) → t ≡ bound o → turning o k ≡ taking l t k
unfolding taking post_notes
taken-bound l t o k e = rw e refl

pub taken-stop : (l : ℕ) (t : Turned) (k : Noted) (r : Turning) → t ≡ bound refused → r ≡ turning refused k → r ≡ taking l t k
taken-stop l t k r e h = h ∙ taken-bound l t refused k e

-- The flows of an instruction: into its target, then into the next point

module _ (n : ℕ) (maps : List Map) (i : Instruction) (q : ℕ) (s : TypeState) where
  pub flow-parts : flowing n maps i q s ≡ once (target_trace n maps (target i) s) (next_turn n maps (goes_on i) q s)
  unfolding flowing
  flow-parts = refl

  pub flow-on : (b : Bool) → b ≡ goes_on i → b ≡ true → flowing n maps i q s ≡ once (target_trace n maps (target i) s) (into_turn n maps q s)
  unfolding next_turn
  flow-on b g h = flow-parts ∙ rw (sym g ∙ h) refl

  pub flow-ends : (b : Bool) → b ≡ goes_on i → b ≡ false → flowing n maps i q s ≡ once (target_trace n maps (target i) s) (start_turn n maps q)
  unfolding next_turn
  flow-ends b g h = flow-parts ∙ rw (sym g ∙ h) refl

-- What an instruction leaves: its own notes, then the flows

module _ (n : ℕ) (maps : List Map) (i : Instruction) (q : ℕ) (c : Change) where
  abbrev values : Trace
  values = values_trace c.types.operands c.place c.names

  -- the receiver's note is posted, then those of the values
  pub change-fits : (l : ℕ) (k a b : Noted) → a ≡ post_notes l (made c.receiver) k → b ≡ post_notes l values.notes a
      → (r : Turning) → r ≡ taking l (flowing n maps i q (types_of c.types)) b → r ≡ taking l (turned_to n maps i q (change_of (P.Some c))) k
  unfolding turned_to change_of posting
  change-fits l k a b ea eb r h =
      let own : List Note = made c.receiver ++ values.notes in
      let rest : Turned = flowing n maps i q (types_of c.types) in
      let both : post_notes l own k ≡ b = post-append l (made c.receiver) values.notes k ∙ (ap (post_notes l values.notes) (sym ea) ∙ sym eb) in
      h ∙ sym (taking-once-on l (record { notes = own; accepts = true }) k rest refl ∙ ap (taking l rest) both)

-- The whole turn, by what decoding answers

module _ (version : ℕ) (code : List ℕ) (maps : List Map) (result p : ℕ) (s : TypeState) (r : P.Option Reading) (e : r ≡ reading_of (decode version code p)) where
  pub turned_none : r ≡ P.None → turned version code maps result p s ≡ bound refused
  unfolding turned turned_by decoded_of
  turned_none h = rw (decode_is (decode version code p) r e, h)

  pub turned-at : (m : Reading) → r ≡ P.Some m → (o : Outcome) → o ≡ outcome m.instruction result s → (f : Option Flow) → f ≡ left_by s o
      → turned version code maps result p s ≡ turned_to (length code) maps m.instruction (p + m.size) f
  unfolding turned turned_by leaves
  turned-at m h o eo f ef = rw (decode-at version code p r e m h, ef, eo) refl

pub taken-same : (l : ℕ) (t u : Turned) (k : Noted) (r : Turning) → u ≡ t → r ≡ taking l t k → r ≡ taking l u k
taken-same l t u k r e h = rw e h
