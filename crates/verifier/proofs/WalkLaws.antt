-- The walk, turn by turn, with its notes posted as it goes.
use mathlib.Core.Path.{◌≡◌, refl, sym, ap, subst, ◌∙◌}
use mathlib.Core.Bool.{Bool, true, false}
use mathlib.Core.Option.{Option, none, some}
use mathlib.Core.List.{List, [], ◌++◌}
use Prim.Native.Nat.{ℕ, suc, ◌-◌, ◌<◌, ◌≤◌}
use native.Mathlib.Omega.{arith}
use lib.ListN.{length}
use lib.Dec.{leb}
use Rattle.definition.specs.Instructions.{pick}
use Rattle.definition.specs.declared.Signature.{Signature}
use Rattle.definition.specs.Classes.{Map}
use Rattle.definition.specs.Verifier.{TypeState, map_at, map_types, maps_past}
use Rattle.layout.specs.Places.{rows_start}
use Rattle.classfile.specs.Reading.{map_count, map_numbered, maps_of}
use Rattle.rows.specs.Posting.{Noted, post_notes}
use Rattle.std.specs.Prelude as P
use Rattle.verifier.specs.declared.methods.Ahead.{Ahead}
use Rattle.verifier.specs.Types.{entry_of}
use Rattle.verifier.specs.Trace.{Trace, refusing, accepting, meet_trace, bound, once, into_turn, whole_trace, method_trace, Onward, refused, accepted, onto, onward, Turned, turned, proceed, trace, left_from, Verification, verification, posting, Turning, turning, taking}
use Rattle.verifier.specs.Answers.{next_of, PlaceOf, Passes}
use Rattle.verifier.proofs.PostingLaws.{posting-after}

-- before the first point all maps are left
pub left-all : (ms : List ℕ) → left_from ms 0 ≡ maps_of ms
unfolding left_from maps_of
left-all ms = rows_start (map_numbered ms) (map_count ms)

-- what passing a point answers
module _ (ms : List ℕ) (r : P.Option Ahead) where
  pub passed-inside : {o : _} → Passes ms r o → r ≡ P.None → o ≡ none
  unfolding Passes
  passed-inside h e = rw e at h

  pub passed_to : {o : _} (a : Ahead) → Passes ms r o → r ≡ P.Some a → (o ≡ some (left_from ms a.number)) × PlaceOf ms a.number a.place
  unfolding Passes
  passed_to a h e = rw e at h

-- On from a turn that leaves the rows j

module _ (version : ℕ) (code : List ℕ) (maps : List Map) (result l : ℕ) (t : Turned) (more : List Map) (next : ℕ → List Map → TypeState → Trace) (k j : Noted) (o : Onward)
    (e : turning o j ≡ taking l t k) where
  went : posting l (proceed version code maps result t more next) k
      ≡ posting l (onward o refusing (pick (leb (length more) 0) accepting refusing) (λ q u. next q more u)) j
  unfolding proceed taking
  went =
      posting-after l t.notes (onward t.next refusing (pick (leb (length more) 0) accepting refusing) (λ q u. next q more u)) k
      ∙ ap (λ (x : Turning). posting l (onward x.next refusing (pick (leb (length more) 0) accepting refusing) (λ q u. next q more u)) x.rows) (sym e)

  pub on-stop : o ≡ refused → posting l (proceed version code maps result t more next) k ≡ verification false j
  unfolding onward posting post_notes
  on-stop h = went ∙ rw h refl

  pub on-end : o ≡ accepted → posting l (proceed version code maps result t more next) k ≡ verification (leb (length more) 0) j
  unfolding onward posting post_notes pick
  on-end h = went ∙ rw h (go (leb (length more) 0))
    where
      go : (b : Bool) → posting l (pick b accepting refusing) j ≡ verification b j
      go true = refl
      go false = refl

  pub on-next : (q : ℕ) (u : TypeState) → o ≡ onto q u → posting l (proceed version code maps result t more next) k ≡ posting l (next q more u) j
  unfolding onward
  on-next q u h = went ∙ rw h refl

-- One turn of the walk, with n turns left

module _ (version : ℕ) (code : List ℕ) (maps : List Map) (result l n p : ℕ) (left : List Map) (s : TypeState) (k : Noted) where
  abbrev all : Verification
  all = posting l (trace version code maps result n p left s) k

  pub walk-out : n ≤ 0 → all ≡ verification false k
  unfolding trace posting post_notes
  walk-out h = let z : n ≡ 0 = omega arith in rw z refl

  module _ (h : 0 < n) where
    one : n ≡ suc (n - 1)
    one = omega arith

    pub walk_inside : maps_past version code maps result p left ≡ none → all ≡ verification false k
    unfolding trace posting post_notes
    walk_inside e = rw (one, trace, e) refl

    module _ (more : List Map) (e : maps_past version code maps result p left ≡ some more) (o : Onward) (j : Noted)
        (f : turning o j ≡ taking l (turned version code maps result p s) k) where
      turn-first : all ≡ posting l (proceed version code maps result (turned version code maps result p s) more (trace version code maps result (n - 1))) k
      unfolding trace
      turn-first = ap (λ (m : ℕ). posting l (trace version code maps result m p left s) k) one ∙ rw (trace, e) refl

      pub walk-stop : o ≡ refused → all ≡ verification false j
      walk-stop q = turn-first ∙ on-stop version code maps result l (turned version code maps result p s) more (trace version code maps result (n - 1)) k j o f q

      pub walk_end : o ≡ accepted → all ≡ verification (leb (length more) 0) j
      walk_end q = turn-first ∙ on-end version code maps result l (turned version code maps result p s) more (trace version code maps result (n - 1)) k j o f q

      pub walk-next : (q : ℕ) (u : TypeState) → o ≡ onto q u → all ≡ posting l (trace version code maps result (n - 1) q more u) j
      walk-next q u z = turn-first ∙ on-next version code maps result l (turned version code maps result p s) more (trace version code maps result (n - 1)) k j o f q u z

-- The flow from entry goes to point 0 or nowhere

abbrev pub Bound : ℕ → Onward → Type 0
Bound q refused = Unit {0}
Bound q accepted = ⊥
Bound q (onto r u) = r ≡ q

-- what goes on, does so at point 0
pub to-start : (t : P.Option ℕ) (u : TypeState) → Bound 0 (next_of t u) → next_of t u ≡ onto 0 u
unfolding next_of
to-start P.None u b = absurd b
to-start (P.Some q) u b = rw b refl

pub into-bound : (n : ℕ) (maps : List Map) (q : ℕ) (s : TypeState) → Bound q (into_turn n maps q s).next
unfolding into_turn once pick
into-bound n maps q s = go (map_at maps q)
  where
    met : (b : Bool) (w : Trace) (u : TypeState) → Bound q (pick {A = Turned} b (record { notes = w.notes ++ []; next = onto q u }) (record { notes = w.notes; next = refused })).next
    met true w u = refl
    met false w u = tt

    go : (m : Option Map) → Bound q (elim m as (λ _. Turned) [ none ↦ bound (onto q s) | some x ↦ once (meet_trace s x) (bound (onto q (map_types x))) ]).next
    go none = refl
    go (some x) = met (meet_trace s x).accepts (meet_trace s x) (map_types x)

module _ (version own : ℕ) (g : Signature) (code : List ℕ) (maps : List Map) (l : ℕ) (k j : Noted) (s : TypeState) (o : Onward) (z : s ≡ entry_of own g)
    (e : turning o j ≡ taking l (into_turn (length code) maps 0 s) k) where
  goes : Bound 0 o
  unfolding taking
  goes = subst (λ (x : Turning). Bound 0 x.next) (sym e) (into-bound (length code) maps 0 s)

  entered : turning o j ≡ taking l (into_turn (length code) maps 0 (entry_of own g)) k
  entered = rw z at e

  pub entry-goes : (t : P.Option ℕ) (u : TypeState) → o ≡ next_of t u → (r : Verification) → r ≡ posting l (trace version code maps g.result (length code) 0 maps u) j
      → r ≡ posting l (method_trace version own g code maps) k
  unfolding method_trace whole_trace
  entry-goes t u h r a =
      a ∙ sym (on-next version code maps g.result l (into_turn (length code) maps 0 (entry_of own g)) maps (trace version code maps g.result (length code)) k j o entered 0 u (h ∙ to-start t u (rw h at goes)))

  pub entry-stops : o ≡ refused → verification false j ≡ posting l (method_trace version own g code maps) k
  unfolding method_trace whole_trace
  entry-stops h = sym (on-stop version code maps g.result l (into_turn (length code) maps 0 (entry_of own g)) maps (trace version code maps g.result (length code)) k j o entered h)

-- the same walk from another point on
pub ran : (l : ℕ) (w v : Trace) (k : Noted) (r : Verification) → w ≡ v → posting l v k ≡ r → posting l w k ≡ r
ran l w v k r e h = rw e h
