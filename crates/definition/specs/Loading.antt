-- Loading and starting, on classes: define, record, start.
use Rattle.std.specs.Prelude.{Bool, true, false, not, ◌&&◌, List, [], ◌∷◌, ◌++◌, ℕ, ◌+◌, length, eqb, leb, ltb}
use Rattle.std.proofs.Math.Option.{none, some}
use Rattle.std.proofs.Math.ListN.{get_elem?}
use Rattle.definition.specs.Numbers.{word_unknown, word_taken, word_unverified, word_absent, word_clash, word_full, word_busy, word_misnamed, word_unmapped, word_share, name_object, loader_limit, class_limit, cache_limit, tie_limit, subtype_limit, field_limit}
use Rattle.definition.specs.Lists.{every, any, is_none}
use Rattle.definition.specs.Requests.{Request, at}
use Rattle.definition.specs.Classes.{Base, Signature, Class, Method, find, loader_of, slots, selected, start_signature}
use Rattle.definition.specs.Constraints.{Tie, Subtype, World, agrees, signature_ties}
use Rattle.definition.specs.Verifier.{Note, unmapped, notes_of}
use Rattle.definition.specs.Machine.{int_value, Frame, Objects, unused, made, roomless, share_used, new_object, entry_frame, Progress}
use Rattle.definition.specs.Answers.{Word, wanted, Result, ok, ◌>>=◌, need, take?}

-- The verifier's notes as subtype constraints under a loader, those that are not there yet

unfoldable pub subtype_is : ℕ → Note → Subtype → Bool
subtype_is l n s = eqb s.loader l && eqb s.low n.low && eqb s.high n.high

abbrev pub subtype_of : ℕ → Note → Subtype
subtype_of l n = record { loader = l; low = n.low; high = n.high }

unfoldable pub new_subtypes : List Subtype → ℕ → List Note → List Subtype
new_subtypes ss l [] = []
new_subtypes ss l (n ∷ ns) = elim (any (subtype_is l n) ss) [
  | true ↦ new_subtypes ss l ns
  | false ↦ subtype_of l n ∷ new_subtypes (ss ++ (subtype_of l n ∷ [])) l ns
]

-- For each method, ties on each argument and the result between its loader l and that of the nearest superclass with a method alike, from p upward

unfoldable pub override_tie : Base → ℕ → ℕ → List Tie → Signature → List Tie
override_tie b l p ts s = elim (selected b s p) [ none ↦ [] | some y ↦ signature_ties ts l (loader_of b y.class) s ]

unfoldable pub override_ties : Base → ℕ → ℕ → List Tie → List Method → List Tie
override_ties b l p ts [] = []
override_ties b l p ts (m ∷ ms) = let us = override_tie b l p ts m.signature in us ++ override_ties b l p (ts ++ us) ms

-- one class more, cached under its own request, with the constraints it posts
abbrev pub with_class : World → Class → List Tie → List Subtype → World
with_class w k us ss = record {
  base = record {
    classes = w.base.classes ++ (k ∷ []);
    cache = w.base.cache ++ (record { request = at k.loader k.name; class = length w.base.classes } ∷ []);
  };
  ties = w.ties ++ us;
  subtypes = w.subtypes ++ ss;
}

abbrev pub with_entry : World → Request → ℕ → World
with_entry w r c = record {
  base = record { classes = w.base.classes; cache = w.base.cache ++ (record { request = r; class = c } ∷ []) };
  ties = w.ties;
  subtypes = w.subtypes;
}

-- define, of a file that was read as the class k; `room` is whether its bytes can be kept. Refusals: 15 6 4 5 10 9
unfoldable pub define : Bool → Class → World → Result World
define room k w =
    need (not (any (unmapped k) k.methods)) (Word word_unmapped) >>= λ _.
    take? (notes_of k k.methods) (Word word_unverified) >>= λ ns.
    need (is_none (find w.base.cache (at k.loader k.name))) (Word word_taken) >>= λ _.
    take? (find w.base.cache (at k.loader k.super)) (wanted (at k.loader k.super)) >>= λ p.
    (let us = override_ties w.base k.loader p w.ties k.methods in
    let ss = new_subtypes w.subtypes k.loader ns in
    need (every
    (room
    ∷ ltb (length w.base.classes) class_limit
    ∷ ltb (length w.base.cache) cache_limit
    ∷ leb (length (w.ties ++ us)) tie_limit
    ∷ leb (length (w.subtypes ++ ss)) subtype_limit
    ∷ leb (length (slots w.base p) + length k.fields) field_limit
    ∷ [])) (Word word_full) >>= λ _.
    need (agrees (with_class w k us ss)) (Word word_clash) >>= λ _. ok (with_class w k us ss))

-- record. Refusals: 3 13 4 10 9
unfoldable pub recorded : ℕ → ℕ → ℕ → World → Result World
recorded l n c w =
    need (ltb l loader_limit && leb name_object n) (Word word_unknown) >>= λ _.
    take? (get_elem? w.base.classes c) (Word word_unknown) >>= λ k.
    need (eqb k.name n) (Word word_misnamed) >>= λ _.
    elim (find w.base.cache (at l n)) [
      | some d ↦ need (eqb d c) (Word word_taken) >>= λ _. ok w
      | none ↦ need (ltb (length w.base.cache) cache_limit) (Word word_full) >>= λ _.
          need (agrees (with_entry w (at l n) c)) (Word word_clash) >>= λ _. ok (with_entry w (at l n) c)
    ]

-- start of task k: a new object and a first frame in the method selected for (m, [int], int). Refusals: 3 12 5 7 18 10
unfoldable pub started : ℕ → ℕ → ℕ → ℕ → ℕ → World → Objects → List Frame → Result Progress
started k l n m v w os fs =
    need (ltb l loader_limit && leb name_object n && leb 1 m) (Word word_unknown) >>= λ _.
    need (leb (length fs) 0) (Word word_busy) >>= λ _.
    take? (find w.base.cache (at l n)) (wanted (at l n)) >>= λ c.
    take? (selected w.base (start_signature m) c) (Word word_absent) >>= λ s.
    need (not (share_used k os)) (Word word_share) >>= λ _.
    need (not (roomless k os)) (Word word_full) >>= λ _.
    ok (record { world = w; objects = made k (new_object w.base c) os; frames = entry_frame s.class s.place (unused os) (int_value v ∷ []) ∷ []; result = none })
