-- The file rules by places: as tests, and as what they say.
use Rattle.std.specs.Prelude.{◌≡◌, refl, Bool, true, false, not, List, [], ◌∷◌, ℕ, zero, suc, ◌+◌, ◌≤◌, ◌<◌, length, eqb, leb}
use Rattle.std.proofs.Common.{ap, arith, leb-true, eqb-true, le-leb, eq-eqb}
use Rattle.std.proofs.lemmas.Bool.{not-true}
use Rattle.definition.specs.Lists.{every, rows, doubled}
use Rattle.definition.specs.Instructions.{pick, short_at}
use Rattle.definition.specs.Classes.{is_named}
use Rattle.definition.specs.File.{same_field, same_method}
use Rattle.layout.specs.Tests.{every_true, true-every}
use Rattle.classfile.specs.Lists.{◌and◌, each-true, true-each}
use Rattle.classfile.specs.Reading.{file_version, class_name, super_name, field_count, field_in, quick_fields, map_count, map_depth, map_end, type_at, map_place, method_count, argument_number, quick_signature, code_length, code_end, map_bytes, method_place, quick_methods}

-- The tests

-- at most 4,096 bytes, all of the fields and the byte with the method count among them; version 1, 2 or 3, the length of all that follows it
unfoldable pub sized : List ℕ → Bool
sized bs = every
    (leb (length bs) 4096
    ∷ leb (method_place bs 0) (length bs)
    ∷ leb 1 (file_version bs)
    ∷ leb (file_version bs) 3
    ∷ eqb (short_at bs 1 + 3) (length bs)
    ∷ [])

-- both class names are 2 or more, both counts at most 8
unfoldable pub titled : List ℕ → Bool
titled bs = every (leb 2 (class_name bs) ∷ leb 2 (super_name bs) ∷ leb (field_count bs) 8 ∷ leb (method_count bs) 8 ∷ [])

-- neither name nor type is 0
unfoldable pub named_field : List ℕ → ℕ → Bool
named_field bs i = every (leb 1 (field_in bs i).name ∷ leb 1 (field_in bs i).type ∷ [])

-- of the record at place p: from version 3 on it has at most four arguments
unfoldable pub listed_method : List ℕ → ℕ → Bool
listed_method bs p = pick (leb 3 (file_version bs)) (leb (argument_number bs p) 4) true

-- of the record at place p: neither name nor a type is 0
unfoldable pub named_method : List ℕ → ℕ → Bool
named_method bs p = is_named (quick_signature bs p)

-- of the record at place p: the code has 1 to 512 bytes, and they are there
unfoldable pub coded_method : List ℕ → ℕ → Bool
coded_method bs p = every (leb 1 (code_length bs p) ∷ leb (code_length bs p) 512 ∷ leb (code_end bs p) (length bs) ∷ [])

-- type i of those from place p on is not 0
unfoldable pub type_set : List ℕ → ℕ → ℕ → Bool
type_set ms p i = leb 1 (type_at ms p i)

-- the operand types of the map at place p
unfoldable pub operands_set : List ℕ → ℕ → Bool
operands_set ms p = every (rows (type_set ms (p + 19)) (map_depth ms p) 0)

-- of the map at place p: its offset is o or more, it has at most 16 operands, it is there, and no operand type is 0
unfoldable pub whole_map : List ℕ → ℕ → ℕ → Bool
whole_map ms o p = every (leb o (short_at ms p) ∷ leb (map_depth ms p) 16 ∷ leb (map_end ms p) (length ms) ∷ operands_set ms p ∷ [])

-- the least offset that map i may have: it is past that of the map before
unfoldable pub least_offset : List ℕ → ℕ → ℕ
least_offset ms zero = 0
least_offset ms (suc i) = suc (short_at ms (map_place ms i))

unfoldable pub whole_map_in : List ℕ → ℕ → Bool
whole_map_in ms i = whole_map ms (least_offset ms i) (map_place ms i)

-- the byte with the count of maps is there, and every map
unfoldable pub whole_maps : List ℕ → Bool
whole_maps ms = every (leb 1 (length ms) ∷ every (rows (whole_map_in ms) (map_count ms) 0) ∷ [])

-- of the record at place p: its maps, from version 2 on
unfoldable pub mapped_method : List ℕ → ℕ → Bool
mapped_method bs p = pick (leb 2 (file_version bs)) (whole_maps (map_bytes bs p)) true

unfoldable pub whole_method : List ℕ → ℕ → Bool
whole_method bs p = every (listed_method bs p ∷ named_method bs p ∷ coded_method bs p ∷ mapped_method bs p ∷ [])

unfoldable pub named_fields : List ℕ → Bool
named_fields bs = every (rows (named_field bs) (field_count bs) 0)

unfoldable pub whole_method_in : List ℕ → ℕ → Bool
whole_method_in bs j = whole_method bs (method_place bs j)

-- every method, and nothing after the last
unfoldable pub whole_methods : List ℕ → Bool
whole_methods bs = every (every (rows (whole_method_in bs) (method_count bs) 0) ∷ eqb (method_place bs (method_count bs)) (length bs) ∷ [])

unfoldable pub readable : List ℕ → Bool
readable bs = every
    (sized bs
    ∷ titled bs
    ∷ named_fields bs
    ∷ whole_methods bs
    ∷ not (doubled same_field (quick_fields bs))
    ∷ not (doubled same_method (quick_methods bs))
    ∷ [])

-- What they say

pub record NamedField (bs : List ℕ) (i : ℕ) : Type 0 where
  pub name : 1 ≤ (field_in bs i).name
  pub type : 1 ≤ (field_in bs i).type

pub record WholeMap (ms : List ℕ) (o p : ℕ) : Type 0 where
  pub rises : o ≤ short_at ms p
  pub few : map_depth ms p ≤ 16
  pub within : map_end ms p ≤ length ms
  pub operands : (i : ℕ) → i < map_depth ms p → 1 ≤ type_at ms (p + 19) i

pub record WholeMaps (ms : List ℕ) : Type 0 where
  pub counted : 1 ≤ length ms
  pub each : (i : ℕ) → i < map_count ms → WholeMap ms (least_offset ms i) (map_place ms i)

pub record WholeMethod (bs : List ℕ) (p : ℕ) : Type 0 where
  pub listed : listed_method bs p ≡ true
  pub named : named_method bs p ≡ true
  pub some : 1 ≤ code_length bs p
  pub few : code_length bs p ≤ 512
  pub within : code_end bs p ≤ length bs
  pub maps : leb 2 (file_version bs) ≡ true → WholeMaps (map_bytes bs p)

-- bytes that read as a file
pub record Readable (bs : List ℕ) : Type 0 where
  pub size : length bs ≤ 4096
  pub within : method_place bs 0 ≤ length bs
  pub version_low : 1 ≤ file_version bs
  pub version_high : file_version bs ≤ 3
  pub rest : short_at bs 1 + 3 ≡ length bs
  pub name : 2 ≤ class_name bs
  pub super : 2 ≤ super_name bs
  pub few_fields : field_count bs ≤ 8
  pub few_methods : method_count bs ≤ 8
  pub fields : (i : ℕ) → i < field_count bs → NamedField bs i
  pub methods : (j : ℕ) → j < method_count bs → WholeMethod bs (method_place bs j)
  pub end : method_place bs (method_count bs) ≡ length bs
  pub no_field_twice : doubled same_field (quick_fields bs) ≡ false
  pub no_method_twice : doubled same_method (quick_methods bs) ≡ false

-- The tests say so

said-field : (bs : List ℕ) (i : ℕ) → named_field bs i ≡ true → NamedField bs i
unfolding named_field
said-field bs i h = let p = every_true _ h in record { name = leb-true _ _ p.0; type = leb-true _ _ p.1.0 }

said-map : (ms : List ℕ) (o p : ℕ) → whole_map ms o p ≡ true → WholeMap ms o p
unfolding whole_map operands_set type_set
said-map ms o p h =
    let q = every_true _ h in
    record {
      rises = leb-true _ _ q.0;
      few = leb-true _ _ q.1.0;
      within = leb-true _ _ q.1.1.0;
      operands = λ i l. leb-true _ _ (each-true (type_set ms (p + 19)) (map_depth ms p) 0 q.1.1.1.0 i (omega arith) (omega arith));
    }

said-maps : (ms : List ℕ) → whole_maps ms ≡ true → WholeMaps ms
unfolding whole_maps whole_map_in
said-maps ms h =
    let q = every_true _ h in
    record { counted = leb-true _ _ q.0; each = λ i l. said-map ms _ _ (each-true (whole_map_in ms) (map_count ms) 0 q.1.0 i (omega arith) (omega arith)) }

said-mapped : (bs : List ℕ) (p : ℕ) → mapped_method bs p ≡ true → leb 2 (file_version bs) ≡ true → WholeMaps (map_bytes bs p)
unfolding mapped_method pick
said-mapped bs p h e = said-maps (map_bytes bs p) (rw (e, pick) at h)

said-method : (bs : List ℕ) (p : ℕ) → whole_method bs p ≡ true → WholeMethod bs p
unfolding whole_method coded_method
said-method bs p h =
    let q = every_true _ h in
    let l = every_true _ q.1.1.0 in
    record {
      listed = q.0;
      named = q.1.0;
      some = leb-true _ _ l.0;
      few = leb-true _ _ l.1.0;
      within = leb-true _ _ l.1.1.0;
      maps = said-mapped bs p q.1.1.1.0;
    }

pub said : (bs : List ℕ) → readable bs ≡ true → Readable bs
unfolding readable sized titled named_fields whole_methods whole_method_in
said bs h =
    let r = every_true _ h in
    let d = every_true _ r.0 in
    let n = every_true _ r.1.0 in
    let m = every_true _ r.1.1.1.0 in
    record {
      size = leb-true _ _ d.0;
      within = leb-true _ _ d.1.0;
      version_low = leb-true _ _ d.1.1.0;
      version_high = leb-true _ _ d.1.1.1.0;
      rest = eqb-true _ _ d.1.1.1.1.0;
      name = leb-true _ _ n.0;
      super = leb-true _ _ n.1.0;
      few_fields = leb-true _ _ n.1.1.0;
      few_methods = leb-true _ _ n.1.1.1.0;
      fields = λ i l. said-field bs i (each-true _ _ 0 r.1.1.0 i (omega arith) (omega arith));
      methods = λ j l. said-method bs (method_place bs j) (each-true _ _ 0 m.0 j (omega arith) (omega arith));
      end = eqb-true _ _ m.1.0;
      no_field_twice = not-true _ r.1.1.1.1.0;
      no_method_twice = not-true _ r.1.1.1.1.1.0;
    }

test-field : (bs : List ℕ) (i : ℕ) → NamedField bs i → named_field bs i ≡ true
unfolding named_field
test-field bs i h = true-every _ (le-leb _ _ h.name and le-leb _ _ h.type and tt)

test-map : (ms : List ℕ) (o p : ℕ) → WholeMap ms o p → whole_map ms o p ≡ true
unfolding whole_map operands_set type_set
test-map ms o p h =
    let set = true-each (type_set ms (p + 19)) (map_depth ms p) 0 (λ i l m. le-leb _ _ (h.operands i (omega arith))) in
    true-every _ (le-leb _ _ h.rises and le-leb _ _ h.few and le-leb _ _ h.within and set and tt)

test-maps : (ms : List ℕ) → WholeMaps ms → whole_maps ms ≡ true
unfolding whole_maps whole_map_in
test-maps ms h =
    let all = true-each (whole_map_in ms) (map_count ms) 0 (λ i l m. test-map ms _ _ (h.each i (omega arith))) in
    true-every _ (le-leb _ _ h.counted and all and tt)

test-mapped : (bs : List ℕ) (p : ℕ) → (leb 2 (file_version bs) ≡ true → WholeMaps (map_bytes bs p)) → mapped_method bs p ≡ true
unfolding mapped_method pick
test-mapped bs p h = go (leb 2 (file_version bs)) refl
  where
    go : (t : Bool) → leb 2 (file_version bs) ≡ t → mapped_method bs p ≡ true
    go true e = rw (e, pick) (test-maps (map_bytes bs p) (h e))
    go false e = rw (e, pick)

test-method : (bs : List ℕ) (p : ℕ) → WholeMethod bs p → whole_method bs p ≡ true
unfolding whole_method coded_method
test-method bs p h =
    true-every _
    (h.listed
    and h.named
    and true-every _ (le-leb _ _ h.some and le-leb _ _ h.few and le-leb _ _ h.within and tt)
    and test-mapped bs p h.maps
    and tt)

test-sizes : (bs : List ℕ) → Readable bs → sized bs ≡ true
unfolding sized
test-sizes bs h =
    true-every _
    (le-leb _ _ h.size
    and le-leb _ _ h.within
    and le-leb _ _ h.version_low
    and le-leb _ _ h.version_high
    and eq-eqb _ _ h.rest
    and tt)

test-names : (bs : List ℕ) → Readable bs → titled bs ≡ true
unfolding titled
test-names bs h = true-every _ (le-leb _ _ h.name and le-leb _ _ h.super and le-leb _ _ h.few_fields and le-leb _ _ h.few_methods and tt)

pub tested : (bs : List ℕ) → Readable bs → readable bs ≡ true
unfolding readable named_fields whole_methods whole_method_in
tested bs h =
    let fields = true-each (named_field bs) (field_count bs) 0 (λ i l m. test-field bs i (h.fields i (omega arith))) in
    let methods = true-each (λ j. whole_method bs (method_place bs j)) (method_count bs) 0 (λ j l m. test-method bs _ (h.methods j (omega arith))) in
    true-every _
    (test-sizes bs h
    and test-names bs h
    and fields
    and true-every _ (methods and eq-eqb _ _ h.end and tt)
    and ap not h.no_field_twice
    and ap not h.no_method_twice
    and tt)
