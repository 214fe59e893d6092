-- Bytes read as a file exactly if they keep the rules by places, and then the quick reading gives that file.
use Rattle.std.specs.Prelude.{◌≡◌, true, List, drop}
use Rattle.std.proofs.Common.{sym, ◌∙◌, zero-add, arith}
use Rattle.std.proofs.Math.Path.{ap}
use Rattle.std.proofs.Math.Bool.{false, not}
use Rattle.std.proofs.lemmas.Bool.{false≢true}
use Rattle.std.proofs.Math.Option.{none, some}
use Prim.Native.Nat.{ℕ, zero, suc, ◌+◌, ◌*◌, ◌≤◌, ◌<◌}
use Rattle.std.proofs.Math.ListN.{length, length-drop}
use borrow.Author.Tests.{not-true}
use Rattle.definition.specs.Lists.{doubled, is_some}
use Rattle.definition.specs.Instructions.{short_at}
use Rattle.definition.specs.File.{File, read_file, same_field, same_method}
use Rattle.layout.specs.Tests.{same_test}
use Rattle.classfile.specs.Lists.{◌and◌, Each}
use Rattle.classfile.specs.Reading.{file_version, class_name, super_name, field_count, field_place, quick_fields, method_count, method_place, quick_methods, quick_file}
use Rattle.classfile.specs.Rules.{Readable, readable, said, tested}
use Rattle.classfile.specs.Stages.{Outcome, FieldRule, MethodRule, passes, fails, meant, then, made, moved, needs, needs-le, needs-both, needs-eq, byte_at, short-at, name-at, count-at, fields_at, methods-at, method-within, ends_at}

module _ (bs : List ℕ) where
  -- what the readings ask for, in their order
  abbrev Methods : Type 0
  Methods =
      ((field_place (field_count bs) < length bs) × (method_count bs ≤ 8))
      × (Each (MethodRule bs) (method_count bs) 0
      × ((length bs ≤ method_place bs (method_count bs))
      × ((not (doubled same_field (quick_fields bs)) ≡ true) × (not (doubled same_method (quick_methods bs)) ≡ true))))

  abbrev Asked : Type 0
  Asked =
      (length bs ≤ 4096)
      × ((0 < length bs)
      × (((1 ≤ file_version bs) × (file_version bs ≤ 3))
      × ((1 + 2 ≤ length bs)
      × ((short_at bs 1 ≡ length (drop 3 bs))
      × (((3 + 2 ≤ length bs) × (2 ≤ class_name bs))
      × (((5 + 2 ≤ length bs) × (2 ≤ super_name bs))
      × (((7 < length bs) × (field_count bs ≤ 8)) × (Each (FieldRule bs) (field_count bs) 0 × Methods))))))))

  -- the last method ends within the bytes
  last_within : (n : ℕ) → Each (MethodRule bs) n 0 → method_place bs 0 ≤ length bs → method_place bs n ≤ length bs
  unfolding method_place
  last_within zero h w = w
  last_within (suc m) h w = method-within bs (method_place bs m) (h m (omega arith) (omega arith))

  readable-asked : Asked → Readable bs
  unfolding method_place
  readable-asked h =
      let m = h.1.1.1.1.1.1.1.1.1 in
      let w : method_place bs 0 ≤ length bs = omega (arith, m.0.0) in
      let l = last_within (method_count bs) m.1.0 w in
      record {
        size = h.0;
        within = w;
        version_low = h.1.1.0.0;
        version_high = h.1.1.0.1;
        rest = omega (arith, h.1.1.1.0, h.1.1.1.1.0, length-drop 3 bs);
        name = h.1.1.1.1.1.0.1;
        super = h.1.1.1.1.1.1.0.1;
        few_fields = h.1.1.1.1.1.1.1.0.1;
        few_methods = m.0.1;
        fields = λ i b. (h.1.1.1.1.1.1.1.1.0 i (omega arith) (omega arith)).1;
        methods = λ j b. m.1.0 j (omega arith) (omega arith);
        end = omega (arith, l, m.1.1.0);
        no_field_twice = not-true _ m.1.1.1.0;
        no_method_twice = not-true _ m.1.1.1.1;
      }

  asked-readable : Readable bs → Asked
  unfolding method_place field_place
  asked-readable r =
      let nine : 9 + 4 * field_count bs ≤ length bs = omega (arith, r.within) in
      r.size
      and (omega arith)
      and (r.version_low and r.version_high)
      and (omega arith)
      and (omega (arith, length-drop 3 bs, r.rest))
      and ((omega arith) and r.name)
      and ((omega arith) and r.super)
      and ((omega arith) and r.few_fields)
      and (λ i l b. (omega arith) and r.fields i (omega arith))
      and ((omega arith) and r.few_methods)
      and (λ j l b. r.methods j (omega arith))
      and (omega (arith, r.end))
      and ap not r.no_field_twice
      and ap not r.no_method_twice

  file-read : Outcome (read_file bs) (Readable bs) (quick_file bs)
  unfolding read_file quick_file file_version quick_fields quick_methods class_name super_name field_count field_place method_count method_place
  file-read =
      meant readable-asked asked-readable
      (then _ (needs-le (length bs) 4096) (λ _. then _ (byte_at bs 0) (λ _. then _ (needs-both 1 (file_version bs) 3) (λ _.
      then _ (short-at bs 1) (λ _. then _ (needs-eq (short_at bs 1) (length (drop 3 bs))) (λ _.
      then _ (name-at bs 2 3) (λ _. then _ (name-at bs 2 5) (λ _. then _ (count-at bs 7) (λ _.
      then _ (moved bs (ap field_place (zero-add (field_count bs))) (fields_at bs (field_count bs) 0)) (λ _.
      then _ (count-at bs (field_place (field_count bs))) (λ _.
      then _ (moved bs (ap (method_place bs) (zero-add (method_count bs))) (methods-at bs (method_count bs) 0)) (λ _.
      then _ (ends_at bs (method_place bs (method_count bs))) (λ _.
      then _ (needs (not (doubled same_field (quick_fields bs)))) (λ _.
      made _ (needs (not (doubled same_method (quick_methods bs))))))))))))))))))

  -- What others go by

  pub reads-quick : Readable bs → read_file bs ≡ some (quick_file bs)
  reads-quick r = go file-read
    where
      go : Outcome (read_file bs) (Readable bs) (quick_file bs) → read_file bs ≡ some (quick_file bs)
      go (passes _ e) = e
      go (fails n _) = absurd (n r)

  pub reads_nothing : (Readable bs → ⊥) → read_file bs ≡ none
  reads_nothing n = go file-read
    where
      go : Outcome (read_file bs) (Readable bs) (quick_file bs) → read_file bs ≡ none
      go (passes r _) = absurd (n r)
      go (fails _ e) = e

  -- the test says whether the bytes read
  pub reads_as : is_some (read_file bs) ≡ readable bs
  unfolding is_some
  reads_as = go file-read
    where
      go : Outcome (read_file bs) (Readable bs) (quick_file bs) → is_some (read_file bs) ≡ readable bs
      go (passes r e) = rw (e, tested bs r)
      go (fails n e) = rw e (same_test false (readable bs) (λ h. absurd (false≢true h)) (λ h. absurd (n (said bs h))))

  pub reads-some : is_some (read_file bs) ≡ true → read_file bs ≡ some (quick_file bs)
  reads-some h = reads-quick (said bs (sym reads_as ∙ h))

  -- of bytes that read as the file f
  module _ (f : File) (h : read_file bs ≡ some f) where
    pub file-readable : Readable bs
    unfolding is_some
    file-readable = said bs (sym reads_as ∙ ap is_some h)

    pub quick-file : quick_file bs ≡ f
    quick-file = let e = reads-quick file-readable in cc

    pub version-of : file_version bs ≡ f.version
    unfolding quick_file
    version-of = ap (λ (g : File). g.version) quick-file

    pub name_of : class_name bs ≡ f.name
    unfolding quick_file
    name_of = ap (λ (g : File). g.name) quick-file

    pub super-of : super_name bs ≡ f.super
    unfolding quick_file
    super-of = ap (λ (g : File). g.super) quick-file

    pub methods-of : quick_methods bs ≡ f.methods
    unfolding quick_file
    methods-of = ap (λ (g : File). g.methods) quick-file
