-- The publishers' desk: the file and verifier checks of a byte range, for a number: 0, 2, 15 or 6.
use Rattle.std.specs.Prelude.{true, false, List, ℕ}
use Rattle.std.proofs.Math.Option.{none, some}
use Rattle.definition.specs.Numbers.{word_file, word_unverified, word_unmapped}
use Rattle.definition.specs.Lists.{any}
use Rattle.definition.specs.Verifier.{unmapped, notes_of}
use Rattle.definition.specs.File.{File, read_file, class_of}

-- the verifier doesn't ask for the loader
unfoldable pub verifier_number : File → ℕ
verifier_number f = elim (any (unmapped (class_of 0 f)) f.methods) [
  | true ↦ word_unmapped
  | false ↦ elim (notes_of (class_of 0 f) f.methods) [ none ↦ word_unverified | some _ ↦ 0 ]
]

unfoldable pub desk_number : List ℕ → ℕ
desk_number bs = elim (read_file bs) [ none ↦ word_file | some f ↦ verifier_number f ]
