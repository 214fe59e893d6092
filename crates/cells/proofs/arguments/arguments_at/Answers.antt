-- A list of four or fewer is read, from the end of the bytes where the place lies past it; a longer one is none at all.
use mathlib.Core.Path.{◌≡◌, ap, ◌∙◌}
use mathlib.Core.Option.{some, some-injective}
use mathlib.Core.List.{List}
use Prim.Native.Nat.{ℕ, ◌≤◌}
use native.Mathlib.Omega.{arith}
use lib.ListN.{length}
use borrow.Author.Tests.{lt-leb}
use Rattle.definition.specs.declared.Arguments.{Arguments}
use Rattle.definition.specs.Numbers.{argument_limit}
use Rattle.definition.specs.Classes.{arguments_of}
use Rattle.definition.specs.Instructions.{shorts_at}
use Rattle.definition.specs.Maybe.{◌>>=◌, need}
use Rattle.cells.specs.Listed.{or_no_arguments, list_at, list_read, shorts-past}
use Rattle.cells.proofs.arguments.arguments_at.Goals as goal

module _ (bs : List ℕ) (p n : ℕ) (a : Arguments) (few : n ≤ argument_limit) where
  read : some a ≡ arguments_of (shorts_at bs p n) → a ≡ list_at bs p n
  read e = some-injective a (list_at bs p n) (e ∙ list_read bs p n few)

  past : length bs ≤ p → some a ≡ arguments_of (shorts_at bs (length bs) n) → a ≡ list_at bs p n
  past h e = read (e ∙ ap arguments_of (shorts-past bs (length bs) p n (omega arith) h))

pub returns-then-n-gt-ARGUMENT_LIMIT : goal.returns-then-n-gt-ARGUMENT_LIMIT
unfolding list_at need ◌>>=◌ or_no_arguments
returns-then-n-gt-ARGUMENT_LIMIT c = rw (lt-leb _ argument_limit c.if-n-gt-ARGUMENT_LIMIT.true)

pub returns-then-place-bytes : goal.returns-then-place-bytes
returns-then-place-bytes c = read _ _ _ _ c.if-n-gt-ARGUMENT_LIMIT.false c.few_at.ensures

pub returns-else-place-bytes : goal.returns-else-place-bytes
returns-else-place-bytes c = past _ _ _ _ c.if-n-gt-ARGUMENT_LIMIT.false c.if-place-bytes.false c.few_at-else-place-bytes.ensures
