-- Before version 3 there is no list; from there on its count is the test.
use mathlib.Core.Path.{refl}
use borrow.Author.Tests.{le-leb, lt-leb}
use Rattle.definition.specs.Instructions.{pick}
use Rattle.classfile.specs.Rules.{listed_method}
use Rattle.classfile.proofs.rules.is_listed_method.Goals as goal

pub returns-then-version-lt-VERSION_THREE : goal.returns-then-version-lt-VERSION_THREE
unfolding listed_method pick
returns-then-version-lt-VERSION_THREE c = rw (lt-leb _ _ (rw c.version.ensures at c.if-version-lt-VERSION_THREE.true), pick) refl

pub returns : goal.returns
unfolding listed_method pick
returns c = rw (le-leb _ _ (rw c.version.ensures at c.if-version-lt-VERSION_THREE.false), pick, ← c.argument_number.ensures) refl
