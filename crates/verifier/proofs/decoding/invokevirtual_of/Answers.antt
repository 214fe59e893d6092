-- Before version 3 invokevirtual has one argument type inline, from there on a list.
use borrow.Author.Tests.{le-leb, lt-leb}
use Rattle.definition.specs.Numbers.{version_three}
use Rattle.definition.specs.Instructions.{pick, opcode_of}
use Rattle.verifier.proofs.decoding.invokevirtual_of.Goals as goal

pub returns-then-version-lt-VERSION_THREE : goal.returns-then-version-lt-VERSION_THREE
unfolding opcode_of pick
returns-then-version-lt-VERSION_THREE c = rw (lt-leb version_three c.args.version c.if-version-lt-VERSION_THREE.true)

pub returns-else-version-lt-VERSION_THREE : goal.returns-else-version-lt-VERSION_THREE
unfolding opcode_of pick
returns-else-version-lt-VERSION_THREE c = rw (le-leb version_three c.args.version c.if-version-lt-VERSION_THREE.false)
