-- The three parts stand two bytes apart.
use mathlib.Core.Path.{sym}
use Rattle.classfile.proofs.Laws.{one_signature}
use Rattle.classfile.proofs.signatures.one_signature.Goals as goal

pub returns : goal.returns
returns c =
    rw (
      c.short_at.ensures,
      c.short_at-2.ensures,
      c.short_at-3.ensures,
    ) (sym (one_signature _ _ c.requires))
