use mathlib.Core.Path.{◌≡◌}
use Rattle.classfile.specs.Reading.{file_version, class_name, methods_from}
use Rattle.rows.specs.Posting.{noted}
use Rattle.verifier.specs.Trace.{methods_trace, class_trace, posting}
use Rattle.verifier.proofs.classes.verify_class.Given as goal

abbrev pub invariant-loop-j : goal.invariant-loop-j
invariant-loop-j l =
    posting l.loader (methods_trace (file_version l.bytes) (class_name l.bytes) (methods_from l.bytes l.j)) (noted l.subtypes l.total)
    ≡ posting l.loader (class_trace l.bytes) (noted l.initial.subtypes l.count)
