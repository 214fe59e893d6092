-- Before method j is posted, what the methods from j on post is what is left; there is room for five ties a method.
use mathlib.Core.Path.{◌≡◌}
use Prim.Native.Nat.{◌+◌, ◌*◌, ◌-◌, ◌≤◌}
use lib.ListN.{length}
use Rattle.definition.specs.Lists.{rows, write_rows}
use Rattle.definition.specs.Loading.{override_ties}
use Rattle.definition.specs.Tables.{tie_at, put_tie}
use Rattle.classfile.specs.Reading.{method_in}
use Rattle.resolution.specs.Quick.{quick_base}
use Rattle.loading.specs.Posting.{TiesPosted}
use Rattle.loading.proofs.overrides.post_methods.Given as goal

abbrev pub invariant-loop-j : goal.invariant-loop-j
invariant-loop-j l = (l.total + 5 * (l.n - l.j) ≤ 296) × (length l.ties ≡ 888) × TiesPosted (override_ties (quick_base l.base.counts.now l.base.classes.now l.base.kept.now l.base.cache.now) l.loader l.p (rows (tie_at l.ties) l.total 0) (rows (method_in l.file) (l.n - l.j) l.j)) l.ties l.total (write_rows put_tie (override_ties (quick_base l.base.counts.now l.base.classes.now l.base.kept.now l.base.cache.now) l.loader l.p (rows (tie_at l.initial.ties) l.count 0) (rows (method_in l.file) l.n 0)) l.count l.initial.ties) (l.count + length (override_ties (quick_base l.base.counts.now l.base.classes.now l.base.kept.now l.base.cache.now) l.loader l.p (rows (tie_at l.initial.ties) l.count 0) (rows (method_in l.file) l.n 0)))
