use mathlib.Core.Path.{◌≡◌}
use Prim.Native.Nat.{◌-◌, ◌≤◌}
use lib.ListN.{get_or, length}
use Rattle.definition.specs.Lists.{all, rows}
use Rattle.resolution.specs.Quick.{quick_base}
use Rattle.store.specs.Checks.{EndedTo, Sized, linked, links_fit, number}
use Rattle.store.proofs.brokenness.links_fit.Given as goal

abbrev pub invariant-loop-c : goal.invariant-loop-c
invariant-loop-c l = (1 ≤ l.c) × (length l.sizes ≡ 64) × Sized (quick_base l.base.counts.now l.base.classes.now l.base.kept.now l.base.cache.now) l.c l.sizes × (all (linked (quick_base l.base.counts.now l.base.classes.now l.base.kept.now l.base.cache.now)) (rows number (l.n - l.c) l.c) ≡ links_fit (quick_base l.base.counts.now l.base.classes.now l.base.kept.now l.base.cache.now) (get_or l.base.counts.now 0 0)) × (length l.ends ≡ 64) × EndedTo (quick_base l.base.counts.now l.base.classes.now l.base.kept.now l.base.cache.now) l.c l.ends
