-- By rising n: no order of fewer loads works, and the tables show what they showed.
use mathlib.Core.Path.{refl, ◌∙◌}
use native.Mathlib.Omega.{arith}
use Rattle.searching.specs.Offered.{offers-few}
use Rattle.searching.proofs.Rising.{rising-start, rising-on, rising-found, rising-end}
use Rattle.searching.proofs.shortest.shortest.Goals as goal

pub loop-n-init : goal.loop-n-init
loop-n-init c = (rising-start _ _ _ _ _ c.requires.frames_value c.requires.files_value _ refl, refl, refl, refl, refl, refl, refl)

pub order_of-found-requires : goal.order_of-found-requires
order_of-found-requires c = record {
  frames_value = c.loop-n.invariant.0.whole;
  files_value = c.requires.files_value;
  used_len = refl;
  n_bound = omega (arith, offers-few c.args.offers.now c.args.files.now c.requires.files_value, c.loop-n-test.true);
}

pub overflow_cast-result : goal.overflow_cast-result
overflow_cast-result c = omega (arith, offers-few c.args.offers.now c.args.files.now c.requires.files_value, c.loop-n-test.true)

pub returns-in-Some : goal.returns-in-Some
returns-in-Some c = rising-found _ _ _ _ _ _ _ _ c.loop-n.invariant.0 (omega (arith, c.loop-n-test.true)) _ _ c.order_of-found.ensures _ c.in-Some.is

pub loop-n-preserved : goal.loop-n-preserved
loop-n-preserved c = (rising-on _ _ _ _ _ _ _ _ c.loop-n.invariant.0 (omega (arith, c.loop-n-test.true)) _ _ c.order_of-found.ensures c.in_default.is, c.order_of-found.auto.counts ∙ c.loop-n.invariant.1, c.order_of-found.auto.classes ∙ c.loop-n.invariant.2, c.order_of-found.auto.kept ∙ c.loop-n.invariant.3, c.order_of-found.auto.cache ∙ c.loop-n.invariant.4, c.order_of-found.auto.ties ∙ c.loop-n.invariant.5, c.order_of-found.auto.subtypes ∙ c.loop-n.invariant.6)

pub returns : goal.returns
returns c = rising-end _ _ _ _ _ _ _ _ c.loop-n.invariant.0 (omega (arith, c.loop-n-test.false))
