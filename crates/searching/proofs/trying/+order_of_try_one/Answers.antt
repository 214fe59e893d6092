-- An order of n loads: none is tried by n = 0; else offer by offer, each by its load and the orders of one load fewer. Twice n falls at each call.
use Rattle.resolution.specs.Quick.{quick_base}
use Prim.Native.Nat.{◌<◌}
use mathlib.Core.Path.{◌≡◌, refl, sym, ◌∙◌}
use native.Mathlib.Omega.{arith}
use lib.ListN.{length}
use Rattle.definition.specs.Requests.{at}
use Rattle.definition.specs.Tables.{tables}
use Rattle.searching.proofs.Tried.{few, marked, fits_more, one-refused, one-whole, one-done, not-worth, is-worth, is-unused, is-tried, turning-start, turns-on, turns-found, turning-end, of-all, of_none}
use Rattle.searching.proofs.trying.+order_of_try_one.Goals as goal

-- All that are left

pub order_of-returns-then-n-eq0 : goal.order_of-returns-then-n-eq0
unfolding quick_base
order_of-returns-then-n-eq0 t c = of_none _ _ _ _ _ _ _ c.if-n-eq0.true c.requires.frames_value c.cached_order.ensures

pub order_of-loop-i-init : goal.order_of-loop-i-init
order_of-loop-i-init t c = (turning-start _ _ _ _ _ _ c.requires.frames_value _ refl, refl, refl, refl, refl, refl, refl)

pub order_of-returns-in-Some : goal.order_of-returns-in-Some
order_of-returns-in-Some t c =
    of-all _ _ _ _ _ _ _ _ c.if-n-eq0.false (turns-found _ _ _ _ _ _ _ _ _ c.loop-i.invariant.0 c.loop-i-test.true _ _ c.try_one-found.ensures _ c.in-Some.is _)

pub order_of-loop-i-preserved : goal.order_of-loop-i-preserved
order_of-loop-i-preserved t c = (
  turns-on _ _ _ _ _ _ _ _ _ c.loop-i.invariant.0 c.loop-i-test.true _ _ c.try_one-found.ensures c.in_default.is,
  c.try_one-found.auto.counts ∙ c.loop-i.invariant.1,
  c.try_one-found.auto.classes ∙ c.loop-i.invariant.2,
  c.try_one-found.auto.kept ∙ c.loop-i.invariant.3,
  c.try_one-found.auto.cache ∙ c.loop-i.invariant.4,
  c.try_one-found.auto.ties ∙ c.loop-i.invariant.5,
  c.try_one-found.auto.subtypes ∙ c.loop-i.invariant.6,
)

pub order_of-returns : goal.order_of-returns
order_of-returns t c = of-all _ _ _ _ _ _ _ _ c.if-n-eq0.false (turning-end _ _ _ _ _ _ _ _ _ c.loop-i.invariant.0 c.loop-i-test.false)

-- One offer

pub try_one-is_worth-requires : goal.try_one-is_worth-requires
try_one-is_worth-requires t c = omega (arith, few c.args.offers.now c.args.files.now c.args.i c.requires.files_value c.requires.i_in_bounds)

pub try_one-returns-then-not-is_worth : goal.try_one-returns-then-not-is_worth
try_one-returns-then-not-is_worth t c =
    not-worth _ _ _ _ _ _ _ c.requires.frames_value c.requires.files_value c.requires.i_in_bounds (sym c.is_worth.ensures ∙ c.if-not-is_worth.true)

pub try_one-load_one-requires : goal.try_one-load_one-requires
try_one-load_one-requires t c = omega (arith, few c.args.offers.now c.args.files.now c.args.i c.requires.files_value c.requires.i_in_bounds)

pub try_one-returns-then-not-load_one : goal.try_one-returns-then-not-load_one
try_one-returns-then-not-load_one t c =
    let a = c.args in
    is-tried _ _ _ _ _ _ _ _ _
    (is-worth a.offers.now a.files.now (at a.loader a.name) a.n a.i a.used.now (tables a.counts.now a.classes.now a.kept.now a.cache.now a.ties.now a.subtypes.now a.objects.now a.frames.now) (sym c.is_worth.ensures ∙ c.if-not-is_worth.false))
    (one-refused _ _ _ _ _ _ _ _ _ c.requires.frames_value c.requires.files_value c.requires.i_in_bounds c.load_one.ensures c.if-not-load_one.true)

pub try_one-order_of-rest-requires : goal.try_one-order_of-rest-requires
try_one-order_of-rest-requires t c =
    let a = c.args in (
      omega (arith, c.decreases),
      (
        one-whole _ _ (at a.loader a.name) a.n _ a.used.now _ _ _ c.requires.frames_value c.requires.files_value c.requires.i_in_bounds c.load_one.ensures c.if-not-load_one.false,
        (c.requires.files_value, (c.put.auto.t ∙ c.copy-2.auto.target, omega (arith, c.requires.n_bound))),
      ),
    )

pub try_one-with_first-requires-clause-i_bound : goal.try_one-with_first-requires-clause-i_bound
try_one-with_first-requires-clause-i_bound t c = few c.args.offers.now c.args.files.now c.args.i c.requires.files_value c.requires.i_in_bounds

pub try_one-with_first-requires-clause-fits : goal.try_one-with_first-requires-clause-fits
try_one-with_first-requires-clause-fits t c = fits_more _ c.order_of-rest.result c.requires.n_bound c.order_of-rest.ensures.fits

pub try_one-returns : goal.try_one-returns
try_one-returns t c =
    let a = c.args in
    let i8 : a.i < 8 = few a.offers.now a.files.now a.i c.requires.files_value c.requires.i_in_bounds in
    let len : length a.used.now ≡ 8 = c.requires.used_len in
    let flag = is-worth a.offers.now a.files.now (at a.loader a.name) a.n a.i a.used.now (tables a.counts.now a.classes.now a.kept.now a.cache.now a.ties.now a.subtypes.now a.objects.now a.frames.now) (sym c.is_worth.ensures ∙ c.if-not-is_worth.false) in
    is-tried _ _ _ _ _ _ _ _ _ flag
    (one-done _ _ _ _ _ _ _ _ _ c.requires.frames_value c.requires.files_value c.requires.i_in_bounds c.load_one.ensures c.if-not-load_one.false _ (marked _ _ _ _ _ len refl c.copy-2.ensures c.put.ensures)
    (is-unused a.offers.now a.files.now (at a.loader a.name) a.n a.i a.used.now (tables a.counts.now a.classes.now a.kept.now a.cache.now a.ties.now a.subtypes.now a.objects.now a.frames.now) flag)
    (omega (arith, i8, len)) _ _ c.order_of-rest.ensures _ c.with_first.ensures i8 refl refl _ _ _ refl c.copy.ensures c.copy-3.ensures)
