-- Of the fields before field i the number tells whether all fit.
use mathlib.Core.Path.{ap, ◌∙◌}
use mathlib.Core.Bool.{◌&&◌}
use native.Mathlib.Omega.{arith}
use lib.Dec.{eqb}
use Rattle.definition.specs.Tables.{field_at}
use Rattle.store.specs.Checks.{exists, value_in}
use Rattle.store.proofs.Looked.{field-more, field-last, field-cells}
use Rattle.store.proofs.values.many_fit.Goals as goal

pub loop-i-preserved : goal.loop-i-preserved
loop-i-preserved c =
    let args = c.args in
    let i = c.loop-i.i in (
      c.loop-i.invariant.0,
      field-more (value_in (exists args.counts.now args.made)) (field_at args.objects.now args.o) args.size _ i c.loop-i.found c.fits_too-found.result c.loop-i-test.true
          (c.fits_too-found.ensures ∙ ap (λ (v : _). eqb c.loop-i.found 0 && value_in (exists args.counts.now args.made) v) (field-cells args.objects.now args.o i _ (omega (arith, c.loop-i.invariant.0, c.from.ensures)))) c.loop-i.invariant.1,
    )

pub returns : goal.returns
returns c = field-last (value_in (exists c.args.counts.now c.args.made)) (field_at c.args.objects.now c.args.o) c.args.size _ c.loop-i.i c.loop-i.found c.loop-i-test.false c.loop-i.invariant.1
