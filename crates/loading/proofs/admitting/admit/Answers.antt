-- A broken store is refused; then the load's numbers, then the list's size, and then what the file or the entry is.
use mathlib.Core.Path.{◌≡◌, sym, ◌∙◌}
use mathlib.Core.Bool.{true, false}
use native.Mathlib.Omega.{arith}
use Rattle.std.proofs.lemmas.Result.{err_from_is_err_and}
use Rattle.definition.specs.Tables.{Tables, tables}
use Rattle.definition.specs.Broken.{broken}
use Rattle.entries.specs.World.{loadable}
use Rattle.loading.specs.Plans.{load_of, held, known}
use Rattle.loading.proofs.Admitted.{admits-broken, admits-unknown, admits-short}
use Rattle.loading.proofs.Carried.{class-admitted}
use Rattle.loading.proofs.Recorded.{entry-admitted}
use Rattle.loading.proofs.Known.{define-loader, define-lent, record-entry, load-unknown, load-known}
use Rattle.loading.proofs.admitting.admit.Goals as goal
use Rattle.loading.proofs.admitting.admit.Goals.{Else-not-is_known}

-- the store isn't broken, and the load's numbers are known
module _ (c : Else-not-is_known) where
  abbrev store : Tables
  store = tables c.args.counts.now c.args.classes.now c.args.kept.now c.args.cache.now c.args.ties.now c.args.subtypes.now c.args.objects.now c.args.frames.now

  sound : broken store ≡ false
  sound = sym c.is_broken.ensures ∙ c.if-is_broken.false

  numbers : known c.args.load c.args.counts.now ≡ true
  numbers = sym c.is_known.ensures ∙ c.if-not-is_known.false

pub returns-then-is_broken : goal.returns-then-is_broken
returns-then-is_broken c = admits-broken (load_of c.args.load c.args.file.now) (tables c.args.counts.now c.args.classes.now c.args.kept.now c.args.cache.now c.args.ties.now c.args.subtypes.now c.args.objects.now c.args.frames.now) _ _ _ (sym c.is_broken.ensures ∙ c.if-is_broken.true)

pub returns-then-not-is_known : goal.returns-then-not-is_known
returns-then-not-is_known c = let store = tables c.args.counts.now c.args.classes.now c.args.kept.now c.args.cache.now c.args.ties.now c.args.subtypes.now c.args.objects.now c.args.frames.now in
    let sound = sym c.is_broken.ensures ∙ c.if-is_broken.false in
    admits-unknown (load_of c.args.load c.args.file.now) store _ _ _ sound (load-unknown store sound c.args.file.now c.args.load (sym c.is_known.ensures ∙ c.if-not-is_known.true))

pub returns-then-size-lt-LIST_LIMIT : goal.returns-then-size-lt-LIST_LIMIT
returns-then-size-lt-LIST_LIMIT c = let e = (goal.at.returns-then-size-lt-LIST_LIMIT c).Else-not-is_known in
    admits-short (load_of c.args.load c.args.file.now) (store e) _ _ _ (sound e) c.if-size-lt-LIST_LIMIT.true (load-known (store e) (sound e) c.args.file.now c.args.load (numbers e))

pub overflow_cast-loader : goal.overflow_cast-loader
overflow_cast-loader c = let e = (goal.at.overflow_cast-loader c).Else-not-is_known in omega (arith, define-loader _ _ _ c.in-Define.is (numbers e))

pub admit_file-requires : goal.admit_file-requires
admit_file-requires c = let e = (goal.at.admit_file-requires c).Else-not-is_known in
    let lent = define-lent _ c.args.counts.now _ _ _ c.in-Define.is c.requires in
    (loadable (store e) (sound e), define-loader _ _ _ c.in-Define.is (numbers e), lent.0, lent.1)

pub overflow_cast-loader-in-Record : goal.overflow_cast-loader-in-Record
overflow_cast-loader-in-Record c = let e = (goal.at.overflow_cast-loader-in-Record c).Else-not-is_known in omega (arith, (record-entry _ _ _ _ _ c.in-Record.is (numbers e)).loader)

pub overflow_cast-class : goal.overflow_cast-class
overflow_cast-class c = let e = (goal.at.overflow_cast-class c).Else-not-is_known in
    omega (arith, (record-entry _ _ _ _ _ c.in-Record.is (numbers e)).class, (loadable (store e) (sound e)).base.classes_few)

pub admit_entry-requires : goal.admit_entry-requires
admit_entry-requires c = let e = (goal.at.admit_entry-requires c).Else-not-is_known in (record-entry _ _ _ _ _ c.in-Record.is (numbers e)).class

pub returns-in_err-n-in-Define : goal.returns-in_err-n-in-Define
unfolding load_of held
returns-in_err-n-in-Define c = let e = (goal.at.returns-in_err-n-in-Define c).Else-not-is_known in
    let p = err_from_is_err_and c.from_residual.result c.from_residual.ensures.1 in
    rw (c.in-Define.is, p.1, p.2) (class-admitted (store e) _ _ (sound e) _ c.if-size-lt-LIST_LIMIT.false _ _ (define-loader _ _ _ c.in-Define.is (numbers e)) _ (rw c.in_err-n-in-Define.was at c.admit_file.ensures))

pub returns-in_ok-n-in-Define : goal.returns-in_ok-n-in-Define
unfolding load_of held
returns-in_ok-n-in-Define c = let e = (goal.at.returns-in_ok-n-in-Define c).Else-not-is_known in
    rw c.in-Define.is (class-admitted (store e) _ _ (sound e) _ c.if-size-lt-LIST_LIMIT.false _ _ (define-loader _ _ _ c.in-Define.is (numbers e)) _ (rw c.in_ok-n-in-Define.was at c.admit_file.ensures))

pub returns-in-Record : goal.returns-in-Record
unfolding load_of held
returns-in-Record c = let e = (goal.at.returns-in-Record c).Else-not-is_known in
    let k = record-entry _ _ _ _ _ c.in-Record.is (numbers e) in
    rw c.in-Record.is
    (entry-admitted (store e) _ _ _ (sound e) _ c.if-size-lt-LIST_LIMIT.false (omega (arith, k.class, (loadable (store e) (sound e)).base.classes_few)) _ (c.admit_entry.ensures _ _ k.loader k.name))
