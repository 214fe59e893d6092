-- A define's loader; a record's loader, name and class, in turn.
use mathlib.Core.Path.{◌∙◌}
use Rattle.loading.proofs.Known.{define-tested, record-no-loader, record-no-name, record-tested}
use Rattle.loading.proofs.admitting.is_known.Goals as goal

pub returns-then-loader-ge-LOADER_LIMIT : goal.returns-then-loader-ge-LOADER_LIMIT
returns-then-loader-ge-LOADER_LIMIT c = record-no-loader _ _ _ _ _ c.in-Record.is c.if-loader-ge-LOADER_LIMIT.true

pub returns-then-name-lt-LEAST_CLASS_NAME : goal.returns-then-name-lt-LEAST_CLASS_NAME
returns-then-name-lt-LEAST_CLASS_NAME c = record-no-name _ _ _ _ _ c.in-Record.is c.if-loader-ge-LOADER_LIMIT.false c.if-name-lt-LEAST_CLASS_NAME.true

pub returns-in-Define : goal.returns-in-Define
returns-in-Define c = define-tested _ _ _ c.in-Define.is

pub returns-else-name-lt-LEAST_CLASS_NAME : goal.returns-else-name-lt-LEAST_CLASS_NAME
returns-else-name-lt-LEAST_CLASS_NAME c = c.is_class.ensures ∙ record-tested _ _ _ _ _ c.in-Record.is c.if-loader-ge-LOADER_LIMIT.false c.if-name-lt-LEAST_CLASS_NAME.false
