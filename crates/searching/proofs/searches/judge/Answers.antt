-- The tests, in order.
use mathlib.Core.Path.{sym, ◌∙◌}
use Rattle.searching.proofs.Sought.{other-lengths, broken-box, no-loader, no_name, unread, cleared}
use Rattle.searching.proofs.searches.judge.Goals as goal

pub returns-then-not-is_shaped : goal.returns-then-not-is_shaped
returns-then-not-is_shaped c = other-lengths _ _ _ _ _ _ (sym c.is_shaped.ensures ∙ c.if-not-is_shaped.true)

pub returns-then-is_broken : goal.returns-then-is_broken
returns-then-is_broken c = broken-box _ _ _ _ _ _ (sym c.is_shaped.ensures ∙ c.if-not-is_shaped.false) (sym c.is_broken.ensures ∙ c.if-is_broken.true)

pub returns-then-loader-ge-LOADER_LIMIT : goal.returns-then-loader-ge-LOADER_LIMIT
returns-then-loader-ge-LOADER_LIMIT c = no-loader _ _ _ _ _ _ (sym c.is_shaped.ensures ∙ c.if-not-is_shaped.false) (sym c.is_broken.ensures ∙ c.if-is_broken.false) c.if-loader-ge-LOADER_LIMIT.true

pub returns-then-name-lt-NAME_OBJECT : goal.returns-then-name-lt-NAME_OBJECT
returns-then-name-lt-NAME_OBJECT c = no_name _ _ _ _ _ _ (sym c.is_shaped.ensures ∙ c.if-not-is_shaped.false) (sym c.is_broken.ensures ∙ c.if-is_broken.false) c.if-loader-ge-LOADER_LIMIT.false c.if-name-lt-NAME_OBJECT.true

pub returns : goal.returns
returns c = cleared _ _ _ _ _ _ (sym c.is_shaped.ensures ∙ c.if-not-is_shaped.false) (sym c.is_broken.ensures ∙ c.if-is_broken.false) c.if-loader-ge-LOADER_LIMIT.false c.if-name-lt-NAME_OBJECT.false (sym c.read_offers.ensures ∙ c.if-not-read_offers.false)

pub returns-then-not-read_offers : goal.returns-then-not-read_offers
returns-then-not-read_offers c = unread _ _ _ _ _ _ (sym c.is_shaped.ensures ∙ c.if-not-is_shaped.false) (sym c.is_broken.ensures ∙ c.if-is_broken.false) c.if-loader-ge-LOADER_LIMIT.false c.if-name-lt-NAME_OBJECT.false (sym c.read_offers.ensures ∙ c.if-not-read_offers.true)
