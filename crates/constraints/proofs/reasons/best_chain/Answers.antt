-- The requests as nodes, the rows as links between them, and the search.
use mathlib.Core.Path.{◌≡◌, ap, ◌∙◌}
use mathlib.Core.List.{List}
use Prim.Native.Nat.{min, ℕ, ◌+◌, ◌≤◌}
use native.Mathlib.Omega.{arith}
use lib.ListN.{get_or}
use Rattle.definition.specs.Numbers.{cache_limit, count_cache, count_ties, count_subtypes}
use Rattle.constraints.specs.Walks.{InRange, Sole}
use Rattle.constraints.proofs.Linked.{in-range, sole}
use Rattle.constraints.proofs.Finding.{at-most-low, held-reason}
use Rattle.constraints.proofs.reasons.best_chain.Goals as goal
use Rattle.constraints.proofs.reasons.best_chain.Goals.{After-label_links}

-- Once the links and their rows' numbers are listed

module _ (c : After-label_links) where
  abbrev counts : List ℕ
  counts = c.args.counts.now

  abbrev cached : ℕ
  cached = c.at_most-cached.result

  abbrev tied : ℕ
  tied = c.at_most-tied.result

  abbrev noted : ℕ
  noted = c.at_most-noted.result

  abbrev froms : List ℕ
  froms = c.link_nodes.new.froms

  abbrev tos : List ℕ
  tos = c.link_nodes.new.tos

  abbrev labels : List ℕ
  labels = c.label_links.new.labels

  cached-is : cached ≡ min (get_or counts count_cache 0) cache_limit
  cached-is = c.at_most-cached.ensures.0 ∙ ap (λ (x : ℕ). min x cache_limit) c.at.ensures

  tied_is : tied ≡ min (get_or counts count_ties 0) cache_limit
  tied_is = c.at_most-tied.ensures.0 ∙ ap (λ (x : ℕ). min x cache_limit) c.at-2.ensures

  noted-is : noted ≡ min (get_or counts count_subtypes 0) cache_limit
  noted-is = c.at_most-noted.ensures.0 ∙ ap (λ (x : ℕ). min x cache_limit) c.at-3.ensures

  range : (count : ℕ) → count ≤ tied + tied + noted → InRange froms tos count
  range = in-range c.link_nodes.ensures c.number_nodes.ensures c.at_most-cached.ensures.1 c.at_most-noted.ensures.1 c.at_most-tied.ensures.1

  alone : (count : ℕ) → count ≤ tied + tied + noted → Sole froms tos labels count
  alone = sole c.link_nodes.ensures c.label_links.ensures c.requires.0
      (omega (arith, tied_is, at-most-low cache_limit (get_or counts count_ties 0))) (omega (arith, noted-is, at-most-low cache_limit (get_or counts count_subtypes 0)))

pub search_links-requires : goal.search_links-requires
search_links-requires c =
    let d = (goal.at.search_links-requires c).After-label_links in
    (c.at_most-cached.ensures.1, omega arith, range d _ (omega arith), alone d _ (omega arith), c.requires.1)

pub returns : goal.returns
returns c =
    let d = (goal.at.returns c).After-label_links in (
      c.search_links.ensures.0,
      held-reason c.number_places.ensures c.number_nodes.new.nodes c.list_classes.new.classes c.number_nodes.ensures c.list_classes.ensures
          (counts d) (froms d) (tos d) (labels d) c.link_nodes.ensures c.label_links.ensures c.args.supers.now (cached-is d) (tied_is d) (noted-is d)
          c.requires.0 _ c.search_links.ensures.1,
    )
