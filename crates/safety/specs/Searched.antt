-- How could this load, paper 14: once written, the second store of a search comes from a boot if the box's does, so that all that holds of such stores holds of it.
use Rattle.std.specs.Prelude.{◌≡◌, refl, List, ℕ}
use Rattle.std.proofs.Common.{sym, subst}
use Rattle.definition.specs.declared.Refusal.{Refusal}
use Rattle.definition.specs.Tables.{Tables}
use Rattle.definition.specs.Calls.{Call, perform_all}
use Rattle.definition.specs.Histories.{ComesFromBoot}
use Rattle.definition.specs.Safety.{Safe}
use Rattle.definition.specs.Searching.{Sought, denied_search, calls_of, search}
use Rattle.unbroken.specs.Searched.{Ends, ends_found, ends_none, ends_refused, search-ends}
use Rattle.safety.specs.Safety.{later-from-boot, safe-from-boot}

module _ (l n : ℕ) (cells files : List ℕ) (box second : Tables) (b : ComesFromBoot box)
    (written : (w : Refusal) → (search l n cells files box second).answer ≡ denied_search w → ⊥) where
  pub search-from-boot : ComesFromBoot (search l n cells files box second).second
  search-from-boot = go (search l n cells files box second).answer refl (search-ends l n cells files box second)
    where
      go : (a : Sought) → (search l n cells files box second).answer ≡ a → Ends l n cells files box second a → ComesFromBoot (search l n cells files box second).second
      go a e (ends_found is z f) = subst ComesFromBoot (sym f.ends) (later-from-boot box b (calls_of f.offers is))
      go a e (ends_none z f) = subst ComesFromBoot (sym f.ends) b
      go a e (ends_refused w f) = absurd (written w e)

  -- whatever calls follow on it: nothing is misplaced or broken, and no call is stuck
  pub search-safe : (cs : List Call) → Safe (perform_all cs (search l n cells files box second).second)
  search-safe cs = safe-from-boot (search l n cells files box second).second search-from-boot cs
