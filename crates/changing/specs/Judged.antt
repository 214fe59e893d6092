-- What is said of old tables that aren't broken: the counts that stand ready.
use Rattle.std.specs.Prelude.{◌≡◌, false, List, ℕ}
use Rattle.definition.specs.Changeover.{carry}
use Rattle.definition.specs.First.Tables.{FirstTables}
use Rattle.definition.specs.First.Broken.{first_broken}

pub record Judged (u : FirstTables) (counts : List ℕ) : Type 0 where
  pub unbroken : first_broken u ≡ false
  pub carried : counts ≡ (carry u).counts
