-- Demand 3 as a statement on a list of answers and the tables that the list of calls leaves.
use Rattle.std.specs.Prelude.{◌≡◌, false, List, ℕ}
use Rattle.std.proofs.Math.Option.{some}
use Rattle.std.proofs.Math.ListN.{get_elem?}
use Rattle.definition.specs.Numbers.{word_stuck}
use Rattle.definition.specs.declared.Reply.{Reply}
use Rattle.definition.specs.Answers.{number_of, ends_in}
use Rattle.definition.specs.Tables.{view}
use Rattle.definition.specs.Broken.{broken}
use Rattle.definition.specs.Calls.{Done}
use Rattle.definition.specs.Misplaced.{misplaced, AllPlaced}

-- no value misplaced, by count and in words; the store not 'broken'; no answer 'stuck', nor a run that ends in it
pub record Safe (d : Done (List Reply)) : Type 0 where
  pub placed : misplaced d.tables ≡ 0
  pub words : AllPlaced (view d.tables)
  pub unbroken : broken d.tables ≡ false
  pub not_stuck : (i : ℕ) (a : Reply) → get_elem? d.answer i ≡ some a → (number_of a ≡ word_stuck → ⊥) × (ends_in a ≡ word_stuck → ⊥)
