-- Steps of a task that ran, one after another: what is left of a run after them.
use Rattle.std.specs.Prelude.{◌≡◌, refl, false, List, ℕ, zero, suc, ◌+◌, ◌-◌, ◌≤◌}
use Rattle.std.proofs.Common.{arith}
use Rattle.definition.specs.declared.Answer.{Answer}
use Rattle.definition.specs.declared.Answer.TheVariants.{Ran}
use Rattle.definition.specs.Tables.{Tables, tables}
use Rattle.definition.specs.Broken.{broken}
use Rattle.definition.specs.Calls.{step_tables, run_from}
use Rattle.tasks.specs.Turns.{turn_of}

-- tables whose store is not broken, whatever else it has
pub record Sound (N L K F : List ℕ) : Type 0 where
  pub cache : List ℕ
  pub ties : List ℕ
  pub subtypes : List ℕ
  pub objects : List ℕ
  pub whole : broken (tables N L K cache ties subtypes objects F) ≡ false

pub sound : (N L K E I S O F : List ℕ) → broken (tables N L K E I S O F) ≡ false → Sound N L K F
sound N L K E I S O F h = record { cache = E; ties = I; subtypes = S; objects = O; whole = h }

-- the last answer, after r more steps of task k ran
unfoldable pub last_of : ℕ → ℕ → Answer → Answer
last_of zero k a = a
last_of (suc r) k a = Ran k

-- r steps of task k lead from the tables t to the tables u
pub record Ahead (k r : ℕ) (t u : Tables) : Type 0 where
  pub runs : (n j : ℕ) (a : Answer) → j + r ≤ n → run_from step_tables (n - (j + r)) (j + r) (last_of r k a) u ≡ run_from step_tables (n - j) j a t
  pub whole : broken u ≡ false

pub none_ahead : (k : ℕ) (t : Tables) → broken t ≡ false → Ahead k 0 t t
unfolding last_of
none_ahead k t h = record { runs = λ n j a l. let e : j + 0 ≡ j = omega arith in rw e; whole = h }

pub last_none : (r k : ℕ) (a : Answer) → r ≡ 0 → a ≡ last_of r k a
unfolding last_of
last_none zero k a e = refl
last_none (suc r) k a e = absurd (omega arith)

pub last_some : (r j k : ℕ) (a : Answer) → (r ≡ 0 → ⊥) → j ≡ k → Ran j ≡ last_of r k a
unfolding last_of
last_some zero j k a e q = absurd (e refl)
last_some (suc r) j k a e q = rw q

-- a run that has come to k steps goes on with them
pub go-on : (n k r : ℕ) (a b : Answer) (t u : Tables) → b ≡ last_of r (turn_of t.counts) a → Ahead (turn_of t.counts) r t u → k + r ≤ n
    → run_from step_tables (n - (k + r)) (k + r) b u ≡ run_from step_tables (n - k) k a t
go-on n k r a b t u f h l = rw f (h.runs n k a l)
