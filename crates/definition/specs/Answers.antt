-- Answers and refusals: this paper's number and values for each case, and calls as sequences of tests, the first that fails refusing.
use Rattle.std.specs.Prelude.{Bool, true, false, ℕ, ◌-◌, ◌%◌, ℤ, pos, negsuc, ltb}
use Rattle.std.proofs.Math.Option.{Option, none, some}
use Rattle.definition.specs.Numbers.{word_wanted, int_range, sign_bit}
use Rattle.definition.specs.Requests.{Request}
pub use Rattle.definition.specs.declared.Refusal.{Refusal}
pub use Rattle.definition.specs.declared.Refusal.TheVariants.{Wanted, Word}
pub use Rattle.definition.specs.declared.Answer.{Answer}
pub use Rattle.definition.specs.declared.Answer.TheVariants.{Idle, Ran, Finished, Refused}
pub use Rattle.definition.specs.declared.Reply.{Reply}
pub use Rattle.definition.specs.declared.Reply.TheVariants.{Accepted, Defined, Stepped, RanFor, Swept, Denied}
pub use Rattle.definition.specs.declared.Details.{Details}

-- Ints: 32 bits, read as signed where people read them

unfoldable pub signed : ℕ → ℤ
signed n = elim (ltb n sign_bit) [ true ↦ pos n | false ↦ negsuc (int_range - 1 - n) ]

-- the 32 bits of an integer, which wraps: it equals them modulo 2^32
unfoldable pub int_bits : ℤ → ℕ
int_bits (pos n) = n % int_range
int_bits (negsuc n) = int_range - 1 - n % int_range

-- as ints, a is less than b
unfoldable pub less : ℤ → ℤ → Bool
less (pos m) (pos n) = ltb m n
less (pos m) (negsuc n) = false
less (negsuc m) (pos n) = true
less (negsuc m) (negsuc n) = ltb n m

-- Words of refusal by number

abbrev pub wanted : Request → Refusal
wanted r = Wanted r.loader r.name

unfoldable pub number : Refusal → ℕ
number (Wanted l n) = word_wanted
number (Word n) = n

-- the number of a step's answer and of a call's: 0 if it isn't refused. A run that ends in a refused step is itself accepted.
unfoldable pub number_of_step : Answer → ℕ
number_of_step Idle = 0
number_of_step (Ran k) = 0
number_of_step (Finished k n) = 0
number_of_step (Refused r) = number r

unfoldable pub number_of : Reply → ℕ
number_of Accepted = 0
number_of (Defined c) = 0
number_of (Stepped a) = number_of_step a
number_of (RanFor n a) = 0
number_of (Swept n) = 0
number_of (Denied r) = number r

-- the number that a run ends in, and the count of its steps that ran
unfoldable pub ends_in : Reply → ℕ
ends_in Accepted = 0
ends_in (Defined c) = 0
ends_in (Stepped a) = 0
ends_in (RanFor n a) = number_of_step a
ends_in (Swept n) = 0
ends_in (Denied r) = 0

unfoldable pub count_of : Reply → ℕ
count_of Accepted = 0
count_of (Defined c) = 0
count_of (Stepped a) = 0
count_of (RanFor n a) = n
count_of (Swept n) = 0
count_of (Denied r) = 0

-- An answer's numbers, as a host's cells hold them and a script's line prints them: the refusal's, then three details; an int is its 32 bits

abbrev pub line : ℕ → ℕ → ℕ → ℕ → Details
line n a b c = record { refusal = n; one = a; two = b; three = c }

-- wanted: loader, name, and the task whose step wants it, 0 if no step does
unfoldable pub refusal_details : ℕ → Refusal → Details
refusal_details k (Wanted l n) = line word_wanted l n k
refusal_details k (Word n) = line n 0 0 0

-- idle, ran or finished as 0, 1, 2; the task; the result or 0. `turn` is the task whose turn it was.
unfoldable pub step_details : ℕ → Answer → Details
step_details turn Idle = line 0 0 0 0
step_details turn (Ran k) = line 0 1 k 0
step_details turn (Finished k n) = line 0 2 k n
step_details turn (Refused r) = refusal_details turn r

-- a run's are those of its last answer; `count_of` gives its count, `ends_in` the number that it ends in, and `number_of` its own, which is 0
unfoldable pub details : ℕ → Reply → Details
details turn Accepted = line 0 0 0 0
details turn (Defined c) = line 0 c 0 0
details turn (Stepped a) = step_details turn a
details turn (RanFor n a) = step_details turn a
details turn (Swept n) = line 0 n 0 0
details turn (Denied r) = refusal_details 0 r

-- as people read them: the third may be an int
pub record Shown : Type 0 where
  pub refusal : ℕ
  pub one : ℕ
  pub two : ℕ
  pub three : ℤ

unfoldable pub shown : Details → Shown
shown d = record { refusal = d.refusal; one = d.one; two = d.two; three = signed d.three }

-- A value, or a refusal; in sequence, the first refusal

pub data Result (A : Type 0) : Type 0 where
  refused : Refusal → Result A
  ok : A → Result A

infixl 10 ◌>>=◌
unfoldable pub ◌>>=◌ : {A B : Type 0} → Result A → (A → Result B) → Result B
(refused w) >>= f = refused w
(ok a) >>= f = f a

unfoldable pub need : Bool → Refusal → Result (Unit {0})
need true w = ok tt
need false w = refused w

unfoldable pub take? : {A : Type 0} → Option A → Refusal → Result A
take? none w = refused w
take? (some a) w = ok a
