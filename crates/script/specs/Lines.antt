-- A line by its first two bytes: a letter alone, a letter and a space before the fields of its call, or no line.
use Rattle.std.specs.Prelude.{◌≡◌, refl, Bool, true, false, List, [], ◌∷◌, ◌≢◌, ℕ, ◌≤◌, ◌<◌, length, get_or, drop, eqb, leb}
use Rattle.std.proofs.Common.{sym, ◌∙◌, arith, eqb-true, le-leb}
use Rattle.std.proofs.Math.Option.{none}
use Rattle.std.proofs.lemmas.Bool.{eqb-false, lt-leb}
use Rattle.definition.specs.Maybe.{◌>>=◌, need}
use Rattle.definition.specs.Script.{fields, grow, command, command_of, read_line}
use Rattle.script.specs.Parts.{fields-space, fields-other}
use Rattle.script.specs.Calls.{single_line, no_line, fields-some}
use Rattle.script.specs.Numbers.{bind-none}

readable : (s : List ℕ) → length s ≤ 65536 → read_line s ≡ command_of (fields s)
unfolding read_line ◌>>=◌ need
readable s h = rw (le-leb (length s) 65536 h)

pub line-long : (s : List ℕ) → 65536 < length s → read_line s ≡ none
unfolding read_line ◌>>=◌ need
line-long s h = rw (lt-leb (length s) 65536 h)

pub line-one : (s : List ℕ) → length s ≡ 1 → read_line s ≡ single_line (get_or s 0 0)
unfolding fields grow command_of command single_line ◌>>=◌ need
line-one [] h = absurd (omega arith)
line-one (b ∷ []) h = readable (b ∷ []) (omega arith) ∙ step (eqb b 32) refl
  where
    step : (t : Bool) → eqb b 32 ≡ t → command_of (fields (b ∷ [])) ≡ single_line b
    step true q = rw (fields-space b [] (eqb-true b 32 q), eqb-true b 32 q)
    step false q = rw (fields-other b [] (eqb-false b 32 q))
line-one (b ∷ c ∷ s) h = absurd (omega arith)

-- a letter and a byte that is no space, or no byte at all
pub line-joined : (s : List ℕ) → length s ≢ 1 → get_or s 1 0 ≢ 32 → read_line s ≡ none
unfolding read_line fields grow command_of ◌>>=◌ need
line-joined [] one h = refl
line-joined (b ∷ []) one h = absurd (one refl)
line-joined (b ∷ c ∷ s) one h = bind-none (need (leb (length (b ∷ c ∷ s)) 65536)) _ (λ _. step (eqb b 32) refl)
  where
    step : (t : Bool) → eqb b 32 ≡ t → command_of (fields (b ∷ c ∷ s)) ≡ none
    step true q = rw (fields-space b (c ∷ s) (eqb-true b 32 q))
    step false q =
        rw (fields-other b (c ∷ s) (eqb-false b 32 q), fields-other c s h)
        (fields-some (λ fs. command_of (grow b (grow c fs)) ≡ none) (λ x xs. refl) s)

pub line-call : (s : List ℕ) → length s ≤ 65536 → length s ≢ 1 → get_or s 1 0 ≡ 32 → read_line s ≡ command (get_or s 0 0) (fields (drop 2 s))
unfolding grow command_of
line-call [] l one h = absurd (omega arith)
line-call (b ∷ []) l one h = absurd (one refl)
line-call (b ∷ c ∷ s) l one h = readable (b ∷ c ∷ s) l ∙ step (eqb b 32) refl
  where
    spaced : b ≡ 32 → command b (fields s) ≡ none
    spaced e = no_line b s (rw e) (rw e) (rw e) (rw e)

    step : (t : Bool) → eqb b 32 ≡ t → command_of (fields (b ∷ c ∷ s)) ≡ command b (fields s)
    step true q = rw (fields-space b (c ∷ s) (eqb-true b 32 q)) (sym (spaced (eqb-true b 32 q)))
    step false q = rw (fields-other b (c ∷ s) (eqb-false b 32 q), fields-space c s h)
