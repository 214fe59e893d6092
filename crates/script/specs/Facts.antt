-- What a line that reads has: its letter is its first byte, its call is one of five, and a file in it has at most 32,768 bytes.
use Rattle.std.specs.Prelude.{◌≡◌, refl, Bool, true, false, List, ℕ, ◌/◌, ◌≤◌, length, get_or, drop, eqb, ltb}
use Rattle.std.proofs.Common.{sym, ap, subst, ◌∙◌, arith, length-drop, eqb-true, ltb-true, ltb-false}
use Rattle.std.proofs.Math.Option.{Option, none, some}
use Rattle.std.proofs.lemmas.Bool.{eqb-false}
use Rattle.definition.specs.Maybe.{◌>>=◌, need}
use Rattle.definition.specs.Lists.{is_some}
use Rattle.definition.specs.Calls.{row_define, row_record, row_start, row_drop, row_sweep, row_try, row_take_back, Call, call_boot, call_rows, call_define, call_record, call_start, call_step, call_run, call_drop}
use Rattle.definition.specs.Script.{Line, line, short, int, file, fields, command, read_line}
use Rattle.script.specs.Parts.{Head, head_of}
use Rattle.script.specs.Files.{quick_pairs, pairs-length, file-quick}
use Rattle.script.specs.Calls.{with_head, drop_line, define_line, record_line, method_line, start_line, single_line, drop-line, define-line, record-line, start-line, no_line}
use Rattle.script.specs.Lines.{line-long, line-one, line-joined, line-call}

-- the calls that a line can ask for, with their files of at most n bytes
abbrev pub Asked : ℕ → Call → Type 0
Asked n call_boot = ⊥
Asked n (call_rows (row_define l bs)) = length bs ≤ n
Asked n (call_rows (row_record l m c)) = Unit {0}
Asked n (call_rows (row_start k l m j i)) = Unit {0}
Asked n call_step = Unit {0}
Asked n (call_run k) = ⊥
Asked n (call_rows (row_drop k)) = Unit {0}
Asked n (call_rows row_sweep) = ⊥
Asked n (call_rows row_take_back) = ⊥
Asked n (call_rows (row_try c m)) = ⊥

pub record Facts (b n : ℕ) (l : Line) : Type 0 where
  pub letter : l.letter ≡ b
  pub asked : Asked n l.call

-- a reading in sequence that reads, by its parts

then_some : {A : Type 0} {P : Type 0} (o : Option A) (f : A → Option Line) (l : Line) → (o >>= f) ≡ some l → ((a : A) → o ≡ some a → f a ≡ some l → P) → P
unfolding ◌>>=◌
then_some none f l e k = let z : ◌≡◌ {A = ℕ} 0 1 = cc in absurd (omega arith)
then_some (some a) f l e k = k a refl e

head-some : {P : Type 0} (o : Option Head) (s : List ℕ) (f : ℕ → List ℕ → Option Line) (l : Line) → with_head o s f ≡ some l
    → ((n : ℕ) (t : List ℕ) → length t ≤ length s → f n t ≡ some l → P) → P
unfolding with_head
head-some none s f l e k = let z : ◌≡◌ {A = ℕ} 0 1 = cc in absurd (omega arith)
head-some (some head) s f l e k = k head.number (drop head.rest s) (omega (arith, length-drop head.rest s)) e

fact : (b n : ℕ) (c : Call) (l : Line) → Asked n c → line b c ≡ some l → Facts b n l
fact b n c l a e = let same : record { letter = b; call = c } ≡ l = cc in
    subst (λ (m : Line). Facts b n m) same (record { letter = refl; asked = a })

file-small : (s bs : List ℕ) → file s ≡ some bs → length bs ≤ length s / 2
unfolding is_some
file-small s bs e =
    let quick : some (quick_pairs s) ≡ some bs = sym (file-quick s (ap is_some e)) ∙ e in
    let same : quick_pairs s ≡ bs = cc in
    omega (arith, pairs-length s, ap length same)

module _ (s : List ℕ) (l : Line) where
  single-facts : (b n : ℕ) → single_line b ≡ some l → Facts b n l
  unfolding single_line
  single-facts b n e = then_some (need (eqb b 78)) _ l e (λ _ _ q. fact b n call_step l tt q)

  drop-facts : (n : ℕ) → drop_line s ≡ some l → Facts 88 n l
  unfolding drop_line
  drop-facts n e = then_some (short s) _ l e (λ k _ q. fact 88 n (call_drop k) l tt q)

  define-facts : (n : ℕ) → length s / 2 ≤ n → define_line s ≡ some l → Facts 68 n l
  unfolding define_line
  define-facts n h e =
      head-some (head_of s) s _ l e (λ k t small q.
      then_some (file t) _ l q (λ bs p r. fact 68 n (call_define k bs) l (omega (arith, file-small t bs p)) r))

  record-facts : (n : ℕ) → record_line s ≡ some l → Facts 82 n l
  unfolding record_line
  record-facts n e =
      head-some (head_of s) s _ l e (λ k t _ q. head-some (head_of t) t _ l q (λ m u _ p. then_some (short u) _ l p (λ c _ r. fact 82 n (call_record k m c) l tt r)))

  start-facts : (n : ℕ) → start_line s ≡ some l → Facts 83 n l
  unfolding start_line method_line
  start-facts n e =
      head-some (head_of s) s _ l e (λ k t _ q. head-some (head_of t) t _ l q (λ j u _ p. head-some (head_of u) u _ l p (λ m v _ r.
      head-some (head_of v) v _ l r (λ i w _ x. then_some (int w) _ l x (λ a _ y. fact 83 n (call_start k j m i a) l tt y)))))

-- a call by its letter
command-facts : (b n : ℕ) (s : List ℕ) (l : Line) → length s / 2 ≤ n → command b (fields s) ≡ some l → Facts b n l
command-facts b n s l h e = step (eqb b 68) (eqb b 82) (eqb b 83) (eqb b 88) refl refl refl refl
  where
    by-letter : (k : ℕ) → b ≡ k → (command k (fields s) ≡ some l → Facts k n l) → Facts b n l
    by-letter k q f = subst (λ (j : ℕ). Facts j n l) (sym q) (f (subst (λ (j : ℕ). command j (fields s) ≡ some l) q e))

    step : (d r t x : Bool) → eqb b 68 ≡ d → eqb b 82 ≡ r → eqb b 83 ≡ t → eqb b 88 ≡ x → Facts b n l
    step true r t x p q u v = by-letter 68 (eqb-true b 68 p) (λ f. define-facts s l n h (sym (define-line s) ∙ f))
    step false true t x p q u v = by-letter 82 (eqb-true b 82 q) (λ f. record-facts s l n (sym (record-line s) ∙ f))
    step false false true x p q u v = by-letter 83 (eqb-true b 83 u) (λ f. start-facts s l n (sym (start-line s) ∙ f))
    step false false false true p q u v = by-letter 88 (eqb-true b 88 v) (λ f. drop-facts s l n (sym (drop-line s) ∙ f))
    step false false false false p q u v =
        let absent : none ≡ some l = sym (no_line b s p q u v) ∙ e in
        let z : ◌≡◌ {A = ℕ} 0 1 = cc in absurd (omega arith)

pub line-facts : (s : List ℕ) (l : Line) → read_line s ≡ some l → Facts (get_or s 0 0) 32768 l
line-facts s l e = step (ltb 65536 (length s)) (eqb (length s) 1) (eqb (get_or s 1 0) 32) refl refl refl
  where
    never : read_line s ≡ none → Facts (get_or s 0 0) 32768 l
    never q = let absent : none ≡ some l = sym q ∙ e in let z : ◌≡◌ {A = ℕ} 0 1 = cc in absurd (omega arith)

    step : (x y z : Bool) → ltb 65536 (length s) ≡ x → eqb (length s) 1 ≡ y → eqb (get_or s 1 0) 32 ≡ z → Facts (get_or s 0 0) 32768 l
    step true y z p q r = never (line-long s (ltb-true 65536 (length s) p))
    step false true z p q r = single-facts s l (get_or s 0 0) 32768 (sym (line-one s (eqb-true (length s) 1 q)) ∙ e)
    step false false false p q r = never (line-joined s (eqb-false (length s) 1 q) (eqb-false (get_or s 1 0) 32 r))
    step false false true p q r =
        let low = ltb-false 65536 (length s) p in
        command-facts (get_or s 0 0) 32768 (drop 2 s) l (omega (arith, length-drop 2 s))
        (sym (line-call s low (eqb-false (length s) 1 q) (eqb-true (get_or s 1 0) 32 r)) ∙ e)
