-- A line's call read field by field, from what follows its letter and the space. It is the call that the line's fields give.
use Rattle.std.specs.Prelude.{◌≡◌, Bool, true, false, List, [], ◌∷◌, ℕ, suc, ◌+◌, ◌-◌, ◌*◌, ◌%◌, take, drop, eqb}
use Rattle.std.proofs.Math.Path.{refl, sym}
use Rattle.std.proofs.Common.{subst, ◌∙◌, arith, add-one, eqb-true}
use Rattle.std.proofs.Math.Option.{Option, none, some}
use Rattle.definition.specs.Lists.{all, is_some}
use Rattle.definition.specs.Maybe.{◌>>=◌, need}
use Rattle.definition.specs.Calls.{call_define, call_record, call_start, call_step, call_drop}
use Rattle.definition.specs.Script.{Line, line, digit, digits, decimal, up_to, short, int, hex_digit, file, fields, grow, command}
use Rattle.script.specs.Commands.{decoded, file_onto}
use Rattle.script.specs.Parts.{space_from, Head, head_read, head_in, head_of, space-cut, space-none}
use Rattle.script.specs.Numbers.{bind-none}
use Rattle.script.specs.Files.{is_hex, pairs-bad}

unfoldable pub with_head : Option Head → List ℕ → (ℕ → List ℕ → Option Line) → Option Line
with_head none s f = none
with_head (some h) s f = f h.number (drop h.rest s)

unfoldable pub drop_line : List ℕ → Option Line
drop_line s = short s >>= λ k. line 88 (call_drop k)

unfoldable pub define_line : List ℕ → Option Line
define_line s = with_head (head_of s) s λ l t. file t >>= λ bs. line 68 (call_define l bs)

unfoldable pub record_line : List ℕ → Option Line
record_line s =
    with_head (head_of s) s λ l t. with_head (head_of t) t λ n u. short u >>= λ c. line 82 (call_record l n c)

-- a start's class, method and int, after its task and loader
unfoldable pub method_line : ℕ → ℕ → List ℕ → Option Line
method_line k l s = with_head (head_of s) s λ n t. with_head (head_of t) t λ m u. int u >>= λ i. line 83 (call_start k l n m i)

unfoldable pub start_line : List ℕ → Option Line
start_line s = with_head (head_of s) s λ k t. with_head (head_of t) t λ l u. method_line k l u

-- a line of one byte
unfoldable pub single_line : ℕ → Option Line
single_line b = need (eqb b 78) >>= λ _. line b call_step

-- A field with a space is no number and no file

digits-spaced : (s : List ℕ) (n i j : ℕ) → space_from i s ≡ some j → digits n s ≡ none
unfolding space_from digits digit ◌>>=◌ need
digits-spaced [] n i j e = let z : ◌≡◌ {A = ℕ} 0 1 = cc in absurd (omega arith)
digits-spaced (b ∷ bs) n i j e = step (eqb b 32) refl e (λ d h. digits-spaced bs (n * 10 + d) (suc i) j h)
  where
    step : (t : Bool) → eqb b 32 ≡ t → elim t as (λ _. Option ℕ) [ true ↦ some i | false ↦ space_from (suc i) bs ] ≡ some j
        → ((d : ℕ) → space_from (suc i) bs ≡ some j → digits (n * 10 + d) bs ≡ none) → (digit b >>= λ d. digits (n * 10 + d) bs) ≡ none
    step true q e r = rw (eqb-true b 32 q)
    step false q e r = bind-none (digit b) _ (λ d. r d e)

up_to-spaced : (m : ℕ) (s : List ℕ) (i j : ℕ) → space_from i s ≡ some j → up_to m s ≡ none
unfolding up_to decimal ◌>>=◌
up_to-spaced m [] i j e = refl
up_to-spaced m (b ∷ bs) i j e = rw (digits-spaced (b ∷ bs) 0 i j e)

int-spaced : (s : List ℕ) (i j : ℕ) → space_from i s ≡ some j → int s ≡ none
unfolding int space_from ◌>>=◌
int-spaced [] i j e = refl
int-spaced (b ∷ bs) i j e = step (eqb b 45) refl
  where
    step : (t : Bool) → eqb b 45 ≡ t
        → ◌≡◌ {A = Option ℕ} (elim t as (λ _. Option ℕ) [ true ↦ up_to 2147483648 bs >>= λ n. some ((4294967296 - n) % 4294967296) | false ↦ up_to 2147483647 (b ∷ bs) ]) none
    step true q =
        let later : space_from (suc i) bs ≡ some j = subst (λ (k : ℕ). space_from i (k ∷ bs) ≡ some j) (eqb-true b 45 q) e in
        rw (up_to-spaced 2147483648 bs (suc i) j later)
    step false q = up_to-spaced 2147483647 (b ∷ bs) i j e

hexes-spaced : (s : List ℕ) (i j : ℕ) → space_from i s ≡ some j → all is_hex s ≡ false
unfolding space_from all is_some hex_digit ◌>>=◌ need
hexes-spaced [] i j e = let z : ◌≡◌ {A = ℕ} 0 1 = cc in absurd (omega arith)
hexes-spaced (b ∷ bs) i j e = step (eqb b 32) refl e (hexes-spaced bs (suc i) j)
  where
    after : (t : Bool) → all is_hex bs ≡ false → elim t as (λ _. Bool) [ true ↦ all is_hex bs | false ↦ false ] ≡ false
    after true h = h
    after false h = refl

    step : (t : Bool) → eqb b 32 ≡ t → elim t as (λ _. Option ℕ) [ true ↦ some i | false ↦ space_from (suc i) bs ] ≡ some j
        → (space_from (suc i) bs ≡ some j → all is_hex bs ≡ false) → all is_hex (b ∷ bs) ≡ false
    step true q e r = rw (eqb-true b 32 q)
    step false q e r = after (is_hex b) (r e)

file-spaced : (s : List ℕ) (i j : ℕ) → space_from i s ≡ some j → file s ≡ none
unfolding file
file-spaced [] i j e = refl
file-spaced (b ∷ bs) i j e = pairs-bad (b ∷ bs) (hexes-spaced (b ∷ bs) i j e)

-- Fields one by one: as many as are asked for, and no more

abbrev Reader : Type 0
Reader = List (List ℕ) → Option Line

one : (List ℕ → Option Line) → Reader
one f [] = none
one f (x ∷ []) = f x
one f (x ∷ y ∷ ys) = none

two : (List ℕ → List ℕ → Option Line) → Reader
two f [] = none
two f (x ∷ xs) = one (f x) xs

three : (List ℕ → List ℕ → List ℕ → Option Line) → Reader
three f [] = none
three f (x ∷ xs) = two (f x) xs

four : (List ℕ → List ℕ → List ℕ → List ℕ → Option Line) → Reader
four f [] = none
four f (x ∷ xs) = three (f x) xs

five : (List ℕ → List ℕ → List ℕ → List ℕ → List ℕ → Option Line) → Reader
five f [] = none
five f (x ∷ xs) = four (f x) xs

-- a number that is read first is read before the fields after it are counted

one-after : (o : Option ℕ) (g : ℕ → List ℕ → Option Line) (xs : List (List ℕ)) → one (λ z. o >>= λ n. g n z) xs ≡ (o >>= λ n. one (g n) xs)
unfolding ◌>>=◌ one
one-after (some n) g xs = refl
one-after none g [] = refl
one-after none g (x ∷ []) = refl
one-after none g (x ∷ y ∷ ys) = refl

two-after : (o : Option ℕ) (g : ℕ → List ℕ → List ℕ → Option Line) (xs : List (List ℕ)) → two (λ y z. o >>= λ n. g n y z) xs ≡ (o >>= λ n. two (g n) xs)
unfolding two
two-after o g [] = sym (bind-none o _ (λ n. refl))
two-after o g (x ∷ xs) = one-after o (λ n. g n x) xs

three-after : (o : Option ℕ) (g : ℕ → List ℕ → List ℕ → List ℕ → Option Line) (xs : List (List ℕ)) → three (λ x y z. o >>= λ n. g n x y z) xs ≡ (o >>= λ n. three (g n) xs)
unfolding three
three-after o g [] = sym (bind-none o _ (λ n. refl))
three-after o g (x ∷ xs) = two-after o (λ n. g n x) xs

four-after : (o : Option ℕ) (g : ℕ → List ℕ → List ℕ → List ℕ → List ℕ → Option Line) (xs : List (List ℕ))
    → four (λ w x y z. o >>= λ n. g n w x y z) xs ≡ (o >>= λ n. four (g n) xs)
unfolding four
four-after o g [] = sym (bind-none o _ (λ n. refl))
four-after o g (x ∷ xs) = three-after o (λ n. g n x) xs

-- Fields of a line

-- there is a first field
pub fields-some : (P : List (List ℕ) → Type 0) → ((x : List ℕ) (xs : List (List ℕ)) → P (x ∷ xs)) → (s : List ℕ) → P (fields s)
unfolding fields grow
fields-some P h [] = h [] []
fields-some P h (b ∷ bs) = step (eqb b 32)
  where
    grown : (fs : List (List ℕ)) → P (grow b fs)
    grown [] = h (b ∷ []) []
    grown (f ∷ fs) = h (b ∷ f) fs

    step : (t : Bool) → P (elim t as (λ _. List (List ℕ)) [ true ↦ [] ∷ fields bs | false ↦ grow b (fields bs) ])
    step true = h [] (fields bs)
    step false = grown (fields bs)

-- the first of several is a number, and others follow
module _ (f : Reader) (g : ℕ → Reader) (alone : (x : List ℕ) → f (x ∷ []) ≡ none)
    (first : (x y : List ℕ) (ys : List (List ℕ)) → f (x ∷ y ∷ ys) ≡ (short x >>= λ n. g n (y ∷ ys))) where
  headed : (s : List ℕ) → f (fields s) ≡ with_head (head_of s) s (λ n t. g n (fields t))
  unfolding head_of head_in head_read with_head ◌>>=◌
  headed s = step (space_from 0 s) refl
    where
      read : (o : Option ℕ) (i : ℕ) → (o >>= λ n. g n (fields (drop (i + 1) s))) ≡ with_head (head_read o (i + 1)) s (λ n t. g n (fields t))
      read none i = refl
      read (some n) i = refl

      step : (p : Option ℕ) → space_from 0 s ≡ p → f (fields s) ≡ with_head (head_in s p) s (λ n t. g n (fields t))
      step none q = rw (space-none s 0 q) (alone s)
      step (some i) q =
          let whole : i - 0 ≡ i = omega arith in
          let cut : fields s ≡ take i s ∷ fields (drop (i + 1) s) = rw (← whole, add-one) (space-cut s 0 i q).parts in
          rw cut (fields-some (λ fs. f (take i s ∷ fs) ≡ (short (take i s) >>= λ n. g n fs)) (λ y ys. first (take i s) y ys) (drop (i + 1) s) ∙ read (short (take i s)) i)

-- the last of several
module _ (f : List ℕ → Option Line) (spaced : (s : List ℕ) (i j : ℕ) → space_from i s ≡ some j → f s ≡ none) where
  last : (s : List ℕ) → one f (fields s) ≡ f s
  unfolding one
  last s = step (space_from 0 s) refl
    where
      step : (p : Option ℕ) → space_from 0 s ≡ p → one f (fields s) ≡ f s
      step none q = rw (space-none s 0 q)
      step (some i) q = rw (space-cut s 0 i q).parts (fields-some (λ fs. one f (take (i - 0) s ∷ fs) ≡ none) (λ y ys. refl) (drop (suc (i - 0)) s)) ∙ sym (spaced s 0 i q)

with_head-same : (h : Option Head) (s : List ℕ) (f g : ℕ → List ℕ → Option Line) → ((n : ℕ) (t : List ℕ) → f n t ≡ g n t) → with_head h s f ≡ with_head h s g
unfolding with_head
with_head-same none s f g e = refl
with_head-same (some h) s f g e = e h.number (drop h.rest s)

-- Calls

two-headed : (g : ℕ → List ℕ → Option Line) (s : List ℕ) → two (λ x y. short x >>= λ n. g n y) (fields s) ≡ with_head (head_of s) s (λ n t. one (g n) (fields t))
unfolding two one
two-headed g s = headed (two (λ x y. short x >>= λ n. g n y)) (λ n. one (g n)) (λ x. refl) (λ x y ys. one-after (short x) g (y ∷ ys)) s

three-headed : (g : ℕ → List ℕ → List ℕ → Option Line) (s : List ℕ)
    → three (λ x y z. short x >>= λ n. g n y z) (fields s) ≡ with_head (head_of s) s (λ n t. two (g n) (fields t))
unfolding three two one
three-headed g s = headed (three (λ x y z. short x >>= λ n. g n y z)) (λ n. two (g n)) (λ x. refl) (λ x y ys. two-after (short x) g (y ∷ ys)) s

four-headed : (g : ℕ → List ℕ → List ℕ → List ℕ → Option Line) (s : List ℕ)
    → four (λ w x y z. short w >>= λ n. g n x y z) (fields s) ≡ with_head (head_of s) s (λ n t. three (g n) (fields t))
unfolding four three two
four-headed g s = headed (four (λ w x y z. short w >>= λ n. g n x y z)) (λ n. three (g n)) (λ x. refl) (λ x y ys. three-after (short x) g (y ∷ ys)) s

five-headed : (g : ℕ → List ℕ → List ℕ → List ℕ → List ℕ → Option Line) (s : List ℕ)
    → five (λ v w x y z. short v >>= λ n. g n w x y z) (fields s) ≡ with_head (head_of s) s (λ n t. four (g n) (fields t))
unfolding five four three
five-headed g s = headed (five (λ v w x y z. short v >>= λ n. g n w x y z)) (λ n. four (g n)) (λ x. refl) (λ x y ys. four-after (short x) g (y ∷ ys)) s

-- The calls by their letters

command-drop : (fs : List (List ℕ)) → command 88 fs ≡ one (λ x. short x >>= λ k. line 88 (call_drop k)) fs
unfolding command one need ◌>>=◌
command-drop [] = refl
command-drop (x ∷ []) = refl
command-drop (x ∷ y ∷ []) = refl
command-drop (x ∷ y ∷ z ∷ []) = refl
command-drop (x ∷ y ∷ z ∷ u ∷ []) = refl
command-drop (x ∷ y ∷ z ∷ u ∷ v ∷ []) = refl
command-drop (x ∷ y ∷ z ∷ u ∷ v ∷ w ∷ fs) = refl

command-define : (fs : List (List ℕ)) → command 68 fs ≡ two (λ x y. short x >>= λ l. file y >>= λ bs. line 68 (call_define l bs)) fs
unfolding command two one need ◌>>=◌
command-define [] = refl
command-define (x ∷ []) = refl
command-define (x ∷ y ∷ []) = refl
command-define (x ∷ y ∷ z ∷ []) = refl
command-define (x ∷ y ∷ z ∷ u ∷ []) = refl
command-define (x ∷ y ∷ z ∷ u ∷ v ∷ []) = refl
command-define (x ∷ y ∷ z ∷ u ∷ v ∷ w ∷ fs) = refl

command-record : (fs : List (List ℕ)) → command 82 fs ≡ three (λ x y z. short x >>= λ l. short y >>= λ n. short z >>= λ c. line 82 (call_record l n c)) fs
unfolding command three two one need ◌>>=◌
command-record [] = refl
command-record (x ∷ []) = refl
command-record (x ∷ y ∷ []) = refl
command-record (x ∷ y ∷ z ∷ []) = refl
command-record (x ∷ y ∷ z ∷ u ∷ []) = refl
command-record (x ∷ y ∷ z ∷ u ∷ v ∷ []) = refl
command-record (x ∷ y ∷ z ∷ u ∷ v ∷ w ∷ fs) = refl

command-start : (fs : List (List ℕ))
    → command 83 fs ≡ five (λ x y z u v. short x >>= λ k. short y >>= λ l. short z >>= λ n. short u >>= λ m. int v >>= λ i. line 83 (call_start k l n m i)) fs
unfolding command five four three two one need ◌>>=◌
command-start [] = refl
command-start (x ∷ []) = refl
command-start (x ∷ y ∷ []) = refl
command-start (x ∷ y ∷ z ∷ []) = refl
command-start (x ∷ y ∷ z ∷ u ∷ []) = refl
command-start (x ∷ y ∷ z ∷ u ∷ v ∷ []) = refl
command-start (x ∷ y ∷ z ∷ u ∷ v ∷ w ∷ fs) = refl

number-last : (f : ℕ → Option Line) (s : List ℕ) → one (λ x. short x >>= f) (fields s) ≡ (short s >>= f)
unfolding ◌>>=◌
number-last f s = last (λ x. short x >>= f) (λ t i j e. rw (up_to-spaced 65535 t i j e)) s

pub drop-line : (s : List ℕ) → command 88 (fields s) ≡ drop_line s
unfolding drop_line
drop-line s = command-drop (fields s) ∙ number-last (λ k. line 88 (call_drop k)) s

pub define-line : (s : List ℕ) → command 68 (fields s) ≡ define_line s
unfolding define_line ◌>>=◌
define-line s =
    command-define (fields s) ∙ two-headed (λ l y. file y >>= λ bs. line 68 (call_define l bs)) s
    ∙ with_head-same (head_of s) s _ _ (λ l t. last (λ y. file y >>= λ bs. line 68 (call_define l bs)) (λ u i j e. rw (file-spaced u i j e)) t)

pub record-line : (s : List ℕ) → command 82 (fields s) ≡ record_line s
unfolding record_line
record-line s =
    command-record (fields s) ∙ three-headed (λ l y z. short y >>= λ n. short z >>= λ c. line 82 (call_record l n c)) s
    ∙ with_head-same (head_of s) s _ _ (λ l t. two-headed (λ n z. short z >>= λ c. line 82 (call_record l n c)) t
    ∙ with_head-same (head_of t) t _ _ (λ n u. number-last (λ c. line 82 (call_record l n c)) u))

pub start-line : (s : List ℕ) → command 83 (fields s) ≡ start_line s
unfolding start_line method_line ◌>>=◌
start-line s =
    command-start (fields s) ∙ five-headed (λ k y z u v. short y >>= λ l. short z >>= λ n. short u >>= λ m. int v >>= λ i. line 83 (call_start k l n m i)) s
    ∙ with_head-same (head_of s) s _ _ (λ k t. four-headed (λ l z u v. short z >>= λ n. short u >>= λ m. int v >>= λ i. line 83 (call_start k l n m i)) t
    ∙ with_head-same (head_of t) t _ _ (λ l u. three-headed (λ n y v. short y >>= λ m. int v >>= λ i. line 83 (call_start k l n m i)) u
    ∙ with_head-same (head_of u) u _ _ (λ n v. two-headed (λ m w. int w >>= λ i. line 83 (call_start k l n m i)) v
    ∙ with_head-same (head_of v) v _ _ (λ m w. last (λ z. int z >>= λ i. line 83 (call_start k l n m i)) (λ z i j e. rw (int-spaced z i j e)) w))))

-- no call has another letter
pub no_line : (b : ℕ) (s : List ℕ) → eqb b 68 ≡ false → eqb b 82 ≡ false → eqb b 83 ≡ false → eqb b 88 ≡ false → command b (fields s) ≡ none
unfolding command need ◌>>=◌
no_line b s d r t x = fields-some (λ fs. command b fs ≡ none) none_read s
  where
    none_read : (f : List ℕ) (fs : List (List ℕ)) → command b (f ∷ fs) ≡ none
    none_read f [] = rw x
    none_read f (g ∷ []) = rw d
    none_read f (g ∷ h ∷ []) = rw r
    none_read f (g ∷ h ∷ u ∷ []) = refl
    none_read f (g ∷ h ∷ u ∷ v ∷ []) = rw t
    none_read f (g ∷ h ∷ u ∷ v ∷ w ∷ fs) = refl

-- Only a define writes into the table for a file's bytes

abbrev Keeps : Option Line → Type 0
Keeps o = (t : List ℕ) → decoded o t ≡ t

head-keeps : (h : Option Head) (s : List ℕ) (f : ℕ → List ℕ → Option Line) → ((n : ℕ) (u : List ℕ) → Keeps (f n u)) → Keeps (with_head h s f)
unfolding with_head decoded
head-keeps none s f k t = refl
head-keeps (some h) s f k t = k h.number (drop h.rest s) t

then_keeps : {A : Type 0} (o : Option A) (f : A → Option Line) → ((a : A) → Keeps (f a)) → Keeps (o >>= f)
unfolding ◌>>=◌ decoded
then_keeps none f k t = refl
then_keeps (some a) f k t = k a t

pub single-keeps : (b : ℕ) → Keeps (single_line b)
unfolding single_line decoded file_onto
single-keeps b = then_keeps (need (eqb b 78)) _ (λ _ t. refl)

pub drop_keeps : (s : List ℕ) → Keeps (drop_line s)
unfolding drop_line decoded file_onto
drop_keeps s = then_keeps (short s) _ (λ k t. refl)

pub record-keeps : (s : List ℕ) → Keeps (record_line s)
unfolding record_line decoded file_onto
record-keeps s = head-keeps (head_of s) s _ (λ l u. head-keeps (head_of u) u _ (λ n v. then_keeps (short v) _ (λ c t. refl)))

pub start-keeps : (s : List ℕ) → Keeps (start_line s)
unfolding start_line method_line decoded file_onto
start-keeps s =
    head-keeps (head_of s) s _ (λ k u. head-keeps (head_of u) u _ (λ l v. head-keeps (head_of v) v _ (λ n w. head-keeps (head_of w) w _ (λ m x. then_keeps (int x) _ (λ i t. refl)))))
