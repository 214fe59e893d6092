-- The tried loads, whatever the store. A try changes nothing. With a list of 512 numbers or more it answers what the load would; with a shorter one 16, but for 1
-- and 3. One that would clash lists a chain of the store as it would be after the load: the chain breaks agreement, repeats no request and no row, and has at most
-- 512 rows; every other chain that breaks agreement is longer, or as long with the higher row at the earliest position where they differ. Without a clash
-- nothing is listed.
use Rattle.std.specs.Prelude.{◌≡◌, Bool, ◌⊎◌, ℕ, suc, ◌+◌, ◌≤◌, ◌<◌, length, get_or, set, eqb, ltb}
use Rattle.std.proofs.Math.Path.{refl, sym, ap}
use Rattle.std.proofs.Common.{◌∙◌, arith, length-append, length-set, get_or-set_same, get_or-set_other}
use Rattle.std.proofs.Math.Bool.{true, false}
use Rattle.std.proofs.Math.Option.{Option, none, some}
use mathlib.Core.List.{List, [], ◌∷◌, ◌++◌, Memᴰ}
use Rattle.std.proofs.Math.Logic.{inl, inr}
use borrow.Author.Tests.{eqb-false, ne_eqb, eq-eqb}
use Rattle.definition.specs.Numbers.{list_limit}
use Rattle.definition.specs.Lists.{any, rows, write_rows}
use Rattle.definition.specs.Constraints.{World}
use Rattle.definition.specs.Tables.{Tables, RowNumbers, Rows, world_of, view, put}
use Rattle.definition.specs.Broken.{broken}
use Rattle.definition.specs.Calls.{Given, Done, done, carried, numbered_on, Load, load_define, load_record, load_rows, tried_with, try_rows, on_row_call, RowCall, row_try, call_rows, call_try, perform}
use Rattle.definition.specs.Answers.{Result, ok, refused, number, number_of}
use Rattle.definition.specs.declared.Reply.{Reply}
use Rattle.definition.specs.declared.Reply.TheVariants.{Denied}
use Rattle.definition.specs.declared.Refusal.TheVariants.{Word}
use Rattle.definition.specs.declared.Refusal.{Refusal}
use Rattle.definition.specs.Reasons.{Distinct, Breaks, reason, reason_after, Tried, tries, unlisted, listed, tried, after_load, try_load_rows, try_load}
use Rattle.laws.specs.Options.{some-bind}
use Rattle.laws.specs.Earlier.{row_before, row-order}
use Rattle.laws.specs.Chosen.{NotSooner, clash-reason, reason-breaks, reason-rest}
use Rattle.laws.specs.Listed.{breaks-once, breaks-count}
use Rattle.laws.specs.Wrapped.{ok_at, wrapped, wrap-broken, wrap-carried}
use Rattle.laws.specs.Causes.{cause, first, row_causes, define_causes, record_causes, causes}
use Rattle.laws.specs.Refusals.{Refuses, load_call, load-rows}
use Rattle.laws.specs.Refused.{Taken, rows_taken}
use Rattle.laws.specs.Tried.{Clashed, load-clash, reply_of, try-leaves, tried-long, tried-short, tried-unknown, tried_other}
use Rattle.layout.specs.Whole.{Whole}
use Rattle.layout.specs.View.{put_view}
use Rattle.layout.specs.Places.{rows_written, write_rows-length}
use Rattle.layout.specs.Rows.{Anything, all-anything}
use Rattle.layout.specs.Unbroken.{unbroken, broken-false}
use Rattle.layout.specs.InTurn.{RisesFrom, InWords, in-turn-words, numbering-on}
use Rattle.unbroken.specs.Refusing.{first-skip, first-other}
use Rattle.unbroken.specs.First.{zero_number, first-applies}

-- Numbers in turn are distinct

rises-past : (k : ℕ) (xs : List ℕ) → RisesFrom k xs → (i : ℕ) → Memᴰ i xs → k ≤ i
rises-past k [] h i never = elim never [ ]
rises-past k (x ∷ xs) h i (Memᴰ.head e) = omega (arith, h.0, e)
rises-past k (x ∷ xs) h i (Memᴰ.tail m) = omega (arith, h.0, rises-past (suc x) xs h.1 i m)

rises-both : (k : ℕ) (xs ys : List ℕ) → RisesFrom k xs → Distinct ys → ((i : ℕ) → Memᴰ i xs → Memᴰ i ys → ⊥) → Distinct (xs ++ ys)
rises-both k [] ys h d o = d
rises-both k (x ∷ xs) ys h d o = (λ m. new xs (λ n. (let l = rises-past (suc x) xs h.1 x n in omega arith)) m, rises-both (suc x) xs ys h.1 d (λ i n. o i (Memᴰ.tail n)))
  where
    new : (zs : List ℕ) → (Memᴰ x zs → ⊥) → Memᴰ x (zs ++ ys) → ⊥
    new [] p m = o x (Memᴰ.head refl) m
    new (z ∷ zs) p (Memᴰ.head e) = p (Memᴰ.head e)
    new (z ∷ zs) p (Memᴰ.tail m) = new zs (λ n. p (Memᴰ.tail n)) m

rises-distinct : (k : ℕ) (xs : List ℕ) → RisesFrom k xs → Distinct xs
rises-distinct k [] h = tt
rises-distinct k (x ∷ xs) h = (λ n. (let l = rises-past (suc x) xs h.1 x n in omega arith), rises-distinct (suc x) xs h.1)

pub words-distinct : (n : RowNumbers) → InWords n → Distinct (n.ties ++ n.subtypes)
words-distinct n w = rises-both 0 n.ties n.subtypes w.ties (rises-distinct 0 n.subtypes w.subtypes) w.once

-- the chain that is listed, of the store as it would be after the load
pub record Reasoned (r : Rows) (after : Option World) : Type 0 where
  pub world : World
  pub left : after ≡ some world
  pub chain : List ℕ
  pub found : reason_after r after ≡ some chain
  pub breaks : Breaks world (numbered_on world.ties world.subtypes r) chain
  pub rows_once : Distinct chain
  pub count : length chain ≤ 512
  pub only : (ms : List ℕ) → Breaks world (numbered_on world.ties world.subtypes r) ms → NotSooner row_before chain ms

pub clash-reasoned : (r : Rows) → Whole r → (after : Option World) → Clashed r after → Reasoned r after
unfolding reason_after reason
clash-reasoned r w after c =
    let m : RowNumbers = numbered_on c.world.ties c.world.subtypes r in
    let n = numbering-on r w.numbers c.world.ties c.world.subtypes
    (omega (arith, ap length c.ties, length-append r.ties c.new_ties)) (omega (arith, ap length c.subtypes, length-append r.subtypes c.new_subtypes)) in
    let d = words-distinct m (in-turn-words m n.turn) in
    let e = clash-reason row-order c.world m (record { ties = n.ties; subtypes = n.subtypes }) c.disagrees in
    let b = reason-breaks row-order c.world m e.0 e.1 in
    record {
      world = c.world;
      left = c.left;
      chain = e.0;
      found = some-bind after _ c.left e.1;
      breaks = b;
      rows_once = breaks-once c.world m d e.0 b;
      count = omega (arith, breaks-count c.world m d e.0 b, n.ties, n.subtypes, c.tie_room w.limits.ties, c.subtype_room w.limits.subtypes);
      only = λ ms x. reason-rest row-order c.world m e.0 ms e.1 x;
    }

-- Every clash of a load yields one

refuses-at : {A : Type 0} (P : Refusal → Type 0) (o : Result A) → Refuses P o → (x : Refusal) → o ≡ refused x → P x
refuses-at P o h x e = rw e at h

pub load-reasoned : (c : Load) (r : Rows) → Whole r → (x : Refusal) → load_rows c r ≡ refused x → number x ≡ 9 → Reasoned r (after_load c (world_of r))
load-reasoned c r w x e h = clash-reasoned r w (after_load c (world_of r)) (refuses-at _ (load_rows c r) (load-clash c r) x e h)

-- What is told and written, by what the try on rows gives

module _ (r : Rows) (after : Option World) where
  abbrev told : Refusal → List ℕ → Bool → Tried
  told x out c = elim c as (λ _. Tried) [ true ↦ listed (Denied x) (reason_after r after) out | false ↦ unlisted (Denied x) out ]

  its-told : (x : Refusal) (out : List ℕ) {c : Bool} → eqb (number x) 9 ≡ c → tried r after (refused x) out ≡ told x out c
  unfolding tried
  its-told x out q = λ i. told x out (q i)

  pub tried-reply : (o : Result (Given Reply)) (out : List ℕ) → (tried r after o out).answer ≡ reply_of o
  unfolding tried listed
  tried-reply (ok g) out = refl
  tried-reply (refused x) out = go (eqb (number x) 9) (reason_after r after)
    where
      go : (t : Bool) (c : Option (List ℕ)) → (elim t as (λ _. Tried) [ true ↦ listed (Denied x) c out | false ↦ unlisted (Denied x) out ]).answer ≡ Denied x
      go true none = refl
      go true (some ns) = refl
      go false c = refl

  -- without a clash nothing is written
  pub tried-unlisted : (o : Result (Given Reply)) (out : List ℕ) → ((x : Refusal) → o ≡ refused x → number x ≡ 9 → ⊥) → tried r after o out ≡ unlisted (reply_of o) out
  unfolding tried
  tried-unlisted (ok g) out k = refl
  tried-unlisted (refused x) out k = its-told x out (ne_eqb (number x) 9 (k x refl))

  -- on a clash the chain is written first, and its length is told
  pub tried-listed : (x : Refusal) (out ns : List ℕ) → number x ≡ 9 → reason_after r after ≡ some ns
      → tried r after (refused x) out ≡ record { answer = Denied x; count = length ns; list = write_rows set ns 0 out }
  unfolding listed
  tried-listed x out ns e f = its-told x out (eq-eqb (number x) 9 e) ∙ ap (λ (c : Option (List ℕ)). listed (Denied x) c out) f

-- The lent list: it begins with the chain, and is past it as it was

pub listed-chain : (ns out : List ℕ) → length ns ≤ length out → rows (λ i. get_or (write_rows set ns 0 out) i 0) (length ns) 0 ≡ ns
listed-chain ns out h =
    rows_written set length-set (λ t i. get_or t i 0) Anything (length out) (length ns) (λ u i x e l p. get_or-set_same u i x 0 (omega arith)) (λ u i j x l p q. get_or-set_other u j i x 0 (λ e. omega arith))
    ns 0 (omega arith) (all-anything ns) out refl

past-from : (ns : List ℕ) (i : ℕ) (out : List ℕ) (j : ℕ) → i + length ns ≤ j → get_or (write_rows set ns i out) j 0 ≡ get_or out j 0
unfolding write_rows
past-from [] i out j h = refl
past-from (n ∷ ns) i out j h = get_or-set_other (write_rows set ns (suc i) out) i j n 0 (λ e. omega arith) ∙ past-from ns (suc i) out j (omega arith)

pub listed-past : (ns out : List ℕ) (j : ℕ) → length ns ≤ j → get_or (write_rows set ns 0 out) j 0 ≡ get_or out j 0
listed-past ns out j h = past-from ns 0 out j (omega arith)

pub listed-length : (ns out : List ℕ) → length (write_rows set ns 0 out) ≡ length out
listed-length ns out = write_rows-length set length-set ns 0 out

-- On tables, whatever they hold

-- a call on rows

row-broken : (k : RowCall) (t : Tables) → broken t ≡ true → (perform (call_rows k) t).answer ≡ Denied (Word 1)
unfolding perform
row-broken k t h = ap (λ (d : Done Reply). d.answer) (wrap-broken Denied (on_row_call k) t h)

row-answer : (k : RowCall) (t : Tables) → broken t ≡ false → (perform (call_rows k) t).answer ≡ reply_of (on_row_call k (view t))
unfolding perform carried
row-answer k t h = ap (λ (d : Done Reply). d.answer) (wrap-carried Denied (on_row_call k) t h) ∙ go (on_row_call k (view t))
  where
    go : (o : Result (Given Reply)) → (carried Denied t o).answer ≡ reply_of o
    go (refused x) = refl
    go (ok g) = refl

-- what is accepted has no number of refusal
accepted-number : (k : RowCall) (r : Rows) (g : Given Reply) → on_row_call k r ≡ ok g → number_of g.answer ≡ 0
accepted-number k r g e = zero_number g.answer (ok_at Taken _ (rows_taken k r) g e)

by-broken : {P : Type 0} (t : Tables) → (broken t ≡ true → P) → (broken t ≡ false → P) → P
by-broken {P} t x y = go (broken t) refl
  where
    go : (b : Bool) → broken t ≡ b → P
    go true e = x e
    go false e = y e

pub try-broken : (c : Load) (out : List ℕ) (t : Tables) → broken t ≡ true → try_load c out t ≡ unlisted (Denied (Word 1)) out
unfolding try_load
try-broken c out t h = rw (h, try_load) refl

pub try-unbroken : (c : Load) (out : List ℕ) (t : Tables) → broken t ≡ false → try_load c out t ≡ tried (view t) (after_load c (world_of (view t))) (try_rows c (length out) (view t)) out
unfolding try_load try_load_rows
try-unbroken c out t h = rw (h, try_load) refl

-- what is told is what the call answers, and the call changes nothing

pub try-answer : (c : Load) (out : List ℕ) (t : Tables) → (try_load c out t).answer ≡ (perform (call_try c (length out)) t).answer
try-answer c out t = by-broken t
    (λ h. ap (λ (z : Tried). z.answer) (try-broken c out t h) ∙ sym (row-broken (row_try c (length out)) t h))
    (λ h. ap (λ (z : Tried). z.answer) (try-unbroken c out t h) ∙ (tried-reply (view t) (after_load c (world_of (view t))) (try_rows c (length out) (view t)) out ∙ sym (row-answer (row_try c (length out)) t h)))

pub try-changes-none : (c : Load) (n : ℕ) (t : Tables) → (perform (call_try c n) t).tables ≡ t
unfolding perform
try-changes-none c n t = wrapped Denied (try_rows c n) t (λ _ s. s ≡ t) (λ _. refl) (λ _ _. refl)
    (λ b g e. ap (λ (s : Rows). put s t) (ok_at (λ (g : Given Reply). g.rows ≡ view t) _ (try-leaves (λ s. s ≡ view t) c n (view t) refl) g e) ∙ put_view t (unbroken t b).groups)

-- of a list's length only that counts, whether it is too short
try-serves : (c : Load) (m n : ℕ) (t : Tables) → ltb m list_limit ≡ ltb n list_limit → (perform (call_try c m) t).answer ≡ (perform (call_try c n) t).answer
unfolding try_rows tried_with
try-serves c m n t e = by-broken t
    (λ h. row-broken (row_try c m) t h ∙ sym (row-broken (row_try c n) t h))
    (λ h. row-answer (row_try c m) t h ∙ (ap reply_of (go (load_rows c (view t))) ∙ sym (row-answer (row_try c n) t h)))
  where
    go : (o : Result (Given Reply)) → tried_with m (view t) o ≡ tried_with n (view t) o
    go (ok g) = rw (e, tried_with) refl
    go (refused x) = rw (e, tried_with) refl

-- so what is told of a try with one list is the call with another
pub try-done : (c : Load) (out list : List ℕ) (t : Tables) (n count : ℕ) (a : Reply) → tries a count list ≡ try_load c out t → ltb (length out) list_limit ≡ ltb n list_limit
    → done a t ≡ perform (call_try c n) t
try-done c out list t n count a e q =
    λ i. done ((ap (λ (z : Tried). z.answer) e ∙ (try-answer c out t ∙ try-serves c (length out) n t q)) i) (sym (try-changes-none c n t) i)

-- The answer is the load's own, 16 apart

-- what the load itself answers
abbrev pub own_answer : Load → Tables → Reply
own_answer c t = (perform (call_rows (load_call c)) t).answer

module _ (c : Load) (n : ℕ) (t : Tables) where
  own-answer : broken t ≡ false → own_answer c t ≡ reply_of (load_rows c (view t))
  own-answer h = row-answer (load_call c) t h ∙ ap (λ (f : Rows → Result (Given Reply)). reply_of (f (view t))) (load-rows c)

  -- on a store that isn't broken it is never 1
  not-one : broken t ≡ false → number_of (own_answer c t) ≡ 1 → ⊥
  unfolding causes row_causes define_causes record_causes any
  not-one h e = eqb-false (first (row_causes (load_call c) (view t))) 1 (go c) (sym is ∙ e)
    where
      is : number_of (own_answer c t) ≡ first (row_causes (load_call c) (view t))
      is = first-applies (call_rows (load_call c)) t ∙ (ap (λ (b : Bool). first (cause 1 b ∷ row_causes (load_call c) (view t))) h ∙ first-skip 1 (row_causes (load_call c) (view t)))

      go : (c : Load) → eqb (first (row_causes (load_call c) (view t))) 1 ≡ false
      go (load_define l bs) = first-other 1 (row_causes (load_call (load_define l bs)) (view t)) refl refl
      go (load_record l x d) = first-other 1 (row_causes (load_call (load_record l x d)) (view t)) refl refl

  -- with a list of 512 numbers or more
  pub try-own : 512 ≤ n → (perform (call_try c n) t).answer ≡ own_answer c t
  unfolding try_rows
  try-own l = by-broken t
      (λ h. row-broken (row_try c n) t h ∙ sym (row-broken (load_call c) t h))
      (λ h. row-answer (row_try c n) t h ∙ (tried-long n (view t) (load_rows c (view t)) l ∙ sym (own-answer h)))

  -- with a shorter one it is 16
  pub try-short : n < 512 → (number_of (own_answer c t) ≡ 1 → ⊥) → (number_of (own_answer c t) ≡ 3 → ⊥) → (perform (call_try c n) t).answer ≡ Denied (Word 16)
  unfolding try_rows number_of number
  try-short l one three = by-broken t
      (λ h. absurd (one (ap number_of (row-broken (load_call c) t h))))
      (λ h. row-answer (row_try c n) t h ∙ ap reply_of (tried-short n (view t) (load_rows c (view t)) l (λ x e q. three (ap number_of (own-answer h ∙ ap reply_of e) ∙ q))))

  -- unless the load's is 1 or 3, which come first
  pub try-first : (number_of (own_answer c t) ≡ 1) ⊎ (number_of (own_answer c t) ≡ 3) → (perform (call_try c n) t).answer ≡ own_answer c t
  unfolding try_rows number_of
  try-first k = by-broken t
      (λ h. row-broken (row_try c n) t h ∙ sym (row-broken (load_call c) t h))
      (λ h. row-answer (row_try c n) t h ∙ (go (load_rows c (view t)) refl (elim k [ inl e ↦ absurd (not-one h e) | inr e ↦ ap number_of (sym (own-answer h)) ∙ e ]) ∙ sym (own-answer h)))
    where
      go : (o : Result (Given Reply)) → load_rows c (view t) ≡ o → number_of (reply_of o) ≡ 3 → reply_of (tried_with n (view t) o) ≡ reply_of o
      go (ok g) z e = absurd (omega (arith, accepted-number (load_call c) (view t) g (ap (λ (f : Rows → Result (Given Reply)). f (view t)) (load-rows c) ∙ z)))
      go (refused x) z e = ap reply_of (tried-unknown n (view t) x e)

-- What is listed

-- a chain that breaks agreement, of the store as it would be after the load: the list begins with its rows, `count` of them, and is past them as it was
pub record Lists (c : Load) (out : List ℕ) (t : Tables) : Type 0 where
  pub reasoned : Reasoned (view t) (after_load c (world_of (view t)))
  pub count : (try_load c out t).count ≡ length reasoned.chain
  pub begins : rows (λ i. get_or (try_load c out t).list i 0) (try_load c out t).count 0 ≡ reasoned.chain
  pub past : (j : ℕ) → (try_load c out t).count ≤ j → get_or (try_load c out t).list j 0 ≡ get_or out j 0
  pub as_long : length (try_load c out t).list ≡ length out

module _ (c : Load) (out : List ℕ) (t : Tables) where
  -- the try on rows
  abbrev try_result : Result (Given Reply)
  try_result = try_rows c (length out) (view t)

  told-reply : broken t ≡ false → (try_load c out t).answer ≡ reply_of try_result
  told-reply h = try-answer c out t ∙ row-answer (row_try c (length out)) t h

  lists-chain : (r : Reasoned (view t) (after_load c (world_of (view t)))) (x : Refusal) → 512 ≤ length out
      → try_load c out t ≡ record { answer = Denied x; count = length r.chain; list = write_rows set r.chain 0 out } → Lists c out t
  lists-chain r x l e = record {
    reasoned = r;
    count = rw e refl;
    begins = rw e (listed-chain r.chain out (omega (arith, r.count)));
    past = rw e (λ j h. listed-past r.chain out j h);
    as_long = rw e (listed-length r.chain out);
  }

  -- every answer 9 lists one
  pub try-lists : number_of (try_load c out t).answer ≡ 9 → Lists c out t
  unfolding number_of number
  try-lists e = by-broken t
      (λ h. absurd (let z = ap (λ (d : Tried). number_of d.answer) (try-broken c out t h) in omega arith))
      (λ h. go h try_result refl (ap number_of (sym (told-reply h)) ∙ e))
    where
      go : broken t ≡ false → (o : Result (Given Reply)) → try_result ≡ o → number_of (reply_of o) ≡ 9 → Lists c out t
      go h (ok g) q k = absurd (omega (arith, accepted-number (row_try c (length out)) (view t) g q))
      go h (refused x) q k =
          let p = tried_other (length out) (view t) (load_rows c (view t)) x (unfold try_rows in q) (λ z. omega arith) (λ z. omega arith) in
          let r = load-reasoned c (view t) (broken-false t h).1 x p.1 k in
          lists-chain r x p.0 (try-unbroken c out t h ∙ (ap (λ (o : Result (Given Reply)). tried (view t) (after_load c (world_of (view t))) o out) q
          ∙ tried-listed (view t) (after_load c (world_of (view t))) x out r.chain k r.found))

  -- any other answer lists nothing, and writes nothing
  pub try-lists-none : (number_of (try_load c out t).answer ≡ 9 → ⊥) → try_load c out t ≡ unlisted (try_load c out t).answer out
  unfolding number_of
  try-lists-none k = by-broken t
      (λ h. let q = try-broken c out t h in q ∙ ap (λ (a : Reply). unlisted a out) (sym (ap (λ (d : Tried). d.answer) q)))
      (λ h. try-unbroken c out t h ∙ (tried-unlisted (view t) (after_load c (world_of (view t))) try_result out (λ x q z. k (ap number_of (told-reply h ∙ ap reply_of q) ∙ z))
      ∙ ap (λ (a : Reply). unlisted a out) (sym (told-reply h))))

  -- so every clash of the load lists one, where the list has 512 numbers or more
  pub clash-lists : 512 ≤ length out → number_of (own_answer c t) ≡ 9 → Lists c out t
  clash-lists l e = try-lists (ap number_of (try-answer c out t ∙ try-own c (length out) t l) ∙ e)
