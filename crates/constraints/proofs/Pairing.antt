-- Pairs of cached requests. What is found of two by marks, and when it says that they agree; the turns, after which the newcomer agrees with all, each request with
-- its group's first, and each first of a group with what it leads to as far as the next cached requests; and that all pairs agree once every turn is over: what a request leads to beyond a cached one, that
-- one leads to, and below is transitive.
use mathlib.Core.Path.{◌≡◌, refl, sym, ap, ◌∙◌}
use mathlib.Core.Bool.{Bool, true, false, false≢true}
use mathlib.Core.Option.{Option}
use mathlib.Core.List.{List, []}
use mathlib.Core.Logic.{◌⊎◌, inl, inr}
use Prim.Native.Nat.{ℕ, zero, suc, ◌+◌, ◌<◌, ◌≤◌}
use native.Mathlib.Omega.{arith}
use lib.ListN.{get_or}
use lib.Dec.{eqb, ltb}
use borrow.Author.Tests.{eqb-true, eqb-false, eq-eqb, ne_eqb, ltb-true, ltb-false}
use Rattle.definition.specs.Lists.{rows, all}
use Rattle.definition.specs.Chains.{Edge, leads}
use Rattle.definition.specs.Requests.{Request, at, same_request}
use Rattle.definition.specs.Superclasses.{Below, Falls, below, same}
use Rattle.laws.specs.Agreement.{all-at, all_of}
use Rattle.laws.specs.Chains.{requests, leads-chain, chain-leads}
use Rattle.laws.specs.Upward.{below_true, true_below, below-trans}
use Rattle.constraints.specs.Groups.{Rooted}
use Rattle.constraints.specs.Search.{start_of, links_of, leads_on, Led, Link, Marked}
use Rattle.constraints.specs.Upward.{is_above}
use Rattle.std.specs.Prelude as P
use Rattle.constraints.specs.Pairs.{Found, pair, reach, Meets, ToMeet, pair_is, pair_on, agree_on, out_marked, in_marked, PairFine, NextMet, Judged, fine, tied, out, into, Fresh, Finding, agree, apart}
use Rattle.constraints.specs.Looking.{Span, request_at, lead_of, NextTurn, Links, Tables, LookedFirst, LookedTies, LookedAhead, Looked}
use Rattle.constraints.proofs.Rows.{Order, less, equal, more, order, in_rows, rows_in}
use Rattle.constraints.proofs.Searching.{led-holds}
use Rattle.constraints.proofs.Looks.{tables_more}
use Rattle.constraints.proofs.Supers.{above-below}

-- what a test of n places says of each
all-places : (f : ℕ → Bool) (n : ℕ) → all f (rows (λ i. i) n 0) ≡ true → (i : ℕ) → i < n → f i ≡ true
all-places f n h i l = all-at f h (in_rows (λ (j : ℕ). j) n 0 i (omega arith) (omega arith))

places-all : (f : ℕ → Bool) (n : ℕ) → ((i : ℕ) → i < n → f i ≡ true) → all f (rows (λ i. i) n 0) ≡ true
places-all f n h =
    all_of f (rows (λ i. i) n 0) (λ i m. let p = rows_in (λ (j : ℕ). j) n 0 i m in rw p.is (h p.number (omega (arith, p.high))))

-- What is found of two by marks

-- a test that a mark decides
module _ (marks : List ℕ) (stamp group : ℕ) where
  unmarked-test : (t : Bool) → (Marked stamp marks group → ⊥) → (elim (eqb (get_or marks group 0) stamp) as (λ _. Bool) [ true ↦ t | false ↦ true ]) ≡ true
  unmarked-test t n = rw (ne_eqb (get_or marks group 0) stamp n) refl

  marked-test : (t : Bool) → Marked stamp marks group → (elim (eqb (get_or marks group 0) stamp) as (λ _. Bool) [ true ↦ t | false ↦ true ]) ≡ t
  marked-test t m = rw (eq-eqb (get_or marks group 0) stamp m) refl

  failed-test : (t : Bool) → (elim (eqb (get_or marks group 0) stamp) as (λ _. Bool) [ true ↦ t | false ↦ true ]) ≡ false → Marked stamp marks group × (t ≡ false)
  failed-test t h = go (eqb (get_or marks group 0) stamp) refl h
    where
      go : (s : Bool) → eqb (get_or marks group 0) stamp ≡ s → (elim s as (λ _. Bool) [ true ↦ t | false ↦ true ]) ≡ false → Marked stamp marks group × (t ≡ false)
      go true e q = (eqb-true (get_or marks group 0) stamp e, q)
      go false e q = absurd (false≢true (sym q))

module _ (marks aboves classes : List ℕ) (stamp group a b : ℕ) where
  pub marked-out : Marked stamp marks group → out_marked marks aboves classes stamp group a b ≡ is_above aboves stamp (get_or classes a 0) (get_or classes b 0)
  unfolding out_marked
  marked-out m = marked-test marks stamp group (is_above aboves stamp (get_or classes a 0) (get_or classes b 0)) m

  pub unmarked-out : (Marked stamp marks group → ⊥) → out_marked marks aboves classes stamp group a b ≡ true
  unfolding out_marked
  unmarked-out n = unmarked-test marks stamp group (is_above aboves stamp (get_or classes a 0) (get_or classes b 0)) n

module _ (sup : ℕ → Option ℕ) (marks classes : List ℕ) (stamp group a b : ℕ) where
  pub marked-into : Marked stamp marks group → in_marked sup marks classes stamp group a b ≡ below sup (get_or classes b 0) (get_or classes a 0)
  unfolding in_marked
  marked-into m = marked-test marks stamp group (below sup (get_or classes b 0) (get_or classes a 0)) m

  pub unmarked-into : (Marked stamp marks group → ⊥) → in_marked sup marks classes stamp group a b ≡ true
  unfolding in_marked
  unmarked-into n = unmarked-test marks stamp group (below sup (get_or classes b 0) (get_or classes a 0)) n

module _ (sup : ℕ → Option ℕ) (groups classes outs ins aboves : List ℕ) (stamp a b : ℕ) where
  abbrev c : ℕ
  c = get_or classes a 0

  abbrev d : ℕ
  d = get_or classes b 0

  abbrev g : ℕ
  g = get_or groups b 0

  abbrev Apart : Type 0
  Apart = get_or groups a 0 ≡ g → ⊥

  abbrev Verdict : Found → Type 0
  Verdict = Judged sup groups classes outs ins aboves stamp a b

  -- tied ones of one class
  pub judged-same : get_or groups a 0 ≡ g → c ≡ d → Verdict P.None
  judged-same q e = fine (record { tied = λ _. e; out = λ n. absurd (n q); into = λ n. absurd (n q) })

  -- others, by the tests of their marks
  module _ (n : Apart) where
    pub judged-out : out_marked outs aboves classes stamp g a b ≡ false → Verdict (pair a b)
    unfolding out_marked
    judged-out h = let r = failed-test outs stamp g (is_above aboves stamp c d) h in out n r.0 r.1

    pub judged-into : in_marked sup ins classes stamp g a b ≡ false → Verdict (pair b a)
    unfolding in_marked
    judged-into h = let r = failed-test ins stamp g (below sup d c) h in into n r.0 r.1

    pub judged-both : out_marked outs aboves classes stamp g a b ≡ true → in_marked sup ins classes stamp g a b ≡ true → Verdict P.None
    unfolding out_marked in_marked
    judged-both h k = fine (record {
      tied = λ q. absurd (n q);
      out = λ _ m. sym (marked-test outs stamp g (is_above aboves stamp c d) m) ∙ h;
      into = λ _ m. sym (marked-test ins stamp g (below sup d c) m) ∙ k;
    })

  -- none is found
  pub judged-fine : {r : Found} → Verdict r → P.is_some r ≡ false → PairFine sup groups classes outs ins aboves stamp a b
  judged-fine (fine f) h = f
  judged-fine (tied q n) h = absurd (false≢true (sym h))
  judged-fine (out n m k) h = absurd (false≢true (sym h))
  judged-fine (into n m k) h = absurd (false≢true (sym h))

-- Turns

-- the search from a is done, and the cached requests that it marks have a's class or one above it
pub record Passed (sup : ℕ → Option ℕ) (groups classes : List ℕ) (n noted a : ℕ) : Type 0 where
  pub stamp : ℕ
  pub marks : List ℕ
  pub first : (y : ℕ) → Link groups n (n + noted) noted a y → Marked stamp marks y
  pub closed : (x y : ℕ) → n ≤ x → Marked stamp marks x → Link groups n (n + noted) noted x y → Marked stamp marks y
  pub fit : (b : ℕ) → b < n → Marked stamp marks b → Below sup (get_or classes a 0) (get_or classes b 0)

-- the turns before this one are over
pub record Tested (sup : ℕ → Option ℕ) (groups classes : List ℕ) (n noted new turn : ℕ) (outs ins queue aboves : List ℕ) : Type 0 where
  pub is_new : turn ≡ 0 → new < n
  pub tables : Tables noted turn outs ins queue aboves
  pub fresh : 0 < turn → new < n → Fresh sup groups classes n noted new
  pub tied : 1 < turn → (m : ℕ) → m < n → get_or classes (get_or groups m 0) 0 ≡ get_or classes m 0
  pub done : (m : ℕ) → suc (suc m) < turn → m < n → Passed sup groups classes n noted m

-- a request of the turn
pub turn-fits : {turn a n : ℕ} (new : ℕ) → (turn ≡ 0 → new < n) → turn ≤ n + 1 → a ≡ request_at turn new → (turn ≡ 1 → ⊥) → a < n
unfolding request_at
turn-fits {turn = zero} new f h e d = rw e (f refl)
turn-fits {turn = suc zero} new f h e d = absurd (d refl)
turn-fits {turn = suc (suc m)} new f h e d = rw e (omega arith)

-- what was looked at is fine up to the next place that is to be looked at
pub right-on : (F : ℕ → Type 0) {groups marks : List ℕ} {stamp from b end : ℕ} {r : P.Option ℕ} {who : Meets} → ((p : ℕ) → p < b → from ≤ p → ToMeet who groups marks stamp p → F p)
    → F b → NextMet groups marks stamp who (b + 1) end r → (p : ℕ) → p < reach end r → from ≤ p → ToMeet who groups marks stamp p → F p
right-on F {b = b} before here next p h l k = go (order p b)
  where
    go : Order p b → F p
    go (less q) = before p q l k
    go (equal q) = rw q here
    go (more q) = absurd (next.none p h (omega arith) k)

module _ (sup : ℕ → Option ℕ) (falls : Falls sup) (groups classes : List ℕ) (n noted : ℕ) where
  abbrev class : ℕ → ℕ
  class a = get_or classes a 0

  abbrev group : ℕ → ℕ
  group a = get_or groups a 0

  abbrev the_links : List (Edge Request)
  the_links = links_of groups n (n + noted) noted

  abbrev Onto : ℕ → ℕ → Type 0
  Onto = Led groups n (n + noted) noted

  abbrev Linked : ℕ → ℕ → Type 0
  Linked = Link groups n (n + noted) noted

  -- A pair agrees, or not

  pair-true : (a b : ℕ) → (group a ≡ group b → class a ≡ class b) → ((group a ≡ group b → ⊥) → Onto (group a) (group b) → Below sup (class a) (class b))
      → pair_on sup groups classes n noted a b ≡ true
  unfolding pair_on pair_is leads_on
  pair-true a b t l = go (eqb (group a) (group b)) refl (leads same_request the_links (at 0 (group a)) (at 0 (group b))) refl
    where
      go : (x : Bool) → eqb (group a) (group b) ≡ x → (y : Bool) → leads same_request the_links (at 0 (group a)) (at 0 (group b)) ≡ y
          → (elim x as (λ _. Bool) [ true ↦ eqb (class a) (class b) | false ↦ elim y as (λ _. Bool) [ true ↦ below sup (class a) (class b) | false ↦ true ] ]) ≡ true
      go true e y q = eq-eqb (class a) (class b) (t (eqb-true (group a) (group b) e))
      go false e true q =
          true_below sup falls (class a) (class b)
          (l (eqb-false (group a) (group b) e) (leads-chain requests the_links (at 0 (group a)) (at 0 (group b)) q))
      go false e false q = refl

  tied-false : (a b : ℕ) → group a ≡ group b → (class a ≡ class b → ⊥) → pair_on sup groups classes n noted a b ≡ false
  unfolding pair_on pair_is
  tied-false a b e d = rw (eq-eqb (group a) (group b) e, pair_is) (ne_eqb (class a) (class b) d)

  led-false : (a b : ℕ) → (group a ≡ group b → ⊥) → Onto (group a) (group b) → below sup (class a) (class b) ≡ false
      → pair_on sup groups classes n noted a b ≡ false
  unfolding pair_on pair_is leads_on
  led-false a b d c h = rw (ne_eqb (group a) (group b) d, chain-leads requests the_links (at 0 (group a)) (at 0 (group b)) c, pair_is) h

  -- Links and what they lead to

  module _ (rooted : Rooted groups (n + noted + noted)) where
    start-own : {x y : ℕ} → Linked x y → group x ≡ x
    unfolding start_of
    start-own l = rw l.start at (rooted.top (n + l.number) (omega (arith, l.fits)))

    end-own : {x y : ℕ} → Linked x y → group y ≡ y
    unfolding start_of
    end-own l = rw l.end at (rooted.top (n + noted + l.number) (omega (arith, l.fits)))

    -- what a group leads to is a group
    end-group : {a b : ℕ} → group a ≡ a → Onto a b → group b ≡ b
    end-group {a} {b} h c = led-holds groups n (n + noted) noted (λ y. group y ≡ y) h (λ x y l _. end-own l) b c

    -- The turn of a request

    -- nothing is marked where no link starts
    passed-unlinked : (a : ℕ) → ((y : ℕ) → Linked a y → ⊥) → Passed sup groups classes n noted a
    passed-unlinked a none = record {
      stamp = 1;
      marks = [];
      first = λ y k. absurd (none y k);
      closed = λ x y h m. absurd (omega arith);
      fit = λ b h m. absurd (omega arith);
    }

    passed_none : {heads nexts : List ℕ} → n ≤ 1280 → Links groups n noted heads nexts → (a : ℕ) → a < n → (noted ≡ 0) ⊎ (get_or heads a 0 ≡ 0)
        → Passed sup groups classes n noted a
    passed_none {heads} {nexts} room l a h z = passed-unlinked a (none l z)
      where
        none : Links groups n noted heads nexts → (noted ≡ 0) ⊎ (get_or heads a 0 ≡ 0) → (y : ℕ) → Linked a y → ⊥
        none (inl e) z y k = omega (arith, k.fits)
        none (inr j) (inl e) y k = omega (arith, k.fits)
        none (inr j) (inr e) y k = (j.head a (omega arith)).none k.number (omega arith) k.fits k.start

    module _ {turn a : ℕ} {outs ins queue aboves : List ℕ} {span : Span} (looked : Looked sup groups classes n noted turn a outs ins queue aboves span) where
      -- a class above a's, by the marks
      above-out : (b : ℕ) → Marked (suc turn) outs (group b) → is_above aboves (suc turn) (class a) (class b) ≡ below sup (class a) (class b)
      above-out b m = above-below aboves (suc turn) (class a) (class b) sup falls (looked.raised (group b) m)

      -- what was looked at and found fine
      abbrev AllRight : Type 0
      AllRight = (p : ℕ) → p < span.end → span.from ≤ p → ToMeet span.who groups outs (suc turn) p
          → PairFine sup groups classes outs ins aboves (suc turn) (lead_of turn groups a p) p

      -- a pair of a and b that breaks agreement is found
      apart-turn : {new b : ℕ} {r : Found} → a < n → ((a ≡ new) ⊎ (new < n → Fresh sup groups classes n noted new)) → b < span.end
          → Judged sup groups classes outs ins aboves (suc turn) a b r → P.is_some r ≡ true → Finding sup groups classes n noted new r
      apart-turn {new} {b} fits side h j p = by j p
        where
          low : b < n
          low = omega (arith, looked.low)

          left : (a ≡ new) ⊎ (new < n → Fresh sup groups classes n noted new) → ((a ≡ new) ⊎ (b ≡ new)) ⊎ (new < n → Fresh sup groups classes n noted new)
          left (inl e) = inl (inl e)
          left (inr f) = inr f

          right : (a ≡ new) ⊎ (new < n → Fresh sup groups classes n noted new) → ((b ≡ new) ⊎ (a ≡ new)) ⊎ (new < n → Fresh sup groups classes n noted new)
          right (inl e) = inl (inr e)
          right (inr f) = inr f

          by : {r : Found} → Judged sup groups classes outs ins aboves (suc turn) a b r → P.is_some r ≡ true → Finding sup groups classes n noted new r
          by (fine f) q = absurd (false≢true q)
          by (tied e d) q = apart a b fits low (tied-false a b e d) (left side)
          by (out d m k) q = apart a b fits low (led-false a b d (looked.out_sound (group b) m) (sym (above-out b m) ∙ k)) (left side)
          by (into d m k) q = apart b a low fits (led-false b a (λ e. d (sym e)) (looked.in_sound (group b) m) k) (right side)

    -- the turn of a request
    passed-turn : {t a : ℕ} {outs ins queue aboves : List ℕ} {span : Span} (looked : Looked sup groups classes n noted (suc (suc t)) a outs ins queue aboves span)
        → AllRight looked → Passed sup groups classes n noted a
    unfolding lead_of
    passed-turn {t} {a} {outs} {ins} {queue} {aboves} {span} looked right = go (eqb (group a) a) refl
      where
        fit : group a ≡ a → LookedAhead groups n noted (suc (suc t)) a outs span → (b : ℕ) → b < n → Marked (suc (suc (suc t))) outs b → Below sup (class a) (class b)
        fit o s b h m = by (eqb (group a) (group b)) refl
          where
            own : group b ≡ b
            own = end-group o (s.searched.sound b m)

            r : PairFine sup groups classes outs ins aboves (suc (suc (suc t))) a b
            r = right b (rw s.end h) (rw s.from (omega arith)) (rw s.who m)

            by : (u : Bool) → eqb (group a) (group b) ≡ u → Below sup (class a) (class b)
            by true e = same (r.tied (eqb-true (group a) (group b) e))
            by false e =
                let k : Marked (suc (suc (suc t))) outs (group b) = rw own m in
                below_true sup falls (class a) (class b) (sym (above-out looked b k) ∙ r.out (eqb-false (group a) (group b) e) k)

        ahead : group a ≡ a → (noted ≡ 0) ⊎ LookedAhead groups n noted (suc (suc t)) a outs span → Passed sup groups classes n noted a
        ahead o (inl z) = passed-unlinked a (λ y k. omega (arith, k.fits))
        ahead o (inr s) = record { stamp = suc (suc (suc t)); marks = outs; first = s.searched.first; closed = s.searched.closed; fit = fit o s }

        go : (u : Bool) → eqb (group a) a ≡ u → Passed sup groups classes n noted a
        go true e = let o = eqb-true (group a) a e in ahead o (looked.ahead (omega arith) o)
        go false e = passed-unlinked a (λ y k. eqb-false (group a) a e (start-own k))

    -- the turn of ties
    tied-turn : {a : ℕ} {outs ins queue aboves : List ℕ} {span : Span} (looked : Looked sup groups classes n noted 1 a outs ins queue aboves span)
        → AllRight looked → (m : ℕ) → m < n → class (group m) ≡ class m
    unfolding lead_of
    tied-turn {a} {outs} {ins} {queue} {aboves} {span} looked right m h = go (eqb (group m) m) refl
      where
        s : LookedTies n span
        s = looked.ties refl

        go : (u : Bool) → eqb (group m) m ≡ u → class (group m) ≡ class m
        go true e = ap (λ (x : ℕ). class x) (eqb-true (group m) m e)
        go false e = (right m (rw s.end h) (rw s.from (omega arith)) (rw s.who (eqb-false (group m) m e))).tied (rooted.top m (omega arith))

    tied-apart : {new b : ℕ} {outs ins aboves : List ℕ} {stamp : ℕ} {r : Found} → (new < n → Fresh sup groups classes n noted new) → b < n
        → Judged sup groups classes outs ins aboves stamp (group b) b r → P.is_some r ≡ true → Finding sup groups classes n noted new r
    tied-apart f h (fine k) q = absurd (false≢true q)
    tied-apart {b = b} f h (tied e d) q = apart (group b) b (omega (arith, rooted.low b (omega arith))) h (tied-false (group b) b e d) (inr f)
    tied-apart {b = b} f h (out d m k) q = absurd (d (rooted.top b (omega arith)))
    tied-apart {b = b} f h (into d m k) q = absurd (d (rooted.top b (omega arith)))

    -- the newcomer agrees with all
    fresh-turn : {a : ℕ} {outs ins queue aboves : List ℕ} {span : Span} (looked : Looked sup groups classes n noted 0 a outs ins queue aboves span)
        → AllRight looked → Fresh sup groups classes n noted a
    unfolding lead_of
    fresh-turn {a} {outs} {ins} {queue} {aboves} {span} looked right b h =
        (pair-true a b r.tied to, pair-true b a (λ e. sym (r.tied (sym e))) from)
      where
        first : LookedFirst sup groups classes n noted a outs ins aboves span
        first = looked.first refl

        r : PairFine sup groups classes outs ins aboves 1 a b
        r = go (ltb b span.from) refl
          where
            go : (t : Bool) → ltb b span.from ≡ t → PairFine sup groups classes outs ins aboves 1 a b
            go true e = first.skipped b (ltb-true b span.from e)
            go false e = right b (rw first.end h) (ltb-false b span.from e) (rw first.everyone tt)

        to : (group a ≡ group b → ⊥) → Onto (group a) (group b) → Below sup (class a) (class b)
        to d c = go (first.out_all (group b) c)
          where
            go : (group b ≡ group a) ⊎ Marked 1 outs (group b) → Below sup (class a) (class b)
            go (inl e) = absurd (d (sym e))
            go (inr m) = below_true sup falls (class a) (class b) (sym (above-out looked b m) ∙ r.out d m)

        from : (group b ≡ group a → ⊥) → Onto (group b) (group a) → Below sup (class b) (class a)
        from d c = go (first.in_all (group b) c)
          where
            go : (group b ≡ group a) ⊎ Marked 1 ins (group b) → Below sup (class b) (class a)
            go (inl e) = absurd (d e)
            go (inr m) = below_true sup falls (class b) (class a) (r.into (λ e. d (sym e)) m)

    -- One turn after the other

    module _ {heads nexts : List ℕ} (room : n ≤ 1280) (links : Links groups n noted heads nexts) (new : ℕ) where
      -- what the newcomer's turn, that of ties and a request's show
      turn-fresh : {turn a : ℕ} {outs ins queue aboves : List ℕ} {span : Span} → a ≡ request_at turn new → (0 < turn → new < n → Fresh sup groups classes n noted new)
          → (looked : Looked sup groups classes n noted turn a outs ins queue aboves span) → AllRight looked → new < n → Fresh sup groups classes n noted new
      unfolding request_at
      turn-fresh {turn = zero} e f looked right k = rw (sym e) (fresh-turn looked right)
      turn-fresh {turn = suc u} e f looked right k = f (omega arith) k

      turn-tied : {turn a r : ℕ} {outs ins queue aboves : List ℕ} {span : Span} → (1 < turn → (m : ℕ) → m < n → class (group m) ≡ class m)
          → (looked : Looked sup groups classes n noted turn a outs ins queue aboves span) → AllRight looked → (turn ≡ 0 → r ≡ 1) → 1 < r → (m : ℕ) → m < n
          → class (group m) ≡ class m
      turn-tied {turn = zero} f looked right first h m k = absurd (omega (arith, first refl))
      turn-tied {turn = suc zero} f looked right first h m k = tied-turn looked right m k
      turn-tied {turn = suc (suc u)} f looked right first h m k = f (omega arith) m k

      turn-passed : {turn a m : ℕ} {outs ins queue aboves : List ℕ} {span : Span} → a ≡ request_at turn new → turn ≡ suc (suc m)
          → (looked : Looked sup groups classes n noted turn a outs ins queue aboves span) → AllRight looked → Passed sup groups classes n noted m
      unfolding request_at
      turn-passed {turn = zero} e z looked right = absurd (omega arith)
      turn-passed {turn = suc zero} e z looked right = absurd (omega arith)
      turn-passed {turn = suc (suc u)} {a} {m} e z looked right = let q : a ≡ m = omega arith in rw (sym q) (passed-turn looked right)

      pub tested-next : {turn a r : ℕ} {outs₀ ins₀ queue₀ aboves₀ outs ins queue aboves : List ℕ} {span : Span} → a ≡ request_at turn new
          → Tested sup groups classes n noted new turn outs₀ ins₀ queue₀ aboves₀ → (looked : Looked sup groups classes n noted turn a outs ins queue aboves span)
          → AllRight looked → NextTurn heads n noted turn r → Tested sup groups classes n noted new r outs ins queue aboves
      tested-next {turn} {a} {r} is t looked right next = record {
        is_new = λ z. absurd (omega (arith, next.low));
        tables = tables_more (omega (arith, next.low)) looked.tables;
        fresh = λ _ k. turn-fresh is t.fresh looked right k;
        tied = turn-tied t.tied looked right next.ties;
        done = λ m h k. go m h k (order (suc (suc m)) turn);
      }
        where
          go : (m : ℕ) → suc (suc m) < r → m < n → Order (suc (suc m)) turn → Passed sup groups classes n noted m
          go m h k (less q) = t.done m q k
          go m h k (equal q) = turn-passed is (sym q) looked right
          go m h k (more q) = passed_none room links m k (next.none m h (omega arith))

      pub apart-any : {turn a b : ℕ} {outs ins queue aboves : List ℕ} {span : Span} {r : Found} → a ≡ request_at turn new → ((turn ≡ 1 → ⊥) → a < n)
          → (0 < turn → new < n → Fresh sup groups classes n noted new) → Looked sup groups classes n noted turn a outs ins queue aboves span → b < span.end
          → Judged sup groups classes outs ins aboves (suc turn) (lead_of turn groups a b) b r → P.is_some r ≡ true → Finding sup groups classes n noted new r
      unfolding lead_of request_at
      apart-any {turn = zero} e fits f looked h j q = apart-turn looked (fits (λ z. omega arith)) (inl e) h j q
      apart-any {turn = suc zero} e fits f looked h j q = tied-apart (f (omega arith)) (omega (arith, looked.low)) j q
      apart-any {turn = suc (suc u)} e fits f looked h j q = apart-turn looked (fits (λ z. omega arith)) (inr (f (omega arith))) h j q

    -- All turns are over
    module _ (classed : (a : ℕ) → a < n → class (group a) ≡ class a) (all-passed : (a : ℕ) → a < n → Passed sup groups classes n noted a) where
      -- y is m, or marked from it, and a's class is m's or below
      record Held (a y : ℕ) : Type 0 where
        m : ℕ
        fits : m < n
        own : group m ≡ m
        lower : Below sup (class a) (class m)
        reached : (y ≡ m) ⊎ Marked (all-passed m fits).stamp (all-passed m fits).marks y

      held_on : {a x y : ℕ} → Linked x y → Held a x → Held a y
      held_on {a} {x} {y} l h = go h.reached (ltb x n) refl
        where
          from : (m : ℕ) (f : m < n) (o : group m ≡ m) → Below sup (class a) (class m) → x ≡ m → Held a y
          from m f o b e =
              record { m = m; fits = f; own = o; lower = b; reached = inr ((all-passed m f).first y (rw e at l)) }

          go : (x ≡ h.m) ⊎ Marked (all-passed h.m h.fits).stamp (all-passed h.m h.fits).marks x → (t : Bool)
              → ltb x n ≡ t → Held a y
          go (inl e) t q = from h.m h.fits h.own h.lower e
          go (inr k) true q =
              let f = ltb-true x n q in
              from x f (start-own l) (below-trans h.lower ((all-passed h.m h.fits).fit x f k)) refl
          go (inr k) false q = record {
            m = h.m;
            fits = h.fits;
            own = h.own;
            lower = h.lower;
            reached = inr ((all-passed h.m h.fits).closed x y (ltb-false x n q) k l);
          }

      -- what a leads to has its class or one above it
      led-fits : (a b : ℕ) → a < n → b < n → group a ≡ a → Onto a b → Below sup (class a) (class b)
      led-fits a b f g o c =
          end (led-holds groups n (n + noted) noted (λ y. Held a y) (record { m = a; fits = f; own = o; lower = same refl; reached = inl refl }) (λ x y l h. held_on l h) b c)
        where
          end : Held a b → Below sup (class a) (class b)
          end h = go h.reached
            where
              go : (b ≡ h.m) ⊎ Marked (all-passed h.m h.fits).stamp (all-passed h.m h.fits).marks b
                  → Below sup (class a) (class b)
              go (inl e) = rw e h.lower
              go (inr k) = below-trans h.lower ((all-passed h.m h.fits).fit b g k)

      pair-agrees : (a b : ℕ) → a < n → b < n → pair_on sup groups classes n noted a b ≡ true
      pair-agrees a b f g = pair-true a b tied led
        where
          low : (p : ℕ) → p < n → group p < n
          low p h = omega (arith, rooted.low p (omega arith))

          tied : group a ≡ group b → class a ≡ class b
          tied e = sym (classed a f) ∙ ap (λ (x : ℕ). class x) e ∙ classed b g

          led : (group a ≡ group b → ⊥) → Onto (group a) (group b) → Below sup (class a) (class b)
          led d c = rw (classed a f, classed b g) at (led-fits (group a) (group b) (low a f) (low b g) (rooted.top a (omega arith)) c)

      all-agree : agree_on sup groups classes n noted ≡ true
      unfolding agree_on
      all-agree = places-all (λ a. all (pair_on sup groups classes n noted a) (rows (λ i. i) n 0)) n
          (λ a f. places-all (pair_on sup groups classes n noted a) n (λ b g. pair-agrees a b f g))

    pub tested-all : {new turn : ℕ} {outs ins queue aboves : List ℕ} → n + 1 < turn → Tested sup groups classes n noted new turn outs ins queue aboves
        → Finding sup groups classes n noted new P.None
    tested-all h t = agree (all-agree (t.tied (omega arith)) (λ a f. t.done a (omega arith) f))

-- a pair that doesn't agree
pub pair-unfit : (sup : ℕ → Option ℕ) (groups classes : List ℕ) (n noted a b : ℕ) → a < n → b < n → pair_on sup groups classes n noted a b ≡ false
    → agree_on sup groups classes n noted ≡ false
unfolding agree_on
pair-unfit sup groups classes n noted a b f g h = go (agree_on sup groups classes n noted) refl
  where
    go : (t : Bool) → agree_on sup groups classes n noted ≡ t → t ≡ false
    go true e = absurd (false≢true (sym h
        ∙ all-places (pair_on sup groups classes n noted a) n
        (all-places (λ a. all (pair_on sup groups classes n noted a) (rows (λ i. i) n 0)) n e a f) b g))
    go false e = refl
