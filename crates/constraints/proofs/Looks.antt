-- What is looked at in a turn: the newcomer beside all, once the chains out of it and into it were followed; those that aren't the first of their group beside that
-- one; the first of a group beside what it leads to.
use mathlib.Core.Path.{◌≡◌, refl, ap}
use mathlib.Core.Option.{Option}
use mathlib.Core.List.{List}
use mathlib.Core.Logic.{◌⊎◌, inl, inr}
use Prim.Native.Nat.{ℕ, zero, suc, ◌+◌, ◌<◌, ◌≤◌}
use native.Mathlib.Omega.{arith}
use lib.ListN.{length, get_or, replicate}
use Rattle.constraints.specs.Groups.{Rooted}
use Rattle.constraints.specs.Search.{start_of, Marked}
use Rattle.constraints.specs.Upward.{Raised}
use Rattle.constraints.specs.Pairs.{Meets, Everyone, Members, Followed}
use Rattle.constraints.specs.Looking.{lead_of, Links, Marks, Tables, Reached, Looked}
use Rattle.constraints.proofs.Marking.{stamped-none, stamped-more}
use Rattle.constraints.proofs.Searching.{led-back, led-still}

-- tables with marks up to a stamp have them up to a later one
pub tables_more : {noted s t : ℕ} {outs ins queue aboves : List ℕ} → s ≤ t → Tables noted s outs ins queue aboves → Tables noted t outs ins queue aboves
tables_more {noted} {s} {t} {outs} {ins} {queue} {aboves} h m = record {
  outs_most = λ x. omega (arith, m.outs_most x);
  ins_most = λ x. omega (arith, m.ins_most x);
  full = later m.full;
}
  where
    later : (noted ≡ 0) ⊎ Marks s outs ins queue aboves → (noted ≡ 0) ⊎ Marks t outs ins queue aboves
    later (inl z) = inl z
    later (inr k) = inr (record {
      outs_are = stamped-more h k.outs_are;
      ins_are = stamped-more h k.ins_are;
      queue_long = k.queue_long;
      aboves_are = stamped-more h k.aboves_are;
    })

-- who is looked at, as numbers

abbrev who_of : Meets → ℕ
who_of Everyone = 0
who_of Members = 1
who_of Followed = 2

everyone-followed : Everyone ≡ Followed → ⊥
everyone-followed q = let e : ◌≡◌ {A = ℕ} 0 2 = ap who_of q in omega arith

-- tables of zeros, before the first turn, with any queue

pub tables-zeros : (noted : ℕ) (queue : List ℕ) → length queue ≡ 1280 → Tables noted 0 (replicate 1280 0) (replicate 1280 0) queue (replicate 256 0)
tables-zeros noted queue long = record {
  outs_most = (stamped-none 1280 0).most;
  ins_most = (stamped-none 1280 0).most;
  full = inr (record {
    outs_are = stamped-none 1280 0;
    ins_are = stamped-none 1280 0;
    queue_long = long;
    aboves_are = stamped-none 256 0;
  });
}

-- no link starts where none is joined
pub no_start : (groups : List ℕ) {heads nexts : List ℕ} (n noted g : ℕ) → Links groups n noted heads nexts → g < 1280 → get_or heads g 0 ≡ 0 → (e : ℕ) → e < noted → start_of groups n e ≡ g → ⊥
no_start groups n noted g (inl z) h q e f s = omega arith
no_start groups n noted g (inr j) h q e f s = (j.head g h).none e (omega arith) f s

-- at every turn but that of ties b is looked at beside a
pub lead-other : (turn a b : ℕ) (groups : List ℕ) → (turn ≡ 1 → ⊥) → a ≡ lead_of turn groups a b
unfolding lead_of
lead-other zero a b groups d = refl
lead-other (suc zero) a b groups d = absurd (d refl)
lead-other (suc (suc t)) a b groups d = refl

module _ (sup : ℕ → Option ℕ) (groups classes : List ℕ) (n noted a : ℕ) where
  -- where no link starts or ends at the newcomer's group
  pub first-unlinked : {outs ins queue aboves : List ℕ} {from : ℕ} → a < n → Rooted groups (n + noted + noted)
      → ((e : ℕ) → e < noted → start_of groups n e ≡ get_or groups a 0 → ⊥) → ((e : ℕ) → e < noted → start_of groups (n + noted) e ≡ get_or groups a 0 → ⊥)
      → Tables noted 0 outs ins queue aboves → from ≡ get_or groups a 0
      → Looked sup groups classes n noted 0 a outs ins queue aboves (record { from = from; end = n; who = Everyone })
  first-unlinked {outs} {ins} {queue} {aboves} {from} fits rooted out into t e = record {
    tables = tables_more (omega arith) t;
    begin = omega (arith, rooted.low a (omega arith));
    low = omega arith;
    seen = λ q. absurd (everyone-followed q);
    out_sound = λ y m. absurd (no-out y m);
    in_sound = λ y m. absurd (no-in y m);
    raised = λ y m. absurd (no-out y m);
    first = λ _. record {
      end = refl;
      everyone = refl;
      skipped = λ b h. record {
        tied = λ q. absurd (omega (arith, rooted.low b (omega (arith, rooted.low a (omega arith)))));
        out = λ _ m. absurd (no-out (get_or groups b 0) m);
        into = λ _ m. absurd (no-in (get_or groups b 0) m);
      };
      out_all = λ y c. inl (led-still groups n (n + noted) noted (λ z l. out l.number l.fits l.start) c);
      in_all = λ y c. inl (led-still groups (n + noted) n noted (λ z l. into l.number l.fits l.start) (led-back groups (n + noted) n noted c));
    };
    ties = λ q. absurd (omega arith);
    ahead = λ h. absurd (omega arith);
  }
    where
      no-out : (y : ℕ) → Marked 1 outs y → ⊥
      no-out y m = omega (arith, t.outs_most y)

      no-in : (y : ℕ) → Marked 1 ins y → ⊥
      no-in y m = omega (arith, t.ins_most y)

  -- where the chains were followed
  pub first-linked : {outs ins queue aboves : List ℕ} → Reached groups n (n + noted) noted 1 (get_or groups a 0) outs
      → Reached groups (n + noted) n noted 1 (get_or groups a 0) ins → Raised sup (get_or classes a 0) 1 aboves → length queue ≡ 1280
      → Looked sup groups classes n noted 0 a outs ins queue aboves (record { from = 0; end = n; who = Everyone })
  first-linked o i r q = record {
    tables = record {
      outs_most = o.stamped.most;
      ins_most = i.stamped.most;
      full = inr (record { outs_are = o.stamped; ins_are = i.stamped; queue_long = q; aboves_are = r.stamped });
    };
    begin = omega arith;
    low = omega arith;
    seen = λ q. absurd (everyone-followed q);
    out_sound = o.sound;
    in_sound = λ y m. led-back groups n (n + noted) noted (i.sound y m);
    raised = λ y m. r;
    first = λ _. record {
      end = refl;
      everyone = refl;
      skipped = λ b h. absurd (omega arith);
      out_all = o.all;
      in_all = λ y c. i.all y (led-back groups (n + noted) n noted c);
    };
    ties = λ q. absurd (omega arith);
    ahead = λ h. absurd (omega arith);
  }

  -- at a later turn
  module _ {turn : ℕ} {outs ins queue aboves : List ℕ} (t : Tables noted turn outs ins queue aboves) where
    no-out : (y : ℕ) → Marked (suc turn) outs y → ⊥
    no-out y m = omega (arith, t.outs_most y)

    no-in : (y : ℕ) → Marked (suc turn) ins y → ⊥
    no-in y m = omega (arith, t.ins_most y)
