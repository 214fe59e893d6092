-- The copies hold the store with the newcomer: where it doesn't agree, the reason over them, with the numbers of its rows, is the definition's.
use mathlib.Core.Path.{◌≡◌, refl, sym, ap, ◌∙◌}
use mathlib.Core.Option.{Option}
use mathlib.Core.List.{List}
use Prim.Native.Nat.{ℕ, ◌≤◌}
use native.Mathlib.Omega.{arith}
use Rattle.definition.specs.Numbers.{counts_length}
use Rattle.definition.specs.declared.Refusal.TheVariants.{Word}
use Rattle.definition.specs.declared.Reply.{Reply}
use Rattle.definition.specs.declared.Reply.TheVariants.{Denied}
use Rattle.definition.specs.Reasons.{unlisted, listed}
use Rattle.loading.specs.Plans.{file_of}
use Rattle.loading.proofs.Copied.{grown-kept, new-reason}
use Rattle.loading.proofs.Admitted.{tries-new, tries-clash}
use Rattle.loading.proofs.trying.explain.Goals as goal

enough : (n : ℕ) → n ≡ counts_length → 8 ≤ n
enough n e = omega (arith, e)

pub reply_of-requires : goal.reply_of-requires
reply_of-requires c = c.requires.class

pub returns-then-judge : goal.returns-then-judge
returns-then-judge c = λ g k a b o f h.
    let list = c.args.list.now in
    c.unlisted.ensures _ ∙ (ap (λ (x : Reply). unlisted x list) c.reply_of.ensures
    ∙ tries-new k list _ _ _ _ h (sym (c.judge.ensures.judged (enough _ refl) refl refl g (file_of k) h.fits) ∙ c.if-judge.true))

pub write_counts-requires : goal.write_counts-requires
write_counts-requires c = grown-kept _ _ _ _ _ c.requires _ _ _ _ _ _ refl refl c.judge.ensures.tried

pub returns : goal.returns
returns c = λ g k a b o f h.
    let list = c.args.list.now in
    c.reason-count.ensures (Denied (Word 9))
    ∙ (ap (λ (x : Option (List ℕ)). listed (Denied (Word 9)) x list)
    (new-reason _ _ _ _ _ c.requires _ _ _ _ _ _ refl refl c.judge.ensures.tried _ _ _ c.at-entries.ensures _ c.write_counts.ensures (file_of k) h.fits refl h.turn _ _)
    ∙ tries-clash k list _ _ _ _ h (sym (c.judge.ensures.judged (enough _ refl) refl refl g (file_of k) h.fits) ∙ c.if-judge.false))
