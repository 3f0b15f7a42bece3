-- The promise says that the number equals one thing on a memory of that length, and there is one of every length; and refusals of the same
-- number are the same.
use Prim.Native.Nat.{ℕ}
use mathlib.Core.Path.{refl, sym, ap, ◌∙◌}
use mathlib.Core.Bool.{true≢false}
use borrow.Author.Tests.{eq-eqb}
use lib.ListN.{replicate, length-replicate}
use Rattle.std.specs.Prelude.{Ok, Err}
use Rattle.rules.proofs.Numbered.{not_done, same_refusal}
use Rattle.refusals.specs.Unique.{RefusalTold-unique, Outcome-unique}

pub refusal_told_unique : RefusalTold-unique
refusal_told_unique b len e r r' p q =
    let long = length-replicate {A = ℕ} len 0 in
    p.told (replicate len 0) long ∙ sym (q.told (replicate len 0) long)

pub outcome_unique : Outcome-unique
outcome_unique (Ok x) (Ok y) h = refl
outcome_unique (Ok x) (Err why) h = absurd (true≢false (sym (eq-eqb _ _ (sym h)) ∙ not_done why))
outcome_unique (Err why) (Ok y) h = absurd (true≢false (sym (eq-eqb _ _ h) ∙ not_done why))
outcome_unique (Err why) (Err why') h = ap Err (same_refusal why why' h)
