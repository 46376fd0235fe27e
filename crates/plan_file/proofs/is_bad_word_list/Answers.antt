use mathlib.Core.Bool.{not}
use mathlib.Core.Path.{ap, ◌∙◌}
use native.Mathlib.Omega.{arith}
use Rattle.plan_file.proofs.WordPlaces.{plan_passed_start, next_there, plan_passed_turn, plan_passed_stop, plan_passed_end, own_words}
use borrow.Author.Rules.{rules}
use Rattle.plan_file.proofs.is_bad_word_list.Goals as goal

pub returns-then-plan-q : goal.returns-then-plan-q
returns-then-plan-q c = λ h. let no : ⊥ = omega (arith, c.count-q.ensures.0) in absurd no

pub loop-i-init : goal.loop-i-init
loop-i-init c = plan_passed_start _ _ (search rules)

pub plan_word-w-requires : goal.plan_word-w-requires
plan_word-w-requires c = next_there _ _ _ _ c.loop-i.invariant (omega arith)

pub returns-then-not-is_next : goal.returns-then-not-is_next
returns-then-not-is_next c =
    let bytes = c.type_inv.plan in
    let so_far = c.loop-i.invariant in
    λ h. own_words _ _ _ _ c.width-m.ensures.0 c.count-q.ensures.0
    (plan_passed_stop _ _ _ _ so_far _ _ (omega arith) c.plan_word-w.ensures c.is_next.ensures (λ i. (bytes i).fits) (ap not c.if-not-is_next.true) _)

pub loop-i-preserved : goal.loop-i-preserved
loop-i-preserved c =
    let so_far = c.loop-i.invariant in
    plan_passed_turn _ _ _ _ so_far _ _ (omega arith) c.plan_word-w.ensures c.is_next.ensures _ (ap not c.if-not-is_next.false) c.with_highest-seen.ensures

pub returns : goal.returns
returns c =
    let bytes = c.type_inv.plan in
    λ h. own_words _ _ _ _ c.width-m.ensures.0 c.count-q.ensures.0
    (c.is_beyond.ensures ∙ plan_passed_end _ _ _ _ c.loop-i.invariant (λ i. (bytes i).fits) (omega arith) _)
