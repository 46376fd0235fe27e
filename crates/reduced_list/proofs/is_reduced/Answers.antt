use mathlib.Core.Path.{refl, sym, ap, ◌∙◌}
use mathlib.Core.Bool.{not}
use Rattle.reduced_list.proofs.TopLaws.{tops_exactly, passed_start, passed_turn, passed_stop, passed_end}
use borrow.Author.Rules.{rules}
use Rattle.reduced_list.proofs.is_reduced.Goals as goal

pub loop-w-init : goal.loop-w-init
loop-w-init c = passed_start _

pub returns-then-not-is_next : goal.returns-then-not-is_next
returns-then-not-is_next c =
    passed_stop _ _ _ _ _ c.loop-w.invariant (search rules) refl c.is_next.ensures (ap not c.if-not-is_next.true) _
    ∙ sym (tops_exactly _ _ (λ i. (c.type_inv.words i).fits))

pub loop-w-preserved : goal.loop-w-preserved
loop-w-preserved c =
    passed_turn _ _ _ _ _ _ c.loop-w.invariant (search rules) refl c.is_next.ensures (ap not c.if-not-is_next.false) c.with_highest-seen.ensures

pub returns : goal.returns
returns c =
    ap not c.is_beyond.ensures ∙ passed_end _ _ _ c.loop-w.invariant (search rules) _
    ∙ sym (tops_exactly _ _ (λ i. (c.type_inv.words i).fits))
