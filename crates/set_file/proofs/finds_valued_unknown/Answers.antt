use borrow.Author.Rules.{rules}
use Rattle.set_file.proofs.CodeLaws.{unshared_start, unshared_turn, valued_short, valued_found, valued_none}
use Rattle.rows.specs.Row.{row_bytes}
use native.Mathlib.Omega.{arith}
use Rattle.set_layout.specs.Layout.{chains_of}
use mathlib.Core.Path.{◌≡◌, ap, ◌∙◌}
use Rattle.set_file.proofs.finds_valued_unknown.Goals as goal
use Rattle.set_file.proofs.finds_valued_unknown.Goals.{After-rows_at-at}

-- what the loop starts from: the row's bytes and the slice count of the set
bytes_of : (c : After-rows_at-at) → c.row_bytes-bytes.result ≡ row_bytes (chains_of c.args.set.now)
bytes_of c = c.row_bytes-bytes.ensures ∙ ap row_bytes c.chain_count-n.ensures

pub loop-t-init : goal.loop-t-init
loop-t-init c = unshared_start _ _ _ c.chain_count-n.ensures (search rules) c.rows_at-at.ensures

pub overflow_add-mark : goal.overflow_add-mark
overflow_add-mark c = omega (arith, c.loop-t.invariant.most)

pub overflow_add-end : goal.overflow_add-end
overflow_add-end c = omega (arith, c.loop-t.invariant.most)

pub returns-then-set-end : goal.returns-then-set-end
returns-then-set-end c =
    valued_short _ _ _ _ _ c.loop-t.invariant (bytes_of (goal.at.returns-then-set-end c).After-rows_at-at) c.slice_count-s.ensures (omega arith)
    c.if-set-end.true

pub returns-then-share_a_bit : goal.returns-then-share_a_bit
returns-then-share_a_bit c =
    valued_found _ (λ i. (c.shared_slice_known-1.given i).fits) _ _ _ _ _ c.loop-t.invariant (bytes_of (goal.at.returns-then-share_a_bit c).After-rows_at-at)
    c.slice_count-s.ensures (omega arith) c.share_a_bit.ensures c.if-share_a_bit.true

pub loop-t-preserved : goal.loop-t-preserved
loop-t-preserved c =
    unshared_turn _ _ _ _ c.loop-t.invariant (bytes_of (goal.at.loop-t-preserved c).After-rows_at-at) _ c.if-set-end.false
    c.share_a_bit.ensures c.if-share_a_bit.false

pub returns : goal.returns
returns c =
    valued_none _ (λ i. (c.shared_slice_known-1.given i).fits) _ _ _ c.loop-t.invariant
    c.slice_count-s.ensures (omega arith)
