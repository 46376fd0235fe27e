use lib.Bits.{bit_or}
use mathlib.Core.Path.{refl}
use native.Mathlib.Omega.{arith}
use Rattle.rows.proofs.PairLaws.{pairs_start, pairs_turn, pairs_end}
use Rattle.rows.proofs.pairs_share_a_bit.Goals as goal

pub loop-t-init : goal.loop-t-init
loop-t-init c = pairs_start _ _

pub loop-t-preserved : goal.loop-t-preserved
loop-t-preserved c =
    let at = c.loop-t in
    pairs_turn _ (λ i. (c.type_inv.list i).fits) _ _ _ at.even at.odd _ _ refl (omega arith) at.invariant
    c.shared_words-even.ensures c.shared_words-odd.ensures

pub returns : goal.returns
returns c = let at = c.loop-t in pairs_end _ _ at.t _ (bit_or at.even at.odd) at.invariant (omega arith)
