use mathlib.Core.Path.{refl}
use native.Mathlib.Omega.{arith}
use Rattle.marked_words.proofs.WholeLaws.{copying_long, copying_starts, copying_turns, copying_ends}
use Rattle.marked_words.proofs.list_whole.Goals as goal

pub loop-c-init : goal.loop-c-init
loop-c-init c = (refl, copying_starts _ _)

pub loop-c-preserved : goal.loop-c-preserved
loop-c-preserved c =
    let at = c.loop-c in
    let k = copying_turns c.args.words.now _ _ _ _ at.invariant.1 c.requires.in_bounds c.requires.in_bounds_2 (omega arith) refl in
    (copying_long _ _ _ _ k, k)

pub returns : goal.returns
returns c = record { value = refl; columns_after = copying_ends c.args.words.now _ _ _ c.loop-c.invariant.1 c.requires.in_bounds c.requires.in_bounds_2 (omega arith) }
