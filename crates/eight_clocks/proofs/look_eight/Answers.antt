use Rattle.std.proofs.Common.{get_or, min, arith, rules}
use Rattle.std.proofs.lemmas.List.Edits.{map_over_more}
use Rattle.eight_clocks.specs.Eight.{looked_on}
use Rattle.eight_clocks.proofs.EightLaws.{eight_stored}
use Rattle.eight_clocks.proofs.look_eight.Goals as goal

pub loop-word-preserved : goal.loop-word-preserved
loop-word-preserved c =
    let args = c.args in
    let w = get_or c.loop-word.words c.loop-word.word-index 0 in
    rw (eight_stored args.m w _ c.saturating_sub-down.result args.table.now c.low_mask-mask.ensures (omega arith)) search (rules, map_over_more (looked_on (min args.m 64) args.table.now 8))
