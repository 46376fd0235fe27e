use Rattle.std.proofs.Common.{◌<◌, ◌/◌, ◌%◌, ◌^◌, get_or, min, arith, rules}
use Rattle.std.proofs.lemmas.List.Edits.{map_over_more}
use Rattle.std.specs.Int.Bits.{bit_and}
use Rattle.eight_clocks.specs.Eight.{looked_on}
use Rattle.eight_clocks.proofs.EightLaws.{few_stored, out_small, looked_none}
use Rattle.eight_clocks.proofs.look_few.Goals as goal
use Rattle.eight_clocks.proofs.look_few.Goals.{In-loop-word}

pub returns-then-few-eq0 : goal.returns-then-few-eq0
returns-then-few-eq0 c =
    let args = c.args in
    λ h. looked_none (min args.m 64) args.table.now (args.clocks % 8) c.if-few-eq0.true args.words.now

inside : (c : In-loop-word)
    → bit_and (get_or c.loop-word.words c.loop-word.word-index 0 / 2 ^ c.saturating_sub-down.result) c.low_mask-out.result < 256
inside c = out_small _ (get_or c.loop-word.words c.loop-word.word-index 0 / 2 ^ c.saturating_sub-down.result) _ (search rules) c.low_mask-out.ensures

pub offset_bounds-table-w : goal.offset_bounds-table-w
offset_bounds-table-w c = record { fits = omega (arith, inside (goal.at.offset_bounds-table-w c).In-loop-word) }

pub bounds-table-w : goal.bounds-table-w
bounds-table-w c = omega (arith, inside (goal.at.bounds-table-w c).In-loop-word)

pub loop-word-preserved : goal.loop-word-preserved
loop-word-preserved c =
    let args = c.args in
    let w = get_or c.loop-word.words c.loop-word.word-index 0 in
    rw (few_stored args.m (args.clocks % 8) w _ _ c.saturating_sub-down.result args.table.now c.if-few-eq0.false (omega arith) c.low_mask-mask.ensures c.low_mask-out.ensures (omega arith)) search (rules, map_over_more (looked_on (min args.m 64) args.table.now (args.clocks % 8)))
