use Rattle.std.proofs.Common.{◌*◌, ◌%◌, ◌^◌, rules}
use Rattle.std.proofs.lemmas.List.Edits.{map_over_more}
use Rattle.eighth_columns.proofs.raise_words.Goals as goal

pub loop-word-preserved : goal.loop-word-preserved
loop-word-preserved c = search (rules, map_over_more (λ w. w * 2 ^ c.args.shift % 2 ^ 64))
