use Rattle.std.proofs.Common.{rules}
use Rattle.std.proofs.lemmas.List.Edits.{map_over_more}
use Rattle.powers.specs.Powers.{from_powers}
use Rattle.powers.proofs.power_words.Goals as goal

pub loop-word-preserved : goal.loop-word-preserved
loop-word-preserved c = rw c.from_powers.ensures search (rules, map_over_more (from_powers c.args.powers.now))
