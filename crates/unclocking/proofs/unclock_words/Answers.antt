use Rattle.std.proofs.Common.{[], min, rules}
use Rattle.std.proofs.lemmas.List.Edits.{map_over_more}
use Rattle.register.specs.Circuit.{circuit}
use Rattle.unclocking.specs.Unclocked.{earlier}
use Rattle.unclocking.proofs.unclock_words.Goals as goal

pub loop-word-preserved : goal.loop-word-preserved
loop-word-preserved c =
    rw (c.earlier_word.ensures _ _ c.before_one-one.ensures) search (rules, map_over_more (earlier (circuit (min c.args.register.m 64) c.args.register.taps 0 []) c.args.clocks))
