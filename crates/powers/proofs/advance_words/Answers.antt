use Rattle.std.proofs.Common.{rules, min}
use Rattle.std.proofs.lemmas.List.Edits.{map_over_more}
use Rattle.register.specs.Circuit.{advanced}
use Rattle.powers.proofs.advance_words.Goals as goal

pub loop-word-preserved : goal.loop-word-preserved
loop-word-preserved c =
    rw c.next_state.ensures search (rules, map_over_more (advanced (min c.args.register.m 64) c.args.register.taps))
