use Rattle.std.proofs.Common.{◌≡◌, ◌/◌, ◌%◌, ◌∙◌, map, get_or, rules}
use Rattle.std.proofs.lemmas.List.{take_all, drop_all}
use Rattle.std.proofs.lemmas.List.Edits.{map_over_more}
use Rattle.std.specs.Int.Bits.{bit_xor}
use Rattle.unclocking.proofs.UnclockLaws.{eight_all}
use Rattle.unclocking.proofs.unclock_eight.Goals as goal

pub loop-word-preserved : goal.loop-word-preserved
loop-word-preserved c =
    search (rules, map_over_more (λ w. bit_xor (w / 256) (get_or c.args.table.now (w % 256) 0)))

pub returns-clause-eight : goal.returns-clause-eight
returns-clause-eight c =
    let table = c.args.table.now in
    let words = c.args.words.now in
    let looked : c.loop-word.words ≡ map (λ w. bit_xor (w / 256) (get_or table (w % 256) 0)) words = search (rules, take_all, drop_all) in
    λ k right. looked ∙ eight_all k table right words
