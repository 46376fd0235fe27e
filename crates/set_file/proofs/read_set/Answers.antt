-- `read_set` meets its contract, in a refusal and where it reads.
use mathlib.Core.Path.{◌∙◌}
use borrow.Author.Rules.{rules}
use Rattle.set_layout.proofs.LayoutLaws.{spread_whole}
use Rattle.set_file.proofs.ReadLaws.{reads_refused, reads_taken}
use Rattle.set_file.proofs.read_set.Goals as goal

pub returns-in_err-check_set : goal.returns-in_err-check_set
returns-in_err-check_set c =
    let reads = reads_refused c.args.set.now c.from_residual.result _ (search rules) c.in_err-check_set.ensures in
    record { answer = reads.answer; spread = reads.spread; start = reads.start; taken = reads.taken }

pub returns : goal.returns
returns c =
    let register = c.fresh-register.ensures in
    let reads =
    reads_taken c.args.set.now
    (record { register = c.fresh-register.result; n = c.chain_count.result; s = c.slice_count.result; spread = c.spread_words.result })
    c.in_ok-check_set.ensures
    (record {
      width = register.0 ∙ c.register_width.ensures;
      taps = register.1 ∙ c.tap_word.ensures;
      inversion = register.2 ∙ c.inversion_word.ensures;
      start = register.3;
      chains = c.chain_count.ensures;
      slices = c.slice_count.ensures;
      words = spread_whole _ _ c.spread_words.ensures;
    })
    in
    record { answer = reads.answer; spread = reads.spread; start = reads.start; taken = reads.taken }
