-- `write_head` meets its contract: one part of the head after the other.
use Rattle.set_writer.proofs.FileLaws.{head_written}
use Rattle.set_writer.proofs.write_head.Goals as goal

pub returns : goal.returns
returns c =
    let entry = c.args in
    head_written entry.m entry.taps entry.inversion entry.spread.now entry.s _ _ _ _ _ _ _ _ c.write_count.ensures c.write_word.ensures c.write_word-2.ensures
    c.write_count-2.ensures c.write_words.ensures c.slices_at.ensures c.write_count-3.ensures
