-- `put_32` meets its contract: four words, each from its bytes.
use Rattle.written_numbers.proofs.BytesLaws.{four_words}
use Rattle.written_numbers.proofs.put_32.Goals as goal

pub returns : goal.returns
returns c =
    let bytes = c.type_inv.bytes in
    four_words _ _ _ _ _ _ _ _ _ _ c.put_word.ensures c.put_word-2.ensures c.put_word-3.ensures
    c.put_word-4.ensures _ _ (λ i. (bytes i).fits) c.requires.1 c.eight_bytes-a.ensures c.eight_bytes-b.ensures
    c.eight_bytes-c.ensures c.eight_bytes-d.ensures
