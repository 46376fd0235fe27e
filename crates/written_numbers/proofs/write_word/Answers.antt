-- `write_word` meets its contract: where there is room for eight bytes they are written together, else as far as the list goes.
use Rattle.written_numbers.proofs.BytesLaws.{word_in_bytes}
use Rattle.written_numbers.proofs.write_word.Goals as goal

pub returns-else-i-out : goal.returns-else-i-out
returns-else-i-out c = rw (word_in_bytes c.args.x _ c.to_le_bytes.ensures) at c.write_bytes.ensures
