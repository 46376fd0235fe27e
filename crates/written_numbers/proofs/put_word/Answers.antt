-- `put_word` meets its contract: the eight bytes are copied in.
use mathlib.Core.Path.{◌∙◌}
use Prim.Native.Nat.{◌+◌, ◌-◌}
use native.Mathlib.Omega.{arith}
use Rattle.numbers.specs.Bytes.{bytes_of}
use Rattle.numbers.proofs.ByteLaws.{bytes_of_length}
use Rattle.written_numbers.proofs.BytesLaws.{word_in_bytes, copied}
use Rattle.written_numbers.proofs.put_word.Goals as goal

pub returns : goal.returns
returns c =
    rw (c.copy_from_slice.ensures.after, word_in_bytes c.args.x _ c.to_le_bytes.ensures)
    (copied c.args.out.now (bytes_of 8 c.args.x) c.args.i (c.args.i + 8 - c.args.i) (omega arith) (bytes_of_length 8 c.args.x ∙ omega arith))
