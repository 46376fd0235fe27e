-- `shared_words` meets its contract, which is its code.
use mathlib.Core.Path.{ap₂}
use lib.Bits.{bit_and, bit_or}
use Rattle.rows.proofs.shared_words.Goals as goal

pub returns : goal.returns
returns c =
    ap₂ bit_or (ap₂ bit_and c.eight_bytes.ensures c.eight_bytes-2.ensures)
    (ap₂ bit_and c.eight_bytes-3.ensures c.eight_bytes-4.ensures)
