-- `expected_bits` meets its contract: the bits are the highest of the last 8 bytes.
use Rattle.plan_file.proofs.TestLaws.{bits_to_end}
use Rattle.plan_file.proofs.expected_bits.Goals as goal

pub returns : goal.returns
returns c =
    let bytes = c.type_inv.plan in
    bits_to_end _ _ _ (λ i. (bytes i).fits) c.count-q.ensures.0 c.requires c.eight_bytes.ensures
