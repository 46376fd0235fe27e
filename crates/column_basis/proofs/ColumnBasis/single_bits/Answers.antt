use Rattle.column_basis.proofs.LoopLaws.{singles_basis}
use Rattle.column_basis.proofs.ColumnBasis.single_bits.Goals as goal

pub invariant_of-result : goal.invariant_of-result
invariant_of-result c = record { order = singles_basis _ _ c.unit_words.ensures }
