-- `unit_words` meets its contract: the places passed hold their bits.
use mathlib.Core.Path.{◌≡◌}
use lib.ListN.{length, take}
use Rattle.combinations.specs.Step.{units}
use Rattle.column_basis.proofs.unit_words.Given as goal

abbrev pub invariant-loop-i : goal.invariant-loop-i
invariant-loop-i l = (length l.w-items ≡ 64) × (take l.i l.w-items ≡ units l.i)
