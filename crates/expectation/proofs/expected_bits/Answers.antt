-- `expected_bits` meets its contract: the parities with the signature for all symbols 0.
use mathlib.Core.Path.{ap, ◌∙◌}
use lib.ListN.{take}
use Rattle.word.specs.Parities.{parities}
use Rattle.expectation.proofs.expected_bits.Goals as goal

pub returns : goal.returns
returns c =
    λ taken. c.word_parities.ensures ∙ ap (parities (take 64 c.args.words.now)) (c.zero_signature-zero.ensures taken)
