-- `reduce_cells` meets its contract.
use native.Mathlib.Omega.{arith}
use Rattle.set_words.proofs.reduce_cells.Goals as goal

pub returns-then-working-lt-WORKING_PLACES : goal.returns-then-working-lt-WORKING_PLACES
returns-then-working-lt-WORKING_PLACES c = record { left = omega arith; words = (λ room start. let clash : ⊥ = omega (arith, c.if-working-lt-WORKING_PLACES.true, room) in absurd clash) }

pub returns : goal.returns
returns c = record { left = c.reduce_marked.ensures.left; words = (λ room. c.reduce_marked.ensures.words) }
