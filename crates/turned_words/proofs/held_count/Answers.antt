-- `held_count` meets its contract: the words held and the dead slots are all the slots.
use native.Mathlib.Omega.{arith}
use lib.Count.{ones-le}
use Rattle.turned_words.proofs.CountLaws.{count_held}
use Rattle.turned_words.proofs.held_count.Goals as goal

pub overflow_cast-result : goal.overflow_cast-result
overflow_cast-result c = omega (arith, ones-le 64 c.args.dead c.ranges.dead.fits)

pub overflow_sub-result : goal.overflow_sub-result
overflow_sub-result c = ones-le 64 c.args.dead c.ranges.dead.fits

pub returns : goal.returns
returns c = count_held _ c.ranges.dead.fits
