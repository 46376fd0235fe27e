-- `is_unreduced` meets its contract: it denies the test for a reduced list.
use mathlib.Core.Path.{ap}
use mathlib.Core.Bool.{not}
use Rattle.expectation.proofs.is_unreduced.Goals as goal

pub returns : goal.returns
returns c = ap not c.is_reduced.ensures
