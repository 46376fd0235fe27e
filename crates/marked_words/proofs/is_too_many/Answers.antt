-- `is_too_many` meets its contract.
use mathlib.Core.Path.{sym, ap}
use Prim.Native.Nat.{◌≤◌}
use native.Mathlib.Omega.{arith}
use borrow.Author.Tests.{le-ltb}
use lib.Count.{ones}
use Rattle.marked_rows.proofs.CountLaws.{ones_none}
use Rattle.marked_words.proofs.is_too_many.Goals as goal

pub returns-then-marks-eq0 : goal.returns-then-marks-eq0
returns-then-marks-eq0 c =
    let none : ones c.args.marks ≤ c.args.room = omega (arith, ap ones c.if-marks-eq0.true, ones_none) in
    sym (le-ltb c.args.room (ones c.args.marks) none)
