-- `earlier_word` meets its contract. The loop's invariant: `word` is `w` before as many clocks as were undone.
use Rattle.std.proofs.Common.{◌≡◌, [], ℕ}
use Rattle.register.specs.Circuit.{circuit}
use Rattle.unclocking.specs.Unclocked.{before_one, earlier}
use Rattle.unclocking.proofs.earlier_word.Given as goal

abbrev pub invariant-loop : goal.invariant-loop
invariant-loop l = (m t : ℕ) → l.one ≡ before_one m t → l.word ≡ earlier (circuit m t 0 []) l.counter l.w
