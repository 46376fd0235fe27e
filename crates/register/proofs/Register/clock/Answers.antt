-- `Register::clock` meets its contract, in a refusal and where it clocks.
use mathlib.Core.Path.{refl, sym, ap}
use borrow.Author.Rules.{rules}
use Prim.Native.Nat.{ℕ}
use Rattle.word.specs.Reply.{Reply}
use Rattle.register.specs.Clock.{clock_reply, state_after}
use Rattle.register.proofs.ClockLaws.{clock_done}
use Rattle.register.proofs.Register.clock.Goals as goal

pub returns-in_err-check_clock : goal.returns-in_err-check_clock
unfolding clock_reply
returns-in_err-check_clock c = search rules

pub returns : goal.returns
returns c =
    let self = c.args.self in
    let next = c.clock_row.ensures in
    let e = clock_done self c.args.spread.now c.args.row.now _ c.clock_row.result.state (sym c.in_ok-check_clock.ensures) refl next.3 in
    record {
      result_value = sym e;
      m_value = (next.0, next.1, next.2, sym (ap (λ (q : Reply ℕ). state_after q self.state) e));
    }
