-- The clock call. Document 01: "The clock takes a register (m, taps, state), the spread words and one row; it meets 2, 3, 4,
-- 6, 8 for a row not of B bytes, 9, and 23 for the state"; "a state handed in comes back from a refusal unchanged"; "A word later
-- added to the set's register section is [..] taken by [..] the clock." Document 02, No. 1: 25 is "checked after 3".
--
--   registered r ws    the circuit of a register and its chains' spread words
--   clock_tests r ws x  the numbers that the clock meets, in order
--   clock_reply r ws x  the reply: the next state, or the first number that applies
--   said c             the paper's reading of what the clock answers
--   held_after c r      the register that the caller has after the answer c: the answer's, or r as it was handed in
--   state_after q s     the state that comes back: the answer's, or the state s as it was handed in
use Rattle.std.specs.Prelude.{not, List, [], ◌∷◌, ℕ, eqb, length, Result, Ok, Err}
use Rattle.word.specs.Word.{beyond, bad_width}
use Rattle.word.specs.Reply.{Test, ◌when◌, Reply, answer, refusal, reply}
use Rattle.rows.specs.Row.{cell, row_bytes, spare_set}
use Rattle.register.specs.Circuit.{Circuit, circuit, clocked, bad_taps, bad_inversion, bad_chains}
use Rattle.chains.specs.Driven.{bad_spread}
use Rattle.register.specs.declared.Register.{Register}
use Rattle.refusals.specs.declared.Refusal.{Refusal}
use Rattle.refusals.specs.Refusals.{replied_by}

abbrev pub registered : Register → List ℕ → Circuit
registered r ws = circuit r.m r.taps r.inversion ws

unfoldable pub clock_tests : Register → List ℕ → List ℕ → List Test
clock_tests r ws x =
    2 when bad_width r.m
    ∷ 3 when bad_taps r.m r.taps
    ∷ 25 when bad_inversion r.m r.inversion
    ∷ 4 when bad_chains (length ws)
    ∷ 6 when bad_spread r.m ws
    ∷ 8 when not (eqb (length x) (row_bytes (length ws)))
    ∷ 9 when spare_set (length ws) x
    ∷ 23 when beyond r.m r.state
    ∷ []

unfoldable pub clock_reply : Register → List ℕ → List ℕ → Reply ℕ
clock_reply r ws x = reply (clock_tests r ws x) (clocked (registered r ws) (cell x) r.state)

abbrev pub said : Result Register Refusal → Reply ℕ
said = replied_by (λ (r : Register). r.state)

abbrev pub held_after : Result Register Refusal → Register → Register
held_after (Ok r) s = r
held_after (Err e) s = s

abbrev pub state_after : Reply ℕ → ℕ → ℕ
state_after (answer t) s = t
state_after (refusal n) s = s
