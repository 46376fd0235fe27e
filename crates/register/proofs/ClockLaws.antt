-- The shift within a word, and which way out of the clock gives which reply. Assumes nothing.
use mathlib.Core.Path.{◌≡◌, sym, ap, ap₂, ◌∙◌}
use mathlib.Core.Bool.{false}
use mathlib.Core.List.{List}
use Prim.Native.Nat.{ℕ, ◌+◌, ◌-◌, ◌*◌, ◌%◌, ◌^◌, min}
use native.Mathlib.Omega.{arith}
use lib.Bits.{bit_and, bit_xor, and_mask}
use lib.ListN.{length}
use lib.Pow.{mod-mod-pow}
use Rattle.word.specs.Word.{digit, low_mask, bad_width}
use Rattle.word.specs.Reply.{answer, replied, first_of}
use Rattle.rows.specs.Row.{Cells, cell}
use Rattle.register.specs.Circuit.{circuit, advanced, clocked}
use Rattle.chains.specs.Driven.{chosen, driven}
use Rattle.register.specs.Clock.{registered, clock_tests, clock_reply}
use Rattle.register.specs.declared.Register.{Register}
use Rattle.word.proofs.Laws.{xor_assoc}
use Rattle.word.proofs.WordLaws.{good_width}
use Rattle.word.proofs.ReplyLaws.{none_applies}

-- a word holds the shifted state of every width up to 64, since bit 64 is dropped in any case
pub shifted_in_word : (m s : ℕ) → bit_and (s * 2 % 2 ^ 64) (low_mask m) ≡ s * 2 % 2 ^ min m 64
unfolding low_mask
shifted_in_word m s =
    let fill : 64 - min m 64 + min m 64 ≡ 64 = omega arith in
    and_mask (s * 2 % 2 ^ 64) (min m 64)
    ∙ ap (λ (k : ℕ). s * 2 % 2 ^ k % 2 ^ min m 64) (sym fill) ∙ mod-mod-pow (s * 2) (64 - min m 64) (min m 64)

-- what the code makes of a state and a drive is the state of a clock with all cells 0, and the drive XORed in
pub advanced_in_word : (m t s drive mask top feedback next : ℕ) → mask ≡ low_mask m → top ≡ min m 64 - 1 → feedback ≡ chosen (digit top s) t
    → next ≡ bit_xor (bit_xor (bit_and (s * 2 % 2 ^ 64) mask) feedback) drive → next ≡ bit_xor (advanced (min m 64) t s) drive
unfolding advanced
advanced_in_word m t s drive mask top feedback next em et ef en =
    en
    ∙ ap (λ (x : ℕ). bit_xor x drive)
    (ap₂ bit_xor (ap (bit_and (s * 2 % 2 ^ 64)) em ∙ shifted_in_word m s) (ef ∙ ap (λ (i : ℕ). chosen (digit i s) t) et))

-- ---- a clock with what the chains drive

pub driven_in : (m t v s drive next : ℕ) → next ≡ bit_xor (advanced m t s) (bit_xor drive v) → next ≡ bit_xor (bit_xor (advanced m t s) drive) v
driven_in m t v s drive next e = e ∙ sym (xor_assoc (advanced m t s) drive v)

-- it is a clock with the cells that drive it
pub clocked_driven : (m t v s drive next : ℕ) (ws : List ℕ) (x : Cells) → drive ≡ driven ws x (length ws)
    → next ≡ bit_xor (bit_xor (advanced m t s) drive) v → next ≡ clocked (circuit m t v ws) x s
unfolding clocked
clocked_driven m t v s drive next ws x ed es = es ∙ ap (λ (d : ℕ). bit_xor (bit_xor (advanced m t s) d) v) ed

-- ---- the clock's reply

module _ (r : Register) (ws x : List ℕ) where
  -- where no number applies the reply is the next state
  clock_answers : first_of (clock_tests r ws x) ≡ 0 → clock_reply r ws x ≡ answer (clocked (registered r ws) (cell x) r.state)
  unfolding clock_reply
  clock_answers h = ap (λ (n : ℕ). replied n (clocked (registered r ws) (cell x) r.state)) h

  clock_width : first_of (clock_tests r ws x) ≡ 0 → bad_width r.m ≡ false
  unfolding clock_tests
  clock_width h = none_applies (bad_width r.m) 1 _ h

  pub clock_done : (d s : ℕ) → first_of (clock_tests r ws x) ≡ 0 → d ≡ driven ws (cell x) (length ws)
      → s ≡ bit_xor (bit_xor (advanced (min r.m 64) r.taps r.state) d) r.inversion → clock_reply r ws x ≡ answer s
  unfolding clocked
  clock_done d s h ed es =
      let width : min r.m 64 ≡ r.m = omega (arith, (good_width r.m (clock_width h)).1) in
      clock_answers h
      ∙ ap answer
      (sym
      (es
      ∙ ap₂ (λ (k y : ℕ). bit_xor (bit_xor (advanced k r.taps r.state) y) r.inversion) width ed))
