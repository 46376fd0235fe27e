-- Words turned: beside a list of at most 64 words, its slots, stand the 64 words of their bits, its rows. A word that a step drops leaves
-- its slot dead, with the word 0 in it.
--
--   kept dead ws            the words of the slots ws that aren't dead, in their order: those whose bit in `dead` is 0, bit k for slot k
--   turned_row ws b          row b of the slots ws: bit b of each word as one word, bit k for slot k. These are its parities with bit b
--   Turns ws rows           the 64 rows are those of the slots ws
--   XoredInto l l' marks x  the list l' is l with x XORed into each word whose bit in `marks` is 1, bit i for word i
--   dead_behind m            the slots behind the first m of 64, bit k for slot k
use Rattle.std.specs.Prelude.{◌≡◌, List, [], ◌∷◌, ℕ, ◌-◌, ◌*◌, ◌/◌, ◌%◌, ◌^◌, ◌<◌, length, get_or}
use Rattle.std.specs.Int.Bits.{bit_xor}
use Rattle.word.specs.Word.{digit, low_mask}
use Rattle.word.specs.Parities.{parities}
use Rattle.combinations.specs.Step.{by_parity}

unfoldable pub kept : ℕ → List ℕ → List ℕ
kept dead [] = []
kept dead (w ∷ ws) = by_parity (dead % 2) (w ∷ kept (dead / 2) ws) (kept (dead / 2) ws)

abbrev pub turned_row : List ℕ → ℕ → ℕ
turned_row ws b = parities ws (2 ^ b)

pub record Turns (ws rows : List ℕ) : Type 0 where
  pub long : length rows ≡ 64
  pub each : (b : ℕ) → b < 64 → get_or rows b 0 ≡ turned_row ws b

pub record XoredInto (l l' : List ℕ) (marks x : ℕ) : Type 0 where
  pub long : length l' ≡ length l
  pub each : (i : ℕ) → i < length l → get_or l' i 0 ≡ bit_xor (get_or l i 0) (digit i marks * x)

abbrev pub dead_behind : ℕ → ℕ
dead_behind m = 2 ^ 64 - 1 - low_mask m
