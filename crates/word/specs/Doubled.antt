-- A table made by doubling: half of a group of entries from the other half.
--
--   Doubled l₀ l e h j w  the list l is l₀ but for its j entries from e + h on: each of them is the entry h places before it in l₀,
--                         with the word w XORed in
use Rattle.std.specs.Prelude.{◌≡◌, List, ℕ, ◌+◌, ◌-◌, ◌≤◌, ◌<◌, length, get_or}
use Rattle.std.specs.Int.Bits.{bit_xor}

pub record Doubled (l₀ l : List ℕ) (e h j w : ℕ) : Type 0 where
  pub long : length l ≡ length l₀
  pub below : (i : ℕ) → i < e + h → get_or l i 0 ≡ get_or l₀ i 0
  pub new : (i : ℕ) → e + h ≤ i → i < e + h + j → get_or l i 0 ≡ bit_xor (get_or l₀ (i - h) 0) w
  pub above : (i : ℕ) → e + h + j ≤ i → get_or l i 0 ≡ get_or l₀ i 0
