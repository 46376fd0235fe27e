-- Words in slots: each in that of its highest bit.
--
--   Spread ws dead          64 slots; the word of a slot that isn't dead has the slot's bit as its highest, and a dead slot holds 0
--   OwnBits ws dead         of the bits that aren't dead the word of slot i has bit i alone, where that isn't dead
--   SpreadFrom l ws dead    the words of the list l in such slots
--   FirstTaken cs l l' b    the first of the columns cs are taken: the words that they leave of the list l stand at the front of l'
use Rattle.std.specs.Prelude.{◌≡◌, List, ℕ, ◌/◌, ◌^◌, ◌≤◌, ◌<◌, length, get_or, take}
use Rattle.std.specs.Int.Bits.{bit_xor, bit_and}
use Rattle.word.specs.Word.{digit}
use Rattle.combinations.specs.Step.{steps}
use Rattle.turned_words.specs.Turned.{kept}
use Rattle.spread_words.specs.declared.Begun.{Begun}

pub record Spread (ws : List ℕ) (dead : ℕ) : Type 0 where
  pub wide : length ws ≡ 64
  pub gone : (i : ℕ) → digit i dead ≡ 1 → get_or ws i 0 ≡ 0
  pub top : (i : ℕ) → i < 64 → digit i dead ≡ 0 → get_or ws i 0 / 2 ^ i ≡ 1

abbrev pub OwnBits : List ℕ → ℕ → Type 0
OwnBits ws dead = (i : ℕ) → i < 64 → bit_and (get_or ws i 0) (bit_xor dead 18446744073709551615) ≡ bit_and (bit_xor dead 18446744073709551615) (2 ^ i)

pub record SpreadFrom (l ws : List ℕ) (dead : ℕ) : Type 0 where
  pub slots : Spread ws dead
  pub held : kept dead ws ≡ l

pub record FirstTaken (cs l l' : List ℕ) (b : Begun) : Type 0 where
  pub inside : b.count ≤ length cs
  pub number : b.left ≡ length (steps (take b.count cs) l)
  pub done : take b.left l' ≡ steps (take b.count cs) l
