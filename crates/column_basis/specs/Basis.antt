-- A basis of the columns taken so far, beside the list of words that are even with them. It has a place for each of the 64 bits of a
-- word. Each column that the basis takes in makes one bit dead: its lowest one. A bit that isn't dead has a word of the list, its slot's.
--
--   Basis basis dead        64 places; in place d of a dead bit stands a word whose lowest bit is bit d
--   Slots l ws basis dead   the list l is the words of the slots ws that aren't dead. Of the bits that aren't dead the word of slot i has
--                           bit i alone; all of them are even with the basis' words; a dead slot holds 0
--   Held l basis dead       there are such slots
--   Settled l basis ws dead d  the same, while the slots' words are made, from the highest dead bit down to bit d: the basis' words from
--                           place d on have no dead bit but their own, and the words ws have their dead bits from d on
use Rattle.std.specs.Prelude.{◌≡◌, List, ℕ, ◌^◌, ◌≤◌, ◌<◌, length, get_or}
use Rattle.word.specs.Word.{digit}
use Rattle.word.specs.Parities.{parities}
use Rattle.turned_words.specs.Turned.{kept}

pub record Basis (basis : List ℕ) (dead : ℕ) : Type 0 where
  pub long : length basis ≡ 64
  pub one : (d : ℕ) → d < 64 → digit d dead ≡ 1 → digit d (get_or basis d 0) ≡ 1
  pub clear : (d j : ℕ) → d < 64 → digit d dead ≡ 1 → j < d → digit j (get_or basis d 0) ≡ 0

pub record Slots (l ws basis : List ℕ) (dead : ℕ) : Type 0 where
  pub wide : length ws ≡ 64
  pub small : (i : ℕ) → get_or ws i 0 < 2 ^ 64
  pub gone : (i : ℕ) → digit i dead ≡ 1 → get_or ws i 0 ≡ 0
  pub own : (i j : ℕ) → i < 64 → digit i dead ≡ 0 → digit j dead ≡ 0 → digit j (get_or ws i 0) ≡ digit j (2 ^ i)
  pub even : (d : ℕ) → d < 64 → digit d dead ≡ 1 → parities ws (get_or basis d 0) ≡ 0
  pub held : kept dead ws ≡ l

pub record Held (l basis : List ℕ) (dead : ℕ) : Type 0 where
  pub slots : List ℕ
  pub hold : Slots l slots basis dead

pub record Settled (l basis ws : List ℕ) (dead d : ℕ) : Type 0 where
  pub slots : List ℕ
  pub hold : Slots l slots basis dead
  pub order : Basis basis dead
  pub wide : length ws ≡ 64
  pub small : (i : ℕ) → get_or ws i 0 < 2 ^ 64
  pub settled : (e f : ℕ) → d ≤ e → e < 64 → digit e dead ≡ 1 → digit f dead ≡ 1 → digit f (get_or basis e 0) ≡ digit f (2 ^ e)
  pub made : (i j : ℕ) → i < 64 → digit i dead ≡ 0 → digit j dead ≡ 1 → d ≤ j → digit j (get_or ws i 0) ≡ digit j (get_or slots i 0)
  pub rest : (i j : ℕ) → i < 64 → digit i dead ≡ 0 → j < d → digit j (get_or ws i 0) ≡ digit j (2 ^ i)
  pub alone : (i j : ℕ) → i < 64 → digit i dead ≡ 0 → digit j dead ≡ 0 → digit j (get_or ws i 0) ≡ digit j (2 ^ i)
