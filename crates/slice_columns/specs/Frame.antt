-- Columns in a frame that stays: those of a slice as they stand in the register before the first slice. A slice's spread words are undone one
-- clock for each slice before it; clocked on together to the end of a run, they are the columns of the run's cells.
--
--   eights t              the slices before slice t in whole eights: so often all the chains' words have been undone
--   marked_earlier k t x   the words of the chains of the circuit k whose cell in x is 1, t clocks earlier
--   NextFrom ..           what listing slice t's columns does, whatever it is handed: of a register r, a table, rows of marks in a list, and
--                         the chains' words ws, which become ws', it makes the list l into l' and answers with the place p
use Rattle.std.specs.Prelude.{◌≡◌, cond, List, [], map, ℕ, ◌+◌, ◌-◌, ◌*◌, ◌/◌, ◌%◌, ◌≤◌, min, eqb, length, drop, get_or}
use Rattle.std.specs.Int.Bits.{bit_xor}
use Rattle.rows.specs.Row.{Cells}
use Rattle.rows.specs.Marks.{marked_words}
use Rattle.rows.specs.Lists.{cells_of}
use Rattle.rows.specs.declared.Rows.{Rows}
use Rattle.register.specs.Circuit.{Circuit, circuit, chains}
use Rattle.register.specs.declared.Register.{Register}
use Rattle.marked_words.specs.Back.{back}
use Rattle.unclocking.specs.Unclocked.{earlier, EightBack}

abbrev pub eights : ℕ → ℕ
eights t = 8 * (t / 8)

abbrev pub marked_earlier : Circuit → ℕ → Cells → List ℕ
marked_earlier k t x = marked_words (map (earlier k t) k.spread) x (chains k)

-- the words of the marked cells, undone for the slices since the last eight, stand at the end of the list, and behind the last of eight slices
-- the chains' words are undone 8 clocks more, by the table. Where the table is right, the words are those for slice t and the list has room,
-- these are the slice's columns in the frame, and the words are those for the next slice
pub record NextFrom (r : Register) (table list : List ℕ) (rows : Rows) (t : ℕ) (ws ws' l l' : List ℕ) (p : ℕ) : Type 0 where
  pub place : p ≡ length l - length (marked_words ws (cells_of list rows t) (length ws))
  pub listed : l' ≡ back (map (earlier (circuit (min r.m 64) r.taps 0 []) (t % 8)) (marked_words ws (cells_of list rows t) (length ws))) l
  pub words : ws' ≡ cond (eqb (t % 8) 7) (map (λ w. bit_xor (w / 256) (get_or table (w % 256) 0)) ws) ws
  pub frame :
      (v : ℕ) (spread : List ℕ) → EightBack (circuit (min r.m 64) r.taps v spread) table → length ws ≤ length l
      → ws ≡ map (earlier (circuit (min r.m 64) r.taps v spread) (eights t)) spread
      → (drop p l' ≡ marked_earlier (circuit (min r.m 64) r.taps v spread) t (cells_of list rows t))
      × (ws' ≡ map (earlier (circuit (min r.m 64) r.taps v spread) (eights (t + 1))) spread)
