-- The columns of marked cells in portions, from the last column to the first. Where the chains' words come from changes nothing of a
-- portion: they are advanced by one clock for each slice, or by 8 for every eighth slice and those of marked cells by the clocks between, or
-- made from the spread words by the powers of the register. A list ps tells the ways apart by its length: 0, 256 (the table of 8 clocks), 576 (the
-- powers).
--
--   wiring s ws            the register of a source s, which counts as at most 64 bits wide, with chains of the spread words ws
--   slices_in s             its slices, which count as at most 512
--   columns_left k s u t c  the columns of the first t slices' unknown cells, but that in the last of these only the chains below c count
--   Way k j ps ws          the words ws are the circuit's spread words j clocks later, or there is the list ps that makes them so
--   Ready k s t ps ws      .. for the columns of the slice before the t-th of s, where slices, chains and width are within their limits
--   RowLater ps j m us vs  the words us of a row's marked cells have become vs, by the list ps, j clocks before the end, in the width m
--   SliceDone ..           what going on to the slice before does: the chains' words ws become ws', and the first r slices are left
--   RowFits n l l' r       a row of n chains stands at the end of the list l', which was l, as far as there is room
--   PortionFrom ..         what filling a portion does
--   PortionOf ..           a portion stands at the end of the list l', which was l, and r tells which columns are left
use Rattle.std.specs.Prelude.{◌≡◌, false, cond, List, [], ◌++◌, map, ℕ, zero, suc, ◌+◌, ◌-◌, ◌*◌, ◌/◌, ◌%◌, ◌≤◌, ◌<◌, min, eqb, length, take, drop, get_or}
use Rattle.chains.specs.Driven.{bad_spread}
use Rattle.rows.specs.Lists.{cells_of}
use Rattle.rows.specs.declared.Rows.{Rows}
use Rattle.marked_rows.specs.Last.{last_marked}
use Rattle.register.specs.Circuit.{Circuit, circuit, chains, advanced}
use Rattle.signatures.specs.Signature.{Response}
use Rattle.signatures.specs.Later.{later}
use Rattle.signatures.specs.Columns.{slice_columns, columns_below}
use Rattle.powers.specs.Powers.{from_powers}
use Rattle.eight_clocks.specs.Eight.{EightOn, looked_on}
use Rattle.marked_words.specs.declared.Fitted.{Fitted}
use Rattle.portions.specs.declared.Source.{Source}
use Rattle.portions.specs.declared.Portion.{Portion}

abbrev pub wiring : Source → List ℕ → Circuit
wiring s ws = circuit (min s.register.m 64) s.register.taps s.register.inversion ws

abbrev pub slices_in : Source → ℕ
slices_in s = min s.s 512

abbrev pub columns_left : Circuit → ℕ → Response → ℕ → ℕ → List ℕ
columns_left k s u zero c = []
columns_left k s u (suc t) c = columns_below k s u t ++ slice_columns k s u t c

pub data Way (k : Circuit) (j : ℕ) (ps ws : List ℕ) : Type 0 where
  swept : length ps ≡ 0 → ws ≡ map (later k j) k.spread → Way k j ps ws
  eights : length ps ≡ 256 → 8 ≤ k.width → EightOn k ps → ws ≡ map (later k (8 * (j / 8))) k.spread → Way k j ps ws
  sparse : length ps ≡ 576 → ((i : ℕ) → i < 576 → get_or ps i 0 ≡ later k i 1) → bad_spread k.width k.spread ≡ false → ws ≡ k.spread → Way k j ps ws

pub record Ready (k : Circuit) (s t : ℕ) (ps ws : List ℕ) : Type 0 where
  pub inside : t ≤ s
  pub slices : s ≤ 512
  pub few : chains k ≤ 256
  pub narrow : k.width ≤ 64
  pub way : Way k (s - t) ps ws

pub record RowLater (ps : List ℕ) (j m : ℕ) (us vs : List ℕ) : Type 0 where
  pub stays : length ps ≡ 0 → vs ≡ us
  pub looked : length ps ≡ 256 → vs ≡ map (looked_on m ps (j % 8)) us
  pub powered : length ps ≡ 576 → j + m ≤ 576 → vs ≡ map (from_powers (take m (drop j ps))) us

-- the last of the first t of s slices was done; m and taps are the register's. By the powers, slices without a mark in the list are passed over
pub record SliceDone (m taps s : ℕ) (list : List ℕ) (rows : Rows) (ps : List ℕ) (t : ℕ) (ws ws' : List ℕ) (r : ℕ) : Type 0 where
  pub down : r ≤ t - 1
  pub advances : length ps ≡ 0 → (r ≡ t - 1) × (ws' ≡ map (advanced m taps) ws)
  pub passes : length ps ≡ 256 → (r ≡ t - 1) × (ws' ≡ cond (eqb ((s - t) % 8) 7) (map (looked_on m ps 8) ws) ws)
  pub skips : length ps ≡ 576 → (r ≡ last_marked list rows (t - 1)) × (ws' ≡ ws)

-- of n chains r.chains are left, and only the places from r.place on have changed; with 64 places fewer chains are left than there were
pub record RowFits (n : ℕ) (l l' : List ℕ) (r : Fitted) : Type 0 where
  pub chains : r.chains ≤ n
  pub place : r.place ≤ length l
  pub kept : take r.place l' ≡ take r.place l
  pub some : 64 ≤ length l → 0 < n → r.chains < n

-- the columns from those that r leaves on, up to those that `from` had left, stand from r.place on, and nothing else of the list has
-- changed; the words are ready for what is left
pub record PortionOf (k : Circuit) (s : ℕ) (u : Response) (ps : List ℕ) (from : Portion) (ws' l l' : List ℕ) (r : Portion) : Type 0 where
  pub chains : r.chains ≤ chains k
  pub place : r.place ≤ length l
  pub long : length l' ≡ length l
  pub listed : columns_left k s u from.t from.chains ≡ columns_left k s u r.t r.chains ++ drop r.place l'
  pub kept : take r.place l' ≡ take r.place l
  pub ready : Ready k s r.t ps ws'

-- what filling a portion does, whatever it is handed: the words ws become ws'. With 64 places and at most 256 words fewer cells are left, and
-- for all spread words that the words are ready for it is a portion
pub record PortionFrom (src : Source) (list ps : List ℕ) (from : Portion) (ws ws' l l' : List ℕ) (r : Portion) : Type 0 where
  pub place : r.place ≤ length l
  pub less : 64 ≤ length l → length ws ≤ 256 → 0 < from.t → 257 * r.t + r.chains < 257 * from.t + from.chains
  pub portion :
      (spread : List ℕ) → from.chains ≤ length spread → Ready (wiring src spread) (slices_in src) from.t ps ws
      → PortionOf (wiring src spread) (slices_in src) (cells_of list src.marks) ps from ws' l l' r
