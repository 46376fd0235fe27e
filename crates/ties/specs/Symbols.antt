-- Symbols. Document 02, No. 7: "Cells with one symbol number take one value, or its opposite; each unnamed unknown is a free symbol"; "A
-- symbol's column is [..] listed where its first cell was"; "planning needs one more working place for each named symbol".
--
--   names e i t c       entry i of e names the cell of slice t and chain c
--   naming_below e k t c the last of the first k entries that does, if one does
--   naming e t c        the last entry that does, if one does; of sound ties (SoundTies) it is the only one
--   opens e i           entry i is the first with its symbol number. Entries ascend (30), so its cell is the symbol's first
--   named_symbols e      the number of named symbols
--   free_mark d o        the mark d of a cell, and 0 where the entry o names it
--   free_marks u e t c   the marks of the unnamed cells among those that u marks
--   first_mark e d o     the mark d of a cell, and the flag of the entry o where one names it
--   first_marks u e t c  .. with those of the first cell of each named symbol: where a symbol's column is listed
--   flag e i            1 where entry i is the first with its symbol number, and else 0
--   unmarked u e ks t c the marks u without those of the cells that entries of e name whose flag in the list ks is 0; past the list's
--                       end a flag counts as 0
--   Within s n e        the entries of e are at most 256, and their cells lie in s slices and n chains
--   SoundTies s n u e   what 29 to 31 leave: each entry names an unknown cell that is there, no two the same, and its side is 0 or 1
use Rattle.std.specs.Prelude.{◌≡◌, Bool, cond, not, false, ◌&&◌, List, ℕ, zero, suc, ◌≤◌, ◌<◌, eqb, get_or}
use Rattle.std.proofs.Math.Option.{Option, none, some}
use Rattle.word.specs.Some.{any_below}
use Rattle.rows.specs.Row.{Cells}
use Rattle.rows.specs.Marks.{total}
use Rattle.ties.specs.Ties.{Ties}

unfoldable pub names : Ties → ℕ → ℕ → ℕ → Bool
names e i t c = eqb (e.slice i) t && eqb (e.chain i) c

unfoldable pub naming_below : Ties → ℕ → ℕ → ℕ → Option ℕ
naming_below e zero t c = none
naming_below e (suc k) t c = cond (names e k t c) (some k) (naming_below e k t c)

abbrev pub naming : Ties → ℕ → ℕ → Option ℕ
naming e t c = naming_below e e.count t c

unfoldable pub opens : Ties → ℕ → Bool
opens e i = not (any_below i (λ h. eqb (e.symbol h) (e.symbol i)))

abbrev pub flag : Ties → ℕ → ℕ
flag e i = cond (opens e i) 1 0

unfoldable pub named_symbols : Ties → ℕ
named_symbols e = total e.count (flag e)

abbrev pub free_mark : ℕ → Option ℕ → ℕ
free_mark d none = d
free_mark d (some i) = 0

unfoldable pub free_marks : (ℕ → Cells) → Ties → ℕ → Cells
free_marks u e t c = free_mark (u t c) (naming e t c)

abbrev pub first_mark : Ties → ℕ → Option ℕ → ℕ
first_mark e d none = d
first_mark e d (some i) = flag e i

unfoldable pub first_marks : (ℕ → Cells) → Ties → ℕ → Cells
first_marks u e t c = first_mark e (u t c) (naming e t c)

abbrev pub unmarked : (ℕ → Cells) → Ties → List ℕ → ℕ → Cells
unmarked u e ks t c = cond (any_below e.count (λ i. names e i t c && eqb (get_or ks i 0) 0)) 0 (u t c)

pub record Within (s n : ℕ) (e : Ties) : Type 0 where
  pub few : e.count ≤ 256
  pub slices : (i : ℕ) → i < e.count → e.slice i < s
  pub chains : (i : ℕ) → i < e.count → e.chain i < n

pub record SoundTies (s n : ℕ) (u : ℕ → Cells) (e : Ties) : Type 0 where
  pub slices : (i : ℕ) → i < e.count → e.slice i < s
  pub chains : (i : ℕ) → i < e.count → e.chain i < n
  pub unknown : (i : ℕ) → i < e.count → u (e.slice i) (e.chain i) ≡ 1
  pub apart : (h i : ℕ) → h < i → i < e.count → names e h (e.slice i) (e.chain i) ≡ false
  pub sides : (i : ℕ) → i < e.count → e.side i < 2
