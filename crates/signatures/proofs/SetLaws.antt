-- The columns and the signature for all symbols 0 of a taken set. Assumes nothing.
use mathlib.Core.Path.{◌≡◌, sym, ap, ◌∙◌, subst}
use mathlib.Core.Bool.{false}
use mathlib.Core.Logic.{⊎_elim}
use mathlib.Core.List.{List}
use Prim.Native.Nat.{ℕ, ◌≤◌, ◌<◌, ◌^◌}
use native.Mathlib.Omega.{arith}
use lib.Bits.{bit_xor}
use lib.ListN.{length}
use Rattle.word.specs.Word.{beyond}
use Rattle.word.specs.Some.{any_of}
use Rattle.word.proofs.Laws.{bit_cases}
use Rattle.rows.proofs.CellLaws.{cell_lt}
use Rattle.rows.proofs.MarkLaws.{total_ext, row_total}
use Rattle.rows.specs.Marks.{total}
use Rattle.ties.specs.Symbols.{named_symbols, Within, SoundTies}
use Rattle.ties.proofs.SymbolLaws.{named_symbols_most}
use Rattle.ties.proofs.SoundLaws.{sound_ties, sound_within}
use Rattle.register.specs.Circuit.{chains}
use Rattle.register.proofs.Laws.{good_taps, good_inversion}
use Rattle.chains.proofs.Laws.{good_spread}
use Rattle.set_layout.specs.Layout.{width_of, taps_of, inversion_of, chains_of, spread_of, slices_of, circuit_of, value_row, mark_row, values, marks, ties_of}
use Rattle.set_layout.proofs.LayoutLaws.{spread_length}
use Rattle.set_file.proofs.Laws.{Accepted, accepted_chains, mark_row_length, mark_row_clean, unknown_unvalued}
use Rattle.signatures.specs.Signature.{Response, signature}
use Rattle.signatures.specs.Symbols.{side_columns}
use Rattle.signatures.specs.Sets.{given, columns_of, symbols_of, named_of, unknowns_of, zero_signature, Revised}
use Rattle.signatures.proofs.SignatureLaws.{signature_lt}
use Rattle.signatures.proofs.FillingLaws.{SoundFor}
use Rattle.signatures.proofs.SymbolLaws.{length_symbol_columns, symbol_columns_within, zero_by_sides, revised_symbols}

module _ (set : List ℕ) where
  pub values_lt : (t c : ℕ) → values set t c < 2
  values_lt t c = cell_lt (value_row set t) c

  pub marks_lt : (t c : ℕ) → marks set t c < 2
  marks_lt t c = cell_lt (mark_row set t) c

  -- document 02: the columns are those of the symbols, one for each
  pub length_columns : length (columns_of set) ≡ symbols_of set
  unfolding columns_of symbols_of
  length_columns = length_symbol_columns (circuit_of set) (slices_of set) (marks set) (ties_of set) marks_lt

-- a set with other values has the same columns, and as many symbols and unknown cells
pub revised_columns : (old new : List ℕ) → Revised old new → columns_of old ≡ columns_of new
unfolding columns_of
revised_columns old new r = revised_symbols (given old) (given new) r

pub revised_named : (old new : List ℕ) → Revised old new → named_of old ≡ named_of new
unfolding named_of
revised_named old new r = ap named_symbols r.ties

module _ (set : List ℕ) (a : Accepted set) where
  -- 29 to 31 leave sound ties
  pub set_ties : SoundFor (given set)
  set_ties =
      subst (λ (n : ℕ). SoundTies (slices_of set) n (marks set) (ties_of set)) (sym (spread_length set))
      (sound_ties (slices_of set) (chains_of set) (marks set) (ties_of set) a.ties a.order a.sides)

  pub set_ties_within : Within (slices_of set) (chains (circuit_of set)) (ties_of set)
  set_ties_within = sound_within (slices_of set) (chains (circuit_of set)) (marks set) (ties_of set) set_ties a.few

  -- there are at most 256 named symbols
  pub named_most : named_of set ≤ 256
  unfolding named_of
  named_most = omega (arith, named_symbols_most (ties_of set), a.few)

  -- no column has a bit at or above the width
  pub columns_of_within : any_of (beyond (width_of set)) (columns_of set) ≡ false
  unfolding columns_of
  columns_of_within =
      symbol_columns_within (circuit_of set) (slices_of set) (ties_of set) (good_taps (width_of set) (taps_of set) a.taps).1
      (good_spread (width_of set) (spread_of set) a.spread) (marks set)

  pub signature_within : (x : Response) → signature (circuit_of set) x (slices_of set) < 2 ^ width_of set
  signature_within x =
      signature_lt (circuit_of set) x (slices_of set) (good_taps (width_of set) (taps_of set) a.taps).1
      (good_inversion (width_of set) (inversion_of set) a.inversion) (good_spread (width_of set) (spread_of set) a.spread)

  -- the value rows as they stand, XORed with the columns of the cells tied as opposite, give the signature for all symbols 0: an unknown
  -- cell's value bit is 0
  pub zero_of_values : zero_signature set
      ≡ bit_xor (signature (circuit_of set) (values set) (slices_of set)) (side_columns (circuit_of set) (slices_of set) (ties_of set))
  unfolding zero_signature
  zero_of_values =
      zero_by_sides (given set) set_ties (values_lt set) (marks_lt set)
      (λ t c l m one.
      ⊎_elim (λ (z : values set t c ≡ 0). z)
      (λ (o : values set t c ≡ 1). absurd (unknown_unvalued set a t c l (omega (arith, m, spread_length set)) o one))
      (bit_cases (values set t c) (values_lt set t c)))

  -- the marks counted by rows of 256 cells are the unknown cells
  pub marks_counted : total (slices_of set) (λ t. total 256 (marks set t)) ≡ unknowns_of set
  unfolding unknowns_of
  marks_counted =
      total_ext (slices_of set) (λ t. total 256 (marks set t)) (λ t. total (chains (circuit_of set)) (marks set t))
      (λ t l.
      row_total (chains_of set) (mark_row set t) (mark_row_length set a t l) (mark_row_clean set a t l) (accepted_chains set a).1
      ∙ ap (λ (n : ℕ). total n (marks set t)) (sym (spread_length set)))
