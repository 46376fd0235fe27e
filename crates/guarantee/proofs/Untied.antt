-- A set with no entries of ties is as it was before there were any: nothing else moved. Document 02, No. 7: "each unnamed unknown is a free
-- symbol".
--
--   untied_fillings   its fillings are document 01's: every unknown cell filled freely and alone
--   untied_explained  .. so the signatures that are explained are those that some such filling clocks to
--   untied_columns    its columns are those of its unknown cells
--   untied_words      .. and its words the reduced list for these
--   untied_expected   its expected bits are the parities with the signature for all unknowns 0
--   untied_counts     it has as many symbols as unknown cells, and planning needs 64 working places
-- Assumes nothing.
use mathlib.Core.Path.{◌≡◌, ap, ap₂}
use mathlib.Core.List.{List}
use Prim.Native.Nat.{ℕ, ◌+◌}
use Rattle.word.specs.Parities.{parities}
use Rattle.combinations.specs.Reduced.{reduced_list}
use Rattle.set_layout.specs.Layout.{width_of, circuit_of, slices_of, tie_count_of}
use Rattle.signatures.specs.Signature.{Response, signature}
use Rattle.signatures.specs.Free.{FreeFillingOf, free_columns_for, free_zero_signature_for}
use Rattle.signatures.specs.Sets.{given, Filling, Explained, columns_of, symbols_of, unknowns_of, named_of, zero_signature}
use Rattle.signatures.proofs.FreeLaws.{filling_free, free_filling, columns_free, zero_free, symbols_free, named_free}
use Rattle.kept_words.specs.Working.{words_of, working_places}
use Rattle.planner.specs.Planning.{expected_of}

module _ (set : List ℕ) (bare : tie_count_of set ≡ 0) where
  pub untied_fillings : (x : Response) → (Filling set x → FreeFillingOf (given set) x) × (FreeFillingOf (given set) x → Filling set x)
  untied_fillings x = (filling_free (given set) bare x, free_filling (given set) bare x)

  pub untied_explained : (y : ℕ)
      → (Explained set y → (x : Response) × FreeFillingOf (given set) x × (signature (circuit_of set) x (slices_of set) ≡ y))
      × ((x : Response) → FreeFillingOf (given set) x → signature (circuit_of set) x (slices_of set) ≡ y → Explained set y)
  untied_explained y = (
    (λ e. (e.response, filling_free (given set) bare e.response e.filling, e.clocks)),
    (λ x f c. record { response = x; filling = free_filling (given set) bare x f; clocks = c }),
  )

  pub untied_columns : columns_of set ≡ free_columns_for (given set)
  unfolding columns_of
  untied_columns = columns_free (given set) bare

  pub untied_words : words_of set ≡ reduced_list (width_of set) (free_columns_for (given set))
  unfolding words_of
  untied_words = ap (reduced_list (width_of set)) (columns_free (given set) bare)

  pub untied_expected : expected_of set ≡ parities (reduced_list (width_of set) (free_columns_for (given set))) (free_zero_signature_for (given set))
  unfolding expected_of zero_signature
  untied_expected = ap₂ parities untied_words (zero_free (given set) bare)

  pub untied_counts : (symbols_of set ≡ unknowns_of set) × (working_places set ≡ 64)
  unfolding symbols_of unknowns_of named_of
  untied_counts = (symbols_free (given set) bare, ap (λ (n : ℕ). 64 + n) (named_free (given set) bare))
