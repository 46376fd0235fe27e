-- The explained signatures of a set, and the records that are alike in its known cells and obey its ties, by the XORs of its columns and by
-- the parities of its words. Assumes nothing.
use mathlib.Core.Path.{◌≡◌, sym, ap, ◌∙◌, subst}
use mathlib.Core.Bool.{true}
use mathlib.Core.List.{List}
use Prim.Native.Nat.{ℕ, ◌^◌, ◌<◌}
use borrow.Author.Tests.{eqb-true, eq-eqb}
use lib.Bits.{bit_xor, xor_lt}
use Rattle.word.specs.Parities.{parities}
use Rattle.word.specs.Span.{is_xor_of}
use Rattle.word.proofs.Laws.{xor_cancel}
use Rattle.combinations.specs.Combination.{x_free}
use Rattle.combinations.proofs.Theorems.{explained_listed, same_parities}
use Rattle.rows.proofs.CellLaws.{cell_lt}
use Rattle.set_layout.specs.Layout.{width_of, circuit_of, chains_of, slices_of}
use Rattle.rows.specs.Lists.{list_row}
use Rattle.set_file.proofs.Laws.{Accepted}
use Rattle.signatures.specs.Signature.{signature}
use Rattle.signatures.specs.Given.{zeroed}
use Rattle.signatures.specs.Sets.{given, Explained, columns_of, zero_signature, record_cells}
use Rattle.signatures.proofs.FillingLaws.{known_differ, explained_differs, differs_explained}
use Rattle.signatures.proofs.SetLaws.{values_lt, set_ties, columns_of_within, signature_within}
use Rattle.kept_words.specs.Working.{words_of}
use Rattle.planner.specs.Planning.{expected_of}
use Rattle.guarantee.specs.Demand.{AlikeObeying}

module _ (set : List ℕ) (a : Accepted set) where
  -- ---- by the columns

  -- an explained signature differs from that for all symbols 0 by an XOR of columns
  pub explained_xor : (y : ℕ) → Explained set y → is_xor_of (columns_of set) (bit_xor (zero_signature set) y) ≡ true
  unfolding columns_of zero_signature
  explained_xor = explained_differs (given set) (set_ties set a) (values_lt set)

  -- .. and a signature that does so is explained
  pub xor_explained : (y : ℕ) → is_xor_of (columns_of set) (bit_xor (zero_signature set) y) ≡ true → Explained set y
  unfolding columns_of zero_signature
  xor_explained = differs_explained (given set) (set_ties set a) (values_lt set)

  -- the signatures of records that are alike in every known cell and obey the ties differ by an XOR of columns
  pub alike_xor : (r v : List ℕ) → AlikeObeying set r v
      → is_xor_of (columns_of set)
      (bit_xor (signature (circuit_of set) (record_cells (chains_of set) r) (slices_of set)) (signature (circuit_of set) (record_cells (chains_of set) v) (slices_of set)))
      ≡ true
  unfolding columns_of
  alike_xor r v h =
      known_differ (given set) (set_ties set a) (record_cells (chains_of set) v) (record_cells (chains_of set) r)
      (λ t c. cell_lt (list_row (chains_of set) v t) c) (λ t c. cell_lt (list_row (chains_of set) r t) c) (λ t c n. sym (h.alike t c n)) h.second h.first

  -- ---- by the words

  zero_within : zero_signature set < 2 ^ width_of set
  unfolding zero_signature
  zero_within = signature_within set a (zeroed (given set))

  pub explained_within : (y : ℕ) → Explained set y → y < 2 ^ width_of set
  explained_within y e = subst (λ (x : ℕ). x < 2 ^ width_of set) e.clocks (signature_within set a e.response)

  module _ (y z : ℕ) (hy : y < 2 ^ width_of set) (hz : z < 2 ^ width_of set) where
    words_even : is_xor_of (columns_of set) (bit_xor y z) ≡ x_free (words_of set) (bit_xor y z)
    unfolding words_of columns_of
    words_even =
        explained_listed (width_of set) (columns_of set) (columns_of_within set a) (bit_xor y z) (xor_lt (width_of set) y z hy hz)

    pub xor_parities : is_xor_of (columns_of set) (bit_xor y z) ≡ true → parities (words_of set) y ≡ parities (words_of set) z
    xor_parities h = eqb-true _ _ (sym (same_parities (words_of set) y z) ∙ sym words_even ∙ h)

    pub parities_xor : parities (words_of set) y ≡ parities (words_of set) z → is_xor_of (columns_of set) (bit_xor y z) ≡ true
    parities_xor h = words_even ∙ same_parities (words_of set) y z ∙ eq-eqb _ _ h

  -- an explained signature has the expected parities
  pub explained_expected : (y : ℕ) → Explained set y → parities (words_of set) y ≡ expected_of set
  unfolding expected_of
  explained_expected y e = sym (xor_parities (zero_signature set) y zero_within (explained_within y e) (explained_xor y e))

  -- .. and a signature that has them is explained
  pub expected_explained : (y : ℕ) → y < 2 ^ width_of set → parities (words_of set) y ≡ expected_of set → Explained set y
  unfolding expected_of
  expected_explained y l h = xor_explained y (parities_xor (zero_signature set) y zero_within l (sym h))

  -- every signature of the register's width is explained exactly when each is an XOR of columns
  pub xor_all : ((d : ℕ) → d < 2 ^ width_of set → is_xor_of (columns_of set) d ≡ true) → (y : ℕ) → y < 2 ^ width_of set → Explained set y
  xor_all f y l = xor_explained y (f (bit_xor (zero_signature set) y) (xor_lt (width_of set) (zero_signature set) y zero_within l))

  pub all_xor : ((y : ℕ) → y < 2 ^ width_of set → Explained set y) → (d : ℕ) → d < 2 ^ width_of set → is_xor_of (columns_of set) d ≡ true
  all_xor f d l =
      ap (is_xor_of (columns_of set)) (sym (xor_cancel (zero_signature set) d))
      ∙ explained_xor (bit_xor (zero_signature set) d)
      (f (bit_xor (zero_signature set) d) (xor_lt (width_of set) (zero_signature set) d zero_within l))
