-- The reason for the split. Document 02, No. 2: "Designers correct expected values weekly while the unknown marks stay." Sets with the same
-- register, chains, slice count, marks and ties have the same words, whatever their values.
--
--   same_words          the words
--   same_width          the registers' widths
--   same_number         the first number that planning meets, where both sets meet none of the set's numbers
--   same_words_reply    .. so the whole reply of the call that gives the words
--   same_working_after  .. the working list that it leaves
--   same_words_after    .. and the word list
-- Assumes nothing.
use mathlib.Core.Path.{◌≡◌, refl, sym, ap, ap₂, ◌∙◌}
use mathlib.Core.Bool.{cond}
use mathlib.Core.List.{List}
use Prim.Native.Nat.{ℕ, zero, suc, ◌+◌}
use native.Mathlib.Omega.{arith}
use lib.Dec.{ltb}
use lib.ListN.{length}
use Rattle.word.specs.Reply.{Reply, replied, first_of, lent}
use Rattle.word.specs.Zeros.{zeros}
use Rattle.combinations.specs.Reduced.{reduced_list}
use Rattle.register.specs.Circuit.{Circuit}
use Rattle.set_layout.specs.Layout.{width_of}
use Rattle.set_file.specs.Reading.{set_tests}
use Rattle.signatures.specs.Sets.{columns_of, Revised}
use Rattle.signatures.proofs.SetLaws.{revised_columns, revised_named}
use Rattle.kept_words.specs.Working.{words_of}
use Rattle.planner.specs.Planning.{earlier_tests, working_left, plan_tests, WordParts, word_parts_of, words_reply}
use Rattle.planner.proofs.NumberLaws.{later, plan_sooner, plan_later, earlier_past_set}

-- the first number of two lists of tests, by that of each
abbrev first_number : ℕ → ℕ → ℕ
first_number zero n = n
first_number (suc k) n = suc k

plan_number : (set : List ℕ) (k l : ℕ) → first_of (plan_tests set k l) ≡ first_number (first_of (earlier_tests set k)) (first_of (later set l))
plan_number set k l = go (first_of (earlier_tests set k)) refl
  where
    go : (n : ℕ) → first_of (earlier_tests set k) ≡ n → first_of (plan_tests set k l) ≡ first_number n (first_of (later set l))
    go zero h = plan_later set k l h
    go (suc n) h = plan_sooner set k l (λ z. omega (arith, h, z)) ∙ h

module _ (old new : List ℕ) (r : Revised old new) where
  pub same_width : width_of old ≡ width_of new
  same_width = ap (λ (k : Circuit). k.width) r.same.wiring

  pub same_words : words_of old ≡ words_of new
  unfolding words_of columns_of
  same_words = ap₂ reduced_list same_width (revised_columns old new r)

  module _ (ho : first_of (set_tests old) ≡ 0) (hn : first_of (set_tests new) ≡ 0) where
    same_earlier : (k : ℕ) → first_of (earlier_tests old k) ≡ first_of (earlier_tests new k)
    same_earlier k =
        earlier_past_set old k ho ∙ ap (λ (n : ℕ). cond (ltb k (64 + n)) 14 0) (revised_named old new r) ∙ sym (earlier_past_set new k hn)

    same_later : (l : ℕ) → first_of (later old l) ≡ first_of (later new l)
    same_later l =
        rw (same_width, revised_columns old new r, same_words) refl

    pub same_number : (k l : ℕ) → first_of (plan_tests old k l) ≡ first_of (plan_tests new k l)
    same_number k l = plan_number old k l ∙ ap₂ first_number (same_earlier k) (same_later l) ∙ sym (plan_number new k l)

    pub same_words_reply : (k l : ℕ) → words_reply old k l ≡ words_reply new k l
    unfolding words_reply
    same_words_reply k l =
        ap₂ (λ (n : ℕ) (p : WordParts). replied n p) (same_number k l) parts
      where
        parts : word_parts_of old ≡ word_parts_of new
        parts = ap₂ (λ (m q : ℕ). record { m = m; q = q }) same_width (ap length same_words)

    pub same_working_after : (l : List ℕ) → working_left old l ≡ working_left new l
    same_working_after l =
        ap₂ (λ (n p : ℕ). lent (replied n (64 + p)) (zeros (64 + p)) l) (same_earlier (length l)) (revised_named old new r)

    pub same_words_after : (k : ℕ) (ws : List ℕ)
        → lent (words_reply old k (length ws)) (words_of old) ws ≡ lent (words_reply new k (length ws)) (words_of new) ws
    same_words_after k ws =
        ap₂ (λ (p : Reply WordParts) (vs : List ℕ). lent p vs ws) (same_words_reply k (length ws)) same_words
