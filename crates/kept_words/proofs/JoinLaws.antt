-- The words of the free cells, and then the columns of the named symbols: the words of the set.
--
--   joined_words      the columns of the named symbols make the words of the free cells those of the set
--   symbols_reduced   .. where they stand behind the first 64 working places
-- Assumes nothing.
use mathlib.Core.Path.{◌≡◌, sym, ap, ◌∙◌}
use mathlib.Core.List.{List, ◌++◌}
use Prim.Native.Nat.{ℕ, ◌-◌, ◌≤◌}
use native.Mathlib.Omega.{arith}
use lib.ListN.{length, take, drop, length-take, length-drop}
use lib.Seq.{take_all, take-append-le, drop_at, length-take-le}
use Rattle.word.specs.Zeros.{filled}
use Rattle.combinations.specs.Step.{steps}
use Rattle.combinations.proofs.Theorems.{portion_after}
use Rattle.combinations.proofs.Portions.{order_alike}
use Rattle.ties.specs.Symbols.{free_marks}
use Rattle.set_layout.specs.Layout.{width_of, circuit_of, slices_of, marks, ties_of}
use Rattle.set_file.proofs.Laws.{Accepted}
use Rattle.signatures.specs.Columns.{columns_below}
use Rattle.signatures.specs.Symbols.{named_columns}
use Rattle.signatures.proofs.MemberLaws.{same_members}
use Rattle.signatures.proofs.SetLaws.{set_ties}
use Rattle.set_words.proofs.ReduceLaws.{front_words}
use Rattle.kept_words.specs.Working.{words_of, named_columns_of, free_words}

-- the columns of the free cells, and then those of the named symbols, have the set's words
pub joined_words : (set : List ℕ) → Accepted set → steps (named_columns_of set) (free_words set) ≡ words_of set
unfolding named_columns_of free_words words_of
joined_words set a =
    sym (portion_after (width_of set) (columns_below (circuit_of set) (slices_of set) (free_marks (marks set) (ties_of set)) (slices_of set))
    (named_columns (circuit_of set) (slices_of set) (ties_of set)))
    ∙ sym (order_alike (width_of set) _ _ (same_members (circuit_of set) (slices_of set) (marks set) (ties_of set) (set_ties set a)))

-- the columns stand behind the first 64 places of w, of which `part` was written; the words h of the free cells became h'
module _ (set : List ℕ) (a : Accepted set) (w part h h' : List ℕ) (free q : ℕ) (room : 64 ≤ length w) (behind : drop 64 w ≡ named_columns_of set)
    (long : length part ≡ length (take 64 w)) (words : take free h ≡ free_words set)
    (count : q ≡ length (steps (take (length (part ++ drop 64 w) - 64) (drop 64 (part ++ drop 64 w))) (take free h)))
    (list : h' ≡ filled (steps (take (length (part ++ drop 64 w) - 64) (drop 64 (part ++ drop 64 w))) (take free h)) (length (take free h))) where
  many : length part ≡ 64
  many = long ∙ length-take-le 64 w room

  symbols : drop 64 (part ++ drop 64 w) ≡ named_columns_of set
  symbols = drop_at part (drop 64 w) 64 many ∙ behind

  all : take (length (part ++ drop 64 w) - 64) (drop 64 (part ++ drop 64 w)) ≡ named_columns_of set
  all = take_all (length (part ++ drop 64 w) - 64) (drop 64 (part ++ drop 64 w)) (omega (arith, length-drop 64 (part ++ drop 64 w))) ∙ symbols

  own : steps (named_columns_of set) (take free h) ≡ words_of set
  own = ap (steps (named_columns_of set)) words ∙ joined_words set a

  in_front : take q h' ≡ words_of set
  in_front = front_words (part ++ drop 64 w) (take free h) h' 64 q count list ∙ ap (λ (cs : List ℕ). steps cs (take free h)) symbols ∙ own

  pub symbols_reduced : (q ≡ length (words_of set)) × (take q (h' ++ drop free h) ≡ words_of set)
  symbols_reduced =
      let number : q ≡ length (words_of set) = count ∙ ap (λ (cs : List ℕ). length (steps cs (take free h))) all ∙ ap length own in
      let inside : q ≤ length h' = omega (arith, number, ap length in_front, length-take q h') in
      (number, take-append-le q h' (drop free h) inside ∙ in_front)
