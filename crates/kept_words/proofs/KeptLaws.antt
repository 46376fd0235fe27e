-- Each way out of the call that makes the words, and what it answers and leaves in the two lent lists. Assumes nothing.
use mathlib.Core.Path.{◌≡◌, refl, sym, ap, ap₂, ◌∙◌}
use mathlib.Core.Bool.{true, false}
use mathlib.Core.List.{List, [], ◌∷◌, ◌++◌}
use Prim.Native.Nat.{ℕ, ◌+◌, ◌≤◌, ◌<◌}
use native.Mathlib.Omega.{arith}
use borrow.Author.Tests.{le-ltb, lt-ltb, eq-eqb, ne_eqb}
use lib.Dec.{eqb, ltb}
use lib.ListN.{length, take, drop}
use lib.Seq.{take_all, take_at, drop_at, length-take-le}
use Rattle.word.specs.Reply.{answer, refusal, front, lent}
use Rattle.word.specs.Zeros.{zeros}
use Rattle.word.proofs.FrontLaws.{length_zeros}
use Rattle.word.proofs.ReplyLaws.{refusal_leaves, answer_leaves}
use Rattle.combinations.specs.Combination.{only_empty}
use Rattle.combinations.proofs.Theorems.{only_empty_list}
use Rattle.set_layout.specs.Layout.{width_of}
use Rattle.signatures.specs.Sets.{columns_of, named_of}
use Rattle.kept_words.specs.Working.{words_of, working_places, working_test, working_after, kept_tests, kept_reply, said, named_columns_of, with_symbols}
use Rattle.kept_words.proofs.PutLaws.{short_symbols, symbols_behind, rest_as_was}
use Rattle.std.specs.Prelude.{Result, Ok, Err}
use Rattle.refusals.specs.declared.Refusal.{Refusal}
use Rattle.refusals.specs.declared.Refusal.TheVariants.{ShortColumnList, NoCombination, ShortWordList}

module _ (set : List ℕ) where
  -- what the call answers, a, and leaves in the working list w, w', and in the word list ws, ws'
  abbrev pub KeptEnd : List ℕ → List ℕ → Result ℕ Refusal → List ℕ → List ℕ → Type 0
  KeptEnd w ws a w' ws' =
      (said a ≡ kept_reply set (length w) (length ws))
      × ((w' ≡ working_after (working_test set (length w) ∷ []) set w) × (ws' ≡ lent (kept_reply set (length w) (length ws)) (words_of set) ws))

  pub ends_14 : (w w' ws : List ℕ) → length w < working_places set → w' ≡ w → KeptEnd w ws (Err ShortColumnList) w' ws
  unfolding kept_reply kept_tests
  ends_14 w w' ws h e =
      let short : ltb (length w) (working_places set) ≡ true = lt-ltb (length w) (working_places set) h in (rw short, (e ∙ sym (rw short), rw short))

  -- past 14
  module _ (w ws w' : List ℕ) (room : working_places set ≤ length w) (cleared : w' ≡ front (zeros (working_places set)) w) (q : ℕ) (many : q ≡ length (words_of set)) where
    enough : ltb (length w) (working_places set) ≡ false
    enough = le-ltb (length w) (working_places set) room

    left : w' ≡ working_after (working_test set (length w) ∷ []) set w
    left = cleared ∙ sym (rw enough)

    empty : only_empty (width_of set) (columns_of set) ≡ eqb q 0
    unfolding words_of columns_of
    empty = only_empty_list (width_of set) (columns_of set) ∙ ap (λ (i : ℕ). eqb i 0) (sym many)

    pub ends_17 : q ≡ 0 → KeptEnd w ws (Err NoCombination) w' ws
    unfolding kept_reply kept_tests
    ends_17 z =
        let only = empty ∙ eq-eqb q 0 z in
        let refused : kept_reply set (length w) (length ws) ≡ refusal 17 = rw (enough, only) in
        let out = refusal_leaves (kept_reply set (length w) (length ws)) (refusal 17) 17 (words_of set) ws refused refl in (out.0, (left, out.1))

    module _ (some : q ≡ 0 → ⊥) where
      others : only_empty (width_of set) (columns_of set) ≡ false
      others = empty ∙ ne_eqb q 0 some

      pub ends_18 : length ws < q → KeptEnd w ws (Err ShortWordList) w' ws
      unfolding kept_reply kept_tests
      ends_18 h =
          let short : ltb (length ws) (length (words_of set)) ≡ true = lt-ltb (length ws) (length (words_of set)) (omega arith) in
          let refused : kept_reply set (length w) (length ws) ≡ refusal 18 = rw (enough, others, short) in
          let out = refusal_leaves (kept_reply set (length w) (length ws)) (refusal 18) 18 (words_of set) ws refused refl in (out.0, (left, out.1))

      pub ends_words : (ws' from : List ℕ) → q ≤ length ws → from ≡ words_of set → ws' ≡ front (take (length ws) from) ws
          → KeptEnd w ws (Ok q) w' ws'
      unfolding kept_reply kept_tests
      ends_words ws' from h e put =
          let long : ltb (length ws) (length (words_of set)) ≡ false = le-ltb (length ws) (length (words_of set)) (omega arith) in
          let all : take (length ws) from ≡ words_of set = take_all (length ws) from (omega (arith, ap length e)) ∙ e in
          let answered : kept_reply set (length w) (length ws) ≡ answer (length (words_of set)) = rw (enough, others, long) in
          let out =
          answer_leaves (kept_reply set (length w) (length ws)) (answer q) (length (words_of set)) (words_of set) ws ws' answered (ap answer many)
          (put ∙ ap (λ (x : List ℕ). front x ws) all)
          in (out.0, (left, out.1))

-- the first p places were written, and are cleared
pub cleared_places : (p : ℕ) (w part z : List ℕ) → p ≤ length w → length part ≡ length (take p w) → z ≡ zeros (length (take p (part ++ drop p w)))
    → z ++ drop p (part ++ drop p w) ≡ front (zeros p) w
unfolding front
cleared_places p w part z room long e =
    let many : length part ≡ p = long ∙ length-take-le p w room in
    ap₂ (λ (x y : List ℕ). x ++ y) (e ∙ ap zeros (ap length (take_at part (drop p w) p many) ∙ many))
    (drop_at part (drop p w) p many ∙ ap (λ (i : ℕ). drop i w) (sym (length_zeros p)))

-- .. and behind them the list is as another
pub cleared_alike : (p : ℕ) (w v : List ℕ) → drop p w ≡ drop p v → front (zeros p) w ≡ front (zeros p) v
unfolding front
cleared_alike p w v e =
    ap (λ (i : ℕ). zeros p ++ drop i w) (length_zeros p) ∙ ap (λ (l : List ℕ). zeros p ++ l) e ∙ ap (λ (i : ℕ). zeros p ++ drop i v) (sym (length_zeros p))

-- ---- the working list with the columns of the symbols: w became w', with `symbols` of them

module _ (set w w' : List ℕ) (symbols : ℕ) (put : (symbols ≡ named_of set) × (w' ≡ with_symbols set w)) (long : length w' ≡ length w) where
  places : 64 + symbols ≡ working_places set
  places = ap (λ (i : ℕ). 64 + i) put.0

  pub put_short_14 : length w' < 64 + symbols → (length w < working_places set) × (w' ≡ w)
  put_short_14 h =
      let short : length w < working_places set = omega (arith, h, long, places) in (short, put.1 ∙ sym (short_symbols set w short))

  module _ (h : 64 + symbols ≤ length w') where
    pub put_room : working_places set ≤ length w
    put_room = omega (arith, h, long, places)

    pub put_behind : drop 64 (take (64 + symbols) w') ≡ named_columns_of set
    put_behind = ap₂ (λ (i : ℕ) (l : List ℕ). drop 64 (take i l)) places put.1 ∙ symbols_behind set w put_room

    pub put_cleared : (part z : List ℕ) → length part ≡ length (take (64 + symbols) w')
        → z ≡ zeros (length (take (64 + symbols) (part ++ drop (64 + symbols) w')))
        → z ++ drop (64 + symbols) (part ++ drop (64 + symbols) w') ≡ front (zeros (working_places set)) w
    put_cleared part z lp ez =
        cleared_places (64 + symbols) w' part z h lp ez ∙ ap (λ (i : ℕ). front (zeros i) w') places
        ∙ cleared_alike (working_places set) w' w (ap (drop (working_places set)) put.1 ∙ rest_as_was set w put_room)
