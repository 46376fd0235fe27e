-- The columns of a run in a frame that stays: the chains' words are unclocked once for each slice, from slice 0 on, whatever run a slice falls
-- in. The columns of a run are those words of its marked cells, clocked together as often as the run's last slice has slices before it; so
-- both have the same rank. For what is given by a sound circuit (Sound):
--
--   framed g t           the words of slice t in the frame
--   frames g a n         .. of n slices from a on
--   columns_framed       the columns of a run are its words in the frame, clocked together
--   left_framed          .. so it leaves as many words as these
--   longer_fewer         a longer run never leaves more words
--   later_start          nor does one that begins sooner and ends where the other does
--   slice_most           .. so no slice of a run, alone, leaves fewer than the run
-- Assumes nothing.
use mathlib.Core.Path.{◌≡◌, refl, sym, ap, ap₂, ◌∙◌}
use mathlib.Core.Bool.{false}
use mathlib.Core.List.{List, [], ◌++◌, map, map-append, append_assoc, append-nil}
use Prim.Native.Nat.{ℕ, zero, suc, ◌+◌, ◌-◌, ◌^◌, ◌≤◌, ◌<◌}
use native.Mathlib.Nat.{add-zero, add-suc, add_assoc}
use native.Mathlib.Omega.{arith}
use lib.ListN.{length, get_or}
use Rattle.word.specs.Word.{beyond}
use Rattle.word.specs.Some.{any_of}
use Rattle.word.proofs.SomeLaws.{any_of_append}
use Rattle.word.proofs.BoolLaws.{or_false}
use Rattle.word.proofs.WordLaws.{not_beyond}
use Rattle.combinations.specs.Combination.{rank}
use Rattle.combinations.specs.Reduced.{reduced_list}
use Rattle.combinations.proofs.Theorems.{words_and_rank}
use Rattle.combinations.proofs.Ranks.{rank_through, rank_front, rank_back}
use Rattle.numbers.specs.Joined.{joined}
use Rattle.rows.specs.Row.{Cells}
use Rattle.rows.specs.Marks.{listed, marked_words}
use Rattle.register.specs.Circuit.{chains}
use Rattle.signatures.specs.Later.{later}
use Rattle.signatures.specs.Columns.{columns_below}
use Rattle.signatures.specs.Given.{Given}
use Rattle.powers.proofs.PowerLaws.{later_xor, later_add}
use Rattle.unclocking.specs.Unclocked.{earlier}
use Rattle.unclocking.proofs.UnclockLaws.{earlier_lt, later_earlier, later_one_to_one}
use Rattle.swept_columns.proofs.FillLaws.{later_words, later_words_get, first_words}
use Rattle.sparse_columns.proofs.SparseLaws.{map_chosen}
use Rattle.cutter.specs.Cutting.{words_left}
use Rattle.cutter.specs.Turns.{Sound}
use Rattle.slice_columns.specs.Frame.{marked_earlier}
use Rattle.slice_columns.proofs.FrameLaws.{earlier_words, earlier_words_get}

-- ---- words of marked cells

marked_within : (m : ℕ) (ws : List ℕ) (x : Cells) (n : ℕ) → ((c : ℕ) → get_or ws c 0 < 2 ^ m) → any_of (beyond m) (marked_words ws x n) ≡ false
unfolding joined any_of
marked_within m ws x zero h = refl
marked_within m ws x (suc n) h =
    any_of_append (beyond m) (marked_words ws x n) (listed (x n) (get_or ws n 0))
    ∙ or_false (any_of (beyond m) (marked_words ws x n)) (any_of (beyond m) (listed (x n) (get_or ws n 0))) (marked_within m ws x n h) (one (x n))
  where
    one : (d : ℕ) → any_of (beyond m) (listed d (get_or ws n 0)) ≡ false
    one zero = refl
    one (suc d) = or_false _ _ (not_beyond m (get_or ws n 0) (h n)) refl

module _ (g : Given) where
  -- the marked cells' words of slice t
  pub framed : ℕ → List ℕ
  framed t = marked_earlier g.wiring t (g.marks t)

  pub framed_words : (t : ℕ) → framed t ≡ marked_earlier g.wiring t (g.marks t)
  unfolding framed
  framed_words t = refl

  pub frames : ℕ → ℕ → List ℕ
  frames a zero = []
  frames a (suc n) = frames a n ++ framed (a + n)

  pub frames_none : (a : ℕ) → frames a 0 ≡ []
  unfolding frames
  frames_none a = refl

  pub frames_suc : (a n : ℕ) → frames a (suc n) ≡ frames a n ++ framed (a + n)
  unfolding frames
  frames_suc a n = refl

  pub frames_more : (a n j : ℕ) → frames a (n + j) ≡ frames a n ++ frames (a + n) j
  unfolding frames
  frames_more a n zero = ap (frames a) (add-zero n) ∙ sym (append-nil (frames a n))
  frames_more a n (suc j) =
      ap (frames a) (add-suc n j)
      ∙ ap₂ (λ (l : List ℕ) (t : ℕ). l ++ framed t) (frames_more a n j) (sym (add_assoc a n j))
      ∙ append_assoc (frames a n) (frames (a + n) j) (framed (a + n + j))

  module _ (sound : Sound g.wiring) where
    abbrev m : ℕ
    m = g.wiring.width

    word_lt : (j c : ℕ) → get_or (earlier_words g.wiring j g.wiring.spread) c 0 < 2 ^ m
    word_lt j c =
        let low : earlier g.wiring j (get_or g.wiring.spread c 0) < 2 ^ m =
        earlier_lt g.wiring sound.some sound.odd sound.taps j (get_or g.wiring.spread c 0) (sound.spread c)
        in
        rw (earlier_words_get g.wiring j g.wiring.spread c) low

    framed_within : (t : ℕ) → any_of (beyond m) (framed t) ≡ false
    unfolding framed
    framed_within t = marked_within m (earlier_words g.wiring t g.wiring.spread) (g.marks t) (chains g.wiring) (word_lt t)

    pub frames_within : (a n : ℕ) → any_of (beyond m) (frames a n) ≡ false
    unfolding frames any_of
    frames_within a zero = refl
    frames_within a (suc n) =
        any_of_append (beyond m) (frames a n) (framed (a + n)) ∙ or_false _ _ (frames_within a n) (framed_within (a + n))

    -- ---- a run of n slices from a on

    word_clocked : (a n j c : ℕ) → j < n → later g.wiring (a + n - 1) (get_or (earlier_words g.wiring (a + j) g.wiring.spread) c 0) ≡ get_or (later_words g.wiring (n - suc j) g.wiring.spread) c 0
    word_clocked a n j c h =
        let sum : a + n - 1 ≡ a + j + (n - suc j) = omega arith in
        ap₂ (later g.wiring) sum (earlier_words_get g.wiring (a + j) g.wiring.spread c)
        ∙ later_add g.wiring (a + j) (n - suc j) (earlier g.wiring (a + j) (get_or g.wiring.spread c 0))
        ∙ ap (later g.wiring (n - suc j))
        (later_earlier g.wiring sound.some sound.odd sound.taps (a + j) (get_or g.wiring.spread c 0) (sound.spread c))
        ∙ sym (later_words_get g.wiring (n - suc j) g.wiring.spread c)

    columns_framed : (a n j : ℕ) → j ≤ n → columns_below g.wiring n (λ t. g.marks (a + t)) j ≡ map (later g.wiring (a + n - 1)) (frames a j)
    unfolding columns_below frames framed
    columns_framed a n zero h = refl
    columns_framed a n (suc j) h =
        ap₂ ◌++◌ (columns_framed a n j (omega arith))
        (first_words g.wiring n (λ t. g.marks (a + t)) j (chains g.wiring) h (omega arith)
        ∙ sym (map_chosen (later g.wiring (a + n - 1)) (earlier_words g.wiring (a + j) g.wiring.spread) (later_words g.wiring (n - suc j) g.wiring.spread) (g.marks (a + j)) (chains g.wiring) (λ c l. word_clocked a n j c h)))
        ∙ sym (map-append (later g.wiring (a + n - 1)) (frames a j) (framed (a + j)))

    rank_framed : (a n : ℕ) → rank (columns_below g.wiring n (λ t. g.marks (a + t)) n) ≡ rank (frames a n)
    rank_framed a n =
        ap rank (columns_framed a n n (omega arith))
        ∙ rank_through m (later g.wiring (a + n - 1)) (later_xor g.wiring (a + n - 1))
        (λ x y. later_one_to_one g.wiring sound.some sound.odd sound.taps (a + n - 1) x y) (frames a n) (frames_within a n)

    left_rank : (a b : ℕ) → words_left g a b ≡ m - rank (frames a (b - a))
    unfolding words_left
    left_rank a b = ap (λ (x : ℕ). m - x) (rank_framed a (b - a))

    pub left_framed : (a b : ℕ) → words_left g a b ≡ length (reduced_list m (frames a (b - a)))
    left_framed a b = omega (arith, left_rank a b, words_and_rank m (frames a (b - a)) (frames_within a (b - a)))

    -- ---- longer and shorter runs

    pub longer_fewer : (a b c : ℕ) → a ≤ b → b ≤ c → words_left g a c ≤ words_left g a b
    longer_fewer a b c h l =
        let more : c - a ≡ b - a + (c - b) = omega arith in
        let split : frames a (c - a) ≡ frames a (b - a) ++ frames (a + (b - a)) (c - b) = ap (frames a) more ∙ frames_more a (b - a) (c - b) in
        let grows : rank (frames a (b - a)) ≤ rank (frames a (c - a)) =
        rw split (rank_front m (frames a (b - a)) (frames (a + (b - a)) (c - b)) (sym (ap (any_of (beyond m)) split) ∙ frames_within a (c - a)))
        in
        omega (arith, left_rank a b, left_rank a c)

    -- the end of a run leaves at least as many words
    pub later_start : (a b c : ℕ) → a ≤ b → b ≤ c → words_left g a c ≤ words_left g b c
    later_start a b c h l =
        let more : c - a ≡ b - a + (c - b) = omega arith in
        let same : a + (b - a) ≡ b = omega arith in
        let split : frames a (c - a) ≡ frames a (b - a) ++ frames b (c - b) = ap (frames a) more ∙ frames_more a (b - a) (c - b) ∙ ap (λ (x : ℕ). frames a (b - a) ++ frames x (c - b)) same in
        let grows : rank (frames b (c - b)) ≤ rank (frames a (c - a)) =
        rw split (rank_back m (frames a (b - a)) (frames b (c - b)) (sym (ap (any_of (beyond m)) split) ∙ frames_within a (c - a)))
        in
        omega (arith, left_rank b c, left_rank a c)

    pub slice_most : (a t c : ℕ) → a ≤ t → t < c → words_left g a c ≤ words_left g t (suc t)
    slice_most a t c h l = omega (arith, later_start a t c h (omega arith), longer_fewer t (suc t) c (omega arith) l)
