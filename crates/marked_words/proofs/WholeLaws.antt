-- 64 chains that are all marked: their words are the first 64, and the loop that copies these over a list's end. Assumes nothing.
use mathlib.Core.Path.{◌≡◌, refl, sym, ap, ap₂, ◌∙◌}
use mathlib.Core.Bool.{false, not}
use mathlib.Core.Logic.{dite}
use mathlib.Core.List.{List, [], ◌∷◌, ◌++◌, append_assoc, append-nil}
use Prim.Native.Nat.{ℕ, zero, suc, ◌+◌, ◌-◌, ◌^◌, ◌≤◌, ◌<◌}
use native.Mathlib.Nat.{lt_of_lt_of_le}
use native.Mathlib.Numerals.{add-one}
use native.Mathlib.Decide.{dec_le}
use native.Mathlib.Omega.{arith}
use lib.Dec.{eqb}
use borrow.Author.Tests.{eqb-true, not-false}
use lib.Count.{ones}
use lib.ListN.{length, take, get_or, set, length-set}
use lib.Pow.{pow_mono}
use lib.Seq.{take-suc, take-suc-set, take_all, length-take-le}
use Rattle.word.specs.Word.{digit}
use Rattle.word.specs.Some.{any_below}
use Rattle.word.proofs.SomeLaws.{any_below_false}
use Rattle.numbers.specs.Joined.{joined}
use Rattle.rows.specs.Marks.{listed, marked_words, bits}
use Rattle.marked_words.specs.Back.{back}
use Rattle.marked_words.proofs.BackLaws.{back_fits}
use Rattle.marked_words.proofs.ListLaws.{words_of_lem, words_of_length}

-- ---- the words

abbrev all : ℕ
all = 18446744073709551615

all_ones : any_below 64 (λ d. not (eqb (digit d all) 1)) ≡ false
unfolding any_below
all_ones = refl

one : (d : ℕ) → d < 64 → digit d all ≡ 1
one d h = eqb-true _ _ (not-false _ (any_below_false 64 (λ d. not (eqb (digit d all) 1)) all_ones d h))

module _ (ws : List ℕ) (h : 64 ≤ length ws) where
  whole_below : (k : ℕ) → k ≤ 64 → marked_words ws (bits all) k ≡ take k ws
  unfolding joined
  whole_below zero l = refl
  whole_below (suc k) l =
      ap₂ (λ (x : List ℕ) (d : ℕ). x ++ listed d (get_or ws k 0)) (whole_below k (omega arith)) (one k (omega arith)) ∙ sym (take-suc ws k 0 (omega arith))

  pub whole_words : marked_words ws (bits all) 64 ≡ take 64 ws
  whole_words = whole_below 64 (omega arith)

-- such marks ask for 64 words
pub whole_long : (n marks : ℕ) → marks ≡ all → marks < 2 ^ n → 64 ≤ n
whole_long n marks e h =
    dite (dec_le 64 n) (λ (l : 64 ≤ n). l)
    (λ (l : 64 ≤ n → ⊥).
    let short : n ≤ 63 = omega arith in
    let z : marks < 2 ^ 63 = lt_of_lt_of_le h (pow_mono short) in
    let no : ⊥ = omega arith in
    absurd no)

-- .. and for 64 places
pub whole_fits : (ws l : List ℕ) (marks : ℕ) → marks ≡ all → marks < 2 ^ 64 → marks < 2 ^ length ws → ones marks ≤ length l → (64 ≤ length l) × (64 ≤ length ws)
whole_fits ws l marks e f h room =
    let long : 64 ≤ length ws = whole_long (length ws) marks e h in
    let same : length (marked_words ws (bits marks) 64) ≡ 64 =
    ap (λ (m : ℕ). length (marked_words ws (bits m) 64)) e ∙ ap length (whole_words ws long) ∙ length-take-le 64 ws long in
    (omega (arith, same, words_of_length ws marks f, ap length (words_of_lem ws marks)), long)

-- ---- the loop

module _ (ws : List ℕ) where
  -- what the loop knows: behind the first places the first c words stand
  pub Copying : List ℕ → List ℕ → ℕ → Type 0
  Copying l₀ l c = (length l ≡ length l₀) × (take (length l₀ - 64 + c) l ≡ take (length l₀ - 64) l₀ ++ take c ws)

  pub copying_long : (l₀ l : List ℕ) (c : ℕ) → Copying l₀ l c → length l ≡ length l₀
  unfolding Copying
  copying_long l₀ l c k = k.0

  pub copying_starts : (l : List ℕ) → Copying l l 0
  unfolding Copying
  copying_starts l = (
    refl,
    let none : length l - 64 + 0 ≡ length l - 64 = omega arith in ap (λ (i : ℕ). take i l) none ∙ sym (append-nil (take (length l - 64) l)),
  )

  pub copying_turns : (l₀ l : List ℕ) (c w : ℕ) → Copying l₀ l c → 64 ≤ length l₀ → 64 ≤ length ws → c < 64 → w ≡ get_or ws c 0
      → Copying l₀ (set l (length l₀ - 64 + c) w) (c + 1)
  unfolding Copying
  copying_turns l₀ l c w k h m n e =
      let at : ℕ = length l₀ - 64 + c in
      let next : length l₀ - 64 + (c + 1) ≡ suc at = omega arith in (
        length-set l at w ∙ k.0,
        ap (λ (i : ℕ). take i (set l at w)) next ∙ take-suc-set l at w (omega (arith, k.0))
            ∙ ap₂ (λ (x : List ℕ) (y : ℕ). x ++ y ∷ []) k.1 e
            ∙ append_assoc (take (length l₀ - 64) l₀) (take c ws) (get_or ws c 0 ∷ [])
            ∙ ap (λ (x : List ℕ). take (length l₀ - 64) l₀ ++ x) (sym (take-suc ws c 0 (omega arith)) ∙ ap (λ (i : ℕ). take i ws) (sym (add-one c))),
      )

  pub copying_ends : (l₀ l : List ℕ) (c : ℕ) → Copying l₀ l c → 64 ≤ length l₀ → 64 ≤ length ws → c ≡ 64 → l ≡ back (take 64 ws) l₀
  unfolding Copying
  copying_ends l₀ l c k h m e =
      let long : length (take 64 ws) ≡ 64 = length-take-le 64 ws m in
      sym (take_all (length l₀ - 64 + c) l (omega (arith, k.0))) ∙ k.1
      ∙ ap₂ (λ (i j : ℕ). take (length l₀ - i) l₀ ++ take j ws) (sym long) e ∙ sym (back_fits (take 64 ws) l₀ (omega arith))

-- ---- a word of 64 chains that are all marked

pub whole_listed : (ws l₀ l : List ℕ) (place marks : ℕ) → marks ≡ all → 64 ≤ length ws → place ≡ length l₀ - 64 → l ≡ back (take 64 ws) l₀
    → (place ≡ length l₀ - length (marked_words ws (bits marks) 64)) × (l ≡ back (marked_words ws (bits marks) 64) l₀)
whole_listed ws l₀ l place marks e h ep el =
    let words : take 64 ws ≡ marked_words ws (bits marks) 64 = sym (whole_words ws h) ∙ ap (λ (m : ℕ). marked_words ws (bits m) 64) (sym e) in (
      ep ∙ ap (λ (x : ℕ). length l₀ - x) (sym (length-take-le 64 ws h)) ∙ ap (λ (x : List ℕ). length l₀ - length x) words,
      el ∙ ap (λ (x : List ℕ). back x l₀) words,
    )
