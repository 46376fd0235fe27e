-- The set's chains, spread words and ties: how many, and which stands where. Assumes nothing.
use mathlib.Core.Path.{◌≡◌, refl, sym, ap, ap₂, ◌∙◌}
use mathlib.Core.Bool.{false}
use mathlib.Core.List.{List, []}
use Prim.Native.Nat.{ℕ, ◌+◌, ◌*◌, ◌≤◌, ◌<◌, min}
use mathlib.Core.Logic.{dite}
use native.Mathlib.Decide.{dec_le}
use native.Mathlib.Nat.{mul_assoc, mul-le-mul_left, le_trans}
use native.Mathlib.Numerals.{add-one}
use native.Mathlib.Omega.{arith}
use borrow.Author.Tests.{ltb-false}
use lib.Dec.{ltb}
use lib.ListN.{length, get_or, take, drop, set, replicate}
use lib.Seq.{take_all}
use Rattle.numbers.specs.Bytes.{count_at, word_at}
use Rattle.word.specs.Reply.{front}
use Rattle.word.proofs.BoolLaws.{or_false_left, or_false_right}
use Rattle.word.proofs.FrontLaws.{front_next, front_nothing}
use Rattle.numbers.proofs.FileLaws.{word_at_place}
use Rattle.rows.specs.Row.{row_bytes}
use Rattle.ties.specs.Ties.{entry_bytes}
use Rattle.register.specs.Circuit.{bad_chains}
use Rattle.set_layout.specs.Layout.{spread_at, tie_count_at, ties_at, chains_of, spread_of, slices_of, tie_count_of, tie_bytes, no_words}
use Rattle.numbers.proofs.ByteLaws.{length_words_at}

pub good_chains : (n : ℕ) → bad_chains n ≡ false → (1 ≤ n) × (n ≤ 256)
unfolding bad_chains
good_chains n h =
    (ltb-false n 1 (or_false_left (ltb n 1) (ltb 256 n) h), ltb-false 256 n (or_false_right (ltb n 1) (ltb 256 n) h))

-- counts of 2 bytes keep the rows small, and with them the place behind the last of them
pub rows_small : (b s : ℕ) → b ≤ 8192 → s ≤ 65536 → b * s ≤ 536870912
rows_small b s hb hs = le_trans (mul-le-mul_left b hs) (omega arith)

pub slices_end_small : (n s : ℕ) → n < 65536 → s < 65536 → tie_count_at n s ≤ 1074266126
slices_end_small n s hn hs =
    omega (arith, rows_small (row_bytes n) s (omega arith) (omega arith), mul_assoc 2 (row_bytes n) s)

pub spread_length : (set : List ℕ) → length (spread_of set) ≡ chains_of set
spread_length set = length_words_at set spread_at (chains_of set)

pub no_words_length : length no_words ≡ 256
unfolding no_words
no_words_length = refl

-- ---- the spread words read so far

pub spread_start : (l : List ℕ) → l ≡ replicate 256 0 → l ≡ front [] no_words
unfolding no_words
spread_start l e = e ∙ sym (front_nothing no_words)

pub spread_turn : (l ws : List ℕ) (c w : ℕ) → ws ≡ front (take c (spread_of l)) no_words → c < chains_of l → c < 256
    → w ≡ word_at l (spread_at + 8 * c) → set ws c w ≡ front (take (c + 1) (spread_of l)) no_words
spread_turn l ws c w e h b r =
    let inside : c < length (spread_of l) = omega (arith, spread_length l) in
    let room : c < length no_words = omega (arith, no_words_length) in
    ap (λ (v : ℕ). set ws c v) (r ∙ sym (word_at_place l spread_at (chains_of l) c h))
    ∙ ap (λ (x : List ℕ). set x c (get_or (spread_of l) c 0)) e
    ∙ front_next c (spread_of l) no_words inside room
    ∙ ap (λ (k : ℕ). front (take k (spread_of l)) no_words) (sym (add-one c))

-- no more than 256 are read, and where there are no more, all
pub spread_end : (l ws : List ℕ) (c : ℕ) → ws ≡ front (take c (spread_of l)) no_words → c ≡ min (chains_of l) 256
    → ws ≡ front (take 256 (spread_of l)) no_words
spread_end l ws c r h = r ∙ ap (λ (x : List ℕ). front x no_words) (dite (dec_le 256 c) full few)
  where
    full : 256 ≤ c → take c (spread_of l) ≡ take 256 (spread_of l)
    full b = let all : c ≡ 256 = omega arith in ap (λ (k : ℕ). take k (spread_of l)) all

    few : (256 ≤ c → ⊥) → take c (spread_of l) ≡ take 256 (spread_of l)
    few b =
        take_all c (spread_of l) (omega (arith, spread_length l)) ∙ sym (take_all 256 (spread_of l) (omega (arith, spread_length l)))

-- a set of at most 256 chains has no more spread words than are read
pub spread_whole : (l ws : List ℕ) → ws ≡ front (take 256 (spread_of l)) no_words → chains_of l ≤ 256 → ws ≡ front (spread_of l) no_words
spread_whole l ws e h =
    let few : length (spread_of l) ≤ 256 = omega (arith, spread_length l, h) in
    e ∙ ap (λ (x : List ℕ). front x no_words) (take_all 256 (spread_of l) few)

-- ---- the ties

module _ (set : List ℕ) (n s : ℕ) (en : n ≡ chains_of set) (es : s ≡ slices_of set) where
  pub tie_count_of_lem : (k : ℕ) → k ≡ count_at set (tie_count_at n s) → k ≡ tie_count_of set
  tie_count_of_lem k ek = ek ∙ ap (count_at set) (ap₂ tie_count_at en es)

  pub tie_bytes_of : (at k : ℕ) (l : List ℕ) → at ≡ ties_at n s → k ≡ tie_count_of set → l ≡ take (entry_bytes * k) (drop at set) → l ≡ tie_bytes set
  unfolding tie_bytes
  tie_bytes_of at k l ea ek el =
      el ∙ ap₂ (λ (x y : ℕ). take (entry_bytes * x) (drop y set)) ek (ea ∙ ap₂ ties_at en es)
