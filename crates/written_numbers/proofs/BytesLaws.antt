-- Bytes written into a list.
--
--   word_in_bytes            the eight bytes of a word, by std's words and by the crate's
--   copied                   bytes copied over a part of a list are written from its first place on
--   BytesLeft l₀ l bs at i   once the bytes bs from place i on are written into l, all of bs stand in l₀ from place `at` on
--   bytes_start, bytes_turn, bytes_end   the loop that writes them
--   four_words               four words read one after the other and written so are the 32 bytes
-- Assumes nothing.
use mathlib.Core.Path.{◌≡◌, refl, sym, ap, ap₂, ◌∙◌}
use mathlib.Core.Logic.{dite}
use mathlib.Core.List.{List, [], ◌∷◌, ◌++◌, append-nil, append_assoc}
use Prim.Native.Nat.{ℕ, suc, ◌+◌, ◌-◌, ◌≤◌, ◌<◌, min}
use native.Mathlib.Nat.{add-zero, div-div-eq-div-mul}
use native.Mathlib.Numerals.{add-one}
use native.Mathlib.Decide.{dec_lt}
use native.Mathlib.Omega.{arith}
use lib.ListN.{length, get_or, take, drop, set, length-set, drop_of_length-le}
use lib.Seq.{drop-cons, drop-drop, sets, sets-eq}
use Rattle.numbers.specs.Bytes.{word_at, words_at, bytes_of, word_bytes}
use Rattle.std.specs.Int.{to_le_bytes}
use mir.Syntax.{w64}
use borrow.Rule.Slice.PartMut.{put_mid}
use Rattle.numbers.proofs.ByteLaws.{bytes_of_length}
use Rattle.numbers.proofs.FileLaws.{sets_parts, words_bytes}
use Rattle.written_numbers.proofs.WritingLaws.{Writing, writing_start, writing_past, writing_end}

-- the eight bytes of a word, the lowest first
pub word_in_bytes : (x : ℕ) (bs : List ℕ) → bs ≡ to_le_bytes w64 x → bs ≡ bytes_of 8 x
unfolding bytes_of
word_in_bytes x bs e = e ∙ simp div-div-eq-div-mul refl

-- a part of a list copied over
pub copied : (l vs : List ℕ) (at k : ℕ) → at + k ≤ length l → length vs ≡ k → put_mid at k l vs ≡ sets l at vs
copied l vs at k h e =
    let past : drop k (drop at l) ≡ drop (at + length vs) l = drop-drop k at l ∙ ap (λ (n : ℕ). drop (at + n) l) (sym e) in
    sym (append_assoc (take at l) vs (drop k (drop at l))) ∙ ap (λ (x : List ℕ). take at l ++ vs ++ x) past ∙ sym (sets-eq vs l at (omega arith))

-- ---- bytes one by one

abbrev pub BytesLeft : List ℕ → List ℕ → List ℕ → ℕ → ℕ → Type 0
BytesLeft l₀ l bs at i = Writing l₀ l bs (drop i bs) at (at + i)

pub bytes_start : (l bs : List ℕ) (at : ℕ) → BytesLeft l l bs at 0
bytes_start l bs at = rw add-zero (writing_start l bs at)

pub bytes_turn : (l₀ l bs : List ℕ) (at i : ℕ) → BytesLeft l₀ l bs at i → i < length bs → BytesLeft l₀ (set l (at + i) (get_or bs i 0)) bs at (i + 1)
bytes_turn l₀ l bs at i w h = record {
  long = length-set l (at + i) (get_or bs i 0) ∙ w.long;
  rest =
      let place : at + (i + 1) ≡ suc (at + i) = omega arith in
      ap₂ (λ (p k : ℕ). sets (set l (at + i) (get_or bs i 0)) p (drop k bs)) place (add-one i)
      ∙ ap (sets l (at + i)) (sym (drop-cons bs i 0 h)) ∙ w.rest;
}

pub bytes_end : (l₀ l bs : List ℕ) (at i n : ℕ) → BytesLeft l₀ l bs at i → n ≡ min (length bs) (length l₀ - at) → i ≡ n → l ≡ sets l₀ at bs
bytes_end l₀ l bs at i n w e z = dite (dec_lt i (length bs)) full whole
  where
    full : i < length bs → l ≡ sets l₀ at bs
    full h = writing_past l₀ l bs (drop i bs) at (at + i) w (omega (arith, w.long))

    whole : (i < length bs → ⊥) → l ≡ sets l₀ at bs
    whole h = let end : length bs ≤ i = omega arith in writing_end l₀ l bs (drop i bs) at (at + i) w (drop_of_length-le bs end)

-- ---- bytes by words

module _ (l l1 l2 l3 l4 : List ℕ) (at a b c d : ℕ) (e1 : l1 ≡ sets l at (bytes_of 8 a)) (e2 : l2 ≡ sets l1 (at + 8) (bytes_of 8 b))
    (e3 : l3 ≡ sets l2 (at + 16) (bytes_of 8 c)) (e4 : l4 ≡ sets l3 (at + 24) (bytes_of 8 d)) where
  -- four words one after the other are a write of their bytes
  words_in_a_row : l4 ≡ sets l at (word_bytes (a ∷ b ∷ c ∷ d ∷ []))
  unfolding word_bytes
  words_in_a_row =
      sym
      (sets_parts (bytes_of 8 a) (word_bytes (b ∷ c ∷ d ∷ [])) l at (at + 8) (next a at (at + 8) (omega arith))
      ∙ ap (λ (x : List ℕ). sets x (at + 8) (word_bytes (b ∷ c ∷ d ∷ []))) (sym e1)
      ∙ sets_parts (bytes_of 8 b) (word_bytes (c ∷ d ∷ [])) l1 (at + 8) (at + 16) (next b (at + 8) (at + 16) (omega arith))
      ∙ ap (λ (x : List ℕ). sets x (at + 16) (word_bytes (c ∷ d ∷ []))) (sym e2)
      ∙ sets_parts (bytes_of 8 c) (word_bytes (d ∷ [])) l2 (at + 16) (at + 24) (next c (at + 16) (at + 24) (omega arith))
      ∙ ap (λ (x : List ℕ). sets x (at + 24) (word_bytes (d ∷ []))) (sym e3) ∙ ap (sets l3 (at + 24)) (append-nil (bytes_of 8 d)) ∙ sym e4)
    where
      next : (x i j : ℕ) → i + 8 ≡ j → i + length (bytes_of 8 x) ≡ j
      next x i j h = ap (λ (n : ℕ). i + n) (bytes_of_length 8 x) ∙ h

  -- .. and those of the 32 bytes that they were read from
  pub four_words : (s : List ℕ) (from : ℕ) → ((i : ℕ) → get_or s i 0 < 256) → from + 32 ≤ length s → a ≡ word_at s from → b ≡ word_at s (from + 8)
      → c ≡ word_at s (from + 16) → d ≡ word_at s (from + 24) → l4 ≡ sets l at (take 32 (drop from s))
  unfolding words_at
  four_words s from small h ea eb ec ed =
      let second : from + 16 ≡ from + 8 + 8 = omega arith in
      let third : from + 24 ≡ from + 8 + 8 + 8 = omega arith in
      let these : a ∷ b ∷ c ∷ d ∷ [] ≡ words_at s from 4 =
      ap₂ (λ (x y : ℕ). x ∷ y ∷ c ∷ d ∷ []) ea eb
      ∙ ap₂ (λ (x y : ℕ). word_at s from ∷ word_at s (from + 8) ∷ x ∷ y ∷ []) (ec ∙ ap (word_at s) second) (ed ∙ ap (word_at s) third)
      in
      words_in_a_row ∙ ap (sets l at) (ap word_bytes these ∙ words_bytes s small 4 from h)
