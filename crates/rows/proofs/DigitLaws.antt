-- The digits of a number that is read from bytes: bit k of the word of eight bytes at byte 8 i of a row is the cell of chain 64 i + k.
-- Assumes nothing.
use mathlib.Core.Path.{◌≡◌, sym, ap, ap₂, ◌∙◌}
use mathlib.Core.Logic.{dite}
use mathlib.Core.List.{List}
use Prim.Native.Nat.{ℕ, zero, suc, ◌+◌, ◌-◌, ◌*◌, ◌/◌, ◌%◌, ◌^◌, ◌<◌}
use native.Mathlib.Decide.{dec_lt}
use native.Mathlib.Omega.{arith}
use lib.ListN.{get_or}
use lib.Pow.{shr-shr}
use Rattle.word.specs.Word.{digit}
use Rattle.word.proofs.LowestLaws.{digit_mod}
use Rattle.numbers.specs.Bytes.{number_at, word_at}
use Rattle.numbers.proofs.ByteLaws.{number_at_suc}
use Rattle.rows.specs.Row.{cell}

-- ---- a number's bytes

low_byte : (b x d : ℕ) → b < 256 → d < 8 → digit d (b + 256 * x) ≡ digit d b
low_byte b x d h l =
    let rest : (b + 256 * x) % 256 ≡ b = omega arith in sym (digit_mod 8 (b + 256 * x) d l) ∙ ap (digit d) rest

high_bytes : (b x d : ℕ) → b < 256 → digit (8 + d) (b + 256 * x) ≡ digit d x
high_bytes b x d h =
    let rest : (b + 256 * x) / 256 ≡ x = omega arith in
    ap (λ (y : ℕ). y % 2) (sym (shr-shr (b + 256 * x) 8 d)) ∙ ap (λ (y : ℕ). y / 2 ^ d % 2) rest

module _ (l : List ℕ) (bytes : (i : ℕ) → get_or l i 0 < 256) where
  number_digit : (j i d : ℕ) → d < 8 * j → digit d (number_at j l i) ≡ digit (d % 8) (get_or l (i + d / 8) 0)
  number_digit zero i d h = let z : ⊥ = omega arith in absurd z
  number_digit (suc j) i d h =
      ap (digit d) (number_at_suc j l i)
      ∙ dite (dec_lt d 8)
      (λ (s : d < 8).
      let bit : d ≡ d % 8 = omega arith in
      let byte : i ≡ i + d / 8 = omega arith in
      low_byte (get_or l i 0) (number_at j l (suc i)) d (bytes i) s ∙ ap₂ (λ (x y : ℕ). digit x (get_or l y 0)) bit byte)
      (λ (s : d < 8 → ⊥).
      let on : d ≡ 8 + (d - 8) = omega arith in
      let bit : (d - 8) % 8 ≡ d % 8 = omega arith in
      let byte : suc i + (d - 8) / 8 ≡ i + d / 8 = omega arith in
      ap (λ (x : ℕ). digit x (get_or l i 0 + 256 * number_at j l (suc i))) on
      ∙ high_bytes (get_or l i 0) (number_at j l (suc i)) (d - 8) (bytes i)
      ∙ number_digit j (suc i) (d - 8) (omega arith)
      ∙ ap₂ (λ (x y : ℕ). digit x (get_or l y 0)) bit byte)

  -- 64 cells of a row are the bits of a word
  pub word_cell : (i k : ℕ) → k < 64 → digit k (word_at l (8 * i)) ≡ cell l (64 * i + k)
  word_cell i k h =
      let bit : k % 8 ≡ (64 * i + k) % 8 = omega arith in
      let byte : 8 * i + k / 8 ≡ (64 * i + k) / 8 = omega arith in
      number_digit 8 (8 * i) k h ∙ ap₂ (λ (x y : ℕ). digit x (get_or l y 0)) bit byte
