-- Words by their bits. Assumes nothing.
use mathlib.Core.Path.{◌≡◌, sym, ap, ◌∙◌}
use mathlib.Core.Logic.{⊎_elim}
use Prim.Native.Nat.{ℕ, ◌*◌, ◌/◌, ◌%◌, ◌^◌, ◌<◌, min}
use native.Mathlib.Nat.{zero-mul, one-mul, mod-eq_of_lt}
use native.Mathlib.Omega.{arith}
use lib.Bits.{bit_and, and_shr, and_step}
use Rattle.word.specs.Word.{digit}
use Rattle.word.proofs.Laws.{bit_cases}
use Rattle.word.proofs.XorLaws.{xor_below_ext}
use Rattle.word.proofs.LowestLaws.{digit_past}
use Rattle.turned_words.proofs.TurnedLaws.{by_bits}

-- ---- words by their bits

-- two words with the same bits are the same
pub by_digits : (n a b : ℕ) → a < 2 ^ n → b < 2 ^ n → ((i : ℕ) → i < n → digit i a ≡ digit i b) → a ≡ b
by_digits n a b ha hb same =
    sym (by_bits n a ∙ mod-eq_of_lt ha)
    ∙ xor_below_ext n (λ i. digit i a * 2 ^ i) (λ i. digit i b * 2 ^ i) (λ i l. ap (λ (d : ℕ). d * 2 ^ i) (same i l))
    ∙ by_bits n b ∙ mod-eq_of_lt hb

pub digit_and : (i a b : ℕ) → digit i (bit_and a b) ≡ min (digit i a) (digit i b)
digit_and i a b = ap (λ (x : ℕ). x % 2) (and_shr a b i) ∙ omega (arith, and_step (a / 2 ^ i) (b / 2 ^ i))

pub digit_none : (i : ℕ) → digit i 0 ≡ 0
digit_none i = digit_past 0 0 i (omega arith) (omega arith)

-- a digit of a word that is there or not
pub digit_chosen : (j d x : ℕ) → d < 2 → digit j (d * x) ≡ d * digit j x
digit_chosen j d x h =
    ⊎_elim
    (λ (e : d ≡ 0). ap (λ (y : ℕ). digit j (y * x)) e ∙ ap (digit j) (zero-mul x) ∙ digit_none j ∙ sym (ap (λ (y : ℕ). y * digit j x) e ∙ zero-mul (digit j x)))
    (λ (e : d ≡ 1). ap (λ (y : ℕ). digit j (y * x)) e ∙ ap (digit j) (one-mul x) ∙ sym (ap (λ (y : ℕ). y * digit j x) e ∙ one-mul (digit j x)))
    (bit_cases d h)
