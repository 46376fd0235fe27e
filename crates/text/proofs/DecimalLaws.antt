-- Decimal digits: one more, how many there are, and that they tell the number.
--
--   digits_more, digits_last   the digits of a number of more than one digit, and of one
--   decimal_most               no number has more than 20 digits
--   decimal_few                a number below 10 ^ k has at most k, and one at least
--   decimal_same               two numbers of at most 20 digits with the same digits, and the same byte behind them, are one number
-- Assumes nothing.
use mathlib.Core.Path.{◌≡◌, refl, ap, ◌∙◌}
use mathlib.Core.Bool.{Bool, cond}
use mathlib.Core.Logic.{dite}
use mathlib.Core.List.{List, [], ◌∷◌, ◌++◌}
use Prim.Native.Nat.{ℕ, zero, suc, ◌+◌, ◌-◌, ◌*◌, ◌/◌, ◌%◌, ◌^◌, ◌<◌, ◌≤◌}
use native.Mathlib.Decide.{dec_lt}
use native.Mathlib.Nat.{pow-suc}
use native.Mathlib.Omega.{arith}
use borrow.Author.Tests.{lt-ltb, le-ltb}
use lib.ListN.{length, length-append}
use Rattle.text.specs.Text.{digits_in, decimal}

pub digits_more : (k n : ℕ) → 9 < n → digits_in (suc k) n ≡ digits_in k (n / 10) ++ (48 + n % 10) ∷ []
unfolding digits_in
digits_more k n h =
    ap (λ (b : Bool). cond b ((48 + n) ∷ []) (digits_in k (n / 10) ++ (48 + n % 10) ∷ [])) (le-ltb n 10 (omega arith))

pub digits_last : (k n : ℕ) → n ≤ 9 → digits_in (suc k) n ≡ (48 + n) ∷ []
unfolding digits_in
digits_last k n h =
    ap (λ (b : Bool). cond b ((48 + n) ∷ []) (digits_in k (n / 10) ++ (48 + n % 10) ∷ [])) (lt-ltb n 10 (omega arith))

-- ---- how many

no_digits : (n : ℕ) → digits_in 0 n ≡ []
unfolding digits_in
no_digits n = refl

-- one digit more than n ÷ 10 has, where n has more than one
digits_step : (j k n : ℕ) → (9 < n → length (digits_in j (n / 10)) ≤ k) → length (digits_in (suc j) n) ≤ suc k
digits_step j k n h =
    dite (dec_lt 9 n)
    (λ (g : 9 < n). omega (arith, ap length (digits_more j n g), length-append (digits_in j (n / 10)) ((48 + n % 10) ∷ []), h g))
    (λ (g : 9 < n → ⊥). omega (arith, ap length (digits_last j n (omega arith))))

digits_most : (j n : ℕ) → length (digits_in j n) ≤ j
digits_most zero n = omega (arith, ap length (no_digits n))
digits_most (suc j) n = digits_step j j n (λ g. digits_most j (n / 10))

digits_few : (j k n : ℕ) → n < 10 ^ suc k → length (digits_in j n) ≤ suc k
digits_few zero k n h = omega (arith, ap length (no_digits n))
digits_few (suc j) zero n h = digits_step j 0 n (λ g. let z : ⊥ = omega arith in absurd z)
digits_few (suc j) (suc k) n h = digits_step j (suc k) n (λ g. digits_few j k (n / 10) (omega (arith, pow-suc 10 (suc k))))

pub decimal_most : (n : ℕ) → length (decimal n) ≤ 20
unfolding decimal
decimal_most n = digits_most 20 n

pub decimal_few : (k n : ℕ) → n < 10 ^ suc k → length (decimal n) ≤ suc k
unfolding decimal
decimal_few k n h = digits_few 20 k n h

-- ---- which number they are of

-- the number that digits make behind those of a
abbrev value_of : ℕ → List ℕ → ℕ
value_of a [] = a
value_of a (d ∷ ds) = value_of (10 * a + (d - 48)) ds

value_last : (a : ℕ) (ds : List ℕ) (d : ℕ) → value_of a (ds ++ d ∷ []) ≡ 10 * value_of a ds + (d - 48)
value_last a [] d = refl
value_last a (x ∷ ds) d = value_last (10 * a + (x - 48)) ds d

digits_value : (k n : ℕ) → n < 10 ^ k → value_of 0 (digits_in k n) ≡ n
digits_value zero n h = ap (value_of 0) (no_digits n) ∙ omega arith
digits_value (suc k) n h =
    dite (dec_lt 9 n)
    (λ (g : 9 < n).
    ap (value_of 0) (digits_more k n g) ∙ value_last 0 (digits_in k (n / 10)) (48 + n % 10)
    ∙ omega (arith, digits_value k (n / 10) (omega (arith, pow-suc 10 k))))
    (λ (g : 9 < n → ⊥). ap (value_of 0) (digits_last k n (omega arith)) ∙ omega arith)

pub decimal_same : (n k e : ℕ) → n < 10 ^ 20 → k < 10 ^ 20 → decimal n ++ e ∷ [] ≡ decimal k ++ e ∷ [] → n ≡ k
unfolding decimal
decimal_same n k e hn hk h =
    omega (
      arith,
      value_last 0 (digits_in 20 n) e,
      value_last 0 (digits_in 20 k) e,
      ap (value_of 0) h,
      digits_value 20 n hn,
      digits_value 20 k hk,
    )
