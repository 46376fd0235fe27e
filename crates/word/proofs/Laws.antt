-- The laws of XOR, AND and parity that the crates above cite: XOR associates and cancels, AND and parity spread over XOR,
-- the digits of an XOR, and the parities of a list of words. Assumes nothing.
use mathlib.Core.Path.{◌≡◌, refl, sym, ap, ap₂, ◌∙◌}
use mathlib.Core.Logic.{◌⊎◌, inl, inr}
use Prim.Native.Nat.{ℕ, zero, suc, ◌+◌, ◌*◌, ◌/◌, ◌%◌, ◌^◌, ◌<◌, min, max}
use native.Mathlib.Nat.{add-zero, zero-add, zero-min, zero-mul, mul-one, mul_assoc, pow-suc, div-one, not-suc-le-zero, le_of_suc-le-suc}
use native.Mathlib.Numerals.{one-add}
use native.Mathlib.Omega.{arith}
use lib.Arith.{bin_ind}
use lib.Pow.{shr-shr}
use lib.Bits.{bit_xor, bit_and, bit_or, differ, xor_step, and_step, or_step, xor_zero_r, xor_self, xor_comm, and_comm, and_le_l, and_le_r, or_add_and, xor_shr, and_shr, or_shr}
use lib.Count.{ones, ones_step}
use mathlib.Core.List.{List, [], ◌∷◌}
use lib.ListN.{length, get_or}
use Rattle.word.specs.Word.{digit, parity}
use Rattle.word.specs.Parities.{parities}

-- ---- digits below 2

pub bit_cases : (x : ℕ) → x < 2 → (x ≡ 0) ⊎ (x ≡ 1)
bit_cases zero h = inl refl
bit_cases (suc zero) h = inr refl
bit_cases (suc (suc x)) h = let z : ⊥ = omega arith in absurd z

pub mod2_lt : (n : ℕ) → n % 2 < 2
mod2_lt n = omega arith

differ_lt : (d e : ℕ) → d < 2 → e < 2 → differ d e < 2
differ_lt zero e hd he = he
differ_lt (suc zero) zero hd he = omega arith
differ_lt (suc zero) (suc zero) hd he = omega arith
differ_lt (suc zero) (suc (suc e)) hd he = let z : ⊥ = omega arith in absurd z
differ_lt (suc (suc d)) e hd he = let z : ⊥ = omega arith in absurd z

differ_mod : (d e : ℕ) → d < 2 → e < 2 → differ d e ≡ (d + e) % 2
differ_mod zero zero hd he = refl
differ_mod zero (suc zero) hd he = refl
differ_mod zero (suc (suc e)) hd he = let z : ⊥ = omega arith in absurd z
differ_mod (suc zero) zero hd he = refl
differ_mod (suc zero) (suc zero) hd he = refl
differ_mod (suc zero) (suc (suc e)) hd he = let z : ⊥ = omega arith in absurd z
differ_mod (suc (suc d)) e hd he = let z : ⊥ = omega arith in absurd z

differ_assoc : (d e f : ℕ) → d < 2 → e < 2 → f < 2 → differ (differ d e) f ≡ differ d (differ e f)
differ_assoc zero e f hd he hf = refl
differ_assoc (suc zero) zero f hd he hf = refl
differ_assoc (suc zero) (suc zero) zero hd he hf = refl
differ_assoc (suc zero) (suc zero) (suc zero) hd he hf = refl
differ_assoc (suc zero) (suc zero) (suc (suc f)) hd he hf = let z : ⊥ = omega arith in absurd z
differ_assoc (suc zero) (suc (suc e)) f hd he hf = let z : ⊥ = omega arith in absurd z
differ_assoc (suc (suc d)) e f hd he hf = let z : ⊥ = omega arith in absurd z

min_differ : (d e f : ℕ) → d < 2 → e < 2 → f < 2 → min (differ d e) f ≡ differ (min d f) (min e f)
min_differ zero zero f hd he hf = cases (bit_cases f hf)
  where
    cases : (f ≡ 0) ⊎ (f ≡ 1) → min zero f ≡ differ (min zero f) (min zero f)
    cases (inl h) = rw h
    cases (inr h) = rw h
min_differ zero (suc zero) f hd he hf = cases (bit_cases f hf)
  where
    cases : (f ≡ 0) ⊎ (f ≡ 1) → min 1 f ≡ differ (min zero f) (min 1 f)
    cases (inl h) = rw h
    cases (inr h) = rw h
min_differ zero (suc (suc e)) f hd he hf = let z : ⊥ = omega arith in absurd z
min_differ (suc zero) zero f hd he hf = cases (bit_cases f hf)
  where
    cases : (f ≡ 0) ⊎ (f ≡ 1) → min 1 f ≡ differ (min 1 f) (min zero f)
    cases (inl h) = rw h
    cases (inr h) = rw h
min_differ (suc zero) (suc zero) f hd he hf = cases (bit_cases f hf)
  where
    cases : (f ≡ 0) ⊎ (f ≡ 1) → min zero f ≡ differ (min 1 f) (min 1 f)
    cases (inl h) = rw h
    cases (inr h) = rw h
min_differ (suc zero) (suc (suc e)) f hd he hf = let z : ⊥ = omega arith in absurd z
min_differ (suc (suc d)) e f hd he hf = let z : ⊥ = omega arith in absurd z

-- ---- the low digit and the rest of an XOR and of an AND

xor_half : (a b : ℕ) → bit_xor a b / 2 ≡ bit_xor (a / 2) (b / 2)
xor_half a b = xor_shr a b 1

and_half : (a b : ℕ) → bit_and a b / 2 ≡ bit_and (a / 2) (b / 2)
and_half a b = and_shr a b 1

xor_low : (a b : ℕ) → bit_xor a b % 2 ≡ differ (a % 2) (b % 2)
xor_low a b = omega (arith, xor_step a b, differ_lt (a % 2) (b % 2) (mod2_lt a) (mod2_lt b))

and_low : (a b : ℕ) → bit_and a b % 2 ≡ min (a % 2) (b % 2)
and_low a b = omega (arith, and_step a b)

-- two numbers are equal by their low digit and their half
by_halves : (a b : ℕ) → a / 2 ≡ b / 2 → a % 2 ≡ b % 2 → a ≡ b
by_halves a b h d = omega arith

-- ---- XOR

pub xor_assoc : (a b c : ℕ) → bit_xor (bit_xor a b) c ≡ bit_xor a (bit_xor b c)
xor_assoc =
    bin_ind (λ (a : ℕ). (b c : ℕ) → bit_xor (bit_xor a b) c ≡ bit_xor a (bit_xor b c)) (λ b c. refl)
    (λ a ih b c.
    by_halves _ _
    (xor_half (bit_xor a b) c ∙ ap (λ (x : ℕ). bit_xor x (c / 2)) (xor_half a b) ∙ ih (b / 2) (c / 2)
    ∙ ap (λ (x : ℕ). bit_xor (a / 2) x) (sym (xor_half b c)) ∙ sym (xor_half a (bit_xor b c)))
    (xor_low (bit_xor a b) c ∙ ap (λ (x : ℕ). differ x (c % 2)) (xor_low a b)
    ∙ differ_assoc (a % 2) (b % 2) (c % 2) (mod2_lt a) (mod2_lt b) (mod2_lt c)
    ∙ ap (λ (x : ℕ). differ (a % 2) x) (sym (xor_low b c)) ∙ sym (xor_low a (bit_xor b c))))

pub xor_cancel : (a b : ℕ) → bit_xor a (bit_xor a b) ≡ b
xor_cancel a b = sym (xor_assoc a a b) ∙ ap (λ (x : ℕ). bit_xor x b) (xor_self a)

pub xor_cancel_right : (a b : ℕ) → bit_xor (bit_xor a b) b ≡ a
xor_cancel_right a b = xor_assoc a b b ∙ ap (bit_xor a) (xor_self b) ∙ xor_zero_r a

pub xor_left_comm : (a b c : ℕ) → bit_xor a (bit_xor b c) ≡ bit_xor b (bit_xor a c)
xor_left_comm a b c = sym (xor_assoc a b c) ∙ ap (λ (x : ℕ). bit_xor x c) (xor_comm a b) ∙ xor_assoc b a c

-- two words whose XOR is 0 are equal
pub xor_zero_eq : (a b : ℕ) → bit_xor a b ≡ 0 → a ≡ b
xor_zero_eq a b h = sym (xor_zero_r a) ∙ ap (bit_xor a) (sym h) ∙ xor_cancel a b

pub digit_xor : (i a b : ℕ) → digit i (bit_xor a b) ≡ (digit i a + digit i b) % 2
digit_xor i a b =
    ap (λ (x : ℕ). x % 2) (xor_shr a b i) ∙ xor_low (a / 2 ^ i) (b / 2 ^ i)
    ∙ differ_mod (digit i a) (digit i b) (mod2_lt (a / 2 ^ i)) (mod2_lt (b / 2 ^ i))

-- ---- AND over XOR, and parity

-- AND goes over an operation that works bit by bit
and_over : (op bit : ℕ → ℕ → ℕ) → ((b : ℕ) → op 0 b ≡ b) → ((a b : ℕ) → op a b / 2 ≡ op (a / 2) (b / 2))
    → ((a b : ℕ) → op a b % 2 ≡ bit (a % 2) (b % 2))
    → ((d e f : ℕ) → d < 2 → e < 2 → f < 2 → min (bit d e) f ≡ bit (min d f) (min e f))
    → (a b c : ℕ) → bit_and (op a b) c ≡ op (bit_and a c) (bit_and b c)
and_over op bit none half low each =
    bin_ind (λ (a : ℕ). (b c : ℕ) → bit_and (op a b) c ≡ op (bit_and a c) (bit_and b c))
    (λ b c. ap (λ (x : ℕ). bit_and x c) (none b) ∙ sym (none (bit_and b c)))
    (λ a ih b c.
    by_halves _ _
    (and_half (op a b) c ∙ ap (λ (x : ℕ). bit_and x (c / 2)) (half a b) ∙ ih (b / 2) (c / 2)
    ∙ ap₂ op (sym (and_half a c)) (sym (and_half b c)) ∙ sym (half (bit_and a c) (bit_and b c)))
    (and_low (op a b) c ∙ ap (λ (x : ℕ). min x (c % 2)) (low a b) ∙ each (a % 2) (b % 2) (c % 2) (mod2_lt a) (mod2_lt b) (mod2_lt c)
    ∙ ap₂ bit (sym (and_low a c)) (sym (and_low b c)) ∙ sym (low (bit_and a c) (bit_and b c))))

pub and_xor : (a b c : ℕ) → bit_and (bit_xor a b) c ≡ bit_xor (bit_and a c) (bit_and b c)
and_xor = and_over bit_xor differ (λ b. refl) xor_half xor_low min_differ

odd_sum : (p q r d e : ℕ) → p % 2 ≡ (q + r) % 2 → (((d + e) % 2) + p) % 2 ≡ ((d + q) + (e + r)) % 2
odd_sum p q r d e h = omega arith

ones_xor_zero : (b : ℕ) → ones (bit_xor zero b) % 2 ≡ (ones zero + ones b) % 2
unfolding ones
ones_xor_zero b = omega arith

pub ones_xor : (a b : ℕ) → ones (bit_xor a b) % 2 ≡ (ones a + ones b) % 2
ones_xor =
    bin_ind (λ (a : ℕ). (b : ℕ) → ones (bit_xor a b) % 2 ≡ (ones a + ones b) % 2) ones_xor_zero
    (λ a ih b.
    ap (λ (x : ℕ). x % 2)
    (ones_step (bit_xor a b)
    ∙ ap₂ ◌+◌ (xor_low a b ∙ differ_mod (a % 2) (b % 2) (mod2_lt a) (mod2_lt b)) (ap ones (xor_half a b)))
    ∙ odd_sum (ones (bit_xor (a / 2) (b / 2))) (ones (a / 2)) (ones (b / 2)) (a % 2) (b % 2) (ih (b / 2))
    ∙ ap₂ (λ (x y : ℕ). (x + y) % 2) (sym (ones_step a)) (sym (ones_step b)))

pub parity_lt : (a b : ℕ) → parity a b < 2
unfolding parity
parity_lt a b = mod2_lt (ones (bit_and a b))

pub parity_cases : (a b : ℕ) → (parity a b ≡ 0) ⊎ (parity a b ≡ 1)
parity_cases a b = bit_cases (parity a b) (parity_lt a b)

pub parity_comm : (a b : ℕ) → parity a b ≡ parity b a
unfolding parity
parity_comm a b = ap (λ (x : ℕ). ones x % 2) (and_comm a b)

pub parity_zero : (b : ℕ) → parity 0 b ≡ 0
unfolding parity ones
parity_zero b = refl

parity_of_none : (a b : ℕ) → bit_and a b ≡ 0 → parity a b ≡ 0
unfolding parity ones
parity_of_none a b h = ap (λ (x : ℕ). ones x % 2) h

pub parity_xor : (a b c : ℕ) → parity (bit_xor a b) c ≡ (parity a c + parity b c) % 2
unfolding parity
parity_xor a b c =
    ap (λ (x : ℕ). ones x % 2) (and_xor a b c) ∙ ones_xor (bit_and a c) (bit_and b c)
    ∙ halves (ones (bit_and a c)) (ones (bit_and b c))
  where
    halves : (x y : ℕ) → (x + y) % 2 ≡ (x % 2 + y % 2) % 2
    halves x y = omega arith

min_one : (d : ℕ) → d < 2 → min 1 d ≡ d
min_one d h = omega arith

ones_bit : (d : ℕ) → d < 2 → ones d % 2 ≡ d
unfolding ones
ones_bit zero h = refl
ones_bit (suc zero) h = refl
ones_bit (suc (suc d)) h = let z : ⊥ = omega arith in absurd z

and_one : (c : ℕ) → bit_and 1 c ≡ c % 2
and_one c = and_step 1 c ∙ omega (arith, min_one (c % 2) (mod2_lt c))

ones_double : (x : ℕ) → ones (x * 2) ≡ ones x
ones_double x =
    ones_step (x * 2) ∙ ap₂ ◌+◌ (double_low x) (ap ones (double_half x)) ∙ zero-add (ones x)
  where
    double_low : (y : ℕ) → y * 2 % 2 ≡ 0
    double_low y = omega arith

    double_half : (y : ℕ) → y * 2 / 2 ≡ y
    double_half y = omega arith

and_pow_suc : (i c : ℕ) → bit_and (2 ^ suc i) c ≡ bit_and (2 ^ i) (c / 2) * 2
and_pow_suc i c =
    let half : 2 ^ suc i / 2 ≡ 2 ^ i = omega arith in
    let even : 2 ^ suc i % 2 ≡ 0 = omega arith in
    and_step (2 ^ suc i) c ∙ ap₂ (λ (x y : ℕ). bit_and x (c / 2) * 2 + min y (c % 2)) half even
    ∙ ap (λ (x : ℕ). bit_and (2 ^ i) (c / 2) * 2 + x) (zero-min (c % 2)) ∙ add-zero _

-- a word with one bit shares it with c exactly where c has it
pub parity_pow : (i c : ℕ) → parity (2 ^ i) c ≡ digit i c
unfolding parity
parity_pow zero c =
    ap (λ (x : ℕ). ones x % 2) (and_one c) ∙ ones_bit (c % 2) (mod2_lt c) ∙ ap (λ (x : ℕ). x % 2) (sym (div-one c))
parity_pow (suc i) c =
    ap (λ (x : ℕ). ones x % 2) (and_pow_suc i c)
    ∙ ap (λ (x : ℕ). x % 2) (ones_double (bit_and (2 ^ i) (c / 2)))
    ∙ parity_pow i (c / 2)
    ∙ ap (λ (x : ℕ). x % 2) (shr-shr c 1 i ∙ ap (λ (x : ℕ). c / 2 ^ x) (one-add i))

pub parity_xor_right : (a b c : ℕ) → parity a (bit_xor b c) ≡ (parity a b + parity a c) % 2
parity_xor_right a b c =
    parity_comm a (bit_xor b c) ∙ parity_xor b c a ∙ ap₂ (λ (x y : ℕ). (x + y) % 2) (parity_comm b a) (parity_comm c a)

-- ---- AND with one bit, and over OR

pub and_pow : (i c : ℕ) → bit_and (2 ^ i) c ≡ digit i c * 2 ^ i
and_pow zero c = and_one c ∙ ap (λ (x : ℕ). x % 2) (sym (div-one c)) ∙ sym (mul-one (digit 0 c))
and_pow (suc i) c =
    let half : c / 2 / 2 ^ i ≡ c / 2 ^ suc i = shr-shr c 1 i ∙ ap (λ (x : ℕ). c / 2 ^ x) (one-add i) in
    and_pow_suc i c ∙ ap (λ (x : ℕ). x * 2) (and_pow i (c / 2))
    ∙ ap (λ (x : ℕ). x % 2 * 2 ^ i * 2) half ∙ mul_assoc (digit (suc i) c) (2 ^ i) 2
    ∙ ap (λ (x : ℕ). digit (suc i) c * x) (sym (pow-suc 2 i))

or_half : (a b : ℕ) → bit_or a b / 2 ≡ bit_or (a / 2) (b / 2)
or_half a b = or_shr a b 1

or_low : (a b : ℕ) → bit_or a b % 2 ≡ max (a % 2) (b % 2)
or_low a b = omega (arith, or_step a b)

pub and_or : (a b c : ℕ) → bit_and (bit_or a b) c ≡ bit_or (bit_and a c) (bit_and b c)
and_or = and_over bit_or max (λ b. refl) or_half or_low (λ d e f hd he hf. omega arith)

pub or_zero_left : (a b : ℕ) → bit_or a b ≡ 0 → a ≡ 0
or_zero_left a b h = omega (arith, or_add_and a b, and_le_r a b)

pub or_zero_right : (a b : ℕ) → bit_or a b ≡ 0 → b ≡ 0
or_zero_right a b h = omega (arith, or_add_and a b, and_le_l a b)

-- a word shares no bit with a and none with bit i
pub and_or_pow : (a i v : ℕ) → bit_and a v ≡ 0 → digit i v ≡ 0 → bit_and (bit_or a (2 ^ i)) v ≡ 0
and_or_pow a i v ha hd =
    and_or a (2 ^ i) v ∙ ap₂ bit_or ha (and_pow i v ∙ ap (λ (x : ℕ). x * 2 ^ i) hd ∙ zero-mul (2 ^ i))

pub and_or_pow_word : (a i v : ℕ) → bit_and (bit_or a (2 ^ i)) v ≡ 0 → bit_and a v ≡ 0
and_or_pow_word a i v h = or_zero_left (bit_and a v) (bit_and (2 ^ i) v) (sym (and_or a (2 ^ i) v) ∙ h)

pub and_or_pow_digit : (a i v : ℕ) → bit_and (bit_or a (2 ^ i)) v ≡ 0 → digit i v ≡ 0
and_or_pow_digit a i v h =
    let z : bit_and (2 ^ i) v ≡ 0 = or_zero_right (bit_and a v) (bit_and (2 ^ i) v) (sym (and_or a (2 ^ i) v) ∙ h) in
    sym (parity_pow i v) ∙ parity_of_none (2 ^ i) v z

-- ---- the parities of a list of words

pub parities_lt : (ws : List ℕ) (y : ℕ) → parities ws y < 2 ^ length ws
unfolding parities
parities_lt [] y = omega arith
parities_lt (w ∷ ws) y = one_more (parity w y) (parities ws y) (length ws) (parity_lt w y) (parities_lt ws y)
  where
    one_more : (p x k : ℕ) → p < 2 → x < 2 ^ k → p + 2 * x < 2 ^ suc k
    one_more p x k a b = omega arith

-- a digit below another number: the two are its low digit and its half
pair_low : (p x : ℕ) → p < 2 → (p + 2 * x) % 2 ≡ p
pair_low p x l = omega arith

pair_half : (p x : ℕ) → p < 2 → (p + 2 * x) / 2 ≡ x
pair_half p x l = omega arith

pub parities_digit : (ws : List ℕ) (y i : ℕ) → i < length ws → digit i (parities ws y) ≡ parity (get_or ws i 0) y
unfolding parities
parities_digit [] y i h = absurd (not-suc-le-zero h)
parities_digit (w ∷ ws) y zero h =
    ap (λ (x : ℕ). x % 2) (div-one (parity w y + 2 * parities ws y)) ∙ pair_low (parity w y) (parities ws y) (parity_lt w y)
parities_digit (w ∷ ws) y (suc i) h =
    ap (λ (x : ℕ). x % 2) (sym (shr-shr (parity w y + 2 * parities ws y) 1 i ∙ ap (λ (x : ℕ). (parity w y + 2 * parities ws y) / 2 ^ x) (one-add i)))
    ∙ ap (λ (x : ℕ). x / 2 ^ i % 2) (pair_half (parity w y) (parities ws y) (parity_lt w y))
    ∙ parities_digit ws y i (le_of_suc-le-suc h)

pub parities_zero : (ws : List ℕ) → parities ws 0 ≡ 0
unfolding parities
parities_zero [] = refl
parities_zero (w ∷ ws) = ap₂ (λ (x y : ℕ). x + 2 * y) (parity_comm w 0 ∙ parity_zero w) (parities_zero ws)

pub parities_xor : (ws : List ℕ) (a b : ℕ) → parities ws (bit_xor a b) ≡ bit_xor (parities ws a) (parities ws b)
unfolding parities
parities_xor [] a b = refl
parities_xor (w ∷ ws) a b =
    ap₂ (λ (x y : ℕ). x + 2 * y) (parity_xor_right w a b) (parities_xor ws a b)
    ∙ sym (pair (parity w a) (parity w b) (parities ws a) (parities ws b) (parity_lt w a) (parity_lt w b))
  where
    pair : (p q x y : ℕ) → p < 2 → q < 2 → bit_xor (p + 2 * x) (q + 2 * y) ≡ (p + q) % 2 + 2 * bit_xor x y
    pair p q x y hp hq =
        xor_step (p + 2 * x) (q + 2 * y)
        ∙ ap₂ (λ (h d : ℕ). h * 2 + d) (ap₂ bit_xor (pair_half p x hp) (pair_half q y hq))
        (ap₂ differ (pair_low p x hp) (pair_low q y hq) ∙ differ_mod p q hp hq)
        ∙ omega arith
