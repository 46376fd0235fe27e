-- A table by bytes: how its entries follow from each other, and that the entries of a word's bytes add up to the XOR of all words that it
-- marks. Assumes nothing.
use mathlib.Core.Path.{◌≡◌, refl, sym, ap, ap₂, ◌∙◌, subst}
use mathlib.Core.Logic.{dite}
use mathlib.Core.List.{List}
use Prim.Native.Nat.{ℕ, zero, suc, ◌+◌, ◌-◌, ◌*◌, ◌/◌, ◌%◌, ◌^◌, ◌≤◌, ◌<◌}
use native.Mathlib.Nat.{add-zero, add_comm, one-mul, zero-mul, mod-lt, mod-one, mod-eq_of_lt, pow-suc}
use native.Mathlib.Numerals.{add-one}
use native.Mathlib.Decide.{dec_lt}
use native.Mathlib.Omega.{arith}
use lib.Bits.{bit_xor, xor_comm, xor_shifted}
use lib.ListN.{length, get_or, set, length-set}
use lib.Seq.{get_or-set_same, get_or-set_other}
use lib.Pow.{pow-add, pow_pos, mod-pow-add, shl_exact}
use Rattle.word.specs.Doubled.{Doubled}
use Rattle.word.specs.Marked.{xor_marked}
use Rattle.word.proofs.WordLaws.{xor_scaled}
use Rattle.byte_tables.specs.Table.{Filled, ByteTable, looked}
use Rattle.byte_tables.proofs.MarkLaws.{marked_zero, marked_xor, marked_one}

one_bit : (i : ℕ) → i < 64 → (1 * 2 ^ i) % 18446744073709551616 ≡ 2 ^ i
one_bit i h = shl_exact {a = 1} 1 i 64 (omega arith) (omega arith) ∙ one-mul (2 ^ i)

-- ---- the entries of one byte

-- entry 2 ^ t + j of the entries from e on, for j below 2 ^ t: entry j of them and word i + t
entry_next : (ws : List ℕ) (i t j : ℕ) → j < 2 ^ t → xor_marked ws ((2 ^ t + j) * 2 ^ i) ≡ bit_xor (xor_marked ws (j * 2 ^ i)) (get_or ws (i + t) 0)
entry_next ws i t j h =
    let f = xor_marked ws in
    let top : 2 ^ t + j ≡ bit_xor (2 ^ t) j =
    ap (λ (x : ℕ). x + j) (sym (one-mul (2 ^ t))) ∙ sym (xor_shifted 1 t j h) ∙ ap (λ (x : ℕ). bit_xor x j) (one-mul (2 ^ t)) in
    ap (λ (x : ℕ). f (x * 2 ^ i)) top ∙ ap f (xor_scaled i (2 ^ t) j) ∙ marked_xor ws (2 ^ t * 2 ^ i) (j * 2 ^ i)
    ∙ xor_comm (f (2 ^ t * 2 ^ i)) (f (j * 2 ^ i))
    ∙ ap (bit_xor (f (j * 2 ^ i))) (ap f (sym (pow-add 2 t i) ∙ ap (λ (x : ℕ). 2 ^ x) (add_comm t i)) ∙ marked_one ws (i + t))

module _ (ws l₀ : List ℕ) (e i : ℕ) where
  pub filled_starts : e < length l₀ → Filled ws l₀ (set l₀ e 0) e i (2 ^ 0)
  filled_starts inside =
      record {
        long = length-set l₀ e 0;
        new = λ v h.
            let first : v ≡ 0 = omega arith in
            ap (λ (x : ℕ). get_or (set l₀ e 0) (e + x) 0) first ∙ ap (λ (x : ℕ). get_or (set l₀ e 0) x 0) (add-zero e) ∙ get_or-set_same l₀ e 0 0 inside
            ∙ sym (marked_zero ws) ∙ ap (xor_marked ws) (sym (zero-mul (2 ^ i))) ∙ ap (λ (x : ℕ). xor_marked ws (x * 2 ^ i)) (sym first);
        below = λ j h. get_or-set_other l₀ e j 0 0 (λ (z : j ≡ e). omega arith);
      }

  pub filled_turns : (l made : List ℕ) (t w : ℕ) → t < 8 → Filled ws l₀ l e i (2 ^ t) → w ≡ get_or ws (i + t) 0
      → Doubled l made e ((1 * 2 ^ t) % 18446744073709551616) ((1 * 2 ^ t) % 18446744073709551616) w → Filled ws l₀ made e i (2 ^ (t + 1))
  filled_turns l made t w h k ew d =
      record {
        long = d'.long ∙ k.long;
        new = λ v m. dite (dec_lt v (2 ^ t)) (old v) (λ (z : v < 2 ^ t → ⊥). new v (omega arith) (omega (arith, more)));
        below = λ j m. d'.below j (omega arith) ∙ k.below j m;
      }
    where
      d' : Doubled l made e (2 ^ t) (2 ^ t) w
      d' = subst (λ (x : ℕ). Doubled l made e x x w) (one_bit t (omega arith)) d

      more : 2 ^ (t + 1) ≡ 2 ^ t + 2 ^ t
      more = ap (λ (x : ℕ). 2 ^ x) (add-one t) ∙ omega (arith, pow-suc 2 t)

      old : (v : ℕ) → v < 2 ^ t → get_or made (e + v) 0 ≡ xor_marked ws (v * 2 ^ i)
      old v m = d'.below (e + v) (omega arith) ∙ k.new v m

      new : (v : ℕ) → 2 ^ t ≤ v → v < 2 ^ t + 2 ^ t → get_or made (e + v) 0 ≡ xor_marked ws (v * 2 ^ i)
      new v a b =
          let from : e + v - 2 ^ t ≡ e + (v - 2 ^ t) = omega arith in
          let here : 2 ^ t + (v - 2 ^ t) ≡ v = omega arith in
          d'.new (e + v) (omega arith) (omega arith)
          ∙ ap₂ bit_xor (ap (λ (x : ℕ). get_or l x 0) from ∙ k.new (v - 2 ^ t) (omega arith)) ew
          ∙ sym (entry_next ws i t (v - 2 ^ t) (omega arith)) ∙ ap (λ (x : ℕ). xor_marked ws (x * 2 ^ i)) here

  pub filled_ends : (l : List ℕ) (t : ℕ) → t ≡ 8 → Filled ws l₀ l e i (2 ^ t) → Filled ws l₀ l e i 256
  filled_ends l t h k = subst (λ (x : ℕ). Filled ws l₀ l e i (2 ^ x)) h k

-- ---- one byte after the other

-- the entries of the first c bytes are right
pub Right : List ℕ → List ℕ → ℕ → Type 0
Right ws table c = (b v : ℕ) → b < c → v < 256 → get_or table (256 * b + v) 0 ≡ xor_marked ws (v * 2 ^ (8 * b))

pub right_starts : (ws table : List ℕ) → Right ws table 0
unfolding Right
right_starts ws table b v h k = let z : ⊥ = omega arith in absurd z

pub right_turns : (ws table made : List ℕ) (c : ℕ) → Right ws table c → Filled ws table made (256 * c) (8 * c) 256 → Right ws made (c + 1)
unfolding Right
right_turns ws table made c k d b v h m =
    dite (dec_lt b c) (λ (z : b < c). d.below (256 * b + v) (omega arith) ∙ k b v z m)
    (λ (z : b < c → ⊥).
    let here : b ≡ c = omega arith in
    ap (λ (x : ℕ). get_or made (256 * x + v) 0) here ∙ d.new v m ∙ ap (λ (x : ℕ). xor_marked ws (v * 2 ^ (8 * x))) (sym here))

pub right_ends : (ws table : List ℕ) (c : ℕ) → c ≡ 8 → Right ws table c → ByteTable ws table
unfolding Right
right_ends ws table c e k b v h m = k b v (omega arith) m

-- ---- a word looked up

pub looked_start : (table : List ℕ) (c : ℕ) → 0 ≡ looked table c 0
unfolding looked
looked_start table c = refl

pub looked_turn : (table : List ℕ) (c b all : ℕ) → all ≡ looked table c b
    → bit_xor all (get_or table (256 * b + c / 2 ^ (8 * b) % 256) 0) ≡ looked table c (b + 1)
unfolding looked
looked_turn table c b all e = ap (λ (x : ℕ). bit_xor x (get_or table (256 * b + c / 2 ^ (8 * b) % 256) 0)) e ∙ ap (looked table c) (sym (add-one b))

module _ (ws table : List ℕ) (right : ByteTable ws table) where
  looked_low : (c b : ℕ) → b ≤ 8 → looked table c b ≡ xor_marked ws (c % 2 ^ (8 * b))
  unfolding looked
  looked_low c zero h = sym (marked_zero ws) ∙ ap (xor_marked ws) (sym (mod-one c))
  looked_low c (suc b) h =
      let k = 8 * b in
      let more : 8 + k ≡ 8 * suc b = omega arith in
      let low : c % 2 ^ k < 2 ^ k = mod-lt c (pow_pos k) in
      ap₂ bit_xor (looked_low c b (omega arith)) (right b (c / 2 ^ k % 256) (omega arith) (omega arith))
      ∙ xor_comm (xor_marked ws (c % 2 ^ k)) (xor_marked ws (c / 2 ^ k % 256 * 2 ^ k))
      ∙ sym (marked_xor ws (c / 2 ^ k % 256 * 2 ^ k) (c % 2 ^ k))
      ∙ ap (xor_marked ws) (xor_shifted (c / 2 ^ k % 256) k (c % 2 ^ k) low ∙ sym (mod-pow-add c 8 k) ∙ ap (λ (x : ℕ). c % 2 ^ x) more)

  -- the entries of a word's bytes add up to the XOR of all words that it marks
  pub looked_marked : (c : ℕ) → c < 2 ^ 64 → looked table c 8 ≡ xor_marked ws c
  looked_marked c h = looked_low c 8 (omega arith) ∙ ap (xor_marked ws) (mod-eq_of_lt h)
