-- The tests of a plan file: what the code looks at is what the numbers say. Assumes nothing.
use mathlib.Core.Path.{◌≡◌, refl, sym, ap, ap₂, ◌∙◌, subst}
use mathlib.Core.Bool.{Bool, true, false, not, ◌||◌}
use mathlib.Core.List.{List, [], ◌∷◌}
use Prim.Native.Nat.{ℕ, zero, suc, ◌+◌, ◌-◌, ◌*◌, ◌/◌, ◌^◌, ◌<◌, ◌≤◌}
use native.Mathlib.Nat.{div-one, zero-div, div-div-eq-div-mul, pow-suc, mul_comm}
use native.Mathlib.Omega.{arith}
use borrow.Author.Tests.{le-ltb, ltb-false, eq-eqb, ne_eqb}
use lib.Dec.{eqb, ltb}
use lib.ListN.{length, get_or, drop, length-drop}
use lib.Seq.{take_all, drop-drop, get_or-drop}
use Rattle.word.specs.Word.{bad_width, beyond}
use Rattle.numbers.specs.Bytes.{number, number_at, count_at, word_at}
use Rattle.word.proofs.BoolLaws.{or_false_left, or_false_right, or_true_left, or_true_right}
use Rattle.numbers.proofs.FileLaws.{pow_bytes}
use Rattle.word.proofs.WordLaws.{good_width}
use Rattle.reduced_list.specs.WordCount.{bad_word_count}
use Rattle.reduced_list.proofs.CountLaws.{good_count}
use Rattle.plan_file.specs.Layout.{again_at, bits_at, bit_bytes, plan_length, file_width, file_count, file_again, file_expected}
use Rattle.plan_file.specs.Checking.{bad_plan_width, bad_plan_count, bad_plan_end}

-- without its k low bytes a number is that of the others
number_above : (k : ℕ) (bs : List ℕ) → ((i : ℕ) → get_or bs i 0 < 256) → number bs / 256 ^ k ≡ number (drop k bs)
unfolding number
number_above zero bs small = div-one (number bs)
number_above (suc k) [] small = zero-div (256 ^ suc k)
number_above (suc k) (b ∷ bs) small =
    ap (λ (n : ℕ). (b + 256 * number bs) / n) (pow-suc 256 k ∙ mul_comm (256 ^ k) 256)
    ∙ sym (div-div-eq-div-mul (b + 256 * number bs) 256 (256 ^ k))
    ∙ ap (λ (n : ℕ). n / 256 ^ k) (above b (number bs) (small 0)) ∙ number_above k bs (λ i. small (suc i))
  where
    above : (b n : ℕ) → b < 256 → (b + 256 * n) / 256 ≡ n
    above b n h = omega arith

-- the number of the last k bytes, from the last 8
pub last_bytes : (s : List ℕ) (k : ℕ) → ((i : ℕ) → get_or s i 0 < 256) → k ≤ 8 → 8 ≤ length s
    → word_at s (length s - 8) / 2 ^ (8 * (8 - k)) ≡ number_at k s (length s - k)
unfolding number_at
last_bytes s k small h l =
    let eight : length (drop (length s - 8) s) ≤ 8 = omega (arith, length-drop (length s - 8) s) in
    let some : length (drop (length s - k) s) ≤ k = omega (arith, length-drop (length s - k) s) in
    let place : length s - 8 + (8 - k) ≡ length s - k = omega arith in
    ap₂ (λ (bs : List ℕ) (n : ℕ). number bs / n) (take_all 8 (drop (length s - 8) s) eight) (sym (pow_bytes (8 - k)))
    ∙ number_above (8 - k) (drop (length s - 8) s) (λ i. subst (λ (x : ℕ). x < 256) (sym (get_or-drop (length s - 8) s i 0)) (small (length s - 8 + i)))
    ∙ ap number (drop-drop (8 - k) (length s - 8) s ∙ ap (λ (n : ℕ). drop n s) place ∙ sym (take_all k (drop (length s - k) s) some))

-- in a plan of the exact length the expected bits of 1 to 64 words end with it
pub bits_to_end : (plan : List ℕ) (q w : ℕ) → ((i : ℕ) → get_or plan i 0 < 256) → q ≡ file_count plan
    → (length plan ≡ plan_length (file_count plan)) × (1 ≤ file_count plan) × (file_count plan ≤ 64) → w ≡ word_at plan (length plan - 8)
    → w / 2 ^ (8 * (8 - (q + 7) / 8)) ≡ file_expected plan
bits_to_end plan q w small c h e =
    let k = bit_bytes (file_count plan) in
    let few : k ≤ 8 = omega (arith, h.2) in
    let long : 8 ≤ length plan = omega (arith, h.0, h.1) in
    let place : length plan - k ≡ bits_at (file_count plan) = omega (arith, h.0) in
    ap₂ (λ (x n : ℕ). x / 2 ^ (8 * (8 - (n + 7) / 8))) e c ∙ last_bytes plan k small few long ∙ ap (number_at k plan) place

pub width_test : (plan : List ℕ) (m : ℕ) (b : Bool) → m ≡ file_width plan → b ≡ bad_width m → (ltb (length plan) 2 || b) ≡ bad_plan_width plan
unfolding bad_plan_width
width_test plan m b e h = rw (h, e)

pub count_test : (plan : List ℕ) (m q : ℕ) (b : Bool) → m ≡ file_width plan → q ≡ file_count plan → b ≡ bad_word_count m q
    → (ltb (length plan) 4 || b || ltb (length plan) (4 + 8 * q)) ≡ bad_plan_count plan
unfolding bad_plan_count
count_test plan m q b e h w = rw (w, h, e)

-- a plan of another length is refused, whatever its end holds
pub end_inexact : (plan : List ℕ) (q : ℕ) → q ≡ file_count plan → (length plan ≡ 6 + 8 * q + (q + 7) / 8 → ⊥) → true ≡ bad_plan_end plan
unfolding bad_plan_end
end_inexact plan q e n =
    let inexact : length plan ≡ plan_length (file_count plan) → ⊥ = rw e at n in
    sym
    (or_true_left _ _
    (or_true_right (ltb (length plan) (bits_at (file_count plan)) || not (eqb (file_again plan) (file_count plan))) _
    (ap not (ne_eqb (length plan) (plan_length (file_count plan)) inexact))))

exact_tests : (plan : List ℕ) → length plan ≡ plan_length (file_count plan)
    → (not (eqb (file_again plan) (file_count plan)) || beyond (file_count plan) (file_expected plan)) ≡ bad_plan_end plan
unfolding bad_plan_end
exact_tests plan e =
    let long : ltb (length plan) (bits_at (file_count plan)) ≡ false = le-ltb (length plan) (bits_at (file_count plan)) (omega arith) in
    let exact : eqb (length plan) (plan_length (file_count plan)) ≡ true = eq-eqb (length plan) (plan_length (file_count plan)) e in
    sym
    (ap₂ (λ (a b : Bool). a || not (eqb (file_again plan) (file_count plan)) || not b || beyond (file_count plan) (file_expected plan)) long exact
    ∙ no_more (not (eqb (file_again plan) (file_count plan))) (beyond (file_count plan) (file_expected plan)))
  where
    no_more : (a b : Bool) → (false || a || not true || b) ≡ (a || b)
    no_more true b = refl
    no_more false b = refl

pub end_exact : (plan : List ℕ) (q again bits : ℕ) (b : Bool) → q ≡ file_count plan → length plan ≡ 6 + 8 * q + (q + 7) / 8
    → again ≡ count_at plan (4 + 8 * q) → bits ≡ file_expected plan → b ≡ beyond q bits → (not (eqb again q) || b) ≡ bad_plan_end plan
end_exact plan q again bits b e l a w f =
    let exact : length plan ≡ plan_length (file_count plan) = rw e at l in
    let same : again ≡ file_again plan = rw e at a in
    ap₂ (λ (x : Bool) (y : Bool). not x || y) (ap₂ eqb same e) (f ∙ ap₂ beyond e w) ∙ exact_tests plan exact

-- what the expected bits of a plan of the exact length ask for
pub end_known : (plan : List ℕ) (q : ℕ) → q ≡ file_count plan → length plan ≡ 6 + 8 * q + (q + 7) / 8 → (1 ≤ file_count plan) × (file_count plan ≤ 64)
    → (length plan ≡ plan_length (file_count plan)) × (1 ≤ file_count plan) × (file_count plan ≤ 64)
end_known plan q e l h = (rw e at l, h.0, h.1)

-- ---- what a test that does not apply leaves known

pub width_good : (plan : List ℕ) → bad_plan_width plan ≡ false → (1 ≤ file_width plan) × (file_width plan ≤ 64)
unfolding bad_plan_width
width_good plan h = good_width (file_width plan) (or_false_right (ltb (length plan) 2) (bad_width (file_width plan)) h)

pub count_good : (plan : List ℕ) → bad_plan_count plan ≡ false → (1 ≤ file_count plan) × (file_count plan ≤ file_width plan)
unfolding bad_plan_count
count_good plan h =
    let q = file_count plan in
    good_count (file_width plan) q
    (or_false_right (ltb (length plan) 4) _ (or_false_left (ltb (length plan) 4 || bad_word_count (file_width plan) q) (ltb (length plan) (again_at q)) h))

-- past 20 the plan doesn't end before its last word
pub words_there : (plan : List ℕ) → bad_plan_count plan ≡ false → again_at (file_count plan) ≤ length plan
unfolding bad_plan_count
words_there plan h =
    let q = file_count plan in
    ltb-false (length plan) (again_at q) (or_false_right (ltb (length plan) 4 || bad_word_count (file_width plan) q) _ h)

-- past 19 and 20 there are 1 to 64 words
pub few_words : (plan : List ℕ) → bad_plan_width plan ≡ false → bad_plan_count plan ≡ false → (1 ≤ file_count plan) × (file_count plan ≤ 64)
few_words plan a b = ((count_good plan b).0, omega (arith, (width_good plan a).1, (count_good plan b).1))
