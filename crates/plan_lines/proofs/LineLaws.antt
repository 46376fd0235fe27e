-- How long the lines can be, and what tells them apart.
--
--   refused_line_same     two refusals with the same line have the same number
--   set_line_no_refusal   a text that begins with the set's line is no refusal's
-- Assumes nothing.
use mathlib.Core.Path.{◌≡◌, ap}
use mathlib.Core.List.{List, [], ◌∷◌, ◌++◌}
use Prim.Native.Nat.{ℕ, suc, ◌+◌, ◌*◌, ◌^◌, ◌<◌, ◌≤◌}
use native.Mathlib.Omega.{arith}
use lib.ListN.{length, get_or, drop, length-append}
use Rattle.word.specs.Word.{digit}
use Rattle.text.proofs.DecimalLaws.{decimal_most, decimal_few, decimal_same}
use Rattle.plan_lines.specs.Lines.{set_line, word_line, word_lines, end_line, refused_line}

-- ---- lengths

pub length_set_line : (m n s u : ℕ) → length (set_line m n s u) ≤ 88
unfolding set_line
length_set_line m n s u = simp length-append (omega (arith, decimal_most m, decimal_most n, decimal_most s, decimal_most u))

length_word_line : (i w b : ℕ) → i < 100 → b < 10 → length (word_line i w b) ≤ 31
unfolding word_line
length_word_line i w b hi hb = simp length-append (omega (arith, decimal_few 1 i hi, decimal_most w, decimal_few 0 b hb))

pub length_word_lines : (i : ℕ) (ws : List ℕ) (e : ℕ) → i + length ws ≤ 100 → length (word_lines i ws e) ≤ 31 * length ws
unfolding word_lines
length_word_lines i [] e h = omega arith
length_word_lines i (w ∷ ws) e h =
    omega (
      arith,
      length-append (word_line i w (digit i e)) (word_lines (suc i) ws e),
      length_word_line i w (digit i e) (omega arith) (omega arith),
      length_word_lines (suc i) ws e (omega arith),
    )

pub length_end_line : (q : ℕ) → length (end_line q) ≤ 25
unfolding end_line
length_end_line q = simp length-append (omega (arith, decimal_most q))

pub length_refused_line : (n : ℕ) → length (refused_line n) ≤ 29
unfolding refused_line
length_refused_line n = simp length-append (omega (arith, decimal_most n))

-- ---- which line it is

-- behind the 8 bytes of its name stand the number's digits and the end of the line
pub refused_line_same : (n k : ℕ) → n < 10 ^ 20 → k < 10 ^ 20 → refused_line n ≡ refused_line k → n ≡ k
unfolding refused_line
refused_line_same n k hn hk h = decimal_same n k 10 hn hk (ap (drop 8) h)

-- their first bytes differ
pub set_line_no_refusal : (m n s u : ℕ) (a b : List ℕ) (k : ℕ) → set_line m n s u ++ a ++ b ≡ refused_line k → ⊥
unfolding set_line refused_line
set_line_no_refusal m n s u a b k h = let first : ◌≡◌ {A = ℕ} 115 114 = ap (λ (l : List ℕ). get_or l 0 0) h in omega arith
