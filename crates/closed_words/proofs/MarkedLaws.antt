-- The marks of all rows together, and the words of marked chains that are even with some words. Assumes nothing.
use mathlib.Core.Path.{◌≡◌, refl, sym, ap, ◌∙◌, subst}
use mathlib.Core.Bool.{Bool, true, false, cond, ◌&&◌}
use mathlib.Core.Logic.{dite}
use mathlib.Core.List.{List, [], ◌∷◌, ◌++◌}
use Prim.Native.Nat.{ℕ, zero, suc, ◌+◌, ◌-◌, ◌≤◌, ◌<◌}
use native.Mathlib.Decide.{dec_lt}
use native.Mathlib.Omega.{arith}
use borrow.Author.Tests.{leb-true}
use lib.Dec.{leb}
use lib.ListN.{length, get_or, take, drop, length-append}
use lib.Seq.{drop_at, length-take-le}
use Rattle.word.specs.Some.{all_of}
use Rattle.word.proofs.BoolLaws.{and_left, and_right}
use Rattle.combinations.specs.Combination.{x_free}
use Rattle.parity_table.specs.Table.{run_of, even_run}
use Rattle.numbers.specs.Joined.{joined}
use Rattle.rows.specs.Row.{Cells, cell}
use Rattle.rows.specs.Lists.{cells_of}
use Rattle.rows.specs.Marks.{listed, marked_words}
use Rattle.rows.specs.declared.Rows.{Rows}
use Rattle.rows.proofs.CellLaws.{cell_lt}
use Rattle.rows.proofs.MarkLaws.{length_listed}
use Rattle.joint_marks.specs.Joint.{joint_marks}
use Rattle.joint_marks.proofs.JointLaws.{marks_joint}
use Rattle.marked_words.specs.Back.{back}
use Rattle.marked_words.proofs.BackLaws.{back_fits}
use Rattle.closed_words.specs.Closed.{ClosedUnder, EvenFor, Unchanging}
use Rattle.closed_words.proofs.ClosedLaws.{closed_later}

-- ---- the words of marked chains

all_of_append : (f : ℕ → Bool) (l r : List ℕ) → all_of f (l ++ r) ≡ true → (all_of f l ≡ true) × (all_of f r ≡ true)
unfolding all_of
all_of_append f [] r h = (refl, h)
all_of_append f (x ∷ l) r h =
    let later = all_of_append f l r (and_right (f x) (all_of f (l ++ r)) h) in
    (and_true (f x) (all_of f l) (and_left (f x) (all_of f (l ++ r)) h) later.0, later.1)
  where
    and_true : (a b : Bool) → a ≡ true → b ≡ true → (a && b) ≡ true
    and_true a b ha hb = rw (ha, hb)

one_listed : (f : ℕ → Bool) (d w : ℕ) → 0 < d → all_of f (listed d w) ≡ true → f w ≡ true
unfolding all_of
one_listed f zero w h e = let no : ⊥ = omega arith in absurd no
one_listed f (suc d) w h e = and_left (f w) true e

marked_all : (f : ℕ → Bool) (ws : List ℕ) (x : Cells) (n : ℕ) → all_of f (marked_words ws x n) ≡ true → (c : ℕ) → c < n → 0 < x c → f (get_or ws c 0) ≡ true
unfolding joined
marked_all f ws x zero h c l m = let no : ⊥ = omega arith in absurd no
marked_all f ws x (suc n) h c l m = step (all_of_append f (marked_words ws x n) (listed (x n) (get_or ws n 0)) h) (marked_all f ws x n)
  where
    step : (all_of f (marked_words ws x n) ≡ true) × (all_of f (listed (x n) (get_or ws n 0)) ≡ true)
        → (all_of f (marked_words ws x n) ≡ true → (c : ℕ) → c < n → 0 < x c → f (get_or ws c 0) ≡ true) → f (get_or ws c 0) ≡ true
    step both ih = dite (dec_lt c n) (λ (below : c < n). ih both.0 c below m)
        (λ (b : c < n → ⊥).
        let same : c ≡ n = omega arith in
        ap (λ (k : ℕ). f (get_or ws k 0)) same ∙ one_listed f (x n) (get_or ws n 0) (subst (λ (k : ℕ). 0 < x k) same m) both.1)

marked_few : (ws row : List ℕ) (n : ℕ) → length (marked_words ws (cell row) n) ≤ n
unfolding joined
marked_few ws row zero = omega arith
marked_few ws row (suc n) =
    omega (arith, length-append (marked_words ws (cell row) n) (listed (cell row n) (get_or ws n 0)), length_listed (cell row n) (get_or ws n 0) (cell_lt row n), cell_lt row n, marked_few ws row n)

run_whole : (f : ℕ → Bool) (cs : List ℕ) → length cs ≤ run_of f cs → all_of f cs ≡ true
unfolding run_of all_of
run_whole f [] h = refl
run_whole f (c ∷ cs) h = go (f c) h (run_whole f cs)
  where
    go : (b : Bool) → suc (length cs) ≤ cond b (suc (run_of f cs)) 0 → (length cs ≤ run_of f cs → all_of f cs ≡ true) → (b && all_of f cs) ≡ true
    go true l ih = ih (omega arith)
    go false l ih = let no : ⊥ = omega arith in absurd no

-- the marked words were written over the end of a list of 256 places, and from there on no column is odd
pub row_even : (h ws l columns row : List ℕ) (place odd : ℕ) → length l ≡ 256
    → place ≡ length l - length (marked_words ws (cell row) (length ws)) → columns ≡ back (marked_words ws (cell row) (length ws)) l
    → odd ≡ place + even_run h (drop place columns) → leb 256 odd ≡ true → length ws ≤ 256 → EvenFor h ws (cell row)
row_even h ws l columns row place odd long ep ec eo past few c b m = marked_all (x_free h) ws (cell row) (length ws) (run_whole (x_free h) vs all) c b m
  where
    vs : List ℕ
    vs = marked_words ws (cell row) (length ws)

    fits : length vs ≤ length l
    fits = omega (arith, marked_few ws row (length ws))

    part : drop place columns ≡ vs
    part =
        ap (drop place) (ec ∙ back_fits vs l fits)
        ∙ drop_at (take (length l - length vs) l) vs place (length-take-le (length l - length vs) l (omega arith) ∙ sym ep)

    all : length vs ≤ even_run h vs
    all = omega (arith, fits, ap (even_run h) part, leb-true 256 odd past)

-- ---- both

pub settled : (m taps : ℕ) (l : List ℕ) (r : Rows) (t : ℕ) (ws h all : List ℕ) → ClosedUnder m taps h
    → ((c : ℕ) → c < 256 → cell all c ≡ joint_marks l r t c) → EvenFor h ws (cell all)
    → length ws ≤ 256 → Unchanging m taps (cells_of l r) t ws h
settled m taps l r t ws h all closed gathered even few i j c v spread hj hc hm =
    closed_later m taps v spread h closed i (get_or ws c 0) (even c hc (omega (arith, gathered c (omega arith), marks_joint l r t j c hj, hm)))
