-- Columns that are even with every word: the loop that passes over them, and that the words stay as they are. Assumes nothing.
use mathlib.Core.Path.{◌≡◌, refl, sym, ap, ap₂, ◌∙◌, subst}
use mathlib.Core.Bool.{Bool, true, false, not, cond, ◌&&◌, ◌||◌}
use mathlib.Core.List.{List, [], ◌∷◌}
use Prim.Native.Nat.{ℕ, zero, suc, ◌+◌, ◌-◌, ◌*◌, ◌/◌, ◌^◌, ◌≤◌, ◌<◌, min}
use native.Mathlib.Nat.{zero-add, not-suc-le-zero}
use native.Mathlib.Omega.{arith}
use borrow.Author.Tests.{ltb-false}
use lib.Dec.{eqb, leb, ltb}
use lib.ListN.{length, get_or, take, drop, length-drop}
use lib.Seq.{drop-drop, take_all, get_or-drop}
use Rattle.word.specs.Word.{parity}
use Rattle.word.proofs.BoolLaws.{and_left, or_false_right}
use Rattle.word.proofs.Laws.{or_zero_left, or_zero_right}
use lib.Bits.{bit_or}
use Rattle.std.specs.List.{fold, list_all, prefix_len}
use Rattle.std.proofs.lemmas.List.{drop_min}
use Rattle.std.proofs.lemmas.List.Folds.{length-prefix_len}
use Rattle.combinations.specs.Combination.{x_free}
use Rattle.combinations.specs.Step.{steps}
use Rattle.combinations.proofs.XFree.{x_free_cons}
use Rattle.parity_table.specs.Table.{ParityTable, table_pays, run_of, even_run, table_run}
use Rattle.combinations.proofs.Agreeing.{even_exactly}
use Rattle.combinations.proofs.StepLaws.{step_same}

run_on : (f : ℕ → Bool) (cs : List ℕ) (c : ℕ) → f c ≡ true → run_of f (c ∷ cs) ≡ suc (run_of f cs)
unfolding run_of
run_on f cs c h = rw h

run_stops : (f : ℕ → Bool) (cs : List ℕ) (c : ℕ) → f c ≡ false → run_of f (c ∷ cs) ≡ 0
unfolding run_of
run_stops f cs c h = rw h

-- ---- what is looked up in the words' own table

run_ext : (f g : ℕ → Bool) (cs : List ℕ) → ((i : ℕ) → i < length cs → f (get_or cs i 0) ≡ g (get_or cs i 0)) → run_of f cs ≡ run_of g cs
unfolding run_of
run_ext f g [] h = refl
run_ext f g (c ∷ cs) h = ap₂ (λ (b : Bool) (n : ℕ). cond b (suc n) 0) (h 0 (omega arith)) (run_ext f g cs (λ i l. h (suc i) (omega arith)))

pub table_run_lem : (ws table cs : List ℕ) → ParityTable ws table → ((i : ℕ) → get_or cs i 0 < 2 ^ 64) → table_run table cs ≡ even_run ws cs
table_run_lem ws table cs right small =
    run_ext _ _ cs
    (λ i l. ap (λ (x : ℕ). eqb x 0) (right (get_or cs i 0) (small i)) ∙ sym (even_exactly ws (get_or cs i 0)))

pub table_run_from : (ws table cs : List ℕ) (from r : ℕ) → ParityTable ws table → ((i : ℕ) → get_or cs i 0 < 2 ^ 64)
    → r ≡ from + table_run table (drop from cs) → r ≡ from + even_run ws (drop from cs)
table_run_from ws table cs from r right small e =
    e ∙ ap (λ (n : ℕ). from + n) (table_run_lem ws table (drop from cs) right (λ i. subst (λ (x : ℕ). x < 2 ^ 64) (sym (get_or-drop from cs i 0)) (small (from + i))))

-- ---- the words one by one, and runs as the front of a list

pub x_free_each : (ws : List ℕ) (c : ℕ) → list_all (λ w. eqb (parity c w) 0) ws ≡ x_free ws c
unfolding x_free
x_free_each [] c = refl
x_free_each (w ∷ ws) c = ap (λ (b : Bool). eqb (parity c w) 0 && b) (x_free_each ws c)

same_run : (f : ℕ → Bool) (cs : List ℕ) → prefix_len f cs ≡ run_of f cs
unfolding run_of
same_run f [] = refl
same_run f (c ∷ cs) = let next : 1 + prefix_len f cs ≡ suc (run_of f cs) = omega (arith, same_run f cs) in ap (λ (n : ℕ). cond (f c) n 0) next

pub run_prefix : (f : ℕ → Bool) (cs : List ℕ) → length (take (prefix_len f cs) cs) ≡ run_of f cs
run_prefix f cs = length-prefix_len f cs ∙ same_run f cs

-- ---- the columns passed over

run_steps : (ws cs : List ℕ) → steps (drop (even_run ws cs) cs) ws ≡ steps cs ws
unfolding run_of steps
run_steps ws [] = refl
run_steps ws (c ∷ cs) = go (x_free ws c) refl (run_steps ws cs)
  where
    go : (b : Bool) → x_free ws c ≡ b → steps (drop (even_run ws cs) cs) ws ≡ steps cs ws
        → steps (drop (even_run ws (c ∷ cs)) (c ∷ cs)) ws ≡ steps (c ∷ cs) ws
    go true e ih =
        ap (λ (n : ℕ). steps (drop n (c ∷ cs)) ws) (run_on (x_free ws) cs c e) ∙ ih ∙ ap (steps cs) (sym (step_same c ws e))
    go false e ih = ap (λ (n : ℕ). steps (drop n (c ∷ cs)) ws) (run_stops (x_free ws) cs c e)

pub skipped_steps : (ws cs : List ℕ) (from r : ℕ) → r ≡ from + even_run ws (drop from cs) → (from ≤ r) × (steps (drop r cs) ws ≡ steps (drop from cs) ws)
skipped_steps ws cs from r e = (
  omega arith,
  ap (λ (n : ℕ). steps (drop n cs) ws) e ∙ ap (λ (l : List ℕ). steps l ws) (sym (drop-drop (even_run ws (drop from cs)) from cs))
      ∙ run_steps ws (drop from cs),
)

pub next_skipped : (ws cs : List ℕ) (from r : ℕ) → length ws ≤ 64 → r ≡ from + even_run (take 64 ws) (drop from cs)
    → (from ≤ r) × (steps (drop r cs) ws ≡ steps (drop from cs) ws)
next_skipped ws cs from r h e = skipped_steps ws cs from r (e ∙ ap (λ (l : List ℕ). from + even_run l (drop from cs)) (take_all 64 ws h))

-- ---- no more columns are passed over than there are

run_most : (f : ℕ → Bool) (cs : List ℕ) → run_of f cs ≤ length cs
unfolding run_of
run_most f [] = omega arith
run_most f (c ∷ cs) = go (f c) (run_most f cs)
  where
    go : (b : Bool) → run_of f cs ≤ length cs → cond b (suc (run_of f cs)) 0 ≤ suc (length cs)
    go true h = omega arith
    go false h = omega arith

pub skipped_inside : (f : ℕ → Bool) (cs : List ℕ) (from r : ℕ) → from ≤ length cs → r ≡ from + run_of f (drop from cs) → r ≤ length cs
skipped_inside f cs from r h e = omega (arith, run_most f (drop from cs), length-drop from cs)

-- ---- blocks of columns

pub x_free_all : (ws : List ℕ) (x : ℕ) → ((i : ℕ) → i < length ws → parity x (get_or ws i 0) ≡ 0) → x_free ws x ≡ true
unfolding x_free
x_free_all [] x h = refl
x_free_all (w ∷ ws) x h = x_free_cons w ws x (h 0 (omega arith)) (x_free_all ws x (λ i l. h (suc i) (omega arith)))

-- where the OR of the parities is 0, each of them is
pub or_parities : ℕ → ℕ → List ℕ → ℕ
or_parities w odd cs = fold (λ a x. bit_or a (parity x w)) odd cs

none_odd : (w odd : ℕ) (cs : List ℕ) → or_parities w odd cs ≡ 0 → (odd ≡ 0) × ((j : ℕ) → j < length cs → parity (get_or cs j 0) w ≡ 0)
unfolding or_parities
none_odd w odd [] z = (z, λ j l. let no : ⊥ = omega arith in absurd no)
none_odd w odd (c ∷ cs) z =
    let rest = none_odd w (bit_or odd (parity c w)) cs z in
    (or_zero_left odd (parity c w) rest.0, at rest.0 rest.1)
  where
    at : bit_or odd (parity c w) ≡ 0 → ((j : ℕ) → j < length cs → parity (get_or cs j 0) w ≡ 0) → (j : ℕ) → j < suc (length cs) → parity (get_or (c ∷ cs) j 0) w ≡ 0
    at e h zero l = or_zero_right odd (parity c w) e
    at e h (suc j) l = h j (omega arith)

pub none_odd_fold : (w : ℕ) (cs : List ℕ) → fold (λ a x. bit_or a (parity x w)) 0 cs ≡ 0 → (j : ℕ) → j < length cs → parity (get_or cs j 0) w ≡ 0
unfolding or_parities
none_odd_fold w cs z = (none_odd w 0 cs z).1

-- f holds of the first k columns
run_passed : (f : ℕ → Bool) (cs : List ℕ) (k : ℕ) → k ≤ length cs → ((j : ℕ) → j < k → f (get_or cs j 0) ≡ true) → run_of f cs ≡ k + run_of f (drop k cs)
run_passed f cs zero h e = sym (zero-add (run_of f cs))
run_passed f [] (suc k) h e = absurd (not-suc-le-zero h)
run_passed f (c ∷ cs) (suc k) h e =
    let on : run_of f (c ∷ cs) ≡ suc (run_of f cs) = run_on f cs c (e 0 (omega arith)) in
    let rest : run_of f cs ≡ k + run_of f (drop k cs) = run_passed f cs k (omega arith) (λ j l. e (suc j) (omega arith)) in
    omega arith

-- a part up to the end
tail_part : (k : ℕ) (cs : List ℕ) → take (length cs - k) (drop k cs) ≡ drop k cs
tail_part k cs = take_all (length cs - k) (drop k cs) (omega (arith, length-drop k cs))

pub from_part : (cs : List ℕ) (from at : ℕ) → at ≡ min from (length cs) → take (length cs - at) (drop at cs) ≡ drop from cs
from_part cs from at e = tail_part at cs ∙ ap (λ (n : ℕ). drop n cs) e ∙ drop_min from cs

pub run_behind : (f : ℕ → Bool) (cs rest : List ℕ) (from k n : ℕ) → rest ≡ drop from cs → k ≤ length rest → ((j : ℕ) → j < k → f (get_or rest j 0) ≡ true)
    → n ≡ run_of f (take (length rest - k) (drop k rest)) → from + k + n ≡ from + run_of f (drop from cs)
run_behind f cs rest from k n e h passed count =
    let all : run_of f rest ≡ k + run_of f (drop k rest) = run_passed f rest k h passed in
    let tail : n ≡ run_of f (drop k rest) = count ∙ ap (run_of f) (tail_part k rest) in
    let same : run_of f rest ≡ run_of f (drop from cs) = ap (run_of f) e in
    omega arith

-- ---- when a table pays

-- only for at most 64 words
pub pays_few : (n k : ℕ) (r : Bool) → r ≡ table_pays n k → r ≡ true → n ≤ 64
unfolding table_pays
pays_few n k r e h =
    ltb-false 64 n (or_false_right (ltb n 4) (ltb 64 n) (not_not (ltb n 4 || ltb 64 n) (and_left (not (ltb n 4 || ltb 64 n)) (leb 24 (k / 64 * n)) (sym e ∙ h))))
  where
    not_not : (b : Bool) → not b ≡ true → b ≡ false
    not_not true p = sym p
    not_not false p = refl

pub pays_not : (n k : ℕ) → (ltb n 4 || ltb 64 n) ≡ true → false ≡ table_pays n k
unfolding table_pays
pays_not n k h = rw h

pub pays_then : (n k : ℕ) → (ltb n 4 || ltb 64 n) ≡ false → leb 24 (k / 64 * n) ≡ table_pays n k
unfolding table_pays
pays_then n k h = rw h
