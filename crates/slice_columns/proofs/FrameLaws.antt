-- A slice's columns, and the chains' words for the next. Assumes nothing.
use mathlib.Core.Path.{◌≡◌, refl, sym, ap, ap₂, ◌∙◌}
use mathlib.Core.Bool.{Bool, cond}
use mathlib.Core.Logic.{⊎_elim}
use mathlib.Core.List.{List, [], ◌∷◌, ◌++◌, map, map-map, append-nil}
use Prim.Native.Nat.{ℕ, zero, suc, ◌+◌, ◌-◌, ◌%◌, ◌≤◌, ◌<◌}
use native.Mathlib.Nat.{eq-or-lt_of_le}
use native.Mathlib.Omega.{arith}
use borrow.Author.Tests.{eq-eqb, ne_eqb}
use lib.Dec.{eqb}
use lib.ListN.{length, take, drop, get_or, length-append, length-map, length-drop, drop_of_length-le, get_or-map}
use lib.Seq.{take_all, drop_at, length-take-le}
use Rattle.numbers.specs.Joined.{joined}
use Rattle.rows.specs.Row.{Cells, cell}
use Rattle.rows.specs.Marks.{listed, marked_words}
use Rattle.register.specs.Circuit.{Circuit, chains}
use Rattle.marked_words.specs.Back.{back}
use Rattle.marked_words.proofs.BackLaws.{back_fits, back_length}
use Rattle.unclocking.specs.Unclocked.{earlier}
use Rattle.unclocking.proofs.UnclockLaws.{earlier_add, earlier_zero}
use Rattle.sparse_columns.proofs.SparseLaws.{map_chosen}
use Rattle.slice_columns.specs.Frame.{eights, marked_earlier}

-- every word j clocks earlier
abbrev pub earlier_words : Circuit → ℕ → List ℕ → List ℕ
earlier_words k j ws = map (earlier k j) ws

pub earlier_words_get : (k : Circuit) (j : ℕ) (ws : List ℕ) (c : ℕ) → get_or (earlier_words k j ws) c 0 ≡ earlier k j (get_or ws c 0)
earlier_words_get k j ws c = ap (get_or (map (earlier k j) ws) c) (sym (earlier_zero k j)) ∙ get_or-map (earlier k j) ws c 0

-- ---- the chains' words for the next slice

-- slice t is the last of eight, or it isn't
pub passed_eight : (k : Circuit) (t : ℕ) (spread ws ws' : List ℕ) → t % 8 ≡ 7 → ws ≡ earlier_words k (eights t) spread → ws' ≡ map (earlier k 8) ws
    → ws' ≡ earlier_words k (eights (t + 1)) spread
passed_eight k t spread ws ws' h e e' =
    let more : eights t + 8 ≡ eights (t + 1) = omega arith in
    e' ∙ ap (map (earlier k 8)) e ∙ map-map (earlier k 8) (earlier k (eights t)) spread ∙ all spread ∙ ap (λ (n : ℕ). earlier_words k n spread) more
  where
    all : (l : List ℕ) → map (λ w. earlier k 8 (earlier k (eights t) w)) l ≡ earlier_words k (eights t + 8) l
    all [] = refl
    all (w ∷ l) = ap₂ ◌∷◌ (earlier_add k (eights t) 8 w) (all l)

pub passed_between : (k : Circuit) (t : ℕ) (spread ws : List ℕ) → (t % 8 ≡ 7 → ⊥) → ws ≡ earlier_words k (eights t) spread
    → ws ≡ earlier_words k (eights (t + 1)) spread
passed_between k t spread ws h e =
    let same : eights t ≡ eights (t + 1) = omega (arith, not_last) in e ∙ ap (λ (n : ℕ). earlier_words k n spread) same
  where
    not_last : t % 8 < 7
    not_last = let most : t % 8 ≤ 7 = omega arith in ⊎_elim (λ (q : t % 8 ≡ 7). absurd (h q)) (λ (l : t % 8 < 7). l) (eq-or-lt_of_le most)

-- the test for it
pub looked_up_lem : (t : ℕ) (vs ws : List ℕ) → t % 8 ≡ 7 → vs ≡ cond (eqb (t % 8) 7) vs ws
looked_up_lem t vs ws h = sym (ap (λ (b : Bool). cond b vs ws) (eq-eqb (t % 8) 7 h))

pub left_alone : (t : ℕ) (vs ws : List ℕ) → (t % 8 ≡ 7 → ⊥) → ws ≡ cond (eqb (t % 8) 7) vs ws
left_alone t vs ws h = sym (ap (λ (b : Bool). cond b vs ws) (ne_eqb (t % 8) 7 h))

-- ---- a slice's words, listed at the end of a list

marked_most : (ws : List ℕ) (x : Cells) (n : ℕ) → length (marked_words ws x n) ≤ n
unfolding joined
marked_most ws x zero = omega arith
marked_most ws x (suc n) =
    omega (arith, length-append (marked_words ws x n) (listed (x n) (get_or ws n 0)), marked_most ws x n, one (x n))
  where
    one : (d : ℕ) → length (listed d (get_or ws n 0)) ≤ 1
    one zero = omega arith
    one (suc d) = omega arith

-- the chains' words unclocked in eights, of the marked cells, each unclocked for the slices since
since_eight : (k : Circuit) (t : ℕ) (x : Cells) → map (earlier k (t % 8)) (marked_earlier k (eights t) x) ≡ marked_earlier k t x
since_eight k t x =
    let sum : eights t + t % 8 ≡ t = omega arith in
    map_chosen (earlier k (t % 8)) (earlier_words k (eights t) k.spread) (earlier_words k t k.spread) x (chains k)
    (λ c l.
    ap (earlier k (t % 8)) (earlier_words_get k (eights t) k.spread c) ∙ earlier_add k (eights t) (t % 8) (get_or k.spread c 0)
    ∙ ap (λ (n : ℕ). earlier k n (get_or k.spread c 0)) sum ∙ sym (earlier_words_get k t k.spread c))

-- the list l has the words of the marked cells at its end, l', and then these unclocked, vs
module _ (k : Circuit) (t : ℕ) (ws row l l' vs : List ℕ) (place : ℕ) (fits : length ws ≤ length l)
    (ep : place ≡ length l - length (marked_words ws (cell row) (length ws))) (el : l' ≡ back (marked_words ws (cell row) (length ws)) l) where
  us : List ℕ
  us = marked_words ws (cell row) (length ws)

  few : length us ≤ length l
  unfolding us
  few = omega (arith, marked_most ws (cell row) (length ws))

  tail : drop place l' ≡ us
  unfolding us
  tail =
      let here : length (take place l) ≡ place = length-take-le place l (omega arith) in
      ap (drop place) (el ∙ back_fits (marked_words ws (cell row) (length ws)) l few ∙ ap (λ (i : ℕ). take i l ++ marked_words ws (cell row) (length ws)) (sym ep))
      ∙ drop_at (take place l) (marked_words ws (cell row) (length ws)) place here

  pub slice_listed : (n : ℕ) → n ≡ length l' → ws ≡ earlier_words k (eights t) k.spread → vs ≡ map (earlier k (t % 8)) (take (n - place) (drop place l'))
      → drop place (take place l' ++ (vs ++ drop (n - place) (drop place l'))) ≡ marked_earlier k t (cell row)
  unfolding us
  slice_listed n en ew ev =
      let long : length l' ≡ length l = ap length el ∙ back_length (marked_words ws (cell row) (length ws)) l in
      let all : take (n - place) (drop place l') ≡ drop place l' = take_all (n - place) (drop place l') (omega (arith, length-drop place l')) in
      let own : us ≡ marked_earlier k (eights t) (cell row) =
      ap (λ (x : List ℕ). marked_words x (cell row) (length x)) ew
      ∙ ap (marked_words (earlier_words k (eights t) k.spread) (cell row)) (length-map k.spread (earlier k (eights t)))
      in
      let past : length (drop place l') ≤ n - place = omega (arith, length-drop place l') in
      drop_at (take place l') (vs ++ drop (n - place) (drop place l')) place (length-take-le place l' (omega arith))
      ∙ ap (λ (x : List ℕ). vs ++ x) (drop_of_length-le (drop place l') past) ∙ append-nil vs
      ∙ ev ∙ ap (map (earlier k (t % 8))) (all ∙ tail ∙ own) ∙ since_eight k t (cell row)
