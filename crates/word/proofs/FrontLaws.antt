-- A list written over the front of another, place by place. Assumes nothing.
use mathlib.Core.Path.{◌≡◌, refl, sym, ap, ◌∙◌}
use mathlib.Core.List.{List, [], ◌++◌, append-nil}
use Prim.Native.Nat.{ℕ, suc, ◌+◌, ◌<◌, ◌≤◌}
use native.Mathlib.Nat.{le_of_lt}
use native.Mathlib.Numerals.{add-one}
use native.Mathlib.Omega.{arith}
use lib.ListN.{length, get_or, take, drop, set, length-append, length-drop, length-replicate, drop_of_length-le}
use lib.Seq.{drop-cons, take-suc, take_all, take-length, length-take-le, set_at, append_snoc}
use Rattle.word.specs.Reply.{front}
use Rattle.word.specs.Zeros.{zeros}

pub front_nothing : (l : List ℕ) → front [] l ≡ l
unfolding front
front_nothing l = refl

front_take : (i : ℕ) (vs l : List ℕ) → i ≤ length vs → front (take i vs) l ≡ take i vs ++ drop i l
unfolding front
front_take i vs l h = ap (λ (n : ℕ). take i vs ++ drop n l) (length-take-le i vs h)

pub front_next : (i : ℕ) (vs l : List ℕ) → i < length vs → i < length l → set (front (take i vs) l) i (get_or vs i 0) ≡ front (take (suc i) vs) l
front_next i vs l hv hl =
    ap (λ (x : List ℕ). set x i (get_or vs i 0)) (front_take i vs l (le_of_lt hv))
    ∙ ap (λ (x : List ℕ). set (take i vs ++ x) i (get_or vs i 0)) (drop-cons l i 0 hl)
    ∙ set_at (take i vs) (get_or l i 0) (drop (suc i) l) (get_or vs i 0) i (length-take-le i vs (le_of_lt hv))
    ∙ sym (append_snoc (take i vs) (get_or vs i 0) (drop (suc i) l))
    ∙ ap (λ (x : List ℕ). x ++ drop (suc i) l) (sym (take-suc vs i 0 hv)) ∙ sym (front_take (suc i) vs l hv)

pub front_whole : (vs l : List ℕ) → front (take (length vs) vs) l ≡ front vs l
front_whole vs l = ap (λ (x : List ℕ). front x l) (take-length vs)

pub front_length : (vs l : List ℕ) → length vs ≤ length l → length (front vs l) ≡ length l
unfolding front
front_length vs l h = length-append vs (drop (length vs) l) ∙ omega (arith, length-drop (length vs) l)

pub front_take_length : (i : ℕ) (vs l : List ℕ) → i ≤ length vs → i ≤ length l → length (front (take i vs) l) ≡ length l
front_take_length i vs l hv hl =
    ap length (front_take i vs l hv) ∙ length-append (take i vs) (drop i l)
    ∙ omega (arith, length-take-le i vs hv, length-drop i l)

-- ---- the loop that writes vs over the front of l, as far as there is room; ws is the list after i places

pub written_start : (l : List ℕ) → l ≡ front [] l
written_start l = sym (front_nothing l)

pub written_turn : (vs l ws : List ℕ) (i : ℕ) → ws ≡ front (take i vs) l → i < length vs → i < length l → set ws i (get_or vs i 0) ≡ front (take (i + 1) vs) l
written_turn vs l ws i e hv hl =
    ap (λ (x : List ℕ). set x i (get_or vs i 0)) e ∙ front_next i vs l hv hl ∙ ap (λ (n : ℕ). front (take n vs) l) (sym (add-one i))

-- .. all of vs, where it fits
pub written_end : (vs l ws : List ℕ) (i : ℕ) → ws ≡ front (take i vs) l → i ≤ length vs → i ≤ length l → length vs ≤ i → ws ≡ front (take (length l) vs) l
written_end vs l ws i e a b h = e ∙ ap (λ (x : List ℕ). front x l) (take_all i vs h ∙ sym (take_all (length l) vs (omega arith)))

-- .. as much of it as there is room for
pub written_full : (vs l ws : List ℕ) (i : ℕ) → ws ≡ front (take i vs) l → i ≤ length l → length l ≤ i → ws ≡ front (take (length l) vs) l
written_full vs l ws i e a b = let all : i ≡ length l = omega arith in e ∙ ap (λ (n : ℕ). front (take n vs) l) all

-- what is as long as the list itself is left of it alone
pub front_all : (vs l : List ℕ) → length vs ≡ length l → front vs l ≡ vs
unfolding front
front_all vs l e =
    let past : length l ≤ length vs = omega arith in
    ap (λ (x : List ℕ). vs ++ x) (drop_of_length-le l past) ∙ append-nil vs

-- ---- zeros

pub length_zeros : (n : ℕ) → length (zeros n) ≡ n
length_zeros n = length-replicate n (the_zero)
  where
    the_zero : ℕ
    the_zero = 0
