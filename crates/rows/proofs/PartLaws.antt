-- The parts of a list that `chunks_exact` and `chunks` give, and the rows one after the other as such parts. Assumes nothing.
use mathlib.Core.Path.{◌≡◌, refl, sym, ap, ap₂, subst, ◌∙◌}
use mathlib.Core.Bool.{Bool, ◌||◌}
use mathlib.Core.List.{List, [], ◌∷◌, ◌++◌}
use Prim.Native.Nat.{ℕ, zero, suc, ◌+◌, ◌-◌, ◌*◌, ◌/◌, ◌≤◌, ◌<◌, min}
use native.Mathlib.Nat.{mul-zero, mul-suc, add-div_left, div-eq_of_lt, lt-div-mul-add, div-mul-le_self}
use native.Mathlib.Decide.{dec_lt}
use native.Mathlib.Omega.{arith}
use mathlib.Core.Logic.{dite}
use lib.ListN.{length, get_or, take, drop, length-take, length-drop, length-append, drop_of_length-le}
use lib.Seq.{drop-drop}
use Rattle.std.proofs.lemmas.List.{take_at, drop_at, take_all, append-nil}
use Rattle.std.proofs.lemmas.Iterator.{YieldsList}
use Rattle.std.proofs.lemmas.Iterator.Splits.{YieldsList-from_shown_while}
use Rattle.std.specs.List.{list_any, enumerate_from}
use Rattle.std.proofs.lemmas.List.FromFn.{length-enumerate_from, get_or-enumerate_from}
use Rattle.std.specs.Slice.Iter.{chunks_exact_rest, chunks_exact_size, chunks_exact_steps, chunks_rest, chunks_size, chunks_steps}
use Rattle.word.specs.Some.{any_below}
use Rattle.word.proofs.SomeLaws.{any_below_none, any_below_ext}
use Rattle.word.proofs.RangeLaws.{any_below_add}
use Rattle.rows.specs.Row.{row_bytes, spare_set}
use Rattle.rows.specs.Lists.{list_row}
use Rattle.rows.proofs.RowLaws.{SpareRow, spare_past}

-- the first k parts of b bytes of a list
abbrev parts : ℕ → List ℕ → ℕ → List (List ℕ)
parts b l zero = []
parts b l (suc k) = take b l ∷ parts b (drop b l) k

-- those that are whole
abbrev pub whole_parts : ℕ → List ℕ → List (List ℕ)
whole_parts b l = parts b l (length l / b)

-- one part more
parts_more : (b : ℕ) (l x m : List ℕ) → 0 < b → l ≡ x ++ m → length x ≡ b → whole_parts b l ≡ x ∷ whole_parts b m
parts_more b l x m h e n =
    let long : length l ≡ b + length m = ap length e ∙ length-append x m ∙ ap (λ (k : ℕ). k + length m) n in
    let count : length l / b ≡ suc (length m / b) = ap (λ (k : ℕ). k / b) long ∙ add-div_left (length m) h ∙ omega arith in
    ap (parts b l) count
    ∙ ap₂ (λ (y z : List ℕ). y ∷ parts b z (length m / b)) (ap (take b) e ∙ take_at x m b n) (ap (drop b) e ∙ drop_at x m b n)

-- what `chunks_exact` gives
pub parts_given : {s : _} (b : ℕ) (l : List ℕ) → 0 < b → chunks_exact_rest s ≡ l → chunks_exact_size s ≡ b
    → YieldsList (chunks_exact_steps {A = ℕ}) (λ y. y.now) s (whole_parts b l)
parts_given {s} b l h el eb =
    subst (YieldsList (chunks_exact_steps {A = ℕ}) (λ y. y.now) s)
    (ap₂ whole_parts eb el)
    (YieldsList-from_shown_while chunks_exact_steps (λ y. y.now) (λ t. whole_parts (chunks_exact_size t) (chunks_exact_rest t)) (λ t. 0 < chunks_exact_size t)
    (λ t u p g. ap (λ (k : ℕ). length (parts (chunks_exact_size t) (chunks_exact_rest t) k)) (div-eq_of_lt g.1.0))
    (λ t x u p g. (
      omega (arith, g.0),
      parts_more (chunks_exact_size t) (chunks_exact_rest t) x.now (chunks_exact_rest u) p g.1.0 g.1.1
          ∙ ap (λ (b : ℕ). x.now ∷ whole_parts b (chunks_exact_rest u)) (sym g.0),
    ))
    s (omega (arith, eb)))

-- all of them, the last one as long as the list goes
abbrev pub all_parts : ℕ → List ℕ → List (List ℕ)
all_parts b l = parts b l ((length l + (b - 1)) / b)

pub length-all_parts : (b : ℕ) (l : List ℕ) → length (all_parts b l) ≡ (length l + (b - 1)) / b
length-all_parts b l = go l ((length l + (b - 1)) / b)
  where
    go : (l : List ℕ) (k : ℕ) → length (parts b l k) ≡ k
    go l zero = refl
    go l (suc k) = ap suc (go (drop b l) k)

pub get_or-all_parts : (b : ℕ) (l : List ℕ) (i : ℕ) (d : List ℕ) → i < (length l + (b - 1)) / b → get_or (all_parts b l) i d ≡ take b (drop (b * i) l)
get_or-all_parts b l i d h = go l ((length l + (b - 1)) / b) i h
  where
    go : (l : List ℕ) (k i : ℕ) → i < k → get_or (parts b l k) i d ≡ take b (drop (b * i) l)
    go l zero i h = let z : ⊥ = omega arith in absurd z
    go l (suc k) zero h = ap (λ (x : ℕ). take b (drop x l)) (sym (mul-zero b))
    go l (suc k) (suc i) h =
        let place : b + b * i ≡ b * suc i = omega (arith, mul-suc b i) in
        go (drop b l) k i (omega arith) ∙ ap (take b) (drop-drop (b * i) b l ∙ ap (λ (x : ℕ). drop x l) place)

length_none : (m : List ℕ) → length m ≡ 0 → m ≡ []
length_none [] e = refl
length_none (x ∷ m) e = let z : ⊥ = omega arith in absurd z

-- one part more
all_parts_more : (b : ℕ) (l x m : List ℕ) → 0 < b → l ≡ x ++ m → length x ≡ min b (length l) → 0 < length l → all_parts b l ≡ x ∷ all_parts b m
all_parts_more b l x m h e n some =
    let long : length l ≡ length x + length m = ap length e ∙ length-append x m in
    ap (parts b l) (count long) ∙ ap₂ (λ (y z : List ℕ). y ∷ parts b z ((length m + (b - 1)) / b)) (front long) (behind long)
  where
    count : length l ≡ length x + length m → (length l + (b - 1)) / b ≡ suc ((length m + (b - 1)) / b)
    count long =
        dite (dec_lt (length l) b)
        (λ (s : length l < b).
        let one : (length l + (b - 1)) / b ≡ suc 0 =
        ap (λ (k : ℕ). k / b) (omega arith) ∙ add-div_left (length l - 1) h ∙ ap (λ (k : ℕ). k + 1) (div-eq_of_lt (omega arith)) in
        let none : (length m + (b - 1)) / b ≡ 0 = div-eq_of_lt (omega arith) in
        one ∙ ap suc (sym none))
        (λ (s : length l < b → ⊥). ap (λ (k : ℕ). k / b) (omega arith) ∙ add-div_left (length m + (b - 1)) h ∙ omega arith)

    front : length l ≡ length x + length m → take b l ≡ x
    front long =
        dite (dec_lt (length l) b)
        (λ (s : length l < b). take_all b l (omega arith) ∙ e ∙ ap (λ (y : List ℕ). x ++ y) (length_none m (omega arith)) ∙ append-nil x)
        (λ (s : length l < b → ⊥). ap (take b) e ∙ take_at x m b (omega arith))

    behind : length l ≡ length x + length m → drop b l ≡ m
    behind long =
        dite (dec_lt (length l) b)
        (λ (s : length l < b). drop_of_length-le l (omega arith) ∙ sym (length_none m (omega arith)))
        (λ (s : length l < b → ⊥). ap (drop b) e ∙ drop_at x m b (omega arith))

-- what `chunks` gives
pub all_parts_given : {s : _} (b : ℕ) (l : List ℕ) → 0 < b → chunks_rest s ≡ l → chunks_size s ≡ b
    → YieldsList (chunks_steps {A = ℕ}) (λ y. y.now) s (all_parts b l)
all_parts_given {s} b l h el eb =
    subst (YieldsList (chunks_steps {A = ℕ}) (λ y. y.now) s)
    (ap₂ all_parts eb el)
    (YieldsList-from_shown_while chunks_steps (λ y. y.now) (λ t. all_parts (chunks_size t) (chunks_rest t)) (λ t. 0 < chunks_size t)
    (λ t u p g. ap (λ (k : ℕ). length (parts (chunks_size t) (chunks_rest t) k)) (div-eq_of_lt (omega (arith, g.1.0))))
    (λ t x u p g. (
      omega (arith, g.0),
      all_parts_more (chunks_size t) (chunks_rest t) x.now (chunks_rest u) p g.1.0 g.1.1 g.1.2
          ∙ ap (λ (b : ℕ). x.now ∷ all_parts b (chunks_rest u)) (sym g.0),
    ))
    s (omega (arith, eb)))

-- where this turn's part of a loop over them stands, by how many came before it, and how many turns there were
pub part_turn : (b : ℕ) (l : List ℕ) (k i : ℕ) (part : List ℕ)
    → (k < length (enumerate_from 0 (all_parts b l))) × ((i, part) ≡ get_or (enumerate_from 0 (all_parts b l)) k (i, part))
    → (k < (length l + (b - 1)) / b) × (i ≡ k) × (part ≡ take b (drop (b * k) l))
part_turn b l k i part h =
    let inside : k < length (all_parts b l) = omega (arith, h.0, length-enumerate_from 0 (all_parts b l)) in
    let below : k < (length l + (b - 1)) / b = omega (arith, length-all_parts b l) in
    let here : (i, part) ≡ (0 + k, get_or (all_parts b l) k part) = h.1 ∙ get_or-enumerate_from 0 (all_parts b l) k (i, part) inside in
    (below, ap (λ (p : ℕ × List ℕ). p.0) here ∙ omega arith, ap (λ (p : ℕ × List ℕ). p.1) here ∙ get_or-all_parts b l k part below)

pub part_end : (b : ℕ) (l : List ℕ) (k : ℕ) → k ≡ length (enumerate_from 0 (all_parts b l)) → k ≡ (length l + (b - 1)) / b
part_end b l k h = h ∙ length-enumerate_from 0 (all_parts b l) ∙ length-all_parts b l

-- one of the first rows has a spare bit set where one of the whole parts among them has
pub spare_parts : (n : ℕ) (count : ℕ) (l : List ℕ) (k : ℕ) → 0 < row_bytes n → length l / row_bytes n ≡ k
    → list_any (spare_set n) (take count (parts (row_bytes n) l k)) ≡ any_below count (SpareRow n l)
unfolding any_below list_row
spare_parts n zero l k h e = refl
spare_parts n (suc count) l zero h e =
    let short : length l < row_bytes n = omega (arith, lt-div-mul-add {a = length l} h, ap (λ (x : ℕ). x * row_bytes n) e) in
    sym
    (any_below_none (suc count) (SpareRow n l)
    (λ t b. spare_past n (list_row n l t) (omega (arith, length-take (row_bytes n) (drop (row_bytes n * t) l), length-drop (row_bytes n * t) l))))
spare_parts n (suc count) l (suc k) h e =
    let b : ℕ = row_bytes n in
    let long : b ≤ length l = omega (arith, div-mul-le_self (length l) b, ap (λ (x : ℕ). x * b) e) in
    let left : length l ≡ b + length (drop b l) = omega (arith, length-drop b l) in
    let rest : length (drop b l) / b ≡ k = omega (arith, ap (λ (x : ℕ). x / b) left, add-div_left (length (drop b l)) h, e) in
    let front : b * 0 ≡ 0 = mul-zero b in
    let all : 1 + count ≡ suc count = omega arith in
    ap₂ (λ (y : ℕ) (r : Bool). spare_set n (take b (drop y l)) || r) (sym front)
    (spare_parts n count (drop b l) k h rest ∙ any_below_ext count (SpareRow n (drop b l)) (λ t. SpareRow n l (1 + t)) (λ t m. later t))
    ∙ sym (any_below_add 1 count (SpareRow n l))
    ∙ ap (λ (m : ℕ). any_below m (SpareRow n l)) all
  where
    later : (t : ℕ) → SpareRow n (drop (row_bytes n) l) t ≡ SpareRow n l (1 + t)
    later t =
        let place : row_bytes n + row_bytes n * t ≡ row_bytes n * (1 + t) = omega (arith, mul-suc (row_bytes n) t) in
        ap (λ (x : List ℕ). spare_set n (take (row_bytes n) x)) (drop-drop (row_bytes n * t) (row_bytes n) l ∙ ap (λ (k : ℕ). drop k l) place)
