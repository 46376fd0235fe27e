-- The start, turn and end of the loops over columns and over words. Assumes nothing.
use mathlib.Core.Path.{◌≡◌, refl, sym, ap, ap₂, ◌∙◌, subst}
use mathlib.Core.Bool.{Bool, true, false, ◌||◌}
use mathlib.Core.List.{List, [], ◌∷◌, ◌++◌, append-nil}
use Prim.Native.Nat.{ℕ, zero, suc, min, ◌+◌, ◌-◌, ◌^◌, ◌<◌, ◌≤◌}
use native.Mathlib.Nat.{le_refl, lt_of_lt_of_le, zero-min, min-zero, suc-min-suc}
use native.Mathlib.Numerals.{add-one}
use native.Mathlib.Omega.{arith}
use borrow.Author.Tests.{lt-leb, leb-false, le-leb, leb-true}
use lib.Bits.{bit_or, or_lt, or_add_and, and_le_l, and_le_r}
use lib.Dec.{leb}
use lib.ListN.{length, get_or, take, drop, length-append, length-drop, drop_of_length-le, take-append-drop, length-take}
use lib.Pow.{pow_pos, pow_mono}
use lib.Seq.{drop-cons, take_all, take-length, take-append-le, take-append_seam, length-take-le}
use Rattle.word.specs.Word.{beyond}
use Rattle.word.specs.Some.{any_of}
use Rattle.word.specs.Reply.{front}
use Rattle.word.specs.Zeros.{zeros, filled}
use Rattle.std.specs.List.{fold}
use Rattle.word.proofs.BoolLaws.{or_none}
use Rattle.word.proofs.SomeLaws.{any_of_none}
use Rattle.word.proofs.WordLaws.{not_beyond}
use Rattle.combinations.specs.Step.{step, steps}
use Rattle.spread_words.specs.Spread.{FirstTaken}
use Rattle.spread_words.specs.declared.Begun.{Begun}
use Rattle.combinations.proofs.StepLaws.{steps_none, steps_append}
use Rattle.combinations.proofs.Portions.{steps_most}

-- ---- the OR of the columns

beyond_or : (m a b : ℕ) → beyond m (bit_or a b) ≡ (beyond m a || beyond m b)
unfolding beyond
beyond_or m a b = go (leb (2 ^ m) a) (leb (2 ^ m) b) refl refl
  where
    go : (x y : Bool) → leb (2 ^ m) a ≡ x → leb (2 ^ m) b ≡ y → leb (2 ^ m) (bit_or a b) ≡ (leb (2 ^ m) a || leb (2 ^ m) b)
    go true y ex ey =
        rw ex (le-leb (2 ^ m) (bit_or a b) (omega (arith, leb-true (2 ^ m) a ex, or_add_and a b, and_le_r a b)))
    go false true ex ey =
        rw (ex, ey) (le-leb (2 ^ m) (bit_or a b) (omega (arith, leb-true (2 ^ m) b ey, or_add_and a b, and_le_l a b)))
    go false false ex ey =
        rw (ex, ey) (lt-leb (2 ^ m) (bit_or a b) (or_lt m a b (leb-false (2 ^ m) a ex) (leb-false (2 ^ m) b ey)))

or_from : (m a : ℕ) (ws : List ℕ) → beyond m (fold bit_or a ws) ≡ (beyond m a || any_of (beyond m) ws)
unfolding any_of
or_from m a [] = sym (or_none (beyond m a))
or_from m a (w ∷ ws) =
    or_from m (bit_or a w) ws ∙ ap (λ (b : Bool). b || any_of (beyond m) ws) (beyond_or m a w) ∙ both (beyond m a) (beyond m w) (any_of (beyond m) ws)
  where
    both : (a b c : Bool) → (a || b || c) ≡ (a || (b || c))
    both true b c = refl
    both false b c = refl

pub or_beyond : (ws : List ℕ) (all : ℕ) → all ≡ fold bit_or 0 ws → (m : ℕ) → beyond m all ≡ any_of (beyond m) ws
unfolding beyond
or_beyond ws all e m =
    ap (beyond m) e ∙ or_from m 0 ws ∙ ap (λ (b : Bool). b || any_of (beyond m) ws) (lt-leb (2 ^ m) 0 (pow_pos m))

-- no word has a bit at or above 64
pub none_beyond : (m : ℕ) (ws : List ℕ) → 64 ≤ m → ((i : ℕ) → get_or ws i 0 < 2 ^ 64) → false ≡ any_of (beyond m) ws
none_beyond m ws h small = sym (any_of_none (beyond m) 0 ws (λ i l. not_beyond m (get_or ws i 0) (lt_of_lt_of_le (small i) (pow_mono h))))

-- ---- a list copied over the front of another, as much of it as there is room for

take_least : (a : ℕ) (vs : List ℕ) → take (min a (length vs)) vs ≡ take a vs
take_least zero vs = ap (λ (k : ℕ). take k vs) (zero-min (length vs))
take_least (suc a) [] = ap (λ (k : ℕ). take {A = ℕ} k []) (min-zero (suc a))
take_least (suc a) (v ∷ vs) = ap (λ (k : ℕ). take k (v ∷ vs)) (suc-min-suc a (length vs)) ∙ ap (λ (x : List ℕ). v ∷ x) (take_least a vs)

pub front_copied : (vs l part : List ℕ) (n : ℕ) → n ≡ min (length l) (length vs) → part ≡ take n vs → part ++ drop n l ≡ front (take (length l) vs) l
unfolding front
front_copied vs l part n e p =
    let long : n ≡ length (take (length l) vs) = e ∙ sym (length-take (length l) vs) in
    let same : take n vs ≡ take (length l) vs = ap (λ (k : ℕ). take k vs) e ∙ take_least (length l) vs in
    ap₂ (λ (x : List ℕ) (k : ℕ). x ++ drop k l) (p ∙ same) long

-- ---- the columns one after the other

pub record Reduced (cs l ws : List ℕ) (left i : ℕ) : Type 0 where
  pub left_long : left ≤ length ws
  pub long : length ws ≡ length l
  pub done : steps (drop i cs) (take left ws) ≡ steps cs l

pub reduced_start : (cs l : List ℕ) → Reduced cs l l (length l) 0
reduced_start cs l = record { left_long = le_refl (length l); long = refl; done = ap (steps cs) (take-length l) }

steps_cons : (cs : List ℕ) (i : ℕ) (ws : List ℕ) → i < length cs → steps (drop i cs) ws ≡ steps (drop (i + 1) cs) (step (get_or cs i 0) ws)
unfolding steps
steps_cons cs i ws h =
    ap (λ (x : List ℕ). steps x ws) (drop-cons cs i 0 h) ∙ ap (λ (n : ℕ). steps (drop n cs) (step (get_or cs i 0) ws)) (sym (add-one i))

-- `part` is what the step left where the first `left` words were lent
pub reduced_turn : (cs l ws part : List ℕ) (left next i : ℕ) → Reduced cs l ws left i → i < length cs
    → length part ≡ length (take left ws)
    → next ≡ length (step (get_or cs i 0) (take left ws))
    → part ≡ front (step (get_or cs i 0) (take left ws)) (take left ws)
    → Reduced cs l (part ++ drop left ws) next (i + 1)
unfolding front
reduced_turn cs l ws part left next i r h same count e =
    let s = step (get_or cs i 0) (take left ws) in
    let taken : length (take left ws) ≡ left = length-take-le left ws r.left_long in
    let whole : length (part ++ drop left ws) ≡ length ws =
    length-append part (drop left ws) ∙ omega (arith, length-drop left ws, r.left_long)
    in
    let short : length s ≤ length part = subst (λ (x : List ℕ). length s ≤ length x) (sym e) (omega (arith, length-append s (drop (length s) (take left ws)))) in
    record {
      left_long = omega (arith, length-append part (drop left ws));
      long = whole ∙ r.long;
      done =
          ap (λ (n : ℕ). steps (drop (i + 1) cs) (take n (part ++ drop left ws))) count
          ∙ ap (steps (drop (i + 1) cs))
          (take-append-le (length s) part (drop left ws) short ∙ ap (take (length s)) e
          ∙ take-append_seam s (drop (length s) (take left ws)))
          ∙ sym (steps_cons cs i (take left ws) h) ∙ r.done;
    }

-- columns that leave the words as they are can be passed over
pub reduced_on : (cs l ws : List ℕ) (left i j : ℕ) → Reduced cs l ws left i → steps (drop j cs) (take left ws) ≡ steps (drop i cs) (take left ws)
    → Reduced cs l ws left j
reduced_on cs l ws left i j r e = record { left_long = r.left_long; long = r.long; done = e ∙ r.done }

pub reduced_empty : (cs l ws : List ℕ) (left i : ℕ) → Reduced cs l ws left i → left ≡ 0 → (0 ≡ length (steps cs l)) × (take 0 ws ≡ steps cs l)
reduced_empty cs l ws left i r z =
    let none : steps cs l ≡ [] = sym r.done ∙ ap (λ (n : ℕ). steps (drop i cs) (take n ws)) z ∙ steps_none (drop i cs) in
    (ap length (sym none), sym none)

pub reduced_end : (cs l ws : List ℕ) (left i : ℕ) → Reduced cs l ws left i → length cs ≤ i → (left ≡ length (steps cs l)) × (take left ws ≡ steps cs l)
unfolding steps
reduced_end cs l ws left i r h =
    let all : take left ws ≡ steps cs l = ap (λ (x : List ℕ). steps x (take left ws)) (sym (drop_of_length-le cs h)) ∙ r.done in
    (sym (length-take-le left ws r.left_long) ∙ ap length all, all)

-- ---- the first columns by a basis, and the others

pub begun_inside : (cs l last : List ℕ) (b : Begun) → FirstTaken cs l last b → length last ≡ length l → b.left ≤ length last
begun_inside cs l last b f same = omega (arith, f.number, steps_most (take b.count cs) l)

-- `part` is what the other columns left where the words left by the first were lent
pub begun_end : (cs l last part : List ℕ) (b : Begun) (r : ℕ) → FirstTaken cs l last b → length part ≡ length (take b.left last)
    → (r ≡ length (steps (take (length cs - b.count) (drop b.count cs)) (take b.left last)))
    × (take r part ≡ steps (take (length cs - b.count) (drop b.count cs)) (take b.left last))
    → (r ≡ length (steps cs l)) × (take r (part ++ drop b.left last) ≡ steps cs l)
begun_end cs l last part b r f long e =
    let count = b.count in
    let left = b.left in
    let rest = take (length cs - count) (drop count cs) in
    let all : rest ≡ drop count cs = take_all (length cs - count) (drop count cs) (omega (arith, length-drop count cs)) in
    let whole : steps rest (take left last) ≡ steps cs l =
    ap₂ steps all f.done ∙ sym (steps_append (take count cs) (drop count cs) l) ∙ ap (λ (x : List ℕ). steps x l) (take-append-drop count cs) in
    let short : r ≤ length part = omega (arith, e.0, long, steps_most rest (take left last)) in
    (e.0 ∙ ap length whole, take-append-le r part (drop left last) short ∙ e.1 ∙ whole)

-- ---- a portion: the places behind the words are cleared

-- `left` words are left, at the front of `last`, and vs is what stands behind them then
module _ (cs ws last : List ℕ) (left : ℕ) (count : left ≡ length (steps cs ws)) (long : length last ≡ length ws) where
  pub left_inside : left ≤ length last
  left_inside = omega (arith, steps_most cs ws)

  pub portion_ends : (part vs : List ℕ) → take left last ≡ steps cs ws → part ≡ take (length last - left) (drop left last) → vs ≡ zeros (length part)
      → take left last ++ (vs ++ drop (length last - left) (drop left last)) ≡ filled (steps cs ws) (length ws)
  portion_ends part vs kept ep ev =
      let rest : length (drop left last) ≡ length last - left = length-drop left last in
      let many : length part ≡ length ws - length (steps cs ws) =
      ap length ep ∙ length-take-le (length last - left) (drop left last) (omega arith) ∙ omega arith
      in
      ap₂ (λ (x y : List ℕ). x ++ y) kept
      (ap₂ (λ (x y : List ℕ). x ++ y) (ev ∙ ap zeros many) (drop_of_length-le (drop left last) {i = length last - left} (omega arith))
      ∙ append-nil (zeros (length ws - length (steps cs ws))))
