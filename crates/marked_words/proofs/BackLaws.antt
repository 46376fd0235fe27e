-- Lists written from the end, and lists joined one after the other. Assumes nothing.
use mathlib.Core.Path.{◌≡◌, refl, sym, ap, ap₂, ◌∙◌}
use mathlib.Core.Logic.{dite}
use mathlib.Core.List.{List, [], ◌++◌, append_assoc, append-nil}
use Prim.Native.Nat.{ℕ, zero, suc, ◌+◌, ◌-◌, ◌≤◌, ◌<◌}
use native.Mathlib.Nat.{add-zero, add-suc}
use native.Mathlib.Decide.{dec_le}
use native.Mathlib.Omega.{arith}
use lib.ListN.{length, take, drop, length-append, length-take, length-drop}
use lib.Seq.{take_all, take-take, take_at, drop_at, drop-append-le, drop-append-add, length-take-le, drop-length}
use Rattle.numbers.specs.Joined.{joined}
use Rattle.marked_words.specs.Back.{back}

-- ---- a list written from the end

pub back_fits : (vs l : List ℕ) → length vs ≤ length l → back vs l ≡ take (length l - length vs) l ++ vs
unfolding back
back_fits vs l h = let none : length vs - length l ≡ 0 = omega arith in rw none

pub back_over : (vs l : List ℕ) → length l ≤ length vs → back vs l ≡ drop (length vs - length l) vs
unfolding back
back_over vs l h = let none : length l - length vs ≡ 0 = omega arith in rw none

pub back_none : (l : List ℕ) → back [] l ≡ l
back_none l = back_fits [] l (omega arith) ∙ append-nil (take (length l - 0) l) ∙ take_all (length l - 0) l (omega arith)

pub back_whole : (vs l : List ℕ) → length vs ≡ length l → back vs l ≡ vs
back_whole vs l e = let none : length vs - length l ≡ 0 = omega arith in back_over vs l (omega arith) ∙ ap (λ (i : ℕ). drop i vs) none

pub back_length : (vs l : List ℕ) → length (back vs l) ≡ length l
unfolding back
back_length vs l =
    length-append (take (length l - length vs) l) (drop (length vs - length l) vs)
    ∙ omega (arith, length-take (length l - length vs) l, length-drop (length vs - length l) vs)

pub back_empty : (us : List ℕ) → back us [] ≡ []
back_empty us = back_over us [] (omega arith) ∙ let all : length us - 0 ≡ length us = omega arith in ap (λ (i : ℕ). drop i us) all ∙ drop-length us

-- the list vs is written over the end, and then us over the end of what stands before it
module _ (us vs l : List ℕ) where
  back_before : (q : ℕ) → q + length vs ≡ length l → back us (take q l) ++ vs ≡ back (us ++ vs) l
  unfolding back
  back_before q e =
      let len : length (take q l) ≡ q = length-take-le q l (omega arith) in
      let front : length l - length (us ++ vs) ≡ q - length us = omega (arith, length-append us vs) in
      let lost : length (us ++ vs) - length l ≡ length us - q = omega (arith, length-append us vs) in
      rw (len, front, lost, append_assoc, take-take (q - length us) q l (omega arith), drop-append-le (length us - q) us vs (omega arith))

  back_lost : length l ≤ length vs → drop (length vs - length l) vs ≡ back (us ++ vs) l
  back_lost h =
      let lost : length (us ++ vs) - length l ≡ length us + (length vs - length l) = omega (arith, length-append us vs) in
      sym
      (back_over (us ++ vs) l (omega (arith, length-append us vs)) ∙ ap (λ (i : ℕ). drop i (us ++ vs)) lost
      ∙ drop-append-add us vs (length vs - length l))

  pub back_more : (p : ℕ) → p ≡ length l - length vs → back us (take p (back vs l)) ++ drop p (back vs l) ≡ back (us ++ vs) l
  back_more p e = dite (dec_le (length vs) (length l)) fits over
    where
      fits : length vs ≤ length l → back us (take p (back vs l)) ++ drop p (back vs l) ≡ back (us ++ vs) l
      fits h =
          let len : length (take p l) ≡ p = length-take-le p l (omega arith) in
          let now : back vs l ≡ take p l ++ vs = back_fits vs l h ∙ ap (λ (i : ℕ). take i l ++ vs) (sym e) in
          ap (λ (x : List ℕ). back us (take p x) ++ drop p x) now
          ∙ ap₂ (λ (x y : List ℕ). back us x ++ y) (take_at (take p l) vs p len) (drop_at (take p l) vs p len)
          ∙ back_before p (omega arith)

      over : (length vs ≤ length l → ⊥) → back us (take p (back vs l)) ++ drop p (back vs l) ≡ back (us ++ vs) l
      over h =
          let none : p ≡ 0 = omega arith in
          ap (λ (i : ℕ). back us (take i (back vs l)) ++ drop i (back vs l)) none
          ∙ ap (λ (x : List ℕ). x ++ back vs l) (back_empty us) ∙ back_over vs l (omega arith) ∙ back_lost (omega arith)

  pub back_more_room : (p : ℕ) → p ≡ length l - length vs → length (take p (back vs l)) - length us ≡ length l - length (us ++ vs)
  back_more_room p e = omega (arith, length-take p (back vs l), back_length vs l, length-append us vs)

-- ---- lists one after the other

-- the lists f c, f (c + 1), .. : j of them
pub rest : (ℕ → List ℕ) → ℕ → ℕ → List ℕ
rest f c zero = []
rest f c (suc j) = f c ++ rest f (suc c) j

pub joined_rest : (f : ℕ → List ℕ) (c j : ℕ) → joined f c ++ rest f c j ≡ joined f (c + j)
unfolding rest joined
joined_rest f c zero = append-nil (joined f c) ∙ ap (joined f) (sym (add-zero c))
joined_rest f c (suc j) =
    sym (append_assoc (joined f c) (f c) (rest f (suc c) j)) ∙ joined_rest f (suc c) j
    ∙ let same : suc c + j ≡ c + suc j = omega arith in ap (joined f) same

pub rest_whole : (f : ℕ → List ℕ) (n : ℕ) → rest f 0 n ≡ joined f n
unfolding joined
rest_whole f n = joined_rest f 0 n ∙ let same : 0 + n ≡ n = omega arith in ap (joined f) same

pub rest_none : (f : ℕ → List ℕ) (c : ℕ) → rest f c 0 ≡ []
unfolding rest
rest_none f c = refl

pub rest_suc : (f : ℕ → List ℕ) (c j : ℕ) → rest f c (suc j) ≡ f c ++ rest f (suc c) j
unfolding rest
rest_suc f c j = refl

pub rest_add : (f : ℕ → List ℕ) (c i j : ℕ) → rest f c (i + j) ≡ rest f c i ++ rest f (c + i) j
rest_add f c zero j =
    let a : 0 + j ≡ j = omega arith in
    let b : c ≡ c + 0 = omega arith in
    ap₂ (rest f) b a ∙ ap (λ (l : List ℕ). l ++ rest f (c + 0) j) (sym (rest_none f c))
rest_add f c (suc i) j =
    let a : suc i + j ≡ suc (i + j) = omega arith in
    let b : suc c + i ≡ c + suc i = omega arith in
    ap (rest f c) a ∙ rest_suc f c (i + j) ∙ ap (λ (l : List ℕ). f c ++ l) (rest_add f (suc c) i j)
    ∙ sym (append_assoc (f c) (rest f (suc c) i) (rest f (suc c + i) j))
    ∙ ap₂ (λ (l : List ℕ) (d : ℕ). l ++ rest f d j) (sym (rest_suc f c i)) b

pub rest_joined : (f : ℕ → List ℕ) (c j : ℕ) → rest f c j ≡ joined (λ d. f (c + d)) j
unfolding joined
rest_joined f c zero = rest_none f c
rest_joined f c (suc j) =
    let a : suc j ≡ j + 1 = omega arith in
    ap (rest f c) a ∙ rest_add f c j 1
    ∙ ap₂ (λ (l r : List ℕ). l ++ r) (rest_joined f c j) (rest_suc f (c + j) 0 ∙ ap (λ (l : List ℕ). f (c + j) ++ l) (rest_none f (suc (c + j))) ∙ append-nil (f (c + j)))

-- lists that are empty add nothing
pub joined_stops : (f : ℕ → List ℕ) (c j : ℕ) → ((d : ℕ) → c ≤ d → f d ≡ []) → joined f (c + j) ≡ joined f c
unfolding joined
joined_stops f c zero h = ap (joined f) (add-zero c)
joined_stops f c (suc j) h =
    ap (joined f) (add-suc c j) ∙ ap₂ (λ (l r : List ℕ). l ++ r) (joined_stops f c j h) (h (c + j) (omega arith)) ∙ append-nil (joined f c)

pub joined_none : (f : ℕ → List ℕ) (n : ℕ) → ((d : ℕ) → d < n → f d ≡ []) → joined f n ≡ []
unfolding joined
joined_none f zero h = refl
joined_none f (suc n) h = ap₂ (λ (l r : List ℕ). l ++ r) (joined_none f n (λ d l. h d (omega arith))) (h n (omega arith))

pub rest_ext : (f g : ℕ → List ℕ) (c j : ℕ) → ((d : ℕ) → c ≤ d → f d ≡ g d) → rest f c j ≡ rest g c j
unfolding rest
rest_ext f g c zero h = refl
rest_ext f g c (suc j) h = ap₂ (λ (l r : List ℕ). l ++ r) (h c (omega arith)) (rest_ext f g (suc c) j (λ d l. h d (omega arith)))
