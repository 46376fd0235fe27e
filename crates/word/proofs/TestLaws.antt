-- Lists of tests of which none applies, lists of tests one after the other, and what a reply says of its tests. Assumes nothing.
use mathlib.Core.Path.{◌≡◌, refl, sym, ◌∙◌}
use mathlib.Core.Bool.{Bool, true, false, cond, not, ◌&&◌, and-true}
use mathlib.Core.Logic.{dite}
use mathlib.Core.List.{List, [], ◌∷◌, ◌++◌}
use Prim.Native.Nat.{ℕ, zero, suc, ◌≤◌}
use native.Mathlib.Decide.{ℕ_discrete}
use native.Mathlib.Omega.{arith}
use borrow.Author.Tests.{leb-true, eqb-false, not-true}
use lib.Dec.{leb, eqb}
use Rattle.word.specs.Reply.{Test, ◌when◌, answer, refusal, replied, first_of}
use Rattle.word.proofs.BoolLaws.{and_left, and_right}

pub none_and_rest : (b : Bool) (n k : ℕ) → cond b (suc n) k ≡ 0 → (b ≡ false) × (k ≡ 0)
none_and_rest true n k h = let z : ⊥ = omega arith in absurd z
none_and_rest false n k h = (refl, h)

-- no test of the list has the number 0
abbrev pub numbered : List Test → Bool
numbered [] = true
numbered (zero when b ∷ ts) = false
numbered (suc n when b ∷ ts) = numbered ts

-- where none of the first tests applies, the later ones decide
pub first_of_later : (ts us : List Test) → numbered ts ≡ true → first_of ts ≡ 0 → first_of (ts ++ us) ≡ first_of us
first_of_later [] us d h = refl
first_of_later (zero when b ∷ ts) us d h = let z : ◌≡◌ {A = ℕ} 0 1 = cc in let w : ⊥ = omega arith in absurd w
first_of_later (suc n when true ∷ ts) us d h = let z : ⊥ = omega arith in absurd z
first_of_later (suc n when false ∷ ts) us d h = first_of_later ts us d h

-- where one of the first tests applies, the later ones are not looked at
pub first_of_sooner : (ts us : List Test) → (first_of ts ≡ 0 → ⊥) → first_of (ts ++ us) ≡ first_of ts
first_of_sooner [] us h = absurd (h refl)
first_of_sooner (n when true ∷ ts) us h = refl
first_of_sooner (n when false ∷ ts) us h = first_of_sooner ts us h

-- where no test of two lists applies, none of the first does
pub first_of_none : (ts us : List Test) → first_of (ts ++ us) ≡ 0 → first_of ts ≡ 0
first_of_none ts us h =
    dite (ℕ_discrete (first_of ts) 0) (λ (z : first_of ts ≡ 0). z)
    (λ (d : first_of ts ≡ 0 → ⊥). absurd (d (sym (first_of_sooner ts us d) ∙ h)))

-- ---- a call whose tests are another call's and then its own: n is the first number of the other's

pub first_sooner : (ts us : List Test) (n : ℕ) → n ≡ first_of ts → (n ≡ 0 → ⊥) → n ≡ first_of (ts ++ us)
first_sooner ts us n e h = e ∙ sym (first_of_sooner ts us (λ z. h (e ∙ z)))

pub first_later : (ts us : List Test) (n k : ℕ) → numbered ts ≡ true → n ≡ first_of ts → n ≡ 0 → k ≡ first_of us → k ≡ first_of (ts ++ us)
first_later ts us n k d e z h = h ∙ sym (first_of_later ts us d (sym e ∙ z))

pub none_of_both : (ts us : List Test) → numbered ts ≡ true → first_of (ts ++ us) ≡ 0 → (first_of ts ≡ 0) × (first_of us ≡ 0)
none_of_both ts us d h = let none : first_of ts ≡ 0 = first_of_none ts us h in (none, sym (first_of_later ts us d none) ∙ h)

-- ---- a test that never applies

-- one that applies nowhere where those before it don't can be left out
pub first_of_out : (ts us : List Test) (n : ℕ) (b : Bool) → (first_of ts ≡ 0 → b ≡ false) → first_of (ts ++ n when b ∷ us) ≡ first_of (ts ++ us)
first_of_out [] us n b h = rw (h refl) refl
first_of_out (k when true ∷ ts) us n b h = refl
first_of_out (k when false ∷ ts) us n b h = first_of_out ts us n b h

-- ---- how large the first number can be

pub cond_most : (b : Bool) (n k x : ℕ) → k ≤ n → (b ≡ false → x ≤ n) → cond b k x ≤ n
cond_most true n k x l h = l
cond_most false n k x l h = h refl

-- no test of the list has a number above n
abbrev pub numbered_to : ℕ → List Test → Bool
numbered_to n [] = true
numbered_to n (k when b ∷ ts) = leb k n && numbered_to n ts

pub first_of_most : (n : ℕ) (ts : List Test) → numbered_to n ts ≡ true → first_of ts ≤ n
first_of_most n [] d = omega arith
first_of_most n (k when b ∷ ts) d =
    let most : k ≤ n = leb-true k n (and_left (leb k n) (numbered_to n ts) d) in
    cond_most b n k (first_of ts) most (λ e. first_of_most n ts (and_right (leb k n) (numbered_to n ts) d))

-- ---- what a reply says of its tests

pub replied_answer : {A : Type 0} (n : ℕ) (a p : A) → replied n a ≡ answer p → (n ≡ 0) × (p ≡ a)
replied_answer zero a p h = (refl, cc)
replied_answer (suc n) a p h = let z : ◌≡◌ {A = ℕ} 0 1 = cc in let w : ⊥ = omega arith in absurd w

pub replied_number : {A : Type 0} (n : ℕ) (a : A) (k : ℕ) → replied n a ≡ refusal k → n ≡ k
replied_number zero a k h = let z : ◌≡◌ {A = ℕ} 0 1 = cc in let w : ⊥ = omega arith in absurd w
replied_number (suc n) a k h = cc

pub replied_not_zero : {A : Type 0} (n : ℕ) (a : A) (k : ℕ) → replied n a ≡ refusal k → k ≡ 0 → ⊥
replied_not_zero zero a k h z = let y : ◌≡◌ {A = ℕ} 0 1 = cc in omega arith
replied_not_zero (suc n) a k h z = let y : suc n ≡ k = replied_number (suc n) a k h in omega arith

-- a reply whose tests refuse with the number k refuses so whatever its answer would be
pub replied_alike : {A : Type 0} {B : Type 0} (n : ℕ) (a : A) (b : B) (k : ℕ) → replied n a ≡ refusal k → replied n b ≡ refusal k
replied_alike zero a b k h = let z : ◌≡◌ {A = ℕ} 0 1 = cc in let w : ⊥ = omega arith in absurd w
replied_alike (suc n) a b k h = cc

-- ---- a number that does not apply

-- no test of the list with the number n applies
abbrev pub without : ℕ → List Test → Bool
without n [] = true
without n ((k when b) ∷ ts) = not (eqb k n && b) && without n ts

without_next : (n k : ℕ) (b : Bool) (ts : List Test) → (not (eqb k n && b) && without n ts) ≡ true → cond b k (first_of ts) ≡ n
    → (first_of ts ≡ n → n ≡ 0) → n ≡ 0
without_next n k true ts d h f =
    absurd (eqb-false k n (sym (and-true (eqb k n)) ∙ not-true (eqb k n && true) (and_left (not (eqb k n && true)) (without n ts) d)) h)
without_next n k false ts d h f = f h

-- .. so n isn't the first that applies
pub first_of_without : (n : ℕ) (ts : List Test) → without n ts ≡ true → first_of ts ≡ n → n ≡ 0
first_of_without n [] d h = sym h
first_of_without n ((k when b) ∷ ts) d h =
    without_next n k b ts d h (first_of_without n ts (and_right (not (eqb k n && b)) (without n ts) d))

-- .. so where n is the first number, and no other test with it applies, none before it applies and its own test does
first_applies : (n : ℕ) (b : Bool) (ts us : List Test) → (n ≡ 0 → ⊥) → without n ts ≡ true → without n us ≡ true
    → first_of (ts ++ n when b ∷ us) ≡ n → (first_of ts ≡ 0) × (b ≡ true)
first_applies n true [] us z d e h = (refl, refl)
first_applies n false [] us z d e h = absurd (z (first_of_without n us e h))
first_applies n b (k when true ∷ ts) us z d e h = absurd (z (first_of_without n (k when true ∷ ts) d h))
first_applies n b (k when false ∷ ts) us z d e h =
    first_applies n b ts us z (and_right (not (eqb k n && false)) (without n ts) d) e h

-- .. which is what a refusal with the number n says
pub refused_applies : {A : Type 0} (n : ℕ) (b : Bool) (ts us : List Test) (a : A) → without n ts ≡ true → without n us ≡ true
    → replied (first_of (ts ++ n when b ∷ us)) a ≡ refusal n → (first_of ts ≡ 0) × (b ≡ true)
refused_applies n b ts us a d e h =
    first_applies n b ts us (replied_not_zero (first_of (ts ++ n when b ∷ us)) a n h) d e (replied_number (first_of (ts ++ n when b ∷ us)) a n h)

-- a number that doesn't apply is not the refusal's
pub never : {A : Type 0} (n : ℕ) (ts : List Test) (a : A) → (n ≡ 0 → ⊥) → without n ts ≡ true → replied (first_of ts) a ≡ refusal n → ⊥
never n ts a z d h = z (first_of_without n ts d (replied_number (first_of ts) a n h))
