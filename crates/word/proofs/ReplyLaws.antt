-- A chain of tests, each of which refuses with its number: at each way out the first number that applies is known from what
-- the tests before it answered; what a reply leaves in a lent list; and calls in a row. Assumes nothing.
use mathlib.Core.Path.{◌≡◌, refl, sym, ap, ◌∙◌}
use mathlib.Core.Bool.{Bool, true, false, cond}
use mathlib.Core.List.{List}
use Prim.Native.Nat.{ℕ, zero, suc, ◌≤◌}
use native.Mathlib.Omega.{arith}
use lib.ListN.{length, take, drop, length-append}
use lib.Seq.{take_at}
use Rattle.word.specs.Reply.{Reply, answer, refusal, replied, front, lent, after}

-- a test that applies gives its number
pub refuses : (b r : Bool) (n k : ℕ) → r ≡ b → r ≡ true → n ≡ cond b n k
refuses b r n k e h = rw (sym e ∙ h)

-- after a test that does not apply, the tests after it decide
pub passes : (b r : Bool) (n k x : ℕ) → r ≡ b → r ≡ false → x ≡ k → x ≡ cond b n k
passes b r n k x e h t = rw (sym e ∙ h) t

pub ruleset refusals = (refuses, passes, refl)

-- a test with a number other than 0 does not apply where the first number is 0
pub none_applies : (b : Bool) (n k : ℕ) → cond b (suc n) k ≡ 0 → b ≡ false
none_applies true n k h = let z : ⊥ = omega arith in absurd z
none_applies false n k h = refl

pub replied_refusal : {A : Type 0} (n : ℕ) (a : A) → (n ≡ 0 → ⊥) → replied n a ≡ refusal n
replied_refusal zero a h = absurd (h refl)
replied_refusal (suc n) a h = refl

pub replied_answered : {A : Type 0} (n : ℕ) (a : A) → n ≡ 0 → replied n a ≡ answer a
replied_answered n a z = ap (λ (k : ℕ). replied k a) z

-- ---- the two ways out of a call whose first number is k: what it answers, and the lent list that it leaves

pub refused_reply : {A : Type 0} (k n : ℕ) (a : A) → n ≡ k → (n ≡ 0 → ⊥) → refusal n ≡ replied k a
refused_reply k n a e h = sym (replied_refusal n a h) ∙ ap (λ (i : ℕ). replied i a) e

pub answered_reply : {A : Type 0} (k n : ℕ) (a b : A) → n ≡ k → n ≡ 0 → b ≡ a → answer b ≡ replied k a
answered_reply k n a b e z eb = ap answer eb ∙ sym (replied_answered k a (sym e ∙ z))

-- what a call with this reply answers, r, and leaves in a lent list l, to which an answer writes vs
abbrev pub Leaves : {A : Type 0} {B : Type 0} → Reply A → List B → Reply A → List B → List B → Type 0
Leaves reply vs r l l' = (r ≡ reply) × (l' ≡ lent reply vs l)

-- a refusal leaves the list as it was
pub refusal_leaves : {A : Type 0} {B : Type 0} (reply r : Reply A) (n : ℕ) (vs l : List B) → reply ≡ refusal n → r ≡ refusal n → Leaves reply vs r l l
refusal_leaves reply r n vs l e er = (er ∙ sym e, sym (ap (λ x. lent x vs l) e))

-- an answer writes its front
pub answer_leaves : {A : Type 0} {B : Type 0} (reply r : Reply A) (a : A) (vs l l' : List B) → reply ≡ answer a → r ≡ answer a → l' ≡ front vs l
    → Leaves reply vs r l l'
answer_leaves reply r a vs l l' e er w = (er ∙ sym e, w ∙ sym (ap (λ x. lent x vs l) e))

-- .. where the reply is given by its first number
pub refused_leaves : {A : Type 0} {B : Type 0} (k n : ℕ) (a : A) (vs l : List B) → n ≡ k → (n ≡ 0 → ⊥)
    → Leaves (replied k a) vs (refusal n) l l
refused_leaves k n a vs l e h = refusal_leaves (replied k a) (refusal n) n vs l (sym (refused_reply k n a e h)) refl

pub answered_writes : {A : Type 0} {B : Type 0} (k n : ℕ) (a b : A) (vs l l' : List B) → n ≡ k → n ≡ 0 → b ≡ a → l' ≡ front vs l
    → Leaves (replied k a) vs (answer b) l l'
answered_writes k n a b vs l l' e z eb w =
    answer_leaves (replied k a) (answer b) b vs l l' (sym (answered_reply k n a b e z eb)) refl w

-- ---- what is written over the front of a list is its first part

pub front_part : (vs l l' : List ℕ) (n : ℕ) → l' ≡ front vs l → n ≡ length vs → (n ≤ length l') × (take n l' ≡ vs)
unfolding front
front_part vs l l' n e h = (
  omega (arith, ap length e, length-append vs (drop (length vs) l)),
  ap (take n) e ∙ take_at vs (drop (length vs) l) n (sym h),
)

-- .. so where a call answered, what it wrote to a lent list is the list's first part
pub answered_part : {A : Type 0} (r : Reply A) (a : A) (vs l l' : List ℕ) (n : ℕ) → r ≡ answer a → l' ≡ lent r vs l → n ≡ length vs
    → (n ≤ length l') × (take n l' ≡ vs)
answered_part r a vs l l' n e w h = front_part vs l l' n (w ∙ ap (λ x. lent x vs l) e) h

-- ---- calls in a row

pub after_answer : {A : Type 0} {B : Type 0} (r : Reply A) (f : A → Reply B) (b : B) → after r f ≡ answer b
    → (a : A) × (r ≡ answer a) × (f a ≡ answer b)
after_answer (answer a) f b h = (a, refl, h)
after_answer (refusal n) f b h = let z : ◌≡◌ {A = ℕ} 0 1 = cc in let no : ⊥ = omega arith in absurd no

pub after_after : {A : Type 0} {B : Type 0} {C : Type 0} (r : Reply A) (f : A → Reply B) (g : B → Reply C)
    → after (after r f) g ≡ after r (λ a. after (f a) g)
after_after (answer a) f g = refl
after_after (refusal n) f g = refl

same_refusal : {B : Type 0} (k n : ℕ) → ◌≡◌ {A = Reply B} (refusal k) (refusal n) → k ≡ n
same_refusal k n h = cc

-- a call that begins with another, and whose later part never gives n, gives n where the first does and nowhere else
pub after_number : {A : Type 0} {B : Type 0} (r : Reply A) (f : A → Reply B) (n : ℕ) → ((a : A) → f a ≡ refusal n → ⊥)
    → after r f ≡ refusal n → r ≡ refusal n
after_number (answer a) f n d h = absurd (d a h)
after_number (refusal k) f n d h = ap refusal (same_refusal k n h)
