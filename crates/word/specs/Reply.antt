-- What a call gives back. Document 01: "every result is an answer, with its data, or a refusal"; a call meets "only the
-- numbers about its own input, in this order"; "a refusal carries its number and nothing more"; "success writes the front
-- of each lent list or output and not the rest", and a refusal writes nothing.
--
--   Test            a refusal number, and whether it applies
--   n when b        the number n, which applies where b holds
--   first_of ts      the first number of ts that applies; 0 where none does
--   Reply A         an answer with its data, or a refusal with its number
--   replied n a     the refusal with the number n; the answer a for 0
--   reply ts a      the refusal with the first number of ts that applies; the answer a where none does
--   number_of r      the refusal's number; 0 of an answer
--   front vs l      the list l with vs written over its front
--   lent r vs l     a lent list l after the reply r: vs at its front after an answer, untouched after a refusal
--   after r f       two calls in a row: what the next one, f, replies to the answer of r; r's refusal where it refuses
use Rattle.std.specs.Prelude.{Bool, cond, List, [], ◌∷◌, ◌++◌, ℕ, zero, suc, length, drop}

infix 70 ◌when◌
pub data Test : Type 0 where
  ◌when◌ : ℕ → Bool → Test

abbrev pub first_of : List Test → ℕ
first_of [] = 0
first_of ((n when b) ∷ ts) = cond b n (first_of ts)

pub data Reply (A : Type 0) : Type 0 where
  answer : A → Reply A
  refusal : ℕ → Reply A

abbrev pub replied : {A : Type 0} → ℕ → A → Reply A
replied zero a = answer a
replied (suc n) a = refusal (suc n)

abbrev pub reply : {A : Type 0} → List Test → A → Reply A
reply ts a = replied (first_of ts) a

abbrev pub number_of : {A : Type 0} → Reply A → ℕ
number_of (answer a) = 0
number_of (refusal n) = n

unfoldable pub front : {A : Type 0} → List A → List A → List A
front vs l = vs ++ drop (length vs) l

abbrev pub lent : {A : Type 0} {B : Type 0} → Reply A → List B → List B → List B
lent (answer a) vs l = front vs l
lent (refusal n) vs l = l

abbrev pub after : {A : Type 0} {B : Type 0} → Reply A → (A → Reply B) → Reply B
after (answer a) f = f a
after (refusal n) f = refusal n
