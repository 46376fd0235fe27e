-- No refusal has the number 0, so an answer and a refusal are told apart by the number. Assumes nothing.
use mathlib.Core.Path.{refl, ◌≡◌, sym, ap, ◌∙◌}
use mathlib.Core.List.{List}
use Prim.Native.Nat.{ℕ}
use native.Mathlib.Omega.{arith}
use Rattle.std.specs.Prelude.{Result, Ok, Err}
use Rattle.refusals.specs.declared.Refusal.{Refusal}
use Rattle.refusals.specs.declared.Refusal.TheVariants.{ShortSet, Width, TapWord, ChainCount, SpreadWordsCut, SpreadWord, SliceCount, Length, SpareBit, UnknownValue, SliceNumber, RecordLength, RecordSpareBit, ShortColumnList, Column, NoCombination, ShortWordList, PlanWidth, WordCount, WordList, PlanEnd, Signature, ShortOutput, InversionWord, Share, SliceShare, ShortCutList, TieCell, TieOrder, TieSide}
use Rattle.word.specs.Reply.{answer, replied, front}
use Rattle.word.proofs.ReplyLaws.{refused_reply, answered_reply, Leaves, refusal_leaves, answered_writes}
use Rattle.refusals.specs.Refusals.{number, refused, replied_by}

pub not_zero : (e : Refusal) → number e ≡ 0 → ⊥
not_zero ShortSet h = omega arith
not_zero Width h = omega arith
not_zero TapWord h = omega arith
not_zero ChainCount h = omega arith
not_zero SpreadWordsCut h = omega arith
not_zero SpreadWord h = omega arith
not_zero SliceCount h = omega arith
not_zero Length h = omega arith
not_zero SpareBit h = omega arith
not_zero UnknownValue h = omega arith
not_zero SliceNumber h = omega arith
not_zero RecordLength h = omega arith
not_zero RecordSpareBit h = omega arith
not_zero ShortColumnList h = omega arith
not_zero Column h = omega arith
not_zero NoCombination h = omega arith
not_zero ShortWordList h = omega arith
not_zero PlanWidth h = omega arith
not_zero WordCount h = omega arith
not_zero WordList h = omega arith
not_zero PlanEnd h = omega arith
not_zero Signature h = omega arith
not_zero ShortOutput h = omega arith
not_zero InversionWord h = omega arith
not_zero Share h = omega arith
not_zero SliceShare h = omega arith
not_zero ShortCutList h = omega arith
not_zero TieCell h = omega arith
not_zero TieOrder h = omega arith
not_zero TieSide h = omega arith

-- what refuses has a number, and what answers has none
pub refused_number : {A : Type 0} (r : Result A Refusal) (e : Refusal) (n : ℕ) → refused r ≡ n → r ≡ Err e → number e ≡ n
refused_number r e n h is = sym (ap refused is) ∙ h

pub answered_zero : {A : Type 0} (r : Result A Refusal) (a : A) (n : ℕ) → refused r ≡ n → r ≡ Ok a → n ≡ 0
answered_zero r a n h is = sym h ∙ ap refused is

-- ---- the ways out of a call whose first number is k: what it replies, and the lent list that it leaves

pub refused_call : {A : Type 0} {B : Type 0} (f : A → B) (r : Result A Refusal) (e : Refusal) (k : ℕ) (a : B) → r ≡ Err e → number e ≡ k
    → replied_by f r ≡ replied k a
refused_call f r e k a is h = ap (replied_by f) is ∙ refused_reply k (number e) a h (not_zero e)

pub refused_call_leaves : {A : Type 0} {B : Type 0} {C : Type 0} (f : A → B) (r : Result A Refusal) (e : Refusal) (k : ℕ) (a : B) (vs l : List C)
    → r ≡ Err e → number e ≡ k → Leaves (replied k a) vs (replied_by f r) l l
refused_call_leaves f r e k a vs l is h =
    refusal_leaves (replied k a) (replied_by f r) (number e) vs l (sym (refused_reply k (number e) a h (not_zero e))) (ap (replied_by f) is)

pub answered_call : {B : Type 0} (k : ℕ) (a b : B) → 0 ≡ k → b ≡ a → answer b ≡ replied k a
answered_call k a b z e = answered_reply k 0 a b z refl e

pub answered_call_writes : {B : Type 0} {C : Type 0} (k : ℕ) (a b : B) (vs l l' : List C) → 0 ≡ k → b ≡ a → l' ≡ front vs l
    → Leaves (replied k a) vs (answer b) l l'
answered_call_writes k a b vs l l' z e w = answered_writes k 0 a b vs l l' z refl e w
