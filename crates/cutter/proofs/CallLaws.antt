-- Each way out of cutting: what it answers, and what the cut list holds. Assumes nothing.
use mathlib.Core.Path.{◌≡◌, refl, sym, ap, ap₂, ◌∙◌}
use mathlib.Core.Bool.{Bool, true, false, cond}
use mathlib.Core.List.{List}
use Prim.Native.Nat.{ℕ, ◌*◌, ◌^◌, ◌≤◌, ◌<◌}
use native.Mathlib.Nat.{mul-le-mul}
use native.Mathlib.Omega.{arith}
use borrow.Author.Tests.{lt-ltb, le-ltb, ltb-false}
use lib.Dec.{ltb}
use lib.ListN.{length, take}
use lib.Seq.{take_all}
use Rattle.word.specs.Reply.{answer, refusal, first_of, front}
use Rattle.word.proofs.ReplyLaws.{refused_leaves, answered_writes}
use Rattle.word.proofs.TestLaws.{first_of_later, first_sooner, replied_answer, replied_number}
use Rattle.word.proofs.BoolLaws.{or_false_left, or_false_right}
use Rattle.set_layout.specs.Layout.{width_of}
use Rattle.set_file.specs.Reading.{set_tests, set_reply}
use Rattle.set_file.proofs.Laws.{set_numbered}
use Rattle.set_file.proofs.ReadLaws.{refused_set}
use Rattle.signatures.specs.Sets.{given}
use Rattle.cutter.specs.Cutting.{bad_share, short_slice, starts_of, CutParts, cut_parts_of, cut_tests, cut_reply, cuts_after, said_cut}
use Rattle.cutter.specs.Turns.{said_slices, SlicedFor}
use Rattle.cutter.specs.declared.Cutting.{Cutting}
use Rattle.std.specs.Prelude.{Result, Ok, Err}
use Rattle.refusals.specs.declared.Refusal.{Refusal}
use Rattle.refusals.specs.declared.Refusal.TheVariants.{Share, ShortCutList}
use Rattle.refusals.specs.Refusals.{number}
use Rattle.refusals.proofs.RefusalLaws.{not_zero, refused_call_leaves}

-- what the call answers, c, and leaves in the cut list l, l'
abbrev pub CutEnd : List ℕ → ℕ → List ℕ → Result Cutting Refusal → List ℕ → Type 0
CutEnd set k l c l' = (said_cut c ≡ cut_reply set k (length l)) × (l' ≡ cuts_after set k l)

abbrev cut_parts : Cutting → CutParts
cut_parts c = record { runs = c.runs; bits = c.bits }

-- the set is refused
pub ends_set : (set l : List ℕ) (k : ℕ) (r : Result Cutting Refusal) (e : Refusal) → r ≡ Err e → refusal (number e) ≡ set_reply set → CutEnd set k l r l
unfolding cut_reply cut_tests
ends_set set l k r e is h =
    refused_call_leaves cut_parts r e _ (cut_parts_of set k) (starts_of set k) l is
    (first_sooner (set_tests set) _ (number e) (refused_set set (number e) h) (not_zero e))

-- the control bits fit a word
pub bits_fit : (m k n : ℕ) → m ≤ 64 → k ≤ m → n ≤ 512 → (m * k < 2 ^ 64) × (m * k * n < 2 ^ 64)
bits_fit m k n hm hk hn =
    let low : k ≤ 64 = omega arith in
    let one : m * k ≤ 64 * 64 = mul-le-mul hm low in
    let all : m * k * n ≤ 64 * 64 * 512 = mul-le-mul one hn in
    (omega arith, omega arith)

-- whether 26 applies, as it is found of the width that was read, is so of the set
pub own_share : (m w k : ℕ) (b a : Bool) → b ≡ bad_share m k → m ≡ w → b ≡ a → bad_share w k ≡ a
own_share m w k b a e em h = sym (e ∙ ap (λ (x : ℕ). bad_share x k) em) ∙ h

pub share_range : (m k : ℕ) → bad_share m k ≡ false → (1 ≤ k) × (k ≤ m)
unfolding bad_share
share_range m k none =
    (ltb-false k 1 (or_false_left (ltb k 1) (ltb m k) none), ltb-false m k (or_false_right (ltb k 1) (ltb m k) none))

past_set : (set l : List ℕ) (k : ℕ) → first_of (set_tests set) ≡ 0 → first_of (cut_tests set k (length l))
    ≡ cond (bad_share (width_of set) k) 26 (cond (short_slice (given set) k) 27 (cond (ltb (length l) (length (starts_of set k))) 28 0))
unfolding cut_tests
past_set set l k none = first_of_later (set_tests set) _ (set_numbered set) none

pub ends_26 : (set l : List ℕ) (k : ℕ) → first_of (set_tests set) ≡ 0 → bad_share (width_of set) k ≡ true → CutEnd set k l (Err Share) l
unfolding cut_reply
ends_26 set l k none applies =
    refused_leaves _ 26 (cut_parts_of set k) (starts_of set k) l (sym (past_set set l k none ∙ rw applies refl)) (λ z. omega arith)

-- ---- the slices have been gone through

-- the set meets none of its numbers, k is 1 to m, and the slices come to r, with the first slices of the runs at the front of s
pub record Passed (set : List ℕ) (k : ℕ) (s : List ℕ) (r : Result ℕ Refusal) : Type 0 where
  pub none : first_of (set_tests set) ≡ 0
  pub share : bad_share (width_of set) k ≡ false
  pub sliced : SlicedFor (given set) k s r

module _ (set l : List ℕ) (k : ℕ) (s : List ℕ) (r : Result ℕ Refusal) (passed : Passed set k s r) where
  pub ends_27 : (x : Result Cutting Refusal) (e : Refusal) → x ≡ Err e → r ≡ Err e → CutEnd set k l x l
  unfolding cut_reply starts_of
  ends_27 x e is er = go (short_slice (given set) k) refl
    where
      refused : said_slices r ≡ refusal (number e)
      refused = ap said_slices er

      go : (b : Bool) → short_slice (given set) k ≡ b → CutEnd set k l x l
      go true h =
          let same : number e ≡ 27 = sym (replied_number 27 (length (starts_of set k)) (number e) (sym (rw h at passed.sliced.reply) ∙ refused)) in
          refused_call_leaves cut_parts x e _ (cut_parts_of set k) (starts_of set k) l is
          (same ∙ sym (past_set set l k passed.none ∙ rw (passed.share, h) refl))
      go false h =
          let zero_number : number e ≡ 0 = sym (replied_number 0 (length (starts_of set k)) (number e) (sym (rw h at passed.sliced.reply) ∙ refused)) in
          absurd (not_zero e zero_number)

  module _ (n : ℕ) (er : r ≡ Ok n) where
    answered : said_slices r ≡ answer n
    answered = ap said_slices er

    both : (◌≡◌ {A = ℕ} (cond (short_slice (given set) k) 27 0) 0) × (n ≡ length (starts_of set k))
    unfolding starts_of
    both = replied_answer (cond (short_slice (given set) k) 27 0) (length (starts_of set k)) n (sym passed.sliced.reply ∙ answered)

    long : short_slice (given set) k ≡ false
    long = go (short_slice (given set) k) refl
      where
        go : (x : Bool) → short_slice (given set) k ≡ x → x ≡ false
        go false h = refl
        go true h = let z : ⊥ = omega (arith, ap (λ (x : Bool). cond {A = ℕ} x 27 0) (sym h) ∙ both.0) in absurd z

    pub runs_few : n ≤ 512
    runs_few = passed.sliced.few n answered

    pub ends_28 : length l < n → CutEnd set k l (Err ShortCutList) l
    unfolding cut_reply
    ends_28 h =
        let short : ltb (length l) (length (starts_of set k)) ≡ true = lt-ltb (length l) (length (starts_of set k)) (omega (arith, both.1)) in
        refused_leaves _ 28 (cut_parts_of set k) (starts_of set k) l (sym (past_set set l k passed.none ∙ rw (passed.share, long, short) refl))
        (λ z. omega arith)

    pub ends_runs : (m i : ℕ) (l' : List ℕ) → n ≤ length l → m ≡ width_of set → i ≡ n → l' ≡ front (take (length l) (take n s)) l
        → CutEnd set k l (Ok (record { runs = i; bits = m * k * i })) l'
    unfolding cut_reply starts_of
    ends_runs m i l' h em ei el =
        let room : ltb (length l) (length (starts_of set k)) ≡ false = le-ltb (length l) (length (starts_of set k)) (omega (arith, both.1)) in
        let starts : take n s ≡ starts_of set k = passed.sliced.starts n answered in
        let fits : length (starts_of set k) ≤ length l = omega (arith, both.1) in
        answered_writes (first_of (cut_tests set k (length l))) 0 (cut_parts_of set k) (record { runs = i; bits = m * k * i }) (starts_of set k) l l'
        (sym (past_set set l k passed.none ∙ rw (passed.share, long, room) refl)) refl
        (ap₂ (λ (x y : ℕ). record { runs = y; bits = x * k * y }) em (ei ∙ both.1))
        (el ∙ ap (λ (x : List ℕ). front x l) (ap (take (length l)) starts ∙ take_all (length l) (starts_of set k) fits))
