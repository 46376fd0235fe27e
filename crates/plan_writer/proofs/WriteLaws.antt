-- The plan file as it is written, part after part, and each way out of the plan writer. Assumes nothing.
use mathlib.Core.Path.{◌≡◌, sym, ap, ap₂, ◌∙◌}
use mathlib.Core.Bool.{true, false, not}
use mathlib.Core.List.{List, ◌++◌, append_assoc}
use Prim.Native.Nat.{ℕ, suc, ◌+◌, ◌-◌, ◌*◌, ◌/◌, ◌%◌, ◌<◌, ◌≤◌}
use native.Mathlib.Omega.{arith}
use borrow.Author.Tests.{ltb-false, lt-ltb, le-ltb}
use lib.Dec.{ltb}
use lib.ListN.{length, take, drop, set, length-append, length-drop}
use lib.Seq.{sets, length-sets, sets-eq, drop-drop, length-take-le}
use Rattle.word.specs.Word.{bad_width, beyond}
use Rattle.numbers.specs.Bytes.{bytes_of, word_bytes}
use Rattle.word.specs.Reply.{answer, replied, first_of, front}
use Rattle.numbers.proofs.ByteLaws.{bytes_of_length, length_word_bytes}
use Rattle.numbers.proofs.FileLaws.{sets_parts, front_sets}
use Rattle.word.proofs.FrontLaws.{front_all}
use Rattle.word.proofs.ReplyLaws.{none_applies, Leaves, answer_leaves}
use Rattle.combinations.specs.Reduced.{is_reduced}
use Rattle.reduced_list.specs.WordCount.{bad_word_count}
use Rattle.plan_file.specs.Layout.{plan_length}
use Rattle.plan_writer.specs.Writing.{PlanContent, plan_content, word_count, plan_bytes, plan_write_tests, plan_write_reply, said}
use Rattle.std.specs.Prelude.{Result, Ok, Err}
use Rattle.refusals.specs.declared.Refusal.{Refusal}
use Rattle.refusals.specs.Refusals.{number}
use Rattle.refusals.proofs.RefusalLaws.{refused_call_leaves}

-- ---- the low bytes of a word: those still to be written stand in `rest`

pub bytes_start : (l : List ℕ) (n x : ℕ) → sets l 0 (bytes_of (n - 0) x) ≡ sets l 0 (bytes_of n x)
bytes_start l n x =
    let same : n - 0 ≡ n = omega arith in
    ap (λ (k : ℕ). sets l 0 (bytes_of k x)) same

pub bytes_turn : (l l₀ : List ℕ) (n i x rest : ℕ) → i < n → sets l i (bytes_of (n - i) rest) ≡ sets l₀ 0 (bytes_of n x)
    → sets (set l i (rest % 256)) (i + 1) (bytes_of (n - (i + 1)) (rest / 256)) ≡ sets l₀ 0 (bytes_of n x)
unfolding bytes_of
bytes_turn l l₀ n i x rest h e =
    let left : suc (n - (i + 1)) ≡ n - i = omega arith in
    let place : suc i ≡ i + 1 = omega arith in
    ap (λ (k : ℕ). sets (set l i (rest % 256)) k (bytes_of (n - (i + 1)) (rest / 256))) (sym place)
    ∙ ap (λ (k : ℕ). sets l i (bytes_of k rest)) left ∙ e

-- the part of `out` that they are written to is n long
pub part_long : (out : List ℕ) (at n : ℕ) → at + n ≤ length out → length (take (at + n - at) (drop at out)) ≡ n
part_long out at n h =
    let rest : at + n - at ≤ length (drop at out) = omega (arith, length-drop at out) in
    length-take-le (at + n - at) (drop at out) rest ∙ omega arith

-- .. and l is that part after the last of them
pub bytes_end : (out l : List ℕ) (at n i x rest : ℕ) → at + n ≤ length out → n ≤ i
    → sets l i (bytes_of (n - i) rest) ≡ sets (take (at + n - at) (drop at out)) 0 (bytes_of n x)
    → take at out ++ (l ++ drop (at + n - at) (drop at out)) ≡ sets out at (bytes_of n x)
unfolding bytes_of
bytes_end out l at n i x rest room h e =
    let none : n - i ≡ 0 = omega arith in
    let long = bytes_of_length n x in
    let part = take (at + n - at) (drop at out) in
    let fits : length (bytes_of n x) ≤ length part = omega (arith, part_long out at n room, long) in
    let whole : l ≡ bytes_of n x =
    sym (ap (λ (k : ℕ). sets l i (bytes_of k rest)) none) ∙ e ∙ front_sets (bytes_of n x) part fits
    ∙ front_all (bytes_of n x) part (long ∙ sym (part_long out at n room))
    in
    let behind : drop (at + n - at) (drop at out) ≡ drop (at + length (bytes_of n x)) out =
    drop-drop (at + n - at) at out ∙ ap (λ (k : ℕ). drop k out) (omega (arith, long))
    in
    ap₂ (λ (a b : List ℕ). take at out ++ (a ++ b)) whole behind
    ∙ sym (append_assoc (take at out) (bytes_of n x) (drop (at + length (bytes_of n x)) out))
    ∙ sym (sets-eq (bytes_of n x) out at (omega (arith, long)))

-- ---- the file

pub length_plan_bytes : (k : PlanContent) → length (plan_bytes k) ≡ plan_length (word_count k)
unfolding plan_bytes
length_plan_bytes k =
    simp (length-append, bytes_of_length, length_word_bytes) (omega arith)

written_file : (m : ℕ) (ws : List ℕ) (e : ℕ) (l : List ℕ)
    → sets l 0 (plan_bytes (plan_content m ws e))
    ≡ sets (sets (sets (sets (sets l 0 (bytes_of 2 m)) 2 (bytes_of 2 (length ws))) 4 (word_bytes ws)) (4 + 8 * length ws) (bytes_of 2 (length ws))) (6 + 8 * length ws) (bytes_of ((length ws + 7) / 8) e)
unfolding plan_bytes
written_file m ws e l =
    let q = length ws in
    let bits = bytes_of ((q + 7) / 8) e in
    sets_parts (bytes_of 2 m) _ l 0 2 (omega (arith, bytes_of_length 2 m))
    ∙ sets_parts (bytes_of 2 q) _ _ 2 4 (omega (arith, bytes_of_length 2 q))
    ∙ sets_parts (word_bytes ws) _ _ 4 (4 + 8 * q) (omega (arith, length_word_bytes ws))
    ∙ sets_parts (bytes_of 2 q) bits _ (4 + 8 * q) (6 + 8 * q) (omega (arith, bytes_of_length 2 q))

same_long : (l l' vs : List ℕ) (i : ℕ) → l' ≡ sets l i vs → length l' ≡ length l
same_long l l' vs i e = ap length e ∙ length-sets l i vs

-- the parts one after the other, up to the second count
module _ (m : ℕ) (ws l l1 l2 l3 l4 : List ℕ) (e1 : l1 ≡ sets l 0 (bytes_of 2 m)) (e2 : l2 ≡ sets l1 2 (bytes_of 2 (length ws)))
    (e3 : l3 ≡ sets l2 4 (word_bytes ws)) (e4 : l4 ≡ sets l3 (4 + 8 * length ws) (bytes_of 2 (length ws))) where
  -- there is room for the bits behind them
  pub bits_room : plan_length (length ws) ≤ length l → 6 + 8 * length ws + (length ws + 7) / 8 ≤ length l4
  bits_room h =
      let long : length l4 ≡ length l =
      same_long l3 l4 (bytes_of 2 (length ws)) (4 + 8 * length ws) e4 ∙ same_long l2 l3 (word_bytes ws) 4 e3
      ∙ same_long l1 l2 (bytes_of 2 (length ws)) 2 e2 ∙ same_long l l1 (bytes_of 2 m) 0 e1
      in
      omega arith

  -- .. and with these the file is whole
  pub parts_written : (e : ℕ) (l5 : List ℕ) → l5 ≡ sets l4 (6 + 8 * length ws) (bytes_of ((length ws + 7) / 8) e)
      → plan_length (length ws) ≤ length l → l5 ≡ front (plan_bytes (plan_content m ws e)) l
  parts_written e l5 last h =
      let whole : l5 ≡ sets l 0 (plan_bytes (plan_content m ws e)) = cc (written_file m ws e l) in
      whole ∙ front_sets (plan_bytes (plan_content m ws e)) l (omega (arith, length_plan_bytes (plan_content m ws e)))

-- ---- the writer's numbers

pub room_short : (room x p : ℕ) → x ≡ p → room < x → ltb room p ≡ true
room_short room x p e h = lt-ltb room p (omega arith)

pub room_enough : (room x p : ℕ) → x ≡ p → x ≤ room → ltb room p ≡ false
room_enough room x p e h = le-ltb room p (omega arith)

-- none of the writer's tests applies
pub record NoneApplies (k : PlanContent) (room : ℕ) : Type 0 where
  pub width : bad_width k.m ≡ false
  pub count : bad_word_count k.m (word_count k) ≡ false
  pub words : not (is_reduced k.m k.words) ≡ false
  pub bits : beyond (word_count k) k.expected ≡ false
  pub room_left : ltb room (plan_length (word_count k)) ≡ false

pub none_of_write : (k : PlanContent) (room : ℕ) → first_of (plan_write_tests k room) ≡ 0 → NoneApplies k room
unfolding plan_write_tests
none_of_write k room h =
    let a = none_applies (bad_width k.m) 18 _ h in
    let h1 = rw a at h in
    let b = none_applies (bad_word_count k.m (word_count k)) 19 _ h1 in
    let h2 = rw b at h1 in
    let c = none_applies (not (is_reduced k.m k.words)) 20 _ h2 in
    let h3 = rw c at h2 in
    let d = none_applies (beyond (word_count k) k.expected) 21 _ h3 in
    let h4 = rw d at h3 in
    record { width = a; count = b; words = c; bits = d; room_left = none_applies (ltb room (plan_length (word_count k))) 23 _ h4 }

-- where the writer meets no number, the output has room
pub write_room : (k : PlanContent) (room : ℕ) → 0 ≡ first_of (plan_write_tests k room) → plan_length (word_count k) ≤ room
write_room k room h = ltb-false room (plan_length (word_count k)) (none_of_write k room (sym h)).room_left

-- ---- the writer's ways out

-- what the writer answers, a, and leaves in the output l, l'
abbrev pub Ends : PlanContent → List ℕ → Result ℕ Refusal → List ℕ → Type 0
Ends k l a l' = Leaves (plan_write_reply k (length l)) (plan_bytes k) (said a) l l'

done_reply : (k : PlanContent) (room : ℕ) → first_of (plan_write_tests k room) ≡ 0 → plan_write_reply k room ≡ answer (plan_length (word_count k))
unfolding plan_write_reply
done_reply k room h = ap (λ (x : ℕ). replied x (plan_length (word_count k))) h

pub ends_refused : (k : PlanContent) (l : List ℕ) (r : Result ℕ Refusal) (e : Refusal) → r ≡ Err e → number e ≡ first_of (plan_write_tests k (length l)) → Ends k l r l
unfolding plan_write_reply
ends_refused k l r e is h =
    refused_call_leaves (λ n. n) r e (first_of (plan_write_tests k (length l))) (plan_length (word_count k)) (plan_bytes k) l is h

pub ends_written : (k : PlanContent) (l l' : List ℕ) (long : ℕ) → 0 ≡ first_of (plan_write_tests k (length l))
    → l' ≡ front (plan_bytes k) l → long ≡ plan_length (word_count k) → Ends k l (Ok long) l'
ends_written k l l' long none w f =
    answer_leaves _ _ _ (plan_bytes k) l l' (done_reply k (length l) (sym none)) (ap answer f) w
