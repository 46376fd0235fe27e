-- The set writer's file: how long it is, its parts written one after the other, and each way out of the call. Assumes nothing.
use mathlib.Core.Path.{◌≡◌, refl, sym, ap, ap₂, ◌∙◌}
use mathlib.Core.Bool.{false}
use mathlib.Core.List.{List, ◌++◌}
use Prim.Native.Nat.{ℕ, ◌+◌, ◌*◌, ◌<◌}
use native.Mathlib.Omega.{arith}
use lib.ListN.{length, length-append}
use lib.Seq.{sets}
use Rattle.std.specs.Prelude.{Result, Ok, Err}
use Rattle.word.specs.Reply.{answer, first_of, front}
use Rattle.word.proofs.ReplyLaws.{replied_answered, Leaves}
use Rattle.refusals.specs.declared.Refusal.{Refusal}
use Rattle.refusals.specs.Refusals.{number}
use Rattle.refusals.proofs.RefusalLaws.{refused_call_leaves, answered_call_writes}
use Rattle.numbers.specs.Bytes.{bytes_of, word_bytes}
use Rattle.numbers.specs.Joined.{joined}
use Rattle.numbers.proofs.ByteLaws.{bytes_of_length, length_word_bytes}
use Rattle.numbers.proofs.FileLaws.{sets_parts, front_sets}
use Rattle.rows.specs.Row.{row_bytes}
use Rattle.set_layout.specs.Layout.{taps_at, inversion_at, chains_at, spread_at, slices_at, head_length, rows_at, tie_count_at, ties_at, set_length}
use Rattle.set_content.specs.Content.{SetContent, content_chains, content_count, bad_rows, bad_entries, set_write_tests}
use Rattle.set_content.proofs.ContentLaws.{Writable, writable, chains_small, values_length, marks_length, ties_length, ties_few}
use Rattle.set_writer.specs.Writing.{head_bytes, slice_bytes, set_bytes, set_write_reply, said_set_written}
use Rattle.set_writer.proofs.WriteLaws.{slices_length}

-- ---- how long the file is

module _ (m taps inversion : ℕ) (ws : List ℕ) (s : ℕ) where
  pub head_length_lem : length (head_bytes m taps inversion ws s) ≡ head_length (length ws)
  unfolding head_bytes
  head_length_lem =
      simp length-append
      (omega
      (arith, bytes_of_length 2 m, bytes_of_length 8 taps, bytes_of_length 8 inversion, bytes_of_length 2 (length ws), length_word_bytes ws, bytes_of_length 2 s))

module _ (k : SetContent) (rows : bad_rows k ≡ false) where
  -- the place behind the slices
  pub slices_end : length (head_bytes k.m k.taps k.inversion k.spread k.s ++ joined (slice_bytes (content_chains k) k.values k.marks) k.s)
      ≡ tie_count_at (content_chains k) k.s
  slices_end =
      length-append (head_bytes k.m k.taps k.inversion k.spread k.s) (joined (slice_bytes (content_chains k) k.values k.marks) k.s)
      ∙ omega (
        arith,
        head_length_lem k.m k.taps k.inversion k.spread k.s,
        slices_length (content_chains k) k.values k.marks k.s (omega (arith, values_length k rows)) (omega (arith, marks_length k rows)),
      )

  module _ (entries : bad_entries k ≡ false) where
    pub set_bytes_length : length (set_bytes k) ≡ set_length (content_chains k) k.s (content_count k)
    unfolding set_bytes
    set_bytes_length =
        simp length-append (omega (
          arith,
          head_length_lem k.m k.taps k.inversion k.spread k.s,
          slices_length (content_chains k) k.values k.marks k.s (omega (arith, values_length k rows)) (omega (arith, marks_length k rows)),
          bytes_of_length 2 (content_count k),
          ties_length k entries,
        ))

pub write_answers : (k : SetContent) (room : ℕ) → first_of (set_write_tests k room) ≡ 0
    → set_write_reply k room ≡ answer (set_length (content_chains k) k.s (content_count k))
unfolding set_write_reply
write_answers k room h = replied_answered (first_of (set_write_tests k room)) (set_length (content_chains k) k.s (content_count k)) h

-- ---- the bytes before the rows

module _ (m taps inversion : ℕ) (ws : List ℕ) (s : ℕ) where
  pub head_written : (n : ℕ) (l l₁ l₂ lᵢ l₃ l₄ l₅ : List ℕ) → l₁ ≡ sets l 0 (bytes_of 2 m) → l₂ ≡ sets l₁ taps_at (bytes_of 8 taps)
      → lᵢ ≡ sets l₂ inversion_at (bytes_of 8 inversion) → l₃ ≡ sets lᵢ chains_at (bytes_of 2 (length ws)) → l₄ ≡ sets l₃ spread_at (word_bytes ws)
      → n ≡ slices_at (length ws) → l₅ ≡ sets l₄ n (bytes_of 2 s) → l₅ ≡ sets l 0 (head_bytes m taps inversion ws s)
  unfolding head_bytes
  head_written n l l₁ l₂ lᵢ l₃ l₄ l₅ e₁ e₂ eᵢ e₃ e₄ en e₅ =
      let a = bytes_of 2 m in
      let b = bytes_of 8 taps in
      let i = bytes_of 8 inversion in
      let c = bytes_of 2 (length ws) in
      let d = word_bytes ws in
      let e = bytes_of 2 s in
      let at = slices_at (length ws) in
      let p₁ : 0 + length a ≡ taps_at = omega (arith, bytes_of_length 2 m) in
      let p₂ : taps_at + length b ≡ inversion_at = omega (arith, bytes_of_length 8 taps) in
      let pᵢ : inversion_at + length i ≡ chains_at = omega (arith, bytes_of_length 8 inversion) in
      let p₃ : chains_at + length c ≡ spread_at = omega (arith, bytes_of_length 2 (length ws)) in
      let p₄ : spread_at + length d ≡ at = ap (λ (x : ℕ). spread_at + x) (length_word_bytes ws) in
      e₅ ∙ ap₂ (λ (x : List ℕ) (j : ℕ). sets x j e) e₄ en ∙ sym (sets_parts d e l₃ spread_at at p₄)
      ∙ ap (λ (x : List ℕ). sets x spread_at (d ++ e)) e₃ ∙ sym (sets_parts c (d ++ e) lᵢ chains_at spread_at p₃)
      ∙ ap (λ (x : List ℕ). sets x chains_at (c ++ (d ++ e))) eᵢ ∙ sym (sets_parts i (c ++ (d ++ e)) l₂ inversion_at chains_at pᵢ)
      ∙ ap (λ (x : List ℕ). sets x inversion_at (i ++ (c ++ (d ++ e)))) e₂
      ∙ sym (sets_parts b (i ++ (c ++ (d ++ e))) l₁ taps_at inversion_at p₂)
      ∙ ap (λ (x : List ℕ). sets x taps_at (b ++ (i ++ (c ++ (d ++ e))))) e₁
      ∙ sym (sets_parts a (b ++ (i ++ (c ++ (d ++ e)))) l 0 taps_at p₁)

-- ---- the ties

pub ties_written : (n s at to k : ℕ) (e l l₁ l₂ : List ℕ) → at ≡ tie_count_at n s → l₁ ≡ sets l at (bytes_of 2 k) → to ≡ ties_at n s → l₂ ≡ sets l₁ to e
    → l₂ ≡ sets l (tie_count_at n s) (bytes_of 2 k ++ e)
ties_written n s at to k e l l₁ l₂ ea e₁ et e₂ =
    e₂
    ∙ ap₂ (λ (x : List ℕ) (i : ℕ). sets x i e) (e₁ ∙ ap (λ (i : ℕ). sets l i (bytes_of 2 k)) ea) et
    ∙ sym (sets_parts (bytes_of 2 k) e l (tie_count_at n s) (ties_at n s) (ap (λ (x : ℕ). tie_count_at n s + x) (bytes_of_length 2 k)))

-- the head, then the rows, and then the ties are the file
file_written : (k : SetContent) (l l₁ l₂ l₃ : List ℕ) → Writable k (length l) → l₁ ≡ sets l 0 (head_bytes k.m k.taps k.inversion k.spread k.s)
    → l₂ ≡ sets l₁ (rows_at (content_chains k)) (joined (slice_bytes (content_chains k) k.values k.marks) k.s)
    → l₃ ≡ sets l₂ (tie_count_at (content_chains k) k.s) (bytes_of 2 (content_count k) ++ k.ties)
    → l₃ ≡ front (set_bytes k) l
unfolding set_bytes
file_written k l l₁ l₂ l₃ w e₁ e₂ e₃ =
    let head = head_bytes k.m k.taps k.inversion k.spread k.s in
    let slices = joined (slice_bytes (content_chains k) k.values k.marks) k.s in
    let tied = bytes_of 2 (content_count k) ++ k.ties in
    let rows : l₂ ≡ sets l 0 (head ++ slices) =
    e₂
    ∙ ap (λ (x : List ℕ). sets x (rows_at (content_chains k)) slices) e₁
    ∙ sym (sets_parts head slices l 0 (rows_at (content_chains k)) (omega (arith, head_length_lem k.m k.taps k.inversion k.spread k.s)))
    in
    e₃
    ∙ ap (λ (x : List ℕ). sets x (tie_count_at (content_chains k) k.s) tied) rows
    ∙ sym (sets_parts (head ++ slices) tied l 0 (tie_count_at (content_chains k) k.s) (omega (arith, slices_end k w.rows)))
    ∙ front_sets (set_bytes k) l (omega (arith, set_bytes_length k w.rows w.entries, w.fits))

-- ---- the two ways out of the call

-- what the call answers, r, and leaves in the output l, l'
abbrev pub Writes : SetContent → List ℕ → Result ℕ Refusal → List ℕ → Type 0
Writes k l r l' = Leaves (set_write_reply k (length l)) (set_bytes k) (said_set_written r) l l'

pub writes_refused : (k : SetContent) (l : List ℕ) (r : Result ℕ Refusal) (e : Refusal) → r ≡ Err e → number e ≡ first_of (set_write_tests k (length l))
    → Writes k l r l
unfolding set_write_reply
writes_refused k l r e is h =
    refused_call_leaves (λ n. n) r e (first_of (set_write_tests k (length l))) (set_length (content_chains k) k.s (content_count k)) (set_bytes k) l is h

module _ (k : SetContent) (l : List ℕ) (none : 0 ≡ first_of (set_write_tests k (length l))) where
  written : Writable k (length l)
  written = writable k (length l) (sym none)

  pub written_chains : content_chains k < 65536
  written_chains = chains_small (content_chains k) false (sym written.chains) refl

  pub written_slices : k.s < 65536
  written_slices = omega (arith, written.slices)

  pub written_count : content_count k < 65536
  written_count = omega (arith, ties_few k written.entries)

  pub writes_done : (c : ℕ) (l₁ l₂ l₃ : List ℕ) → c ≡ set_length (content_chains k) k.s (content_count k)
      → l₁ ≡ sets l 0 (head_bytes k.m k.taps k.inversion k.spread k.s)
      → (length k.values ≡ row_bytes (content_chains k) * k.s → length k.marks ≡ row_bytes (content_chains k) * k.s
      → l₂ ≡ sets l₁ (rows_at (content_chains k)) (joined (slice_bytes (content_chains k) k.values k.marks) k.s))
      → l₃ ≡ sets l₂ (tie_count_at (content_chains k) k.s) (bytes_of 2 (content_count k) ++ k.ties)
      → Writes k l (Ok c) l₃
  unfolding set_write_reply
  writes_done c l₁ l₂ l₃ ec e₁ e₂ e₃ =
      answered_call_writes (first_of (set_write_tests k (length l))) (set_length (content_chains k) k.s (content_count k)) c (set_bytes k) l l₃ none ec
      (file_written k l l₁ l₂ l₃ written e₁ (e₂ (values_length k written.rows) (marks_length k written.rows)) e₃)
