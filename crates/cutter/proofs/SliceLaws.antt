-- The pass over a set's slices: what one slice does, and what the pass over all slices comes to. Assumes nothing.
use mathlib.Core.Path.{◌≡◌, refl, sym, ap, ap₂, ◌∙◌, subst}
use mathlib.Core.Bool.{Bool, true, false}
use mathlib.Core.List.{List, [], ◌∷◌}
use Prim.Native.Nat.{ℕ, ◌+◌, ◌-◌, ◌*◌, ◌≤◌, ◌<◌, min}
use native.Mathlib.Omega.{arith}
use lib.ListN.{length, take, drop, set, length-drop}
use lib.Seq.{take_all, length-take-le}
use Rattle.word.specs.Reply.{◌when◌, answer, refusal, reply}
use Rattle.word.proofs.TestLaws.{replied_answer}
use Rattle.numbers.proofs.PartLaws.{take_limit}
use Rattle.rows.specs.Row.{cell, row_bytes}
use Rattle.rows.specs.declared.Rows.{Rows}
use Rattle.register.specs.Circuit.{Circuit, circuit}
use Rattle.register.specs.declared.Register.{Register}
use Rattle.set_layout.specs.Layout.{circuit_of, mark_at}
use Rattle.set_layout.proofs.SliceLaws.{mark_rows_row}
use Rattle.set_file.specs.Reading.{TakenFrom}
use Rattle.set_file.specs.declared.Taken.{Taken}
use Rattle.set_file.proofs.Laws.{Accepted, accepted}
use Rattle.signatures.specs.Given.{Given, SameMarks}
use Rattle.signatures.specs.Sets.{given}
use Rattle.unclocking.specs.Unclocked.{earlier, EightBack}
use Rattle.slice_columns.specs.Frame.{eights, marked_earlier, NextFrom}
use Rattle.slice_columns.proofs.FrameLaws.{earlier_words}
use Rattle.cutter.specs.Cutting.{short_slice, starts_for}
use Rattle.column_basis.specs.Basis.{Held}
use Rattle.run_words.specs.Joining.{SlicePut}
use Rattle.run_words.specs.declared.Turn.{Turn}
use Rattle.cutter.specs.Turns.{Sound, seen, SlicedFor}
use Rattle.std.specs.Prelude.{Result, Ok, Err}
use Rattle.refusals.specs.declared.Refusal.{Refusal}
use Rattle.refusals.specs.declared.Refusal.TheVariants.{SliceShare}
use Rattle.cutter.proofs.FrameLaws.{framed, framed_words}
use Rattle.cutter.proofs.RunLaws.{CutTo, cut_starts, cut_turns, cut_short, cut_ends}
use Rattle.cutter.proofs.SameLaws.{same_starts, same_short, sound_set}

-- ---- the chains' words

pub earlier_words_none : (k : Circuit) (ws : List ℕ) → ws ≡ earlier_words k 0 ws
unfolding earlier
earlier_words_none k [] = refl
earlier_words_none k (w ∷ ws) = ap (λ (l : List ℕ). w ∷ l) (earlier_words_none k ws)

-- ---- the set that the pass is over

module _ (set : List ℕ) (k : Taken) (taken : TakenFrom set k) (rows : Rows)
    (e : (rows.at ≡ mark_at k.n 0) × (rows.stride ≡ 2 * row_bytes k.n) × (rows.bytes ≡ row_bytes k.n))
    (words : List ℕ) (chains slices : ℕ) (ew : (words ≡ k.spread) × (length words ≡ 256)) (ec : chains ≡ min k.n 256) (es : slices ≡ min k.s 512) where
  whole : Accepted set
  whole = accepted set taken.none

  own_chains : take chains words ≡ take k.n k.spread
  own_chains = take_limit words k.n chains (ec ∙ ap (min k.n) (sym ew.1)) ∙ ap (take k.n) ew.0

  own_circuit : (seen k.register (take chains words) slices set rows).wiring ≡ circuit_of set
  own_circuit = ap (circuit (min k.register.m 64) k.register.taps k.register.inversion) own_chains ∙ taken.circuit

  pub seen_sound : Sound (seen k.register (take chains words) slices set rows).wiring
  seen_sound = subst Sound (sym own_circuit) (sound_set set whole)

  pub seen_revised : SameMarks (seen k.register (take chains words) slices set rows) (given set)
  seen_revised = record {
    wiring = own_circuit;
    slices = omega (arith, taken.slices, whole.slices);
    marks = λ t c l d. ap (λ (row : List ℕ). cell row c) (mark_rows_row set k.n rows taken.chains e t);
  }

  -- what the pass comes to is the set's
  pub sliced_set : (κ : ℕ) (l : List ℕ) (r : Result ℕ Refusal) → SlicedFor (seen k.register (take chains words) slices set rows) κ l r → SlicedFor (given set) κ l r
  sliced_set κ l r so = record {
    reply =
        so.reply
        ∙ ap₂ (λ (b : Bool) (x : List ℕ). reply (27 when b ∷ []) (length x)) (same_short _ _ seen_revised κ) (same_starts _ _ seen_revised κ);
    starts = λ n h. so.starts n h ∙ same_starts _ _ seen_revised κ;
    few = so.few;
  }

-- ---- the ends of the pass

no_answer : (n : ℕ) → refusal 27 ≡ answer n → ⊥
no_answer n h = omega (arith, (replied_answer 27 0 n h).0)

pub sliced_short : (g : Given) (κ : ℕ) (l : List ℕ) → short_slice g κ ≡ true → SlicedFor g κ l (Err SliceShare)
sliced_short g κ l short = record {
  reply = sym (rw short refl);
  starts = λ n h. absurd (no_answer n h);
  few = λ n h. absurd (no_answer n h);
}

pub sliced_all : (g : Given) → Sound g.wiring → (κ t runs : ℕ) (h l : List ℕ) → 1 ≤ κ → t ≡ g.slices → runs ≤ 512 → length l ≡ 512
    → CutTo g κ t runs h l → SlicedFor g κ l (Ok runs)
sliced_all g sound κ t runs h l some et few long so_far =
    let ends = cut_ends g sound κ some t runs h l et so_far in
    let none : short_slice g κ ≡ false = ends.0 in
    let count : runs ≡ length (starts_for g κ) = sym (length-take-le runs l (omega arith)) ∙ ap length ends.1 in
    record {
      reply = ap answer count ∙ sym (rw none refl);
      starts = λ n h. ap (λ (i : ℕ). take i l) (replied_answer 0 runs n h).1 ∙ ends.1;
      few = λ n h. omega (arith, (replied_answer 0 runs n h).1);
    }

-- ---- one slice of the pass

-- what is known after t slices, with the basis beside the words that the last run leaves
pub record CutHeld (g : Given) (k t runs : ℕ) (basis : List ℕ) (dead : ℕ) (l : List ℕ) : Type 0 where
  pub words : List ℕ
  pub hold : Held words basis dead
  pub cut : CutTo g k t runs words l

pub held_starts : (g : Given) → Sound g.wiring → (k : ℕ) → 1 ≤ k → (basis : List ℕ) (dead : ℕ) (l : List ℕ) → Held [] basis dead → CutHeld g k 0 0 basis dead l
held_starts g sound k some basis dead l h = record { words = []; hold = h; cut = cut_starts g sound k some [] l refl }

pub held_all : (g : Given) → Sound g.wiring → (κ t runs : ℕ) (basis : List ℕ) (dead : ℕ) (l : List ℕ) → 1 ≤ κ → t ≡ g.slices → runs ≤ 512 → length l ≡ 512
    → CutHeld g κ t runs basis dead l → SlicedFor g κ l (Ok runs)
held_all g sound κ t runs basis dead l some et few long so_far = sliced_all g sound κ t runs so_far.words l some et few long so_far.cut

-- what one slice of the pass does with the chains' words, which become ws', the words that the run so far leaves, beside which the basis stands
-- before and after, and the first slices l of the runs so far
pub record SlicePassed (g : Given) (table : List ℕ) (k t runs : ℕ) (ws' basis : List ℕ) (dead : ℕ) (basis' : List ℕ) (dead' : ℕ) (l : List ℕ) (turn : Turn) : Type 0 where
  pub words : EightBack g.wiring table → ws' ≡ earlier_words g.wiring (eights (t + 1)) g.wiring.spread
  pub short : Sound g.wiring → EightBack g.wiring table → 1 ≤ k → CutHeld g k t runs basis dead l → turn.left < k → SlicedFor g k l (Err SliceShare)
  pub next : Sound g.wiring → EightBack g.wiring table → 1 ≤ k → CutHeld g k t runs basis dead l → k ≤ turn.left
      → CutHeld g k (t + 1) (runs + turn.opened) basis' dead' (set l runs t)

-- .. by what its two calls promise: the columns stand behind place p of a list of 256, and have been put to the words
module _ (r : Register) (table list : List ℕ) (rows : Rows) (s k t runs w p : ℕ) (ws₀ ws ws' cs cs' basis : List ℕ) (dead : ℕ) (basis' : List ℕ) (dead' : ℕ) (l : List ℕ) (turn : Turn)
    (next : NextFrom r table list rows t ws ws' cs cs' p)
    (put : (h : List ℕ) → Held h basis dead → SlicePut (take (256 - p) (drop p cs')) w k h basis' dead' turn)
    (so_far : EightBack (seen r ws₀ s list rows).wiring table → ws ≡ earlier_words (seen r ws₀ s list rows).wiring (eights t) ws₀) (inside : t < s)
    (room : runs < length l) (fits : length ws ≤ length cs) (long : length cs' ≡ 256) (width : w ≡ min r.m 64) where
  abbrev g : Given
  g = seen r ws₀ s list rows

  abbrev here : List ℕ
  here = take (256 - p) (drop p cs')

  both : EightBack g.wiring table → (drop p cs' ≡ marked_earlier g.wiring t (g.marks t)) × (ws' ≡ earlier_words g.wiring (eights (t + 1)) ws₀)
  both right = next.frame r.inversion ws₀ right fits (so_far right)

  columns : EightBack g.wiring table → take (256 - p) (drop p cs') ≡ framed g t
  columns right = take_all (256 - p) (drop p cs') (omega (arith, length-drop p cs')) ∙ (both right).0 ∙ sym (framed_words g t)

  pub slice_passed : SlicePassed g table k t runs ws' basis dead basis' dead' l turn
  slice_passed = record {
    words = λ right. (both right).1;
    short = λ sound right some before few.
        (let done = put before.words before.hold in
        sliced_short g k l (cut_short g sound k some t runs w before.words l done.words here turn inside room (columns right) width done.turn few));
    next = λ sound right some before enough.
        (let done = put before.words before.hold in
        record {
          words = done.words;
          hold = done.hold;
          cut = cut_turns g sound k some t runs w before.words l done.words here turn inside room (columns right) width done.turn before.cut enough;
        });
  }
