-- What the cutting promises of its reply. Crates above cite these.
--
--   same_starts_of    sets with the same register, chains, slice count and marks are cut at the same slices, whatever their values and ties
--   same_cut_reply    .. so where both meet none of the set's numbers the whole reply is the same. Document 02, No. 5: "once the set is
--                     taken no cell's value bears on the answer"
--   same_cuts_after   .. and the cut list
--   run_of            where no slice alone leaves fewer than k words, the longest run from each slice is as promised
--   each_run          .. so each run that is listed has at least one slice and leaves at least k words, and none that begins there and ends
--                     later does ("Every run is the longest that does so from its start")
--   cut_none          where the call answers, none of the set's numbers applies, 26 doesn't, and no slice alone leaves fewer than k words
--   cut_parts         .. its answer is that of the definition
--   cut_run           .. and each slice that it lists begins such a run
--   longest_first     the greatest end that still leaves k words is the last before the first that doesn't, since the clock loses no state
-- Assumes nothing.
use mathlib.Core.Path.{◌≡◌, refl, sym, ap, ap₂, ◌∙◌}
use mathlib.Core.Bool.{Bool, true, false, cond}
use mathlib.Core.Logic.{⊎_elim}
use mathlib.Core.List.{List}
use Prim.Native.Nat.{ℕ, zero, suc, ◌*◌, ◌≤◌, ◌<◌}
use native.Mathlib.Omega.{arith}
use borrow.Author.Tests.{le-leb, leb-true, leb-false, ltb-true, ltb-false, eqb-true}
use lib.Dec.{eqb, leb, ltb}
use lib.ListN.{length}
use Rattle.word.specs.Some.{any_of}
use Rattle.word.specs.Reply.{Reply, answer, replied, first_of, lent}
use Rattle.word.proofs.SomeLaws.{any_below_false}
use Rattle.word.proofs.BoolLaws.{or_cases, true_not_false}
use Rattle.word.proofs.TestLaws.{none_and_rest, first_of_none, first_of_later, replied_answer}
use Rattle.combinations.specs.Combination.{member}
use Rattle.register.specs.Circuit.{Circuit}
use Rattle.set_layout.specs.Layout.{width_of}
use Rattle.set_file.specs.Reading.{set_tests}
use Rattle.set_file.proofs.Laws.{set_numbered}
use Rattle.signatures.specs.Given.{Given, SameMarks}
use Rattle.signatures.specs.Sets.{given}
use Rattle.cutter.specs.Cutting.{bad_share, words_left, leaves, longest_end, starts_from, starts_for, short_slice, RunOf, starts_of, CutParts, cut_parts_of, cut_tests, cut_reply, cuts_after}
use Rattle.cutter.specs.Turns.{Sound}
use Rattle.cutter.proofs.GreatestLaws.{GreatestOf, greatest_of}
use Rattle.cutter.proofs.RunLaws.{longest_at}
use Rattle.cutter.proofs.SameLaws.{same_starts, same_short}

-- ---- no cell's value bears on the answer, and no tie. Document 02, No. 7: "The cutter goes on with every cell free"

module _ (old new : List ℕ) (r : SameMarks (given old) (given new)) where
  width : width_of old ≡ width_of new
  width = ap (λ (k : Circuit). k.width) r.wiring

  pub same_starts_of : (k : ℕ) → starts_of old k ≡ starts_of new k
  unfolding starts_of
  same_starts_of k = same_starts (given old) (given new) r k

  module _ (ho : first_of (set_tests old) ≡ 0) (hn : first_of (set_tests new) ≡ 0) (k : ℕ) where
    same_number : (room : ℕ) → first_of (cut_tests old k room) ≡ first_of (cut_tests new k room)
    unfolding cut_tests
    same_number room =
        first_of_later (set_tests old) _ (set_numbered old) ho
        ∙ ap₂ (λ (x : Bool) (n : ℕ). cond x 26 n) (ap (λ (m : ℕ). bad_share m k) width)
        (ap₂ (λ (x : Bool) (l : List ℕ). cond x 27 (cond (ltb room (length l)) 28 0)) (same_short (given old) (given new) r k) (same_starts_of k))
        ∙ sym (first_of_later (set_tests new) _ (set_numbered new) hn)

    pub same_cut_reply : (room : ℕ) → cut_reply old k room ≡ cut_reply new k room
    unfolding cut_reply
    same_cut_reply room =
        ap₂ (λ (n : ℕ) (p : CutParts). replied n p) (same_number room)
        (ap₂ (λ (m : ℕ) (l : List ℕ). record { runs = length l; bits = m * k * length l }) width (same_starts_of k))

    pub same_cuts_after : (l : List ℕ) → cuts_after old k l ≡ cuts_after new k l
    same_cuts_after l = ap₂ (λ (p : Reply CutParts) (vs : List ℕ). lent p vs l) (same_cut_reply (length l)) (same_starts_of k)

-- ---- each run

pub run_of : (g : Given) (k a : ℕ) → short_slice g k ≡ false → a < g.slices → RunOf g k a
unfolding longest_end leaves short_slice
run_of g k a long h =
    let slice : k ≤ words_left g a (suc a) = ltb-false (words_left g a (suc a)) k (any_below_false g.slices _ long a h) in
    let end : GreatestOf g.slices (suc a) (λ b. leb k (words_left g a b)) = greatest_of g.slices (suc a) (λ b. leb k (words_left g a b)) h (le-leb k (words_left g a (suc a)) slice) in
    record {
      inside = h;
      some = end.least;
      within = end.most;
      enough = leb-true k _ end.holds;
      longest = λ b x y. leb-false k (words_left g a b) (end.last b x y);
    }

-- a listed slice is one of the response's
started : (g : Given) (k j a x : ℕ) → member x (starts_from g k j a) ≡ true → x < g.slices
unfolding starts_from any_of
started g k zero a x h = absurd (true_not_false false h refl)
started g k (suc j) a x h = go (started g k j (longest_end g k a) x) (ltb a g.slices) refl
  where
    go : (member x (starts_from g k j (longest_end g k a)) ≡ true → x < g.slices) → (b : Bool) → ltb a g.slices ≡ b → x < g.slices
    go later true q =
        ⊎_elim (λ (e : eqb x a ≡ true). let same : x ≡ a = eqb-true x a e in omega (arith, ltb-true a g.slices q)) later
        (or_cases (eqb x a) (member x (starts_from g k j (longest_end g k a))) (rw q at h))
    go later false q = absurd (true_not_false false (rw q at h) refl)

pub each_run : (g : Given) (k a : ℕ) → short_slice g k ≡ false → member a (starts_for g k) ≡ true → RunOf g k a
unfolding starts_for
each_run g k a long h = run_of g k a long (started g k g.slices 0 a h)

-- an answer says that none of the numbers applies
none : (set : List ℕ) (k room : ℕ) → first_of (cut_tests set k room) ≡ 0
    → (first_of (set_tests set) ≡ 0) × ((bad_share (width_of set) k ≡ false) × (short_slice (given set) k ≡ false))
unfolding cut_tests
none set k room h =
    let taken : first_of (set_tests set) ≡ 0 = first_of_none (set_tests set) _ h in
    let rest = sym (first_of_later (set_tests set) _ (set_numbered set) taken) ∙ h in
    let p26 = none_and_rest (bad_share (width_of set) k) 25 _ rest in
    let p27 = none_and_rest (short_slice (given set) k) 26 _ p26.1 in
    (taken, (p26.0, p27.0))

module _ (set : List ℕ) (k room : ℕ) (p : CutParts) (h : cut_reply set k room ≡ answer p) where
  pub cut_none : (first_of (set_tests set) ≡ 0) × ((bad_share (width_of set) k ≡ false) × (short_slice (given set) k ≡ false))
  unfolding cut_reply
  cut_none = none set k room (replied_answer (first_of (cut_tests set k room)) (cut_parts_of set k) p h).0

  pub cut_parts : p ≡ cut_parts_of set k
  unfolding cut_reply
  cut_parts = (replied_answer (first_of (cut_tests set k room)) (cut_parts_of set k) p h).1

  pub cut_run : (a : ℕ) → member a (starts_of set k) ≡ true → RunOf (given set) k a
  unfolding starts_of
  cut_run a listed = each_run (given set) k a cut_none.1.1 listed

-- ---- the greatest end, and the first failure

pub longest_first : (g : Given) → Sound g.wiring → (k a e : ℕ) → a ≤ e → e ≤ g.slices → k ≤ words_left g a e → (e < g.slices → words_left g a (suc e) < k)
    → longest_end g k a ≡ e
longest_first g sound k a e = longest_at g sound k a e
