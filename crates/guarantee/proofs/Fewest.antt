-- The cheapest cutting. Document 02, No. 6: "Show that no cutting of the slices into runs, each leaving at least k words, has fewer runs, and
-- that 27 is given only where no cutting exists." A cutting is any division of the slices into runs that leave at least k words each
-- (specs/Cuttings.antt is_cutting), whether its runs could be longer or not. Over the reply of the call, and its cut list at exit:
--
--   cut_cutting      where the call answers, the runs that begin at the slices it lists are a cutting
--   cut_fewest       .. no cutting has fewer runs
--   cut_bill         .. the control bits are m × k × runs
--   cut_cheapest     .. which are the fewest of all cuttings
--   cut_overlap      .. and runs that may overlap, none of which begins behind the end of the one before it, are no fewer either
--   cut_27_only      27 is given only where no cutting exists
--   cut_27_always    .. and always then, if none of the set's numbers applies and 26 doesn't, however long the cut list is
--
-- Beside them, for cuttings given by their first slices:
--
--   firsts_give      any division is given by the first slices of its runs
--   runs_count       a list of first slices gives as many runs as it has slices
-- Assumes nothing.
use mathlib.Core.Path.{◌≡◌, refl, sym, ap, ap₂, ◌∙◌}
use mathlib.Core.Bool.{Bool, true, false, ◌&&◌}
use mathlib.Core.Logic.{⊎_elim}
use mathlib.Core.List.{List, [], ◌∷◌, ◌++◌, map}
use Prim.Native.Nat.{ℕ, zero, suc, ◌+◌, ◌*◌, ◌≤◌, ◌<◌}
use native.Mathlib.Nat.{eq-or-lt_of_le, mul-le-mul_left}
use native.Mathlib.Omega.{arith}
use borrow.Author.Tests.{le-leb, le-ltb, lt-ltb, eq-eqb, leb-true, ltb-true, ltb-false, eqb-true}
use lib.Dec.{eqb, leb, ltb}
use lib.ListN.{length, length-map, take}
use Rattle.word.specs.Reply.{Test, ◌when◌, answer, refusal, replied, first_of}
use Rattle.word.proofs.BoolLaws.{and_intro, and_both, not_true, true_not_false}
use Rattle.word.proofs.ReplyLaws.{answered_part}
use Rattle.word.proofs.SomeLaws.{any_below_none}
use Rattle.word.proofs.TestLaws.{first_of_later, first_of_none, refused_applies}
use Rattle.set_layout.specs.Layout.{width_of, slices_of, circuit_of}
use Rattle.set_file.specs.Reading.{set_tests}
use Rattle.set_file.proofs.Laws.{Accepted, accepted, set_numbered}
use Rattle.signatures.specs.Given.{Given}
use Rattle.signatures.specs.Sets.{given}
use Rattle.cutter.specs.Cutting.{words_left, leaves, longest_end, starts_from, starts_for, bad_share, short_slice, RunOf, starts_of, CutParts, cut_parts_of, cut_tests, cut_reply, cuts_after}
use Rattle.cutter.specs.Turns.{Sound}
use Rattle.cutter.proofs.FrameLaws.{later_start, slice_most}
use Rattle.cutter.proofs.RunLaws.{next_run, no_run}
use Rattle.cutter.proofs.SameLaws.{sound_set}
use Rattle.cutter.proofs.Theorems.{run_of, cut_none, cut_parts}
use Rattle.guarantee.specs.Cuttings.{Run, is_division, each_leaves, is_cutting, end_before, runs_from, covers, is_cover}

and_all : (a b c : Bool) → (a && (b && c)) ≡ true → (a ≡ true) × ((b ≡ true) × (c ≡ true))
and_all a b c h = let d = and_both a (b && c) h in (d.0, and_both b c d.1)

-- ---- divisions and covers of s slices

module _ (s : ℕ) where
  divided : (a : ℕ) (r : Run) (rs : List Run) → is_division s a (r ∷ rs) ≡ true
      → (r.first ≡ a) × ((r.first < r.end) × (is_division s r.end rs ≡ true))
  unfolding is_division
  divided a r rs h =
      let d = and_all (eqb r.first a) (ltb r.first r.end) (is_division s r.end rs) h in
      (eqb-true r.first a d.0, (ltb-true r.first r.end d.1.0, d.1.1))

  covered : (a : ℕ) (r : Run) (rs : List Run) → covers s a (r ∷ rs) ≡ true → (r.first ≤ a) × ((r.end ≤ s) × (covers s r.end rs ≡ true))
  unfolding covers
  covered a r rs h =
      let d = and_all (leb r.first a) (leb r.end s) (covers s r.end rs) h in
      (leb-true r.first a d.0, (leb-true r.end s d.1.0, d.1.1))

  division_covers : (a : ℕ) (rs : List Run) → is_division s a rs ≡ true → (a ≤ s) × (covers s a rs ≡ true)
  unfolding is_division covers
  division_covers a [] h = let same : a ≡ s = eqb-true a s h in (omega arith, le-leb s a (omega arith))
  division_covers a (r ∷ rs) h =
      let d = divided a r rs h in
      let rest = division_covers r.end rs d.1.1 in (
        omega (arith, d.0, d.1.0, rest.0),
        and_intro _ _ (le-leb r.first a (omega (arith, d.0))) (and_intro _ _ (le-leb r.end s rest.0) rest.1),
      )

  -- ---- given by their first slices

  firsts_at : (e : ℕ) (rs : List Run) → is_division s e rs ≡ true → end_before s (map (λ r. r.first) rs) ≡ e
  unfolding is_division
  firsts_at e [] h = sym (eqb-true e s h)
  firsts_at e (r ∷ rs) h = (divided e r rs h).0

  pub firsts_give : (a : ℕ) (rs : List Run) → is_division s a rs ≡ true → runs_from s (map (λ r. r.first) rs) ≡ rs
  unfolding runs_from
  firsts_give a [] h = refl
  firsts_give a (r ∷ rs) h =
      let rest = (divided a r rs h).1.1 in
      ap₂ (λ (e : ℕ) (l : List Run). record { first = r.first; end = e } ∷ l) (firsts_at r.end rs rest) (firsts_give r.end rs rest)

  runs_firsts : (l : List ℕ) → map (λ r. r.first) (runs_from s l) ≡ l
  unfolding runs_from
  runs_firsts [] = refl
  runs_firsts (b ∷ l) = ap (λ (x : List ℕ). b ∷ x) (runs_firsts l)

  pub runs_count : (l : List ℕ) → length (runs_from s l) ≡ length l
  runs_count l = sym (length-map (runs_from s l) (λ r. r.first)) ∙ ap length (runs_firsts l)

  next_at : (e : ℕ) (l : List ℕ) → is_division s e (runs_from s l) ≡ true → end_before s l ≡ e
  next_at e l h = ap (end_before s) (sym (runs_firsts l)) ∙ firsts_at e (runs_from s l) h

-- ---- the runs of the call, and any others

module _ (g : Given) (k : ℕ) where
  leaving : (r : Run) (rs : List Run) → each_leaves g k (r ∷ rs) ≡ true → (k ≤ words_left g r.first r.end) × (each_leaves g k rs ≡ true)
  unfolding each_leaves leaves
  leaving r rs h =
      let d = and_both (leaves g k r.first r.end) (each_leaves g k rs) h in (leb-true k (words_left g r.first r.end) d.0, d.1)

  cover_parts : (rs : List Run) → is_cover g k rs ≡ true → (covers g.slices 0 rs ≡ true) × (each_leaves g k rs ≡ true)
  unfolding is_cover
  cover_parts rs h = and_both (covers g.slices 0 rs) (each_leaves g k rs) h

  cutting_covers : (rs : List Run) → is_cutting g k rs ≡ true → is_cover g k rs ≡ true
  unfolding is_cutting is_cover
  cutting_covers rs h =
      let d = and_both (is_division g.slices 0 rs) (each_leaves g k rs) h in and_intro _ _ (division_covers g.slices 0 rs d.0).1 d.1

  module _ (sound : Sound g.wiring) where
    -- each slice lies in a run, and alone it leaves no fewer words than the run does
    slice_leaves : (rs : List Run) (a t : ℕ) → covers g.slices a rs ≡ true → each_leaves g k rs ≡ true → a ≤ t → t < g.slices
        → k ≤ words_left g t (suc t)
    unfolding covers
    slice_leaves [] a t c l h inside = let no : ⊥ = omega (arith, leb-true g.slices a c) in absurd no
    slice_leaves (r ∷ rs) a t c l h inside =
        go (λ behind. slice_leaves rs r.end t (covered g.slices a r rs c).1.1 (leaving r rs l).1 behind inside) (ltb t r.end) refl
      where
        go : (r.end ≤ t → k ≤ words_left g t (suc t)) → (b : Bool) → ltb t r.end ≡ b → k ≤ words_left g t (suc t)
        go later true q =
            let begun : r.first ≤ t = omega (arith, (covered g.slices a r rs c).0) in
            omega (arith, (leaving r rs l).0, slice_most g sound r.first t r.end begun (ltb-true t r.end q))
        go later false q = later (ltb-false t r.end q)

    cover_none_short : (rs : List Run) → is_cover g k rs ≡ true → short_slice g k ≡ false
    unfolding short_slice
    cover_none_short rs h =
        let parts = cover_parts rs h in
        any_below_none g.slices (λ t. ltb (words_left g t (suc t)) k)
        (λ t inside. le-ltb (words_left g t (suc t)) k (slice_leaves rs 0 t parts.0 parts.1 (omega arith) inside))

    module _ (long : short_slice g k ≡ false) where
      -- a run that begins no later than one of the call's ends no later
      ends_no_later : (a : ℕ) (r : Run) → a < g.slices → r.first ≤ a → r.end ≤ g.slices → k ≤ words_left g r.first r.end
          → r.end ≤ longest_end g k a
      ends_no_later a r inside begun within enough = go (ltb (longest_end g k a) r.end) refl
        where
          go : (b : Bool) → ltb (longest_end g k a) r.end ≡ b → r.end ≤ longest_end g k a
          go true q =
              let run : RunOf g k a = run_of g k a long inside in
              let behind : longest_end g k a < r.end = ltb-true (longest_end g k a) r.end q in
              let more = later_start g sound r.first a r.end begun (omega (arith, run.some)) in
              let no : ⊥ = omega (arith, run.longest r.end behind within, more) in
              absurd no
          go false q = ltb-false (longest_end g k a) r.end q

      used_up : (j a : ℕ) → a ≡ g.slices → starts_from g k j a ≡ []
      used_up j a same = ap (starts_from g k j) same ∙ no_run g sound k j

      -- .. so from a slice on that the others have reached at most, the call needs no more runs than they do
      no_more : (rs : List Run) (j a b : ℕ) → a ≤ g.slices → b ≤ a → covers g.slices b rs ≡ true → each_leaves g k rs ≡ true
          → length (starts_from g k j a) ≤ length rs
      unfolding starts_from covers
      no_more rs zero a b h ahead c l = omega arith
      no_more [] (suc j) a b h ahead c l =
          omega (arith, ap length (used_up (suc j) a (omega (arith, leb-true g.slices b c))))
      no_more (r ∷ rs) (suc j) a b h ahead c l =
          let d = covered g.slices b r rs c in
          let e = leaving r rs l in
          ⊎_elim (λ (same : a ≡ g.slices). omega (arith, ap length (used_up (suc j) a same)))
          (λ (inside : a < g.slices).
          let behind : r.end ≤ longest_end g k a = ends_no_later a r inside (omega (arith, d.0)) d.1.0 e.0 in
          let rest = no_more rs j (longest_end g k a) r.end (run_of g k a long inside).within behind d.1.1 e.1 in
          omega (arith, rest, ap length (next_run g sound k a (longest_end g k a) j inside refl)))
          (eq-or-lt_of_le h)

      fewest : (rs : List Run) → is_cover g k rs ≡ true → length (starts_for g k) ≤ length rs
      unfolding starts_for
      fewest rs h = let parts = cover_parts rs h in no_more rs g.slices 0 0 (omega arith) (omega arith) parts.0 parts.1

      -- ---- the call's runs are a cutting

      abbrev Cut : ℕ → List ℕ → Type 0
      Cut a l = (is_division g.slices a (runs_from g.slices l) ≡ true) × (each_leaves g k (runs_from g.slices l) ≡ true)

      no_runs_cut : (j a : ℕ) → a ≡ g.slices → Cut a (starts_from g k j a)
      unfolding is_division each_leaves runs_from
      no_runs_cut j a same = rw (used_up j a same) (eq-eqb a g.slices same, refl)

      one_run_more : (j a : ℕ) → a < g.slices → Cut (longest_end g k a) (starts_from g k j (longest_end g k a)) → Cut a (starts_from g k (suc j) a)
      unfolding is_division each_leaves runs_from leaves
      one_run_more j a inside rest =
          let run : RunOf g k a = run_of g k a long inside in
          let end : end_before g.slices (starts_from g k j (longest_end g k a)) ≡ longest_end g k a =
          next_at g.slices (longest_end g k a) (starts_from g k j (longest_end g k a)) rest.0
          in
          rw (next_run g sound k a (longest_end g k a) j inside refl, end) (
            and_intro _ _ (eq-eqb a a refl) (and_intro _ _ (lt-ltb a (longest_end g k a) run.some) rest.0),
            and_intro _ _ (le-leb k (words_left g a (longest_end g k a)) run.enough) rest.1,
          )

      starts_cut : (j a : ℕ) → a ≤ g.slices → g.slices ≤ j + a → Cut a (starts_from g k j a)
      starts_cut zero a h l = no_runs_cut zero a (omega arith)
      starts_cut (suc j) a h l =
          ⊎_elim (no_runs_cut (suc j) a)
          (λ (inside : a < g.slices).
          let run : RunOf g k a = run_of g k a long inside in
          one_run_more j a inside (starts_cut j (longest_end g k a) run.within (omega (arith, run.some))))
          (eq-or-lt_of_le h)

      starts_cutting : is_cutting g k (runs_from g.slices (starts_for g k)) ≡ true
      unfolding is_cutting starts_for
      starts_cutting = let both = starts_cut g.slices 0 (omega arith) (omega arith) in and_intro _ _ both.0 both.1

-- ---- where the call answers

module _ (set : List ℕ) (k room : ℕ) (p : CutParts) (h : cut_reply set k room ≡ answer p) where
  sound : Sound (circuit_of set)
  sound = sound_set set (accepted set (cut_none set k room p h).0)

  count : p.runs ≡ length (starts_of set k)
  count = ap (λ (q : CutParts). q.runs) (cut_parts set k room p h)

  pub cut_overlap : (rs : List Run) → is_cover (given set) k rs ≡ true → p.runs ≤ length rs
  unfolding starts_of
  cut_overlap rs c = omega (arith, count, fewest (given set) k sound (cut_none set k room p h).1.1 rs c)

  pub cut_fewest : (rs : List Run) → is_cutting (given set) k rs ≡ true → p.runs ≤ length rs
  cut_fewest rs c = cut_overlap rs (cutting_covers (given set) k rs c)

  pub cut_bill : p.bits ≡ width_of set * k * p.runs
  cut_bill = ap (λ (q : CutParts). q.bits) (cut_parts set k room p h) ∙ sym (ap (λ (n : ℕ). width_of set * k * n) count)

  pub cut_cheapest : (rs : List Run) → is_cutting (given set) k rs ≡ true → p.bits ≤ width_of set * k * length rs
  cut_cheapest rs c = rw cut_bill (mul-le-mul_left (width_of set * k) (cut_fewest rs c))

-- of the cut list at exit, as many places as the answer has runs
pub cut_cutting : (set l : List ℕ) (k : ℕ) (p : CutParts) → cut_reply set k (length l) ≡ answer p
    → is_cutting (given set) k (runs_from (slices_of set) (take p.runs (cuts_after set k l))) ≡ true
unfolding starts_of
cut_cutting set l k p h =
    let listed =
    answered_part (cut_reply set k (length l)) p (starts_of set k) l (cuts_after set k l) p.runs h refl (count set k (length l) p h)
    in
    ap (λ (x : List ℕ). is_cutting (given set) k (runs_from (slices_of set) x)) listed.1
    ∙ starts_cutting (given set) k (sound set k (length l) p h) (cut_none set k (length l) p h).1.1

-- ---- 27

module _ (set : List ℕ) (k room : ℕ) where
  -- the numbers before 27, and 28
  abbrev before : List Test
  before = set_tests set ++ 26 when bad_share (width_of set) k ∷ []

  abbrev behind : List Test
  behind = 28 when ltb room (length (starts_of set k)) ∷ []

  short_27 : cut_reply set k room ≡ refusal 27 → (first_of before ≡ 0) × (short_slice (given set) k ≡ true)
  unfolding cut_reply cut_tests set_tests
  short_27 h = refused_applies 27 (short_slice (given set) k) before behind (cut_parts_of set k) refl refl h

  pub cut_27_only : cut_reply set k room ≡ refusal 27 → (rs : List Run) → is_cutting (given set) k rs ≡ false
  cut_27_only h rs =
      let short = short_27 h in
      let taken : Accepted set = accepted set (first_of_none (set_tests set) _ short.0) in
      not_true (is_cutting (given set) k rs)
      (λ c.
      true_not_false (short_slice (given set) k) short.1 (cover_none_short (given set) k (sound_set set taken) rs (cutting_covers (given set) k rs c)))

  pub cut_27_always : first_of (set_tests set) ≡ 0 → bad_share (width_of set) k ≡ false → ((rs : List Run) → is_cutting (given set) k rs ≡ false)
      → cut_reply set k room ≡ refusal 27
  unfolding cut_reply cut_tests
  cut_27_always taken share nothing = go (short_slice (given set) k) refl
    where
      go : (b : Bool) → short_slice (given set) k ≡ b → replied (first_of (cut_tests set k room)) (cut_parts_of set k) ≡ refusal 27
      go true q =
          let number : first_of (26 when bad_share (width_of set) k ∷ 27 when short_slice (given set) k ∷ behind) ≡ 27 = rw (share, q) refl in
          ap (λ (n : ℕ). replied n (cut_parts_of set k)) (first_of_later (set_tests set) _ (set_numbered set) taken ∙ number)
      go false q =
          let some = starts_cutting (given set) k (sound_set set (accepted set taken)) q in
          absurd (true_not_false (is_cutting (given set) k (runs_from (slices_of set) (starts_for (given set) k))) some (nothing _))
