-- The slices gone through one after the other: what is known after some of them, what one slice more does, and the ends. For what is given by
-- a sound circuit:
--
--   longest_at     a run that leaves at least k words, and with one slice more fewer, is the longest from its start: the greatest end that
--                  still leaves k words is the last before the first that doesn't
--   next_run       the list of first slices from a on is a and, from the end of its longest run on, the rest
--   no_run         .. and empty where no slice is left
--   CutTo          what is known after t slices
--   cut_starts, cut_turns, cut_short, cut_ends
-- Assumes nothing.
use mathlib.Core.Path.{◌≡◌, refl, sym, ap, ap₂, ◌∙◌, subst}
use mathlib.Core.Bool.{Bool, true, false, cond}
use mathlib.Core.List.{List, [], ◌∷◌, ◌++◌, append_assoc}
use Prim.Native.Nat.{ℕ, zero, suc, ◌+◌, ◌-◌, ◌≤◌, ◌<◌}
use native.Mathlib.Numerals.{add-one}
use native.Mathlib.Omega.{arith}
use borrow.Author.Tests.{le-leb, lt-leb, le-ltb, lt-ltb}
use lib.Dec.{leb, ltb}
use lib.ListN.{length, take, set}
use lib.Seq.{take-set-le, take-suc-set}
use Rattle.word.specs.Some.{any_below}
use Rattle.word.proofs.SomeLaws.{any_below_true}
use Rattle.word.proofs.BoolLaws.{or_false}
use Rattle.combinations.specs.Reduced.{reduced_list}
use Rattle.combinations.specs.Step.{steps, units}
use Rattle.combinations.proofs.StepLaws.{steps_none}
use Rattle.combinations.proofs.Theorems.{portion_after}
use Rattle.combinations.proofs.Portions.{without_columns}
use Rattle.signatures.specs.Given.{Given}
use Rattle.cutter.specs.Cutting.{words_left, leaves, longest_end, starts_from, starts_for, short_slice}
use Rattle.run_words.specs.Joining.{Turned, joined, opened}
use Rattle.run_words.specs.declared.Turn.{Turn}
use Rattle.cutter.specs.Turns.{Sound}
use Rattle.cutter.proofs.GreatestLaws.{greatest_at}
use Rattle.cutter.proofs.FrameLaws.{framed, frames, frames_none, frames_suc, left_framed, longer_fewer, slice_most}

-- ---- the longest run

module _ (g : Given) (sound : Sound g.wiring) (k : ℕ) where
  pub longest_at : (a e : ℕ) → a ≤ e → e ≤ g.slices → k ≤ words_left g a e → (e < g.slices → words_left g a (suc e) < k) → longest_end g k a ≡ e
  unfolding longest_end leaves
  longest_at a e h l enough fewer =
      greatest_at g.slices e (λ b. leb k (words_left g a b)) l (le-leb k (words_left g a e) enough)
      (λ i x y.
      let less : words_left g a i < k = omega (arith, fewer (omega arith), longer_fewer g sound a (suc e) i (omega arith) x) in
      lt-leb k (words_left g a i) less)

  -- the run from a on ends at e, before the last slice, and the next begins there
  pub next_run : (a e j : ℕ) → a < g.slices → longest_end g k a ≡ e → starts_from g k (suc j) a ≡ a ∷ starts_from g k j e
  unfolding starts_from
  next_run a e j h q =
      ap (λ (b : Bool). cond b (a ∷ starts_from g k j (longest_end g k a)) []) (lt-ltb a g.slices h)
      ∙ ap (λ (x : ℕ). a ∷ starts_from g k j x) q

  pub no_run : (j : ℕ) → starts_from g k j g.slices ≡ []
  unfolding starts_from
  no_run zero = refl
  no_run (suc j) =
      ap (λ (b : Bool). cond b (g.slices ∷ starts_from g k j (longest_end g k g.slices)) []) (le-ltb g.slices g.slices (omega arith))

-- ---- after t slices

-- the words that the run from a on leaves after the slice before t
abbrev held_words : Given → ℕ → ℕ → List ℕ
held_words g a t = reduced_list g.wiring.width (frames g a (t - a))

-- no slice so far leaves fewer than k words alone; `runs` runs have begun, whose first slices stand at the front of l, and the words that
-- the last of them leaves, at least k, are h
pub data InRun (g : Given) (k t runs : ℕ) (h l : List ℕ) : Type 0 where
  none_yet : t ≡ 0 → runs ≡ 0 → h ≡ [] → InRun g k t runs h l
  in_run : (a j : ℕ) (ds : List ℕ) → a < t → g.slices ≤ j + a → starts_for g k ≡ ds ++ starts_from g k j a → take runs l ≡ ds ++ a ∷ []
      → h ≡ held_words g a t → k ≤ length h → InRun g k t runs h l

pub record CutTo (g : Given) (k t runs : ℕ) (h l : List ℕ) : Type 0 where
  pub enough : any_below t (λ i. ltb (words_left g i (suc i)) k) ≡ false
  pub run : InRun g k t runs h l

module _ (g : Given) (sound : Sound g.wiring) (k : ℕ) (some : 1 ≤ k) where
  abbrev m : ℕ
  m = g.wiring.width

  pub cut_starts : (h l : List ℕ) → h ≡ [] → CutTo g k 0 0 h l
  unfolding any_below
  cut_starts h l e = record { enough = refl; run = none_yet refl refl e }

  -- ---- one slice more

  -- the columns of slice t put to the words of the run from a on
  next_words : (a t : ℕ) (h cs : List ℕ) → a ≤ t → h ≡ held_words g a t → cs ≡ framed g t → steps cs h ≡ held_words g a (t + 1)
  next_words a t h cs l eh ec =
      let more : t + 1 - a ≡ suc (t - a) = omega arith in
      let here : a + (t - a) ≡ t = omega arith in
      ap₂ steps ec eh ∙ sym (portion_after m (frames g a (t - a)) (framed g t))
      ∙ ap (λ (x : ℕ). reduced_list m (frames g a (t - a) ++ framed g x)) (sym here)
      ∙ ap (reduced_list m) (sym (ap (frames g a) more ∙ frames_suc g a (t - a)))

  -- .. or to the words of single bits
  alone_words : (t : ℕ) (cs : List ℕ) → cs ≡ framed g t → steps cs (units m) ≡ held_words g t (t + 1)
  alone_words t cs ec =
      let none : t - t ≡ 0 = omega arith in
      next_words t t (units m) cs (omega arith) (without_columns m ∙ ap (reduced_list m) (sym (ap (frames g t) none ∙ frames_none g t))) ec

  left_next : (a t : ℕ) → length (held_words g a (t + 1)) ≡ words_left g a (suc t)
  left_next a t = sym (left_framed g sound a (t + 1)) ∙ ap (words_left g a) (add-one t)

  enough_more : (t : ℕ) → any_below t (λ i. ltb (words_left g i (suc i)) k) ≡ false → k ≤ words_left g t (suc t)
      → any_below (t + 1) (λ i. ltb (words_left g i (suc i)) k) ≡ false
  unfolding any_below
  enough_more t so_far h =
      ap (λ (n : ℕ). any_below n (λ i. ltb (words_left g i (suc i)) k)) (add-one t)
      ∙ or_false _ _ so_far (le-ltb (words_left g t (suc t)) k h)

  module _ (t runs w : ℕ) (h l h' cs : List ℕ) (r : Turn) (inside : t < g.slices) (room : runs < length l) (ec : cs ≡ framed g t)
      (ew : w ≡ m) (turn : Turned cs w k h h' r) where
    turned : Turned cs m k h h' r
    turned = subst (λ (x : ℕ). Turned cs x k h h' r) ew turn

    -- the slice joins the run from a on
    joins : (a j : ℕ) (ds : List ℕ) → a < t → g.slices ≤ j + a → starts_for g k ≡ ds ++ starts_from g k j a → take runs l ≡ ds ++ a ∷ []
        → h ≡ held_words g a t → k ≤ length (steps cs h) → r.opened ≡ 0 → h' ≡ steps cs h
        → any_below t (λ i. ltb (words_left g i (suc i)) k) ≡ false → CutTo g k (t + 1) (runs + r.opened) h' (set l runs t)
    joins a j ds la lj es el eh enough eo ex so_far =
        let words : steps cs h ≡ held_words g a (t + 1) = next_words a t h cs (omega arith) eh ec in
        let same : runs + r.opened ≡ runs = omega arith in
        record {
          enough = enough_more t so_far (omega (arith, ap length words, left_next a t, slice_most g sound a t (suc t) (omega arith) (omega arith)));
          run =
              in_run a j ds (omega arith) lj es (ap (λ (n : ℕ). take n (set l runs t)) same ∙ take-set-le runs l runs t (omega arith) ∙ el) (ex ∙ words)
              (omega (arith, ap length ex));
        }

    -- the slice opens a run
    opens : (j : ℕ) (ds : List ℕ) → g.slices ≤ j + t → starts_for g k ≡ ds ++ starts_from g k j t → take runs l ≡ ds → r.opened ≡ 1
        → h' ≡ steps cs (units m) → k ≤ length h'
        → any_below t (λ i. ltb (words_left g i (suc i)) k) ≡ false → CutTo g k (t + 1) (runs + r.opened) h' (set l runs t)
    opens j ds lj es el eo ex enough so_far =
        let words : h' ≡ held_words g t (t + 1) = ex ∙ alone_words t cs ec in
        let one_more : runs + r.opened ≡ suc runs = omega arith in
        record {
          enough = enough_more t so_far (omega (arith, ap length words, left_next t t));
          run =
              in_run t j ds (omega arith) lj es
              (ap (λ (n : ℕ). take n (set l runs t)) one_more ∙ take-suc-set l runs t room ∙ ap (λ (x : List ℕ). x ++ t ∷ []) el) words
              enough;
        }

    -- the run from a on ends before slice t
    ended : (a j : ℕ) (ds : List ℕ) → a < t → g.slices ≤ j + a → starts_for g k ≡ ds ++ starts_from g k j a
        → h ≡ held_words g a t → k ≤ length h → length (steps cs h) < k
        → (starts_for g k ≡ (ds ++ a ∷ []) ++ starts_from g k (j - 1) t) × (g.slices ≤ j - 1 + t)
    ended a j ds la lj es eh enough fewer =
        let words : steps cs h ≡ held_words g a (t + 1) = next_words a t h cs (omega arith) eh ec in
        let end : longest_end g k a ≡ t =
        longest_at g sound k a t (omega arith) (omega arith) (omega (arith, ap length eh, left_framed g sound a t))
        (λ x. omega (arith, fewer, ap length words, left_next a t))
        in
        let back : j ≡ suc (j - 1) = omega arith in (
          es ∙ ap (λ (n : ℕ). ds ++ starts_from g k n a) back ∙ ap (λ (x : List ℕ). ds ++ x) (next_run g sound k a t (j - 1) (omega arith) end)
              ∙ sym (append_assoc ds (a ∷ []) (starts_from g k (j - 1) t)),
          omega arith,
        )

    pub cut_turns : CutTo g k t runs h l → k ≤ r.left → CutTo g k (t + 1) (runs + r.opened) h' (set l runs t)
    unfolding starts_for
    cut_turns so_far enough = go so_far.run turned
      where
        go : InRun g k t runs h l → Turned cs m k h h' r → CutTo g k (t + 1) (runs + r.opened) h' (set l runs t)
        go (none_yet et er eh) (joined kj eo ec' ex) =
            let none : steps cs h ≡ [] = ap (steps cs) eh ∙ steps_none cs in
            let z : ⊥ = omega (arith, kj, ap length none) in
            absurd z
        go (none_yet et er eh) (opened kj eo el ex) =
            opens g.slices [] (omega arith) (ap (starts_from g k g.slices) (sym et)) (ap (λ (n : ℕ). take n l) er) eo ex (omega (arith, el)) so_far.enough
        go (in_run a j ds la lj es et eh kl) (joined kj eo el ex) = joins a j ds la lj es et eh kj eo ex so_far.enough
        go (in_run a j ds la lj es et eh kl) (opened kj eo el ex) =
            let end = ended a j ds la lj es eh kl kj in
            opens (j - 1) (ds ++ a ∷ []) end.1 end.0 et eo ex (omega (arith, el)) so_far.enough

    -- the slice alone leaves fewer than k words
    pub cut_short : r.left < k → short_slice g k ≡ true
    unfolding short_slice
    cut_short fewer = go turned
      where
        go : Turned cs m k h h' r → any_below g.slices (λ i. ltb (words_left g i (suc i)) k) ≡ true
        go (joined kj eo el ex) = let z : ⊥ = omega (arith, el, ap length ex) in absurd z
        go (opened kj eo el ex) =
            any_below_true g.slices _ t inside
            (lt-ltb (words_left g t (suc t)) k (omega (arith, el, ap length (ex ∙ alone_words t cs ec), left_next t t)))

  -- ---- all slices

  pub cut_ends : (t runs : ℕ) (h l : List ℕ) → t ≡ g.slices → CutTo g k t runs h l → (short_slice g k ≡ false) × (take runs l ≡ starts_for g k)
  unfolding short_slice starts_for
  cut_ends t runs h l et so_far =
      (ap (λ (n : ℕ). any_below n (λ i. ltb (words_left g i (suc i)) k)) (sym et) ∙ so_far.enough, go so_far.run)
    where
      go : InRun g k t runs h l → take runs l ≡ starts_from g k g.slices 0
      go (none_yet e0 er eh) =
          ap (λ (n : ℕ). take n l) er
          ∙ sym (ap (starts_from g k g.slices) (sym e0 ∙ et) ∙ no_run g sound k g.slices)
      go (in_run a j ds la lj es el eh kl) =
          let end : longest_end g k a ≡ g.slices =
          longest_at g sound k a g.slices (omega arith) (omega arith)
          (omega (arith, kl, ap length eh, left_framed g sound a t, ap (words_left g a) et)) (λ x. let z : ⊥ = omega arith in absurd z)
          in
          let back : j ≡ suc (j - 1) = omega arith in
          el
          ∙ sym
          (es ∙ ap (λ (n : ℕ). ds ++ starts_from g k n a) back
          ∙ ap (λ (x : List ℕ). ds ++ x) (next_run g sound k a g.slices (j - 1) (omega arith) end ∙ ap (λ (x : List ℕ). a ∷ x) (no_run g sound k (j - 1))))
