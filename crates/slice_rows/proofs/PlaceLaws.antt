-- The place of one slice's row, and that of the ties: what the companion's reply says, and the stretch of the set that it names.
use mathlib.Core.Path.{◌≡◌, refl, sym, ap, ap₂, ◌∙◌}
use mathlib.Core.Bool.{Bool, true, false, not}
use mathlib.Core.List.{List, []}
use mathlib.Core.Logic.{dite}
use Prim.Native.Nat.{ℕ, ◌+◌, ◌-◌, ◌*◌, ◌≤◌, ◌<◌, min}
use native.Mathlib.Decide.{ℕ_discrete}
use native.Mathlib.Omega.{arith}
use borrow.Author.Tests.{lt-ltb, ltb-true, not-false}
use lib.Dec.{ltb}
use lib.ListN.{length, take, drop}
use Rattle.word.specs.Reply.{Reply, answer, refusal, first_of}
use Rattle.word.proofs.ReplyLaws.{refused_reply, replied_answered, refuses, passes}
use Rattle.numbers.proofs.PartLaws.{part_clamped}
use Rattle.rows.specs.Row.{row_bytes}
use Rattle.ties.specs.Ties.{entry_bytes}
use Rattle.set_layout.specs.Layout.{ties_at, set_length, chains_of, slices_of, value_at, mark_at, value_row, mark_row, tie_count_of, tie_bytes}
use Rattle.set_file.specs.Reading.{set_tests}
use Rattle.slice_rows.specs.Rows.{Stretch, row_tests, row_reply, value_reply, mark_reply, ties_reply, stretch, stretch_at, said_place}
use Rattle.slice_rows.specs.declared.Place.{Place}
use Rattle.std.specs.Prelude.{Result, Ok, Err}
use Rattle.refusals.specs.declared.Refusal.{Refusal}
use Rattle.refusals.specs.Refusals.{number, refused}
use Rattle.refusals.proofs.RefusalLaws.{not_zero, refused_call}
use Rattle.word.proofs.TestLaws.{none_and_rest, first_sooner, first_later, none_of_both, replied_answer, replied_alike}
use Rattle.set_layout.proofs.SliceLaws.{slice_inside}
use Rattle.set_file.proofs.Laws.{Accepted, accepted, value_row_length, mark_row_length, set_numbered}

abbrev stretch_of : Place → Stretch
stretch_of p = record { start = p.start; bytes = p.bytes }

-- the row of the set that stands at place i
abbrev row_from : List ℕ → ℕ → Stretch
row_from set i = record { start = i; bytes = row_bytes (chains_of set) }

module _ (set : List ℕ) (t : ℕ) where
  -- ---- the first number

  pub row_set_refused : (r : Result Unit Refusal) (e : Refusal) → r ≡ Err e → number e ≡ first_of (set_tests set) → refused r ≡ first_of (row_tests set t)
  unfolding row_tests
  row_set_refused r e is h = ap refused is ∙ first_sooner (set_tests set) _ (number e) h (not_zero e)

  pub row_past : (r : Bool) → 0 ≡ first_of (set_tests set) → r ≡ not (ltb t (slices_of set)) → r ≡ true → 11 ≡ first_of (row_tests set t)
  unfolding row_tests
  row_past r none er on = first_later (set_tests set) _ 0 11 (set_numbered set) none refl (refuses (not (ltb t (slices_of set))) r 11 0 er on)

  pub row_there : (r : Bool) → 0 ≡ first_of (set_tests set) → r ≡ not (ltb t (slices_of set)) → r ≡ false → 0 ≡ first_of (row_tests set t)
  unfolding row_tests
  row_there r none er off = first_later (set_tests set) _ 0 0 (set_numbered set) none refl (passes (not (ltb t (slices_of set))) r 11 0 0 er off refl)

  -- ---- the reply

  pub row_accepted : first_of (row_tests set t) ≡ 0 → Accepted set × (t < slices_of set)
  unfolding row_tests
  row_accepted h =
      let none = none_of_both (set_tests set) _ (set_numbered set) h in
      let below : not (ltb t (slices_of set)) ≡ false = (none_and_rest (not (ltb t (slices_of set))) 10 0 none.1).0 in
      (accepted set none.0, ltb-true t (slices_of set) (not-false (ltb t (slices_of set)) below))

  pub row_answers : (i : ℕ) → first_of (row_tests set t) ≡ 0 → row_reply set t i ≡ answer (row_from set i)
  unfolding row_reply
  row_answers i h = replied_answered (first_of (row_tests set t)) (row_from set i) h

  pub row_refuses : (n i : ℕ) → n ≡ first_of (row_tests set t) → (n ≡ 0 → ⊥) → row_reply set t i ≡ refusal n
  unfolding row_reply
  row_refuses n i e h = sym (refused_reply (first_of (row_tests set t)) n (row_from set i) e h)

  -- a place that is named is the row's own
  pub record Named (i a b : ℕ) : Type 0 where
    pub none : first_of (row_tests set t) ≡ 0
    pub start : a ≡ i
    pub bytes : b ≡ row_bytes (chains_of set)

  pub row_named : (i a b : ℕ) → row_reply set t i ≡ answer (record { start = a; bytes = b }) → Named i a b
  unfolding row_reply
  row_named i a b h =
      let p = replied_answer (first_of (row_tests set t)) (row_from set i) (record { start = a; bytes = b }) h in
      record { none = p.0; start = ap (λ (x : Stretch). x.start) p.1; bytes = ap (λ (x : Stretch). x.bytes) p.1 }

  -- the value row and the mark row are refused alike
  pub row_alike : (i j n : ℕ) → row_reply set t i ≡ refusal n → row_reply set t j ≡ refusal n
  unfolding row_reply
  row_alike i j n h = replied_alike (first_of (row_tests set t)) _ _ n h

  -- ---- the companions

  pub value_declined : (r : Result Place Refusal) (e : Refusal) → r ≡ Err e → number e ≡ first_of (row_tests set t) → said_place r ≡ value_reply set t
  unfolding row_reply
  value_declined r e is h = refused_call stretch_of r e (first_of (row_tests set t)) (row_from set (value_at (chains_of set) t)) is h

  pub slice_small : 0 ≡ first_of (row_tests set t) → t < 65536
  slice_small none = omega (arith, (row_accepted (sym none)).1, (row_accepted (sym none)).0.slices)

  pub value_named : (c a b : ℕ) → 0 ≡ first_of (row_tests set t) → c ≡ chains_of set → a ≡ value_at c t → b ≡ row_bytes c
      → answer (record { start = a; bytes = b }) ≡ value_reply set t
  value_named c a b none ec ea eb =
      ap₂ (λ (x y : ℕ). answer (record { start = x; bytes = y })) (ea ∙ ap (λ (k : ℕ). value_at k t) ec) (eb ∙ ap row_bytes ec)
      ∙ sym (row_answers (value_at (chains_of set) t) (sym none))

  -- the mark row stands behind the value row
  pub mark_declined : (r : Result Place Refusal) (e : Refusal) → r ≡ Err e → refusal (number e) ≡ value_reply set t → said_place r ≡ mark_reply set t
  mark_declined r e is h =
      ap said_place is
      ∙ sym (row_alike (value_at (chains_of set) t) (mark_at (chains_of set) t) (number e) (sym h))

  module _ (a b : ℕ) (said : answer (record { start = a; bytes = b }) ≡ value_reply set t) where
    named : Named (value_at (chains_of set) t) a b
    named = row_named (value_at (chains_of set) t) a b (sym said)

    pub mark_at_lem : answer (record { start = a + b; bytes = b }) ≡ mark_reply set t
    mark_at_lem =
        ap₂ (λ (x y : ℕ). answer (record { start = x + y; bytes = y })) named.start named.bytes
        ∙ sym (row_answers (mark_at (chains_of set) t) named.none)

    pub value_inside : a + b ≤ length set
    value_inside =
        let there = row_accepted named.none in
        omega (arith, slice_inside set there.0.long t there.1, named.start, named.bytes)

-- ---- the stretch that a place names

-- what is lent stands at the pointer `to`, where the set stands at `from`
pub record Lent (set row : List ℕ) (from to : ℕ × ℕ) (r : Reply Stretch) : Type 0 where
  pub bytes : row ≡ stretch r set
  pub place : (to.0 ≡ from.0) × (to.1 ≡ from.1 + min (stretch_at r) (length set))

pub stretch_declined : (set : List ℕ) (at : ℕ × ℕ) (p : Result Place Refusal) (e : Refusal) → p ≡ Err e → Lent set [] at at (said_place p)
stretch_declined set at p e is = rw is (record { bytes = refl; place = (refl, omega arith) })

pub stretch_there : (set row : List ℕ) (p : Result Place Refusal) (k : Place) (start end o : ℕ) → p ≡ Ok k → start ≡ min k.start (length set)
    → end ≡ min (start + k.bytes) (length set) → row ≡ take (end - start) (drop start set)
    → (row ≡ stretch (said_place p) set) × (start + o ≡ o + min (stretch_at (said_place p)) (length set))
stretch_there set row p k start end o is es ee r =
    rw is (r ∙ part_clamped set k.start k.bytes start end (omega (arith, es)) ee, omega (arith, es))

module _ (set : List ℕ) (t : ℕ) where
  row_inside : (i : ℕ) → (t < slices_of set → length set ≡ set_length (chains_of set) (slices_of set) (tie_count_of set) → i ≤ length set)
      → stretch_at (row_reply set t i) ≤ length set
  unfolding row_reply
  row_inside i h =
      dite (ℕ_discrete (first_of (row_tests set t)) 0)
      (λ (z : first_of (row_tests set t) ≡ 0).
      let there = row_accepted set t z in
      rw (row_answers set t i z) (h there.1 there.0.long))
      (λ (d : first_of (row_tests set t) ≡ 0 → ⊥). rw (row_refuses set t (first_of (row_tests set t)) i refl d) (omega arith))

  pub value_inside_set : stretch_at (value_reply set t) ≤ length set
  value_inside_set = row_inside (value_at (chains_of set) t) (λ b long. omega (arith, slice_inside set long t b))

  pub mark_inside_set : stretch_at (mark_reply set t) ≤ length set
  mark_inside_set = row_inside (mark_at (chains_of set) t) (λ b long. omega (arith, slice_inside set long t b))

module _ (set row : List ℕ) (at place : ℕ × ℕ) (p : Result Place Refusal) where
  pub row_lent : (r : Reply Stretch) → said_place p ≡ r → stretch_at r ≤ length set
      → (row ≡ stretch (said_place p) set) × ((place.0 ≡ at.0) × (place.1 ≡ at.1 + min (stretch_at (said_place p)) (length set)))
      → (row ≡ stretch r set) × ((place.0 ≡ at.0) × (place.1 ≡ at.1 + stretch_at r))
  row_lent r e inside h =
      let whole : min (stretch_at r) (length set) ≡ stretch_at r = omega (arith, inside) in (
        h.0 ∙ ap (λ (x : Reply Stretch). stretch x set) e,
        (h.1.0, h.1.1 ∙ ap (λ (x : Reply Stretch). at.1 + min (stretch_at x) (length set)) e ∙ ap (λ (x : ℕ). at.1 + x) whole),
      )

-- ---- the ties

module _ (set : List ℕ) where
  abbrev ties_from : Stretch
  ties_from = record { start = ties_at (chains_of set) (slices_of set); bytes = entry_bytes * tie_count_of set }

  pub ties_answers : first_of (set_tests set) ≡ 0 → ties_reply set ≡ answer ties_from
  unfolding ties_reply
  ties_answers z = replied_answered (first_of (set_tests set)) ties_from z

  ties_refuses : (n : ℕ) → n ≡ first_of (set_tests set) → (n ≡ 0 → ⊥) → refusal n ≡ ties_reply set
  unfolding ties_reply
  ties_refuses n e h = refused_reply (first_of (set_tests set)) n ties_from e h

  pub ties_declined : (r : Result Place Refusal) (e : Refusal) → r ≡ Err e → number e ≡ first_of (set_tests set) → said_place r ≡ ties_reply set
  ties_declined r e is h = ap said_place is ∙ ties_refuses (number e) h (not_zero e)

  pub ties_named : (n s k at : ℕ) → 0 ≡ first_of (set_tests set) → n ≡ chains_of set → s ≡ slices_of set → k ≡ tie_count_of set → at ≡ ties_at n s
      → answer (record { start = at; bytes = entry_bytes * k }) ≡ ties_reply set
  ties_named n s k at none en es ek ea =
      ap₂ (λ (i j : ℕ). answer (record { start = i; bytes = entry_bytes * j })) (ea ∙ ap₂ ties_at en es) ek ∙ sym (ties_answers (sym none))

  pub ties_inside_set : stretch_at (ties_reply set) ≤ length set
  ties_inside_set =
      dite (ℕ_discrete (first_of (set_tests set)) 0)
      (λ (z : first_of (set_tests set) ≡ 0). rw (ties_answers z) (omega (arith, (accepted set z).long)))
      (λ (d : first_of (set_tests set) ≡ 0 → ⊥). rw (sym (ties_refuses (first_of (set_tests set)) refl d)) (omega arith))

  -- the entries of an accepted set
  pub ties_stretch : first_of (set_tests set) ≡ 0 → stretch (ties_reply set) set ≡ tie_bytes set
  unfolding tie_bytes
  ties_stretch a = ap (λ (r : Reply Stretch). stretch r set) (ties_answers a)

-- ---- the rows of an accepted set

module _ (set : List ℕ) (a : first_of (set_tests set) ≡ 0) (t : ℕ) (below : t < slices_of set) where
  row_none : first_of (row_tests set t) ≡ 0
  row_none = sym (row_there set t false (sym a) (sym (ap not (lt-ltb t (slices_of set) below))) refl)

  pub value_stretch : stretch (value_reply set t) set ≡ value_row set t
  unfolding value_row
  value_stretch = ap (λ (r : Reply Stretch). stretch r set) (row_answers set t (value_at (chains_of set) t) row_none)

  pub mark_stretch : stretch (mark_reply set t) set ≡ mark_row set t
  unfolding mark_row
  mark_stretch = ap (λ (r : Reply Stretch). stretch r set) (row_answers set t (mark_at (chains_of set) t) row_none)

  pub value_stretch_length : length (stretch (value_reply set t) set) ≡ row_bytes (chains_of set)
  value_stretch_length = ap length value_stretch ∙ value_row_length set (accepted set a) t below

  pub mark_stretch_length : length (stretch (mark_reply set t) set) ≡ row_bytes (chains_of set)
  mark_stretch_length = ap length mark_stretch ∙ mark_row_length set (accepted set a) t below
