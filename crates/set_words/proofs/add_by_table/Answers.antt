use mathlib.Core.Path.{◌≡◌, refl, ap, ◌∙◌}
use mathlib.Core.Logic.{inl, inr, ⊎_elim}
use Prim.Native.Nat.{◌+◌, ◌*◌, ◌<◌}
use native.Mathlib.Omega.{arith}
use lib.ListN.{length, take, drop}
use lib.Seq.{take-length}
use Rattle.combinations.specs.Step.{steps}
use Rattle.set_words.proofs.ReduceLaws.{front_words, fewer_words, passed_over, all_passed, reduced_portion, reduced_alike}
use Rattle.set_words.proofs.add_by_table.Goals as goal
use Rattle.set_words.proofs.add_by_table.Goals.{After-fill_portion-portion, After-skip_by_table-odd}

pub loop-portion-init : goal.loop-portion-init
loop-portion-init c = (refl, refl, refl, inl (refl, refl), (λ spread m so_far. so_far))

-- fewer cells are left
less : (c : After-fill_portion-portion)
    → 257 * c.fill_portion-portion.result.t + c.fill_portion-portion.result.chains < 257 * c.loop-portion.portion.t + c.loop-portion.portion.chains
less c =
    let at = c.loop-portion in
    c.fill_portion-portion.ensures.less (omega (arith, c.requires.0, at.invariant.0)) (omega (arith, c.requires.1, at.invariant.1)) c.loop-portion-test.true

-- the columns before the first odd one change nothing
passed : (c : After-skip_by_table-odd)
    → steps (drop c.skip_by_table-odd.result c.fill_portion-portion.new.columns) c.args.held.now ≡ steps (drop c.fill_portion-portion.result.place c.fill_portion-portion.new.columns) c.args.held.now
passed c =
    passed_over c.args.held.now c.byte_table-table.result c.fill_portion-portion.new.columns _ _ c.requires.2 c.byte_table-table.ensures (λ i. (c.slice_known-in-loop-portion-2-1.given i).fits) c.skip_by_table-odd.ensures

pub returns-then-odd-working : goal.returns-then-odd-working
returns-then-odd-working c =
    let at = c.loop-portion in
    let filled = c.fill_portion-portion in
    let added = c.add_columns-left in
    record {
      left = omega (arith, fewer_words _ at.held _ added.ensures.count, ap length at.invariant.2);
      less = (λ some. ⊎_elim (λ a. omega (arith, less (goal.at.returns-then-odd-working c).After-fill_portion-portion, a.0, a.1)) (λ a. omega (arith, less (goal.at.returns-then-odd-working c).After-fill_portion-portion, a)) at.invariant.3);
      words = (λ spread m before.
          let so_far = at.invariant.4 spread m before in
          reduced_portion _ _ _ _ _ _ _ _ _ _ _ _ _ so_far (filled.ensures.portion spread so_far.few so_far.ready)
          (front_words filled.new.columns at.held _ _ _ added.ensures.count added.ensures.list
          ∙ ap (steps (drop c.skip_by_table-odd.result filled.new.columns)) at.invariant.2 ∙ passed (goal.at.returns-then-odd-working c).After-skip_by_table-odd));
    }

pub loop-portion-preserved : goal.loop-portion-preserved
loop-portion-preserved c =
    let at = c.loop-portion in
    let filled = c.fill_portion-portion in (
      filled.auto.columns ∙ at.invariant.0,
      filled.auto.words ∙ at.invariant.1,
      at.invariant.2,
      inr (⊎_elim (λ a. omega (arith, less (goal.at.loop-portion-preserved c).After-fill_portion-portion, a.0, a.1)) (λ a. omega (arith, less (goal.at.loop-portion-preserved c).After-fill_portion-portion, a)) at.invariant.3),
      (λ spread m before.
          let so_far = at.invariant.4 spread m before in
          let args = c.args in
          reduced_portion _ _ _ _ _ _ _ _ _ _ _ _ _ so_far (filled.ensures.portion spread so_far.few so_far.ready)
          (all_passed args.held.now c.byte_table-table.result filled.new.columns _ _ c.requires.2 c.byte_table-table.ensures (λ i. (c.slice_known-in-loop-portion-2-1.given i).fits) c.skip_by_table-odd.ensures c.if-odd-working.false)),
    )

pub returns : goal.returns
returns c =
    let at = c.loop-portion in
    record {
      left = omega arith;
      less = (λ some. ⊎_elim (λ a. let no : ⊥ = omega (arith, a.0) in absurd no) (λ a. a) at.invariant.3);
      words = (λ spread m before.
          let so_far = at.invariant.4 spread m before in
          reduced_alike _ _ _ _ _ _ _ _ _ _ _ refl (ap (take (length c.args.held.now)) at.invariant.2 ∙ take-length c.args.held.now) so_far);
    }
