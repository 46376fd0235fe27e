use mathlib.Core.Path.{refl, sym, ◌∙◌}
use native.Mathlib.Omega.{arith}
use Rattle.run_words.proofs.TurnLaws.{none_held}
use Rattle.cutter.proofs.SliceLaws.{earlier_words_none, held_starts, slice_passed, held_all}
use borrow.Author.Rules.{rules}
use Rattle.cutter.proofs.pass_slices.Goals as goal

pub loop-t-init : goal.loop-t-init
loop-t-init c =
    let singles = c.single_bits-basis.ensures in
    record {
      few = search rules;
      starts = c.requires.2;
      words = refl;
      columns = refl;
      width = c.width_limit-width.ensures;
      undone = (λ right. earlier_words_none _ _);
      held = (λ sound right some. held_starts _ sound _ some _ _ _ (none_held _ _ singles.words singles.dead));
    }

pub slice_bounds-next_columns-end : goal.slice_bounds-next_columns-end
slice_bounds-next_columns-end c = sym c.loop-t.invariant.columns

pub returns-then-leaves_too_few : goal.returns-then-leaves_too_few
returns-then-leaves_too_few c =
    let known = c.loop-t.invariant in
    let listed = c.next_columns-place in
    let put = c.put_slice-turn in
    let passed =
    slice_passed _ _ _ _ _ _ _ c.loop-t.runs _ _ c.args.words.now c.loop-t.words _ c.loop-t.columns _ _ _ _ _ c.loop-t.starts _ listed.ensures
    (put.ensures.turn (omega (arith, known.width))) known.undone (omega arith) (omega (arith, known.few, known.starts, c.requires.0)) (omega (arith, known.words, known.columns, c.requires.1))
    (listed.auto.columns ∙ known.columns) known.width
    in
    λ sound right some. passed.short sound right some (known.held sound right some) c.if-leaves_too_few.true

pub overflow_add-runs : goal.overflow_add-runs
overflow_add-runs c = omega (arith, c.loop-t.invariant.few, c.put_slice-turn.ensures.one, c.requires.0)

pub loop-t-preserved : goal.loop-t-preserved
loop-t-preserved c =
    let known = c.loop-t.invariant in
    let listed = c.next_columns-place in
    let put = c.put_slice-turn in
    let passed =
    slice_passed _ _ _ _ _ _ _ c.loop-t.runs _ _ c.args.words.now c.loop-t.words _ c.loop-t.columns _ _ _ _ _ c.loop-t.starts _ listed.ensures
    (put.ensures.turn (omega (arith, known.width))) known.undone (omega arith) (omega (arith, known.few, known.starts, c.requires.0)) (omega (arith, known.words, known.columns, c.requires.1))
    (listed.auto.columns ∙ known.columns) known.width
    in
    record {
      few = omega (arith, known.few, put.ensures.one);
      starts = search rules;
      words = listed.auto.words ∙ known.words;
      columns = listed.auto.columns ∙ known.columns;
      width = known.width;
      undone = (λ right. passed.words right);
      held = (λ sound right some. passed.next sound right some (known.held sound right some) (search rules));
    }

pub returns : goal.returns
returns c =
    let known = c.loop-t.invariant in
    λ sound right some.
    held_all _ sound _ _ _ _ _ _ some (omega arith) (omega (arith, known.few, c.requires.0)) known.starts (known.held sound right some)
