-- `print_lines` meets its contract: each way out by its law.
use mathlib.Core.Path.{◌≡◌, refl, sym}
use lib.Seq.{length-take-le}
use borrow.Author.Rules.{rules}
use Rattle.std.specs.Prelude.{Err}
use Rattle.signatures.proofs.TakenLaws.{unknowns_counted}
use Rattle.plan_text.proofs.PrintLaws.{unread, printed_words, prints_plan}
use Rattle.plan_text.proofs.print_lines.Goals as goal

pub returns-in_err-taken : goal.returns-in_err-taken
returns-in_err-taken c =
    let is : c.from_residual.result ≡ Err c.in_err-taken.field-0.0 = search rules in
    let left = unread _ c.args.working.now c.args.words.now _ c.in_err-taken.ensures.answer in
    record { lines = rw is (left.0, refl); working = left.1.0; words = left.1.1 }

pub returns-in_err-planned : goal.returns-in_err-planned
returns-in_err-planned c =
    let is : c.from_residual-in_err-planned.result ≡ Err c.in_err-planned.field-0.0 = search rules in
    let left = c.in_err-planned.ensures in
    record { lines = rw is (left.answer, refl); working = left.working; words = left.words }

-- the words stand in the word list
pub slice_bounds-put_word_lines-end-2 : goal.slice_bounds-put_word_lines-end-2
slice_bounds-put_word_lines-end-2 c =
    (printed_words _ c.args.working.now c.args.words.now _ _ _ c.in_ok-planned.ensures.answer _ c.in_ok-planned.ensures.words).0

pub slice_bounds-put_word_lines-end-3 : goal.slice_bounds-put_word_lines-end-3
slice_bounds-put_word_lines-end-3 c =
    sym (length-take-le _ _ (printed_words _ c.args.working.now c.args.words.now _ _ _ c.in_ok-planned.ensures.answer _ c.in_ok-planned.ensures.words).0)

pub returns : goal.returns
returns c =
    let taken = c.in_ok-taken.ensures.taken in
    let unknowns = unknowns_counted _ _ taken _ c.mark_rows.ensures _ c.count_marks-unknowns.ensures in
    let left = c.in_ok-planned.ensures in
    record {
      lines = prints_plan _ c.args.working.now c.args.words.now _ _ _ left.answer _ left.words _ _ _ taken.chains taken.slices unknowns c.args.out.now _ _ _ _ _ _
          (search rules) c.put_set_line-words_at.ensures c.put_word_lines-end_at.ensures c.put_end_line.ensures;
      working = left.working;
      words = left.words;
    }
