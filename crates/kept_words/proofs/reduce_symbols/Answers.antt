-- `reduce_symbols` meets its contract: the words of the free cells, and then the columns of the named symbols.
use mathlib.Core.Path.{sym}
use native.Mathlib.Omega.{arith}
use lib.ListN.{length-take}
use lib.Seq.{length-take-le}
use Rattle.set_words.proofs.ReduceLaws.{fewer_words}
use Rattle.signatures.proofs.TakenLaws.{whole}
use Rattle.kept_words.proofs.JoinLaws.{symbols_reduced}
use borrow.Author.Rules.{rules}
use Rattle.kept_words.proofs.reduce_symbols.Goals as goal

pub returns-then-working-lt-WORKING_PLACES : goal.returns-then-working-lt-WORKING_PLACES
returns-then-working-lt-WORKING_PLACES c = record { left = omega arith; words = (λ taken room. let clash : ⊥ = omega (arith, c.if-working-lt-WORKING_PLACES.true, room) in absurd clash) }

pub slice_bounds-reduce_free-end-2 : goal.slice_bounds-reduce_free-end-2
slice_bounds-reduce_free-end-2 c = sym (length-take-le 64 c.args.working.now (search rules))

pub slice_bounds-add_columns-end-2 : goal.slice_bounds-add_columns-end-2
slice_bounds-add_columns-end-2 c = sym (length-take-le _ _ (search rules))

pub returns : goal.returns
returns c =
    let args = c.args in
    let reduced = c.reduce_free-free in
    let added = c.add_columns in
    record {
      left = omega (arith, fewer_words _ _ _ added.ensures.count, length-take reduced.result reduced.new.held, reduced.ensures.left);
      words = (λ taken room behind start.
          let free = reduced.ensures.words taken (omega (arith, length-take-le 64 args.working.now room)) start in
          symbols_reduced _ (whole _ _ taken) args.working.now reduced.new.working reduced.new.held _ reduced.result _ room behind reduced.auto.working free.1 added.ensures.count added.ensures.list);
    }
