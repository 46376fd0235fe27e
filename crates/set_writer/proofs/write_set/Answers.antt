-- `write_set` meets its contract, in a refusal and where it writes.
use borrow.Author.Rules.{rules}
use Rattle.set_content.specs.Content.{SetContent, set_content}
use Rattle.set_writer.proofs.FileLaws.{writes_refused, written_chains, written_slices, written_count, writes_done}
use Rattle.set_writer.proofs.write_set.Goals as goal
use Rattle.set_writer.proofs.write_set.Goals.{Start}

-- what the writer is handed
abbrev handed : Start → SetContent
handed c =
    let given = c.args in
    set_content given.m given.taps given.inversion given.spread.now given.values.now given.marks.now given.s given.ties.now

pub returns-in_err-check_content : goal.returns-in_err-check_content
returns-in_err-check_content c =
    let k = handed (goal.at.returns-in_err-check_content c).Start in
    let writes = writes_refused k c.args.out.now c.from_residual.result _ (search rules) c.in_err-check_content.ensures in
    record { answer = writes.0; file = writes.1 }

pub overflow_cast-n : goal.overflow_cast-n
overflow_cast-n c = record { fits = written_chains (handed (goal.at.overflow_cast-n c).Start) c.args.out.now c.in_ok-check_content.ensures }

pub overflow_cast-slices : goal.overflow_cast-slices
overflow_cast-slices c = record { fits = written_slices (handed (goal.at.overflow_cast-slices c).Start) c.args.out.now c.in_ok-check_content.ensures }

pub overflow_cast-count : goal.overflow_cast-count
overflow_cast-count c = record { fits = written_count (handed (goal.at.overflow_cast-count c).Start) c.args.out.now c.in_ok-check_content.ensures }

pub write_head-requires : goal.write_head-requires
write_head-requires c = written_chains (handed (goal.at.write_head-requires c).Start) c.args.out.now c.in_ok-check_content.ensures

pub returns : goal.returns
returns c =
    let k = handed (goal.at.returns c).Start in
    let writes =
    writes_done k c.args.out.now c.in_ok-check_content.ensures _ _ _ _ c.set_length.ensures c.write_head.ensures c.write_slices.ensures c.write_ties.ensures
    in
    record { answer = writes.0; file = writes.1 }
