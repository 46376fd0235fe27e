-- `put_slice` meets its contract: the slice joins the run, or opens one.
use Rattle.run_words.proofs.TurnLaws.{put_joined, put_opened}
use borrow.Author.Rules.{rules}
use Rattle.run_words.proofs.put_slice.Goals as goal

pub returns-then-is_enough : goal.returns-then-is_enough
returns-then-is_enough c =
    record { one = search rules; turn = (λ width h held. put_joined _ _ _ _ _ _ _ _ h c.take_columns.ensures held c.held_count-left.ensures c.if-is_enough.true) }

pub returns : goal.returns
returns c =
    record {
      one = search rules;
      turn = (λ width h held.
          put_opened _ _ _ _ _ _ _ _ _ _ _ h c.take_columns.ensures held c.held_count-left.ensures c.if-is_enough.false (c.open_run.ensures width)
          c.held_count.ensures);
    }
