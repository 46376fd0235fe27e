-- `add_next` meets its contract: by a table, or by itself.
use Rattle.set_words.proofs.ReduceLaws.{front_words, fewer_words, reduced_portion}
use Rattle.set_words.proofs.add_next.Goals as goal

pub add_by_table-requires : goal.add_by_table-requires
add_by_table-requires c = (c.requires.0, c.requires.1, c.is_table_worth.ensures c.if-is_table_worth.true)

pub returns : goal.returns
returns c =
    let args = c.args in
    let filled = c.fill_portion-portion in
    let added = c.add_columns-left in
    record {
      left = fewer_words _ args.held.now _ added.ensures.count;
      less = (λ some. filled.ensures.less c.requires.0 c.requires.1 some);
      words = (λ spread m so_far.
          reduced_portion _ _ _ _ _ _ _ _ _ _ _ _ _ so_far (filled.ensures.portion spread so_far.few so_far.ready)
          (front_words filled.new.columns args.held.now _ _ _ added.ensures.count added.ensures.list));
    }
