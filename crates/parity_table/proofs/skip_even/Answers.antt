-- `skip_even` meets its contract: by the words' own table the first column that doesn't give 0 is the first that is odd with one of them.
use Rattle.parity_table.proofs.SkipLaws.{table_run_from}
use Rattle.parity_table.proofs.skip_even.Goals as goal

pub returns : goal.returns
returns c = table_run_from _ c.fill_parities.new.table _ _ _ c.fill_parities.ensures (λ i. (c.type_inv.columns i).fits) c.skip_by_table.ensures
