-- `sign_rows` meets its contract: the chains past the 256th drive nothing.
use borrow.Author.Rules.{rules}
use Rattle.rows.specs.Lists.{cells_of}
use Rattle.signing.proofs.RunLaws.{signed_limited}
use Rattle.signing.proofs.sign_rows.Goals as goal

pub returns : goal.returns
returns c =
    let args = c.args in
    let taken = args.taken in
    signed_limited taken.register.m taken.register.taps taken.register.inversion taken.n c.chain_limit-chains.result _ taken.s taken.spread
    (cells_of args.list.now args.rows) c.sign_slices.ensures c.chain_limit-chains.ensures (search rules)
