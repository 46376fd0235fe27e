-- `residue` meets its contract.
use Rattle.closed_words.proofs.ClosedLaws.{rested_marked}
use Rattle.closed_words.proofs.residue.Goals as goal

pub returns : goal.returns
returns c = λ ws all. rested_marked ws c.args.tops.now _ _ all c.xor_marked.ensures
