-- `reduce_marked` meets its contract: by single clocks, by eights of them, or by the powers of the register.
use mathlib.Core.Path.{◌≡◌, refl, sym, ◌∙◌}
use native.Mathlib.Omega.{arith}
use Prim.Native.Nat.{◌≤◌, min}
use mathlib.Core.Bool.{not}
use lib.ListN.{length, take, length-take}
use Rattle.word.proofs.BoolLaws.{or_false_right}
use Rattle.powers.proofs.PowerLaws.{later_same}
use Rattle.eight_clocks.proofs.EightLaws.{eight_on_same}
use Rattle.sparse_columns.specs.Cost.{ones_pay}
use Rattle.set_words.specs.Working.{taken_words}
use Rattle.set_words.proofs.ReduceLaws.{starts_swept, starts_eights, starts_sparse, limited_words, limited_few}
use borrow.Author.Rules.{rules}
use Rattle.set_words.proofs.reduce_marked.Goals as goal
use Rattle.set_words.proofs.reduce_marked.Goals.{After-chain_limit-chains}

-- the words of the set's chains
own_words : (c : After-chain_limit-chains) → take c.chain_limit-chains.result c.args.taken.spread ≡ take c.args.taken.n c.args.taken.spread
own_words c = limited_words _ _ _ _ c.chain_limit-chains.ensures (refl, search rules)

few_words : (c : After-chain_limit-chains) → length (take c.args.taken.n c.args.taken.spread) ≤ 256
few_words c = limited_few c.args.taken.n _ _ (refl, search rules)

pub reduce_all-requires : goal.reduce_all-requires
reduce_all-requires c = (c.requires, omega (arith, length-take c.chain_limit-chains.result c.args.taken.spread, c.chain_limit-chains.ensures))

pub returns-then-register-lt-EIGHT_BITS : goal.returns-then-register-lt-EIGHT_BITS
unfolding taken_words
returns-then-register-lt-EIGHT_BITS c =
    let reduced = c.reduce_all in
    record { left = reduced.ensures.left; words = (λ start. reduced.ensures.words _ _ (starts_swept _ _ _ _ _ _ _ (omega arith) (few_words (goal.at.returns-then-register-lt-EIGHT_BITS c).After-chain_limit-chains) (omega arith) (own_words (goal.at.returns-then-register-lt-EIGHT_BITS c).After-chain_limit-chains) start refl)) }

pub reduce_all-requires-then-needs_sweep : goal.reduce_all-requires-then-needs_sweep
reduce_all-requires-then-needs_sweep c = (c.requires, omega (arith, length-take c.chain_limit-chains.result c.args.taken.spread, c.chain_limit-chains.ensures))

pub returns-then-needs_sweep : goal.returns-then-needs_sweep
unfolding taken_words
returns-then-needs_sweep c =
    let taken = c.args.taken in
    let table = c.eight_on-table in
    let wide : 8 ≤ min taken.register.m 64 = omega (arith, c.if-register-lt-EIGHT_BITS.false) in
    let reduced = c.reduce_all-then-needs_sweep in
    record {
      left = reduced.ensures.left;
      words = (λ start.
          reduced.ensures.words _ _
          (starts_eights _ _ _ _ _ _ _ (omega arith) (few_words (goal.at.returns-then-needs_sweep c).After-chain_limit-chains) (omega arith) (own_words (goal.at.returns-then-needs_sweep c).After-chain_limit-chains) start (search rules) wide
          (eight_on_same _ _ taken.register.inversion (take taken.n taken.spread) table.result (table.ensures wide))));
    }

pub reduce_all-requires-2 : goal.reduce_all-requires-2
reduce_all-requires-2 c = (c.requires, omega (arith, length-take c.chain_limit-chains.result c.args.taken.spread, c.chain_limit-chains.ensures))

pub returns : goal.returns
unfolding taken_words
returns c =
    let taken = c.args.taken in
    let reduced = c.reduce_all-2 in
    record {
      left = reduced.ensures.left;
      words = (λ start.
          reduced.ensures.words _ _
          (starts_sparse _ _ _ _ _ _ _ (omega arith) (few_words (goal.at.returns c).After-chain_limit-chains) (omega arith) (own_words (goal.at.returns c).After-chain_limit-chains) start (search rules)
          (λ i l. c.powers-powers.ensures i l l ∙ later_same _ _ taken.register.inversion (take taken.n taken.spread) i 1)
          (or_false_right (not (ones_pay _ taken.n taken.s)) _ (sym c.needs_sweep.ensures ∙ c.if-needs_sweep.false))));
    }
