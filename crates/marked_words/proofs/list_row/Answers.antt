-- `list_row` meets its contract: the closure gives the marks of the row's words, masked where it has fewer chains.
use mathlib.Core.Path.{◌≡◌, ◌∙◌}
use Prim.Native.Nat.{ℕ, ◌-◌, ◌*◌}
use native.Mathlib.Omega.{arith}
use lib.Bits.{bit_and}
use lib.ListN.{length}
use borrow.Author.Rules.{rules}
use borrow.Author.Tests.{eqb-true}
use Rattle.word.specs.Word.{low_mask}
use Rattle.word.proofs.BoolLaws.{and_left}
use Rattle.numbers.specs.Bytes.{word_at}
use Rattle.marked_words.proofs.ListLaws.{masked_inside, word_inside, word_unmasked}
use Rattle.marked_words.proofs.list_row.Goals as goal
use Rattle.marked_words.proofs.list_row.Goals.{Then-chains-row}

chains : (c : Then-chains-row) → length c.args.words.now ≡ 256
chains c = eqb-true _ _ (and_left _ _ c.if-chains-row.true)

pub list_by-requires-clause-inside : goal.list_by-requires-clause-inside
list_by-requires-clause-inside c = λ i marks h p.
    let long = chains (goal.at.list_by-requires-clause-inside c).Then-chains-row in
    let e : marks ≡ word_at c.args.row.now (8 * i) = search rules in
    rw e (word_inside c.args.row.now (λ j. (c.type_inv.row j).fits) (length c.args.words.now) i (omega arith))

pub list_by-requires-2-clause-inside : goal.list_by-requires-2-clause-inside
list_by-requires-2-clause-inside c = λ i marks h p.
    let words = c.args.words.now in
    let e : marks ≡ bit_and (word_at c.args.row.now (8 * i)) (low_mask (length words - 64 * i)) = search rules in
    rw e (masked_inside words (64 * i) (word_at c.args.row.now (8 * i)))

pub returns-then-chains-row : goal.returns-then-chains-row
returns-then-chains-row c =
    let words = c.args.words.now in
    let long = chains (goal.at.returns-then-chains-row c).Then-chains-row in
    let bytes = λ (j : ℕ). (c.type_inv.row j).fits in
    let listed = c.list_by.ensures c.args.row.now bytes
    (λ i marks h p. let e : marks ≡ word_at c.args.row.now (8 * i) = search rules in e ∙ word_unmasked c.args.row.now bytes (length words) i (omega arith)) in
    record { value = listed.0; columns_after = listed.1 }

pub returns : goal.returns
returns c =
    let listed = c.list_by-2.ensures c.args.row.now (λ j. (c.type_inv.row j).fits) (λ i marks h p. search rules) in
    record { value = listed.0; columns_after = listed.1 }
