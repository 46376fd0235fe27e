-- `check_set` meets its contract: one test for each number, in the order of the list.
use Rattle.set_file.proofs.CodeLaws.{wrong_length_counted, tied_counted}
use Rattle.set_file.specs.Reading.{wrong_length, valued_in_rows, set_tests}
use Rattle.word.proofs.ReplyLaws.{refusals}
use Rattle.word.specs.Reply.{first_of}
use Rattle.ties.specs.Ties.{tie_tests}
use Rattle.set_layout.specs.Layout.{chains_of, slices_of, marks, tie_count_of, ties_of}
use Rattle.set_layout.proofs.LayoutLaws.{tie_count_of_lem}
use mathlib.Core.Path.{◌≡◌, sym, ◌∙◌}
use Prim.Native.Nat.{ℕ}
use borrow.Author.Tests.{ltb-false}
use Rattle.set_file.proofs.check_set.Goals as goal
use Rattle.set_file.proofs.check_set.Goals.{After-has_valued_unknown, After-has_wrong_length, After-tie_count_of-count, Else-has_valued_unknown}

pub returns-then-is_short : goal.returns-then-is_short
unfolding set_tests
returns-then-is_short c = search refusals depth 24 fits 40000

pub returns-then-has_bad_width : goal.returns-then-has_bad_width
unfolding set_tests
returns-then-has_bad_width c = search refusals depth 24 fits 40000

pub returns-then-has_bad_taps : goal.returns-then-has_bad_taps
unfolding set_tests
returns-then-has_bad_taps c = search refusals depth 24 fits 40000

pub returns-then-has_bad_inversion : goal.returns-then-has_bad_inversion
unfolding set_tests
returns-then-has_bad_inversion c = search refusals depth 24 fits 40000

pub returns-then-has_bad_chains : goal.returns-then-has_bad_chains
unfolding set_tests
returns-then-has_bad_chains c = search refusals depth 24 fits 40000

pub returns-then-ends_in_spread : goal.returns-then-ends_in_spread
unfolding set_tests
returns-then-ends_in_spread c = search refusals depth 24 fits 40000

pub returns-then-has_bad_spread : goal.returns-then-has_bad_spread
unfolding set_tests
returns-then-has_bad_spread c = search refusals depth 24 fits 40000

pub returns-then-has_bad_slices : goal.returns-then-has_bad_slices
unfolding set_tests
returns-then-has_bad_slices c = search refusals depth 24 fits 40000

-- the count of ties as it was read, and number 8 with it
counted : (c : After-tie_count_of-count) → c.tie_count_of-count.result ≡ tie_count_of c.args.set.now
counted c = tie_count_of_lem _ _ _ c.chain_count-n.ensures c.slice_count-s.ensures _ c.tie_count_of-count.ensures

measured : (c : After-has_wrong_length) → c.has_wrong_length.result ≡ wrong_length c.args.set.now
measured c =
    let counted : c.tie_count_of-count.result ≡ tie_count_of c.args.set.now = (tie_count_of_lem _ _ _ c.chain_count-n.ensures c.slice_count-s.ensures _ c.tie_count_of-count.ensures) in
    wrong_length_counted _ _ _ _ _ c.chain_count-n.ensures c.slice_count-s.ensures (counted)
    c.has_wrong_length.ensures

pub returns-then-has_wrong_length : goal.returns-then-has_wrong_length
unfolding set_tests
returns-then-has_wrong_length c = let long = measured (goal.at.returns-then-has_wrong_length c).After-has_wrong_length in search refusals depth 24 fits 40000

pub returns-then-has_spare_bits : goal.returns-then-has_spare_bits
unfolding set_tests
returns-then-has_spare_bits c = let long = measured (goal.at.returns-then-has_spare_bits c).After-has_wrong_length in search refusals depth 24 fits 40000

-- number 10, once 8 and 9 don't apply
valued : (c : After-has_valued_unknown) → c.has_valued_unknown.result ≡ valued_in_rows c.args.set.now
valued c =
    let counted : c.tie_count_of-count.result ≡ tie_count_of c.args.set.now = (tie_count_of_lem _ _ _ c.chain_count-n.ensures c.slice_count-s.ensures _ c.tie_count_of-count.ensures) in
    let measured : c.has_wrong_length.result ≡ wrong_length c.args.set.now = (wrong_length_counted _ _ _ _ _ c.chain_count-n.ensures c.slice_count-s.ensures (counted)
    c.has_wrong_length.ensures) in
    c.has_valued_unknown.ensures (sym (measured) ∙ c.if-has_wrong_length.false) (sym c.has_spare_bits.ensures ∙ c.if-has_spare_bits.false)

pub returns-then-has_valued_unknown : goal.returns-then-has_valued_unknown
unfolding set_tests
returns-then-has_valued_unknown c =
    let long = measured (goal.at.returns-then-has_valued_unknown c).After-has_wrong_length in
    let unknown = valued (goal.at.returns-then-has_valued_unknown c).After-has_valued_unknown in
    search refusals depth 24 fits 40000

passed : (c : Else-has_valued_unknown) (x : ℕ) → x ≡ first_of (tie_tests (slices_of ((c.args.set.now))) (chains_of ((c.args.set.now))) (marks ((c.args.set.now))) (ties_of ((c.args.set.now))))
    → x ≡ first_of (set_tests ((c.args.set.now)))
unfolding set_tests
passed c x last =
    let counted : c.tie_count_of-count.result ≡ tie_count_of c.args.set.now = (tie_count_of_lem _ _ _ c.chain_count-n.ensures c.slice_count-s.ensures _ c.tie_count_of-count.ensures) in
    let measured : c.has_wrong_length.result ≡ wrong_length c.args.set.now = (wrong_length_counted _ _ _ _ _ c.chain_count-n.ensures c.slice_count-s.ensures (counted)
    c.has_wrong_length.ensures) in
    let valued : c.has_valued_unknown.result ≡ valued_in_rows c.args.set.now = (c.has_valued_unknown.ensures (sym (measured) ∙ c.if-has_wrong_length.false) (sym c.has_spare_bits.ensures ∙ c.if-has_spare_bits.false)) in
    let long = measured in
    let unknown = valued in
    search refusals depth 24 fits 40000

pub returns : goal.returns
returns c =
    passed (goal.at.returns c).Else-has_valued_unknown _ (tied_counted _ _ _ (counted (goal.at.returns c).After-tie_count_of-count) c.check_ties.ensures)

pub has_bad_spread-requires : goal.has_bad_spread-requires
has_bad_spread-requires c = ltb-false _ _ (sym c.ends_in_spread.ensures ∙ c.if-ends_in_spread.false)
