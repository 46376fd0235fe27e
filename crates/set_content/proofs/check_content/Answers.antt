-- `check_content` meets its contract: one test for each number, in the order of the list.
use Rattle.set_content.proofs.ContentLaws.{chains_small, slices_small, count_small, valued_of_lists, Last, last_tied, last_short, last_none}
use mathlib.Core.Path.{◌≡◌, ap, ◌∙◌}
use Rattle.std.specs.Prelude.{Err}
use Rattle.refusals.specs.Refusals.{refused}
use Prim.Native.Nat.{ℕ}
use Rattle.word.specs.Reply.{first_of}
use Rattle.set_content.specs.Content.{set_content, content_chains, valued_in_lists, set_write_tests}
use Rattle.word.proofs.ReplyLaws.{refusals}
use borrow.Author.Rules.{rules}
use Rattle.set_content.proofs.check_content.Goals as goal
use Rattle.set_content.proofs.check_content.Goals.{After-share_a_bit, Else-share_a_bit}

pub returns-then-is_bad_width : goal.returns-then-is_bad_width
unfolding set_write_tests
returns-then-is_bad_width c = search refusals depth 24 fits 40000

pub returns-then-is_bad_taps : goal.returns-then-is_bad_taps
unfolding set_write_tests
returns-then-is_bad_taps c = search refusals depth 24 fits 40000

pub returns-then-is_beyond : goal.returns-then-is_beyond
unfolding set_write_tests
returns-then-is_beyond c = search refusals depth 24 fits 40000

pub returns-then-is_bad_chains : goal.returns-then-is_bad_chains
unfolding set_write_tests
returns-then-is_bad_chains c = search refusals depth 24 fits 40000

pub returns-then-is_bad_spread : goal.returns-then-is_bad_spread
unfolding set_write_tests
returns-then-is_bad_spread c = search refusals depth 24 fits 40000

pub returns-then-is_bad_slices : goal.returns-then-is_bad_slices
unfolding set_write_tests
returns-then-is_bad_slices c = search refusals depth 24 fits 40000

pub overflow_cast-n : goal.overflow_cast-n
overflow_cast-n c = record { fits = chains_small _ _ c.is_bad_chains.ensures c.if-is_bad_chains.false }

pub overflow_cast-slices : goal.overflow_cast-slices
overflow_cast-slices c = record { fits = slices_small _ _ c.is_bad_slices.ensures c.if-is_bad_slices.false }

pub returns-then-are_bad_lists : goal.returns-then-are_bad_lists
unfolding set_write_tests
returns-then-are_bad_lists c = search refusals depth 24 fits 40000

pub returns-then-has_spare_list : goal.returns-then-has_spare_list
unfolding set_write_tests
returns-then-has_spare_list c = search refusals depth 24 fits 40000

valued : (c : After-share_a_bit) → c.share_a_bit.result ≡ valued_in_lists ((
    let entry = c.args in
    set_content entry.m entry.taps entry.inversion entry.spread.now entry.values.now entry.marks.now entry.s entry.ties.now))
valued c =
    let k = (
    let entry = c.args in
    set_content entry.m entry.taps entry.inversion entry.spread.now entry.values.now entry.marks.now entry.s entry.ties.now) in
    valued_of_lists (content_chains k) k.s k.values k.marks _ _ _ _ c.are_bad_lists.ensures c.if-are_bad_lists.false
    c.has_spare_list.ensures c.if-has_spare_list.false (λ i. (c.shared_slice_known-3-1.given i).fits) c.share_a_bit.ensures

pub returns-then-share_a_bit : goal.returns-then-share_a_bit
unfolding set_write_tests
returns-then-share_a_bit c = let shared = valued (goal.at.returns-then-share_a_bit c).After-share_a_bit in search refusals depth 24 fits 40000

pub overflow_cast-count : goal.overflow_cast-count
overflow_cast-count c =
    record {
      fits = count_small ((
          let entry = c.args in
          set_content entry.m entry.taps entry.inversion entry.spread.now entry.values.now entry.marks.now entry.s entry.ties.now)) _ c.are_bad_lists.ensures c.if-are_bad_lists.false;
    }

passed : (c : Else-share_a_bit) (x : ℕ) → Last ((
    let entry = c.args in
    set_content entry.m entry.taps entry.inversion entry.spread.now entry.values.now entry.marks.now entry.s entry.ties.now)) ((c.args.room)) x → x ≡ first_of (set_write_tests ((
    let entry = c.args in
    set_content entry.m entry.taps entry.inversion entry.spread.now entry.values.now entry.marks.now entry.s entry.ties.now)) ((c.args.room)))
unfolding set_write_tests
passed c x last =
    let valued : c.share_a_bit.result ≡ valued_in_lists ((
    let entry = c.args in
    set_content entry.m entry.taps entry.inversion entry.spread.now entry.values.now entry.marks.now entry.s entry.ties.now)) = (let k = (
    let entry = c.args in
    set_content entry.m entry.taps entry.inversion entry.spread.now entry.values.now entry.marks.now entry.s entry.ties.now) in
    valued_of_lists (content_chains k) k.s k.values k.marks _ _ _ _ c.are_bad_lists.ensures c.if-are_bad_lists.false
    c.has_spare_list.ensures c.if-has_spare_list.false (λ i. (c.shared_slice_known-3-1.given i).fits) c.share_a_bit.ensures) in
    let shared = valued in search refusals depth 24 fits 40000

pub returns-in_err-check_ties : goal.returns-in_err-check_ties
returns-in_err-check_ties c =
    let kept : c.from_residual.result ≡ Err c.in_err-check_ties.field-0.0 = search rules in
    ap refused kept
    ∙ passed (goal.at.returns-in_err-check_ties c).Else-share_a_bit _ (last_tied ((
    let entry = c.args in
    set_content entry.m entry.taps entry.inversion entry.spread.now entry.values.now entry.marks.now entry.s entry.ties.now)) c.args.room _ c.in_err-check_ties.ensures)

pub returns-then-lacks_room : goal.returns-then-lacks_room
returns-then-lacks_room c =
    passed (goal.at.returns-then-lacks_room c).Else-share_a_bit _
    (last_short ((
    let entry = c.args in
    set_content entry.m entry.taps entry.inversion entry.spread.now entry.values.now entry.marks.now entry.s entry.ties.now)) c.args.room c.in_ok-check_ties.ensures _ c.lacks_room.ensures c.if-lacks_room.true)

pub returns : goal.returns
returns c =
    passed (goal.at.returns c).Else-share_a_bit _
    (last_none ((
    let entry = c.args in
    set_content entry.m entry.taps entry.inversion entry.spread.now entry.values.now entry.marks.now entry.s entry.ties.now)) c.args.room c.in_ok-check_ties.ensures _ c.lacks_room.ensures c.if-lacks_room.false)
