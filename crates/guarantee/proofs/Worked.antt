-- The starred lines of document 01, "Worked on paper", proved of the definitions as one table: each line through the reply of the
-- call that it is about; and behind them, worked by hand, the clock and the sample with an inversion word, 5, and planning in two calls:
-- the sample's words, and the expected bits of its own words, of others, and of lists that are refused; and the sample, and a set with several
-- runs, cut, by the call and in other ways; and a set with ties, and the sample with ties that are refused. Assumes nothing.
--
--   wrote r vs         what a call with the reply r writes to a lent list: vs after an answer
--   next r             the state that the clock's reply r gives
--   expected_in r       the expected bits in planning's reply r
--   bits_in r           the expected bits in the reply r of the call that gives them; a refusal's number twice
--   cut_in r            the number of runs and the control bits in cutting's reply r; a refusal's number alone
--   cut_into set k rs   1 where the runs rs are a cutting of the set for k words, 0 where they aren't
--   index_in r          judging's reply r as a list: nothing where the signature passes, the index where it fails
use mathlib.Core.Path.{◌≡◌, refl}
use mathlib.Core.Bool.{true, cond}
use mathlib.Core.List.{List, [], ◌∷◌}
use Prim.Native.Nat.{ℕ}
use lib.Count.{ones, ones_in, count_leading_zeros}
use lib.ListN.{replicate}
use Rattle.word.specs.Word.{parity, beyond, bad_width, highest_bit}
use Rattle.word.specs.Some.{any_of, all_of, any_below}
use Rattle.word.specs.Span.{xor_below}
use Rattle.word.specs.Parities.{parities}
use Rattle.word.specs.Reply.{Reply, answer, refusal, number_of, front, lent}
use Rattle.word.specs.Worked.{Line, agrees}
use Rattle.numbers.specs.Bytes.{number, number_at, words_at, bytes_of, word_bytes}
use Rattle.numbers.specs.Joined.{joined}
use Rattle.combinations.specs.Combination.{rank, rank_after, grown, x_free, only_empty}
use Rattle.combinations.specs.Reduced.{reduced_list, words_below, independent, made, xor_rows, is_reduced, ascending, tops_clear}
use Rattle.elimination.specs.Elimination.{Counts, elimination_tests, elimination_reply}
use Rattle.rows.specs.Row.{spare_set}
use Rattle.rows.specs.Marks.{total}
use Rattle.ties.specs.Ties.{wrong_cell, wrong_cells, precedes, wrong_order, wrong_sides}
use Rattle.ties.specs.Symbols.{names, naming_below, opens, named_symbols, first_marks}
use Rattle.chains.specs.Driven.{driven, bad_spread}
use Rattle.register.specs.Circuit.{advanced, clocked, bad_taps, bad_chains}
use Rattle.register.specs.Clock.{clock_tests, clock_reply, state_after}
use Rattle.register.specs.declared.Register.{Register}
use Rattle.set_layout.specs.Layout.{value_row, mark_row, tie_bytes}
use Rattle.set_file.specs.Reading.{bad_slices, set_tests}
use Rattle.signatures.specs.Signature.{runs, column}
use Rattle.signatures.specs.Columns.{slice_columns, columns_below}
use Rattle.signatures.specs.Symbols.{symbol_column, column_at, listing}
use Rattle.signatures.specs.Sets.{given, columns_of, symbols_of, named_of, unknowns_of, zero_signature}
use Rattle.columns.specs.Listing.{list_tests, list_reply}
use Rattle.expectation.specs.Expecting.{word_tests, expect_tests, expect_reply}
use Rattle.kept_words.specs.Working.{words_of}
use Rattle.planner.specs.Planning.{expected_of, words_reply, PlanParts, parts_of, earlier_tests, plan_tests, plan_reply}
use Rattle.cutter.specs.Greatest.{greatest}
use Rattle.cutter.specs.Cutting.{words_left, leaves, longest_end, starts_from, starts_for, bad_share, short_slice, starts_of, CutParts, cut_tests, cut_reply}
use Rattle.reduced_list.specs.WordCount.{bad_word_count}
use Rattle.plan_file.specs.Checking.{bad_plan_width, bad_plan_count, bad_plan_end, plan_file_tests}
use Rattle.plan_writer.specs.Writing.{plan_bytes}
use Rattle.judge.specs.Verdict.{Outcome, passes, fails_at, verdict_from, Finding, judge_tests, judge_reply}
use Rattle.guarantee.specs.Demand.{plan_file}
use Rattle.guarantee.specs.Cuttings.{Run, is_division, each_leaves, is_cutting, runs_from}

abbrev wrote : {A : Type 0} → Reply A → List ℕ → List ℕ
wrote r vs = lent r vs []

abbrev next : Reply ℕ → List ℕ
next r = state_after r 0 ∷ []

abbrev rank_in : Reply Counts → List ℕ
rank_in (answer c) = c.rank ∷ []
rank_in (refusal n) = []

abbrev expected_in : Reply PlanParts → List ℕ
expected_in (answer p) = p.expected ∷ []
expected_in (refusal n) = n ∷ n ∷ []

abbrev bits_in : Reply ℕ → List ℕ
bits_in (answer e) = e ∷ []
bits_in (refusal n) = n ∷ n ∷ []

abbrev cut_in : Reply CutParts → List ℕ
cut_in (answer p) = p.runs ∷ p.bits ∷ []
cut_in (refusal n) = n ∷ []

abbrev index_of : Outcome → List ℕ
index_of passes = []
index_of (fails_at i) = i ∷ []

abbrev index_in : Reply Finding → List ℕ
index_in (answer f) = index_of f.outcome
index_in (refusal n) = n ∷ n ∷ []

-- m 3, taps 3, this inversion word, with this state
abbrev holding : ℕ → ℕ → Register
holding v s = record { m = 3; taps = 3; inversion = v; state = s }

-- the sample of document 01, with the inversion word v of document 02, No. 1, and the bytes e behind its slices: 42 bytes and these
sample_with : ℕ → List ℕ → List ℕ
sample_with v e =
    3 ∷ 0 ∷ 3 ∷ 0 ∷ 0 ∷ 0 ∷ 0 ∷ 0 ∷ 0 ∷ 0 ∷ v ∷ 0 ∷ 0 ∷ 0 ∷ 0 ∷ 0 ∷ 0 ∷ 0 ∷ 2 ∷ 0 ∷ 1 ∷ 0 ∷ 0 ∷ 0 ∷ 0 ∷ 0 ∷ 0 ∷ 0 ∷ 4 ∷ 0 ∷ 0 ∷ 0 ∷ 0
    ∷ 0 ∷ 0 ∷ 0 ∷ 2 ∷ 0 ∷ 1 ∷ 2 ∷ 1 ∷ 0 ∷ e

-- the sample without ties; v is 0 in the sample itself
sample : ℕ → List ℕ
sample v = sample_with v (0 ∷ 0 ∷ [])

-- an entry of ties: the cell of slice t and chain c, symbol 5, and the side d
abbrev entry : ℕ → ℕ → ℕ → List ℕ → List ℕ
entry t c d e = t ∷ 0 ∷ c ∷ 0 ∷ 5 ∷ 0 ∷ d ∷ e

-- a set of three chains and four slices in a register of five bits with five unknown cells, of which three have symbol 7, the second of them as
-- its opposite, one has symbol 9 and one is free: samples/ties.set
tied : List ℕ
tied =
    5 ∷ 0 ∷ 5 ∷ 0 ∷ 0 ∷ 0 ∷ 0 ∷ 0 ∷ 0 ∷ 0 ∷ 0 ∷ 0 ∷ 0 ∷ 0 ∷ 0 ∷ 0 ∷ 0 ∷ 0 ∷ 3 ∷ 0 ∷ 1 ∷ 0 ∷ 0 ∷ 0 ∷ 0 ∷ 0 ∷ 0 ∷ 0 ∷ 6 ∷ 0 ∷ 0 ∷ 0 ∷ 0 ∷ 0 ∷ 0 ∷ 0 ∷ 16 ∷ 0 ∷ 0 ∷ 0 ∷ 0
    ∷ 0 ∷ 0 ∷ 0 ∷ 4 ∷ 0 ∷ 1 ∷ 2 ∷ 0 ∷ 6 ∷ 5 ∷ 2 ∷ 0 ∷ 4 ∷ 4 ∷ 0 ∷ 0 ∷ 0 ∷ 1 ∷ 0 ∷ 7 ∷ 0 ∷ 0 ∷ 1 ∷ 0 ∷ 1 ∷ 0 ∷ 7 ∷ 0 ∷ 1 ∷ 1 ∷ 0 ∷ 2 ∷ 0 ∷ 9 ∷ 0 ∷ 0 ∷ 2 ∷ 0 ∷ 1 ∷ 0
    ∷ 7 ∷ 0 ∷ 0 ∷ []

-- a set of three chains and eight slices in a register of four bits, which has no words as a whole: samples/runs.set
several : List ℕ
several =
    4 ∷ 0 ∷ 3 ∷ 0 ∷ 0 ∷ 0 ∷ 0 ∷ 0 ∷ 0 ∷ 0 ∷ 0 ∷ 0 ∷ 0 ∷ 0 ∷ 0 ∷ 0 ∷ 0 ∷ 0 ∷ 3 ∷ 0 ∷ 1 ∷ 0 ∷ 0 ∷ 0 ∷ 0 ∷ 0 ∷ 0 ∷ 0 ∷ 2 ∷ 0 ∷ 0 ∷ 0 ∷ 0 ∷ 0 ∷ 0 ∷ 0 ∷ 4 ∷ 0 ∷ 0 ∷ 0 ∷ 0 ∷ 0 ∷ 0 ∷ 0 ∷ 8 ∷ 0 ∷ 0 ∷ 4 ∷ 2 ∷ 1 ∷ 2 ∷ 0 ∷ 1 ∷ 4 ∷ 1 ∷ 2 ∷ 4 ∷ 1 ∷ 7 ∷ 0 ∷ 1 ∷ 2 ∷ 0 ∷ 0 ∷ []

-- the sample's register and chains without a slice: 40 bytes
sliceless : List ℕ
sliceless =
    3 ∷ 0 ∷ 3 ∷ 0 ∷ 0 ∷ 0 ∷ 0 ∷ 0 ∷ 0 ∷ 0 ∷ 0 ∷ 0 ∷ 0 ∷ 0 ∷ 0 ∷ 0 ∷ 0 ∷ 0 ∷ 2 ∷ 0 ∷ 1 ∷ 0 ∷ 0 ∷ 0 ∷ 0 ∷ 0 ∷ 0 ∷ 0 ∷ 4 ∷ 0 ∷ 0 ∷ 0 ∷ 0 ∷ 0 ∷ 0 ∷ 0 ∷ 0 ∷ 0 ∷ 0 ∷ 0 ∷ []

-- the run of the slices a to b - 1
abbrev run : ℕ → ℕ → Run
run a b = record { first = a; end = b }

abbrev cut_into : List ℕ → ℕ → List Run → List ℕ
cut_into set k rs = cond (is_cutting (given set) k rs) 1 0 ∷ []

-- what judging gives for the plan made of the sample and the signature y
abbrev sample_judged : ℕ → ℕ → Reply Finding
sample_judged v y = judge_reply (plan_file (sample v) (parts_of (sample v))) y

-- .. of that set, with its two named symbols, and y
abbrev tied_judged : ℕ → Reply Finding
tied_judged y = judge_reply (plan_file tied (parts_of tied)) y

pub worked : List Line
worked =
    record { given = wrote (elimination_reply 6 (27 ∷ 2 ∷ 54 ∷ 32 ∷ []) 64) (reduced_list 6 (27 ∷ 2 ∷ 54 ∷ 32 ∷ [])); printed = 9 ∷ 21 ∷ [] }
    ∷ record { given = wrote (elimination_reply 4 (14 ∷ 9 ∷ []) 64) (reduced_list 4 (14 ∷ 9 ∷ [])); printed = 6 ∷ 11 ∷ [] }
    ∷ record { given = wrote (elimination_reply 3 [] 64) (reduced_list 3 []); printed = 1 ∷ 2 ∷ 4 ∷ [] }
    ∷ record { given = wrote (elimination_reply 2 (0 ∷ []) 64) (reduced_list 2 (0 ∷ [])); printed = 1 ∷ 2 ∷ [] }
    ∷ record { given = rank_in (elimination_reply 3 (replicate 512 7) 64); printed = 1 ∷ [] }
    ∷ record { given = wrote (elimination_reply 3 (replicate 512 7) 64) (reduced_list 3 (replicate 512 7)); printed = 3 ∷ 5 ∷ [] }
    ∷ record { given = number_of (elimination_reply 1 (1 ∷ []) 64) ∷ []; printed = 17 ∷ [] }
    ∷ record { given = next (clock_reply (holding 0 4) (1 ∷ 4 ∷ []) (0 ∷ [])); printed = 3 ∷ [] }
    ∷ record { given = next (clock_reply (holding 0 7) (1 ∷ 4 ∷ []) (0 ∷ [])); printed = 5 ∷ [] }
    ∷ record { given = wrote (list_reply (sample 0) 1) (columns_of (sample 0)); printed = 3 ∷ [] }
    ∷ record { given = wrote (plan_reply (sample 0) 64 2) (words_of (sample 0)); printed = 3 ∷ 4 ∷ [] }
    ∷ record { given = expected_in (plan_reply (sample 0) 64 2); printed = 0 ∷ [] }
    ∷ record { given = index_in (sample_judged 0 3); printed = [] }
    ∷ record { given = index_in (sample_judged 0 0); printed = [] }
    ∷ record { given = index_in (sample_judged 0 1); printed = 0 ∷ [] }
    ∷ record { given = index_in (sample_judged 0 7); printed = 1 ∷ [] }
    ∷ record { given = next (clock_reply (holding 5 4) (1 ∷ 4 ∷ []) (0 ∷ [])); printed = 6 ∷ [] }
    ∷ record { given = wrote (plan_reply (sample 5) 64 2) (words_of (sample 5)); printed = 3 ∷ 4 ∷ [] }
    ∷ record { given = expected_in (plan_reply (sample 5) 64 2); printed = 2 ∷ [] }
    ∷ record { given = index_in (sample_judged 5 7); printed = [] }
    ∷ record { given = index_in (sample_judged 5 4); printed = [] }
    ∷ record { given = index_in (sample_judged 5 3); printed = 1 ∷ [] }
    ∷ record { given = wrote (words_reply (sample 0) 64 2) (words_of (sample 0)); printed = 3 ∷ 4 ∷ [] }
    ∷ record { given = bits_in (expect_reply (sample 0) (3 ∷ 4 ∷ [])); printed = 0 ∷ [] }
    ∷ record { given = bits_in (expect_reply (sample 0) (1 ∷ 2 ∷ 4 ∷ [])); printed = 3 ∷ [] }
    ∷ record { given = bits_in (expect_reply (sample 0) []); printed = 20 ∷ 20 ∷ [] }
    ∷ record { given = bits_in (expect_reply (sample 0) (4 ∷ 3 ∷ 2 ∷ 1 ∷ [])); printed = 20 ∷ 20 ∷ [] }
    ∷ record { given = bits_in (expect_reply (sample 0) (4 ∷ 3 ∷ [])); printed = 21 ∷ 21 ∷ [] }
    ∷ record { given = bits_in (expect_reply (sample 5) (1 ∷ 2 ∷ 4 ∷ [])); printed = 7 ∷ [] }
    ∷ record { given = wrote (cut_reply (sample 0) 2 1) (starts_of (sample 0) 2); printed = 0 ∷ [] }
    ∷ record { given = cut_in (cut_reply (sample 0) 2 1); printed = 1 ∷ 6 ∷ [] }
    ∷ record { given = cut_in (cut_reply (sample 0) 0 1); printed = 26 ∷ [] }
    ∷ record { given = cut_in (cut_reply (sample 0) 4 1); printed = 26 ∷ [] }
    ∷ record { given = cut_in (cut_reply (sample 0) 3 0); printed = 27 ∷ [] }
    ∷ record { given = cut_in (cut_reply (sample 0) 2 0); printed = 28 ∷ [] }
    ∷ record { given = wrote (cut_reply several 2 3) (starts_of several 2); printed = 0 ∷ 4 ∷ 7 ∷ [] }
    ∷ record { given = cut_in (cut_reply several 2 3); printed = 3 ∷ 24 ∷ [] }
    ∷ record { given = cut_in (cut_reply several 4 8); printed = 27 ∷ [] }
    ∷ record { given = cut_into several 2 (runs_from 8 (0 ∷ 4 ∷ 7 ∷ [])); printed = 1 ∷ [] }
    ∷ record { given = cut_into several 2 (runs_from 8 (0 ∷ 1 ∷ 5 ∷ [])); printed = 1 ∷ [] }
    ∷ record { given = cut_into several 2 (runs_from 8 (0 ∷ 4 ∷ [])); printed = 0 ∷ [] }
    ∷ record { given = cut_into several 2 (run 1 5 ∷ run 5 8 ∷ []); printed = 0 ∷ [] }
    ∷ record { given = cut_into several 2 (run 0 4 ∷ run 4 7 ∷ []); printed = 0 ∷ [] }
    ∷ record { given = cut_into several 2 (run 0 4 ∷ run 3 5 ∷ run 5 8 ∷ []); printed = 0 ∷ [] }
    ∷ record { given = cut_into several 2 (run 0 4 ∷ run 4 4 ∷ run 4 7 ∷ run 7 8 ∷ []); printed = 0 ∷ [] }
    ∷ record { given = cut_into several 2 []; printed = 0 ∷ [] }
    ∷ record { given = cut_in (cut_reply sliceless 3 0); printed = 0 ∷ 0 ∷ [] }
    ∷ record { given = cut_into sliceless 3 []; printed = 1 ∷ [] }
    ∷ record { given = wrote (list_reply tied 3) (columns_of tied); printed = 1 ∷ 10 ∷ 16 ∷ [] }
    ∷ record { given = number_of (list_reply tied 2) ∷ []; printed = 14 ∷ [] }
    ∷ record { given = wrote (plan_reply tied 66 2) (words_of tied); printed = 4 ∷ 10 ∷ [] }
    ∷ record { given = expected_in (plan_reply tied 66 2); printed = 3 ∷ [] }
    ∷ record { given = number_of (plan_reply tied 65 2) ∷ []; printed = 14 ∷ [] }
    ∷ record { given = bits_in (expect_reply tied (1 ∷ 2 ∷ 4 ∷ 8 ∷ 16 ∷ [])); printed = 23 ∷ [] }
    ∷ record { given = index_in (tied_judged 23); printed = [] }
    ∷ record { given = index_in (tied_judged 22); printed = [] }
    ∷ record { given = index_in (tied_judged 2); printed = 0 ∷ [] }
    ∷ record { given = wrote (cut_reply tied 1 2) (starts_of tied 1); printed = 0 ∷ 3 ∷ [] }
    ∷ record { given = cut_in (cut_reply tied 1 2); printed = 2 ∷ 10 ∷ [] }
    ∷ record { given = bits_in (expect_reply (sample_with 0 (1 ∷ 0 ∷ entry 0 1 1 [])) (1 ∷ 2 ∷ 4 ∷ [])); printed = 0 ∷ [] }
    ∷ record { given = number_of (list_reply (sample_with 0 []) 1) ∷ []; printed = 8 ∷ [] }
    ∷ record { given = number_of (list_reply (sample_with 0 (1 ∷ 0 ∷ [])) 1) ∷ []; printed = 8 ∷ [] }
    ∷ record { given = number_of (list_reply (sample_with 0 (0 ∷ 0 ∷ entry 0 1 0 [])) 1) ∷ []; printed = 8 ∷ [] }
    ∷ record { given = number_of (list_reply (sample_with 0 (1 ∷ 0 ∷ entry 0 0 0 [])) 1) ∷ []; printed = 29 ∷ [] }
    ∷ record { given = number_of (list_reply (sample_with 0 (1 ∷ 0 ∷ entry 2 1 0 [])) 1) ∷ []; printed = 29 ∷ [] }
    ∷ record { given = number_of (list_reply (sample_with 0 (2 ∷ 0 ∷ entry 0 1 0 (entry 0 0 0 []))) 1) ∷ []; printed = 29 ∷ [] }
    ∷ record { given = number_of (list_reply (sample_with 0 (2 ∷ 0 ∷ entry 0 1 0 (entry 0 1 2 []))) 1) ∷ []; printed = 30 ∷ [] }
    ∷ record { given = number_of (list_reply (sample_with 0 (1 ∷ 0 ∷ entry 0 1 2 [])) 1) ∷ []; printed = 31 ∷ [] }
    ∷ []

pub worked_agrees : agrees worked ≡ true
unfolding worked sample_with sample tied wrong_cells wrong_cell wrong_order precedes wrong_sides names naming_below opens named_symbols first_marks symbol_column column_at listing xor_below tie_bytes named_of symbols_of several sliceless is_cutting is_division each_leaves runs_from cut_reply cut_tests bad_share short_slice starts_of starts_for starts_from longest_end leaves words_left greatest elimination_reply elimination_tests clock_reply clock_tests list_reply list_tests set_tests expect_reply expect_tests word_tests words_reply plan_reply plan_tests earlier_tests judge_reply judge_tests plan_file_tests plan_file plan_bytes bad_width bad_taps bad_chains bad_spread bad_slices bad_plan_width bad_plan_count bad_plan_end bad_word_count spare_set beyond any_below any_of all_of front number number_at words_at bytes_of word_bytes joined parities parity ones ones_in highest_bit count_leading_zeros rank rank_after grown x_free only_empty reduced_list words_below independent made xor_rows is_reduced ascending tops_clear advanced driven clocked value_row mark_row runs column slice_columns columns_below columns_of unknowns_of total zero_signature words_of expected_of verdict_from
worked_agrees = refl
