-- The set reader. Document 01: "The set reader answers with m, the tap word, n, s and 256 spread words, zero from n on"; "A word later
-- added to the set's register section is answered by the set reader", the inversion word of document 02, No. 1, whose 25 is "checked
-- after 3" and with which refusal 1 "now means fewer than 18 bytes"; "An array that belongs to an answer stands beside it and is all
-- zero in a refusal"; the register "starts at zero". Document 02, No. 7: "Refusal 8 takes in the new section, and a count that is absent or
-- above 256"; 29, 30 and 31 "in that order directly after 10".
--
--   bad_slices set        document 01, 7: the slice count is absent or above 512
--   wrong_length set      document 02, 8: the set's length isn't what its counts give, or the count of ties is above 256. Where that count is
--                        absent, the length isn't what the counts give either: it takes 2 bytes
--   spare_in_rows set      document 01, 9: a row of the set has a spare bit set
--   valued_in_rows set     document 01, 10: an unknown cell has its value bit set
--   wrong_ties set        document 02, 29: an entry names a cell that is absent or not unknown
--   set_tests set         the numbers 1, 2, 3, 25, 4 to 10, and 29 to 31, in order
--   SetParts             what the reader answers
--   set_parts_of set       .. of the set: m, the tap word, the inversion word, n and s
--   set_reply set         its reply
--   spread_beside set     the 256 words beside the reply: the spread words and zeros after an answer, zeros after a refusal
--   said a               the paper's reading of what the reader answers
--   start_of a            the state of the register that it hands back; 0 of a refusal
--   words_beside a        the words that stand beside it: the spread words that it hands back; zeros of a refusal
--   taken_circuit k       the register and the chains of a taken set
--   TakenFrom set k      the taken set k is what the file `set`, which meets none of the numbers, gives
use Rattle.std.specs.Prelude.{◌≡◌, Bool, not, ◌||◌, List, [], ◌∷◌, ℕ, min, eqb, ltb, length, take, Result, Ok, Err}
use Rattle.word.specs.Word.{bad_width}
use Rattle.word.specs.Reply.{Test, ◌when◌, Reply, first_of, reply, lent}
use Rattle.rows.specs.Lists.{spare_in, valued_unknown}
use Rattle.ties.specs.Ties.{most_ties, wrong_cells, wrong_order, wrong_sides}
use Rattle.register.specs.Circuit.{Circuit, circuit, bad_taps, bad_inversion, bad_chains, too_many_slices}
use Rattle.chains.specs.Driven.{bad_spread}
use Rattle.set_layout.specs.Layout.{chains_at, spread_at, slices_at, head_length, set_length, width_of, taps_of, inversion_of, chains_of, spread_of, slices_of, circuit_of, value_row, mark_row, marks, tie_count_of, ties_of, no_words}
use Rattle.set_file.specs.declared.Taken.{Taken}
use Rattle.refusals.specs.declared.Refusal.{Refusal}
use Rattle.refusals.specs.Refusals.{replied_by}

unfoldable pub bad_slices : List ℕ → Bool
bad_slices set = ltb (length set) (head_length (chains_of set)) || too_many_slices (slices_of set)

abbrev pub wrong_length : List ℕ → Bool
wrong_length set = ltb most_ties (tie_count_of set) || not (eqb (length set) (set_length (chains_of set) (slices_of set) (tie_count_of set)))

abbrev pub spare_in_rows : List ℕ → Bool
spare_in_rows set = spare_in (chains_of set) (value_row set) (slices_of set) || spare_in (chains_of set) (mark_row set) (slices_of set)

abbrev pub valued_in_rows : List ℕ → Bool
valued_in_rows set = valued_unknown (chains_of set) (value_row set) (mark_row set) (slices_of set)

abbrev pub wrong_ties : List ℕ → Bool
wrong_ties set = wrong_cells (slices_of set) (chains_of set) (marks set) (ties_of set)

unfoldable pub set_tests : List ℕ → List Test
set_tests set =
    1 when ltb (length set) chains_at
    ∷ 2 when bad_width (width_of set)
    ∷ 3 when bad_taps (width_of set) (taps_of set)
    ∷ 25 when bad_inversion (width_of set) (inversion_of set)
    ∷ 4 when (ltb (length set) spread_at || bad_chains (chains_of set))
    ∷ 5 when ltb (length set) (slices_at (chains_of set))
    ∷ 6 when bad_spread (width_of set) (spread_of set)
    ∷ 7 when bad_slices set
    ∷ 8 when wrong_length set
    ∷ 9 when spare_in_rows set
    ∷ 10 when valued_in_rows set
    ∷ 29 when wrong_ties set
    ∷ 30 when wrong_order (ties_of set)
    ∷ 31 when wrong_sides (ties_of set)
    ∷ []

pub record SetParts : Type 0 where
  pub m : ℕ
  pub taps : ℕ
  pub inversion : ℕ
  pub n : ℕ
  pub s : ℕ

abbrev pub set_parts_of : List ℕ → SetParts
set_parts_of set = record { m = width_of set; taps = taps_of set; inversion = inversion_of set; n = chains_of set; s = slices_of set }

unfoldable pub set_reply : List ℕ → Reply SetParts
set_reply set = reply (set_tests set) (set_parts_of set)

unfoldable pub spread_beside : List ℕ → List ℕ
spread_beside set = lent (set_reply set) (spread_of set) no_words

abbrev pub said : Result Taken Refusal → Reply SetParts
said = replied_by (λ (k : Taken). record { m = k.register.m; taps = k.register.taps; inversion = k.register.inversion; n = k.n; s = k.s })

abbrev pub start_of : Result Taken Refusal → ℕ
start_of (Ok k) = k.register.state
start_of (Err e) = 0

abbrev pub words_beside : Result Taken Refusal → List ℕ
words_beside (Ok k) = k.spread
words_beside (Err e) = no_words

abbrev pub taken_circuit : Taken → Circuit
taken_circuit k = circuit (min k.register.m 64) k.register.taps k.register.inversion (take k.n k.spread)

pub record TakenFrom (set : List ℕ) (k : Taken) : Type 0 where
  pub none : first_of (set_tests set) ≡ 0
  pub width : k.register.m ≡ width_of set
  pub taps : k.register.taps ≡ taps_of set
  pub inversion : k.register.inversion ≡ inversion_of set
  pub start : k.register.state ≡ 0
  pub chains : k.n ≡ chains_of set
  pub slices : k.s ≡ slices_of set
  pub spread : take k.n k.spread ≡ spread_of set
  pub circuit : taken_circuit k ≡ circuit_of set
