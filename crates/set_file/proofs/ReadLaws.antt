-- Each way out of the set reader, and what its answer says of a set:
--
--   taken_set          a set that an answer with the reader's three equations takes is the file's
--   refused_set        the number of a refused set is the first of its tests that applies
-- Assumes nothing.
use mathlib.Core.Path.{◌≡◌, refl, sym, ap, ◌∙◌}
use mathlib.Core.List.{List}
use Prim.Native.Nat.{ℕ, ◌≤◌, min}
use native.Mathlib.Omega.{arith}
use lib.ListN.{length, take, drop}
use lib.Seq.{take_at}
use Rattle.std.specs.Prelude.{Result, Ok, Err, IfOk}
use Rattle.refusals.specs.declared.Refusal.{Refusal}
use Rattle.refusals.specs.Refusals.{number}
use Rattle.refusals.proofs.RefusalLaws.{refused_call_leaves, answered_call_writes}
use Rattle.word.specs.Reply.{Reply, answer, refusal, first_of, front, lent}
use Rattle.word.proofs.TestLaws.{replied_answer}
use Rattle.set_layout.specs.Layout.{width_of, taps_of, inversion_of, chains_of, spread_of, slices_of, no_words}
use Rattle.set_layout.proofs.LayoutLaws.{spread_length}
use Rattle.set_file.specs.Reading.{SetParts, set_tests, set_parts_of, set_reply, spread_beside, said, words_beside, start_of, TakenFrom}
use Rattle.set_file.specs.declared.Taken.{Taken}
use Rattle.set_file.proofs.Laws.{accepted, accepted_width, accepted_chains, set_answers, set_refusal_first}

-- what the reader answers, r
pub record Reads (set : List ℕ) (r : Result Taken Refusal) : Type 0 where
  pub answer : said r ≡ set_reply set
  pub spread : words_beside r ≡ spread_beside set
  pub start : start_of r ≡ 0
  pub taken : IfOk r (TakenFrom set)

abbrev parts_of : Taken → SetParts
parts_of k = record { m = k.register.m; taps = k.register.taps; inversion = k.register.inversion; n = k.n; s = k.s }

refuses : (set : List ℕ) (e : Refusal) → number e ≡ first_of (set_tests set) → Reads set (Err e)
unfolding spread_beside set_reply
refuses set e h =
    let out = refused_call_leaves parts_of (Err e) e (first_of (set_tests set)) (set_parts_of set) (spread_of set) no_words refl h in
    record { answer = out.0; spread = out.1; start = refl; taken = tt }

pub reads_refused : (set : List ℕ) (r : Result Taken Refusal) (e : Refusal) → r ≡ Err e → number e ≡ first_of (set_tests set) → Reads set r
reads_refused set r e is h = rw is (refuses set e h)

-- ---- a set that is taken: k's fields are those of the set

pub record Fields (set : List ℕ) (k : Taken) : Type 0 where
  pub width : k.register.m ≡ width_of set
  pub taps : k.register.taps ≡ taps_of set
  pub inversion : k.register.inversion ≡ inversion_of set
  pub start : k.register.state ≡ 0
  pub chains : k.n ≡ chains_of set
  pub slices : k.s ≡ slices_of set
  pub words : chains_of set ≤ 256 → k.spread ≡ front (spread_of set) no_words

module _ (set : List ℕ) (k : Taken) (none : 0 ≡ first_of (set_tests set)) (f : Fields set k) where
  words_there : k.spread ≡ front (spread_of set) no_words
  words_there = f.words (accepted_chains set (accepted set (sym none))).1

  taken : TakenFrom set k
  unfolding front
  taken =
      let words : take k.n k.spread ≡ spread_of set =
      ap (take k.n) words_there ∙ take_at (spread_of set) (drop (length (spread_of set)) no_words) k.n (spread_length set ∙ sym f.chains)
      in
      let few : min k.register.m 64 ≡ width_of set = omega (arith, f.width, (accepted_width set (accepted set (sym none))).1) in
      record {
        none = sym none;
        width = f.width;
        taps = f.taps;
        inversion = f.inversion;
        start = f.start;
        chains = f.chains;
        slices = f.slices;
        spread = words;
        circuit = rw (few, f.taps, f.inversion, words);
      }

  pub reads_taken : Reads set (Ok k)
  unfolding spread_beside set_reply
  reads_taken =
      let parts : parts_of k ≡ set_parts_of set = rw (f.width, f.taps, f.inversion, f.chains, f.slices) in
      let out =
      answered_call_writes (first_of (set_tests set)) (set_parts_of set) (parts_of k) (spread_of set) no_words k.spread none parts words_there
      in
      record { answer = out.0; spread = out.1; start = f.start; taken = taken }

-- ---- an answer that meets the reader's equations takes the file's set

pub taken_set : (set : List ℕ) (r : Result Taken Refusal) (k : Taken) → said r ≡ set_reply set → words_beside r ≡ spread_beside set → start_of r ≡ 0 → r ≡ Ok k
    → TakenFrom set k
unfolding spread_beside set_reply
taken_set set r k says spread start is =
    let said_parts : set_reply set ≡ answer (parts_of k) = sym says ∙ ap said is in
    let known = replied_answer (first_of (set_tests set)) (set_parts_of set) (parts_of k) said_parts in
    let beside : k.spread ≡ front (spread_of set) no_words =
    sym (ap words_beside is) ∙ spread ∙ ap (λ (x : Reply SetParts). lent x (spread_of set) no_words) (set_answers set known.0)
    in
    taken set k (sym known.0)
    (record {
      width = ap (λ (p : SetParts). p.m) known.1;
      taps = ap (λ (p : SetParts). p.taps) known.1;
      inversion = ap (λ (p : SetParts). p.inversion) known.1;
      start = sym (ap start_of is) ∙ start;
      chains = ap (λ (p : SetParts). p.n) known.1;
      slices = ap (λ (p : SetParts). p.s) known.1;
      words = λ h. beside;
    })

-- ---- a refused set

pub refused_set : (set : List ℕ) (n : ℕ) → refusal n ≡ set_reply set → n ≡ first_of (set_tests set)
refused_set set n h = sym (set_refusal_first set n (sym h))
