-- Cutting a response into runs. Document 02, No. 5: "From the marks alone, cut the slices into runs, each clocked from zero, each leaving at
-- least k words. Every run is the longest that does so from its start. The answer is the first slice of each run, the number of runs, and
-- the control bits in all, m × k for each run. [..] A set without slices has no runs. Each run is later judged as a set of its own. Errors:
-- 26 for k not 1 to m; 27 for a slice that alone leaves fewer than k; 28 for a cut list too short; in that order after 10." Document 02, No. 7:
-- "The cutter goes on with every cell free".
--
--   alone g a b          what is given of the slices a to b - 1, every unknown cell free: a response of its own, the run from a up to b
--   words_left g a b      the words that this run leaves: m less the rank of its own columns
--   leaves g k a b       .. are at least k
--   longest_end g k a     where the longest run from a on ends that leaves at least k words: the greatest b up to s
--   starts_from g k j a   the first slices of the runs from slice a on, of at most j runs
--   starts_for g k        the first slice of each run
--   bad_share m k         document 02, 26: k isn't 1 to m
--   short_slice g k       document 02, 27: a slice alone leaves fewer than k words
--   RunOf g k a          what is promised of a run that is listed, from a on
--   starts_of set k       the first slice of each run of a set
--   CutParts             what the call answers: the number of runs and the control bits
--   cut_tests set k room  the numbers that the call meets, in order, for a cut list of `room` places
--   cut_reply set k room  its reply
--   cuts_after set k l    the cut list l at exit
--   said_cut c            the paper's reading of what the call hands back
use Rattle.std.specs.Prelude.{Bool, cond, ◌||◌, List, [], ◌∷◌, ◌++◌, ℕ, zero, suc, ◌+◌, ◌-◌, ◌*◌, ◌≤◌, ◌<◌, leb, ltb, length, Result}
use Rattle.word.specs.Some.{any_below}
use Rattle.word.specs.Reply.{Test, ◌when◌, Reply, reply, lent}
use Rattle.combinations.specs.Combination.{rank}
use Rattle.set_layout.specs.Layout.{width_of}
use Rattle.set_file.specs.Reading.{set_tests}
use Rattle.ties.specs.Ties.{no_ties}
use Rattle.signatures.specs.Given.{Given}
use Rattle.signatures.specs.Free.{free_columns_for}
use Rattle.signatures.specs.Sets.{given}
use Rattle.cutter.specs.Greatest.{greatest}
use Rattle.cutter.specs.declared.Cutting.{Cutting}
use Rattle.refusals.specs.declared.Refusal.{Refusal}
use Rattle.refusals.specs.Refusals.{replied_by}

abbrev pub alone : Given → ℕ → ℕ → Given
alone g a b =
    record { wiring = g.wiring; slices = b - a; values = λ t. g.values (a + t); marks = λ t. g.marks (a + t); ties = no_ties }

unfoldable pub words_left : Given → ℕ → ℕ → ℕ
words_left g a b = g.wiring.width - rank (free_columns_for (alone g a b))

unfoldable pub leaves : Given → ℕ → ℕ → ℕ → Bool
leaves g k a b = leb k (words_left g a b)

unfoldable pub longest_end : Given → ℕ → ℕ → ℕ
longest_end g k a = greatest g.slices (leaves g k a)

-- each run begins where the one before it ends, and the last ends with the last slice
unfoldable pub starts_from : Given → ℕ → ℕ → ℕ → List ℕ
starts_from g k zero a = []
starts_from g k (suc j) a = cond (ltb a g.slices) (a ∷ starts_from g k j (longest_end g k a)) []

-- from slice 0 on; a run has at least one slice, so there are at most s
unfoldable pub starts_for : Given → ℕ → List ℕ
starts_for g k = starts_from g k g.slices 0

unfoldable pub bad_share : ℕ → ℕ → Bool
bad_share m k = ltb k 1 || ltb m k

unfoldable pub short_slice : Given → ℕ → Bool
short_slice g k = any_below g.slices (λ t. ltb (words_left g t (suc t)) k)

-- what is promised of each run that is listed, from a on: it has a slice, it ends no later than the response and leaves at least k words, and
-- none that begins there and ends later does (proofs/Theorems.antt, each_run)
pub record RunOf (g : Given) (k a : ℕ) : Type 0 where
  pub inside : a < g.slices
  pub some : a < longest_end g k a
  pub within : longest_end g k a ≤ g.slices
  pub enough : k ≤ words_left g a (longest_end g k a)
  pub longest : (b : ℕ) → longest_end g k a < b → b ≤ g.slices → words_left g a b < k

-- ---- the call

unfoldable pub starts_of : List ℕ → ℕ → List ℕ
starts_of set k = starts_for (given set) k

pub record CutParts : Type 0 where
  pub runs : ℕ
  pub bits : ℕ

abbrev pub cut_parts_of : List ℕ → ℕ → CutParts
cut_parts_of set k = record { runs = length (starts_of set k); bits = width_of set * k * length (starts_of set k) }

-- the set's numbers, then 26, 27 and 28
unfoldable pub cut_tests : List ℕ → ℕ → ℕ → List Test
cut_tests set k room =
    set_tests set
    ++ 26 when bad_share (width_of set) k
    ∷ 27 when short_slice (given set) k
    ∷ 28 when ltb room (length (starts_of set k))
    ∷ []

unfoldable pub cut_reply : List ℕ → ℕ → ℕ → Reply CutParts
cut_reply set k room = reply (cut_tests set k room) (cut_parts_of set k)

abbrev pub cuts_after : List ℕ → ℕ → List ℕ → List ℕ
cuts_after set k l = lent (cut_reply set k (length l)) (starts_of set k) l

abbrev pub said_cut : Result Cutting Refusal → Reply CutParts
said_cut = replied_by (λ (c : Cutting). record { runs = c.runs; bits = c.bits })
