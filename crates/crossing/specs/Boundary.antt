-- How each call's reply crosses to C. "Every answer is one struct by value whose first field is the refusal number, 0 for an
-- answer; in a refusal every other field is 0, but for the clock's state, which comes back as it was handed in."
--
--   set_of r ws        the set reader's reply, with the 256 spread words beside it
--   stretch_of r       a row call's reply: where the row stands in the caller's set
--   written_of r       a writer's reply: the length of the file
--   register_of m t i s  the register of width m, tap word t, inversion word i and state s
--   clocked_of r s     the clock's reply, for the state s that was handed in
--   signed_of r        a record's signature
--   listed_of r        the number of symbols
--   eliminated_of r    the elimination's rank and q
--   worded_of r        m and q of the call that gives the words
--   expected_to r      the expected bits of a list of words
--   planned_of r       planning's m, q and expected bits
--   read_of r          the plan reader's, which crosses as planning's does
--   judged_for b o     judging's cancelled bits b and outcome o: failed is 0 where it passes, and 1 where it fails at index
--   judged_of r        judging's reply: its cancelled bits and outcome
--   cutting_of r       cutting's number of runs and control bits
use Rattle.std.specs.Prelude.{List, ℕ}
use Rattle.word.specs.Reply.{Reply, answer, refusal}
use Rattle.set_file.specs.Reading.{SetParts}
use Rattle.slice_rows.specs.Rows.{Stretch}
use Rattle.elimination.specs.Elimination.{Counts}
use Rattle.planner.specs.Planning.{WordParts, PlanParts}
use Rattle.cutter.specs.Cutting.{CutParts}
use Rattle.plan_file.specs.Checking.{PlanFileParts}
use Rattle.judge.specs.Verdict.{Outcome, passes, fails_at, Finding}
use Rattle.register.specs.declared.Register.{Register}
use Rattle.crossing.specs.declared.CSet.{CSet}
use Rattle.crossing.specs.declared.CStretch.{CStretch}
use Rattle.crossing.specs.declared.CWritten.{CWritten}
use Rattle.crossing.specs.declared.CClocked.{CClocked}
use Rattle.crossing.specs.declared.CSigned.{CSigned}
use Rattle.crossing.specs.declared.CListed.{CListed}
use Rattle.crossing.specs.declared.CEliminated.{CEliminated}
use Rattle.crossing.specs.declared.CWorded.{CWorded}
use Rattle.crossing.specs.declared.CExpected.{CExpected}
use Rattle.crossing.specs.declared.CPlanned.{CPlanned}
use Rattle.crossing.specs.declared.CCutting.{CCutting}
use Rattle.crossing.specs.declared.CJudged.{CJudged}

abbrev pub set_of : Reply SetParts → List ℕ → CSet
set_of (answer p) ws = record { refusal = 0; m = p.m; taps = p.taps; inversion = p.inversion; n = p.n; s = p.s; spread = ws }
set_of (refusal k) ws = record { refusal = k; m = 0; taps = 0; inversion = 0; n = 0; s = 0; spread = ws }

abbrev pub stretch_of : Reply Stretch → CStretch
stretch_of (answer p) = record { refusal = 0; start = p.start; length = p.bytes }
stretch_of (refusal k) = record { refusal = k; start = 0; length = 0 }

abbrev pub written_of : Reply ℕ → CWritten
written_of (answer k) = record { refusal = 0; length = k }
written_of (refusal k) = record { refusal = k; length = 0 }

abbrev pub register_of : ℕ → ℕ → ℕ → ℕ → Register
register_of w t i s = record { m = w; taps = t; inversion = i; state = s }

abbrev pub clocked_of : Reply ℕ → ℕ → CClocked
clocked_of (answer t) s = record { refusal = 0; state = t }
clocked_of (refusal k) s = record { refusal = k; state = s }

abbrev pub signed_of : Reply ℕ → CSigned
signed_of (answer y) = record { refusal = 0; signature = y }
signed_of (refusal k) = record { refusal = k; signature = 0 }

abbrev pub listed_of : Reply ℕ → CListed
listed_of (answer u) = record { refusal = 0; count = u }
listed_of (refusal k) = record { refusal = k; count = 0 }

abbrev pub eliminated_of : Reply Counts → CEliminated
eliminated_of (answer p) = record { refusal = 0; rank = p.rank; q = p.q }
eliminated_of (refusal k) = record { refusal = k; rank = 0; q = 0 }

abbrev pub worded_of : Reply WordParts → CWorded
worded_of (answer p) = record { refusal = 0; m = p.m; q = p.q }
worded_of (refusal k) = record { refusal = k; m = 0; q = 0 }

abbrev pub planned_of : Reply PlanParts → CPlanned
planned_of (answer p) = record { refusal = 0; m = p.m; q = p.q; expected = p.expected }
planned_of (refusal k) = record { refusal = k; m = 0; q = 0; expected = 0 }

abbrev pub read_of : Reply PlanFileParts → CPlanned
read_of (answer p) = planned_of (answer (record { m = p.m; q = p.q; expected = p.expected }))
read_of (refusal k) = planned_of (refusal k)

abbrev pub expected_to : Reply ℕ → CExpected
expected_to (answer e) = record { refusal = 0; expected = e }
expected_to (refusal k) = record { refusal = k; expected = 0 }

abbrev pub judged_for : ℕ → Outcome → CJudged
judged_for b passes = record { refusal = 0; cancelled = b; failed = 0; index = 0 }
judged_for b (fails_at i) = record { refusal = 0; cancelled = b; failed = 1; index = i }

abbrev pub judged_of : Reply Finding → CJudged
judged_of (answer f) = judged_for f.cancelled f.outcome
judged_of (refusal k) = record { refusal = k; cancelled = 0; failed = 0; index = 0 }

abbrev pub cutting_of : Reply CutParts → CCutting
cutting_of (answer p) = record { refusal = 0; runs = p.runs; bits = p.bits }
cutting_of (refusal k) = record { refusal = k; runs = 0; bits = 0 }
