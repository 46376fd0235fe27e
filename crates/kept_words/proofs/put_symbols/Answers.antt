-- `put_symbols` meets its contract: there are none, there is no room for them, or they are written.
use mathlib.Core.Path.{sym}
use Prim.Native.Nat.{◌≤◌}
use native.Mathlib.Omega.{arith}
use lib.Seq.{length-take-le}
use Rattle.kept_words.proofs.PutLaws.{few_flags, put_none, put_short, put_part}
use borrow.Author.Rules.{rules}
use Rattle.kept_words.proofs.put_symbols.Goals as goal
use Rattle.kept_words.proofs.put_symbols.Goals.{After-count_flags-symbols}

pub returns-then-entries-eq0 : goal.returns-then-entries-eq0
returns-then-entries-eq0 c = record { few = omega arith; symbols = (λ taken. put_none _ _ taken c.args.working.now _ c.tie_count-entries.ensures c.if-entries-eq0.true) }

pub slice_bounds-count_flags-end : goal.slice_bounds-count_flags-end
slice_bounds-count_flags-end c = sym (length-take-le _ _ (search rules))

-- at most 256 flags are counted
few : (c : After-count_flags-symbols) → c.count_flags-symbols.result ≤ 256
few c =
    few_flags c.opening_flags-flags.result c.tie_limit-limit.result _ (omega (arith, c.tie_limit-limit.ensures)) c.count_flags-symbols.ensures

pub overflow_add-end : goal.overflow_add-end
overflow_add-end c = omega (arith, few (goal.at.overflow_add-end c).After-count_flags-symbols)

pub returns-then-working-end : goal.returns-then-working-end
returns-then-working-end c = record {
  few = few (goal.at.returns-then-working-end c).After-count_flags-symbols;
  symbols = (λ taken.
      put_short _ _ taken c.args.working.now _ c.tie_count-entries.ensures _ _ _ _ c.tie_bytes-ties.ensures c.tie_limit-limit.ensures (search rules)
      c.opening_flags-flags.ensures.flags c.count_flags-symbols.ensures c.if-working-end.true);
}

pub returns : goal.returns
returns c = record {
  few = few (goal.at.returns c).After-count_flags-symbols;
  symbols = (λ taken.
      put_part _ _ taken c.args.working.now _ c.tie_count-entries.ensures _ _ _ _ c.tie_bytes-ties.ensures c.tie_limit-limit.ensures (search rules)
      c.opening_flags-flags.ensures.flags c.count_flags-symbols.ensures _ c.if-working-end.false c.fill_symbols.ensures);
}
