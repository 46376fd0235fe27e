-- `go_down` meets its contract.
use mathlib.Core.Path.{refl}
use Prim.Native.Nat.{◌-◌, min}
use native.Mathlib.Omega.{arith}
use Rattle.marked_rows.proofs.LastLaws.{last_le}
use Rattle.portions.proofs.PortionLaws.{words_passed}
use Rattle.portions.proofs.go_down.Goals as goal

pub returns-then-is_over : goal.returns-then-is_over
returns-then-is_over c =
    let args = c.args in record {
      down = omega (arith, c.marked_end.ensures, last_le args.list.now args.source.marks (args.t - 1));
      advances = (λ z. let no : ⊥ = omega (arith, z, c.if-is_over.true) in absurd no);
      passes = (λ z. let no : ⊥ = omega (arith, z, c.if-is_over.true) in absurd no);
      skips = (λ z. (c.marked_end.ensures, refl));
    }

pub returns-then-count-lt-TABLE_ENTRIES : goal.returns-then-count-lt-TABLE_ENTRIES
returns-then-count-lt-TABLE_ENTRIES c = record {
  down = omega arith;
  advances = (λ z. (refl, c.advance_words.ensures));
  passes = (λ z. let no : ⊥ = omega (arith, z, c.if-count-lt-TABLE_ENTRIES.true) in absurd no);
  skips = (λ z. let no : ⊥ = omega (arith, z, c.if-count-lt-TABLE_ENTRIES.true) in absurd no);
}

pub returns : goal.returns
returns c =
    let args = c.args in record {
      down = omega arith;
      advances = (λ z. let no : ⊥ = omega (arith, z, c.if-count-lt-TABLE_ENTRIES.false) in absurd no);
      passes = (λ z. (refl, words_passed (min args.source.register.m 64) _ args.t _ _ args.powers.now args.words.now _ c.slice_limit.ensures c.saturating_sub-clocks.ensures c.pass_slice.ensures z));
      skips = (λ z. let no : ⊥ = omega (arith, z, c.if-is_over.false) in absurd no);
    }
