-- `pass_slices` meets its contract. The loop's invariant: the runs of the first `t` slices stand at the front of `starts`, the words that
-- the last of them leaves beside the basis, and the chains' words are undone one clock for each of those slices, in eights.
use mathlib.Core.Path.{◌≡◌}
use Prim.Native.Nat.{◌≤◌, min}
use lib.ListN.{length}
use Rattle.unclocking.specs.Unclocked.{EightBack}
use Rattle.slice_columns.specs.Frame.{eights}
use Rattle.slice_columns.proofs.FrameLaws.{earlier_words}
use Rattle.cutter.specs.Turns.{Sound, seen}
use Rattle.cutter.proofs.SliceLaws.{CutHeld}
use Rattle.cutter.proofs.pass_slices.Given as goal

abbrev pub invariant-loop-t : goal.invariant-loop-t
invariant-loop-t l =
    record {
      few : l.runs ≤ l.t;
      starts : length l.starts ≡ 512;
      words : length l.words ≡ length l.initial.words;
      columns : length l.columns ≡ 256;
      width : l.width ≡ min l.register.m 64;
      undone : EightBack (seen l.register l.initial.words l.slices l.list l.marks).wiring l.table → l.words ≡ earlier_words (seen l.register l.initial.words l.slices l.list l.marks).wiring (eights l.t) l.initial.words;
      held : Sound (seen l.register l.initial.words l.slices l.list l.marks).wiring → EightBack (seen l.register l.initial.words l.slices l.list l.marks).wiring l.table → 1 ≤ l.k → CutHeld (seen l.register l.initial.words l.slices l.list l.marks) l.k l.t l.runs l.basis.words l.basis.dead l.starts;
    }
