use mathlib.Core.Path.{refl, sym, ap₂}
use Prim.Native.Nat.{ℕ, ◌+◌, ◌*◌}
use native.Mathlib.Omega.{arith}
use Rattle.joint_marks.proofs.JointLaws.{words_start, words_turn, words_end, place_inside}
use Rattle.joint_marks.proofs.unmarked_words.Goals as goal

pub loop-j-init : goal.loop-j-init
loop-j-init c = (refl, λ r a s b. words_start _ (λ i. (c.type_inv.list i).fits) r _ refl)

pub take_out_row-requires : goal.take_out_row-requires
take_out_row-requires c = place_inside c.args.rows.at c.args.rows.stride c.args.t _ c.loop-j.j c.requires.1 (omega arith)

pub loop-j-preserved : goal.loop-j-preserved
loop-j-preserved c =
    let at = c.loop-j in (
      c.take_out_row.array_long,
      (λ r ea es eb.
          words_turn _ (λ i. (c.type_inv.list i).fits) r at.j _ at.cells c.take_out_row.new.cells (at.invariant.1 r ea es eb) eb
          (ap₂ (λ (a b : ℕ). a + b * at.j) (sym ea) (sym es)) c.take_out_row.ensures),
    )

pub returns : goal.returns
returns c = words_end _ c.args.rows c.loop-j.j _ c.loop-j.cells (c.loop-j.invariant.1 c.args.rows refl refl c.requires.0) (omega arith)
