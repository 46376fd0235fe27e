-- `sign_slices` meets its contract, by each of the three ways.
use Prim.Native.Nat.{◌≤◌}
use native.Mathlib.Omega.{arith}
use borrow.Author.Tests.{ltb-false}
use lib.Dec.{ltb}
use Rattle.word.proofs.BoolLaws.{or_false_left, or_false_right}
use Rattle.slice_signing.proofs.RunLaws.{signed_fresh}
use Rattle.slice_signing.proofs.sign_slices.Goals as goal
use Rattle.slice_signing.proofs.sign_slices.Goals.{Else-is_few}

-- where the drives are listed, no slice stands past their places
few : (c : Else-is_few) → c.args.s ≤ 512
few c = ltb-false _ _ (or_false_right (ltb c.args.s 192) _ (or_false_left _ _ c.if-is_few.false))

pub returns-then-s-spread : goal.returns-then-s-spread
returns-then-s-spread c = let fresh = c.fresh-register in signed_fresh _ _ _ _ _ _ _ _ _ _ c.sign_by_cells.ensures (fresh.ensures.0, fresh.ensures.1, fresh.ensures.2)

pub sign_by_half_bytes-requires : goal.sign_by_half_bytes-requires
sign_by_half_bytes-requires c =
    (c.fresh-register.ensures.3, ltb-false _ _ (or_false_right (ltb c.args.s 8) _ c.if-s-spread.false))

pub returns-then-is_few : goal.returns-then-is_few
returns-then-is_few c = let fresh = c.fresh-register in signed_fresh _ _ _ _ _ _ _ _ _ _ c.sign_by_half_bytes.ensures (fresh.ensures.0, fresh.ensures.1, fresh.ensures.2)

pub sign_by_drives-requires : goal.sign_by_drives-requires
sign_by_drives-requires c = (c.fresh-register.ensures.3, omega (arith, few (goal.at.sign_by_drives-requires c).Else-is_few))

pub returns : goal.returns
returns c =
    let args = c.args in
    let fresh = c.fresh-register in
    signed_fresh _ _ _ _ _ _ _ _ _ _ (c.sign_by_drives.ensures args.spread.now args.list.now args.rows (λ t h. c.slice_drives-driven.ensures t (omega (arith, few (goal.at.returns c).Else-is_few)))) (fresh.ensures.0, fresh.ensures.1, fresh.ensures.2)
