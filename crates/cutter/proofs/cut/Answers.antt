-- `cut` meets its contract: each way out by its law.
use mathlib.Core.Path.{◌≡◌, refl, sym}
use mathlib.Core.Bool.{false}
use native.Mathlib.Omega.{arith}
use Prim.Native.Nat.{◌*◌, ◌^◌, ◌≤◌, ◌<◌}
use lib.ListN.{length}
use lib.Seq.{length-take-le}
use borrow.Author.Rules.{rules}
use Rattle.std.specs.Prelude.{Ok}
use Rattle.set_layout.specs.Layout.{width_of}
use Rattle.set_file.proofs.Laws.{accepted, accepted_width}
use Rattle.cutter.specs.Cutting.{bad_share}
use Rattle.cutter.proofs.CallLaws.{ends_set, own_share, share_range, bits_fit, ends_26, Passed, ends_27, runs_few, ends_28, ends_runs}
use Rattle.cutter.proofs.cut.Goals as goal
use Rattle.cutter.proofs.cut.Goals.{Else-is_bad_share, In_ok-runs}

pub returns-in_err-taken : goal.returns-in_err-taken
returns-in_err-taken c =
    let ends = ends_set _ c.args.cuts.now c.args.k c.from_residual.result _ (search rules) c.in_err-taken.ensures.answer in
    record { answer = ends.0; cuts = ends.1 }

pub returns-then-is_bad_share : goal.returns-then-is_bad_share
returns-then-is_bad_share c =
    let taken = c.in_ok-taken.ensures.taken in
    let ends = ends_26 _ c.args.cuts.now _ taken.none (own_share _ _ _ _ _ c.is_bad_share.ensures taken.width c.if-is_bad_share.true) in
    record { answer = ends.0; cuts = ends.1 }

share : (c : Else-is_bad_share) → bad_share (width_of c.args.set.now) c.args.k ≡ false
share c = own_share _ _ _ _ _ c.is_bad_share.ensures c.in_ok-taken.ensures.taken.width c.if-is_bad_share.false

-- ---- the slices have been gone through

pub returns-in_err-runs : goal.returns-in_err-runs
returns-in_err-runs c =
    let taken = c.in_ok-taken.ensures.taken in
    let known = share (goal.at.returns-in_err-runs c).Else-is_bad_share in
    let ends =
    ends_27 _ c.args.cuts.now c.args.k c.cut_slices.new.starts _
    (record { none = taken.none; share = known; sliced = c.in_err-runs.ensures taken (share_range _ _ known).0 })
    c.from_residual-in_err-runs.result _ (search rules) refl in
    record { answer = ends.0; cuts = ends.1 }

passed : (c : In_ok-runs) → Passed c.args.set.now c.args.k c.cut_slices.new.starts (Ok c.in_ok-runs.runs)
passed c =
    let taken = c.in_ok-taken.ensures.taken in
    let known : bad_share (width_of c.args.set.now) c.args.k ≡ false =
    own_share _ _ _ _ _ c.is_bad_share.ensures taken.width c.if-is_bad_share.false in
    record { none = taken.none; share = known; sliced = c.in_ok-runs.ensures taken (share_range _ _ known).0 }

pub returns-then-cuts-runs : goal.returns-then-cuts-runs
returns-then-cuts-runs c =
    let ends = ends_28 _ c.args.cuts.now _ _ _ (passed (goal.at.returns-then-cuts-runs c).In_ok-runs) _ refl c.if-cuts-runs.true in
    record { answer = ends.0; cuts = ends.1 }

-- ---- the cut list is long enough

-- there are at most 512 runs
few : (c : In_ok-runs) → c.in_ok-runs.runs ≤ 512
few c = runs_few _ c.args.cuts.now _ _ _ (passed c) _ refl

-- .. and as many places for their first slices
inside : (c : In_ok-runs) → c.in_ok-runs.runs ≤ length c.cut_slices.new.starts
inside c = omega (arith, few c, c.cut_slices.auto.starts)

pub slice_bounds-starts-end : goal.slice_bounds-starts-end
slice_bounds-starts-end c = inside (goal.at.slice_bounds-starts-end c).In_ok-runs

pub slice_bounds-write_front-end : goal.slice_bounds-write_front-end
slice_bounds-write_front-end c = sym (length-take-le _ _ (inside (goal.at.slice_bounds-write_front-end c).In_ok-runs))

fits : (c : In_ok-runs)
    → (c.in_ok-taken.taken.register.m * c.args.k < 2 ^ 64) × (c.in_ok-taken.taken.register.m * c.args.k * c.in_ok-runs.runs < 2 ^ 64)
fits c =
    let known = passed c in
    let wide = c.in_ok-taken.ensures.taken.width in
    bits_fit _ _ _ (omega (arith, wide, (accepted_width _ (accepted _ known.none)).1)) (omega (arith, wide, (share_range _ _ known.share).1)) (few c)

pub overflow_mul-result : goal.overflow_mul-result
overflow_mul-result c = record { fits = (fits (goal.at.overflow_mul-result c).In_ok-runs).0 }

pub overflow_mul-result-2 : goal.overflow_mul-result-2
overflow_mul-result-2 c = record { fits = (fits (goal.at.overflow_mul-result-2 c).In_ok-runs).1 }

pub shape_of-cuts : goal.shape_of-cuts
shape_of-cuts c = c.write_front.auto.words

pub returns : goal.returns
returns c =
    let ends =
    ends_runs _ c.args.cuts.now _ _ _ (passed (goal.at.returns c).In_ok-runs) _ refl _ _ _ c.if-cuts-runs.false c.in_ok-taken.ensures.taken.width refl c.write_front.ensures in
    record { answer = ends.0; cuts = ends.1 }
