use mathlib.Core.Path.{◌≡◌, refl, sym, ap, ◌∙◌, subst}
use mathlib.Core.List.{List}
use Prim.Native.Nat.{ℕ, ◌≤◌}
use native.Mathlib.Omega.{arith}
use lib.ListN.{length, take, drop, length-append}
use lib.Seq.{length-take-le, length_front, take-length}
use Rattle.rows.specs.Lists.{cells_of}
use Rattle.portions.specs.Portions.{wiring, slices_in, Ready}
use Rattle.portions.proofs.PortionLaws.{Filling, filling_none, filling_first, filling_row, filling_gone, filling_gives, chains_same, way_length, Moved, moved_first, moved_down, moved_next, moved_less}
use Rattle.portions.proofs.fill_portion.Goals as goal
use Rattle.portions.proofs.fill_portion.Goals.{After-fill_row-first, After-min-limit}

-- the chains that are left are no more than there are words
limited : (c : After-min-limit) → length (take c.min-limit.result c.args.words.now) ≡ c.min-limit.result
limited c = length-take-le c.min-limit.result c.args.words.now (omega (arith, c.min-limit.ensures))

-- the first row is listed
started : (c : After-fill_row-first) (spread : List ℕ) → Ready (wiring c.args.source spread) (slices_in c.args.source) c.args.from.t c.args.powers.now c.args.words.now
    → Filling (wiring c.args.source spread) (slices_in c.args.source) (cells_of c.args.list.now c.args.source.marks) c.args.powers.now c.args.columns.now c.args.from.t c.min-limit.result c.args.words.now c.fill_row-first.new.columns c.fill_row-first.result.place c.args.from.t c.fill_row-first.result.chains
started c spread ready =
    let limited : length (take c.min-limit.result c.args.words.now) ≡ c.min-limit.result = (length-take-le c.min-limit.result c.args.words.now (omega (arith, c.min-limit.ensures))) in
    let args = c.args in
    let limit = c.min-limit.result in
    let few : length (take limit args.words.now) ≤ length spread = omega (arith, limited, c.min-limit.ensures, way_length _ _ _ _ ready.way) in
    filling_first _ _ _ _ _ _ _ _ _ _ _ (limited) (omega (arith, c.if-from-eq0.false)) ready few c.fill_row-first.ensures.fits c.fill_row-first.auto.columns
    (c.fill_row-first.ensures.row spread args.words.now few (ap (λ (i : ℕ). take i args.words.now) (sym (limited))) ready)

pub loop-chains-init : goal.loop-chains-init
loop-chains-init c =
    let row = c.fill_row-first in
    let long = row.auto.columns in (
      omega (arith, c.if-from-eq0.false),
      omega (arith, row.ensures.fits.chains, limited (goal.at.loop-chains-init c).After-min-limit, c.min-limit.ensures),
      omega (arith, row.ensures.fits.place, long),
      refl,
      refl,
      subst (λ (i : ℕ). Moved (length c.args.words.now) i c.args.from.t c.min-limit.result c.args.from.t row.result.chains) (sym long)
          (moved_first _ _ _ _ _ _ _ (limited (goal.at.loop-chains-init c).After-min-limit) row.ensures.fits),
      (λ spread l₀ so_far. so_far),
    )

pub returns-then-from-eq0 : goal.returns-then-from-eq0
returns-then-from-eq0 c =
    let args = c.args in record {
      place = omega arith;
      less = (λ wide few some. let no : ⊥ = omega (arith, c.if-from-eq0.true) in absurd no);
      portion = (λ spread few ready.
          filling_gives _ _ _ _ _ _ _ args.from _ _ _ _ _ refl (chains_same _ _ _ _ _ _ _ ready few c.min-limit.ensures)
          (filling_none _ _ _ _ _ _ _ _ c.if-from-eq0.true ready (omega (arith, c.min-limit.ensures, way_length _ _ _ _ ready.way))));
    }

pub returns-then-t-eq0 : goal.returns-then-t-eq0
returns-then-t-eq0 c =
    let args = c.args in
    let at = c.loop-chains in
    let advanced = c.go_down-t in record {
      place = omega (arith, at.invariant.2, at.invariant.3, c.fill_row-first.auto.columns);
      less = (λ wide few some. omega (arith, advanced.ensures.down, moved_down _ _ _ _ _ _ at.invariant.5 at.invariant.0 few, c.min-limit.ensures));
      portion = (λ spread few ready.
          filling_gives _ _ _ _ _ _ _ args.from _ _ _ _ _ refl (chains_same _ _ _ _ _ _ _ ready few c.min-limit.ensures)
          (filling_gone _ _ _ _ _ _ _ args.list.now args.source.marks _ _ _ _ _ _ _ _ refl at.invariant.0 c.loop-chains-test.true (way_length _ _ _ _ ready.way) advanced.ensures (at.invariant.6 spread args.columns.now (started (goal.at.returns-then-t-eq0 c).After-fill_row-first spread ready))));
    }

pub loop-chains-preserved : goal.loop-chains-preserved
loop-chains-preserved c =
    let args = c.args in
    let at = c.loop-chains in
    let advanced = c.go_down-t in
    let row = c.fill_row-next in
    let same = advanced.auto.words ∙ at.invariant.4 in
    let down = advanced.ensures.down in
    let long = row.auto.columns in (
      omega (arith, c.if-t-eq0.false),
      row.ensures.fits.chains,
      omega (arith, row.ensures.fits.place, long, length-append row.new.columns (drop at.place at.columns)),
      length_front at.columns row.new.columns at.place long ∙ at.invariant.3,
      same,
      moved_next _ _ _ _ _ _ at.invariant.5 _ _ _ _ _ same at.invariant.0 down row.ensures.fits,
      (λ spread l₀ start.
          let so_far = at.invariant.6 spread l₀ start in
          let gone =
          filling_gone _ _ _ _ _ _ _ args.list.now args.source.marks _ _ _ _ _ _ (length advanced.new.words) _ refl at.invariant.0 c.loop-chains-test.true (advanced.auto.words ∙ way_length _ _ _ _ so_far.ready.way) advanced.ensures so_far in
          filling_row _ _ _ _ _ _ _ _ _ _ _ _ _ _ (omega (arith, c.if-t-eq0.false)) gone row.ensures.fits long
          (row.ensures.row spread advanced.new.words gone.few (sym (take-length advanced.new.words)) gone.ready)),
    )

pub loop-chains-smaller : goal.loop-chains-smaller
loop-chains-smaller c =
    let args = c.args in
    let at = c.loop-chains in
    let advanced = c.go_down-t in
    omega (arith, at.invariant.0, advanced.ensures.down)

pub returns : goal.returns
returns c =
    let args = c.args in
    let at = c.loop-chains in record {
      place = omega (arith, at.invariant.2, at.invariant.3, c.fill_row-first.auto.columns);
      less = (λ wide few some. omega (arith, moved_less _ _ _ _ _ _ at.invariant.5 few (omega (arith, wide, c.fill_row-first.auto.columns)) c.loop-chains-test.false, c.min-limit.ensures));
      portion = (λ spread few ready.
          filling_gives _ _ _ _ _ _ _ args.from _ _ _ _ _ refl (chains_same _ _ _ _ _ _ _ ready few c.min-limit.ensures)
          (at.invariant.6 spread args.columns.now (started (goal.at.returns c).After-fill_row-first spread ready)));
    }
