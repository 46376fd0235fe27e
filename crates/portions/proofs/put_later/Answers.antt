-- `put_later` meets its contract.
use mathlib.Core.Path.{◌≡◌, refl, ap, ◌∙◌}
use mathlib.Core.List.{map}
use Prim.Native.Nat.{ℕ, ◌+◌, ◌-◌, min}
use native.Mathlib.Omega.{arith}
use lib.ListN.{take, drop}
use Rattle.powers.specs.Powers.{from_powers}
use Rattle.portions.proofs.put_later.Goals as goal

pub returns-then-count-eq0 : goal.returns-then-count-eq0
returns-then-count-eq0 c = record {
  stays = (λ z. refl);
  looked = (λ z. let no : ⊥ = omega (arith, z, c.if-count-eq0.true) in absurd no);
  powered = (λ z room. let no : ⊥ = omega (arith, z, c.if-count-eq0.true) in absurd no);
}

pub returns-then-count-eq-TABLE_ENTRIES : goal.returns-then-count-eq-TABLE_ENTRIES
returns-then-count-eq-TABLE_ENTRIES c = record {
  stays = (λ z. let no : ⊥ = omega (arith, z, c.if-count-eq-TABLE_ENTRIES.true) in absurd no);
  looked = (λ z. c.look_few.ensures (omega (arith, z)));
  powered = (λ z room. let no : ⊥ = omega (arith, z, c.if-count-eq-TABLE_ENTRIES.true) in absurd no);
}

pub returns-then-count-clocks : goal.returns-then-count-clocks
returns-then-count-clocks c = record {
  stays = (λ z. refl);
  looked = (λ z. let no : ⊥ = omega (arith, z, c.if-count-eq-TABLE_ENTRIES.false) in absurd no);
  powered = (λ z room. let no : ⊥ = omega (arith, z, room, c.if-count-clocks.true) in absurd no);
}

pub returns-then-count-clocks-2 : goal.returns-then-count-clocks-2
returns-then-count-clocks-2 c = record {
  stays = (λ z. refl);
  looked = (λ z. let no : ⊥ = omega (arith, z, c.if-count-eq-TABLE_ENTRIES.false) in absurd no);
  powered = (λ z room. let no : ⊥ = omega (arith, z, room, c.if-count-clocks-2.true, c.width_limit-width.ensures) in absurd no);
}

pub returns : goal.returns
returns c =
    let args = c.args in
    let width = c.width_limit-width in
    let wide : args.clocks + width.result - args.clocks ≡ min args.m 64 = omega (arith, width.ensures) in record {
      stays = (λ z. let no : ⊥ = omega (arith, z, c.if-count-eq0.false) in absurd no);
      looked = (λ z. let no : ⊥ = omega (arith, z, c.if-count-eq-TABLE_ENTRIES.false) in absurd no);
      powered = (λ z room. c.power_words.ensures ∙ ap (λ (i : ℕ). map (from_powers (take i (drop args.clocks args.powers.now))) args.words.now) wide);
    }
