-- What the ways cost: products that fit, and tests that need no cost. Assumes nothing.
use mathlib.Core.Path.{◌≡◌, sym, ap, ap₂, ◌∙◌}
use mathlib.Core.Bool.{Bool, false, ◌&&◌}
use Prim.Native.Nat.{ℕ, ◌+◌, ◌*◌, ◌≤◌, ◌<◌, min}
use native.Mathlib.Nat.{mul-le-mul_left, mul-le-mul_right}
use native.Mathlib.Omega.{arith}
use borrow.Author.Tests.{le-ltb}
use Rattle.std.proofs.lemmas.Bool.Decides.{nat_tests}
use lib.Dec.{ltb}
use Rattle.column_costs.specs.Costs.{cells, sweep_cost, eights_cost, ones_cost, eights_least, ones_less}

-- there are at most 131,072 cells
pub cells_most : (s n : ℕ) → s ≤ 512 → n ≤ 256 → s * n ≤ 131072
cells_most s n hs hn = omega (arith, mul-le-mul_left s hn, mul-le-mul_right 256 hs)

pub ones_most : (w k : ℕ) → w ≤ 80 → k < 65536 → w * k ≤ 5242880
ones_most w k hw hk = let few : k ≤ 65536 = omega arith in omega (arith, mul-le-mul_left w few, mul-le-mul_right 65536 hw)

ones_many : (w k : ℕ) → 16 ≤ w → 65536 ≤ k → 1048576 ≤ w * k
ones_many w k hw hk = omega (arith, mul-le-mul_left w hk, mul-le-mul_right 65536 hw)

below_both : (a b c : ℕ) → ltb a (min b c) ≡ (ltb a b && ltb a c)
below_both a b c = grind (arith, nat_tests)

module _ (m k n s : ℕ) where
  most : cells n s ≤ 131072
  most = cells_most (min s 512) (min n 256) (omega arith) (omega arith)

  pub many_not_by_eights : 65536 ≤ k → false ≡ eights_least m k n s
  unfolding eights_least
  many_not_by_eights h =
      let over : ltb (eights_cost k n s) (sweep_cost n s) ≡ false = le-ltb (eights_cost k n s) (sweep_cost n s) (omega (arith, most)) in
      sym (ap (λ (b : Bool). b && ltb (eights_cost k n s) (ones_cost m k s)) over)

  pub many_not_by_ones : 65536 ≤ k → false ≡ ones_less m k n s
  unfolding ones_less
  many_not_by_ones h =
      let one : 16 ≤ min m 64 + 16 = omega arith in
      sym (le-ltb (ones_cost m k s) (sweep_cost n s) (omega (arith, most, ones_many (min m 64 + 16) k one h)))

  -- the tests of the costs
  pub eights_tested : (eights sweep ones least : ℕ) → eights ≡ eights_cost k n s → sweep ≡ sweep_cost n s → ones ≡ ones_cost m k s → least ≡ min sweep ones
      → ltb eights least ≡ eights_least m k n s
  unfolding eights_least
  eights_tested eights sweep ones least ee es eo el =
      ap (ltb eights) el ∙ below_both eights sweep ones ∙ ap₂ (λ (x y : ℕ). ltb x y && ltb x ones) ee es
      ∙ ap (λ (x : ℕ). ltb (eights_cost k n s) (sweep_cost n s) && ltb (eights_cost k n s) x) eo

  pub ones_tested : (ones sweep : ℕ) → ones ≡ ones_cost m k s → sweep ≡ sweep_cost n s → ltb ones sweep ≡ ones_less m k n s
  unfolding ones_less
  ones_tested ones sweep eo es = ap₂ ltb eo es
