-- The start, turn and end of the loops over marks, over slots and over columns. Assumes nothing.
use mathlib.Core.Path.{◌≡◌, refl, sym, ap, ◌∙◌, subst}
use mathlib.Core.List.{List, []}
use Prim.Native.Nat.{ℕ, ◌+◌, ◌*◌, ◌%◌, ◌^◌, ◌≤◌, ◌<◌}
use native.Mathlib.Numerals.{add-one}
use native.Mathlib.Omega.{arith}
use lib.Bits.{bit_xor}
use lib.ListN.{length, get_or, take, drop, set, drop_of_length-le}
use lib.Seq.{drop-cons}
use Rattle.word.specs.Word.{digit}
use Rattle.word.specs.Parities.{parities}
use Rattle.word.proofs.LowestLaws.{Lowest}
use Rattle.combinations.specs.Step.{cleared, step, steps, units}
use Rattle.combinations.proofs.StepLaws.{steps_none}
use Rattle.combinations.proofs.Units.{one_bit, next_taken, length_units, units_at, power_top}
use Rattle.turned_words.specs.Turned.{kept}
use Rattle.column_basis.specs.Basis.{Basis, Slots, Held}
use Rattle.turned_words.proofs.KeptLaws.{kept_full}
use Rattle.turned_words.proofs.TurnedLaws.{power_other}
use Rattle.column_basis.proofs.BasisLaws.{column_even, column_odd, basis_grown}

-- ---- the loop over the places: those passed hold their bits

pub units_start : (ws : List ℕ) → take 0 ws ≡ units 0
unfolding units
units_start ws = refl

pub units_turn : (ws : List ℕ) (i : ℕ) → length ws ≡ 64 → i < 64 → take i ws ≡ units i → take (i + 1) (set ws i ((1 * 2 ^ i) % 18446744073709551616)) ≡ units (i + 1)
unfolding units
units_turn ws i long h e =
    next_taken ws (units i) i ((1 * 2 ^ i) % 18446744073709551616) (2 ^ i) (subst (λ (n : ℕ). i < n) (sym long) h) e (one_bit i h)
    ∙ ap units (sym (add-one i))

-- ---- the words of single bits are a basis, with any bits dead

units_basis : (dead : ℕ) → Basis (units 64) dead
units_basis dead =
    record {
      long = length_units 64;
      one = λ d ld e. ap (digit d) (units_at 64 d ld) ∙ ap (λ (x : ℕ). x % 2) (power_top d);
      clear = λ d j ld e lj. ap (digit j) (units_at 64 d ld) ∙ power_other j d (λ (q : j ≡ d). (let z : ⊥ = omega arith in z));
    }

pub singles_basis : (basis : List ℕ) (dead : ℕ) → basis ≡ units 64 → Basis basis dead
singles_basis basis dead e = subst (λ (x : List ℕ). Basis x dead) (sym e) (units_basis dead)

-- ---- one column

pub column_none : (l basis : List ℕ) (dead c y : ℕ) → Held l basis dead → ((l ws : List ℕ) → Slots l ws basis dead → (y ≡ parities ws c) × (parities ws y ≡ y)) → y ≡ 0 → Held (step c l) basis dead
column_none l basis dead c y h f z =
    record { slots = h.slots; hold = column_even l h.slots basis dead h.hold c y (f l h.slots h.hold).0 z }

pub column_one : (l basis : List ℕ) (dead c y k : ℕ) → Held l basis dead → ((l ws : List ℕ) → Slots l ws basis dead → (y ≡ parities ws c) × (parities ws y ≡ y))
    → Lowest y k → length basis ≡ 64 → Held (step c l) (set basis k y) (bit_xor dead ((1 * 2 ^ k) % 18446744073709551616))
column_one l basis dead c y k h f t long =
    let e = f l h.slots h.hold in
    subst (λ (bit : ℕ). Held (step c l) (set basis k y) (bit_xor dead bit)) (sym (one_bit k t.place))
    record { slots = cleared c (get_or h.slots k 0) h.slots; hold = column_odd l h.slots basis dead h.hold c y e.0 k t e.1 long }

pub basis_one : (basis : List ℕ) (dead y k : ℕ) → Basis basis dead → Lowest y k → Basis (set basis k y) (bit_xor dead ((1 * 2 ^ k) % 18446744073709551616))
basis_one basis dead y k b t =
    subst (λ (bit : ℕ). Basis (set basis k y) (bit_xor dead bit)) (sym (one_bit k t.place)) (basis_grown basis dead y k b t)

-- ---- the loop over the columns: the list held, after the columns that are left, is the list after all of them

pub record Taking (cs l basis : List ℕ) (dead i : ℕ) : Type 0 where
  pub now_held : List ℕ
  pub hold : Held now_held basis dead
  pub done : steps (drop i cs) now_held ≡ steps cs l

pub taking_start : (cs l basis : List ℕ) (dead : ℕ) → Held l basis dead → Taking cs l basis dead 0
taking_start cs l basis dead h = record { now_held = l; hold = h; done = refl }

pub taking_turn : (cs l basis basis' : List ℕ) (dead dead' i : ℕ) → Taking cs l basis dead i → i < length cs
    → ((x : List ℕ) → Held x basis dead → Held (step (get_or cs i 0) x) basis' dead') → Taking cs l basis' dead' (i + 1)
unfolding steps
taking_turn cs l basis basis' dead dead' i t h f =
    record {
      now_held = step (get_or cs i 0) t.now_held;
      hold = f t.now_held t.hold;
      done =
          ap (λ (n : ℕ). steps (drop n cs) (step (get_or cs i 0) t.now_held)) (add-one i)
          ∙ sym (ap (λ (x : List ℕ). steps x t.now_held) (drop-cons cs i 0 h)) ∙ t.done;
    }

-- with every bit dead no word is left
pub held_none : (l basis : List ℕ) (dead : ℕ) → Held l basis dead → dead ≡ 18446744073709551615 → l ≡ []
held_none l basis dead h e =
    sym h.hold.held ∙ ap (λ (x : ℕ). kept x h.slots) e ∙ kept_full 64 h.slots (omega (arith, h.hold.wide))

pub taking_empty : (cs l basis : List ℕ) (dead i : ℕ) → Taking cs l basis dead i → dead ≡ 18446744073709551615 → Held (steps cs l) basis dead
taking_empty cs l basis dead i t e =
    let none : t.now_held ≡ [] = held_none t.now_held basis dead t.hold e in
    subst (λ (x : List ℕ). Held x basis dead) (none ∙ sym (sym t.done ∙ ap (steps (drop i cs)) none ∙ steps_none (drop i cs))) t.hold

pub taking_end : (cs l basis : List ℕ) (dead i : ℕ) → Taking cs l basis dead i → length cs ≤ i → Held (steps cs l) basis dead
unfolding steps
taking_end cs l basis dead i t h =
    subst (λ (x : List ℕ). Held x basis dead) (ap (λ (x : List ℕ). steps x t.now_held) (sym (drop_of_length-le cs h)) ∙ t.done) t.hold
