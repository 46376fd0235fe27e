-- Each way out of the calls. Assumes nothing.
use mathlib.Core.Path.{◌≡◌, refl, sym, ap, ◌∙◌}
use mathlib.Core.List.{List, []}
use Prim.Native.Nat.{ℕ, ◌≤◌}
use native.Mathlib.Omega.{arith}
use lib.ListN.{length, take}
use lib.Seq.{take-length}
use Rattle.combinations.specs.Step.{steps}
use Rattle.combinations.proofs.Portions.{steps_most}
use Rattle.turned_words.specs.Turned.{kept}
use Rattle.column_basis.specs.Basis.{Held}
use Rattle.column_basis.proofs.LoopLaws.{held_none}
use Rattle.spread_words.specs.Spread.{SpreadFrom, FirstTaken}

-- the columns left no word
pub spread_none : (cs l basis basis' words : List ℕ) (dead gone : ℕ) → Held l basis dead → ((x : List ℕ) → Held x basis dead → Held (steps cs x) basis' gone)
    → gone ≡ 18446744073709551615 → (0 ≡ length (steps cs l)) × (take 0 words ≡ steps cs l)
spread_none cs l basis basis' words dead gone h f e =
    let none : steps cs l ≡ [] = held_none (steps cs l) basis' gone (f l h) e in
    (ap length (sym none), sym none)

pub spread_some : (cs l basis basis' made words words' : List ℕ) (dead gone r : ℕ) → Held l basis dead → ((x : List ℕ) → Held x basis dead → Held (steps cs x) basis' gone)
    → ((x : List ℕ) → Held x basis' gone → kept gone made ≡ x)
    → (length (kept gone made) ≤ length words → (r ≡ length (kept gone made)) × (take r words' ≡ kept gone made)) → length l ≤ length words
    → (r ≡ length (steps cs l)) × (take r words' ≡ steps cs l)
spread_some cs l basis basis' made words words' dead gone r h f g k room =
    let all : kept gone made ≡ steps cs l = g (steps cs l) (f l h) in
    let done = k (omega (arith, ap length all, steps_most cs l)) in
    (done.0 ∙ ap length all, done.1 ∙ all)

-- no column was taken
pub first_none : (cs l : List ℕ) → FirstTaken cs l l (record { count = 0; left = length l })
unfolding steps
first_none cs l = record { inside = omega arith; number = refl; done = take-length l }

pub first_some : (cs l l' slots : List ℕ) (dead count left : ℕ) → count ≤ length cs → SpreadFrom l slots dead
    → (length (kept dead slots) ≤ length l → (left ≡ length (steps (take count cs) (kept dead slots))) × (take left l' ≡ steps (take count cs) (kept dead slots)))
    → FirstTaken cs l l' (record { count = count; left = left })
first_some cs l l' slots dead count left h s f =
    let done = f (omega (arith, ap length s.held)) in
    record {
      inside = h;
      number = done.0 ∙ ap (λ (x : List ℕ). length (steps (take count cs) x)) s.held;
      done = done.1 ∙ ap (steps (take count cs)) s.held;
    }
