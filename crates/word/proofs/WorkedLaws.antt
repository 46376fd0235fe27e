-- A table of worked lines whose test passes holds line by line. Assumes nothing.
use mathlib.Core.Path.{◌≡◌, refl, ap₂}
use mathlib.Core.Bool.{true}
use mathlib.Core.List.{List, [], ◌∷◌}
use Prim.Native.Nat.{ℕ, zero, suc}
use borrow.Author.Tests.{eqb-true}
use lib.Dec.{eqb}
use lib.ListN.{get_or}
use Rattle.word.specs.Worked.{Line, same_list, agrees}
use Rattle.word.proofs.BoolLaws.{and_left, and_right}

pub same_list_lem : (a b : List ℕ) → same_list a b ≡ true → a ≡ b
same_list_lem [] [] h = refl
same_list_lem [] (y ∷ b) h = cc
same_list_lem (x ∷ a) [] h = cc
same_list_lem (x ∷ a) (y ∷ b) h =
    ap₂ ◌∷◌ (eqb-true x y (and_left (eqb x y) (same_list a b) h)) (same_list_lem a b (and_right (eqb x y) (same_list a b) h))

-- no line: what stands past a table's end
abbrev pub none : Line
none = record { given = []; printed = [] }

pub line_holds : (t : List Line) → agrees t ≡ true → (i : ℕ) → (get_or t i none).given ≡ (get_or t i none).printed
line_holds [] h i = refl
line_holds (l ∷ t) h zero =
    same_list_lem l.given l.printed (and_left (same_list l.given l.printed) (agrees t) h)
line_holds (l ∷ t) h (suc i) = line_holds t (and_right (same_list l.given l.printed) (agrees t) h) i
