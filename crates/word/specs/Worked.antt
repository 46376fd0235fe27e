-- The form of the tables of worked lines. Document 01, "Worked on paper": "Starred lines are proved as one table."
--
--   Line            what the definitions give for a worked line, and what the paper has there
--   same_list a b    two lists of numbers are the same
--   agrees ls       every line's two sides are the same
use Rattle.std.specs.Prelude.{Bool, true, false, ◌&&◌, List, [], ◌∷◌, ℕ, eqb}

pub record Line : Type 0 where
  pub given : List ℕ
  pub printed : List ℕ

abbrev pub same_list : List ℕ → List ℕ → Bool
same_list [] [] = true
same_list [] (y ∷ b) = false
same_list (x ∷ a) [] = false
same_list (x ∷ a) (y ∷ b) = eqb x y && same_list a b

abbrev pub agrees : List Line → Bool
agrees [] = true
agrees (l ∷ ls) = same_list l.given l.printed && agrees ls
