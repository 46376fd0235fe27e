-- The lines that the plan printer writes. Document 01: "First line: m, n, s, unknown cells. Each word line: index, word, expected bit.
-- Last: q. A refusal prints one line only, as `refused 14`."
--
--   sp, newline         a space, the end of a line
--   set_line m n s u     "set m n s u"
--   word_line i w b      "word i w b"
--   word_lines i ws e    a line for each of the words ws, the first of which is word i, with the expected bits e
--   end_line q           "end q"
--   refused_line n       "refused n"
use Rattle.std.specs.Prelude.{List, [], ◌∷◌, ◌++◌, ℕ, suc}
use Rattle.word.specs.Word.{digit}
use Rattle.text.specs.Text.{decimal}

abbrev pub sp : List ℕ
sp = 32 ∷ []

abbrev pub newline : List ℕ
newline = 10 ∷ []

unfoldable pub set_line : ℕ → ℕ → ℕ → ℕ → List ℕ
set_line m n s u =
    (115 ∷ 101 ∷ 116 ∷ 32 ∷ []) ++ decimal m ++ sp ++ decimal n ++ sp ++ decimal s ++ sp ++ decimal u ++ newline

unfoldable pub word_line : ℕ → ℕ → ℕ → List ℕ
word_line i w b = (119 ∷ 111 ∷ 114 ∷ 100 ∷ 32 ∷ []) ++ decimal i ++ sp ++ decimal w ++ sp ++ decimal b ++ newline

unfoldable pub word_lines : ℕ → List ℕ → ℕ → List ℕ
word_lines i [] e = []
word_lines i (w ∷ ws) e = word_line i w (digit i e) ++ word_lines (suc i) ws e

unfoldable pub end_line : ℕ → List ℕ
end_line q = (101 ∷ 110 ∷ 100 ∷ 32 ∷ []) ++ decimal q ++ newline

unfoldable pub refused_line : ℕ → List ℕ
refused_line n = (114 ∷ 101 ∷ 102 ∷ 117 ∷ 115 ∷ 101 ∷ 100 ∷ 32 ∷ []) ++ decimal n ++ newline
