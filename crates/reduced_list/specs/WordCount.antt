-- How many words a plan can have. Document 01, 20: "The plan's word count is .. 0 or above m"; the plan writer gives 20 "for how
-- many words there are".
--
--   bad_word_count m q   q words are none, or more than m
use Rattle.std.specs.Prelude.{Bool, ◌||◌, ℕ, ltb}

unfoldable pub bad_word_count : ℕ → ℕ → Bool
bad_word_count m q = ltb q 1 || ltb m q
