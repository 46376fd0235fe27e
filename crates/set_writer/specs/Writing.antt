-- The set writer: it meets the numbers of its content (`set_content/specs/Content`, set_write_tests) and answers with the length of
-- the file.
--
--   head_bytes m t i ws s   the bytes before the rows: m, the tap word and the inversion word, n and the spread words, s
--   slice_bytes n v k t  slice t of the lists v and k of rows of n chains: its value row and its row of unknown marks
--   set_bytes k          the set file of the content k: what stands before its rows, the slices, and the count of ties and their entries
--   set_write_reply k room   the writer's reply for an output of `room` bytes: the length of the file
--   said_set_written w    the paper's reading of what the writer answers
use Rattle.std.specs.Prelude.{List, ◌++◌, ℕ, length, Result}
use Rattle.word.specs.Reply.{Reply, reply}
use Rattle.numbers.specs.Bytes.{bytes_of, word_bytes}
use Rattle.numbers.specs.Joined.{joined}
use Rattle.rows.specs.Lists.{list_row}
use Rattle.set_layout.specs.Layout.{set_length}
use Rattle.set_content.specs.Content.{SetContent, content_chains, content_count, set_write_tests}
use Rattle.refusals.specs.declared.Refusal.{Refusal}
use Rattle.refusals.specs.Refusals.{replied_by}

unfoldable pub head_bytes : ℕ → ℕ → ℕ → List ℕ → ℕ → List ℕ
head_bytes m t i ws s = bytes_of 2 m ++ (bytes_of 8 t ++ (bytes_of 8 i ++ (bytes_of 2 (length ws) ++ (word_bytes ws ++ bytes_of 2 s))))

unfoldable pub slice_bytes : ℕ → List ℕ → List ℕ → ℕ → List ℕ
slice_bytes n v k t = list_row n v t ++ list_row n k t

unfoldable pub set_bytes : SetContent → List ℕ
set_bytes k =
    head_bytes k.m k.taps k.inversion k.spread k.s
    ++ joined (slice_bytes (content_chains k) k.values k.marks) k.s
    ++ (bytes_of 2 (content_count k) ++ k.ties)

unfoldable pub set_write_reply : SetContent → ℕ → Reply ℕ
set_write_reply k room = reply (set_write_tests k room) (set_length (content_chains k) k.s (content_count k))

abbrev pub said_set_written : Result ℕ Refusal → Reply ℕ
said_set_written = replied_by (λ n. n)
