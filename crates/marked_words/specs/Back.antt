-- Lists that are written from the end.
--
--   back vs l   the list l with vs written over its end; the end of vs alone, where l is shorter
use Rattle.std.specs.Prelude.{List, ◌++◌, ℕ, ◌-◌, length, take, drop}

unfoldable pub back : List ℕ → List ℕ → List ℕ
back vs l = take (length l - length vs) l ++ drop (length vs - length l) vs
