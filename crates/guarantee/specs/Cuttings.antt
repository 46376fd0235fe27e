-- Any cutting of the slices, not only the one that the call makes. Document 02, No. 6: "no cutting of the slices into runs, each leaving at
-- least k words, has fewer runs".
--
--   Run                 a run: its first slice, and the slice behind its last
--   is_division s a rs   the runs rs, in this order, divide the slices a to s - 1: the first begins at a and each later one where the one before it
--                       ends, each has a slice, and the last ends with the last slice; without runs, no slice is left and a is s
--   each_leaves g k rs   each of the runs leaves at least k words
--   is_cutting g k rs    a division of all slices into runs that leave at least k words each
--   runs_from s l        the runs that are given by their first slices l: each ends where the next begins, and the last with the last of s slices
--   end_before s l       where a run ends before runs with the first slices l
--   covers s a rs       the runs rs, in this order, go from slice a to s - 1 and may overlap: the first begins no later than a, each later one no
--                       later than where the one before it ends, and none ends behind slice s - 1
--   is_cover g k rs      such runs for all slices, that leave at least k words each
use Rattle.std.specs.Prelude.{Bool, true, ◌&&◌, List, [], ◌∷◌, ℕ, eqb, leb, ltb}
use Rattle.signatures.specs.Given.{Given}
use Rattle.cutter.specs.Cutting.{leaves}

pub record Run : Type 0 where
  pub first : ℕ
  pub end : ℕ

unfoldable pub is_division : ℕ → ℕ → List Run → Bool
is_division s a [] = eqb a s
is_division s a (r ∷ rs) = eqb r.first a && (ltb r.first r.end && is_division s r.end rs)

unfoldable pub each_leaves : Given → ℕ → List Run → Bool
each_leaves g k [] = true
each_leaves g k (r ∷ rs) = leaves g k r.first r.end && each_leaves g k rs

-- no run need be the longest from its start; a response without slices has the cutting without runs
unfoldable pub is_cutting : Given → ℕ → List Run → Bool
is_cutting g k rs = is_division g.slices 0 rs && each_leaves g k rs

abbrev pub end_before : ℕ → List ℕ → ℕ
end_before s [] = s
end_before s (b ∷ l) = b

unfoldable pub runs_from : ℕ → List ℕ → List Run
runs_from s [] = []
runs_from s (a ∷ l) = record { first = a; end = end_before s l } ∷ runs_from s l

-- ---- runs that overlap

unfoldable pub covers : ℕ → ℕ → List Run → Bool
covers s a [] = leb s a
covers s a (r ∷ rs) = leb r.first a && (leb r.end s && covers s r.end rs)

unfoldable pub is_cover : Given → ℕ → List Run → Bool
is_cover g k rs = covers g.slices 0 rs && each_leaves g k rs
