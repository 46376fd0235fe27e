-- Words that later columns leave as they are.
--
--   EvenAll ws ts                what is even with all of the words ws is so with each of the words ts
--   ClosedUnder m taps ws        what is even with all of the words ws is so one clock later too, in a register of width m with this tap
--                                word, with all cells 0 and no inversion
--   EvenFor h ws x               the words of ws of the chains whose cell in x is marked are even with all of the words h
--   Unchanging m taps u t ws h   the words of ws of the chains that u marks in one of the first t slices, any number of clocks later, are
--                                even with all of the words h
use Rattle.std.specs.Prelude.{◌≡◌, true, List, ℕ, ◌<◌, length, get_or}
use Rattle.word.specs.Word.{parity}
use Rattle.combinations.specs.Combination.{x_free}
use Rattle.rows.specs.Row.{Cells}
use Rattle.register.specs.Circuit.{circuit, advanced}
use Rattle.signatures.specs.Signature.{Response}
use Rattle.signatures.specs.Later.{later}

abbrev pub EvenAll : List ℕ → List ℕ → Type 0
EvenAll ws ts = (x : ℕ) → x_free ws x ≡ true → (i : ℕ) → parity x (get_or ts i 0) ≡ 0

abbrev pub ClosedUnder : ℕ → ℕ → List ℕ → Type 0
ClosedUnder m taps ws = (x : ℕ) → x_free ws x ≡ true → x_free ws (advanced m taps x) ≡ true

abbrev pub EvenFor : List ℕ → List ℕ → Cells → Type 0
EvenFor h ws x = (c : ℕ) → c < length ws → 0 < x c → x_free h (get_or ws c 0) ≡ true

-- the clocks don't look at the inversion word v and the spread words
abbrev pub Unchanging : ℕ → ℕ → Response → ℕ → List ℕ → List ℕ → Type 0
Unchanging m taps u t ws h =
    (i j c v : ℕ) (spread : List ℕ) → j < t → c < length ws → 0 < u j c → x_free h (later (circuit m taps v spread) i (get_or ws c 0)) ≡ true
