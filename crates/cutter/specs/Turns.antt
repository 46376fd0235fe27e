-- What the work on all slices does.
--
--   said_slices r          the paper's reading of what the work on all slices hands back
--   Sound k               a circuit whose clock loses no state, and chains within it. Document 01: "With bit 0 set a clock loses no state."
--   seen r ws s l rows    what is given by a register r, which counts as at most 64 bits wide, with chains of the spread words ws, s slices
--                         and the rows of marks in a list l; the values play no part
--   SlicedFor g k l r     what the work on all slices does
use Rattle.std.specs.Prelude.{◌≡◌, List, [], ◌∷◌, ℕ, ◌^◌, ◌≤◌, ◌<◌, min, length, take, get_or, Result}
use Rattle.word.specs.Word.{digit}
use Rattle.word.specs.Reply.{◌when◌, Reply, answer, reply}
use Rattle.rows.specs.Lists.{cells_of}
use Rattle.rows.specs.declared.Rows.{Rows}
use Rattle.ties.specs.Ties.{no_ties}
use Rattle.register.specs.Circuit.{Circuit, circuit}
use Rattle.register.specs.declared.Register.{Register}
use Rattle.signatures.specs.Given.{Given}
use Rattle.cutter.specs.Cutting.{short_slice, starts_for}
use Rattle.refusals.specs.declared.Refusal.{Refusal}
use Rattle.refusals.specs.Refusals.{replied_by}

abbrev pub said_slices : Result ℕ Refusal → Reply ℕ
said_slices = replied_by (λ n. n)

pub record Sound (k : Circuit) : Type 0 where
  pub some : 1 ≤ k.width
  pub odd : digit 0 k.taps ≡ 1
  pub taps : k.taps < 2 ^ k.width
  pub spread : (c : ℕ) → get_or k.spread c 0 < 2 ^ k.width

abbrev pub seen : Register → List ℕ → ℕ → List ℕ → Rows → Given
seen r ws s l rows =
    record { wiring = circuit (min r.m 64) r.taps r.inversion ws; slices = s; values = λ t c. 0; marks = cells_of l rows; ties = no_ties }

-- the slices have been gone through: the first slice of each run, of at most 512, stands at the front of the list l
pub record SlicedFor (g : Given) (k : ℕ) (l : List ℕ) (r : Result ℕ Refusal) : Type 0 where
  pub reply : said_slices r ≡ reply (27 when short_slice g k ∷ []) (length (starts_for g k))
  pub starts : (n : ℕ) → said_slices r ≡ answer n → take n l ≡ starts_for g k
  pub few : (n : ℕ) → said_slices r ≡ answer n → n ≤ 512
