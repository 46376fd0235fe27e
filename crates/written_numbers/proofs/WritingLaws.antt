-- What has been written and what is left, in a loop that writes one part after another. Assumes nothing.
use mathlib.Core.Path.{◌≡◌, refl, sym, ap, ◌∙◌}
use mathlib.Core.List.{List, [], ◌++◌}
use Prim.Native.Nat.{ℕ, ◌+◌, ◌≤◌, ◌<◌}
use native.Mathlib.Numerals.{add-one}
use lib.ListN.{length, get_or, drop, drop_of_length-le}
use lib.Seq.{drop-cons, sets, length-sets}
use Rattle.numbers.specs.Bytes.{bytes_of, word_bytes}
use Rattle.numbers.proofs.ByteLaws.{bytes_of_length, sets_append, sets_past_end}

-- the list l₀, with vs to be written from place `at` on, has become l, and us is left to be written from place i on
pub record Writing (l₀ l vs us : List ℕ) (at i : ℕ) : Type 0 where
  pub long : length l ≡ length l₀
  pub rest : sets l i us ≡ sets l₀ at vs

pub writing_start : (l vs : List ℕ) (at : ℕ) → Writing l l vs vs at at
writing_start l vs at = record { long = refl; rest = refl }

writing_turn : (l₀ l vs a us : List ℕ) (at i : ℕ) → Writing l₀ l vs (a ++ us) at i → Writing l₀ (sets l i a) vs us at (i + length a)
writing_turn l₀ l vs a us at i w =
    record { long = length-sets l i a ∙ w.long; rest = sym (sets_append a us l i) ∙ w.rest }

pub writing_past : (l₀ l vs us : List ℕ) (at i : ℕ) → Writing l₀ l vs us at i → length l ≤ i → l ≡ sets l₀ at vs
writing_past l₀ l vs us at i w h = sym (sets_past_end us l i h) ∙ w.rest

pub writing_end : (l₀ l vs us : List ℕ) (at i : ℕ) → Writing l₀ l vs us at i → us ≡ [] → l ≡ sets l₀ at vs
writing_end l₀ l vs us at i w e = ap (sets l i) (sym e) ∙ w.rest

-- ---- words

abbrev pub WordsLeft : List ℕ → List ℕ → List ℕ → ℕ → ℕ → ℕ → Type 0
WordsLeft l₀ l ws at i c = Writing l₀ l (word_bytes ws) (word_bytes (drop c ws)) at i

word_bytes_from : (ws : List ℕ) (c : ℕ) → c < length ws → word_bytes (drop c ws) ≡ bytes_of 8 (get_or ws c 0) ++ word_bytes (drop (c + 1) ws)
unfolding word_bytes
word_bytes_from ws c h =
    ap word_bytes (drop-cons ws c 0 h) ∙ ap (λ (k : ℕ). bytes_of 8 (get_or ws c 0) ++ word_bytes (drop k ws)) (sym (add-one c))

pub words_turn : (l₀ l l' ws : List ℕ) (at i c : ℕ) → WordsLeft l₀ l ws at i c → c < length ws → l' ≡ sets l i (bytes_of 8 (get_or ws c 0))
    → WordsLeft l₀ l' ws at (i + 8) (c + 1)
words_turn l₀ l l' ws at i c w h e =
    let word = bytes_of 8 (get_or ws c 0) in
    let next : Writing l₀ (sets l i word) (word_bytes ws) (word_bytes (drop (c + 1) ws)) at (i + length word) =
    writing_turn l₀ l (word_bytes ws) word (word_bytes (drop (c + 1) ws)) at i (rw (word_bytes_from ws c h) at w)
    in
    rw e (rw (bytes_of_length 8 (get_or ws c 0)) at next)

pub words_end : (l₀ l ws : List ℕ) (at i c : ℕ) → WordsLeft l₀ l ws at i c → length ws ≤ c → l ≡ sets l₀ at (word_bytes ws)
unfolding word_bytes
words_end l₀ l ws at i c w h = writing_end l₀ l (word_bytes ws) (word_bytes (drop c ws)) at i w (ap word_bytes (drop_of_length-le ws h))
