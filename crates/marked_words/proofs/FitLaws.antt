-- A row listed as far as there is room: the turn and the ends of the loop over the row's words. Assumes nothing.
use mathlib.Core.Path.{◌≡◌, sym, ap, ap₂, ◌∙◌}
use mathlib.Core.Logic.{dite}
use mathlib.Core.List.{List, ◌++◌, append-nil}
use Prim.Native.Nat.{ℕ, ◌+◌, ◌-◌, ◌*◌, ◌≤◌, ◌<◌, min}
use native.Mathlib.Decide.{dec_le}
use native.Mathlib.Omega.{arith}
use lib.Bits.{bit_and}
use lib.Count.{ones}
use lib.ListN.{length, take, drop, get_or, length-append}
use lib.Seq.{take_at, drop_at, length-take-le}
use Rattle.word.specs.Word.{low_mask}
use Rattle.numbers.specs.Bytes.{word_at}
use Rattle.rows.specs.Row.{cell}
use Rattle.rows.specs.Marks.{marked_words, bits}
use Rattle.marked_words.specs.Back.{back}
use Rattle.marked_words.specs.Fitting.{FittedIn}
use Rattle.marked_words.proofs.BackLaws.{back_fits}
use Rattle.marked_words.proofs.ListLaws.{words_from, words_from_end, words_split, one_word_more, word_length, Listing, listing_known, listing_room, listing_starts, listing_turns}

module _ (ws row : List ℕ) where
  -- what the loop knows: what list_row's does, and that nothing was lost
  pub Fitting : List ℕ → List ℕ → ℕ → ℕ → Type 0
  Fitting l₀ l place c = Listing ws row l₀ l place c × (length (words_from ws row c) ≤ length l₀)

  pub fitting_room : (l₀ l : List ℕ) (place c : ℕ) → Fitting l₀ l place c → (length l ≡ length l₀) × (place ≤ length l)
  unfolding Fitting
  fitting_room l₀ l place c k = listing_room ws row l₀ l place c k.0

  pub fitting_starts : (l : List ℕ) (c : ℕ) → length ws ≤ c → Fitting l l (length l) c
  unfolding Fitting
  fitting_starts l c h = (listing_starts ws row l c h, omega (arith, ap length (words_from_end ws row c h)))

  -- the words of the chains from c on stand from `place` on
  module _ (l₀ l : List ℕ) (place c : ℕ) (k : Fitting l₀ l place c) where
    stand : l ≡ take place l₀ ++ words_from ws row c
    unfolding Fitting
    stand =
        let known = listing_known ws row l₀ l place c k.0 in
        known.1 ∙ back_fits (words_from ws row c) l₀ k.1 ∙ ap (λ (i : ℕ). take i l₀ ++ words_from ws row c) (sym known.0)

    before_long : length (take place l₀) ≡ place
    before_long = length-take-le place l₀ (omega (arith, (fitting_room l₀ l place c k).0, (fitting_room l₀ l place c k).1))

    pub place_sum : place + length (words_from ws row c) ≡ length l₀
    unfolding Fitting
    place_sum = omega (arith, (listing_known ws row l₀ l place c k.0).0, k.1)

    pub kept_part : take place l ≡ take place l₀
    kept_part = ap (take place) stand ∙ take_at (take place l₀) (words_from ws row c) place before_long

    pub listed_part : drop place l ≡ words_from ws row c
    listed_part = ap (drop place) stand ∙ drop_at (take place l₀) (words_from ws row c) place before_long

  -- the words before the chain c, which may be past the last, and those from it on
  pub split : (c : ℕ) → marked_words ws (cell row) (length ws) ≡ marked_words ws (cell row) (min c (length ws)) ++ words_from ws row c
  split c =
      dite (dec_le c (length ws))
      (λ (h : c ≤ length ws). let same : c ≡ min c (length ws) = omega arith in words_split ws row c h ∙ ap (λ (i : ℕ). marked_words ws (cell row) i ++ words_from ws row c) same)
      (λ (h : c ≤ length ws → ⊥).
      let same : length ws ≡ min c (length ws) = omega arith in
      sym (append-nil (marked_words ws (cell row) (length ws)))
      ∙ ap₂ (λ (i : ℕ) (x : List ℕ). marked_words ws (cell row) i ++ x) same (sym (words_from_end ws row c (omega arith))))

  fitted : (l₀ l : List ℕ) (place c n : ℕ) → Fitting l₀ l place c → n ≡ min c (length ws) → (64 ≤ length l₀ → 0 < length ws → n < length ws)
      → FittedIn ws (cell row) l₀ l (record { place = place; chains = n })
  fitted l₀ l place c n k e some =
      let room = fitting_room l₀ l place c k in record {
        chains = omega arith;
        place = omega (arith, room.0, room.1);
        long = room.0;
        listed =
            split c ∙ ap₂ (λ (i : ℕ) (x : List ℕ). marked_words ws (cell row) i ++ x) (sym e) (sym (listed_part l₀ l place c k));
        kept = kept_part l₀ l place c k;
        some = some;
      }

  module _ (bytes : (i : ℕ) → get_or row i 0 < 256) (vs : List ℕ) (i mask marks : ℕ) (h : 0 < i) (m : 64 * (i - 1) < length ws)
      (em : mask ≡ low_mask (length ws - 64 * (i - 1))) (ek : marks ≡ bit_and (word_at row (8 * (i - 1))) mask)
      (ev : vs ≡ take (length ws - 64 * (i - 1)) (drop (64 * (i - 1)) ws)) where
    pub fitting_turns : (l₀ l l' : List ℕ) (place place' : ℕ) → Fitting l₀ l place (64 * i) → ones marks ≤ place
        → place' ≡ length (take place l) - length (marked_words vs (bits marks) 64)
        → l' ≡ back (marked_words vs (bits marks) 64) (take place l) ++ drop place l → Fitting l₀ l' place' (64 * (i - 1))
    unfolding Fitting
    fitting_turns l₀ l l' place place' k room ep el = (
      listing_turns ws row bytes l₀ l l' vs place place' i mask marks k.0 h m em ek ev ep el,
      omega (
        arith,
        place_sum l₀ l place (64 * i) k,
        word_length ws row bytes vs i mask marks h m em ek ev,
        length-append (marked_words vs (bits marks) 64) (words_from ws row (64 * i)),
        ap length (one_word_more ws row bytes vs i mask marks h m em ek ev),
      ),
    )

  -- the next word's marks don't fit: there are 64 at most
  pub fitting_stops : (l₀ l : List ℕ) (place i marks n : ℕ) → Fitting l₀ l place (64 * i) → ones marks ≤ 64 → place < ones marks → n ≡ min (64 * i) (length ws)
      → FittedIn ws (cell row) l₀ l (record { place = place; chains = n })
  fitting_stops l₀ l place i marks n k most short e =
      fitted l₀ l place (64 * i) n k e
      (λ room some.
      dite (dec_le (length ws) (64 * i))
      (λ (h : length ws ≤ 64 * i).
      let z : ⊥ = omega (arith, place_sum l₀ l place (64 * i) k, ap length (words_from_end ws row (64 * i) h)) in absurd z)
      (λ (h : length ws ≤ 64 * i → ⊥). omega arith))

  pub fitting_ends : (l₀ l : List ℕ) (place c : ℕ) → Fitting l₀ l place c → c ≡ 0 → FittedIn ws (cell row) l₀ l (record { place = place; chains = 0 })
  fitting_ends l₀ l place c k e = fitted l₀ l place c 0 k (omega arith) (λ room some. some)
