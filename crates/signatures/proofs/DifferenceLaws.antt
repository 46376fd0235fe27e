-- How signatures differ. Flipping one cell of a response XORs its signature with that cell's column, whatever the other cells hold
-- and whatever the inversion word is: it is XORed into both signatures, and so it is in no column.
-- So responses that differ only in unknown cells have signatures that differ by an XOR of columns.
--
--   flip_column       flipping a cell XORs the signature with its column, inversion or not
--   alike_differ      responses that are alike in every known cell differ by an XOR of columns
-- Assumes nothing.
use mathlib.Core.Path.{◌≡◌, refl, sym, ap, ap₂, ◌∙◌}
use mathlib.Core.Bool.{Bool, false, true, cond, ◌&&◌, ◌||◌}
use mathlib.Core.Logic.{dite}
use mathlib.Core.List.{List, [], ◌∷◌, ◌++◌, append_assoc, append-nil}
use Prim.Native.Nat.{ℕ, zero, suc, ◌+◌, ◌%◌, ◌≤◌, ◌<◌}
use native.Mathlib.Nat.{le_step}
use native.Mathlib.Decide.{dec_lt, ℕ_discrete}
use native.Mathlib.Omega.{arith}
use borrow.Author.Tests.{eq-eqb, ne_eqb, lt-ltb, le-ltb}
use lib.Bits.{bit_xor, xor_zero_r, xor_self}
use lib.Dec.{eqb, ltb}
use Rattle.word.specs.Span.{is_xor_of}
use Rattle.word.proofs.BoolLaws.{and_none}
use Rattle.word.proofs.Laws.{mod2_lt, xor_assoc, xor_cancel}
use Rattle.word.proofs.SpanLaws.{xor_of_zero, xor_of_head, xor_of_join, xor_of_left}
use Rattle.rows.specs.Marks.{listed}
use Rattle.chains.specs.Driven.{chosen}
use Rattle.register.specs.Circuit.{Circuit, chains}
use Rattle.signatures.specs.Signature.{Response, signature, only_cell, column}
use Rattle.signatures.specs.Columns.{slice_columns, columns_below}
use Rattle.signatures.proofs.SignatureLaws.{signature_ext, signature_xor}
use Rattle.signatures.proofs.ColumnLaws.{only_cell_lt, only_cell_other_slice, only_cell_other_chain, only_cell_same}

-- ---- one cell

-- the response x with the cell of slice t and chain c flipped
abbrev pub flipped : ℕ → ℕ → Response → Response
flipped t c x v d = (x v d + only_cell t c v d) % 2

pub flip_column : (k : Circuit) (x : Response) (s t c : ℕ) → ((v d : ℕ) → x v d < 2)
    → signature k (flipped t c x) s ≡ bit_xor (signature k x s) (column k s t c)
unfolding column
flip_column k x s t c hx = signature_xor k x (only_cell t c) s hx (only_cell_lt t c)

-- ---- digits

chosen_none : (d : ℕ) → chosen d 0 ≡ 0
chosen_none zero = refl
chosen_none (suc d) = refl

chosen_one : (d : ℕ) → d < 2 → chosen d 1 ≡ d
chosen_one zero h = refl
chosen_one (suc zero) h = refl
chosen_one (suc (suc d)) h = let z : ⊥ = omega arith in absurd z

plus_none : (a b : ℕ) → a < 2 → b ≡ 0 → (a + b) % 2 ≡ a
plus_none a b h e = omega arith

twice : (a b : ℕ) → a ≡ b → (a + b) % 2 ≡ 0
twice a b e = omega arith

-- a digit is another, flipped where the two differ
crossed : (a b : ℕ) → a < 2 → b < 2 → a ≡ (b + (a + b) % 2) % 2
crossed zero zero ha hb = refl
crossed zero (suc zero) ha hb = refl
crossed (suc zero) zero ha hb = refl
crossed (suc zero) (suc zero) ha hb = refl
crossed zero (suc (suc b)) ha hb = let z : ⊥ = omega arith in absurd z
crossed (suc zero) (suc (suc b)) ha hb = let z : ⊥ = omega arith in absurd z
crossed (suc (suc a)) b ha hb = let z : ⊥ = omega arith in absurd z

-- ---- a response's cells up to a place, in the order of the columns

-- the slices below t whole, and slice t below chain c
within : ℕ → ℕ → ℕ → ℕ → Bool
within t c v d = ltb v t || (eqb v t && ltb d c)

within_below : (t c v d : ℕ) → v < t → within t c v d ≡ true
unfolding within
within_below t c v d h = rw (lt-ltb v t h)

within_at : (t c v d : ℕ) → v ≡ t → within t c v d ≡ ltb d c
unfolding within
within_at t c v d e = rw (le-ltb v t (omega arith), eq-eqb v t e)

within_above : (t c v d : ℕ) → t < v → within t c v d ≡ false
unfolding within
within_above t c v d h = rw (le-ltb v t (omega arith), ne_eqb v t (λ (e : v ≡ t). omega arith))

-- the response x up to a place, and y from there on
up_to : ℕ → ℕ → Response → Response → Response
up_to t c x y v d = cond (within t c v d) (x v d) (y v d)

-- a slice is below another, is it, or is above it
slices : (P : Type 0) (v t : ℕ) → (v < t → P) → (v ≡ t → P) → (t < v → P) → P
slices P v t below at above =
    dite (dec_lt v t) below (λ (n : v < t → ⊥). dite (ℕ_discrete v t) at (λ (m : v ≡ t → ⊥). above (omega arith)))

module _ (x y : Response) where
  inside : (t c v d : ℕ) → within t c v d ≡ true → up_to t c x y v d ≡ x v d
  unfolding up_to
  inside t c v d h = rw h

  outside : (t c v d : ℕ) → within t c v d ≡ false → up_to t c x y v d ≡ y v d
  unfolding up_to
  outside t c v d h = rw h

  -- nothing is up to the first place
  up_to_none : (v d : ℕ) → up_to 0 0 x y v d ≡ y v d
  unfolding within
  up_to_none v d = outside 0 0 v d (rw (le-ltb v 0 (omega arith), le-ltb d 0 (omega arith)) (and_none (eqb v 0)))

  -- everything is up to the place after the last slice
  up_to_all : (s v d : ℕ) → v < s → up_to s 0 x y v d ≡ x v d
  up_to_all s v d h = inside s 0 v d (within_below s 0 v d h)

  -- after the last chain comes the next slice
  up_to_wrap : (t n v d : ℕ) → d < n → up_to t n x y v d ≡ up_to (suc t) 0 x y v d
  up_to_wrap t n v d h =
      slices _ v t
      (λ (l : v < t). inside t n v d (within_below t n v d l) ∙ sym (inside (suc t) 0 v d (within_below (suc t) 0 v d (le_step l))))
      (λ (e : v ≡ t).
      inside t n v d (within_at t n v d e ∙ lt-ltb d n h) ∙ sym (inside (suc t) 0 v d (within_below (suc t) 0 v d (omega arith))))
      (λ (g : t < v). outside t n v d (within_above t n v d g) ∙ sym (outside (suc t) 0 v d (next g)))
    where
      next : t < v → within (suc t) 0 v d ≡ false
      next g =
          slices _ v (suc t) (λ (l : v < suc t). let z : ⊥ = omega arith in absurd z)
          (λ (e : v ≡ suc t). within_at (suc t) 0 v d e ∙ le-ltb d 0 (omega arith)) (within_above (suc t) 0 v d)

  module _ (hx : (t c : ℕ) → x t c < 2) (hy : (t c : ℕ) → y t c < 2) where
    up_to_lt : (t c v d : ℕ) → up_to t c x y v d < 2
    unfolding up_to
    up_to_lt t c v d = go (within t c v d)
      where
        go : (b : Bool) → cond b (x v d) (y v d) < 2
        go true = hx v d
        go false = hy v d

    module _ (t c : ℕ) where
      -- the cell of slice t and chain c alone, where the two differ in it
      abbrev alone : Response
      alone v d = chosen ((x t c + y t c) % 2) (only_cell t c v d)

      -- one cell more
      up_to_more : (v d : ℕ) → up_to t (suc c) x y v d ≡ (up_to t c x y v d + alone v d) % 2
      up_to_more v d =
          slices _ v t
          (λ (l : v < t).
          same (inside t (suc c) v d (within_below t (suc c) v d l) ∙ sym (inside t c v d (within_below t c v d l)))
          (only_cell_other_slice t c v d (λ (e : v ≡ t). omega arith)))
          here
          (λ (g : t < v).
          same (outside t (suc c) v d (within_above t (suc c) v d g) ∙ sym (outside t c v d (within_above t c v d g)))
          (only_cell_other_slice t c v d (λ (e : v ≡ t). omega arith)))
        where
          same : up_to t (suc c) x y v d ≡ up_to t c x y v d → only_cell t c v d ≡ 0 → up_to t (suc c) x y v d ≡ (up_to t c x y v d + alone v d) % 2
          same e o =
              e
              ∙ sym (plus_none (up_to t c x y v d) (alone v d) (up_to_lt t c v d) (ap (chosen ((x t c + y t c) % 2)) o ∙ chosen_none ((x t c + y t c) % 2)))

          here : v ≡ t → up_to t (suc c) x y v d ≡ (up_to t c x y v d + alone v d) % 2
          here e =
              slices _ d c
              (λ (l : d < c).
              same
              (inside t (suc c) v d (within_at t (suc c) v d e ∙ lt-ltb d (suc c) (le_step l))
              ∙ sym (inside t c v d (within_at t c v d e ∙ lt-ltb d c l)))
              (only_cell_other_chain t c v d (λ (f : d ≡ c). omega arith)))
              (λ (f : d ≡ c).
              inside t (suc c) v d (within_at t (suc c) v d e ∙ lt-ltb d (suc c) (omega arith))
              ∙ ap₂ x e f ∙ crossed (x t c) (y t c) (hx t c) (hy t c)
              ∙ ap₂ (λ (a b : ℕ). (a + b) % 2)
              (sym (outside t c v d (within_at t c v d e ∙ le-ltb d c (omega arith)) ∙ ap₂ y e f))
              (sym (ap₂ (λ (a b : ℕ). alone a b) e f ∙ ap (chosen ((x t c + y t c) % 2)) (only_cell_same t c) ∙ chosen_one ((x t c + y t c) % 2) (mod2_lt (x t c + y t c)))))
              (λ (g : c < d).
              same
              (outside t (suc c) v d (within_at t (suc c) v d e ∙ le-ltb d (suc c) g)
              ∙ sym (outside t c v d (within_at t c v d e ∙ le-ltb d c (omega arith))))
              (only_cell_other_chain t c v d (λ (f : d ≡ c). omega arith)))

-- ---- responses that are alike in every known cell

-- a word more in the list, and in the XOR where its digit is 1
one_more : (ws : List ℕ) (u d w y : ℕ) → (u ≡ 0 → d ≡ 0) → is_xor_of ws y ≡ true → is_xor_of (ws ++ listed u w) (bit_xor y (chosen d w)) ≡ true
one_more ws zero d w y h p =
    ap₂ is_xor_of (append-nil ws) (ap (λ (e : ℕ). bit_xor y (chosen e w)) (h refl) ∙ xor_zero_r y) ∙ p
one_more ws (suc u) zero w y h p = ap (is_xor_of (ws ++ w ∷ [])) (xor_zero_r y) ∙ xor_of_left ws (w ∷ []) y p
one_more ws (suc u) (suc d) w y h p =
    xor_of_join ws (w ∷ []) y (bit_xor y w) p (ap (is_xor_of (w ∷ [])) (xor_cancel y w) ∙ xor_of_head w [])

module _ (k : Circuit) (s : ℕ) (u : Response) where
  module _ (x y : Response) (hx : (t c : ℕ) → x t c < 2) (hy : (t c : ℕ) → y t c < 2) where
    flip_some : (e t c : ℕ) (z : Response) → ((v d : ℕ) → z v d < 2)
        → signature k (λ v d. (z v d + chosen e (only_cell t c v d)) % 2) s ≡ bit_xor (signature k z s) (chosen e (column k s t c))
    flip_some zero t c z hz =
        signature_ext k (λ v d. (z v d + 0) % 2) z s (λ v d l m. plus_none (z v d) 0 (hz v d) refl) ∙ sym (xor_zero_r (signature k z s))
    flip_some (suc e) t c z hz = flip_column k z s t c hz

    up_to_signature : (t c : ℕ)
        → signature k (up_to t (suc c) x y) s ≡ bit_xor (signature k (up_to t c x y) s) (chosen ((x t c + y t c) % 2) (column k s t c))
    up_to_signature t c =
        signature_ext k (up_to t (suc c) x y) (λ v d. (up_to t c x y v d + alone x y hx hy t c v d) % 2) s (λ v d l m. up_to_more x y hx hy t c v d)
        ∙ flip_some ((x t c + y t c) % 2) t c (up_to t c x y) (up_to_lt x y hx hy t c)

    module _ (h : (t c : ℕ) → t < s → c < chains k → u t c ≡ 0 → x t c ≡ y t c) where
      -- what the first cells change
      changed : ℕ → ℕ → ℕ
      changed t c = bit_xor (signature k y s) (signature k (up_to t c x y) s)

      slice_xor : (ws : List ℕ) (t : ℕ) → t < s → is_xor_of ws (changed t 0) ≡ true → (c : ℕ) → c ≤ chains k
          → is_xor_of (ws ++ slice_columns k s u t c) (changed t c) ≡ true
      unfolding slice_columns changed
      slice_xor ws t l p zero hc = ap (λ (vs : List ℕ). is_xor_of vs (changed t 0)) (append-nil ws) ∙ p
      slice_xor ws t l p (suc c) hc =
          ap₂ is_xor_of (sym (append_assoc ws (slice_columns k s u t c) (listed (u t c) (column k s t c))))
          (ap (bit_xor (signature k y s)) (up_to_signature t c)
          ∙ sym (xor_assoc (signature k y s) (signature k (up_to t c x y) s) (chosen ((x t c + y t c) % 2) (column k s t c))))
          ∙ one_more (ws ++ slice_columns k s u t c) (u t c) ((x t c + y t c) % 2) (column k s t c) (changed t c)
          (λ (z : u t c ≡ 0). twice (x t c) (y t c) (h t c l hc z)) (slice_xor ws t l p c (omega arith))

      slices_xor : (t : ℕ) → t ≤ s → is_xor_of (columns_below k s u t) (changed t 0) ≡ true
      unfolding columns_below changed
      slices_xor zero l =
          ap (is_xor_of [])
          (ap (bit_xor (signature k y s)) (signature_ext k (up_to 0 0 x y) y s (λ v d m n. up_to_none x y v d)) ∙ xor_self (signature k y s))
          ∙ xor_of_zero []
      slices_xor (suc t) l =
          ap (λ (z : ℕ). is_xor_of (columns_below k s u t ++ slice_columns k s u t (chains k)) (bit_xor (signature k y s) z))
          (sym (signature_ext k (up_to t (chains k) x y) (up_to (suc t) 0 x y) s (λ v d m n. up_to_wrap x y t (chains k) v d n)))
          ∙ slice_xor (columns_below k s u t) t l (slices_xor t (omega arith)) (chains k) (omega arith)

      pub alike_differ : is_xor_of (columns_below k s u s) (bit_xor (signature k y s) (signature k x s)) ≡ true
      unfolding changed
      alike_differ =
          ap (λ (z : ℕ). is_xor_of (columns_below k s u s) (bit_xor (signature k y s) z))
          (sym (signature_ext k (up_to s 0 x y) x s (λ v d m n. up_to_all x y s v d m)))
          ∙ slices_xor s (omega arith)
