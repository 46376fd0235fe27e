-- Words XORed into a list of drives place by place, and 64 chains after the other. Assumes nothing.
use mathlib.Core.Path.{◌≡◌, refl, sym, ap, ap₂, subst, ◌∙◌}
use mathlib.Core.Logic.{dite}
use mathlib.Core.List.{List}
use Prim.Native.Nat.{ℕ, ◌+◌, ◌*◌, ◌^◌, ◌≤◌, ◌<◌}
use native.Mathlib.Decide.{ℕ_discrete}
use native.Mathlib.Omega.{arith}
use lib.Bits.{bit_xor}
use lib.ListN.{length, get_or, set, take, drop, length-set, get_or-replicate}
use lib.Seq.{get_or-set_same, get_or-set_other}
use Rattle.word.specs.Zeros.{zeros}
use Rattle.byte_tables.specs.Table.{ByteTable, looked}
use Rattle.byte_tables.proofs.TableLaws.{looked_marked}
use Rattle.numbers.specs.Bytes.{word_at}
use Rattle.numbers.proofs.ByteLaws.{number_at_lt, number_in_part}
use Rattle.numbers.proofs.FileLaws.{part_small}
use Rattle.rows.specs.Lists.{row_of, cells_of}
use Rattle.rows.specs.declared.Rows.{Rows}
use Rattle.chains.specs.Driven.{driven}
use Rattle.chains.proofs.Laws.{driven_none, driven_turn, driven_ends}
use Rattle.drives.specs.Drives.{Added, marks_at, Drives}

-- ---- the loop over the slices

module _ (l₀ : List ℕ) (f : ℕ → ℕ) where
  pub added_starts : Added l₀ l₀ 0 f
  added_starts =
      record {
        long = refl;
        new = λ t h. let z : ⊥ = omega arith in absurd z;
        rest = λ t h. refl;
      }

  pub added_turns : (l : List ℕ) (t w : ℕ) → t < length l → Added l₀ l t f → w ≡ f t → Added l₀ (set l t (bit_xor (get_or l t 0) w)) (t + 1) f
  added_turns l t w inside a ew =
      record {
        long = length-set l t _ ∙ a.long;
        new = λ i h. dite (ℕ_discrete i t) (here i) (λ (z : i ≡ t → ⊥). get_or-set_other l t i _ 0 z ∙ a.new i (omega arith));
        rest = λ i h. get_or-set_other l t i _ 0 (λ (z : i ≡ t). omega arith) ∙ a.rest i (omega arith);
      }
    where
      here : (i : ℕ) → i ≡ t → get_or (set l t (bit_xor (get_or l t 0) w)) i 0 ≡ bit_xor (get_or l₀ i 0) (f i)
      here i z =
          ap (λ (x : ℕ). get_or (set l t (bit_xor (get_or l t 0) w)) x 0) z
          ∙ get_or-set_same l t _ 0 inside ∙ ap₂ bit_xor (a.rest t (omega arith)) ew
          ∙ ap (λ (x : ℕ). bit_xor (get_or l₀ x 0) (f x)) (sym z)

  pub added_ends : (l : List ℕ) (t s : ℕ) → t ≡ s → Added l₀ l t f → Added l₀ l s f
  added_ends l t s e a = subst (λ (x : ℕ). Added l₀ l x f) e a

  -- the same words by another name
  pub added_as : (l : List ℕ) (s : ℕ) (g : ℕ → ℕ) → ((t : ℕ) → t < s → f t ≡ g t) → Added l₀ l s f → Added l₀ l s g
  added_as l s g e a =
      record {
        long = a.long;
        new = λ t h. a.new t h ∙ ap (bit_xor (get_or l₀ t 0)) (e t h);
        rest = a.rest;
      }

-- ---- rows that are all there

-- a part of a row by its place in the list
pub marks_inside : (l : List ℕ) (r : Rows) (from t : ℕ) → from + 8 ≤ r.bytes → word_at l (r.at + from + r.stride * t) ≡ marks_at l r from t
marks_inside l r from t h =
    let place : r.at + from + r.stride * t ≡ r.at + r.stride * t + from = omega arith in
    ap (word_at l) place ∙ sym (number_in_part 8 l (r.at + r.stride * t) r.bytes from h)

-- ---- what is looked up for one slice

pub looked_of_any : (table l row : List ℕ) (r : Rows) (from t marks drive : ℕ) → row ≡ row_of l r t → marks ≡ word_at row from → drive ≡ looked table marks 8
    → drive ≡ looked table (marks_at l r from t) 8
looked_of_any table l row r from t marks drive er em ed =
    ed ∙ ap (λ (x : ℕ). looked table x 8) (em ∙ ap (λ (x : List ℕ). word_at x from) er)

pub looked_of_whole : (table l : List ℕ) (place marks drive : ℕ) → marks ≡ word_at l place → drive ≡ looked table marks 8
    → drive ≡ looked table (word_at l place) 8
looked_of_whole table l place marks drive em ed = ed ∙ ap (λ (x : ℕ). looked table x 8) em

pub whole_looked : (table l drives drives' : List ℕ) (r : Rows) (from s : ℕ) → from + 8 ≤ r.bytes
    → Added drives drives' s (λ t. looked table (word_at l (r.at + from + r.stride * t)) 8) → Added drives drives' s (λ t. looked table (marks_at l r from t) 8)
whole_looked table l drives drives' r from s h a =
    added_as drives _ drives' s _ (λ t k. ap (λ (x : ℕ). looked table x 8) (marks_inside l r from t h)) a

-- ---- one group after the other

-- each of the first s drives has what the chains below 64 times g drive
pub Driving : List ℕ → Rows → List ℕ → ℕ → ℕ → List ℕ → Type 0
Driving l r ws s g ds = (t : ℕ) → t < s → get_or ds t 0 ≡ driven ws (cells_of l r t) (64 * g)

module _ (l : List ℕ) (r : Rows) where
  marks_lt : ((i : ℕ) → get_or l i 0 < 256) → (from t : ℕ) → marks_at l r from t < 2 ^ 64
  marks_lt bytes from t = number_at_lt 8 (row_of l r t) from (part_small l bytes (r.at + r.stride * t) r.bytes)

  pub driving_starts : (ws ds : List ℕ) (s : ℕ) → s ≤ 512 → ds ≡ zeros 512 → Driving l r ws s 0 ds
  unfolding Driving
  driving_starts ws ds s h e t k =
      ap (λ (x : List ℕ). get_or x t 0) e ∙ get_or-replicate 512 t 0 0 (omega arith) ∙ sym (driven_none ws (cells_of l r t))

  pub driving_turns : ((i : ℕ) → get_or l i 0 < 256) → (ws part table ds ds' : List ℕ) (s g : ℕ) → part ≡ take 64 (drop (64 * g) ws) → ByteTable part table → Driving l r ws s g ds
      → Added ds ds' s (λ t. looked table (marks_at l r (8 * g) t) 8) → Driving l r ws s (g + 1) ds'
  unfolding Driving
  driving_turns bytes ws part table ds ds' s g ep right k a t h =
      a.new t h
      ∙ driven_turn ws (row_of l r t) part (part_small l bytes (r.at + r.stride * t) r.bytes) g (marks_at l r (8 * g) t) (get_or ds t 0) _ (k t h) refl
      (marks_lt bytes (8 * g) t) ep (looked_marked part table right (marks_at l r (8 * g) t) (marks_lt bytes (8 * g) t))

  pub driving_ends : (ws ds : List ℕ) (s s' g : ℕ) → length ws ≤ 64 * g → s ≡ s' → Driving l r ws s g ds → Drives ws l r s' ds
  unfolding Driving
  driving_ends ws ds s s' g h e k t m = driven_ends ws (row_of l r t) g (get_or ds t 0) h (k t (omega arith))
