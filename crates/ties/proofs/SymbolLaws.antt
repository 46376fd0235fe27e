-- Which entry names a cell, and which entry is a symbol's first.
--
--   names_cell      an entry that names a cell has its slice and chain
--   names_own       an entry names its own cell
--   naming_some     the entry that is found names the cell
--   naming_none     where none is found, none does
--   unnamed         without entries no cell is named
--   naming_own      in sound ties the entry that names its cell is found there
--   opening         each entry's symbol has a first entry
--   named_symbols_most   there are no more named symbols than entries
--   unmarked_free   without flags the marks of all named cells are taken out
--   unmarked_first  with those of the first entries, all but the first cells of the symbols
-- Assumes nothing.
use mathlib.Core.Path.{◌≡◌, refl, sym, ap, ap₂, ◌∙◌}
use mathlib.Core.Bool.{Bool, true, false, cond, not, ◌&&◌}
use mathlib.Core.Logic.{⊎_elim, dite}
use mathlib.Core.List.{List, []}
use mathlib.Core.Option.{Option, none, some}
use Prim.Native.Nat.{ℕ, zero, suc, ◌≤◌, ◌<◌}
use native.Mathlib.Nat.{mul-one, not-suc-le-zero, lt-suc_self, le_step, eq-or-lt_of_le, le_of_suc-le-suc}
use native.Mathlib.Decide.{dec_lt, ℕ_discrete}
use native.Mathlib.Omega.{arith}
use borrow.Author.Tests.{eqb-true, eq-eqb}
use lib.Dec.{eqb}
use lib.ListN.{get_or}
use Rattle.word.specs.Some.{any_below}
use Rattle.word.proofs.BoolLaws.{and_both, and_intro, true_not_false, not_true}
use Rattle.word.proofs.SomeLaws.{any_below_none, any_below_true, any_below_some}
use Rattle.rows.specs.Row.{Cells}
use Rattle.rows.proofs.MarkLaws.{total_le}
use Rattle.ties.specs.Ties.{Ties}
use Rattle.ties.specs.Symbols.{names, naming_below, naming, opens, flag, named_symbols, free_mark, free_marks, first_mark, first_marks, unmarked, SoundTies}

-- ---- cells

pub names_cell : (e : Ties) (i t c : ℕ) → names e i t c ≡ true → (e.slice i ≡ t) × (e.chain i ≡ c)
unfolding names
names_cell e i t c h =
    let both = and_both (eqb (e.slice i) t) (eqb (e.chain i) c) h in
    (eqb-true (e.slice i) t both.0, eqb-true (e.chain i) c both.1)

pub names_own : (e : Ties) (i t c : ℕ) → e.slice i ≡ t → e.chain i ≡ c → names e i t c ≡ true
unfolding names
names_own e i t c hs hc = and_intro _ _ (eq-eqb (e.slice i) t hs) (eq-eqb (e.chain i) c hc)

-- ---- the entry that names a cell

pub naming_some : (e : Ties) (k t c i : ℕ) → naming_below e k t c ≡ some i → (i < k) × (names e i t c ≡ true)
unfolding naming_below
naming_some e zero t c i h = let z : ◌≡◌ {A = ℕ} 0 1 = cc in let f : ⊥ = omega arith in absurd f
naming_some e (suc k) t c i h = go (names e k t c) refl (naming_some e k t c i) h
  where
    go : (b : Bool) → names e k t c ≡ b → (naming_below e k t c ≡ some i → (i < k) × (names e i t c ≡ true))
        → cond b (some k) (naming_below e k t c) ≡ some i → (i < suc k) × (names e i t c ≡ true)
    go true p f q = let same : k ≡ i = cc in (omega arith, ap (λ (j : ℕ). names e j t c) (sym same) ∙ p)
    go false p f q = let found = f q in (le_step found.0, found.1)

pub naming_none : (e : Ties) (k t c : ℕ) → naming_below e k t c ≡ none → (i : ℕ) → i < k → names e i t c ≡ false
unfolding naming_below
naming_none e zero t c h i l = absurd (not-suc-le-zero l)
naming_none e (suc k) t c h i l = go (names e k t c) refl (naming_none e k t c) h
  where
    go : (b : Bool) → names e k t c ≡ b → (naming_below e k t c ≡ none → (j : ℕ) → j < k → names e j t c ≡ false)
        → cond b (some k) (naming_below e k t c) ≡ none → names e i t c ≡ false
    go true p f q = let z : ◌≡◌ {A = ℕ} 0 1 = cc in let g : ⊥ = omega arith in absurd g
    go false p f q =
        ⊎_elim (λ (same : i ≡ k). ap (λ (j : ℕ). names e j t c) same ∙ p) (λ (m : i < k). f q i m) (eq-or-lt_of_le (le_of_suc-le-suc l))

-- without entries no cell is named
pub unnamed : (e : Ties) → e.count ≡ 0 → (t c : ℕ) → naming e t c ≡ none
unnamed e z t c = go (naming e t c) refl
  where
    go : (o : Option ℕ) → naming e t c ≡ o → naming e t c ≡ none
    go none q = q
    go (some i) q = let found = naming_some e e.count t c i q in let clash : ⊥ = omega (arith, found.0) in absurd clash

-- no other entry names the cell of one
module _ (s n : ℕ) (u : ℕ → Cells) (e : Ties) (sound : SoundTies s n u e) where
  pub one_name : (h i t c : ℕ) → h < e.count → i < e.count → names e h t c ≡ true → names e i t c ≡ true → h ≡ i
  one_name h i t c lh li ph pi =
      dite (ℕ_discrete h i) (λ (same : h ≡ i). same)
      (λ (other : h ≡ i → ⊥).
      dite (dec_lt h i) (λ (l : h < i). absurd (clash h i l li (names_cell e h t c ph) (names_cell e i t c pi)))
      (λ (m : h < i → ⊥). absurd (clash i h (omega arith) lh (names_cell e i t c pi) (names_cell e h t c ph))))
    where
      clash : (a b : ℕ) → a < b → b < e.count → (e.slice a ≡ t) × (e.chain a ≡ c) → (e.slice b ≡ t) × (e.chain b ≡ c) → ⊥
      clash a b l lb pa pb =
          true_not_false (names e a (e.slice b) (e.chain b)) (names_own e a (e.slice b) (e.chain b) (pa.0 ∙ sym pb.0) (pa.1 ∙ sym pb.1))
          (sound.apart a b l lb)

  pub naming_named : (i t c : ℕ) → i < e.count → names e i t c ≡ true → naming e t c ≡ some i
  naming_named i t c l p = go (naming e t c) refl
    where
      go : (o : Option ℕ) → naming e t c ≡ o → naming e t c ≡ some i
      go none q = absurd (true_not_false (names e i t c) p (naming_none e e.count t c q i l))
      go (some h) q =
          let found = naming_some e e.count t c h q in
          q ∙ ap some (one_name h i t c found.0 l found.1 p)

  pub naming_own : (i : ℕ) → i < e.count → naming e (e.slice i) (e.chain i) ≡ some i
  naming_own i l = naming_named i (e.slice i) (e.chain i) l (names_own e i (e.slice i) (e.chain i) refl refl)

-- ---- the first entry of a symbol

-- an entry with the symbol of entry i, no later than it, that no earlier one has
abbrev pub Opening : Ties → ℕ → Type 0
Opening e i = (h : ℕ) × (h ≤ i) × (opens e h ≡ true) × (e.symbol h ≡ e.symbol i)

opening_below : (e : Ties) (n i : ℕ) → i < n → Opening e i
unfolding opens
opening_below e zero i l = absurd (not-suc-le-zero l)
opening_below e (suc n) i l = go (any_below i (λ h. eqb (e.symbol h) (e.symbol i))) refl (opening_below e n)
  where
    first : any_below i (λ h. eqb (e.symbol h) (e.symbol i)) ≡ false → opens e i ≡ true
    first p = ap not p

    go : (b : Bool) → any_below i (λ h. eqb (e.symbol h) (e.symbol i)) ≡ b → ((h : ℕ) → h < n → Opening e h) → Opening e i
    go false p f = (i, omega arith, first p, refl)
    go true p f =
        let same = any_below_some i (λ h. eqb (e.symbol h) (e.symbol i)) p in
        let found = f same.0 (omega (arith, same.1)) in
        (found.0, omega (arith, found.1, same.1), found.2, found.3 ∙ eqb-true (e.symbol same.0) (e.symbol i) same.2)

pub opening : (e : Ties) (i : ℕ) → Opening e i
opening e i = opening_below e (suc i) i (lt-suc_self i)

-- there are no more named symbols than entries
pub named_symbols_most : (e : Ties) → named_symbols e ≤ e.count
unfolding named_symbols
named_symbols_most e = omega (arith, total_le e.count 1 (flag e) (λ i. one (opens e i)), mul-one e.count)
  where
    one : (b : Bool) → cond {A = ℕ} b 1 0 ≤ 1
    one true = omega arith
    one false = omega arith

-- ---- marks

pub unmarked_free : (u : ℕ → Cells) (e : Ties) (t c : ℕ) → unmarked u e [] t c ≡ free_marks u e t c
unfolding free_marks
unmarked_free u e t c = go (naming e t c) refl
  where
    go : (o : Option ℕ) → naming e t c ≡ o → unmarked u e [] t c ≡ free_mark (u t c) o
    go none q =
        ap (λ (b : Bool). cond b 0 (u t c))
        (any_below_none e.count (λ i. names e i t c && eqb (get_or [] i 0) 0)
        (λ i l. ap (λ (b : Bool). b && eqb (get_or [] i 0) 0) (naming_none e e.count t c q i l)))
    go (some i) q =
        let found = naming_some e e.count t c i q in
        ap (λ (b : Bool). cond b 0 (u t c))
        (any_below_true e.count (λ h. names e h t c && eqb (get_or [] h 0) 0) i found.0 (and_intro _ _ found.1 refl))

module _ (s n : ℕ) (u : ℕ → Cells) (e : Ties) (sound : SoundTies s n u e) (ks : List ℕ) (right : (i : ℕ) → i < e.count → get_or ks i 0 ≡ flag e i) where
  pub unmarked_first : (t c : ℕ) → unmarked u e ks t c ≡ first_marks u e t c
  unfolding first_marks
  unmarked_first t c = go (naming e t c) refl
    where
      -- the marks that are taken out
      out : ℕ → Bool
      out h = names e h t c && eqb (get_or ks h 0) 0

      kept : any_below e.count out ≡ false → unmarked u e ks t c ≡ u t c
      kept p = ap (λ (b : Bool). cond b 0 (u t c)) p

      gone : (i : ℕ) → i < e.count → names e i t c ≡ true → flag e i ≡ 0 → unmarked u e ks t c ≡ 0
      gone i l p z =
          ap (λ (b : Bool). cond b 0 (u t c)) (any_below_true e.count out i l (and_intro _ _ p (eq-eqb (get_or ks i 0) 0 (right i l ∙ z))))

      -- the cell of entry i, which is named by no other
      named : (i : ℕ) → i < e.count → names e i t c ≡ true → (b : Bool) → opens e i ≡ b → unmarked u e ks t c ≡ flag e i
      named i l p true q =
          let one : flag e i ≡ 1 = ap (λ (b : Bool). cond b 1 0) q in
          let cells = names_cell e i t c p in
          kept (any_below_none e.count out
          (λ h m. not_true (out h)
          (λ (o : out h ≡ true).
          let both = and_both (names e h t c) (eqb (get_or ks h 0) 0) o in
          let same : h ≡ i = one_name s n u e sound h i t c m l both.0 p in
          let flagged : get_or ks h 0 ≡ 1 = right h m ∙ ap (flag e) same ∙ one in
          let clash : ⊥ = omega (arith, eqb-true (get_or ks h 0) 0 both.1) in clash)))
          ∙ ap₂ u (sym cells.0) (sym cells.1) ∙ sound.unknown i l ∙ sym one
      named i l p false q =
          let none : flag e i ≡ 0 = ap (λ (b : Bool). cond b 1 0) q in gone i l p none ∙ sym none

      go : (o : Option ℕ) → naming e t c ≡ o → unmarked u e ks t c ≡ first_mark e (u t c) o
      go none q =
          kept (any_below_none e.count out (λ h m. ap (λ (b : Bool). b && eqb (get_or ks h 0) 0) (naming_none e e.count t c q h m)))
      go (some i) q =
          let found = naming_some e e.count t c i q in named i found.0 found.1 (opens e i) refl
