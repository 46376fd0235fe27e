-- The columns of the named symbols written one after the other, and the lists that they are made from in a taken set.
--
--   Filled f l₀ l place i   the words that the first i lists of f have stand in l from place 0 on, and l is else as l₀; `place` is behind them
--   filled_starts           .. of none; filled_turns, filled_ends: the loop that writes them
--   flagged_none, flagged_one   an entry's list, by its flag
--   put_none, put_past, put_one   what is put, by the flag and the room; put_room: the list's length stays
--   named_part k s e i       what entry i adds to the columns of the named symbols
--   named_turns, named_ends   the loop that writes these
--   named_length            there are as many columns as named symbols
--   taken_powered           a taken set's powers and spread words
--   taken_within            its ties' cells lie in its slices and chains
--   taken_symbols           .. and its ties' symbol numbers
-- Assumes nothing.
use mathlib.Core.Path.{◌≡◌, refl, sym, ap, ap₂, subst, ◌∙◌}
use mathlib.Core.Bool.{Bool, true, false, cond}
use mathlib.Core.Logic.{⊎_elim}
use mathlib.Core.List.{List, [], ◌∷◌}
use Prim.Native.Nat.{ℕ, zero, suc, ◌+◌, ◌*◌, ◌≤◌, ◌<◌, min}
use native.Mathlib.Nat.{eq-or-lt_of_le, le_of_suc-le-suc}
use native.Mathlib.Numerals.{add-one}
use native.Mathlib.Omega.{arith}
use lib.ListN.{length, get_or, take, set, length-append}
use lib.Seq.{sets, length-sets, length-take-le, get_or-take, set_out}
use Rattle.word.specs.Reply.{front}
use Rattle.numbers.specs.Bytes.{count_at}
use Rattle.numbers.specs.Joined.{joined}
use Rattle.numbers.proofs.FileLaws.{sets_parts, front_sets}
use Rattle.numbers.proofs.PartLaws.{take_limit}
use Rattle.rows.specs.Marks.{listed, total}
use Rattle.rows.proofs.MarkLaws.{length_listed}
use Rattle.ties.specs.Ties.{Ties, entry_bytes, ties_in}
use Rattle.ties.specs.Symbols.{opens, flag, named_symbols, Within}
use Rattle.chains.specs.Driven.{bad_spread}
use Rattle.register.specs.Circuit.{Circuit, circuit, chains}
use Rattle.set_file.specs.Reading.{taken_circuit}
use Rattle.set_file.specs.declared.Taken.{Taken}
use Rattle.signatures.specs.Later.{later}
use Rattle.signatures.specs.Symbols.{symbol_column, named_columns}
use Rattle.powers.proofs.PowerLaws.{later_same}
use Rattle.symbol_columns.specs.Powered.{Powered, SymbolsFrom}

-- ---- one word, where its flag is set

listed_none : (d w : ℕ) → d ≡ 0 → listed d w ≡ []
listed_none zero w e = refl
listed_none (suc d) w e = let z : ⊥ = omega arith in absurd z

listed_one : (d w : ℕ) → (d ≡ 0 → ⊥) → listed d w ≡ w ∷ []
listed_one zero w ne = absurd (ne refl)
listed_one (suc d) w ne = refl

pub flagged_none : (d d' r w : ℕ) → d ≡ d' → d ≡ 0 → listed d r ≡ listed d' w
flagged_none d d' r w e z = listed_none d r z ∙ sym (listed_none d' w (sym e ∙ z))

flag_opens : (b : Bool) (d : ℕ) → d ≡ cond b 1 0 → (d ≡ 0 → ⊥) → b ≡ true
flag_opens true d e ne = refl
flag_opens false d e ne = absurd (ne e)

pub flagged_one : (e : Ties) (i d r w : ℕ) → d ≡ flag e i → (d ≡ 0 → ⊥) → (opens e i ≡ true → r ≡ w) → listed d r ≡ listed (flag e i) w
flagged_one e i d r w ed ne made = ap₂ listed ed (made (flag_opens (opens e i) d ed ne))

pub put_none : (l : List ℕ) (place d w : ℕ) → d ≡ 0
    → (place ≤ length l → place ≡ min (place + length (listed d w)) (length l)) × (l ≡ sets l place (listed d w))
put_none l place d w z = (
  (λ h. let none : length (listed d w) ≡ 0 = ap length (listed_none d w z) in omega arith),
  ap (sets l place) (sym (listed_none d w z)),
)

pub put_past : (l : List ℕ) (place d w : ℕ) → (d ≡ 0 → ⊥) → length l ≤ place
    → (place ≤ length l → place ≡ min (place + length (listed d w)) (length l)) × (l ≡ sets l place (listed d w))
put_past l place d w ne past = (
  (λ h. let one : length (listed d w) ≡ 1 = ap length (listed_one d w ne) in omega arith),
  sym (ap (sets l place) (listed_one d w ne) ∙ set_out l place w past),
)

pub put_one : (l : List ℕ) (place d w : ℕ) → (d ≡ 0 → ⊥) → place < length l
    → (place ≤ length l → place + 1 ≡ min (place + length (listed d w)) (length l)) × (set l place w ≡ sets l place (listed d w))
put_one l place d w ne room = (
  (λ h. let one : length (listed d w) ≡ 1 = ap length (listed_one d w ne) in omega arith),
  ap (sets l place) (sym (listed_one d w ne)),
)

pub put_room : (l l' vs : List ℕ) (place r : ℕ) → l' ≡ sets l place vs → place ≤ length l → (place ≤ length l → r ≡ min (place + length vs) (length l))
    → (length l' ≡ length l) × (r ≤ length l')
put_room l l' vs place r e h er =
    let long : length l' ≡ length l = ap length e ∙ length-sets l place vs in
    let to : r ≡ min (place + length vs) (length l) = er h in
    (long, omega arith)

-- ---- words one after the other

joined_grows : (f : ℕ → List ℕ) (i n : ℕ) → i ≤ n → length (joined f i) ≤ length (joined f n)
unfolding joined
joined_grows f i zero h = let z : i ≡ 0 = omega arith in subst (λ (x : ℕ). length (joined f x) ≤ 0) (sym z) (omega arith)
joined_grows f i (suc n) h =
    ⊎_elim (λ (q : i ≡ suc n). let same : length (joined f i) ≡ length (joined f (suc n)) = ap (λ (x : ℕ). length (joined f x)) q in omega arith)
    (λ (q : i < suc n). omega (arith, joined_grows f i n (le_of_suc-le-suc q), length-append (joined f n) (f n))) (eq-or-lt_of_le h)

module _ (f : ℕ → List ℕ) (l₀ : List ℕ) where
  pub record Filled (l : List ℕ) (place i : ℕ) : Type 0 where
    pub written : l ≡ sets l₀ 0 (joined f i)
    pub behind : place ≡ length (joined f i)

  pub filled_starts : Filled l₀ 0 0
  unfolding joined
  filled_starts = record { written = refl; behind = refl }

  pub filled_turns : (n i place r : ℕ) (l l' vs : List ℕ) → length (joined f n) ≤ length l₀ → i < n → Filled l place i → vs ≡ f i
      → l' ≡ sets l place vs → (place ≤ length l → r ≡ min (place + length vs) (length l)) → Filled l' r (i + 1)
  unfolding joined
  filled_turns n i place r l l' vs room h w ev e er = record {
    written =
        e ∙ ap₂ (λ (x : List ℕ) (y : ℕ). sets x y vs) w.written w.behind ∙ ap (sets (sets l₀ 0 (joined f i)) (length (joined f i))) ev
        ∙ sym (sets_parts (joined f i) (f i) l₀ 0 (length (joined f i)) (omega arith)) ∙ ap (λ (x : ℕ). sets l₀ 0 (joined f x)) (sym (add-one i));
    behind =
        let next : length (joined f (i + 1)) ≡ place + length vs =
        ap (λ (x : ℕ). length (joined f x)) (add-one i) ∙ length-append (joined f i) (f i)
        ∙ ap₂ ◌+◌ (sym w.behind) (ap length (sym ev))
        in
        let long : length l ≡ length l₀ = ap length w.written ∙ length-sets l₀ 0 (joined f i) in
        let fits : place + length vs ≤ length l = omega (arith, joined_grows f (i + 1) n (omega arith)) in
        let to : r ≡ min (place + length vs) (length l) = er (omega arith) in
        omega arith;
  }

  pub filled_ends : (n i place : ℕ) (l : List ℕ) → length (joined f n) ≤ length l₀ → Filled l place i → i ≡ n → l ≡ front (joined f n) l₀
  filled_ends n i place l room w e = w.written ∙ ap (λ (x : ℕ). sets l₀ 0 (joined f x)) e ∙ front_sets (joined f n) l₀ room

-- ---- the columns of the named symbols

-- what entry i adds to them
abbrev pub named_part : Circuit → ℕ → Ties → ℕ → List ℕ
named_part k s e i = listed (flag e i) (symbol_column k s e (e.symbol i))

module _ (k : Circuit) (s : ℕ) (e : Ties) (l₀ : List ℕ) (room : length (named_columns k s e) ≤ length l₀) where
  pub named_turns : (i place r : ℕ) (l l' vs : List ℕ) → i < e.count → Filled (named_part k s e) l₀ l place i → vs ≡ named_part k s e i
      → l' ≡ sets l place vs → (place ≤ length l → r ≡ min (place + length vs) (length l)) → Filled (named_part k s e) l₀ l' r (i + 1)
  unfolding named_columns
  named_turns i place r l l' vs h w ev e' er = filled_turns (named_part k s e) l₀ e.count i place r l l' vs room h w ev e' er

  pub named_ends : (i place : ℕ) (l : List ℕ) → Filled (named_part k s e) l₀ l place i → i ≡ e.count → l ≡ front (named_columns k s e) l₀
  unfolding named_columns
  named_ends i place l w e' = filled_ends (named_part k s e) l₀ e.count i place l room w e'

flag_lt : (b : Bool) → cond {A = ℕ} b 1 0 < 2
flag_lt true = omega arith
flag_lt false = omega arith

parts_length : (k : Circuit) (s : ℕ) (e : Ties) (n : ℕ) → length (joined (named_part k s e) n) ≡ total n (flag e)
unfolding joined total
parts_length k s e zero = refl
parts_length k s e (suc n) =
    length-append (joined (named_part k s e) n) (named_part k s e n)
    ∙ ap₂ ◌+◌ (parts_length k s e n) (length_listed (flag e n) (symbol_column k s e (e.symbol n)) (flag_lt (opens e n)))

pub named_length : (k : Circuit) (s : ℕ) (e : Ties) → length (named_columns k s e) ≡ named_symbols e
unfolding named_columns named_symbols
named_length k s e = parts_length k s e e.count

-- ---- what a taken set gives

module _ (k : Taken) (m n s : ℕ) (words table : List ℕ) (em : m ≡ min k.register.m 64) (en : n ≡ min k.n 256) (es : s ≡ min k.s 512)
    (ew : (words ≡ k.spread) × (length words ≡ 256)) where
  taken_spread : take n words ≡ take k.n k.spread
  taken_spread = take_limit words k.n n (en ∙ ap (min k.n) (sym ew.1)) ∙ ap (take k.n) ew.0

  module _ (many : length table ≡ 576) (right : (i : ℕ) → i < 576 → get_or table i 0 ≡ later (circuit (min k.register.m 64) k.register.taps 0 []) i 1)
      (good : bad_spread (min k.register.m 64) (take k.n k.spread) ≡ false) where
    pub taken_powered : Powered (taken_circuit k) s table (take n words) m
    taken_powered = record {
      long = many;
      powers = λ i h. right i h ∙ later_same (min k.register.m 64) k.register.taps k.register.inversion (take k.n k.spread) i 1;
      spread = taken_spread;
      good = good;
      width = em;
      narrow = omega arith;
      slices = omega arith;
    }

module _ (k : Taken) (s : ℕ) (ws : List ℕ) (es : s ≡ min k.s 512) (ew : ws ≡ take k.n k.spread) where
  pub taken_within : (e : Ties) → Within (min k.s 512) (chains (taken_circuit k)) e → Within s (length ws) e
  taken_within e w = record {
    few = w.few;
    slices = λ i h. omega (arith, w.slices i h);
    chains = λ i h. omega (arith, w.chains i h, ap length ew);
  }

  pub taken_symbols : (ps : List ℕ) (m : ℕ) → Powered (taken_circuit k) s ps ws m → (l : List ℕ) (count limit : ℕ) (ns : List ℕ) → limit ≡ min count 256
      → length ns ≡ 256 → ((i : ℕ) → i < min count 256 → get_or ns i 0 ≡ count_at l (entry_bytes * i + 4))
      → Within (min k.s 512) (chains (taken_circuit k)) (ties_in l count) → SymbolsFrom (taken_circuit k) s ps ws m (take limit ns) (ties_in l count)
  taken_symbols ps m powered l count limit ns el long numbered w =
      let few : count ≤ 256 = w.few in
      record {
        powered = powered;
        within = taken_within (ties_in l count) w;
        numbered = record {
          long = length-take-le limit ns (omega arith) ∙ omega arith;
          numbers = λ i h. get_or-take limit ns i 0 (omega arith) ∙ numbered i (omega arith);
        };
      }
