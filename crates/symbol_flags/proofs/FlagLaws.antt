-- Symbol numbers and flags.
--
--   Made f l i        the first i places of l have what f gives, and the others 0
--   made_starts, made_turns   the loop that makes it
--   any_list          a test over a list is one over its places
--   numbers_any       a test over the first places of a list is one over the list
--   opening_by ns i    the flag of entry i by the list ns of symbol numbers
--   opening_made      .. by whether one of the numbers before it is the same
--   flags_opened      the flags made from the symbol numbers are those of the ties
--   counted_starts, counted_turns, counted_ends   a loop that adds up
--   counted_list      a sum over a list is one over its places
--   flags_counted     the number of flags that aren't 0 is that of the named symbols
-- Assumes nothing.
use mathlib.Core.Path.{◌≡◌, refl, sym, ap, ap₂, ◌∙◌}
use mathlib.Core.Bool.{Bool, true, false, not, cond, ◌||◌}
use mathlib.Core.Logic.{dite}
use mathlib.Core.List.{List, [], ◌∷◌}
use Prim.Native.Nat.{ℕ, suc, ◌+◌, ◌*◌, ◌≤◌, ◌<◌, min}
use native.Mathlib.Numerals.{add-one}
use native.Mathlib.Decide.{dec_lt, ℕ_discrete}
use native.Mathlib.Omega.{arith}
use lib.Dec.{eqb}
use lib.ListN.{length, get_or, take, set, replicate, length-replicate, get_or-replicate, get_or-eq_default}
use lib.Seq.{length-take-le, get_or-take, get_or-set_same, get_or-set_other}
use Rattle.word.specs.Some.{any_below}
use Rattle.word.proofs.SomeLaws.{any_below_ext}
use Rattle.word.proofs.RangeLaws.{any_below_add}
use Rattle.std.specs.List.{list_any, sum_by}
use Rattle.std.proofs.lemmas.List.Sums.{sum_by-cons}
use mir.Val.{bool_byte}
use Rattle.numbers.specs.Bytes.{count_at}
use Rattle.rows.specs.Marks.{total}
use Rattle.rows.proofs.MarkLaws.{total_none, total_ext, total_front}
use Rattle.ties.specs.Ties.{Ties, entry_bytes, ties_in}
use Rattle.ties.specs.Symbols.{opens, flag, named_symbols}

-- ---- a list made place by place

pub record Made (f : ℕ → ℕ) (l : List ℕ) (i : ℕ) : Type 0 where
  pub done : (h : ℕ) → h < i → get_or l h 0 ≡ f h
  pub rest : (h : ℕ) → i ≤ h → get_or l h 0 ≡ 0

pub made_starts : (f : ℕ → ℕ) (l : List ℕ) (k : ℕ) → l ≡ replicate k 0 → Made f l 0
made_starts f l k e = record {
  done = λ h b. let z : ⊥ = omega arith in absurd z;
  rest = λ h b.
      dite (dec_lt h k) (λ (q : h < k). ap (λ (x : List ℕ). get_or x h 0) e ∙ get_or-replicate k h 0 0 q)
      (λ (q : h < k → ⊥). get_or-eq_default l 0 (omega (arith, ap length e, length-replicate {A = ℕ} k 0)));
}

pub made_turns : (f : ℕ → ℕ) (l : List ℕ) (i w : ℕ) → Made f l i → i < length l → w ≡ f i → Made f (set l i w) (i + 1)
made_turns f l i w m b e = record { done = done; rest = rest }
  where
    here : get_or (set l i w) i 0 ≡ f i
    here = get_or-set_same l i w 0 b ∙ e

    done : (h : ℕ) → h < i + 1 → get_or (set l i w) h 0 ≡ f h
    done h q =
        dite (ℕ_discrete h i) (λ (eq : h ≡ i). ap (λ (x : ℕ). get_or (set l i w) x 0) eq ∙ here ∙ ap f (sym eq))
        (λ (ne : h ≡ i → ⊥). get_or-set_other l i h w 0 ne ∙ m.done h (omega arith))

    rest : (h : ℕ) → i + 1 ≤ h → get_or (set l i w) h 0 ≡ 0
    rest h q = get_or-set_other l i h w 0 (λ (eq : h ≡ i). omega arith) ∙ m.rest h (omega arith)

-- ---- a number among others

-- a test over a list
pub any_list : (t : ℕ → Bool) (l : List ℕ) → list_any t l ≡ any_below (length l) (λ h. t (get_or l h 0))
unfolding any_below
any_list t [] = refl
any_list t (x ∷ l) =
    let all : 1 + length l ≡ suc (length l) = omega arith in
    ap (λ (b : Bool). t x || b)
    (any_list t l ∙ any_below_ext (length l) (λ h. t (get_or l h 0)) (λ h. t (get_or (x ∷ l) (1 + h) 0)) (λ h b. next h))
    ∙ sym (any_below_add 1 (length l) (λ h. t (get_or (x ∷ l) h 0)))
    ∙ ap (λ (n : ℕ). any_below n (λ h. t (get_or (x ∷ l) h 0))) all
  where
    next : (h : ℕ) → t (get_or l h 0) ≡ t (get_or (x ∷ l) (1 + h) 0)
    next h = let e : suc h ≡ 1 + h = omega arith in ap (λ (k : ℕ). t (get_or (x ∷ l) k 0)) e

-- among the first i places
pub numbers_any : (ns : List ℕ) (i j : ℕ) → i ≤ length ns
    → any_below (length (take i ns)) (λ h. eqb (get_or (take i ns) h 0) j) ≡ any_below i (λ h. eqb (get_or ns h 0) j)
numbers_any ns i j b =
    ap (λ (k : ℕ). any_below k (λ h. eqb (get_or (take i ns) h 0) j)) (length-take-le i ns b)
    ∙ any_below_ext i (λ h. eqb (get_or (take i ns) h 0) j) (λ h. eqb (get_or ns h 0) j) (λ h q. ap (λ (x : ℕ). eqb x j) (get_or-take i ns h 0 q))

-- ---- flags

pub opening_by : List ℕ → ℕ → ℕ
opening_by ns i = cond (any_below i (λ h. eqb (get_or ns h 0) (get_or ns i 0))) 0 1

-- what a test turned round gives as a number
not_as_number : (b : Bool) → bool_byte (not b) ≡ cond b 0 1
not_as_number true = refl
not_as_number false = refl

pub opening_made : (ns : List ℕ) (i w : ℕ) (b : Bool) → i ≤ length ns
    → b ≡ any_below (length (take i ns)) (λ h. eqb (get_or (take i ns) h 0) (get_or ns i 0)) → w ≡ bool_byte (not b) → w ≡ opening_by ns i
unfolding opening_by
opening_made ns i w b h e ew =
    ew ∙ not_as_number b ∙ ap (λ (x : Bool). cond {A = ℕ} x 0 1) (e ∙ numbers_any ns i (get_or ns i 0) h)

turned : (b : Bool) → cond {A = ℕ} b 0 1 ≡ cond (not b) 1 0
turned true = refl
turned false = refl

-- by the symbol numbers of ties
opening_flag : (ns : List ℕ) (e : Ties) (n i : ℕ) → ((h : ℕ) → h < n → get_or ns h 0 ≡ e.symbol h) → i < n → opening_by ns i ≡ flag e i
unfolding opening_by opens
opening_flag ns e n i right b =
    ap (λ (x : Bool). cond {A = ℕ} x 0 1)
    (any_below_ext i (λ h. eqb (get_or ns h 0) (get_or ns i 0)) (λ h. eqb (e.symbol h) (e.symbol i))
    (λ h q. ap₂ eqb (right h (omega arith)) (right i b)))
    ∙ turned (any_below i (λ h. eqb (e.symbol h) (e.symbol i)))

pub flags_opened : (l : List ℕ) (count limit : ℕ) (ns fs : List ℕ) → ((h : ℕ) → h < min count 256 → get_or ns h 0 ≡ count_at l (entry_bytes * h + 4))
    → Made (opening_by ns) fs limit → limit ≡ min count 256 → count ≤ 256 → (i : ℕ) → i < count → get_or fs i 0 ≡ flag (ties_in l count) i
flags_opened l count limit ns fs right m e few i b =
    m.done i (omega arith) ∙ opening_flag ns (ties_in l count) (min count 256) i right (omega arith)

-- ---- how many

pub counted_starts : (f : ℕ → ℕ) → 0 ≡ total 0 f
unfolding total
counted_starts f = refl

pub counted_turns : (f : ℕ → ℕ) (i found w : ℕ) → found ≡ total i f → w ≡ f i → found + w ≡ total (i + 1) f
unfolding total
counted_turns f i found w e ew = ap₂ ◌+◌ e ew ∙ ap (λ (k : ℕ). total k f) (sym (add-one i))

pub counted_ends : (f : ℕ → ℕ) (i n found : ℕ) → found ≡ total i f → i ≡ n → found ≡ total n f
counted_ends f i n found e q = e ∙ ap (λ (k : ℕ). total k f) q

-- a sum over a list
pub counted_list : (f : ℕ → ℕ) (l : List ℕ) → sum_by f l ≡ total (length l) (λ i. f (get_or l i 0))
counted_list f [] = sym (total_none (λ i. f (get_or [] i 0)))
counted_list f (x ∷ l) =
    sum_by-cons f x l ∙ ap (λ (n : ℕ). f x + n) (counted_list f l) ∙ sym (total_front (length l) (λ i. f (get_or (x ∷ l) i 0)))

flag_one : (b : Bool) → cond {A = ℕ} (eqb (cond b 1 0) 0) 0 1 ≡ cond b 1 0
flag_one true = refl
flag_one false = refl

pub flags_counted : (e : Ties) (fs : List ℕ) → e.count ≤ length fs → ((i : ℕ) → i < e.count → get_or fs i 0 ≡ flag e i)
    → total (length (take e.count fs)) (λ i. cond (eqb (get_or (take e.count fs) i 0) 0) 0 1) ≡ named_symbols e
unfolding named_symbols
flags_counted e fs long right =
    ap (λ (k : ℕ). total k (λ i. cond (eqb (get_or (take e.count fs) i 0) 0) 0 1)) (length-take-le e.count fs long)
    ∙ total_ext e.count (λ i. cond (eqb (get_or (take e.count fs) i 0) 0) 0 1) (flag e)
    (λ i b. ap (λ (x : ℕ). cond {A = ℕ} (eqb x 0) 0 1) (get_or-take e.count fs i 0 b ∙ right i b) ∙ flag_one (opens e i))
