-- Listings: which words stand in one, and how many.
--
--   any_listing       a test over a listing is one over its cells
--   marked_word       the word of a marked cell of a row stands in its listing
--   marked_some       each word that stands there is a marked cell's
--   listing_at        the word of a marked cell stands in it
--   listing_some      each word that stands in it is a marked cell's
--   listing_ext       marks and words that are alike give the same listing
--   listing_columns   the columns of unknown cells, each free, are a listing
--   length_listing    it has a word for each marked cell
--   listing_set       another word for one marked cell is set at the place that counts the marked cells before it
--   place_inside      .. which lies in the listing
-- Assumes nothing.
use mathlib.Core.Path.{◌≡◌, refl, sym, ap, ap₂, ◌∙◌}
use mathlib.Core.Bool.{Bool, true, false, not, ◌&&◌, ◌||◌}
use mathlib.Core.List.{List, [], ◌∷◌, ◌++◌}
use mathlib.Core.Logic.{⊎_elim}
use Prim.Native.Nat.{ℕ, zero, suc, ◌+◌, ◌-◌, ◌≤◌, ◌<◌}
use native.Mathlib.Nat.{zero-add, suc-add, not-suc-le-zero, eq-or-lt_of_le, le_of_suc-le-suc}
use native.Mathlib.Omega.{arith}
use borrow.Author.Tests.{eqb-true, eqb-false, eq-eqb, ne_eqb}
use lib.Dec.{eqb, eqb-suc-zero}
use lib.ListN.{length, set, length-append}
use lib.Seq.{set-append_seam, set-append_left}
use Rattle.word.specs.Some.{any_below, any_of}
use Rattle.word.proofs.BoolLaws.{or_none, and_intro, and_both}
use Rattle.word.proofs.SomeLaws.{any_of_append, any_below_true, any_below_some}
use Rattle.numbers.specs.Joined.{joined}
use Rattle.rows.specs.Row.{Cells}
use Rattle.rows.specs.Marks.{listed, total}
use Rattle.rows.proofs.MarkLaws.{length_listed, total_suc, total_add}
use Rattle.register.specs.Circuit.{Circuit, chains}
use Rattle.signatures.specs.Signature.{Response, column}
use Rattle.signatures.specs.Columns.{slice_columns, columns_below}
use Rattle.signatures.specs.Symbols.{listing}

-- the cell of chain c is marked, and its word passes the test
abbrev pub marked_with : (ℕ → Bool) → (ℕ → ℕ) → Cells → ℕ → Bool
marked_with p f u c = not (eqb (u c) 0) && p (f c)

any_listed : (p : ℕ → Bool) (d w : ℕ) → any_of p (listed d w) ≡ (not (eqb d 0) && p w)
unfolding any_of
any_listed p zero w = refl
any_listed p (suc d) w = or_none (p w) ∙ sym (ap (λ (b : Bool). not b && p w) (eqb-suc-zero d))

pub any_row : (p : ℕ → Bool) (f : ℕ → ℕ) (u : Cells) (n : ℕ) → any_of p (joined (λ c. listed (u c) (f c)) n) ≡ any_below n (marked_with p f u)
unfolding joined any_of any_below
any_row p f u zero = refl
any_row p f u (suc n) =
    any_of_append p (joined (λ c. listed (u c) (f c)) n) (listed (u n) (f n))
    ∙ ap₂ (λ (a b : Bool). a || b) (any_row p f u n) (any_listed p (u n) (f n))

marked_off : (b : Bool) → not b ≡ true → b ≡ false
marked_off true q = sym q
marked_off false q = refl

-- one row: the word of a marked cell stands in it, and each word that stands in it is a marked cell's
pub marked_word : (f : ℕ → ℕ) (u : Cells) (n c : ℕ) → c < n → (u c ≡ 0 → ⊥) → any_of (eqb (f c)) (joined (λ d. listed (u d) (f d)) n) ≡ true
marked_word f u n c l m =
    any_row (eqb (f c)) f u n
    ∙ any_below_true n (marked_with (eqb (f c)) f u) c l (and_intro _ _ (ap not (ne_eqb (u c) 0 m)) (eq-eqb (f c) (f c) refl))

pub marked_some : (f : ℕ → ℕ) (u : Cells) (n v : ℕ) → any_of (eqb v) (joined (λ d. listed (u d) (f d)) n) ≡ true
    → (c : ℕ) × (c < n) × (u c ≡ 0 → ⊥) × (v ≡ f c)
marked_some f u n v h =
    let found = any_below_some n (marked_with (eqb v) f u) (sym (any_row (eqb v) f u n) ∙ h) in
    let both = and_both (not (eqb (u found.0) 0)) (eqb v (f found.0)) found.2 in
    (found.0, found.1, eqb-false (u found.0) 0 (marked_off (eqb (u found.0) 0) both.0), eqb-true v (f found.0) both.1)

module _ (f : ℕ → ℕ → ℕ) (u : ℕ → Cells) (n : ℕ) where
  pub any_listing : (p : ℕ → Bool) (s : ℕ) → any_of p (listing f u n s) ≡ any_below s (λ t. any_below n (marked_with p (f t) (u t)))
  unfolding listing any_of any_below
  any_listing p zero = refl
  any_listing p (suc s) =
      any_of_append p (listing f u n s) (joined (λ c. listed (u s c) (f s c)) n)
      ∙ ap₂ (λ (a b : Bool). a || b) (any_listing p s) (any_row p (f s) (u s) n)

  pub listing_at : (s t c : ℕ) → t < s → c < n → (u t c ≡ 0 → ⊥) → any_of (eqb (f t c)) (listing f u n s) ≡ true
  listing_at s t c lt lc m =
      any_listing (eqb (f t c)) s
      ∙ any_below_true s (λ i. any_below n (marked_with (eqb (f t c)) (f i) (u i))) t lt
      (sym (any_row (eqb (f t c)) (f t) (u t) n) ∙ marked_word (f t) (u t) n c lc m)

  pub listing_some : (s v : ℕ) → any_of (eqb v) (listing f u n s) ≡ true → (t : ℕ) × (c : ℕ) × (t < s) × (c < n) × (u t c ≡ 0 → ⊥) × (v ≡ f t c)
  listing_some s v h =
      let slice = any_below_some s (λ i. any_below n (marked_with (eqb v) (f i) (u i))) (sym (any_listing (eqb v) s) ∙ h) in
      let cell = marked_some (f slice.0) (u slice.0) n v (any_row (eqb v) (f slice.0) (u slice.0) n ∙ slice.2) in
      (slice.0, cell.0, slice.1, cell.1, cell.2, cell.3)

-- ---- listings that are alike

row_ext : (f g : ℕ → ℕ) (u v : Cells) (n : ℕ) → ((c : ℕ) → c < n → listed (u c) (f c) ≡ listed (v c) (g c))
    → joined (λ c. listed (u c) (f c)) n ≡ joined (λ c. listed (v c) (g c)) n
unfolding joined
row_ext f g u v zero h = refl
row_ext f g u v (suc n) h = ap₂ ◌++◌ (row_ext f g u v n (λ c l. h c (omega (arith, l)))) (h n (omega arith))

pub listing_ext : (f g : ℕ → ℕ → ℕ) (u v : ℕ → Cells) (n s : ℕ) → ((t c : ℕ) → t < s → c < n → listed (u t c) (f t c) ≡ listed (v t c) (g t c))
    → listing f u n s ≡ listing g v n s
unfolding listing
listing_ext f g u v n zero h = refl
listing_ext f g u v n (suc s) h =
    ap₂ ◌++◌ (listing_ext f g u v n s (λ t c l. h t c (omega (arith, l)))) (row_ext (f s) (g s) (u s) (v s) n (λ c. h s c (omega arith)))

pub same_listed : (d e v w : ℕ) → d ≡ e → v ≡ w → listed d v ≡ listed e w
same_listed d e v w p q = ap₂ listed p q

-- ---- the columns of unknown cells

module _ (k : Circuit) (s : ℕ) (u : Response) where
  listing_slice : (t n : ℕ) → slice_columns k s u t n ≡ joined (λ c. listed (u t c) (column k s t c)) n
  unfolding slice_columns joined
  listing_slice t zero = refl
  listing_slice t (suc n) = ap (λ (l : List ℕ). l ++ listed (u t n) (column k s t n)) (listing_slice t n)

  pub listing_columns : (t : ℕ) → columns_below k s u t ≡ listing (column k s) u (chains k) t
  unfolding columns_below listing
  listing_columns zero = refl
  listing_columns (suc t) = ap₂ ◌++◌ (listing_columns t) (listing_slice t (chains k))

-- ---- how many

module _ (f : ℕ → ℕ → ℕ) (u : ℕ → Cells) (n : ℕ) (digits : (t c : ℕ) → u t c < 2) where
  length_row : (t m : ℕ) → length (joined (λ c. listed (u t c) (f t c)) m) ≡ total m (u t)
  unfolding joined total
  length_row t zero = refl
  length_row t (suc m) =
      length-append (joined (λ c. listed (u t c) (f t c)) m) (listed (u t m) (f t m))
      ∙ ap₂ ◌+◌ (length_row t m) (length_listed (u t m) (f t m) (digits t m))

  pub length_listing : (s : ℕ) → length (listing f u n s) ≡ total s (λ t. total n (u t))
  unfolding listing total
  length_listing zero = refl
  length_listing (suc s) =
      length-append (listing f u n s) (joined (λ c. listed (u s c) (f s c)) n) ∙ ap₂ ◌+◌ (length_listing s) (length_row s n)

-- ---- another word for one cell

-- a sum grows
pub total_grows : (a b : ℕ) (f : ℕ → ℕ) → a ≤ b → total a f ≤ total b f
total_grows a b f h =
    let whole : a + (b - a) ≡ b = omega arith in
    omega (arith, total_add a (b - a) f, ap (λ (k : ℕ). total k f) whole)

set_right : (xs ys : List ℕ) (i w : ℕ) → set (xs ++ ys) (length xs + i) w ≡ xs ++ set ys i w
set_right [] ys i w = ap (λ (k : ℕ). set ys k w) (zero-add i)
set_right (x ∷ xs) ys i w = ap (λ (k : ℕ). set (x ∷ (xs ++ ys)) k w) (suc-add (length xs) i) ∙ ap (λ (r : List ℕ). x ∷ r) (set_right xs ys i w)

-- the marked cells before the cell of slice t and chain c
abbrev pub place_of : (ℕ → Cells) → ℕ → ℕ → ℕ → ℕ
place_of u n t c = total t (λ i. total n (u i)) + total c (u t)

module _ (u : ℕ → Cells) (n : ℕ) (digits : (t c : ℕ) → u t c < 2) where
  row_inside : (t c m : ℕ) → c < m → u t c ≡ 1 → total c (u t) < total m (u t)
  row_inside t c m h one = omega (arith, total_grows (suc c) m (u t) h, total_suc c (u t))

  pub place_inside : (s t c : ℕ) → t < s → c < n → u t c ≡ 1 → place_of u n t c < total s (λ i. total n (u i))
  place_inside s t c lt lc one =
      omega (arith, total_grows (suc t) s (λ i. total n (u i)) lt, total_suc t (λ i. total n (u i)), row_inside t c n lc one)

  module _ (f g : ℕ → ℕ → ℕ) (t c : ℕ) (one : u t c ≡ 1) (same : (i d : ℕ) → (i ≡ t → d ≡ c → ⊥) → f i d ≡ g i d) where
    abbrev row_of_lem : (ℕ → ℕ → ℕ) → ℕ → List ℕ
    row_of_lem h m = joined (λ d. listed (u t d) (h t d)) m

    row_set : (m : ℕ) → c < m → row_of_lem g m ≡ set (row_of_lem f m) (total c (u t)) (g t c)
    unfolding joined
    row_set zero l = absurd (not-suc-le-zero l)
    row_set (suc m) l = ⊎_elim last (λ (h : c < m). before h (row_set m h)) (eq-or-lt_of_le (le_of_suc-le-suc l))
      where
        last : c ≡ m → row_of_lem g m ++ listed (u t m) (g t m) ≡ set (row_of_lem f m ++ listed (u t m) (f t m)) (total c (u t)) (g t c)
        last e =
            let marked : u t m ≡ 1 = ap (u t) (sym e) ∙ one in
            let alike : row_of_lem f m ≡ row_of_lem g m = row_ext (f t) (g t) (u t) (u t) m (λ d h. ap (listed (u t d)) (same t d (λ (p : t ≡ t) (q : d ≡ c). omega arith))) in
            let place : total c (u t) ≡ length (row_of_lem g m) = ap (λ (k : ℕ). total k (u t)) e ∙ sym (length_row g u n digits t m) in
            ap (λ (d : ℕ). row_of_lem g m ++ listed d (g t m)) marked ∙ ap (λ (d : ℕ). row_of_lem g m ++ g t d ∷ []) (sym e)
            ∙ sym
            (ap (λ (d : ℕ). set (row_of_lem f m ++ listed d (f t m)) (total c (u t)) (g t c)) marked
            ∙ ap₂ (λ (r : List ℕ) (k : ℕ). set (r ++ f t m ∷ []) k (g t c)) alike place ∙ set-append_seam (row_of_lem g m) (f t m) [] (g t c))

        before : c < m → row_of_lem g m ≡ set (row_of_lem f m) (total c (u t)) (g t c)
            → row_of_lem g m ++ listed (u t m) (g t m) ≡ set (row_of_lem f m ++ listed (u t m) (f t m)) (total c (u t)) (g t c)
        before h ih =
            ap₂ (λ (r : List ℕ) (w : ℕ). r ++ listed (u t m) w) ih (sym (same t m (λ (p : t ≡ t) (q : m ≡ c). omega arith)))
            ∙ sym (set-append_left (row_of_lem f m) (listed (u t m) (f t m)) (total c (u t)) (g t c) (omega (arith, length_row f u n digits t m, row_inside t c m h one)))

    pub listing_set : (s : ℕ) → t < s → c < n → listing g u n s ≡ set (listing f u n s) (place_of u n t c) (g t c)
    unfolding listing
    listing_set zero lt lc = absurd (not-suc-le-zero lt)
    listing_set (suc s) lt lc = ⊎_elim last (λ (h : t < s). before h (listing_set s h lc)) (eq-or-lt_of_le (le_of_suc-le-suc lt))
      where
        last : t ≡ s
            → listing g u n s ++ joined (λ d. listed (u s d) (g s d)) n ≡ set (listing f u n s ++ joined (λ d. listed (u s d) (f s d)) n) (place_of u n t c) (g t c)
        last e =
            let alike : listing f u n s ≡ listing g u n s =
            listing_ext f g u u n s (λ i d h l. ap (listed (u i d)) (same i d (λ (p : i ≡ t) (q : d ≡ c). omega arith)))
            in
            let place : place_of u n t c ≡ length (listing g u n s) + total c (u t) =
            ap (λ (k : ℕ). total k (λ i. total n (u i)) + total c (u t)) e ∙ ap (λ (k : ℕ). k + total c (u t)) (sym (length_listing g u n digits s))
            in
            ap (λ (i : ℕ). listing g u n s ++ joined (λ d. listed (u i d) (g i d)) n) (sym e) ∙ ap (λ (r : List ℕ). listing g u n s ++ r) (row_set n lc)
            ∙ sym
            (ap (λ (i : ℕ). set (listing f u n s ++ joined (λ d. listed (u i d) (f i d)) n) (place_of u n t c) (g t c)) (sym e)
            ∙ ap₂ (λ (l : List ℕ) (k : ℕ). set (l ++ row_of_lem f n) k (g t c)) alike place
            ∙ set_right (listing g u n s) (row_of_lem f n) (total c (u t)) (g t c))

        before : t < s → listing g u n s ≡ set (listing f u n s) (place_of u n t c) (g t c)
            → listing g u n s ++ joined (λ d. listed (u s d) (g s d)) n ≡ set (listing f u n s ++ joined (λ d. listed (u s d) (f s d)) n) (place_of u n t c) (g t c)
        before h ih =
            ap₂ ◌++◌ ih (row_ext (g s) (f s) (u s) (u s) n (λ d l. ap (listed (u s d)) (sym (same s d (λ (p : s ≡ t) (q : d ≡ c). omega arith)))))
            ∙ sym (set-append_left (listing f u n s) (joined (λ d. listed (u s d) (f s d)) n) (place_of u n t c) (g t c)
            (omega (arith, length_listing f u n digits s, place_inside s t c h lc one)))
