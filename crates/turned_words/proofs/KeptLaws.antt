-- The words of the slots that aren't dead, and one column's step on them. Assumes nothing.
use mathlib.Core.Path.{◌≡◌, refl, sym, ap, ap₂, ◌∙◌}
use mathlib.Core.Logic.{⊎_elim}
use mathlib.Core.List.{List, [], ◌∷◌, ◌++◌}
use Prim.Native.Nat.{ℕ, zero, suc, ◌+◌, ◌-◌, ◌/◌, ◌%◌, ◌^◌, ◌≤◌, ◌<◌}
use native.Mathlib.Nat.{div-one, not-suc-le-zero, le_of_suc-le-suc}
use native.Mathlib.Numerals.{one-add}
use native.Mathlib.Omega.{arith}
use lib.Bits.{bit_xor, xor_shr, xor_zero_r}
use lib.ListN.{length, get_or}
use lib.Pow.{shr-shr, pow_pos}
use Rattle.word.specs.Word.{digit, parity}
use Rattle.word.specs.Parities.{parities}
use Rattle.word.proofs.Laws.{bit_cases, mod2_lt, digit_xor, parity_zero}
use Rattle.combinations.specs.Step.{by_parity, cleared, step}
use Rattle.combinations.proofs.StepLaws.{cleared_even, cleared_odd, step_even, step_odd}
use Rattle.turned_words.specs.Turned.{kept}

-- ---- the digits of a word's half

pub digit_suc : (k a : ℕ) → digit (suc k) a ≡ digit k (a / 2)
digit_suc k a = ap (λ (x : ℕ). x % 2) (sym (shr-shr a 1 k ∙ ap (λ (x : ℕ). a / 2 ^ x) (one-add k)))

pub digit_zero : (a : ℕ) → digit 0 a ≡ a % 2
digit_zero a = ap (λ (x : ℕ). x % 2) (div-one a)

-- ---- one slot more

pub kept_alive : (dead w : ℕ) (ws : List ℕ) → dead % 2 ≡ 0 → kept dead (w ∷ ws) ≡ w ∷ kept (dead / 2) ws
unfolding kept
kept_alive dead w ws h = rw h

pub kept_dead : (dead w : ℕ) (ws : List ℕ) → dead % 2 ≡ 1 → kept dead (w ∷ ws) ≡ kept (dead / 2) ws
unfolding kept
kept_dead dead w ws h = rw h

pub kept_none : (dead : ℕ) → kept dead [] ≡ []
unfolding kept
kept_none dead = refl

-- every slot is dead
pub kept_full : (n : ℕ) (ws : List ℕ) → length ws ≤ n → kept (2 ^ n - 1) ws ≡ []
kept_full n [] h = kept_none (2 ^ n - 1)
kept_full zero (w ∷ ws) h = absurd (not-suc-le-zero h)
kept_full (suc n) (w ∷ ws) h =
    let odd : (2 ^ suc n - 1) % 2 ≡ 1 = omega (arith, pow_pos n) in
    let half : (2 ^ suc n - 1) / 2 ≡ 2 ^ n - 1 = omega (arith, pow_pos n) in
    kept_dead (2 ^ suc n - 1) w ws odd ∙ ap (λ (x : ℕ). kept x ws) half ∙ kept_full n ws (le_of_suc-le-suc h)

-- ---- the words that are odd with the column are cleared, in the slots as in the list

abbrev pub Gone : ℕ → List ℕ → Type 0
Gone dead ws = (k : ℕ) → digit k dead ≡ 1 → get_or ws k 0 ≡ 0

cleared_cons : (c p w : ℕ) (ws : List ℕ) → cleared c p (w ∷ ws) ≡ by_parity (parity w c) w (bit_xor w p) ∷ cleared c p ws
unfolding cleared
cleared_cons c p w ws = refl

cleared_nil : (c p : ℕ) → cleared c p [] ≡ []
unfolding cleared
cleared_nil c p = refl

cleared_kept : (c p dead : ℕ) (ws : List ℕ) → cleared c p (kept dead ws) ≡ kept dead (cleared c p ws)
cleared_kept c p dead [] =
    ap (cleared c p) (kept_none dead) ∙ cleared_nil c p ∙ sym (ap (kept dead) (cleared_nil c p) ∙ kept_none dead)
cleared_kept c p dead (w ∷ ws) =
    ⊎_elim
    (λ (e : dead % 2 ≡ 0).
    ap (cleared c p) (kept_alive dead w ws e) ∙ cleared_cons c p w (kept (dead / 2) ws)
    ∙ ap (λ (l : List ℕ). by_parity (parity w c) w (bit_xor w p) ∷ l) (cleared_kept c p (dead / 2) ws)
    ∙ sym (ap (kept dead) (cleared_cons c p w ws) ∙ kept_alive dead (by_parity (parity w c) w (bit_xor w p)) (cleared c p ws) e))
    (λ (e : dead % 2 ≡ 1).
    ap (cleared c p) (kept_dead dead w ws e) ∙ cleared_kept c p (dead / 2) ws
    ∙ sym (ap (kept dead) (cleared_cons c p w ws) ∙ kept_dead dead (by_parity (parity w c) w (bit_xor w p)) (cleared c p ws) e))
    (bit_cases (dead % 2) (mod2_lt dead))

-- ---- the pivot's slot becomes dead

pub one_half : (dead : ℕ) → bit_xor dead (2 ^ 0) / 2 ≡ dead / 2
one_half dead = xor_shr dead 1 1 ∙ xor_zero_r (dead / 2)

one_low : (dead : ℕ) → dead % 2 ≡ 0 → bit_xor dead (2 ^ 0) % 2 ≡ 1
one_low dead h = omega (arith, digit_xor 0 dead 1, digit_zero dead, digit_zero (bit_xor dead 1), digit_zero 1)

pub more_half : (dead k : ℕ) → bit_xor dead (2 ^ suc k) / 2 ≡ bit_xor (dead / 2) (2 ^ k)
more_half dead k =
    let half : 2 ^ suc k / 2 ≡ 2 ^ k = omega arith in
    xor_shr dead (2 ^ suc k) 1 ∙ ap (bit_xor (dead / 2)) half

none_added : (d e : ℕ) → d < 2 → e ≡ 0 → (d + e) % 2 ≡ d
none_added d e l h = omega arith

pub more_low : (dead k : ℕ) → bit_xor dead (2 ^ suc k) % 2 ≡ dead % 2
more_low dead k =
    let even : 2 ^ suc k % 2 ≡ 0 = omega arith in
    sym (digit_zero (bit_xor dead (2 ^ suc k))) ∙ digit_xor 0 dead (2 ^ suc k)
    ∙ none_added (digit 0 dead) (digit 0 (2 ^ suc k)) (mod2_lt (dead / 2 ^ 0)) (digit_zero (2 ^ suc k) ∙ even) ∙ digit_zero dead

pub step_nil : (c : ℕ) → step c [] ≡ []
unfolding step
step_nil c = refl

-- the step on the words that aren't dead, where slot k is the first that is odd with the column
pub step_kept : (c : ℕ) (ws : List ℕ) (k dead : ℕ) → k < length ws → parity (get_or ws k 0) c ≡ 1 → ((j : ℕ) → j < k → parity (get_or ws j 0) c ≡ 0)
    → Gone dead ws → step c (kept dead ws) ≡ kept (bit_xor dead (2 ^ k)) (cleared c (get_or ws k 0) ws)
step_kept c [] k dead h odd even g = absurd (not-suc-le-zero h)
step_kept c (w ∷ ws) zero dead h odd even g =
    ⊎_elim
    (λ (e : dead % 2 ≡ 0).
    ap (step c) (kept_alive dead w ws e) ∙ step_odd c w (kept (dead / 2) ws) odd ∙ cleared_kept c w (dead / 2) ws
    ∙ sym
    (ap (kept (bit_xor dead (2 ^ 0))) (cleared_odd c w w ws odd)
    ∙ kept_dead (bit_xor dead (2 ^ 0)) (bit_xor w w) (cleared c w ws) (one_low dead e)
    ∙ ap (λ (x : ℕ). kept x (cleared c w ws)) (one_half dead)))
    (λ (e : dead % 2 ≡ 1).
    let none : parity w c ≡ 0 = ap (λ (x : ℕ). parity x c) (g 0 (digit_zero dead ∙ e)) ∙ parity_zero c in
    let z : ⊥ = omega (arith, odd, none) in
    absurd z)
    (bit_cases (dead % 2) (mod2_lt dead))
step_kept c (w ∷ ws) (suc k) dead h odd even g =
    let later : step c (kept (dead / 2) ws) ≡ kept (bit_xor (dead / 2) (2 ^ k)) (cleared c (get_or ws k 0) ws) =
    step_kept c ws k (dead / 2) (le_of_suc-le-suc h) odd (λ j l. even (suc j) (omega arith)) (λ j e. g (suc j) (digit_suc j dead ∙ e)) in
    let clear : cleared c (get_or ws k 0) (w ∷ ws) ≡ w ∷ cleared c (get_or ws k 0) ws = cleared_even c (get_or ws k 0) w ws (even 0 (omega arith)) in
    ⊎_elim
    (λ (e : dead % 2 ≡ 0).
    ap (step c) (kept_alive dead w ws e) ∙ step_even c w (kept (dead / 2) ws) (even 0 (omega arith)) ∙ ap (λ (l : List ℕ). w ∷ l) later
    ∙ sym
    (ap (kept (bit_xor dead (2 ^ suc k))) clear
    ∙ kept_alive (bit_xor dead (2 ^ suc k)) w (cleared c (get_or ws k 0) ws) (more_low dead k ∙ e)
    ∙ ap (λ (x : ℕ). w ∷ kept x (cleared c (get_or ws k 0) ws)) (more_half dead k)))
    (λ (e : dead % 2 ≡ 1).
    ap (step c) (kept_dead dead w ws e) ∙ later
    ∙ sym
    (ap (kept (bit_xor dead (2 ^ suc k))) clear
    ∙ kept_dead (bit_xor dead (2 ^ suc k)) w (cleared c (get_or ws k 0) ws) (more_low dead k ∙ e)
    ∙ ap (λ (x : ℕ). kept x (cleared c (get_or ws k 0) ws)) (more_half dead k)))
    (bit_cases (dead % 2) (mod2_lt dead))

-- no slot is odd with it
pub kept_same : (c : ℕ) (ws : List ℕ) (dead : ℕ) → parities ws c ≡ 0 → step c (kept dead ws) ≡ kept dead ws
unfolding parities
kept_same c [] dead h = ap (step c) (kept_none dead) ∙ step_nil c ∙ sym (kept_none dead)
kept_same c (w ∷ ws) dead h =
    let first : parity w c ≡ 0 = omega arith in
    let later : step c (kept (dead / 2) ws) ≡ kept (dead / 2) ws = kept_same c ws (dead / 2) (omega arith) in
    ⊎_elim
    (λ (e : dead % 2 ≡ 0).
    ap (step c) (kept_alive dead w ws e) ∙ step_even c w (kept (dead / 2) ws) first ∙ ap (λ (l : List ℕ). w ∷ l) later ∙ sym (kept_alive dead w ws e))
    (λ (e : dead % 2 ≡ 1). ap (step c) (kept_dead dead w ws e) ∙ later ∙ sym (kept_dead dead w ws e)) (bit_cases (dead % 2) (mod2_lt dead))

-- only the words of the slots that aren't dead count
pub kept_alike : (dead : ℕ) (us ws : List ℕ) → length us ≡ length ws → ((i : ℕ) → i < length us → digit i dead ≡ 0 → get_or us i 0 ≡ get_or ws i 0) → kept dead us ≡ kept dead ws
kept_alike dead [] [] e same = refl
kept_alike dead [] (w ∷ ws) e same = let z : ⊥ = omega arith in absurd z
kept_alike dead (u ∷ us) [] e same = let z : ⊥ = omega arith in absurd z
kept_alike dead (u ∷ us) (w ∷ ws) e same =
    let later : kept (dead / 2) us ≡ kept (dead / 2) ws = kept_alike (dead / 2) us ws (omega arith) (λ i l h. same (suc i) (omega arith) (digit_suc i dead ∙ h)) in
    ⊎_elim
    (λ (z : dead % 2 ≡ 0). kept_alive dead u us z ∙ ap₂ (λ (x : ℕ) (l : List ℕ). x ∷ l) (same 0 (omega arith) (digit_zero dead ∙ z)) later ∙ sym (kept_alive dead w ws z))
    (λ (z : dead % 2 ≡ 1). kept_dead dead u us z ∙ later ∙ sym (kept_dead dead w ws z)) (bit_cases (dead % 2) (mod2_lt dead))

-- the words in front, and behind them only dead slots
pub kept_front : (dead : ℕ) (ws zs : List ℕ) → ((i : ℕ) → i < length ws → digit i dead ≡ 0) → ((i : ℕ) → length ws ≤ i → i < length ws + length zs → digit i dead ≡ 1) → kept dead (ws ++ zs) ≡ ws
kept_front dead [] [] a d = kept_none dead
kept_front dead [] (z ∷ zs) a d =
    kept_dead dead z zs (sym (digit_zero dead) ∙ d 0 (omega arith) (omega arith))
    ∙ kept_front (dead / 2) [] zs (λ i l. absurd (not-suc-le-zero l)) (λ i l h. sym (digit_suc i dead) ∙ d (suc i) (omega arith) (omega arith))
kept_front dead (w ∷ ws) zs a d =
    kept_alive dead w (ws ++ zs) (sym (digit_zero dead) ∙ a 0 (omega arith))
    ∙ ap (λ (l : List ℕ). w ∷ l) (kept_front (dead / 2) ws zs (λ i l. sym (digit_suc i dead) ∙ a (suc i) (omega arith)) (λ i l h. sym (digit_suc i dead) ∙ d (suc i) (omega arith) (omega arith)))
