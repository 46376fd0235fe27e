-- The slots' words made from the basis, from the highest dead bit down. Assumes nothing.
use mathlib.Core.Path.{◌≡◌, refl, sym, ap, ap₂, ◌∙◌, subst}
use mathlib.Core.Logic.{⊎_elim, dite}
use mathlib.Core.List.{List}
use Prim.Native.Nat.{ℕ, zero, suc, ◌+◌, ◌-◌, ◌*◌, ◌/◌, ◌%◌, ◌^◌, ◌≤◌, ◌<◌, min}
use native.Mathlib.Nat.{zero-mul, one-mul}
use native.Mathlib.Numerals.{add-one}
use native.Mathlib.Decide.{dec_lt, ℕ_discrete}
use native.Mathlib.Omega.{arith}
use lib.Bits.{bit_xor, bit_and, xor_lt}
use lib.ListN.{length, get_or, set, length-set, get_or-eq_default}
use lib.Pow.{pow-lt}
use lib.Seq.{get_or-set_same, get_or-set_other}
use Rattle.word.specs.Word.{digit, parity}
use Rattle.word.specs.Parities.{parities}
use Rattle.word.specs.Span.{xor_below}
use Rattle.word.specs.Marked.{xor_marked}
use Rattle.word.proofs.Laws.{bit_cases, mod2_lt, parity_zero, parity_pow, parity_xor, digit_xor, parities_digit, parities_zero, parities_xor}
use Rattle.word.proofs.XorLaws.{xor_below_zero, xor_below_one}
use Rattle.word.proofs.LowestLaws.{digit_past}
use Rattle.combinations.specs.Step.{units}
use Rattle.combinations.proofs.Units.{power_top, one_bit, length_units, units_at}
use Rattle.turned_words.specs.Turned.{kept, XoredInto}
use Rattle.column_basis.specs.Basis.{Basis, Held, Settled}
use Rattle.turned_words.proofs.KeptLaws.{kept_alike}
use Rattle.column_basis.proofs.BitLaws.{by_digits, digit_and, digit_none, digit_chosen}
use Rattle.turned_words.proofs.TurnedLaws.{plus_none, power_other, parities_below}
use Rattle.column_basis.proofs.BasisLaws.{parity_by_digits}

-- ---- the digits of an XOR of marked words

xor_bits : (a b : ℕ) → a < 2 → b < 2 → (a + b) % 2 ≡ bit_xor a b
xor_bits zero zero ha hb = refl
xor_bits zero (suc zero) ha hb = refl
xor_bits (suc zero) zero ha hb = refl
xor_bits (suc zero) (suc zero) ha hb = refl
xor_bits zero (suc (suc b)) ha hb = let z : ⊥ = omega arith in absurd z
xor_bits (suc zero) (suc (suc b)) ha hb = let z : ⊥ = omega arith in absurd z
xor_bits (suc (suc a)) b ha hb = let z : ⊥ = omega arith in absurd z

digit_below : (f n : ℕ) (g : ℕ → ℕ) → digit f (xor_below n g) ≡ xor_below n (λ e. digit f (g e))
unfolding xor_below
digit_below f zero g = digit_none f
digit_below f (suc n) g =
    digit_xor f (xor_below n g) (g n) ∙ xor_bits (digit f (xor_below n g)) (digit f (g n)) (mod2_lt (xor_below n g / 2 ^ f)) (mod2_lt (g n / 2 ^ f))
    ∙ ap (λ (x : ℕ). bit_xor x (digit f (g n))) (digit_below f n g)

-- ---- one dead bit: the basis' word of it without the other dead bits

module _ (l basis ws : List ℕ) (dead d : ℕ) (s : Settled l basis ws dead (suc d)) (ld : d < 64) (gone : digit d dead ≡ 1) (dead-small : dead < 2 ^ 64) where
  abbrev slots : List ℕ
  slots = s.slots

  -- the other dead bits of the word
  marks : ℕ
  marks = bit_and (get_or basis d 0) (bit_xor dead (2 ^ d))

  marks_own : digit d marks ≡ 0
  unfolding marks
  marks_own =
      let none : digit d (bit_xor dead (2 ^ d)) ≡ 0 = digit_xor d dead (2 ^ d) ∙ ap₂ (λ (a b : ℕ). (a + b) % 2) gone (ap (λ (x : ℕ). x % 2) (power_top d)) in
      digit_and d (get_or basis d 0) (bit_xor dead (2 ^ d)) ∙ omega (arith, none)

  mask_other : (e : ℕ) → (e ≡ d → ⊥) → digit e (bit_xor dead (2 ^ d)) ≡ digit e dead
  mask_other e n = digit_xor e dead (2 ^ d) ∙ plus_none (digit e dead) (digit e (2 ^ d)) (mod2_lt (dead / 2 ^ e)) (power_other e d n)

  marks_dead : (f : ℕ) → (f ≡ d → ⊥) → digit f dead ≡ 1 → digit f marks ≡ digit f (get_or basis d 0)
  unfolding marks
  marks_dead f n e =
      digit_and f (get_or basis d 0) (bit_xor dead (2 ^ d)) ∙ ap (min (digit f (get_or basis d 0))) (mask_other f n ∙ e)
      ∙ omega (arith, mod2_lt (get_or basis d 0 / 2 ^ f))

  -- a marked bit is dead, and above d
  marked : (e : ℕ) → digit e marks ≡ 1 → (digit e dead ≡ 1) × (d < e)
  unfolding marks
  marked e h =
      let both : min (digit e (get_or basis d 0)) (digit e (bit_xor dead (2 ^ d))) ≡ 1 = sym (digit_and e (get_or basis d 0) (bit_xor dead (2 ^ d))) ∙ h in
      let has : digit e (get_or basis d 0) ≡ 1 = omega (arith, both, mod2_lt (get_or basis d 0 / 2 ^ e)) in
      let far : e ≡ d → ⊥ = λ q. (let z : ⊥ = omega (arith, h, ap (λ (i : ℕ). digit i marks) q, marks_own) in z) in
      let is_dead : digit e dead ≡ 1 = sym (mask_other e far) ∙ omega (arith, both, mod2_lt (bit_xor dead (2 ^ d) / 2 ^ e)) in
      (is_dead, dite (dec_lt e d) (λ (b : e < d). (let z : ⊥ = omega (arith, has, s.order.clear d e ld gone b) in absurd z)) (λ (b : e < d → ⊥). above far b))
    where
      above : (e ≡ d → ⊥) → (e < d → ⊥) → d < e
      above n b = omega arith

  abbrev term : ℕ → ℕ
  term e = digit e marks * get_or basis e 0

  terms_even : parities slots (xor_marked basis marks) ≡ 0
  unfolding xor_marked
  terms_even =
      parities_below slots (length basis) term
      ∙ xor_below_zero (length basis) (λ e. parities slots (term e))
      (λ e le. ⊎_elim (λ (z : digit e marks ≡ 0). ap (λ (x : ℕ). parities slots (x * get_or basis e 0)) z ∙ ap (parities slots) (zero-mul (get_or basis e 0)) ∙ parities_zero slots)
      (λ (z : digit e marks ≡ 1). ap (λ (x : ℕ). parities slots (x * get_or basis e 0)) z ∙ ap (parities slots) (one-mul (get_or basis e 0)) ∙ s.hold.even e (omega (arith, s.order.long)) (marked e z).0)
      (bit_cases (digit e marks) (mod2_lt (marks / 2 ^ e))))

  term_digit : (e f : ℕ) → e < 64 → digit f dead ≡ 1 → digit f (term e) ≡ digit e marks * digit f (2 ^ e)
  term_digit e f le h =
      ⊎_elim
      (λ (z : digit e marks ≡ 0).
      ap (λ (x : ℕ). digit f (x * get_or basis e 0)) z ∙ ap (digit f) (zero-mul (get_or basis e 0)) ∙ digit_none f
      ∙ sym (ap (λ (x : ℕ). x * digit f (2 ^ e)) z ∙ zero-mul (digit f (2 ^ e))))
      (λ (z : digit e marks ≡ 1).
      let m = marked e z in
      ap (λ (x : ℕ). digit f (x * get_or basis e 0)) z ∙ ap (digit f) (one-mul (get_or basis e 0)) ∙ s.settled e f m.1 le m.0 h
      ∙ sym (ap (λ (x : ℕ). x * digit f (2 ^ e)) z ∙ one-mul (digit f (2 ^ e))))
      (bit_cases (digit e marks) (mod2_lt (marks / 2 ^ e)))

  -- of the dead bits the XOR of the marked words has those that mark
  terms_digit : (f : ℕ) → f < 64 → digit f dead ≡ 1 → digit f (xor_marked basis marks) ≡ digit f marks
  unfolding xor_marked
  terms_digit f lf h =
      ap (λ (n : ℕ). digit f (xor_below n term)) s.order.long ∙ digit_below f 64 term
      ∙ xor_below_one 64 (λ e. digit f (term e)) f lf
      (λ e le n. term_digit e f le h ∙ ap (λ (x : ℕ). digit e marks * x) (power_other f e (λ (q : f ≡ e). n (sym q))) ∙ times_none (digit e marks))
      ∙ term_digit f f lf h ∙ ap (λ (x : ℕ). digit f marks * x) (ap (λ (x : ℕ). x % 2) (power_top f)) ∙ times_one (digit f marks)
    where
      times_none : (x : ℕ) → x * 0 ≡ 0
      times_none x = omega arith

      times_one : (x : ℕ) → x * 1 ≡ x
      times_one x = omega arith

  row : ℕ
  row = bit_xor (get_or basis d 0) (xor_marked basis marks)

  row_even : parities slots row ≡ 0
  unfolding row
  row_even = parities_xor slots (get_or basis d 0) (xor_marked basis marks) ∙ ap₂ bit_xor (s.hold.even d ld gone) terms_even

  row_dead : (f : ℕ) → f < 64 → digit f dead ≡ 1 → digit f row ≡ digit f (2 ^ d)
  unfolding row
  row_dead f lf h = digit_xor f (get_or basis d 0) (xor_marked basis marks) ∙ ap (λ (x : ℕ). (digit f (get_or basis d 0) + x) % 2) (terms_digit f lf h) ∙ dite (ℕ_discrete f d) here other
    where
      here : f ≡ d → (digit f (get_or basis d 0) + digit f marks) % 2 ≡ digit f (2 ^ d)
      here q =
          ap (λ (i : ℕ). (digit i (get_or basis d 0) + digit i marks) % 2) q
          ∙ ap₂ (λ (a b : ℕ). (a + b) % 2) (s.order.one d ld gone) marks_own ∙ sym (ap (λ (i : ℕ). digit i (2 ^ d)) q ∙ ap (λ (x : ℕ). x % 2) (power_top d))

      twice : (x : ℕ) → (x + x) % 2 ≡ 0
      twice x = omega arith

      other : (f ≡ d → ⊥) → (digit f (get_or basis d 0) + digit f marks) % 2 ≡ digit f (2 ^ d)
      other n = ap (λ (x : ℕ). (digit f (get_or basis d 0) + x) % 2) (marks_dead f n h) ∙ twice (digit f (get_or basis d 0)) ∙ sym (power_other f d n)

  row_below : (j : ℕ) → j < d → digit j row ≡ 0
  unfolding row xor_marked
  row_below j lj =
      digit_xor j (get_or basis d 0) (xor_marked basis marks)
      ∙ ap₂ (λ (a b : ℕ). (a + b) % 2) (s.order.clear d j ld gone lj)
      (ap (λ (n : ℕ). digit j (xor_below n term)) s.order.long ∙ digit_below j 64 term
      ∙ xor_below_zero 64 (λ e. digit j (term e))
      (λ e le. ⊎_elim (λ (z : digit e marks ≡ 0). ap (λ (x : ℕ). digit j (x * get_or basis e 0)) z ∙ ap (digit j) (zero-mul (get_or basis e 0)) ∙ digit_none j)
      (λ (z : digit e marks ≡ 1). let m = marked e z in let lower : j < e = omega (arith, m.1) in ap (λ (x : ℕ). digit j (x * get_or basis e 0)) z ∙ ap (digit j) (one-mul (get_or basis e 0)) ∙ s.order.clear e j le m.0 lower)
      (bit_cases (digit e marks) (mod2_lt (marks / 2 ^ e)))))

  -- the dead bit of a slot's word is the slot's bit of the row
  slot_digit : (i : ℕ) → i < 64 → digit i dead ≡ 0 → row < 2 ^ 64 → digit d (get_or slots i 0) ≡ digit i row
  slot_digit i li a small =
      let x = digit d (get_or slots i 0) in
      let pi : 2 ^ i < 2 ^ 64 = pow-lt li in
      let pd : 2 ^ d < 2 ^ 64 = pow-lt ld in
      let xs : x * 2 ^ d < 2 ^ 64 = chosen_lt x (2 ^ d) (mod2_lt (get_or slots i 0 / 2 ^ d)) pd in
      let two = bit_xor (2 ^ i) (x * 2 ^ d) in
      let even : parity (get_or slots i 0) row ≡ 0 = sym (parities_digit slots row i (omega (arith, s.hold.wide))) ∙ ap (digit i) row_even ∙ digit_none i in
      let same : parity (get_or slots i 0) row ≡ parity two row = parity_by_digits (get_or slots i 0) two row (s.hold.small i) (xor_lt 64 (2 ^ i) (x * 2 ^ d) pi xs) small (λ j lj one. agree j lj one) in
      let sum : parity two row ≡ (digit i row + x) % 2 =
      parity_xor (2 ^ i) (x * 2 ^ d) row
      ∙ ap₂ (λ (p q : ℕ). (p + q) % 2) (parity_pow i row) (chosen_parity x (mod2_lt (get_or slots i 0 / 2 ^ d))) in
      alike x (digit i row) (mod2_lt (get_or slots i 0 / 2 ^ d)) (mod2_lt (row / 2 ^ i)) (sym sum ∙ sym same ∙ even)
    where
      chosen_lt : (x w : ℕ) → x < 2 → w < 2 ^ 64 → x * w < 2 ^ 64
      chosen_lt x w hx hw =
          ⊎_elim (λ (z : x ≡ 0). subst (λ (y : ℕ). y * w < 2 ^ 64) (sym z) (omega (arith, zero-mul w)))
          (λ (z : x ≡ 1). subst (λ (y : ℕ). y * w < 2 ^ 64) (sym z) (omega (arith, one-mul w))) (bit_cases x hx)

      has_own : digit d row ≡ 1
      has_own = row_dead d ld gone ∙ ap (λ (x : ℕ). x % 2) (power_top d)

      chosen_parity : (x : ℕ) → x < 2 → parity (x * 2 ^ d) row ≡ x
      chosen_parity x hx =
          ⊎_elim (λ (z : x ≡ 0). ap (λ (y : ℕ). parity (y * 2 ^ d) row) z ∙ ap (λ (y : ℕ). parity y row) (zero-mul (2 ^ d)) ∙ parity_zero row ∙ sym z)
          (λ (z : x ≡ 1). ap (λ (y : ℕ). parity (y * 2 ^ d) row) z ∙ ap (λ (y : ℕ). parity y row) (one-mul (2 ^ d)) ∙ parity_pow d row ∙ has_own ∙ sym z) (bit_cases x hx)

      alike : (x y : ℕ) → x < 2 → y < 2 → (y + x) % 2 ≡ 0 → x ≡ y
      alike x y hx hy e = omega arith

      apart : i ≡ d → ⊥
      apart q = let z : ⊥ = omega (arith, a, ap (λ (k : ℕ). digit k dead) q, gone) in z

      agree : (j : ℕ) → j < 64 → digit j row ≡ 1 → digit j (get_or slots i 0) ≡ digit j (bit_xor (2 ^ i) (digit d (get_or slots i 0) * 2 ^ d))
      agree j lj one =
          sym (digit_xor j (2 ^ i) (digit d (get_or slots i 0) * 2 ^ d) ∙ ap (λ (q : ℕ). (digit j (2 ^ i) + q) % 2) (digit_chosen j (digit d (get_or slots i 0)) (2 ^ d) (mod2_lt (get_or slots i 0 / 2 ^ d)))
          ∙ dite (ℕ_discrete j d) here other)
        where
          here : j ≡ d → (digit j (2 ^ i) + digit d (get_or slots i 0) * digit j (2 ^ d)) % 2 ≡ digit j (get_or slots i 0)
          here q =
              ap₂ (λ (u v : ℕ). (u + digit d (get_or slots i 0) * v) % 2) (power_other j i (λ (r : j ≡ i). apart (sym r ∙ q))) (ap (λ (k : ℕ). digit k (2 ^ d)) q ∙ ap (λ (x : ℕ). x % 2) (power_top d))
              ∙ only (digit d (get_or slots i 0)) (mod2_lt (get_or slots i 0 / 2 ^ d)) ∙ ap (λ (k : ℕ). digit k (get_or slots i 0)) (sym q)
            where
              only : (x : ℕ) → x < 2 → (0 + x * 1) % 2 ≡ x
              only x h = omega arith

          alive : (j ≡ d → ⊥) → digit j dead ≡ 0
          alive n =
              ⊎_elim (λ (z : digit j dead ≡ 0). z)
              (λ (z : digit j dead ≡ 1). (let no : ⊥ = omega (arith, one, row_dead j lj z, power_other j d n) in absurd no)) (bit_cases (digit j dead) (mod2_lt (dead / 2 ^ j)))

          other : (j ≡ d → ⊥) → (digit j (2 ^ i) + digit d (get_or slots i 0) * digit j (2 ^ d)) % 2 ≡ digit j (get_or slots i 0)
          other n =
              ap (λ (v : ℕ). (digit j (2 ^ i) + digit d (get_or slots i 0) * v) % 2) (power_other j d n)
              ∙ only (digit j (2 ^ i)) (digit d (get_or slots i 0)) (mod2_lt (2 ^ i / 2 ^ j)) ∙ sym (s.hold.own i j li a (alive n))
            where
              only : (y x : ℕ) → y < 2 → (y + x * 0) % 2 ≡ y
              only y x h = omega arith

  -- the row in its place, and its bit put into the words of the slots that the row has
  settled_row : (basis' ws' : List ℕ) → basis' ≡ set basis d row → row < 2 ^ 64 → XoredInto ws ws' row (2 ^ d) → Settled l basis' ws' dead d
  settled_row basis' ws' eb small x =
      record {
        slots = s.slots;
        hold = record {
          wide = s.hold.wide;
          small = s.hold.small;
          gone = s.hold.gone;
          own = s.hold.own;
          even = λ e le h. dite (ℕ_discrete e d) (λ (q : e ≡ d). ap (parities s.slots) (new e q) ∙ row_even) (λ (n : e ≡ d → ⊥). ap (parities s.slots) (old e n) ∙ s.hold.even e le h);
          held = s.hold.held;
        };
        order = record {
          long = ap length eb ∙ length-set basis d row ∙ s.order.long;
          one = λ e le h. dite (ℕ_discrete e d) (λ (q : e ≡ d). ap (digit e) (new e q) ∙ ap (λ (i : ℕ). digit i row) q ∙ row_dead d ld gone ∙ ap (λ (y : ℕ). y % 2) (power_top d)) (λ (n : e ≡ d → ⊥). ap (digit e) (old e n) ∙ s.order.one e le h);
          clear = λ e j le h lj. dite (ℕ_discrete e d) (λ (q : e ≡ d). ap (digit j) (new e q) ∙ row_below j (omega arith)) (λ (n : e ≡ d → ⊥). ap (digit j) (old e n) ∙ s.order.clear e j le h lj);
        };
        wide = x.long ∙ s.wide;
        small = λ i. dite (dec_lt i 64) (λ (li : i < 64). word_small i li) (λ (n : i < 64 → ⊥). subst (λ (y : ℕ). y < 2 ^ 64) (sym (get_or-eq_default ws' 0 {n = i} (omega (arith, x.long, s.wide)))) (omega arith));
        settled = λ e f b le h hf. dite (ℕ_discrete e d) (λ (q : e ≡ d). ap (digit f) (new e q) ∙ row_dead f (dead_inside f hf) hf ∙ ap (λ (i : ℕ). digit f (2 ^ i)) (sym q)) (λ (n : e ≡ d → ⊥). ap (digit f) (old e n) ∙ s.settled e f (omega arith) le h hf);
        made = λ i j li a h b. dite (ℕ_discrete j d) (made_here i j li a) (λ (n : j ≡ d → ⊥). kept_digit i j li n ∙ s.made i j li a h (omega arith));
        rest = λ i j li a b. kept_digit i j li (λ (q : j ≡ d). (let z : ⊥ = omega arith in z)) ∙ s.rest i j li a (omega arith);
        alone = λ i j li a h. kept_digit i j li (λ (q : j ≡ d). (let z : ⊥ = omega (arith, h, ap (λ (k : ℕ). digit k dead) q, gone) in z)) ∙ s.alone i j li a h;
      }
    where
      pd : 2 ^ d < 2 ^ 64
      pd = pow-lt ld

      new : (e : ℕ) → e ≡ d → get_or basis' e 0 ≡ row
      new e q = ap₂ (λ (b : List ℕ) (i : ℕ). get_or b i 0) eb q ∙ get_or-set_same basis d row 0 (omega (arith, s.order.long))

      old : (e : ℕ) → (e ≡ d → ⊥) → get_or basis' e 0 ≡ get_or basis e 0
      old e n = ap (λ (b : List ℕ). get_or b e 0) eb ∙ get_or-set_other basis d e row 0 n

      dead_inside : (f : ℕ) → digit f dead ≡ 1 → f < 64
      dead_inside f hf = dite (dec_lt f 64) (λ (b : f < 64). b) (λ (b : f < 64 → ⊥). (let z : ⊥ = omega (arith, hf, digit_past 64 dead f dead-small (omega arith)) in absurd z))

      word : (i : ℕ) → i < 64 → get_or ws' i 0 ≡ bit_xor (get_or ws i 0) (digit i row * 2 ^ d)
      word i li = x.each i (omega (arith, s.wide))

      word_small : (i : ℕ) → i < 64 → get_or ws' i 0 < 2 ^ 64
      word_small i li = subst (λ (y : ℕ). y < 2 ^ 64) (sym (word i li)) (xor_lt 64 (get_or ws i 0) (digit i row * 2 ^ d) (s.small i) (chosen_below (digit i row) (mod2_lt (row / 2 ^ i))))
        where
          chosen_below : (y : ℕ) → y < 2 → y * 2 ^ d < 2 ^ 64
          chosen_below y hy =
              ⊎_elim (λ (z : y ≡ 0). subst (λ (u : ℕ). u * 2 ^ d < 2 ^ 64) (sym z) (omega (arith, zero-mul (2 ^ d))))
              (λ (z : y ≡ 1). subst (λ (u : ℕ). u * 2 ^ d < 2 ^ 64) (sym z) (omega (arith, one-mul (2 ^ d), pd))) (bit_cases y hy)

      word_digit : (i j : ℕ) → i < 64 → digit j (get_or ws' i 0) ≡ (digit j (get_or ws i 0) + digit i row * digit j (2 ^ d)) % 2
      word_digit i j li =
          ap (digit j) (word i li) ∙ digit_xor j (get_or ws i 0) (digit i row * 2 ^ d)
          ∙ ap (λ (q : ℕ). (digit j (get_or ws i 0) + q) % 2) (digit_chosen j (digit i row) (2 ^ d) (mod2_lt (row / 2 ^ i)))

      kept_digit : (i j : ℕ) → i < 64 → (j ≡ d → ⊥) → digit j (get_or ws' i 0) ≡ digit j (get_or ws i 0)
      kept_digit i j li n =
          word_digit i j li ∙ ap (λ (v : ℕ). (digit j (get_or ws i 0) + digit i row * v) % 2) (power_other j d n)
          ∙ only (digit j (get_or ws i 0)) (digit i row) (mod2_lt (get_or ws i 0 / 2 ^ j))
        where
          only : (y u : ℕ) → y < 2 → (y + u * 0) % 2 ≡ y
          only y u h = omega arith

      made_here : (i j : ℕ) → i < 64 → digit i dead ≡ 0 → j ≡ d → digit j (get_or ws' i 0) ≡ digit j (get_or s.slots i 0)
      made_here i j li a q =
          ap (λ (k : ℕ). digit k (get_or ws' i 0)) q ∙ word_digit i d li
          ∙ ap₂ (λ (u v : ℕ). (u + digit i row * v) % 2)
          (s.rest i d li a (omega arith) ∙ power_other d i (λ (r : d ≡ i). (let z : ⊥ = omega (arith, a, ap (λ (k : ℕ). digit k dead) r, gone) in z)))
          (ap (λ (y : ℕ). y % 2) (power_top d))
          ∙ only (digit i row) (mod2_lt (row / 2 ^ i)) ∙ sym (slot_digit i li a small) ∙ ap (λ (k : ℕ). digit k (get_or s.slots i 0)) (sym q)
        where
          only : (u : ℕ) → u < 2 → (0 + u * 1) % 2 ≡ u
          only u h = omega arith

  -- as the code makes them
  pub settled_turn : (m bit : ℕ) (basis' ws' : List ℕ) → bit ≡ 2 ^ d → m ≡ xor_marked basis (bit_and (get_or basis d 0) (bit_xor dead bit))
      → basis' ≡ set basis d (bit_xor (get_or basis d 0) m) → bit_xor (get_or basis d 0) m < 2 ^ 64 → XoredInto ws ws' (bit_xor (get_or basis d 0) m) bit
      → Settled l basis' ws' dead d
  unfolding row marks
  settled_turn m bit basis' ws' eb em es small x =
      let er : bit_xor (get_or basis d 0) m ≡ row = ap (bit_xor (get_or basis d 0)) (em ∙ ap (λ (y : ℕ). xor_marked basis (bit_and (get_or basis d 0) (bit_xor dead y))) eb) in
      settled_row basis' ws' (es ∙ ap (set basis d) er) (subst (λ (y : ℕ). y < 2 ^ 64) er small)
      (subst (λ (y : ℕ). XoredInto ws ws' row y) eb (subst (λ (y : ℕ). XoredInto ws ws' y bit) er x))

-- an alive bit needs nothing
pub settled_skip : (l basis ws : List ℕ) (dead d : ℕ) → Settled l basis ws dead (suc d) → digit d dead ≡ 0 → Settled l basis ws dead d
settled_skip l basis ws dead d s a =
    record {
      slots = s.slots;
      hold = s.hold;
      order = s.order;
      wide = s.wide;
      small = s.small;
      settled = λ e f b le h hf. s.settled e f (past e b h) le h hf;
      made = λ i j li ai h b. s.made i j li ai h (past j b h);
      rest = λ i j li ai b. s.rest i j li ai (omega arith);
      alone = s.alone;
    }
  where
    past : (e : ℕ) → d ≤ e → digit e dead ≡ 1 → suc d ≤ e
    past e b h = dite (ℕ_discrete e d) (λ (q : e ≡ d). (let z : ⊥ = omega (arith, h, ap (λ (k : ℕ). digit k dead) q, a) in absurd z)) (λ (n : e ≡ d → ⊥). omega arith)

pub settled_start : (l basis ws : List ℕ) (dead : ℕ) → Held l basis dead → Basis basis dead → dead < 2 ^ 64 → length ws ≡ 64 → ((i : ℕ) → i < 64 → get_or ws i 0 ≡ 2 ^ i)
    → Settled l basis ws dead 64
settled_start l basis ws dead h b small wide each =
    record {
      slots = h.slots;
      hold = h.hold;
      order = b;
      wide = wide;
      small = λ i. dite (dec_lt i 64) (λ (li : i < 64). subst (λ (y : ℕ). y < 2 ^ 64) (sym (each i li)) (pow-lt li)) (λ (n : i < 64 → ⊥). subst (λ (y : ℕ). y < 2 ^ 64) (sym (get_or-eq_default ws 0 {n = i} (omega (arith, wide)))) (omega arith));
      settled = λ e f a le d df. (let z : ⊥ = omega arith in absurd z);
      made = λ i j li a d p. (let z : ⊥ = omega (arith, d, digit_past 64 dead j small p) in absurd z);
      rest = λ i j li a p. ap (digit j) (each i li);
      alone = λ i j li a p. ap (digit j) (each i li);
    }

pub settled_end : (l basis ws : List ℕ) (dead : ℕ) → Settled l basis ws dead 0 → kept dead ws ≡ l
settled_end l basis ws dead s =
    kept_alike dead ws s.slots (s.wide ∙ sym s.hold.wide)
    (λ i li a.
    by_digits 64 (get_or ws i 0) (get_or s.slots i 0) (s.small i) (s.hold.small i)
    (λ j lj.
    let i64 : i < 64 = omega (arith, s.wide) in
    ⊎_elim (λ (z : digit j dead ≡ 0). s.alone i j i64 a z ∙ sym (s.hold.own i j i64 a z)) (λ (z : digit j dead ≡ 1). s.made i j i64 a z (omega arith)) (bit_cases (digit j dead) (mod2_lt (dead / 2 ^ j)))))
    ∙ s.hold.held

-- ---- as the loop counts

odd_digit : (x : ℕ) → (x % 2 ≡ 0 → ⊥) → x % 2 ≡ 1
odd_digit x n = omega arith

pub settle_skips : (l basis ws : List ℕ) (dead d : ℕ) → Settled l basis ws dead (d + 1) → digit d dead ≡ 0 → Settled l basis ws dead d
settle_skips l basis ws dead d s a = settled_skip l basis ws dead d (subst (Settled l basis ws dead) (add-one d) s) a

pub settle_turns : (l basis ws : List ℕ) (dead d : ℕ) → Settled l basis ws dead (d + 1) → d < 64 → (digit d dead ≡ 0 → ⊥) → dead < 2 ^ 64 → (m : ℕ) (ws' : List ℕ)
    → m ≡ xor_marked basis (bit_and (get_or basis d 0) (bit_xor dead ((1 * 2 ^ d) % 18446744073709551616))) → bit_xor (get_or basis d 0) m < 2 ^ 64
    → XoredInto ws ws' (bit_xor (get_or basis d 0) m) ((1 * 2 ^ d) % 18446744073709551616) → Settled l (set basis d (bit_xor (get_or basis d 0) m)) ws' dead d
settle_turns l basis ws dead d s ld n small m ws' em hm x =
    settled_turn l basis ws dead d (subst (Settled l basis ws dead) (add-one d) s) ld (odd_digit (dead / 2 ^ d) n) small m ((1 * 2 ^ d) % 18446744073709551616) (set basis d (bit_xor (get_or basis d 0) m)) ws' (one_bit d ld) em refl hm x

pub settle_starts : (l basis ws : List ℕ) (dead : ℕ) → Held l basis dead → Basis basis dead → dead < 2 ^ 64 → ws ≡ units 64 → Settled l basis ws dead 64
settle_starts l basis ws dead h b small e =
    settled_start l basis ws dead h b small (ap length e ∙ length_units 64) (λ i li. ap (λ (x : List ℕ). get_or x i 0) e ∙ units_at 64 i li)

pub units_long : (ws : List ℕ) → ws ≡ units 64 → length ws ≡ 64
units_long ws e = ap length e ∙ length_units 64

pub settle_on : (l basis ws basis' ws' : List ℕ) (dead d : ℕ) → 0 < d → Settled l basis ws dead d
    → (Settled l basis ws dead (d - 1 + 1) → Settled l basis' ws' dead (d - 1)) → Settled l basis' ws' dead (d - 1)
settle_on l basis ws basis' ws' dead d h s f = let same : d ≡ d - 1 + 1 = omega arith in f (subst (Settled l basis ws dead) same s)

pub settle_ends : (l basis ws : List ℕ) (dead d : ℕ) → d ≤ 0 → Settled l basis ws dead d → kept dead ws ≡ l
settle_ends l basis ws dead d h s = let none : d ≡ 0 = omega arith in settled_end l basis ws dead (subst (Settled l basis ws dead) none s)
