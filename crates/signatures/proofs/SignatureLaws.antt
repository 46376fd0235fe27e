-- The laws of signatures: one depends on the cells alone, the XOR of two responses has the XOR of the one's signature and of the other's
-- without inversion, and it stays within the width. Assumes nothing.
use mathlib.Core.Path.{◌≡◌, refl, ap, ◌∙◌}
use Prim.Native.Nat.{ℕ, zero, suc, ◌+◌, ◌%◌, ◌^◌, ◌<◌}
use native.Mathlib.Nat.{le_step, lt-suc_self}
use lib.Bits.{bit_xor}
use lib.ListN.{get_or}
use lib.Pow.{pow_pos}
use Rattle.register.specs.Circuit.{Circuit, uninverted, chains, clocked}
use Rattle.register.proofs.Laws.{clocked_ext, clocked_zero, clocked_xor, clocked_lt, advanced_zero}
use Rattle.signatures.specs.Signature.{Response, runs, signature}

pub runs_none : (k : Circuit) (x : Response) → runs k x 0 ≡ 0
unfolding runs
runs_none k x = refl

pub runs_suc : (k : Circuit) (x : Response) (t : ℕ) → runs k x (suc t) ≡ clocked k (x t) (runs k x t)
unfolding runs
runs_suc k x t = refl

pub signature_ext : (k : Circuit) (x y : Response) (s : ℕ)
    → ((t c : ℕ) → t < s → c < chains k → x t c ≡ y t c) → signature k x s ≡ signature k y s
unfolding runs
signature_ext k x y zero h = refl
signature_ext k x y (suc s) h =
    ap (clocked k (x s)) (signature_ext k x y s (λ t c l. h t c (le_step l)))
    ∙ clocked_ext k (x s) (y s) (runs k y s) (λ c. h s c (lt-suc_self s))

pub signature_xor : (k : Circuit) (x y : Response) (s : ℕ) → ((t c : ℕ) → x t c < 2) → ((t c : ℕ) → y t c < 2)
    → signature k (λ t c. (x t c + y t c) % 2) s ≡ bit_xor (signature k x s) (signature (uninverted k) y s)
unfolding runs
signature_xor k x y zero hx hy = refl
signature_xor k x y (suc s) hx hy =
    ap (clocked k (λ c. (x s c + y s c) % 2)) (signature_xor k x y s hx hy)
    ∙ clocked_xor k (x s) (y s) (runs k x s) (runs (uninverted k) y s) (hx s) (hy s)

pub signature_zero : (k : Circuit) (s : ℕ) → signature (uninverted k) (λ t c. 0) s ≡ 0
unfolding runs
signature_zero k zero = refl
signature_zero k (suc s) =
    ap (clocked (uninverted k) (λ c. 0)) (signature_zero k s) ∙ clocked_zero k 0 ∙ advanced_zero k.width k.taps

pub signature_lt : (k : Circuit) (x : Response) (s : ℕ) → k.taps < 2 ^ k.width → k.inversion < 2 ^ k.width
    → ((c : ℕ) → get_or k.spread c 0 < 2 ^ k.width) → signature k x s < 2 ^ k.width
unfolding runs
signature_lt k x zero ht hv hw = pow_pos k.width
signature_lt k x (suc s) ht hv hw = clocked_lt k (x s) (runs k x s) ht hv hw
