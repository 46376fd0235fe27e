-- Each way out of signing a record, and what it answers. Assumes nothing.
use mathlib.Core.Path.{◌≡◌, sym, ap, ap₂, ◌∙◌}
use mathlib.Core.Bool.{Bool, true, false, not}
use mathlib.Core.List.{List, [], ◌∷◌}
use Prim.Native.Nat.{ℕ, ◌*◌}
use native.Mathlib.Omega.{arith}
use borrow.Author.Tests.{eq-eqb, ne_eqb}
use lib.Dec.{eqb}
use lib.ListN.{length}
use Rattle.word.specs.Reply.{◌when◌, answer, refusal, first_of}
use Rattle.word.proofs.ReplyLaws.{replied_answered, refused_reply}
use Rattle.word.proofs.TestLaws.{first_of_later, first_sooner}
use Rattle.std.specs.Prelude.{Result, Err}
use Rattle.refusals.specs.declared.Refusal.{Refusal}
use Rattle.refusals.specs.Refusals.{number}
use Rattle.refusals.proofs.RefusalLaws.{not_zero, refused_call}
use Rattle.rows.specs.Row.{row_bytes}
use Rattle.rows.specs.Lists.{list_row, spare_in}
use Rattle.register.specs.Circuit.{Circuit}
use Rattle.set_layout.specs.Layout.{circuit_of, chains_of, slices_of}
use Rattle.set_file.specs.Reading.{set_tests, taken_circuit, TakenFrom}
use Rattle.set_file.specs.declared.Taken.{Taken}
use Rattle.set_file.proofs.Laws.{set_numbered}
use Rattle.signatures.specs.Signature.{signature}
use Rattle.signatures.specs.Sets.{record_cells}
use Rattle.signing.specs.Signing.{sign_tests, sign_reply, said_signed}

-- the set is refused
pub sign_set_refused : (set r : List ℕ) (a : Result ℕ Refusal) (e : Refusal) → a ≡ Err e → number e ≡ first_of (set_tests set) → said_signed a ≡ sign_reply set r
unfolding sign_reply sign_tests
sign_set_refused set r a e is h = refused_call (λ y. y) a e _ _ is (first_sooner (set_tests set) _ (number e) h (not_zero e))

module _ (set r : List ℕ) (k : Taken) (taken : TakenFrom set k) where
  wrong : Bool
  wrong = not (eqb (length r) (row_bytes (chains_of set) * slices_of set))

  spare : Bool
  spare = spare_in (chains_of set) (list_row (chains_of set) r) (slices_of set)

  sign_later : first_of (sign_tests set r) ≡ first_of (12 when wrong ∷ 13 when spare ∷ [])
  unfolding sign_tests wrong spare
  sign_later = first_of_later (set_tests set) _ (set_numbered set) taken.none

  long : row_bytes k.n * k.s ≡ row_bytes (chains_of set) * slices_of set
  long = ap₂ (λ (x y : ℕ). row_bytes x * y) taken.chains taken.slices

  pub sign_wrong_length : (bytes : ℕ) → bytes ≡ row_bytes k.n * k.s → (length r ≡ bytes → ⊥) → refusal 12 ≡ sign_reply set r
  unfolding sign_reply wrong
  sign_wrong_length bytes eb h =
      refused_reply _ 12 _
      (sym
      (sign_later
      ∙ (rw (ne_eqb (length r) (row_bytes (chains_of set) * slices_of set) (λ (z : length r ≡ row_bytes (chains_of set) * slices_of set). h (z ∙ sym (eb ∙ long)))))))
      (λ (z : 12 ≡ 0). omega arith)

  module _ (bytes : ℕ) (eb : bytes ≡ row_bytes k.n * k.s) (h : length r ≡ bytes) (b : Bool) (ep : b ≡ spare_in k.n (list_row k.n r) k.s) where
    right : wrong ≡ false
    unfolding wrong
    right = ap not (eq-eqb (length r) (row_bytes (chains_of set) * slices_of set) (h ∙ eb ∙ long))

    spare_is : b ≡ spare
    unfolding spare
    spare_is = ep ∙ ap₂ (λ (x y : ℕ). spare_in x (list_row x r) y) taken.chains taken.slices

    pub sign_spare : b ≡ true → refusal 13 ≡ sign_reply set r
    unfolding sign_reply
    sign_spare on = refused_reply _ 13 _ (sym (sign_later ∙ (rw (right, sym spare_is ∙ on)))) (λ (z : 13 ≡ 0). omega arith)

    pub sign_answers : (y : ℕ) → b ≡ false → y ≡ signature (taken_circuit k) (record_cells k.n r) k.s → answer y ≡ sign_reply set r
    unfolding sign_reply
    sign_answers y off ey =
        let none : first_of (12 when wrong ∷ 13 when spare ∷ []) ≡ 0 = rw (right, sym spare_is ∙ off) in
        ap answer
        (ey ∙ ap₂ (λ (x : Circuit) (n : ℕ). signature x (record_cells n r) k.s) taken.circuit taken.chains
        ∙ ap (signature (circuit_of set) (record_cells (chains_of set) r)) taken.slices)
        ∙ sym (replied_answered (first_of (sign_tests set r)) (signature (circuit_of set) (record_cells (chains_of set) r) (slices_of set)) (sign_later ∙ none))
