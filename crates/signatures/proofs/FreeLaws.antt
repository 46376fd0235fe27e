-- What is given without ties is as it was before there were any: every unknown cell is free. Document 02, No. 7: "each unnamed unknown is a
-- free symbol".
--
--   filling_free, free_filling   it has the same fillings
--   columns_free                 .. the same columns
--   zero_free                    .. the same signature for all unknowns 0
--   symbols_free                 .. and as many symbols as unknown cells, none of them named
--   named_free
-- Assumes nothing.
use mathlib.Core.Path.{◌≡◌, sym, ap, ◌∙◌}
use mathlib.Core.Bool.{cond}
use mathlib.Core.Option.{Option}
use Prim.Native.Nat.{ℕ}
use native.Mathlib.Omega.{arith}
use lib.Dec.{eqb}
use Rattle.rows.specs.Marks.{total}
use Rattle.rows.proofs.MarkLaws.{total_ext}
use Rattle.ties.specs.Symbols.{flag, named_symbols, first_mark, first_marks}
use Rattle.ties.proofs.SymbolLaws.{unnamed}
use Rattle.register.specs.Circuit.{chains}
use Rattle.signatures.specs.Signature.{Response, column}
use Rattle.signatures.specs.Symbols.{source_column, column_at}
use Rattle.signatures.specs.Given.{Given, FillingOf, columns_for, symbols_for, named_for, unknowns_for, side_of, zeroed, zero_signature_for}
use Rattle.signatures.specs.Free.{FreeFillingOf, free_columns_for, free_zeroed, free_zero_signature_for}
use Rattle.signatures.proofs.SignatureLaws.{signature_ext}
use Rattle.signatures.proofs.ListingLaws.{listing_ext, same_listed, listing_columns}

module _ (g : Given) (bare : g.ties.count ≡ 0) where
  pub filling_free : (x : Response) → FillingOf g x → FreeFillingOf g x
  filling_free x f = record { bits = f.bits; known = f.known }

  pub free_filling : (x : Response) → FreeFillingOf g x → FillingOf g x
  free_filling x f = record {
    bits = f.bits;
    known = f.known;
    ties = record { symbols = λ j. 0; bits = λ j. omega arith; held = λ i l. let clash : ⊥ = omega arith in absurd clash };
  }

  pub columns_free : columns_for g ≡ free_columns_for g
  unfolding column_at first_marks
  columns_free =
      listing_ext (column_at g.wiring g.slices g.ties) (column g.wiring g.slices) (first_marks g.marks g.ties) g.marks (chains g.wiring)
      g.slices
      (λ t c lt lc.
      same_listed _ _ _ _ (ap (first_mark g.ties (g.marks t c)) (unnamed g.ties bare t c))
      (ap (source_column g.wiring g.slices g.ties t c) (unnamed g.ties bare t c)))
      ∙ sym (listing_columns g.wiring g.slices g.marks g.slices)

  pub zero_free : zero_signature_for g ≡ free_zero_signature_for g
  zero_free =
      signature_ext g.wiring (zeroed g) (free_zeroed g) g.slices
      (λ t c lt lc. ap (λ (o : Option ℕ). cond (eqb (g.marks t c) 0) (g.values t c) (side_of g.ties o)) (unnamed g.ties bare t c))

  pub symbols_free : symbols_for g ≡ unknowns_for g
  unfolding first_marks
  symbols_free =
      total_ext g.slices (λ t. total (chains g.wiring) (first_marks g.marks g.ties t)) (λ t. total (chains g.wiring) (g.marks t))
      (λ t lt. total_ext (chains g.wiring) (first_marks g.marks g.ties t) (g.marks t)
      (λ c lc. ap (first_mark g.ties (g.marks t c)) (unnamed g.ties bare t c)))

  pub named_free : named_for g ≡ 0
  unfolding named_symbols total
  named_free = ap (λ (n : ℕ). total n (flag g.ties)) bare
