-- What a set gives, and the fillings of its unknown cells. Document 01: "A set gives each cell as 0, 1 or unknown; a known cell is one
-- given as 0 or 1. A filling gives every unknown cell a 0 or a 1 [..] and leaves the known cells as the set has them. A signature is
-- explained if some filling clocks to it." Document 02, No. 7: "Cells with one symbol number take one value, or its opposite; each unnamed
-- unknown is a free symbol. A filling is now one that obeys this. A symbol's column is the XOR of its cells' columns, listed where its first
-- cell was, and the expected signature has all symbols 0."
--
--   Given               a register with its chains, the number of slices, the values of the cells, the marks of the unknown ones, and the
--                       ties of some of these
--   KnownCell g t c     the cell of slice t and chain c is there, and is given as 0 or 1
--   ObeysTies e x       document 02: the response x obeys the ties e: there is a bit for each symbol number, and each named cell holds its
--                       symbol's bit, or the opposite of it
--   FillingOf g x       the response x is a filling
--   ExplainedBy g y     document 01: some filling clocks to the signature y
--   columns_for g        document 02: the columns of the symbols
--   symbols_for g        document 02: the number of symbols, free and named
--   named_for g          .. of named ones
--   unknowns_for g       document 01: the number of unknown cells
--   side_of e o          what an unknown cell holds where its symbol is 0: the side of the entry o that names it, and else 0
--   zeroed g            the filling that gives every symbol a 0: a cell tied as opposite is 1 there
--   zero_signature_for g  document 02: the signature for all symbols 0
--   SameMarks g h       h has the register, the chains, the number of slices and the marks of g
--   RevisedFrom g h     h has the register, the chains, the number of slices, the marks and the ties of g; its values may be others. Document 02,
--                       No. 2: "Designers correct expected values weekly while the unknown marks stay."
use Rattle.std.specs.Prelude.{◌≡◌, cond, List, ℕ, ◌+◌, ◌%◌, ◌<◌, eqb}
use Rattle.std.proofs.Math.Option.{Option, none, some}
use Rattle.rows.specs.Marks.{total}
use Rattle.ties.specs.Ties.{Ties}
use Rattle.ties.specs.Symbols.{naming, named_symbols}
use Rattle.register.specs.Circuit.{Circuit, chains}
use Rattle.signatures.specs.Signature.{Response, signature}
use Rattle.signatures.specs.Symbols.{symbol_columns, symbol_count}

pub record Given : Type 0 where
  pub wiring : Circuit
  pub slices : ℕ
  pub values : Response
  pub marks : Response
  pub ties : Ties

pub record KnownCell (g : Given) (t c : ℕ) : Type 0 where
  pub slice : t < g.slices
  pub chain : c < chains g.wiring
  pub unmarked : g.marks t c ≡ 0

pub record ObeysTies (e : Ties) (x : Response) : Type 0 where
  pub symbols : ℕ → ℕ
  pub bits : (j : ℕ) → symbols j < 2
  pub held : (i : ℕ) → i < e.count → x (e.slice i) (e.chain i) ≡ (symbols (e.symbol i) + e.side i) % 2

pub record FillingOf (g : Given) (x : Response) : Type 0 where
  pub bits : (t c : ℕ) → x t c < 2
  pub known : (t c : ℕ) → KnownCell g t c → x t c ≡ g.values t c
  pub ties : ObeysTies g.ties x

pub record ExplainedBy (g : Given) (y : ℕ) : Type 0 where
  pub response : Response
  pub filling : FillingOf g response
  pub clocks : signature g.wiring response g.slices ≡ y

abbrev pub columns_for : Given → List ℕ
columns_for g = symbol_columns g.wiring g.slices g.marks g.ties

abbrev pub symbols_for : Given → ℕ
symbols_for g = symbol_count g.slices (chains g.wiring) g.marks g.ties

abbrev pub named_for : Given → ℕ
named_for g = named_symbols g.ties

abbrev pub unknowns_for : Given → ℕ
unknowns_for g = total g.slices (λ t. total (chains g.wiring) (g.marks t))

abbrev pub side_of : Ties → Option ℕ → ℕ
side_of e none = 0
side_of e (some i) = e.side i

abbrev pub zeroed : Given → Response
zeroed g t c = cond (eqb (g.marks t c) 0) (g.values t c) (side_of g.ties (naming g.ties t c))

abbrev pub zero_signature_for : Given → ℕ
zero_signature_for g = signature g.wiring (zeroed g) g.slices

pub record SameMarks (g h : Given) : Type 0 where
  pub wiring : g.wiring ≡ h.wiring
  pub slices : g.slices ≡ h.slices
  pub marks : (t c : ℕ) → t < g.slices → c < chains g.wiring → g.marks t c ≡ h.marks t c

pub record RevisedFrom (g h : Given) : Type 0 where
  pub same : SameMarks g h
  pub ties : g.ties ≡ h.ties
