-- What is given with every unknown cell free, whatever ties it has: document 01's own reading, "A filling gives every unknown cell a 0 or a 1,
-- each freely and alone". Without ties it is the reading of Given (proofs/FreeLaws). Document 02, No. 7: "The cutter goes on with every cell
-- free".
--
--   FreeFillingOf g x       the response x is a filling, every unknown cell free
--   free_columns_for g        document 01: the columns of the unknown cells
--   free_zeroed g            the filling that gives every unknown cell a 0
--   free_zero_signature_for g  document 01: the signature for all unknowns 0
use Rattle.std.specs.Prelude.{◌≡◌, cond, List, ℕ, ◌<◌, eqb}
use Rattle.signatures.specs.Signature.{Response, signature}
use Rattle.signatures.specs.Columns.{columns_below}
use Rattle.signatures.specs.Given.{Given, KnownCell}

pub record FreeFillingOf (g : Given) (x : Response) : Type 0 where
  pub bits : (t c : ℕ) → x t c < 2
  pub known : (t c : ℕ) → KnownCell g t c → x t c ≡ g.values t c

abbrev pub free_columns_for : Given → List ℕ
free_columns_for g = columns_below g.wiring g.slices g.marks g.slices

abbrev pub free_zeroed : Given → Response
free_zeroed g t c = cond (eqb (g.marks t c) 0) (g.values t c) 0

abbrev pub free_zero_signature_for : Given → ℕ
free_zero_signature_for g = signature g.wiring (free_zeroed g) g.slices
