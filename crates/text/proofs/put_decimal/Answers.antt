-- `put_decimal` meets its contract: the digits are put.
use Rattle.std.proofs.lemmas.List.{take_rest}
use Rattle.text.proofs.put_decimal.Goals as goal

pub returns : goal.returns
returns c =
    let digits = c.digits_of-digits in
    rw (take_rest digits.result.bytes digits.result.from, digits.ensures.2) at c.put.ensures
