-- `write_byte` meets its contract: past the end `set` changes nothing.
use mathlib.Core.Path.{sym}
use lib.Seq.{set_out}
use Rattle.written_numbers.proofs.write_byte.Goals as goal

pub returns-else-i-out : goal.returns-else-i-out
returns-else-i-out c = sym (set_out c.args.out.now c.args.i c.args.b c.if-i-out.false)
