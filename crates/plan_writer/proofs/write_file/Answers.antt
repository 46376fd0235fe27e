-- `write_file` meets its contract: the parts one after the other are the file.
use Rattle.plan_writer.proofs.WriteLaws.{bits_room, parts_written}
use Rattle.plan_writer.proofs.write_file.Goals as goal

pub write_low_bytes-requires : goal.write_low_bytes-requires
write_low_bytes-requires c =
    bits_room _ c.args.words.now _ _ _ _ _ c.write_count.ensures c.write_count-2.ensures c.write_words.ensures c.write_count-3.ensures c.requires

pub returns : goal.returns
returns c =
    parts_written _ _ _ _ _ _ _ c.write_count.ensures c.write_count-2.ensures c.write_words.ensures c.write_count-3.ensures _ _
    c.write_low_bytes.ensures c.requires
