-- `write_read` meets its contract: a context that is not ascii_quoted has no rule beside its table.
-- Assumes nothing.
use Rattle.reader.proofs.Ruleless.{ruleless}
use Rattle.readers.proofs.general.write_read.Goals as goal

pub write-requires : goal.write-requires
write-requires c =
    let s = c in
    (s.requires.0, s.requires.1, ruleless s.args.context c.in_default.not-InAscii)

pub write-requires-2 : goal.write-requires-2
write-requires-2 c =
    let s = c in
    rw c.in-InAscii.is at s.requires.1

pub returns : goal.returns
returns c = rw c.in-InAscii.is c.write-2.ensures
