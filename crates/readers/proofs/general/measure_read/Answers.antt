-- `measure_read` meets its contract: a context that is not ascii_quoted has no rule beside its table.
-- Assumes nothing.
use Rattle.reader.proofs.Ruleless.{ruleless}
use Rattle.readers.proofs.general.measure_read.Goals as goal

pub measure-requires : goal.measure-requires
measure-requires c =
    let s = c in
    (s.requires.0, s.requires.1, ruleless s.args.context c.in_default.not-InAscii)

pub returns : goal.returns
returns c = rw c.in-InAscii.is c.measure-2.ensures
