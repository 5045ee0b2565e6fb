-- `read_low` meets its contract: on an ASCII text what is said of `quoted` is said of ascii_quoted (Quoted).
-- Assumes nothing.
use Rattle.read_strings.proofs.Turns.{affirmed}
use Rattle.readers.proofs.Quoted.{says_both, without-low}
use Rattle.readers.proofs.read_low.Goals as goal

pub returns : goal.returns
returns c =
    let a = c.args in
    let low = without-low 60 a.text.now (c.is_without.ensures (affirmed _ c.if-not-is_without.false-raw)) in
    says_both a.text.now low a.output.now _ c.read.result c.read.ensures
