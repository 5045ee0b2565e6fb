-- `settled` meets its contract: through an ASCII text the moves of ascii_quoted are those of `quoted` (Found), and both have the same counts; any other
-- call keeps its job.
-- Assumes nothing.
use mathlib.Core.Path.{sym}
use borrow.Author.Rules.{rules}
use Rattle.jobs.specs.Jobs.{rule_by}
use Rattle.jobs.proofs.Found.{ascii-moves}
use Rattle.jobs.proofs.work.settled.Goals as goal

pub returns-in-EncodeAscii : goal.returns-in-EncodeAscii
unfolding rule_by
returns-in-EncodeAscii c =
    let a = c.args in
    rw c.in-EncodeAscii.is (λ t seen. (sym (ascii-moves t a.scan.high seen.0 (search rules)), seen))
