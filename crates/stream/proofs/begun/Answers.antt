-- `begun` meets its contract: the limit is tested of how many bytes are held.
-- Assumes nothing.
use mathlib.Core.Bool.{false}
use mathlib.Core.Path.{ap}
use lib.ListN.{length}
use Rattle.stream.proofs.Rows.{long-part}
use Rattle.stream.proofs.begun.Goals as goal

pub returns-then-is_long : goal.returns-then-is_long
returns-then-is_long c =
    let a = c.args in
    long-part false a.state a.text.now a.output.now _ c.requires (ap length c.held_bytes-held.ensures.0) c.is_long.ensures c.if-is_long.true c.refusal-answer.ensures
