-- `script_raw_part` meets its contract: a finished state is refused first.
-- Assumes nothing.
use mathlib.Core.Bool.{false}
use Rattle.stream.proofs.Rows.{finished-part}
use Rattle.stream.proofs.script_raw_part.Goals as goal

pub returns-then-state : goal.returns-then-state
returns-then-state c =
    let a = c.args in
    finished-part false a.state a.text.now a.output.now c.if-state.true c.refusal-answer.ensures
