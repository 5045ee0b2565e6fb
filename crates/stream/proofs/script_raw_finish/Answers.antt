-- `script_raw_finish` meets its contract: a finished state is refused first.
-- Assumes nothing.
use mathlib.Core.Bool.{true}
use mathlib.Core.List.{[]}
use Rattle.stream.proofs.Rows.{finished-part}
use Rattle.stream.proofs.script_raw_finish.Goals as goal

pub returns-then-state : goal.returns-then-state
returns-then-state c = finished-part true c.args.state [] c.args.output.now c.if-state.true c.refusal-answer.ensures
