-- The number so far takes up each digit, and the run ends where none stands.
-- Assumes nothing.
use Rattle.decode_html.proofs.Runs.{Running}
use Rattle.decode_html.proofs.digits.read_run.Given as goal

abbrev pub invariant-loop-i : goal.invariant-loop-i
invariant-loop-i l = Running l.base l.bytes l.number l.i
