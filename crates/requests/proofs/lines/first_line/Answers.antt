-- `first_line` meets its contract: the first byte 0A ends the line, or there is none.
-- Assumes nothing.
use native.Mathlib.Omega.{arith}
use Rattle.requests.proofs.Header.{line-feed}
use Rattle.requests.proofs.lines.first_line.Goals as goal

pub returns-in-Some : goal.returns-in-Some
returns-in-Some c = let l = rw c.in-Some.is at (line-feed c.args.names.now c.line_feed.result c.line_feed.ensures) in (l.0, omega arith, omega (arith, l.1))

pub returns-in-None : goal.returns-in-None
returns-in-None c = let l = rw c.in-None.is at (line-feed c.args.names.now c.line_feed.result c.line_feed.ensures) in (l, omega arith, omega arith)
