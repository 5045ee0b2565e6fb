-- `without_output` meets its contract, by the one test.
-- Assumes nothing.
use borrow.Author.Tests.{eq-eqb, ne_eqb}
use Rattle.lintelrye.proofs.without_output.Goals as goal

pub returns-then-answer-eq-NO_ROOM : goal.returns-then-answer-eq-NO_ROOM
returns-then-answer-eq-NO_ROOM c = rw (eq-eqb _ _ c.if-answer-eq-NO_ROOM.true)

pub returns-else-answer-eq-NO_ROOM : goal.returns-else-answer-eq-NO_ROOM
returns-else-answer-eq-NO_ROOM c = rw (ne_eqb _ _ c.if-answer-eq-NO_ROOM.false)
