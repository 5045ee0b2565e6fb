-- `walk` meets its contract: none of the bytes so far is such a byte.
-- Assumes nothing.
use Rattle.base.specs.First.{Free}
use Rattle.decode_json.specs.Escapes.{halt_at}
use Rattle.decode_json.proofs.halts.walk.Given as goal

abbrev pub invariant-loop-i : goal.invariant-loop-i
invariant-loop-i l = Free (halt_at l.text) l.from l.i
