-- `first` meets its contract: of the bytes so far, the number tells the first such byte.
-- Assumes nothing.
use Rattle.decode_json.specs.Escapes.{halt_at}
use Rattle.decode_json.proofs.Contents.{Sought}
use Rattle.decode_json.proofs.halts.first.Given as goal

abbrev pub invariant-loop-j : goal.invariant-loop-j
invariant-loop-j l = Sought (halt_at l.text) l.at l.j l.n
