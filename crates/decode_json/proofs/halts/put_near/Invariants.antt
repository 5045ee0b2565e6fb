-- `put_near` meets its contract: none of the bytes so far is such a byte, and they stand at the start of the output.
-- Assumes nothing.
use mathlib.Core.Path.{◌≡◌}
use Prim.Native.Nat.{◌-◌}
use lib.ListN.{take, drop}
use Rattle.rules.specs.Bytes.{over}
use Rattle.base.specs.First.{Free}
use Rattle.decode_json.specs.Escapes.{halt_at}
use Rattle.decode_json.proofs.halts.put_near.Given as goal

abbrev pub invariant-loop-i : goal.invariant-loop-i
invariant-loop-i l = Free (halt_at l.text) l.from l.i × (l.output ≡ over (take (l.i - l.from) (drop l.from l.text)) l.initial.output)
