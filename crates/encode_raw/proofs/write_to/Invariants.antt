-- `encode_raw::write_to` meets its contract: what is written so far, with what the rest of the text gives, is the result of the whole. The measure is what is left before the end.
-- Assumes nothing.
use Prim.Native.Nat.{◌-◌, ◌≤◌}
use lib.ListN.{take}
use Rattle.rules.specs.Encoding.{raw_step}
use Rattle.rules.specs.Moves.{result, through}
use Rattle.base.proofs.Filled.{Filled}
use Rattle.encode_raw.proofs.Cuts.{left}
use Rattle.encode_raw.proofs.write_to.Given as goal

abbrev pub invariant-loop-i : goal.invariant-loop-i
invariant-loop-i l = (l.i ≤ l.end) × Filled (result (take l.end (through raw_step l.text))) (result (left l.text l.end l.i)) l.initial.output l.output l.at

abbrev pub decreases-loop-i : goal.decreases-loop-i
decreases-loop-i l = l.end - l.i
