-- `write` meets its contract: what is written and counted so far, with what the reader gives of the rest, is the result of the whole. The measure is
-- what is left of the text.
-- Assumes nothing.
-- What the reader gives of the text from place i on.
use mathlib.Core.List.{List}
use Rattle.reader.specs.Units.{byte_step}
use Prim.Native.Nat.{ℕ, ◌-◌}
use lib.ListN.{length}
use Rattle.rules.specs.declared.Context.{Context}
use Rattle.rules.specs.Operations.{read_of}
use Rattle.rules.specs.Moves.{result, from}
use Rattle.base.proofs.Counted.{Counted}
use Rattle.base.proofs.Filled.{Filled}
use Rattle.reader.proofs.write.Given as goal

abbrev pub Rest : Context → List ℕ → ℕ → List ℕ
Rest c t i = result (from (byte_step c) t i)

abbrev pub invariant-loop-i : goal.invariant-loop-i
invariant-loop-i l = Counted (byte_step l.fn.c) l.text l.i l.at l.units × Filled (read_of l.fn.c l.text) (Rest l.fn.c l.text l.i) l.initial.output l.output l.at

abbrev pub decreases-loop-i : goal.decreases-loop-i
decreases-loop-i l = length l.text - l.i
