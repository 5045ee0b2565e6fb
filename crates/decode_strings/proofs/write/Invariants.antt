-- `write` meets its contract: what is written and counted so far, with what the rest of the text gives, is the result of the whole. The measure is
-- what is left of the text.
-- Assumes nothing.
-- What the rest of the text from place i on gives.
use mathlib.Core.List.{List}
use Rattle.rules.specs.Contexts.{string_of}
use Prim.Native.Nat.{ℕ, ◌-◌}
use lib.ListN.{length}
use Rattle.rules.specs.declared.Language.{Language}
use Rattle.rules.specs.declared.Quotes.{Quotes}
use Rattle.rules.specs.Operations.{decode_step, decode_of}
use Rattle.rules.specs.Moves.{result, from}
use Rattle.base.proofs.Counted.{Counted}
use Rattle.base.proofs.Filled.{Filled}
use Rattle.decode_strings.proofs.write.Given as goal

abbrev pub Rest : Language → Quotes → List ℕ → ℕ → List ℕ
Rest language quotes t i = result (from (decode_step (string_of language quotes)) t i)

abbrev pub invariant-loop-i : goal.invariant-loop-i
invariant-loop-i l =
    Counted (decode_step (string_of l.language l.quotes)) l.text l.i l.at l.escapes × Filled (decode_of (string_of l.language l.quotes) l.text) (Rest l.language l.quotes l.text l.i) l.initial.output l.output l.at

abbrev pub decreases-loop-i : goal.decreases-loop-i
decreases-loop-i l = length l.text - l.i
