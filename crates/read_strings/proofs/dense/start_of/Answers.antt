-- `start_of` meets its contract: the test is that of the definition.
-- Assumes nothing.
use mathlib.Core.Bool.{Bool, cond}
use mathlib.Core.Path.{sym, ap}
use Rattle.read_strings.proofs.dense.start_of.Goals as goal

pub returns-then-b-last : goal.returns-then-b-last
returns-then-b-last c = sym (ap (λ (x : Bool). cond x 1 0) c.if-b-last.true)

pub returns-else-b-last : goal.returns-else-b-last
returns-else-b-last c = sym (ap (λ (x : Bool). cond x 1 0) c.if-b-last.false)
