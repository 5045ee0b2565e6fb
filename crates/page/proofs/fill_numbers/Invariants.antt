-- `fill_numbers` meets its contract: its loop makes the turns of the records that the numbers hold (Numbers).
-- Assumes nothing.
use Rattle.page.proofs.Numbers.{Going}
use Rattle.page.proofs.fill_numbers.Given as goal

abbrev pub invariant-loop-index : goal.invariant-loop-index
invariant-loop-index l = Going l.contexts l.initial.numbers l.text l.initial.output l.count l.numbers l.output l.filled l.end l.index
