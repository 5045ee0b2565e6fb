-- `lent::script_raw_part` meets its contract: it is the call of crate stream in the state that the arrays stand for, and the arrays keep what it leaves.
-- Assumes nothing.
use mathlib.Core.Bool.{false}
use Rattle.lent.proofs.Lending.{part-lent}
use Rattle.lent.proofs.script_raw_part.Goals as goal

pub returns : goal.returns
returns c =
    let a = c.args in
    let s = c.state_in in
    let p = c.script_raw_part-part in
    let k = c.keep in
    part-lent false a.held.now a.numbers.now a.text.now a.output.now s.result s.ensures p.result p.new.output p.ensures k.result k.new.held k.new.numbers k.ensures.0 k.ensures.1
