-- `lent::script_raw_finish` meets its contract: it is the call of crate stream in the state that the arrays stand for, and the arrays keep what it leaves.
-- Assumes nothing.
use mathlib.Core.Bool.{true}
use mathlib.Core.List.{[]}
use Rattle.lent.proofs.Lending.{part-lent}
use Rattle.lent.proofs.script_raw_finish.Goals as goal

pub returns : goal.returns
returns c =
    let a = c.args in
    let s = c.state_in in
    let p = c.script_raw_finish-part in
    let k = c.keep in
    part-lent true a.held.now a.numbers.now [] a.output.now s.result s.ensures p.result p.new.output p.ensures k.result k.new.held k.new.numbers k.ensures.0 k.ensures.1
