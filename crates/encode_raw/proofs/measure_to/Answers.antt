-- `encode_raw::measure_to` meets its contract: what is counted so far, with the length of what the rest gives, is the length of the whole. The measure is what is left before the end.
-- Assumes nothing.
use mathlib.Core.Path.{ap}
use mathlib.Core.List.{List}
use native.Mathlib.Omega.{arith}
use borrow.Author.Rules.{rules}
use lib.ListN.{length}
use Rattle.rules.specs.Moves.{Move, result}
use Rattle.encode_raw.proofs.Cuts.{start_left, quiet-length, less-length, end-length}
use Rattle.encode_raw.proofs.measure_to.Goals as goal

pub loop-i-init : goal.loop-i-init
loop-i-init c =
    let e = ap (λ (ms : List Move). length (result ms)) (start_left c.args.text.now c.args.end) in
    (search rules, search rules, omega (arith, e))

pub overflow_add-n : goal.overflow_add-n
overflow_add-n c = let l = c.loop-i in omega (arith, l.invariant.1, c.next_cut-e.ensures.after)

pub returns-then-e-end : goal.returns-then-e-end
returns-then-e-end c =
    let a = c.args in
    let l = c.loop-i in
    let e = c.next_cut-e in
    omega (arith, l.invariant.2, quiet-length a.text.now a.end l.i e.result (search rules) e.ensures, end-length a.text.now a.end e.result (search rules))

pub overflow_add-n-in-loop-i : goal.overflow_add-n-in-loop-i
overflow_add-n-in-loop-i c = let l = c.loop-i in omega (arith, l.invariant.1, c.next_cut-e.ensures.after)

pub loop-i-preserved : goal.loop-i-preserved
loop-i-preserved c =
    let a = c.args in
    let l = c.loop-i in
    let e = c.next_cut-e in
    let more = less-length a.text.now a.end l.i e.result (search rules) e.ensures (search rules) in
    (search rules, omega (arith, l.invariant.1, e.ensures.after), omega (arith, l.invariant.2, quiet-length a.text.now a.end l.i e.result (search rules) e.ensures, more))

pub returns : goal.returns
returns c = let a = c.args in omega (arith, c.loop-i.invariant.2, end-length a.text.now a.end c.loop-i.i c.loop-i-test.false)
