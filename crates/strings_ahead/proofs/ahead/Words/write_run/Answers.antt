-- `write_run` meets its contract: of the sixteen bytes that are copied ahead those of the run count, and the others are spilt.
-- Assumes nothing.
use mathlib.Core.Path.{refl, sym, ◌∙◌}
use native.Mathlib.Omega.{arith}
use lib.Seq.{length-take-le}
use borrow.Author.Tests.{not-true, not-false}
use Rattle.strings_ahead.proofs.Turns.{as_long_lem, run-spills}
use Rattle.strings_ahead.proofs.Reach.{reached-start, reached-run}
use Rattle.strings_ahead.proofs.ahead.Words.write_run.Goals as goal

pub returns-then-not-is_copied : goal.returns-then-not-is_copied
returns-then-not-is_copied c =
    let a = c.args in record { upper_bound = (omega arith, λ h. sym c.is_copied.ensures ∙ not-true _ c.if-not-is_copied.true-raw, reached-start a.self.now.notation a.self.now.quotes a.text.now); spills = (refl, refl) }

pub slice_bounds-put-end : goal.slice_bounds-put-end
slice_bounds-put-end c = sym (length-take-le 16 c.args.text.now c.requires.text_sixteen)

pub put-requires : goal.put-requires
put-requires c =
    let pre = c.requires in
    let a = c.args in
    let s = length-take-le 16 a.text.now pre.text_sixteen in
    omega (arith, s, pre.text_sixteen, pre.text_in_bounds, as_long_lem a.self.now.notation a.self.now.quotes a.text.now)

pub run_by_least-requires : goal.run_by_least-requires
run_by_least-requires c = (c.requires.text_sixteen, sym c.is_copied.ensures ∙ not-false _ c.if-not-is_copied.false-raw)

pub returns : goal.returns
returns c =
    let a = c.args in
    let t = a.text.now in
    let x = c.run_by_least in
    let r = reached-run a.self.now.notation a.self.now.quotes t x.result (omega (arith, x.ensures.0, c.requires.text_sixteen)) (λ i l. ((c.shared_slice_known-1.given i).fits, x.ensures.1 i l)) in record { upper_bound = (x.ensures.0, x.ensures.2, r.0); spills = rw c.put.ensures.1 (run-spills a.self.now.notation a.self.now.quotes t a.output.now x.result x.ensures.0 c.requires.text_sixteen r.1) }
