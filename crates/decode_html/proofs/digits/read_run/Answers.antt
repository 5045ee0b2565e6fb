-- The number so far takes up each digit, and the run ends where none stands.
-- Assumes nothing.
use borrow.Author.Rules.{rules}
use native.Mathlib.Omega.{arith}
use Rattle.decode_html.proofs.Ceiling.{base-some, base-small, base-most}
use Rattle.decode_html.proofs.Runs.{run-start, run_more, run_none, run_end}
use Rattle.decode_html.proofs.digits.read_run.Goals as goal

pub loop-i-init : goal.loop-i-init
loop-i-init c = run-start c.args.base c.args.bytes.now

pub returns-in_default : goal.returns-in_default
returns-in_default c = run_none c.args.base c.args.bytes.now c.loop-i.invariant (search rules) c.in_default.ensures

pub overflow_mul-number : goal.overflow_mul-number
overflow_mul-number c = omega (arith, base-most c.args.base c.loop-i.number c.requires c.loop-i.invariant.low)

pub overflow_add-number : goal.overflow_add-number
overflow_add-number c = omega (arith, base-most c.args.base c.loop-i.number c.requires c.loop-i.invariant.low, base-small c.args.base c.requires, c.in-Some.ensures.1)

pub loop-i-preserved : goal.loop-i-preserved
loop-i-preserved c =
    rw c.ceiling-number.ensures
    (run_more c.args.base c.args.bytes.now c.loop-i.invariant c.in-Some.value (base-some c.args.base c.requires) (search rules) c.in-Some.ensures.0)

pub returns : goal.returns
returns c = run_end c.args.base c.args.bytes.now c.loop-i.invariant (search rules)
