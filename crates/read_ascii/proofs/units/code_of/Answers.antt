-- `code_of` meets its contract.
-- Assumes nothing.
use Rattle.read_ascii.proofs.Exact.{number-low, number-two, number-three, number-four}
use native.Mathlib.Omega.{arith}
use Rattle.read_ascii.proofs.units.code_of.Goals as goal

pub overflow_cast-first : goal.overflow_cast-first
overflow_cast-first c = omega (arith, c.shared_slice_known-1.given 0)

pub overflow_cast-second : goal.overflow_cast-second
overflow_cast-second c = omega (arith, c.shared_slice_known-2-1.given 1)

pub overflow_cast-third : goal.overflow_cast-third
overflow_cast-third c = omega (arith, c.shared_slice_known-3-1.given 2)

pub overflow_cast-fourth : goal.overflow_cast-fourth
overflow_cast-fourth c = omega (arith, c.shared_slice_known-4-1.given 3)

pub returns-then-first-lt128 : goal.returns-then-first-lt128
returns-then-first-lt128 c = (number-low c.args.bytes.now c.if-first-lt128.true, omega (arith, c.if-first-lt128.true))

pub returns-then-first-lt224 : goal.returns-then-first-lt224
returns-then-first-lt224 c = (number-two c.args.bytes.now c.if-first-lt128.false c.if-first-lt224.true, omega arith)

pub returns-then-first-lt240 : goal.returns-then-first-lt240
returns-then-first-lt240 c = (number-three c.args.bytes.now c.if-first-lt224.false c.if-first-lt240.true, omega arith)

pub returns : goal.returns
returns c = (number-four c.args.bytes.now c.if-first-lt240.false, omega arith)
